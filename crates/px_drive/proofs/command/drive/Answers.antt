use Rattle.px_drive.proofs.Completeness.{answer_done}
use Rattle.px_drive.proofs.Truths.{headline, first_broken, read_fault, write_fault}
use Rattle.px_drive.proofs.RunTruths.{prints_joins, prints_agreeing}
use Rattle.px_drive.proofs.command.drive.Goals as goal

pub returns-clause-headline : goal.returns-clause-headline
returns-clause-headline g c = headline _ _ _ _ _ c.answer.ensures.answer c.accepted_is_true.ensures

pub returns-clause-prints : goal.returns-clause-prints
returns-clause-prints g c = prints_joins c.merges_join.ensures _ _ _ _ _ c.answer.ensures.answer

pub returns-clause-agree : goal.returns-clause-agree
returns-clause-agree g c = prints_agreeing c.merges_join.ensures c.lines_agree.ensures _ _ _ _ _ c.answer.ensures.answer

pub returns-clause-first_broken : goal.returns-clause-first_broken
returns-clause-first_broken g c = first_broken _ _ _ _ _ c.answer.ensures.answer c.scope_fault_is_first.ensures

pub returns-clause-complete : goal.returns-clause-complete
returns-clause-complete g c = answer_done (record {
  one_source = c.one_source.ensures;
  never_both = c.never_both.ensures;
  never_rejected = c.never_rejected.ensures;
  one_call = c.one_call.ensures;
  never_call_and_none = c.never_call_and_none.ensures;
  one_value_of_call = c.one_value_of_call.ensures;
  schedules = record { checked = c.source_is_checked.ensures; one = c.one_schedule.ensures; never = c.never_both-2.ensures };
}) _ _ _ _ _ c.answer.ensures.answer

pub returns-clause-read_fault : goal.returns-clause-read_fault
returns-clause-read_fault g c = read_fault _ _ _ _ _ c.answer.ensures.answer

pub returns-clause-write_fault : goal.returns-clause-write_fault
returns-clause-write_fault g c = write_fault _ _ _ _ _ c.answer.ensures.answer
