use Rattle.px_drive.proofs.RunChances.{first_is_spent_law}
use Rattle.px_drive.proofs.run_laws.first_is_spent.Goals as goal

pub returns : goal.returns
returns c = first_is_spent_law (record {
  one_source = c.one_source.ensures;
  never_both = c.never_both.ensures;
  never_rejected = c.never_rejected.ensures;
  schedules = record { checked = c.source_is_checked.ensures; one = c.one_schedule.ensures; never = c.never_both-2.ensures };
}) c.one_need.ensures
