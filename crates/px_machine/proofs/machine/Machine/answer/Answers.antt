use Rattle.std.proofs.Common.{rules}
use Rattle.px_machine.specs.Running.{parts_of}
use Rattle.px_machine.proofs.RunLemmas.{on_ok}
use Rattle.px_machine.proofs.AnswerLemmas.{answer_in_code}
use Rattle.px_machine.proofs.machine.Machine.answer.Goals as goal

pub returns : goal.returns
returns c = on_ok c.push.result (answer_in_code (parts_of c.args.self.now) (parts_of c.push.new.self) c.args.start c.args.is _ c.from.result _ _ c.requires.run c.in_ok-number.ensures (search rules) c.truncate.ensures.items) c.push.ensures
