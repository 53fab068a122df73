use Rattle.px_machine.specs.Running.{parts_of}
use Rattle.px_machine.proofs.RunLemmas.{on_ok, literal_does}
use Rattle.px_machine.proofs.machine.Machine.push_literal.Goals as goal

pub returns : goal.returns
returns c = on_ok c.push.result (literal_does (parts_of c.args.self.now) (parts_of c.push.new.self) _ c.args.word _ c.requires.can c.in_ok-number.ensures) c.push.ensures
