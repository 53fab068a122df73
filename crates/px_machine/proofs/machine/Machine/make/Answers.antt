use Rattle.std.proofs.Common.{rules}
use Rattle.px_machine.specs.Running.{parts_of}
use Rattle.px_machine.proofs.RunLemmas.{on_ok}
use Rattle.px_machine.proofs.StackLemmas.{make_in_code}
use Rattle.px_machine.proofs.machine.Machine.make.Goals as goal

pub returns : goal.returns
returns c =
    on_ok c.push.result
    (make_in_code (parts_of c.args.self.now) (parts_of c.push.new.self) _ _ _ c.args.count _ c.len.result _ _ c.requires.can (search rules) c.deref.ensures.value c.in_ok-number.ensures c.truncate.ensures.items)
    c.push.ensures
