use Rattle.std.proofs.Common.{rules}
use Rattle.px_machine.specs.Running.{parts_of}
use Rattle.px_machine.proofs.RunLemmas.{on_ok, local_does}
use Rattle.px_machine.proofs.machine.Machine.push_local.Goals as goal

pub returns : goal.returns
returns c = on_ok c.push.result (local_does (parts_of c.args.self.now) (parts_of c.push.new.self) c.args.local c.index-number.result.now c.requires.can (search rules)) c.push.ensures
