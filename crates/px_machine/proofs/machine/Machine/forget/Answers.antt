use Rattle.std.proofs.Common.{rules}
use Rattle.px_machine.specs.Running.{parts_of}
use Rattle.px_machine.proofs.StackLemmas.{forget_in_code}
use Rattle.px_machine.proofs.machine.Machine.forget.Goals as goal

pub returns : goal.returns
returns c = forget_in_code (parts_of c.args.self.now) c.args.count c.len.result c.saturating_sub-left.result c.max.result _ c.requires.can (search rules) c.saturating_sub-left.ensures c.max.ensures c.truncate.ensures.items
