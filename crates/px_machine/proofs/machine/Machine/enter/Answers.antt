use Rattle.std.proofs.Common.{rules}
use Rattle.px_machine.specs.Running.{parts_of}
use Rattle.px_machine.proofs.CallLemmas.{enter_replaced}
use Rattle.px_machine.proofs.FrameLemmas.{nearest_caller}
use Rattle.px_machine.proofs.machine.Machine.enter.Goals as goal

pub returns : goal.returns
returns c =
    enter_replaced (parts_of c.args.self.now) c.args.def c.len.result c.args.start c.args.funs _ c.deref.result.now _ _ _ c.replace.result c.requires.can (search rules) c.deref.ensures.value
    c.in_ok-extend_from_slice.ensures.items c.truncate.ensures.items (nearest_caller _ _ c.replace.result c.in_ok-push.ensures.items) c.replace.ensures.value c.replace.ensures.after
