use Rattle.std.proofs.Common.{rules}
use Rattle.px_machine.proofs.HeapLemmas.{make_grows}
use Rattle.px_machine.proofs.heap.Heap.make.Goals as goal

pub returns : goal.returns
returns c = make_grows _ _ _ _ _ c.len-first.result _ c.size_over-size.result _ c.requires.heap c.requires.within (search rules) (search rules) c.in_ok-push.ensures.items c.in_ok-extend_from_slice.ensures.items c.in_ok-push-2.ensures.items (search rules)
