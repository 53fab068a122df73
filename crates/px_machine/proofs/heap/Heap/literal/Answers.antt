use Rattle.std.proofs.Common.{rules, refl}
use Rattle.px_machine.proofs.HeapLemmas.{literal_grows}
use Rattle.px_machine.proofs.heap.Heap.literal.Goals as goal

pub returns : goal.returns
returns c = literal_grows _ _ c.args.word _ 1 c.requires c.in_ok-push.ensures.items refl c.in_ok-push-2.ensures.items (search rules)
