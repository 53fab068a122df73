use Rattle.std.proofs.Common.{◌≡◌, take}
use Rattle.px_terms.proofs.copying.copy_fn_types.Given as goal

abbrev pub invariant-loop-signature : goal.invariant-loop-signature
invariant-loop-signature l = l.copied ≡ take l.signature-index l.signatures
