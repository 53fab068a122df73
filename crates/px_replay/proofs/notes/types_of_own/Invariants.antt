use Rattle.std.proofs.Common.{◌≡◌, ℕ, map}
use Rattle.px_terms.specs.declared.types.Ty.TheVariants as type
use Rattle.px_terms.specs.Types.{numbers_from}
use Rattle.px_replay.proofs.notes.types_of_own.Given as goal

abbrev pub invariant-loop-number : goal.invariant-loop-number
invariant-loop-number l = l.types ≡ map (λ (i : ℕ). type.Var i) (numbers_from 0 l.number)
