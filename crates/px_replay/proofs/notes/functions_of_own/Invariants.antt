use Rattle.std.proofs.Common.{◌≡◌, ℕ, [], map}
use Rattle.px_terms.specs.Head.TheVariants.{FnVar}
use Rattle.px_terms.specs.Types.{numbers_from}
use Rattle.px_replay.proofs.notes.functions_of_own.Given as goal

abbrev pub invariant-loop-number : goal.invariant-loop-number
invariant-loop-number l = l.funs ≡ map (λ (i : ℕ). record { head = FnVar i; types = [] }) (numbers_from 0 l.number)
