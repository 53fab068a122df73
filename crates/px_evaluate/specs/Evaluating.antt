-- What `evaluate` finds.
use Rattle.std.specs.Prelude.{ℕ, ◌^◌, ◌<◌, List, []}
use Rattle.px_terms.specs.declared.types.Ty.{Ty}
use Rattle.px_terms.specs.declared.types.Fun.{Fun}
use Rattle.px_terms.specs.declared.term.Term.{Term, out-Term}
use Rattle.px_terms.specs.declared.term.Term.TheOpen.{Term-F}
use Rattle.px_terms.specs.declared.term.Value.{Value}
use Rattle.px_terms.specs.declared.program.Program.{Program}
use Rattle.px_evaluate.specs.declared.values.Evaluated.{Evaluated}
use Rattle.px_evaluate.specs.Nesting.{MeansWithin}

-- under the types, the functions and the values of free and pattern variables, the layer of a term has the value with its count, its terms nest at most n
-- deep, and the count is at most 2^64 - 1
abbrev pub IsFound : ℕ → Program → List Ty → List Fun → List Value → List Value → Term-F Term → Evaluated → Type 0
IsFound n P types funs rho inner y e = MeansWithin n P types funs rho inner y e.value e.calls × (e.calls < 2 ^ 64)

-- at these values of its free variables the term means the value with its count, its terms nest at most n deep, and the count is at most 2^64 - 1
abbrev pub IsEvaluated : ℕ → Program → List Value → Term → Evaluated → Type 0
IsEvaluated n P rho t e = IsFound n P [] [] rho [] (out-Term t) e
