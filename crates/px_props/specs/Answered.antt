-- What is answered for a property of a function.
use Rattle.std.specs.Prelude.{◌≡◌, ℕ, List, Result, MatchResult}
use Rattle.px_terms.specs.Prop.{Prop}
use Rattle.px_terms.specs.declared.types.FnType.{FnType}
use Rattle.px_terms.specs.declared.clause.Clause.{Clause}
use Rattle.px_terms.specs.Clauses.{Subject, HasResult, clause_for}
use Rattle.px_props.specs.declared.clauses.ClauseEnd.{ClauseEnd}
use Rattle.px_props.specs.declared.clauses.ClauseEnd.TheVariants.{Shape}

-- its clause over these variables, or that its result is not as the property asks, or want of memory
abbrev pub IsAnswered : Subject → ℕ → List FnType → Prop → Result Clause ClauseEnd → Type 0
IsAnswered s tparams funs p answer = MatchResult answer (λ (clause : Clause). HasResult s p × (clause ≡ clause_for s p tparams funs)) (λ (end : ClauseEnd). end ≡ Shape → ¬ HasResult s p)
