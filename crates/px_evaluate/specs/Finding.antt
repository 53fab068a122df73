-- What the functions find.
use Rattle.std.specs.Prelude.{◌≡◌, ℕ, ◌+◌, ◌^◌, ◌<◌, List, [], ◌∷◌, reverse, Option, Some, IfSome}
use Rattle.px_terms.specs.declared.types.Fun.{Fun}
use Rattle.px_terms.specs.declared.term.Term.{Term, out-Term}
use Rattle.px_terms.specs.declared.term.Term.TheOpen.{Term-F}
use Rattle.px_terms.specs.declared.term.Value.{Value, out-Value}
use Rattle.px_terms.specs.declared.term.Value.TheVariants as value
use Rattle.px_terms.specs.declared.term.Value.TheOpen.{Value-F}
use Rattle.px_terms.specs.declared.program.Program.{Program}
use Rattle.px_terms.specs.Meaning.{FunMeans, FunsMean}
use Rattle.px_evaluate.specs.declared.values.Evaluated.{Evaluated}
use Rattle.px_evaluate.specs.declared.values.AllEvaluated.{AllEvaluated}
use Rattle.px_evaluate.specs.declared.scope.Scope.{Scope}
use Rattle.px_evaluate.specs.declared.scope.Callee.{Callee}
use Rattle.px_evaluate.specs.Nesting.{MeanAllWithin, GivesWithin}
use Rattle.px_evaluate.specs.Evaluating.{IsFound}

-- What is found is so, and what is so is found.
pub record Finds {X : Type 0} (found : Option X) (Is : X → Type 0) : Type 0 where
  pub right : IfSome found Is
  pub only : (x : X) → Is x → found ≡ Some x

-- in this scope the layer of a term has the value with its count
abbrev pub IsFoundIn : Scope → ℕ → Term-F Term → Evaluated → Type 0
IsFoundIn s n y e = IsFound n s.program.now s.types.now s.funs.now s.values.now (reverse s.inner.now) y e

-- in this scope the term has the value with its count
abbrev pub IsValueIn : Scope → ℕ → Term → Evaluated → Type 0
IsValueIn s n t e = IsFoundIn s n (out-Term t) e

-- the terms have these values with their count, nest at most n deep, and the count is at most 2^64 - 1
abbrev pub AreFoundIn : Scope → ℕ → List Term → AllEvaluated → Type 0
AreFoundIn s n ts e = MeanAllWithin n s.program.now s.types.now s.funs.now s.values.now (reverse s.inner.now) ts e.values e.calls × (e.calls < 2 ^ 64)

-- the function gives the value with its count, the terms of its body nest at most n deep, and the count is at most 2^64 - 1
abbrev pub IsGiven : ℕ → Program → Callee → List Value → Evaluated → Type 0
IsGiven n P f inputs e = GivesWithin n P f.fun f.funs inputs e.value e.calls × (e.calls < 2 ^ 64)

-- the function and its functions are what these stand for in this scope
abbrev pub IsCallee : Scope → Fun → List Fun → Callee → Type 0
IsCallee s f fs callee = FunMeans s.types.now s.funs.now f callee.fun × FunsMean s.types.now s.funs.now fs callee.funs

-- a value that is there, without a call
abbrev pub IsAtHand : Option Value → Evaluated → Type 0
IsAtHand o e = (o ≡ Some e.value) × (e.calls ≡ 0)

-- the same value with more calls, which are at most 2^64 - 1
abbrev pub Adds : Evaluated → ℕ → Evaluated → Type 0
Adds found add e = (e.value ≡ found.value) × (e.calls ≡ add + found.calls) × (e.calls < 2 ^ 64)

-- the constructor on the values of its fields
abbrev pub on_fields : ℕ → ℕ → AllEvaluated → Evaluated
on_fields d k fields = record { value = value.Con d k fields.values; calls = fields.calls }

-- the values are these two words
abbrev pub AreWords : List Value → ℕ × ℕ → Type 0
AreWords [] words = ⊥
AreWords (a ∷ []) words = ⊥
AreWords (a ∷ b ∷ []) words = (out-Value a ≡ Value-F.Lit words.0) × (out-Value b ≡ Value-F.Lit words.1)
AreWords (a ∷ b ∷ c ∷ others) words = ⊥
