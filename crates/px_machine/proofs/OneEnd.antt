-- Steps are determined, so a run has one end.
use Rattle.std.proofs.Common.{◌≡◌, ℕ, Some, None, sym, ◌∙◌, subst, refl}
use Rattle.px_terms.specs.declared.term.Value.{Value}
use Rattle.px_machine.specs.declared.code.Code.{Code}
use Rattle.px_machine.specs.Machine.{State, runs, ended, next, Leads, here, step}

-- the two states are one end
abbrev pub SameEnd : State → Value → ℕ → Type 0
SameEnd (ended v a) w b = (v ≡ w) × (a ≡ b)
SameEnd (runs F Fs c) w b = ⊥

-- no step leads on from an end
stuck : (code : Code) (s : State) (w : Value) (b : ℕ) → s ≡ ended w b → next code s ≡ None
stuck code (ended v a) w b e = refl
stuck code (runs F Fs c) w b e = cc

-- one more step from a state that leads to an end still leads there
pub stepped : (code : Code) (s t u : State) (w : Value) (b : ℕ) → u ≡ ended w b → Leads code s u → next code s ≡ Some t → Leads code t u
stepped code s t u w b is here e = let no = stuck code s w b is in absurd (cc)
stepped code s t u w b is (step {t = t'} h rest) e = let same : t' ≡ t = cc in subst (λ x. Leads code x u) same rest

-- an end leads nowhere else
from_end : (code : Code) (s u : State) (v w : Value) (a b : ℕ) → s ≡ ended v a → u ≡ ended w b → Leads code s u → (v ≡ w) × (a ≡ b)
from_end code s u v w a b is iu here = let e : ended v a ≡ ended w b = sym is ∙ iu in (cc, cc)
from_end code s u v w a b is iu (step h rest) = let no = stuck code s v a is in absurd (cc)

-- two ends of one run are one
pub one_end : (code : Code) (s t u : State) (v w : Value) (a b : ℕ) → t ≡ ended v a → u ≡ ended w b → Leads code s t → Leads code s u → (v ≡ w) × (a ≡ b)
one_end code s t u v w a b it iu here l = from_end code s u v w a b it iu l
one_end code s t u v w a b it iu (step {t = m} h rest) l = one_end code m t u v w a b it iu rest (stepped code s m u w b iu l h)
