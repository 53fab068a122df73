-- A sequent that is closed as it stands: by a fact that clashes, or by an alternative with one term on both sides.
use Rattle.std.proofs.Common.{◌≡◌, ◌↔◌, ℕ, List, Option, Some, None, is_some, MatchOption, IsTrue, Bool, true, false, slice_get, sym, ◌∙◌, subst}
use Rattle.px_terms.specs.declared.clause.Equation.{Equation}
use Rattle.px_terms.specs.declared.sequent.Sequent.{Sequent}
use Rattle.px_terms.specs.Rows.{HeadsClash}
use Rattle.px_prover.specs.Plain.{IsClosedAtOnce, by_fact, by_alternative}

false_is_true : false ≡ true → ⊥
false_is_true e = cc

-- a fact clashes
pub by_clash : (s : Sequent) (found : Option ℕ) (answer : Bool) → MatchOption found ((i : ℕ) (e : Equation) → slice_get s.facts i ≡ Some e → ¬ HeadsClash e.left e.right)
    (λ (number : ℕ). (e : Equation) × (slice_get s.facts number ≡ Some e) × HeadsClash e.left e.right) → answer ≡ is_some found → answer ≡ true → IsTrue answer ↔ IsClosedAtOnce s
by_clash s None answer told is so = absurd (false_is_true (sym is ∙ so))
by_clash s (Some n) answer told is so = (λ told_so. by_fact n told.1 told.2, λ closed. so)

-- no fact clashes, and it is asked of the alternatives
pub by_equal : (s : Sequent) (clash equal : Option ℕ) (clashes answer : Bool) (alternatives : List Equation) → MatchOption clash ((i : ℕ) (e : Equation) → slice_get s.facts i ≡ Some e → ¬ HeadsClash e.left e.right)
    (λ (number : ℕ). (e : Equation) × (slice_get s.facts number ≡ Some e) × HeadsClash e.left e.right) → clashes ≡ is_some clash → clashes ≡ false → alternatives ≡ s.alternatives →
    MatchOption equal ((i : ℕ) (e : Equation) → slice_get alternatives i ≡ Some e → ¬ (e.left ≡ e.right)) (λ (number : ℕ). (e : Equation) × (slice_get alternatives number ≡ Some e) × (e.left ≡ e.right)) →
    answer ≡ is_some equal → IsTrue answer ↔ IsClosedAtOnce s
by_equal s (Some n) equal clashes answer alternatives told is apart same equals found = absurd (false_is_true (sym apart ∙ is))
by_equal s None None clashes answer alternatives told is apart same equals found = (λ so. absurd (false_is_true (sym found ∙ so)), λ closed. absurd (neither closed))
  where
    neither : IsClosedAtOnce s → ⊥
    neither (by_fact {e = e} i at clash) = told i e at clash
    neither (by_alternative {e = e} j at one) = equals j e (subst (λ (es : List Equation). slice_get es j ≡ Some e) (sym same) at) one
by_equal s None (Some n) clashes answer alternatives told is apart same equals found = (λ so. by_alternative n (subst (λ (es : List Equation). slice_get es n ≡ Some equals.0) same equals.1) equals.2, λ closed. found)
