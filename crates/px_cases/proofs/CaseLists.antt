-- Cases one by one: of a variable or of a term, for each constructor in order.
use Rattle.std.proofs.Common.{◌≡◌, refl, ℕ, zero, suc, ◌+◌, ◌≤◌, arith, append-nil, List, [], ◌∷◌, ◌++◌, length, drop, slice_get, Some, All, sym, subst, ap, ◌∙◌, add-one, append_assoc}
use Rattle.std.proofs.lemmas.List.Elements.{All-head}
use Rattle.px_terms.specs.declared.types.Ty.{Ty}
use Rattle.px_terms.specs.declared.program.ConDef.{ConDef}
use Rattle.px_terms.specs.declared.sequent.Sequent.{Sequent}
use Rattle.px_terms.specs.Sequents.{IsWithinLimits}
use Rattle.px_cases.proofs.Lists.{all_behind, drop_found}

no_more : {X : Type 0} (xs : List X) (n : ℕ) → length xs ≤ n → drop n xs ≡ []
no_more [] zero past = refl
no_more [] (suc n) past = refl
no_more (x ∷ xs) zero past = absurd (omega arith)
no_more (x ∷ xs) (suc n) past =
    let rest : length xs ≤ n = omega arith in
    no_more xs n rest

module _ (of : ℕ → ConDef → Sequent) (from : ℕ → List ConDef → List Sequent) (step : (k : ℕ) (c : ConDef) (cs : List ConDef) → from k (c ∷ cs) ≡ of k c ∷ from (k + 1) cs) where
  begins : (place : ℕ) (cons : List ConDef) (c : ConDef) → slice_get cons place ≡ Some c → from place (drop place cons) ≡ of place c ∷ from (place + 1) (drop (place + 1) cons)
  begins place cons c found =
      let next : drop (suc place) cons ≡ drop (place + 1) cons = ap (λ (n : ℕ). drop n cons) (sym (add-one place)) in
      ap (from place) (drop_found cons place c found ∙ ap (λ (cs : List ConDef). c ∷ cs) next) ∙ step place c (drop (place + 1) cons)

  -- one more child
  pub one_more : (children : List Sequent) (place : ℕ) (cons : List ConDef) (c : ConDef) (child : Sequent) (all : List Sequent) → slice_get cons place ≡ Some c → child ≡ of place c → children ++ from place (drop place cons) ≡ all → (children ++ child ∷ []) ++ from (place + 1) (drop (place + 1) cons) ≡ all
  one_more children place cons c child all found is so_far =
      append_assoc children (child ∷ []) (from (place + 1) (drop (place + 1) cons))
      ∙ (ap (λ (x : Sequent). children ++ x ∷ from (place + 1) (drop (place + 1) cons)) is
      ∙ (ap (λ (ss : List Sequent). children ++ ss) (sym (begins place cons c found)) ∙ so_far))

  -- the child that is due is within the limits where all are
  pub is_due : (children : List Sequent) (place : ℕ) (cons : List ConDef) (c : ConDef) (all : List Sequent) → slice_get cons place ≡ Some c → children ++ from place (drop place cons) ≡ all → All IsWithinLimits all → IsWithinLimits (of place c)
  is_due children place cons c all found so_far within =
      let rest : All IsWithinLimits (from place (drop place cons)) = all_behind IsWithinLimits children (from place (drop place cons)) (subst (All IsWithinLimits) (sym so_far) within) in
      All-head IsWithinLimits (of place c) (from (place + 1) (drop (place + 1) cons)) (subst (All IsWithinLimits) (begins place cons c found) rest)

  -- the last child
  pub last_one : ((k : ℕ) → from k [] ≡ []) → (children : List Sequent) (place : ℕ) (cons : List ConDef) (c : ConDef) (child : Sequent) (all : List Sequent) → slice_get cons place ≡ Some c → child ≡ of place c → children ++ from place (drop place cons) ≡ all → length cons ≤ place + 1 → children ++ child ∷ [] ≡ all
  last_one none children place cons c child all found is so_far past =
      let over : from (place + 1) (drop (place + 1) cons) ≡ [] = ap (from (place + 1)) (no_more cons (place + 1) past) ∙ none (place + 1) in
      sym (append-nil (children ++ child ∷ [])) ∙ (ap (λ (ss : List Sequent). (children ++ child ∷ []) ++ ss) (sym over) ∙ one_more children place cons c child all found is so_far)

-- what is made of a constructor that was found, by its datatype, types and number
pub made_at : {X : Type 0} (of : ℕ → List Ty → ℕ → ConDef → X) (d e : ℕ) (args types : List Ty) (k l : ℕ) (c : ConDef) (x : X) → e ≡ d → types ≡ args → l ≡ k → x ≡ of e types l c → x ≡ of d args k c
made_at of d e args types k l c x d_is args_are k_is is = is ∙ (ap (λ (n : ℕ). of n types l c) d_is ∙ (ap (λ (ts : List Ty). of d ts l c) args_are ∙ ap (λ (n : ℕ). of d args n c) k_is))
