-- What the arguments of a call are to the parameters, one by one.
use Rattle.std.proofs.Common.{◌≡◌, ◌<◌, arith, length, ℕ, Bool, IsTrue, List, map, Option, Some, None, slice_get, refl, sym, ap, ◌∙◌, inl, inr, ⊎_elim, ◌⊎◌, ◌↔◌}
use Rattle.std.proofs.lemmas.Option.{slice_get-map, slice_get_within, same_Some, none-some}
use Rattle.std.proofs.lemmas.List.{length-map}
use Rattle.std.specs.Option.{option_map}
use Rattle.px_terms.specs.declared.term.Term.{Term}
use Rattle.px_terms.specs.declared.program.Program.{Program}
use Rattle.px_terms.specs.Descent.{Standing, itself, below, Seen, walk, Keeps, Lowers}
use Rattle.px_descent.specs.Kept.{stands_in}

module _ (P : Program) (n : ℕ) (terms : List Term) (bound : List Standing) where
  -- what a term is to the parameters, where there is one
  shown : (t : Option Term) → option_map (λ (part : Seen). (part bound).stands) (option_map (walk P n) t) ≡ option_map
      (λ (t : Term). (walk P n t bound).stands) t
  shown None = refl
  shown (Some t) = refl

  -- the term at a position says what the call passes there
  pub stands_at : (p : ℕ) (t : Term) → Some t ≡ slice_get terms p → slice_get (stands_in P n terms bound) p ≡ Some (walk P n t bound).stands
  stands_at p t is =
      slice_get-map (λ (part : Seen). (part bound).stands) (map (walk P n) terms) p
      ∙ ap (option_map (λ (part : Seen). (part bound).stands)) (slice_get-map (walk P n) terms p)
      ∙ shown (slice_get terms p)
      ∙ ap (option_map (λ (t : Term). (walk P n t bound).stands)) (sym is)

  -- where there is no term, the call passes nothing
  pub none_at : (p : ℕ) → None ≡ slice_get terms p → slice_get (stands_in P n terms bound) p ≡ None
  none_at p is =
      slice_get-map (λ (part : Seen). (part bound).stands) (map (walk P n) terms) p
      ∙ ap (option_map (λ (part : Seen). (part bound).stands)) (slice_get-map (walk P n) terms p)
      ∙ shown (slice_get terms p)
      ∙ ap (option_map (λ (t : Term). (walk P n t bound).stands)) (sym is)

  -- a test of what the term at a position is tells whether the call keeps the position
  pub keeps_at : (p : ℕ) (t : Term) (b : Bool) (s : Standing) → Some t ≡ slice_get terms p → s ≡ (walk P n t bound).stands →
      IsTrue b ↔ ((s ≡ itself p) ⊎ (s ≡ below p)) → IsTrue b ↔ Keeps (stands_in P n terms bound) p
  keeps_at p t b s is said test =
      let there : slice_get (stands_in P n terms bound) p ≡ Some s = stands_at p t is ∙ ap Some (sym said) in (
        λ yes. ⊎_elim (λ e. inl (there ∙ ap Some e)) (λ e. inr (there ∙ ap Some e)) (test.0 yes),
        λ keeps. test.1 (⊎_elim (λ e. inl (same_Some _ _ (sym there ∙ e))) (λ e. inr (same_Some _ _ (sym there ∙ e))) keeps),
      )

  -- a call that passes nothing at a position does not keep it
  pub keeps_none : (p : ℕ) → None ≡ slice_get terms p → ¬ Keeps (stands_in P n terms bound) p
  keeps_none p is keeps = ⊎_elim (λ e. none-some _ (sym (none_at p is) ∙ e)) (λ e. none-some _ (sym (none_at p is) ∙ e)) keeps

  -- where a call lowers a position, the term there is below its parameter
  pub lowers_back : (p : ℕ) (t : Term) → Some t ≡ slice_get terms p → Lowers (stands_in P n terms bound) p → (walk P n t bound).stands ≡ below p
  lowers_back p t is lowers = same_Some _ _ (sym (stands_at p t is) ∙ lowers)

  -- a position that a call lowers is one of its arguments
  pub lowers_within : (p : ℕ) → Lowers (stands_in P n terms bound) p → p < length terms
  lowers_within p lowers =
      let within : p < length (stands_in P n terms bound) = slice_get_within (stands_in P n terms bound) p (below p) lowers in
      let same : length (stands_in P n terms bound) ≡ length terms = simp length-map in
      omega arith
