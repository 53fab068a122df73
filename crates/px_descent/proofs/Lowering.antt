-- Whether a call lowers a kept position, argument by argument.
use Rattle.std.proofs.Common.{◌≡◌, ◌≢◌, ℕ, ◌+◌, ◌<◌, ◌≤◌, Bool, true, false, IsTrue, List, length, Some, slice_get, eqb, eqb-true, refl, sym, ap, ◌∙◌, subst, ◌↔◌, arith, below_more}
use Rattle.std.proofs.lemmas.Bool.{false≢true}
use Rattle.px_terms.specs.declared.term.Term.{Term}
use Rattle.px_terms.specs.declared.program.Def as definition
use Rattle.px_terms.specs.declared.program.Program.{Program}
use Rattle.px_terms.specs.Descent.{Standing, below, walk, IsKept, Lowers}
use Rattle.px_descent.specs.declared.standing.Standing as read
use Rattle.px_descent.specs.declared.standing.Standing.TheVariants.{Itself, Below, Elsewhere}
use Rattle.px_descent.specs.Around.{standing_of}
use Rattle.px_descent.specs.Kept.{stands_in}
use Rattle.px_descent.specs.Largest.{LowersKept}
use Rattle.px_descent.proofs.Standings.{stands_at, lowers_back, lowers_within}

-- two positions that a variable is below are the same
below_same : (p q : ℕ) → below p ≡ below q → p ≡ q
below_same p q e = cc

module _ (P : Program) (n : ℕ) (D : definition.Def) where
  -- an argument below the parameter of its own position
  pub own_position : (own position : ℕ) (stands : Standing) (kept : Bool) → own ≡ position → below own ≡ stands → IsTrue kept ↔ IsKept P n D own →
      IsTrue kept ↔ (IsKept P n D position × (stands ≡ below position))
  own_position own position stands kept same is tells = (
    (λ it. (subst (IsKept P n D) same (tells.0 it), sym is ∙ ap below same)),
    (λ both. tells.1 (subst (IsKept P n D) (sym same) both.0)),
  )

  -- an argument below the parameter of another position
  pub other_position : (own position : ℕ) (stands : Standing) → own ≢ position → below own ≡ stands →
      IsTrue (eqb own position) ↔ (IsKept P n D position × (stands ≡ below position))
  other_position own position stands apart is = (
    (λ same. absurd (apart (eqb-true own position same))),
    (λ both. absurd (apart (below_same own position (is ∙ both.1)))),
  )

  -- an argument below no parameter
  pub no_position : (r : read.Standing) (position : ℕ) (stands : Standing) → ((own : ℕ) → r ≢ Below own) → standing_of r ≡ stands →
      IsTrue false ↔ (IsKept P n D position × (stands ≡ below position))
  no_position (Itself p) position stands none is = ((λ it. absurd (false≢true it)), (λ both. let e = is ∙ both.1 in cc))
  no_position (Below own) position stands none is = absurd (none own refl)
  no_position Elsewhere position stands none is = ((λ it. absurd (false≢true it)), (λ both. let e = is ∙ both.1 in cc))

  module _ (terms : List Term) (bound : List Standing) where
    -- the call lowers no kept position below this one
    abbrev pub NoneBelow : ℕ → Type 0
    NoneBelow end = (k : ℕ) → k < end → IsKept P n D k → ¬ Lowers (stands_in P n terms bound) k

    -- the argument here lowers a kept position
    pub lowers_here : (i : ℕ) (t : Term) (test : Bool) → slice_get terms i ≡ Some t →
        IsTrue test ↔ (IsKept P n D i × ((walk P n t bound).stands ≡ below i)) → test ≡ true → LowersKept P n D (stands_in P n terms bound)
    lowers_here i t test is tells found = record {
      position = i;
      kept = (tells.0 found).0;
      lowered = stands_at P n terms bound i t (sym is) ∙ ap Some (tells.0 found).1;
    }

    -- it does not, and so none up to it
    pub none_more : (i : ℕ) (t : Term) (test : Bool) → slice_get terms i ≡ Some t →
        IsTrue test ↔ (IsKept P n D i × ((walk P n t bound).stands ≡ below i)) → test ≡ false → NoneBelow i → NoneBelow (i + 1)
    none_more i t test is tells none so_far = below_more (λ k. IsKept P n D k → ¬ Lowers (stands_in P n terms bound) k) i so_far here
      where
        here : IsKept P n D i → ¬ Lowers (stands_in P n terms bound) i
        here kept lowers = false≢true (sym none ∙ tells.1 (kept, lowers_back P n terms bound i t (sym is) lowers))

    -- past the last argument, so none at all
    pub none_at_all : (end : ℕ) → length terms ≤ end → NoneBelow end → ¬ LowersKept P n D (stands_in P n terms bound)
    none_at_all end past none found =
        let within : found.position < length terms = lowers_within P n terms bound found.position found.lowered in
        none found.position (omega arith) found.kept found.lowered
