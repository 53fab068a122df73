-- Lemmas on notes: what the hypothesis puts in, and what is left where a note applies.
use Rattle.std.proofs.Common.{◌≡◌, ◌↔◌, ◌<◌, ◌≤◌, ◌^◌, ℕ, ◌+◌, List, [], ◌∷◌, ◌++◌, length, Option, Some, None, Result, Ok, Err, IfOk, IsOkUnless, IsTrue, Bool, false, All, refl, sym, ap, subst, ◌∙◌, zero-add, arith}
use Rattle.std.proofs.lemmas.Bool.{false≢true}
use Rattle.px_terms.specs.declared.types.Ty.{Ty}
use Rattle.px_terms.specs.declared.types.Ty.TheVariants as type
use Rattle.px_terms.specs.declared.types.Fun.{Fun}
use Rattle.px_terms.specs.Head.TheVariants.{FnVar}
use Rattle.px_terms.specs.Types.{own_types, own_functions}
use Rattle.px_terms.specs.declared.clause.Clause.{Clause}
use Rattle.px_terms.specs.declared.clause.Sigma.{Sigma}
use Rattle.px_terms.specs.declared.program.Program.{Program}
use Rattle.px_terms.specs.declared.sequent.Sequent.{Sequent}
use Rattle.px_terms.specs.declared.row.Ref.{Ref}
use Rattle.px_terms.specs.declared.row.Ref.TheVariants as reference
use Rattle.px_terms.specs.declared.row.Row.TheVariants as row
use Rattle.px_terms.specs.Obligations.{IsObligation}
use Rattle.px_terms.specs.Sequents.{IsWithinLimits}
use Rattle.px_terms.specs.Guards.{Guard}
use Rattle.px_terms.specs.Noting.{IsOpen, FitsClause, own_sigma}
use Rattle.px_terms.specs.Rows.{Opens, note, hypothesis, SigmaMayStand, noted}
use Rattle.px_descent.specs.Checked.{IsChecked}
use Rattle.px_equations.specs.Open.{TellsOpen, IsThatOpen, clause_in}
use Rattle.px_equations.specs.declared.open.OpenClause.{OpenClause}
use Rattle.px_replay.specs.declared.ends.RowEnd.{RowEnd}
use Rattle.px_replay.specs.declared.ends.RowEnd.TheVariants as row_ends
use Rattle.px_replay.specs.Replaying.{Leaves}
use Rattle.px_replay.proofs.Numbers.{numbered_from-last}
use Rattle.px_replay.proofs.Openings.{Notes, NotesOwn, needs, notes}

-- one more type variable
pub own_types_more : (n : ℕ) (old new : List Ty) → old ≡ own_types n → new ≡ old ++ type.Var n ∷ [] → new ≡ own_types (n + 1)
own_types_more n old new so_far pushed =
    pushed ∙ (ap (λ (made : List Ty). made ++ type.Var n ∷ []) so_far ∙
    (ap (λ (k : ℕ). own_types n ++ type.Var k ∷ []) (sym (zero-add n)) ∙ numbered_from-last (λ (i : ℕ). type.Var i) 0 n))

-- one more function variable
pub own_functions_more : (n : ℕ) (types : List Ty) (old new : List Fun) → types ≡ [] → old ≡ own_functions n →
    new ≡ old ++ record { head = FnVar n; types = types } ∷ [] → new ≡ own_functions (n + 1)
own_functions_more n types old new none so_far pushed =
    pushed ∙ (ap (λ (made : List Fun). made ++ record { head = FnVar n; types = types } ∷ []) so_far ∙
    (ap (λ (ts : List Ty). own_functions n ++ record { head = FnVar n; types = ts } ∷ []) none ∙
    (ap (λ (k : ℕ). own_functions n ++ record { head = FnVar k; types = [] } ∷ []) (sym (zero-add n)) ∙
    numbered_from-last (λ (i : ℕ). record { head = FnVar i; types = [] }) 0 n)))

not_past : (number count : ℕ) → number < count → count ≤ number → ⊥
not_past number count below past = omega (arith, below, past)

-- there is a clause of each number below the count
pub no_clause : (number count : ℕ) (r : Result (List Sequent) RowEnd) → number < count → count ≤ number → IsOkUnless r row_ends.NoMemory
no_clause number count r below past = absurd (not_past number count below past)

-- a test that is false says that what it tests is not so
pub untrue : (b : Bool) (A : Type 0) → (IsTrue b ↔ A) → b ≡ false → A → ⊥
untrue b A tests is a = false≢true (sym is ∙ tests.1 a)

-- What is made is a note's children, each within the limits.
abbrev pub AreNoted : Sequent → Clause → Sigma → List Sequent → Type 0
AreNoted s clause sigma children = (children ≡ noted s clause sigma) × All IsWithinLimits children

module _ (P : Program) (n : ℕ) (s : Sequent) where
  module _ (about : Ref) (sigma : Sigma) (other : about ≡ reference.Hypothesis → ⊥) where
    -- nothing is open
    pub note_none : (o : Option OpenClause) (children : List Sequent) → ((found : OpenClause) → o ≡ Some found → ⊥) → TellsOpen P n about o →
        Opens P n s (row.Note about sigma) children → ⊥
    note_none None children not_some tells opens =
        let to : Notes P n s about sigma = notes P n s about sigma children other opens in
        tells to.own to.clause to.obligation to.is_open
    note_none (Some found) children not_some tells opens = not_some found refl

    module _ (o : Option OpenClause) (found : OpenClause) (clause : Clause) (some : o ≡ Some found) (is : clause ≡ clause_in found) where
      -- the children of a note
      note_leaves : (own : Clause) (children : List Sequent) → IsObligation P n own → TellsOpen P n about o → SigmaMayStand sigma →
          FitsClause P n s.context clause sigma → AreNoted s clause sigma children → Leaves P n s (row.Note about sigma) children
      note_leaves own children obligation tells stands fits made =
          let told : TellsOpen P n about (Some found) = subst (TellsOpen P n about) some tells in
          record {
            opens = note other obligation (subst (IsOpen P n own about) (sym is) (told own obligation)) stands fits made.0 made.1;
            small = made.1;
          }

      -- what is answered leaves them
      pub note_answers : (own : Clause) (r : Result (List Sequent) RowEnd) → IsObligation P n own → TellsOpen P n about o → SigmaMayStand sigma →
          FitsClause P n s.context clause sigma → IfOk r (AreNoted s clause sigma) → IfOk r (Leaves P n s (row.Note about sigma))
      note_answers own (Ok children) obligation tells stands fits made = note_leaves own children obligation tells stands fits made
      note_answers own (Err end) obligation tells stands fits made = tt

      module _ (children : List Sequent) (only : (own that : Clause) → IsObligation P n own → IsOpen P n own about that → IsThatOpen that o)
          (opens : Opens P n s (row.Note about sigma) children) where
        same_clause : (to : Notes P n s about sigma) → to.clause ≡ clause
        same_clause to =
            let one : IsThatOpen to.clause (Some found) = subst (IsThatOpen to.clause) some (only to.own to.clause to.obligation to.is_open) in
            sym one ∙ sym is

        -- what is put in fits the clause that is found, where the note applies
        pub note_fits : FitsClause P n s.context clause sigma
        note_fits =
            let to : Notes P n s about sigma = notes P n s about sigma children other opens in
            subst (λ (c : Clause). FitsClause P n s.context c sigma) (same_clause to) to.fits

        -- and the children are within the limits
        pub note_small : All IsWithinLimits (noted s clause sigma)
        note_small =
            let to : Notes P n s about sigma = notes P n s about sigma children other opens in
            subst (λ (c : Clause). All IsWithinLimits (noted s c sigma)) (same_clause to) to.small

  module _ (sigma whole : Sigma) (own : Clause) (is : whole ≡ own_sigma own sigma.terms) where
    hypothesis_leaves : (children : List Sequent) → sigma.types ≡ [] → sigma.funs ≡ [] → IsObligation P n own → SigmaMayStand sigma →
        FitsClause P n s.context own whole → Guard s.frame sigma.terms → AreNoted s own whole children →
        Leaves P n s (row.Note reference.Hypothesis sigma) children
    hypothesis_leaves children types funs obligation stands fits guard made = record {
      opens = hypothesis types funs obligation stands (subst (FitsClause P n s.context own) is fits) guard (made.0 ∙ ap (noted s own) is) made.1;
      small = made.1;
    }

    -- what is answered leaves the children of a note of the hypothesis
    pub hypothesis_answers : (r : Result (List Sequent) RowEnd) → sigma.types ≡ [] → sigma.funs ≡ [] → IsObligation P n own → SigmaMayStand sigma →
        FitsClause P n s.context own whole → Guard s.frame sigma.terms → IfOk r (AreNoted s own whole) →
        IfOk r (Leaves P n s (row.Note reference.Hypothesis sigma))
    hypothesis_answers (Ok children) types funs obligation stands fits guard made =
        hypothesis_leaves children types funs obligation stands fits guard made
    hypothesis_answers (Err end) types funs obligation stands fits guard made = tt

    module _ (children : List Sequent) (only : (that : Clause) → IsObligation P n that → that ≡ own)
        (opens : Opens P n s (row.Note reference.Hypothesis sigma) children) where
      -- the obligation's own clause fits
      pub hypothesis_fits : FitsClause P n s.context own whole
      hypothesis_fits =
          let to : NotesOwn P n s sigma = needs P n s (row.Note reference.Hypothesis sigma) children opens in
          subst (FitsClause P n s.context own) (sym is)
          (subst (λ (c : Clause). FitsClause P n s.context c (own_sigma c sigma.terms)) (only to.own to.obligation) to.fits)

      -- and the children are within the limits
      pub hypothesis_small : All IsWithinLimits (noted s own whole)
      hypothesis_small =
          let to : NotesOwn P n s sigma = needs P n s (row.Note reference.Hypothesis sigma) children opens in
          subst (λ (w : Sigma). All IsWithinLimits (noted s own w)) (sym is)
          (subst (λ (c : Clause). All IsWithinLimits (noted s c (own_sigma c sigma.terms))) (only to.own to.obligation) to.small)

-- the guard holds where the hypothesis applies
pub guard_due : (P : Program) (n : ℕ) (s : Sequent) (sigma : Sigma) (children : List Sequent) →
    Opens P n s (row.Note reference.Hypothesis sigma) children → Guard s.frame sigma.terms
guard_due P n s sigma children opens =
    let to : NotesOwn P n s sigma = needs P n s (row.Note reference.Hypothesis sigma) children opens in to.guard

-- an obligation has fewer than 2^32 function variables
pub few_functions : (P : Program) (n : ℕ) (own : Clause) → IsChecked P → IsObligation P n own → length own.funs < 2 ^ 32
few_functions P n own checked obligation = (checked.numbered.clauses n own obligation).funs
