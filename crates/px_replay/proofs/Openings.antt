-- What a row that opens a sequent needs, by the row.
use Rattle.std.proofs.Common.{◌≡◌, ℕ, List, slice_get, Some, All, refl, subst}
use Rattle.px_terms.specs.declared.term.Term.{Term}
use Rattle.px_terms.specs.declared.clause.Clause.{Clause}
use Rattle.px_terms.specs.declared.clause.Equation.{Equation}
use Rattle.px_terms.specs.declared.clause.Sigma.{Sigma}
use Rattle.px_terms.specs.declared.program.Program.{Program}
use Rattle.px_terms.specs.declared.sequent.Sequent.{Sequent}
use Rattle.px_terms.specs.declared.row.Side.{Side}
use Rattle.px_terms.specs.declared.row.Kind.{Kind}
use Rattle.px_terms.specs.declared.row.Ref.{Ref}
use Rattle.px_terms.specs.declared.row.Ref.TheVariants as reference
use Rattle.px_terms.specs.declared.row.Target.TheVariants as target
use Rattle.px_terms.specs.declared.row.Row.{Row}
use Rattle.px_terms.specs.declared.row.Row.TheVariants as row
use Rattle.px_terms.specs.Obligations.{IsObligation}
use Rattle.px_terms.specs.Sequents.{IsWithinLimits, with_alternative_side, with_fact_side}
use Rattle.px_terms.specs.Steps.{Step}
use Rattle.px_terms.specs.Guards.{Guard}
use Rattle.px_terms.specs.Noting.{IsOpen, FitsClause, own_sigma}
use Rattle.px_terms.specs.Rows.{Opens, same, step, step_in_fact, note, hypothesis, case, split, clash, inject, AreCases, AreTermCases, HeadsClash, IsInjected, noted}
use Rattle.px_replay.specs.Replaying.{SidesAreOne, StepsSide}

-- A step of a side of an alternative, onto a sequent within the limits.
pub record StepsAlternative (P : Program) (s : Sequent) (j : ℕ) (side : Side) (path : List ℕ) (k : Kind) : Type 0 where
  pub t : Term
  pub steps : StepsSide P s.facts s.alternatives j side path k t
  pub small : IsWithinLimits (with_alternative_side s j steps.equation side t)

-- A step of a side of a fact, onto a sequent within the limits.
pub record StepsFact (P : Program) (s : Sequent) (j : ℕ) (side : Side) (path : List ℕ) (k : Kind) : Type 0 where
  pub t : Term
  pub steps : StepsSide P s.facts s.facts j side path k t
  pub small : IsWithinLimits (with_fact_side s j steps.equation side t)

-- A note of what is open, onto sequents within the limits.
pub record Notes (P : Program) (n : ℕ) (s : Sequent) (about : Ref) (sigma : Sigma) : Type 0 where
  pub own : Clause
  pub clause : Clause
  pub obligation : IsObligation P n own
  pub is_open : IsOpen P n own about clause
  pub fits : FitsClause P n s.context clause sigma
  pub small : All IsWithinLimits (noted s clause sigma)

-- A note of the hypothesis under the guard, onto sequents within the limits.
pub record NotesOwn (P : Program) (n : ℕ) (s : Sequent) (sigma : Sigma) : Type 0 where
  pub own : Clause
  pub obligation : IsObligation P n own
  pub fits : FitsClause P n s.context own (own_sigma own sigma.terms)
  pub guard : Guard s.frame sigma.terms
  pub small : All IsWithinLimits (noted s own (own_sigma own sigma.terms))

-- The cases of a variable, within the limits.
pub record HasCases (P : Program) (s : Sequent) (v : ℕ) : Type 0 where
  pub children : List Sequent
  pub cases : AreCases P s v children
  pub small : All IsWithinLimits children

-- The cases of a term, within the limits.
pub record HasTermCases (P : Program) (s : Sequent) (t : Term) : Type 0 where
  pub children : List Sequent
  pub cases : AreTermCases P s t children
  pub small : All IsWithinLimits children

-- A fact with different heads.
pub record Clashes (s : Sequent) (j : ℕ) : Type 0 where
  pub e : Equation
  pub found : slice_get s.facts j ≡ Some e
  pub heads : HeadsClash e.left e.right

-- A fact with one head, onto a sequent within the limits.
pub record Injects (s : Sequent) (j : ℕ) : Type 0 where
  pub child : Sequent
  pub injected : IsInjected s j child
  pub small : IsWithinLimits child

-- what a row needs that opens a sequent
abbrev pub Needs : Program → ℕ → Sequent → Row → Type 0
Needs P n s (row.Header m on) = ⊥
Needs P n s (row.Same j) = SidesAreOne s j
Needs P n s (row.Step (target.Alternative j side) path k) = StepsAlternative P s j side path k
Needs P n s (row.Step (target.Fact j side) path k) = StepsFact P s j side path k
Needs P n s (row.Note (reference.Property h p) sigma) = Notes P n s (reference.Property h p) sigma
Needs P n s (row.Note (reference.Lemma i) sigma) = Notes P n s (reference.Lemma i) sigma
Needs P n s (row.Note reference.Hypothesis sigma) = NotesOwn P n s sigma
Needs P n s (row.CaseVar v) = HasCases P s v
Needs P n s (row.SplitTerm t) = HasTermCases P s t
Needs P n s (row.Clash j) = Clashes s j
Needs P n s (row.Inject j) = Injects s j

pub needs : (P : Program) (n : ℕ) (s : Sequent) (r : Row) (children : List Sequent) → Opens P n s r children → Needs P n s r
needs P n s _ _ (same {e = e} found equal) = record { equation = e; found = found; one = equal }
needs P n s _ _ (step {e = e} {t = t} found steps child small) = record { t = t; steps = record { equation = e; found = found; step = steps }; small = subst IsWithinLimits child small }
needs P n s _ _ (step_in_fact {e = e} {t = t} found steps child small) = record { t = t; steps = record { equation = e; found = found; step = steps }; small = subst IsWithinLimits child small }
needs P n s _ _ (note {about = reference.Property h p} {own = own} {clause = clause} other obligation is_open stands fits is small) = record { own = own; clause = clause; obligation = obligation; is_open = is_open; fits = fits; small = subst (All IsWithinLimits) is small }
needs P n s _ _ (note {about = reference.Lemma i} {own = own} {clause = clause} other obligation is_open stands fits is small) = record { own = own; clause = clause; obligation = obligation; is_open = is_open; fits = fits; small = subst (All IsWithinLimits) is small }
needs P n s _ _ (note {about = reference.Hypothesis} other obligation is_open stands fits is small) = absurd (other refl)
needs P n s _ _ (hypothesis {own = own} types funs obligation stands fits guard is small) = record { own = own; obligation = obligation; fits = fits; guard = guard; small = subst (All IsWithinLimits) is small }
needs P n s _ children (case cases small) = record { children = children; cases = cases; small = small }
needs P n s _ children (split stands cases small) = record { children = children; cases = cases; small = small }
needs P n s _ _ (clash {e = e} found heads) = record { e = e; found = found; heads = heads }
needs P n s _ _ (inject {child = child} injected small) = record { child = child; injected = injected; small = small }

-- a note of what is no hypothesis
pub notes : (P : Program) (n : ℕ) (s : Sequent) (about : Ref) (sigma : Sigma) (children : List Sequent) → (about ≡ reference.Hypothesis → ⊥) → Opens P n s (row.Note about sigma) children → Notes P n s about sigma
notes P n s (reference.Property h p) sigma children other opens = needs P n s (row.Note (reference.Property h p) sigma) children opens
notes P n s (reference.Lemma i) sigma children other opens = needs P n s (row.Note (reference.Lemma i) sigma) children opens
notes P n s reference.Hypothesis sigma children other opens = absurd (other refl)
