-- What a step makes of a sequent.
use Rattle.std.proofs.Common.{◌≡◌, ◌≤◌, ◌<◌, ℕ, length, List, [], ◌∷◌, slice_get, slice_set, Option, Some, IfSome, Bool, IsTrue, ◌⊎◌, inl, inr, sym, ap, subst, ◌∙◌, All}
use Rattle.std.proofs.lemmas.List.{length-set}
use Rattle.std.proofs.lemmas.List.Elements.{All-set, All-get_or}
use Rattle.px_base.specs.declared.limits.TheConstants.{FACTS}
use Rattle.std.proofs.lemmas.Option.{slice_get_within, get_or_from_slice_get}
use Rattle.px_terms.specs.declared.term.Term.{Term}
use Rattle.px_terms.specs.declared.clause.Equation.{Equation}
use Rattle.px_terms.specs.declared.program.Program.{Program}
use Rattle.px_terms.specs.declared.sequent.Sequent.{Sequent}
use Rattle.px_terms.specs.declared.row.Side.{Side}
use Rattle.px_terms.specs.declared.row.Side.TheVariants.{Left, Right}
use Rattle.px_terms.specs.declared.row.Kind.{Kind}
use Rattle.px_terms.specs.declared.row.Target.TheVariants as target
use Rattle.px_terms.specs.declared.row.Row.TheVariants as row
use Rattle.px_terms.specs.TreeEdits.{with_side}
use Rattle.px_terms.specs.Sequents.{side_of, IsSmall, IsSmallEquation, IsWithinLimits, with_alternative_side, with_fact_side}
use Rattle.px_terms.specs.Steps.{Step}
use Rattle.px_terms.specs.Rows.{Opens, step, step_in_fact}
use Rattle.px_replay.specs.Replaying.{StepsSide}
use Rattle.px_replay.proofs.Lists.{found_one}
use Rattle.px_replay.proofs.Openings.{StepsAlternative, StepsFact}

-- an element that is found has what all elements have
pub all_at : {X : Type 0} (P : X → Type 0) (xs : List X) (k : ℕ) (x : X) → slice_get xs k ≡ Some x → All P xs → P x
all_at P xs k x found all = subst P (get_or_from_slice_get xs k x x found) (All-get_or P xs k x (slice_get_within xs k x found) all)

-- an equation within the limits, with a small side in place of one
small_with_side : (side : Side) (e : Equation) (t : Term) → IsSmallEquation e → IsSmall t → IsSmallEquation (with_side side e t)
small_with_side Left e t whole small = record { left = small; right = whole.right }
small_with_side Right e t whole small = record { left = whole.left; right = small }

-- the written list is the one with the stepped side
written : (P : Program) (facts equations : List Equation) (at : ℕ) (side : Side) (path : List ℕ) (kind : Kind) (t : Term) (steps : StepsSide P facts equations at side path kind t) (new : List Equation) →
    IfSome (slice_get equations at) (λ e. new ≡ slice_set equations at (with_side side e t)) → new ≡ slice_set equations at (with_side side steps.equation t)
written P facts equations at side path kind t steps new is = subst (λ (o : Option Equation). IfSome o (λ e. new ≡ slice_set equations at (with_side side e t))) steps.found is

-- a small side in place of one keeps a list small
all_small : (P : Program) (facts equations : List Equation) (at : ℕ) (side : Side) (path : List ℕ) (kind : Kind) (t : Term) (steps : StepsSide P facts equations at side path kind t) → All IsSmallEquation equations → All IsSmallEquation (slice_set equations at (with_side side steps.equation t))
all_small P facts equations at side path kind t steps small =
    All-set IsSmallEquation equations at (with_side side steps.equation t) (small_with_side side steps.equation t (all_at IsSmallEquation equations at steps.equation steps.found small) steps.step.small) small

module _ (P : Program) (s : Sequent) (at : ℕ) (side : Side) (path : List ℕ) (kind : Kind) (t : Term) (new : List Equation) where
  -- the child of a step in an alternative
  pub alternative_child : (steps : StepsSide P s.facts s.alternatives at side path kind t) → IfSome (slice_get s.alternatives at) (λ e. new ≡ slice_set s.alternatives at (with_side side e t)) → record s { alternatives = new } ≡ with_alternative_side s at steps.equation side t
  alternative_child steps is = ap (λ (es : List Equation). record s { alternatives = es }) (written P s.facts s.alternatives at side path kind t steps new is)

  pub alternative_within : (is_within : Bool) (steps : StepsSide P s.facts s.alternatives at side path kind t) → IfSome (slice_get s.alternatives at) (λ e. new ≡ slice_set s.alternatives at (with_side side e t)) → (IsTrue is_within → IsWithinLimits s) → IsTrue is_within ⊎ IsWithinLimits (record s { alternatives = new }) → IsWithinLimits (record s { alternatives = new })
  alternative_within is_within steps is known (inl marked) =
      let within = known marked in
      record { vars = within.vars; present = within.present; facts = within.facts; alternatives = subst (All IsSmallEquation) (sym (written P s.facts s.alternatives at side path kind t steps new is)) (all_small P s.facts s.alternatives at side path kind t steps within.alternatives); few_facts = within.few_facts; few_variables = within.few_variables }
  alternative_within is_within steps is known (inr found) = found

  pub alternative_opens : (n : ℕ) (steps : StepsSide P s.facts s.alternatives at side path kind t) → IfSome (slice_get s.alternatives at) (λ e. new ≡ slice_set s.alternatives at (with_side side e t)) → IsWithinLimits (record s { alternatives = new }) → Opens P n s (row.Step (target.Alternative at side) path kind) (record s { alternatives = new } ∷ [])
  alternative_opens n steps is within = step steps.found steps.step (alternative_child steps is) within

  -- the child that is due is the one that was made
  pub alternative_due : (steps : StepsSide P s.facts s.alternatives at side path kind t) → IfSome (slice_get s.alternatives at) (λ e. new ≡ slice_set s.alternatives at (with_side side e t)) → (to : StepsAlternative P s at side path kind) → t ≡ to.t → IsWithinLimits (record s { alternatives = new })
  alternative_due steps is to one =
      let equation : to.steps.equation ≡ steps.equation = found_one s.alternatives at to.steps.equation steps.equation to.steps.found steps.found in
      let are : with_alternative_side s at to.steps.equation side to.t ≡ record s { alternatives = new } = ap (λ (x : Equation). with_alternative_side s at x side to.t) equation ∙ (ap (λ (u : Term). with_alternative_side s at steps.equation side u) (sym one) ∙ sym (alternative_child steps is)) in
      subst IsWithinLimits are to.small

  -- the child of a step in a fact
  pub fact_child : (steps : StepsSide P s.facts s.facts at side path kind t) → IfSome (slice_get s.facts at) (λ e. new ≡ slice_set s.facts at (with_side side e t)) → record s { facts = new } ≡ with_fact_side s at steps.equation side t
  fact_child steps is = ap (λ (es : List Equation). record s { facts = es }) (written P s.facts s.facts at side path kind t steps new is)

  pub fact_within : (is_within : Bool) (steps : StepsSide P s.facts s.facts at side path kind t) → IfSome (slice_get s.facts at) (λ e. new ≡ slice_set s.facts at (with_side side e t)) → (IsTrue is_within → IsWithinLimits s) → IsTrue is_within ⊎ IsWithinLimits (record s { facts = new }) → IsWithinLimits (record s { facts = new })
  fact_within is_within steps is known (inl marked) =
      let within = known marked in
      let same = written P s.facts s.facts at side path kind t steps new is in
      record { vars = within.vars; present = within.present; facts = subst (All IsSmallEquation) (sym same) (all_small P s.facts s.facts at side path kind t steps within.facts); alternatives = within.alternatives; few_facts = subst (λ (k : ℕ). k ≤ FACTS) (sym (ap length same ∙ length-set s.facts at (with_side side steps.equation t))) within.few_facts; few_variables = within.few_variables }
  fact_within is_within steps is known (inr found) = found

  pub fact_opens : (n : ℕ) (steps : StepsSide P s.facts s.facts at side path kind t) → IfSome (slice_get s.facts at) (λ e. new ≡ slice_set s.facts at (with_side side e t)) → IsWithinLimits (record s { facts = new }) → Opens P n s (row.Step (target.Fact at side) path kind) (record s { facts = new } ∷ [])
  fact_opens n steps is within = step_in_fact steps.found steps.step (fact_child steps is) within

  pub fact_due : (steps : StepsSide P s.facts s.facts at side path kind t) → IfSome (slice_get s.facts at) (λ e. new ≡ slice_set s.facts at (with_side side e t)) → (to : StepsFact P s at side path kind) → t ≡ to.t → IsWithinLimits (record s { facts = new })
  fact_due steps is to one =
      let equation : to.steps.equation ≡ steps.equation = found_one s.facts at to.steps.equation steps.equation to.steps.found steps.found in
      let are : with_fact_side s at to.steps.equation side to.t ≡ record s { facts = new } = ap (λ (x : Equation). with_fact_side s at x side to.t) equation ∙ (ap (λ (u : Term). with_fact_side s at steps.equation side u) (sym one) ∙ sym (fact_child steps is)) in
      subst IsWithinLimits are to.small

-- what a step was found to make of a side
pub step_found : (P : Program) (facts equations : List Equation) (at : ℕ) (side : Side) (path : List ℕ) (kind : Kind) (e : Equation) (term t : Term) → slice_get equations at ≡ Some e → term ≡ side_of e side → Step P facts term path kind t → StepsSide P facts equations at side path kind t
step_found P facts equations at side path kind e term t found is steps = record { equation = e; found = found; step = subst (λ (x : Term). Step P facts x path kind t) is steps }

-- the step that is due at the side that was found
pub step_due : (P : Program) (facts equations : List Equation) (at : ℕ) (side : Side) (path : List ℕ) (kind : Kind) (e : Equation) (term t : Term) → slice_get equations at ≡ Some e → term ≡ side_of e side → StepsSide P facts equations at side path kind t → Step P facts term path kind t
step_due P facts equations at side path kind e term t found is steps =
    subst (λ (x : Term). Step P facts x path kind t) (sym is) (subst (λ (x : Equation). Step P facts (side_of x side) path kind t) (found_one equations at steps.equation e steps.found found) steps.step)

-- the lists are these
pub step_lists : (P : Program) (facts equations fs es : List Equation) (at : ℕ) (side : Side) (path : List ℕ) (kind : Kind) (t : Term) → facts ≡ fs → equations ≡ es → StepsSide P facts equations at side path kind t → StepsSide P fs es at side path kind t
step_lists P facts equations fs es at side path kind t f e steps = subst (λ (xs : List Equation). StepsSide P xs es at side path kind t) f (subst (λ (xs : List Equation). StepsSide P facts xs at side path kind t) e steps)

-- the number of a stepped equation is one of the list's
pub step_within : (P : Program) (facts equations : List Equation) (at : ℕ) (side : Side) (path : List ℕ) (kind : Kind) (t : Term) → StepsSide P facts equations at side path kind t → at < length equations
step_within P facts equations at side path kind t steps = slice_get_within equations at steps.equation steps.found
