-- What each row leaves of a sequent, by what its crate answers.
use Rattle.std.proofs.Common.{◌≡◌, ◌↔◌, ℕ, List, [], ◌∷◌, Some, None, slice_get, All, sym, subst, ◌∙◌}
use Rattle.std.proofs.lemmas.List.Elements.{All-nil, All-cons}
use Rattle.px_terms.specs.declared.term.Term.{Term}
use Rattle.px_terms.specs.declared.clause.Equation.{Equation}
use Rattle.px_terms.specs.declared.program.Program.{Program}
use Rattle.px_terms.specs.declared.sequent.Sequent.{Sequent}
use Rattle.px_base.specs.declared.names.Names.{Names}
use Rattle.px_terms.specs.declared.clause.Sigma.{Sigma}
use Rattle.px_terms.specs.declared.row.Ref.{Ref}
use Rattle.px_terms.specs.declared.row.Ref.TheVariants as reference
use Rattle.px_terms.specs.declared.row.Row.{Row}
use Rattle.px_terms.specs.declared.row.Row.TheVariants as row
use Rattle.px_terms.specs.Sequents.{IsWithinLimits}
use Rattle.px_terms.specs.Rows.{Opens, same, case, split, clash, inject, MayStand, SigmaMayStand, AreCases, AreTermCases, HeadsClash, IsInjected}
use Rattle.px_replay.specs.Replaying.{Leaves, SidesAreOne}
use Rattle.px_replay.proofs.Openings.{needs, HasCases, HasTermCases, Clashes}
use Rattle.px_derive.specs.Spellable.{IsSpellable}
use Rattle.px_replay.proofs.Lists.{found_one}
use Rattle.px_replay.proofs.Standing.{term_may_stand, note_may_stand, own_types_empty, own_funs_empty}

-- whether the sides of the alternative that was found are one
pub sides_found : (s : Sequent) (at : ℕ) (e : Equation) (T : Type 0) → slice_get s.alternatives at ≡ Some e → (T ↔ (e.left ≡ e.right)) → T ↔ SidesAreOne s at
sides_found s at e T found told = (
  (λ t. record { equation = e; found = found; one = told.0 t }),
  (λ sides. told.1 (subst (λ (x : Equation). x.left ≡ x.right) (found_one s.alternatives at sides.equation e sides.found found) sides.one)),
)

-- where there is no alternative its sides are not one
pub no_sides : (s : Sequent) (at : ℕ) → slice_get s.alternatives at ≡ None → SidesAreOne s at → ⊥
no_sides s at none sides = let h : None ≡ Some sides.equation = sym none ∙ sides.found in cc

-- no child is over the limits
pub no_children : All IsWithinLimits []
no_children = All-nil IsWithinLimits

-- equal sides leave nothing
pub same_leaves : (P : Program) (n : ℕ) (s : Sequent) (at : ℕ) → SidesAreOne s at → Leaves P n s (row.Same at) []
same_leaves P n s at sides = record { opens = same sides.found sides.one; small = no_children }

-- a fact with different heads leaves nothing
pub clash_leaves : (P : Program) (n : ℕ) (s : Sequent) (at : ℕ) (e : Equation) → slice_get s.facts at ≡ Some e → HeadsClash e.left e.right → Leaves P n s (row.Clash at) []
clash_leaves P n s at e found heads = record { opens = clash found heads; small = no_children }

-- the heads of the fact that was found differ
pub clash_due : (P : Program) (n : ℕ) (s : Sequent) (at : ℕ) (children : List Sequent) (e : Equation) → slice_get s.facts at ≡ Some e → Opens P n s (row.Clash at) children → HeadsClash e.left e.right
clash_due P n s at children e found opens =
    let to : Clashes s at = needs P n s (row.Clash at) children opens in
    subst (λ (x : Equation). HeadsClash x.left x.right) (found_one s.facts at to.e e to.found found) to.heads

-- there is such a fact
pub clash_stands : (P : Program) (n : ℕ) (s : Sequent) (at : ℕ) (children : List Sequent) → slice_get s.facts at ≡ None → Opens P n s (row.Clash at) children → ⊥
clash_stands P n s at children none opens =
    let to : Clashes s at = needs P n s (row.Clash at) children opens in
    let h : None ≡ Some to.e = sym none ∙ to.found in cc

-- what a row leaves in one program it leaves in the same
pub leaves_so : (P Q : Program) (n : ℕ) (s : Sequent) (r : Row) (children : List Sequent) → Q ≡ P → Leaves Q n s r children → Leaves P n s r children
leaves_so P Q n s r children one leaves = subst (λ (X : Program). Leaves X n s r children) one leaves

-- one child that a row leaves
pub one_left : (P : Program) (n : ℕ) (s : Sequent) (r : Row) (child : Sequent) (children : List Sequent) → children ≡ child ∷ [] → Opens P n s r (child ∷ []) → IsWithinLimits child → Leaves P n s r children
one_left P n s r child children is opens small = subst (Leaves P n s r) (sym is) (record { opens = opens; small = All-cons IsWithinLimits child [] small no_children })

-- the stepped sequent is left
pub step_left : (P Q : Program) (n : ℕ) (s : Sequent) (r : Row) (child : Sequent) (children : List Sequent) → Q ≡ P → children ≡ child ∷ [] → ((m : ℕ) → Opens Q m s r (child ∷ [])) → IsWithinLimits child → Leaves P n s r children
step_left P Q n s r child children one is opens small = leaves_so P Q n s r children one (one_left Q n s r child children is (opens n) small)

-- a row that opens a sequent in one program opens it in the same
pub opens_so : (P Q : Program) (n : ℕ) (s : Sequent) (r : Row) (children : List Sequent) → Q ≡ P → Opens P n s r children → Opens Q n s r children
opens_so P Q n s r children one opens = subst (λ (X : Program). Opens X n s r children) (sym one) opens

-- the cases of a variable are left
pub cases_left : (P Q : Program) (n : ℕ) (s : Sequent) (v : ℕ) (children : List Sequent) → Q ≡ P → AreCases Q s v children × All IsWithinLimits children → Leaves P n s (row.CaseVar v) children
cases_left P Q n s v children one found = leaves_so P Q n s (row.CaseVar v) children one (record { opens = case found.0 found.1; small = found.1 })

-- the cases of a variable that are due
pub cases_due : (P Q : Program) (n : ℕ) (s : Sequent) (v : ℕ) (children : List Sequent) → Q ≡ P → Opens P n s (row.CaseVar v) children → HasCases Q s v
cases_due P Q n s v children one opens = needs Q n s (row.CaseVar v) children (opens_so P Q n s (row.CaseVar v) children one opens)

-- the cases of a term are left
pub term_cases_left : (P Q : Program) (n : ℕ) (s : Sequent) (t : Term) (children : List Sequent) → Q ≡ P → MayStand t → AreTermCases Q s t children × All IsWithinLimits children → Leaves P n s (row.SplitTerm t) children
term_cases_left P Q n s t children one stands found = leaves_so P Q n s (row.SplitTerm t) children one (record { opens = split stands found.0 found.1; small = found.1 })

-- the cases of a term that are due
pub term_cases_due : (P Q : Program) (n : ℕ) (s : Sequent) (t : Term) (children : List Sequent) → Q ≡ P → Opens P n s (row.SplitTerm t) children → HasTermCases Q s t
term_cases_due P Q n s t children one opens = needs Q n s (row.SplitTerm t) children (opens_so P Q n s (row.SplitTerm t) children one opens)

-- the sequent with equations of the fields is left
pub injected_left : (P : Program) (n : ℕ) (s : Sequent) (at : ℕ) (child : Sequent) (children : List Sequent) → children ≡ child ∷ [] → IsInjected s at child × IsWithinLimits child → Leaves P n s (row.Inject at) children
injected_left P n s at child children is found = one_left P n s (row.Inject at) child children is (inject found.0 found.1) found.1

-- what is put in by a note that has a line may stand in it
pub note_stands : (names : Names) (r : Row) (about : Ref) (sigma : Sigma) → r ≡ row.Note about sigma → IsSpellable names r → SigmaMayStand sigma
note_stands names r about sigma is spelled = note_may_stand names about sigma (subst (IsSpellable names) is spelled)

pub note_types : (names : Names) (r : Row) (about : Ref) (sigma : Sigma) → r ≡ row.Note about sigma → IsSpellable names r → about ≡ reference.Hypothesis → sigma.types ≡ []
note_types names r about sigma is spelled = own_types_empty names about sigma (subst (IsSpellable names) is spelled)

pub note_funs : (names : Names) (r : Row) (about : Ref) (sigma : Sigma) → r ≡ row.Note about sigma → IsSpellable names r → about ≡ reference.Hypothesis → sigma.funs ≡ []
note_funs names r about sigma is spelled = own_funs_empty names about sigma (subst (IsSpellable names) is spelled)

-- a split term that has a line may stand in it
pub split_stands : (names : Names) (r : Row) (t : Term) → r ≡ row.SplitTerm t → IsSpellable names r → MayStand t
split_stands names r t is spelled = term_may_stand names t (subst (IsSpellable names) is spelled)
