-- Splitting a blocker: the branches, with what follows at once in them.
use Rattle.std.specs.Prelude.{◌≡◌, ℕ, List, [], ◌∷◌, ◌++◌, map, true}
use Rattle.px_base.specs.declared.prop.Prop.{Prop}
use Rattle.px_base.specs.declared.prop.Prop.TheVariants.{Sym, Asym, Conn}
use Rattle.px_terms.specs.declared.types.Fun.{Fun}
use Rattle.px_terms.specs.declared.term.Term.{Term, out-Term}
use Rattle.px_terms.specs.declared.term.Term.TheOpen.{Term-F}
use Rattle.px_terms.specs.declared.clause.Equation.{Equation}
use Rattle.px_terms.specs.declared.clause.Clause.{Clause}
use Rattle.px_terms.specs.declared.program.Program.{Program}
use Rattle.px_terms.specs.declared.sequent.Sequent.{Sequent}
use Rattle.px_terms.specs.declared.row.Ref.TheVariants.{Property}
use Rattle.px_terms.specs.declared.row.Row.{Row}
use Rattle.px_terms.specs.declared.row.Row.TheVariants as row
use Rattle.px_terms.specs.Noting.{IsOpen, equation_instance}
use Rattle.px_terms.specs.Rows.{Opens, with_facts}
use Rattle.px_prover.specs.declared.branch.Branch.{Branch}

-- a variable is split by its cases, another term as a term
abbrev pub split_row : Term → Term-F Term → Row
split_row u (Term-F.Free v) = row.CaseVar v
split_row u layer = row.SplitTerm u

-- The property follows at once from the fact on a call: it is open for the function called, its one premise, with the call's
-- types, functions and arguments put in, is the fact, and this is its conclusion.
pub record FollowsBy (P : Program) (n : ℕ) (own : Clause) (s : Sequent) (f : Fun) (funs : List Fun) (args : List Term) (fact : Equation) (p : Prop) (added : Equation) : Type 0 where
  pub clause : Clause
  pub premise : Equation
  pub conclusion : Equation
  pub children : List Sequent
  pub is_open : IsOpen P n own (Property f.head p) clause
  pub one_premise : clause.premises ≡ premise ∷ []
  pub one_conclusion : clause.alternatives ≡ conclusion ∷ []
  pub applies : Opens P n s (row.Note (Property f.head p) (record { types = f.types; funs = funs; terms = args })) children
  pub premise_is : fact ≡ equation_instance (record { types = f.types; funs = funs; terms = args }) premise
  pub is : added ≡ equation_instance (record { types = f.types; funs = funs; terms = args }) conclusion

-- what follows at once from the fact by these properties, in their order
pub data FollowByAll (P : Program) (n : ℕ) (own : Clause) (s : Sequent) (f : Fun) (funs : List Fun) (args : List Term) (fact : Equation) : List Prop → List Equation → Type 0 where
  no_property : FollowByAll P n own s f funs args fact [] []
  follows : {p : Prop} {ps : List Prop} {e : Equation} {es : List Equation} → FollowsBy P n own s f funs args fact p e → FollowByAll P n own s f funs args fact ps es →
      FollowByAll P n own s f funs args fact (p ∷ ps) (e ∷ es)
  does_not : {p : Prop} {ps : List Prop} {es : List Equation} → ((e : Equation) → ¬ FollowsBy P n own s f funs args fact p e) →
      FollowByAll P n own s f funs args fact ps es → FollowByAll P n own s f funs args fact (p ∷ ps) es

-- the branch of a child where u is split: of a variable the child itself; of a call the child with what follows at once from its
-- new fact, and the new facts are used
pub data IsBranchOf (P : Program) (n : ℕ) (own : Clause) (b : Branch) (u : Term) (child : Sequent) (branch : Branch) : Type 0 where
  of_variable : {v : ℕ} → out-Term u ≡ Term-F.Free v → branch ≡ record { sequent = child; used = b.used } → IsBranchOf P n own b u child branch
  of_call : {f : Fun} {funs : List Fun} {args : List Term} {fact : Equation} {added : List Equation} → out-Term u ≡ Term-F.Call f funs args →
      child.facts ≡ b.sequent.facts ++ fact ∷ [] → FollowByAll P n own child f funs args fact (Sym ∷ Asym ∷ Conn ∷ []) added →
      branch ≡ record { sequent = with_facts child added; used = b.used ++ true ∷ map (λ (e : Equation). true) added } → IsBranchOf P n own b u child branch

-- each is the branch of the child at its place
pub data AreBranchesOf (P : Program) (n : ℕ) (own : Clause) (b : Branch) (u : Term) : List Sequent → List Branch → Type 0 where
  no_child : AreBranchesOf P n own b u [] []
  more_children : {child : Sequent} {children : List Sequent} {branch : Branch} {branches : List Branch} → IsBranchOf P n own b u child branch →
      AreBranchesOf P n own b u children branches → AreBranchesOf P n own b u (child ∷ children) (branch ∷ branches)

-- Splitting u leaves these branches of b, each within the limits.
pub record Splits (P : Program) (n : ℕ) (own : Clause) (b : Branch) (u : Term) (branches : List Branch) : Type 0 where
  pub children : List Sequent
  pub opens : Opens P n b.sequent (split_row u (out-Term u)) children
  pub are : AreBranchesOf P n own b u children branches
