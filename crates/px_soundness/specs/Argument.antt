-- The parts of the argument that what derives is true.
use Rattle.std.specs.Prelude.{◌≡◌, ℕ, ◌<◌, List, length, All}
use Rattle.px_terms.specs.Head.{Head}
use Rattle.px_terms.specs.Head.TheVariants as head
use Rattle.px_terms.specs.declared.types.Ty.{Ty}
use Rattle.px_terms.specs.declared.types.Fun.{Fun}
use Rattle.px_terms.specs.declared.term.Term.{Term}
use Rattle.px_terms.specs.declared.term.Value.{Value}
use Rattle.px_terms.specs.declared.clause.Clause.{Clause}
use Rattle.px_terms.specs.declared.clause.Equation.{Equation}
use Rattle.px_terms.specs.declared.program.Program.{Program}
use Rattle.px_terms.specs.declared.sequent.Context.{Context}
use Rattle.px_terms.specs.declared.sequent.Sequent.{Sequent}
use Rattle.px_terms.specs.declared.row.Kind.{Kind}
use Rattle.px_terms.specs.declared.row.Ref.{Ref}
use Rattle.px_terms.specs.declared.row.Ref.TheVariants as reference
use Rattle.px_terms.specs.declared.row.Row.{Row}
use Rattle.px_terms.specs.Meaning.{SameValue}
use Rattle.px_terms.specs.Typing.{anywhere, HasType, AreTypes, live}
use Rattle.px_terms.specs.Holding.{AreTrueAt}
use Rattle.px_terms.specs.Extending.{IsWellFounded, IsExtension, FunctionsFit, HoldsInProgram}
use Rattle.px_terms.specs.Obligations.{IsObligation}
use Rattle.px_terms.specs.TypedSequents.{IsTypedContext, IsTypedEquation, IsTypedSequent}
use Rattle.px_terms.specs.Steps.{Step}
use Rattle.px_terms.specs.Noting.{IsOpen}
use Rattle.px_terms.specs.Rows.{Opens}
use Rattle.px_terms.specs.Derivations.{AreFrameVariables, begins_with}
use Rattle.px_soundness.specs.Validity.{IsAssignment, IsValidAt, IsSequentOf}

-- a step keeps the type of a term
abbrev pub StepsKeepTypes : Type 0
StepsKeepTypes =
    (Q : Program) → IsWellFounded Q → (context : Context) → IsTypedContext Q context → (facts : List Equation) → All (IsTypedEquation Q context) facts →
    (s t : Term) (T : Ty) (path : List ℕ) (kind : Kind) → HasType Q anywhere context s T → Step Q facts s path kind t → HasType Q anywhere context t T

-- a step keeps the value of a term, at all types, functions and values that make the facts true
abbrev pub StepsKeepValues : Type 0
StepsKeepValues =
    (Q : Program) → IsWellFounded Q → (context : Context) → IsTypedContext Q context → (facts : List Equation) → All (IsTypedEquation Q context) facts →
    (s t : Term) (T : Ty) (path : List ℕ) (kind : Kind) → HasType Q anywhere context s T → Step Q facts s path kind t →
    (types : List Ty) (funs : List Fun) (rho : List Value) → IsAssignment Q context types funs rho → AreTrueAt Q types funs rho facts →
    SameValue Q types funs rho s t

-- the first sequent of an obligation is typed
abbrev pub FirstSequentsAreTyped : Type 0
FirstSequentsAreTyped =
    (Q : Program) → IsWellFounded Q → (n : ℕ) (own : Clause) → IsObligation Q n own → (on : List ℕ) → AreFrameVariables own on →
    IsSequentOf Q own on (begins_with own on)

-- what a row leaves of a typed sequent is typed
abbrev pub RowsKeepTyping : Type 0
RowsKeepTyping =
    (Q : Program) → IsWellFounded Q → (n : ℕ) (own : Clause) → IsObligation Q n own → (on : List ℕ) →
    (s : Sequent) (r : Row) (children : List Sequent) → IsSequentOf Q own on s → Opens Q n s r children → All (IsSequentOf Q own on) children

-- what the clause of a property of this head names beside its own data variables: a definition's clause has types and functions of
-- its own, and a comparison's or a function variable's names those of the obligation at hand
abbrev pub property_context : Clause → Head → Clause → Context
property_context own (head.Def n) clause = record { tparams = clause.tparams; funs = clause.funs; vars = live clause.vars }
property_context own head.Wle clause = record { tparams = own.tparams; funs = own.funs; vars = live clause.vars }
property_context own head.Weq clause = record { tparams = own.tparams; funs = own.funs; vars = live clause.vars }
property_context own (head.FnVar i) clause = record { tparams = own.tparams; funs = own.funs; vars = live clause.vars }

-- the variables of a clause that is open to an obligation with its own clause
abbrev pub clause_context : Clause → Ref → Clause → Context
clause_context own (reference.Property h p) clause = property_context own h clause
clause_context own (reference.Lemma i) clause = record { tparams = clause.tparams; funs = clause.funs; vars = live clause.vars }
clause_context own reference.Hypothesis clause = record { tparams = clause.tparams; funs = clause.funs; vars = live clause.vars }

-- The clause is typed in this context: its variables have types, and both sides of each equation have one.
pub record IsTypedClause (Q : Program) (context : Context) (clause : Clause) : Type 0 where
  pub types : IsTypedContext Q context
  pub premises : All (IsTypedEquation Q context) clause.premises
  pub alternatives : All (IsTypedEquation Q context) clause.alternatives

-- what is open to an obligation is typed
abbrev pub OpenClausesAreTyped : Type 0
OpenClausesAreTyped =
    (Q : Program) → IsWellFounded Q → (n : ℕ) (own : Clause) → IsObligation Q n own → (about : Ref) (clause : Clause) → IsOpen Q n own about clause →
    IsTypedClause Q (clause_context own about clause) clause

-- a row that applies to a typed sequent applies to it in each extension, and leaves the same
abbrev pub RowsAreKept : Type 0
RowsAreKept =
    (P Q : Program) → IsWellFounded P → IsExtension Q P → (n : ℕ) (s : Sequent) (r : Row) (children : List Sequent) → IsTypedSequent P s →
    Opens P n s r children → Opens Q n s r children

-- What the argument for obligation n rests on, at a sum of sizes: the types and functions fit its clause, each lower obligation
-- holds, and its first sequent is valid at each smaller sum.
pub record Assumed (Q : Program) (n : ℕ) (own : Clause) (on : List ℕ) (types : List Ty) (funs : List Fun) (size : ℕ) : Type 0 where
  pub founded : IsWellFounded Q
  pub obligation : IsObligation Q n own
  pub variables : AreFrameVariables own on
  pub count : length types ≡ own.tparams
  pub ground : AreTypes Q 0 types
  pub functions : FunctionsFit Q types own.funs funs
  pub lower : (i : ℕ) (clause : Clause) → i < n → IsObligation Q i clause → HoldsInProgram Q clause
  pub smaller : (m : ℕ) → m < size → IsValidAt Q types funs (begins_with own on) m

-- a row is sound: where its children are valid at a sum, its sequent is
abbrev pub RowsAreSound : Type 0
RowsAreSound =
    (Q : Program) (n : ℕ) (own : Clause) (on : List ℕ) (types : List Ty) (funs : List Fun) (size : ℕ) → Assumed Q n own on types funs size →
    (s : Sequent) (r : Row) (children : List Sequent) → IsSequentOf Q own on s → Opens Q n s r children →
    All (λ (child : Sequent). IsValidAt Q types funs child size) children → IsValidAt Q types funs s size
