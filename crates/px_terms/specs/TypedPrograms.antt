-- Typed programs: each declaration is typed at its place.
use Rattle.std.specs.Prelude.{◌≡◌, ℕ, ◌<◌, ◌≤◌, List, [], ◌∷◌, length, Some, slice_get, All}
use Rattle.px_base.specs.declared.limits.TheConstants.{CLAUSE_VARIABLES, PREMISES}
use Rattle.px_base.specs.declared.prop.Prop.{Prop}
use Rattle.px_base.specs.declared.prop.Prop.TheVariants.{Comm, Assoc, Idem}
use Rattle.px_base.specs.declared.head.Head.{Head}
use Rattle.px_base.specs.declared.head.Head.TheVariants.{Def, FnVar}
use Rattle.px_base.specs.PropSets.{HasProp}
use Rattle.px_terms.specs.declared.types.Ty.{Ty}
use Rattle.px_terms.specs.declared.types.FnType.{FnType}
use Rattle.px_terms.specs.declared.term.Term.{Term, out-Term}
use Rattle.px_terms.specs.declared.term.Term.TheOpen.{Term-F}
use Rattle.px_terms.specs.declared.clause.Equation.{Equation}
use Rattle.px_terms.specs.declared.clause.Clause.{Clause}
use Rattle.px_terms.specs.declared.program.ConDef.{ConDef}
use Rattle.px_terms.specs.declared.program.DataDef.{DataDef}
use Rattle.px_terms.specs.declared.program.Def as definition
use Rattle.px_terms.specs.declared.program.Lemma as proposition
use Rattle.px_terms.specs.declared.program.ReplicaDef.{ReplicaDef}
use Rattle.px_terms.specs.declared.program.Declared.TheVariants as declared
use Rattle.px_terms.specs.declared.program.Program.{Program}
use Rattle.px_terms.specs.declared.sequent.Context.{Context}
use Rattle.px_terms.specs.Programs.{bool_data}
use Rattle.px_terms.specs.Typing.{Place, in_body, behind, IsType, AreTypes, IsSmallMet, StandsBefore, IsFunction, IsKnown, MayCall, AreArguments, HasType, live}
use Rattle.px_terms.specs.Clauses.{IsClauseOf, functions_alone}

-- A written type over so many type parameters: a type, within the limits.
pub record IsWritten (P : Program) (tparams : ℕ) (T : Ty) : Type 0 where
  pub is_type : IsType P tparams T
  pub small : IsSmallMet T

-- each type is a written one
abbrev pub AreWritten : Program → ℕ → List Ty → Type 0
AreWritten P tparams types = All (IsWritten P tparams) types

-- The property fits the type of what is named, and its clause has few enough variables; `funs` are the types of the function
-- variables in scope.
pub record Fits (P : Program) (funs : List FnType) (h : Head) (p : Prop) : Type 0 where
  pub clause : Clause
  pub says : IsClauseOf P funs h p clause
  pub few : length clause.vars ≤ CLAUSE_VARIABLES

-- The types of a function parameter are written ones.
pub record IsWrittenFnType (P : Program) (tparams : ℕ) (F : FnType) : Type 0 where
  pub params : AreWritten P tparams F.params
  pub result : IsWritten P tparams F.result

-- The types of function parameters are written ones, and each property that is assumed of one fits its type.
pub record AreWrittenFnTypes (P : Program) (tparams : ℕ) (funs : List FnType) : Type 0 where
  pub types : All (IsWrittenFnType P tparams) funs
  pub assumed : (i : ℕ) (F : FnType) (p : Prop) → slice_get funs i ≡ Some F → HasProp F.props p → Fits P funs (FnVar i) p

-- a constructor's fields have written types
abbrev pub IsTypedCon : Program → ℕ → ConDef → Type 0
IsTypedCon P tparams c = AreWritten P tparams c.fields

-- A datatype has at least one constructor, and the fields have written types.
pub record IsTypedData (P : Program) (D : DataDef) : Type 0 where
  pub some : 0 < length D.cons
  pub cons : All (IsTypedCon P D.tparams) D.cons

-- What a signature asks: the types are written ones.
pub record HasSignature (P : Program) (D : definition.Def) : Type 0 where
  pub funs : AreWrittenFnTypes P D.tparams D.funs
  pub params : AreWritten P D.tparams D.params
  pub result : IsWritten P D.tparams D.result

-- what stands in a definition's body: its type and function parameters, and its data parameters
abbrev pub own_context : definition.Def → Context
own_context D = record { tparams = D.tparams; funs = D.funs; vars = live D.params }

-- Definition n is typed: its signature, and its body has the result's type.
pub record IsTypedDef (P : Program) (n : ℕ) (D : definition.Def) : Type 0 where
  pub signature : HasSignature P D
  pub body : HasType P (in_body n) (own_context D) D.body D.result

-- A declared property is one of a definition that stands before it, and fits its type.
pub record IsTypedProperty (P : Program) (number n : ℕ) (p : Prop) : Type 0 where
  pub before : StandsBefore P n number
  pub fits : Fits P [] (Def n) p

-- Both sides have one type.
pub record AreSidesTyped (P : Program) (place : Place) (context : Context) (e : Equation) : Type 0 where
  pub T : Ty
  pub left : HasType P place context e.left T
  pub right : HasType P place context e.right T

-- what stands in a lemma: its type and function parameters, and its variables
abbrev pub lemma_context : proposition.Lemma → Context
lemma_context l = record { tparams = l.tparams; funs = l.funs; vars = live l.vars }

-- The lemma behind so many obligations is typed: few enough variables and premises, written types, and both sides of each equation.
pub record IsTypedLemma (P : Program) (number : ℕ) (l : proposition.Lemma) : Type 0 where
  pub few_vars : length l.vars ≤ CLAUSE_VARIABLES
  pub few_premises : length l.premises ≤ PREMISES
  pub funs : AreWrittenFnTypes P l.tparams l.funs
  pub vars : AreWritten P l.tparams l.vars
  pub premises : All (AreSidesTyped P (behind number) (lemma_context l)) l.premises
  pub conclusion : AreSidesTyped P (behind number) (lemma_context l) l.conclusion

mutual
  -- a term that is built of constructors and literals alone
  pub data IsBuiltLayer : Term-F Term → Type 0 where
    literal : {w : ℕ} → IsBuiltLayer (Term-F.Lit w)
    construction : {d k : ℕ} {types : List Ty} {fields : List Term} → AreBuilt fields → IsBuiltLayer (Term-F.Con d k types fields)

  -- each term is
  pub data AreBuilt : List Term → Type 0 where
    none : AreBuilt []
    more : {t : Term} {ts : List Term} → IsBuiltLayer (out-Term t) → AreBuilt ts → AreBuilt (t ∷ ts)

-- The merge joins states: it takes two of them and gives one, and is known to be commutative, associative and idempotent.
pub record IsJoin (P : Program) (r : ReplicaDef) : Type 0 where
  pub takes : List FnType
  pub function : IsFunction P (functions_alone 0 []) r.merge takes (r.state ∷ r.state ∷ []) r.state
  pub may_call : MayCall P (behind r.seen) r.merge.head r.merge.types
  pub arguments : AreArguments P (behind r.seen) (functions_alone 0 []) r.funs takes
  pub comm : IsKnown P (behind r.seen) (functions_alone 0 []) r.merge.head Comm
  pub assoc : IsKnown P (behind r.seen) (functions_alone 0 []) r.merge.head Assoc
  pub idem : IsKnown P (behind r.seen) (functions_alone 0 []) r.merge.head Idem

-- The replica is typed: its state is a written type without variables, the first value has it and is built of constructors and
-- literals alone, and the merge joins states. A program keeps no order of its declarations: a definition that stands after the replica
-- with no obligation between them counts as standing before it.
pub record IsTypedReplica (P : Program) (r : ReplicaDef) : Type 0 where
  pub state : IsWritten P 0 r.state
  pub from : HasType P (behind r.seen) (functions_alone 0 []) r.from r.state
  pub built : IsBuiltLayer (out-Term r.from)
  pub types : All IsSmallMet r.merge.types
  pub join : IsJoin P r

-- The program is typed: datatype 0 is `Bool`, and each declaration is typed. Nothing is said of the order in which datatypes name
-- one another, nor that the numbers of obligations seen rise from one definition to the next.
pub record IsTyped (P : Program) : Type 0 where
  pub bool : slice_get P.datatypes 0 ≡ Some bool_data
  pub datatypes : All (IsTypedData P) P.datatypes
  pub defs : (n : ℕ) (D : definition.Def) → slice_get P.defs n ≡ Some D → IsTypedDef P n D
  pub properties : (number n : ℕ) (p : Prop) → slice_get P.declared number ≡ Some (declared.Property n p) → IsTypedProperty P number n p
  pub lemmas : (number n : ℕ) → slice_get P.declared number ≡ Some (declared.Lemma n) → (l : proposition.Lemma) × (slice_get P.lemmas n ≡ Some l) × IsTypedLemma P number l
  pub replicas : All (IsTypedReplica P) P.replicas
