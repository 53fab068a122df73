-- Extensions of a program, the functions that fit in one, and when a clause holds in each.
use Rattle.std.specs.Prelude.{◌≡◌, List, [], ◌∷◌, ◌++◌, length, Option, Some, None}
use Rattle.px_base.specs.declared.prop.Prop.{Prop}
use Rattle.px_base.specs.PropSets.{HasProp}
use Rattle.px_terms.specs.declared.types.Ty.{Ty}
use Rattle.px_terms.specs.declared.types.FnType.{FnType}
use Rattle.px_terms.specs.declared.types.Fun.{Fun}
use Rattle.px_terms.specs.declared.term.Value.{Value}
use Rattle.px_terms.specs.declared.clause.Clause.{Clause}
use Rattle.px_terms.specs.declared.program.Program.{Program}
use Rattle.px_terms.specs.Types.{ty_instance, tys_instance}
use Rattle.px_terms.specs.Values.{IsIn, AreIn}
use Rattle.px_terms.specs.Typing.{AreTypes, IsFunction}
use Rattle.px_terms.specs.Clauses.{Subject, IsSubject, HasResult, clause_for, functions_alone}
use Rattle.px_terms.specs.TypedPrograms.{IsTyped}
use Rattle.px_terms.specs.Descent.{AllDescend}
use Rattle.px_terms.specs.Holding.{AreTrueAt, SomeIsTrueAt}

-- The list begins with this one.
pub record BeginsWith {A : Type 0} (whole front : List A) : Type 0 where
  pub more : List A
  pub is : whole ≡ front ++ more

-- A well-founded program: it is typed, and every definition of it descends.
pub record IsWellFounded (Q : Program) : Type 0 where
  pub typed : IsTyped Q
  pub descends : AllDescend Q

-- Q is P with further declarations appended, and it is typed and descends.
pub record IsExtension (Q P : Program) : Type 0 where
  pub datatypes : BeginsWith Q.datatypes P.datatypes
  pub defs : BeginsWith Q.defs P.defs
  pub lemmas : BeginsWith Q.lemmas P.lemmas
  pub declared : BeginsWith Q.declared P.declared
  pub replicas : BeginsWith Q.replicas P.replicas
  pub founded : IsWellFounded Q

-- The function is one of Q that takes no functions, a built-in or a definition at ground types, and has the wanted type with
-- these types put in.
pub record FitsType (Q : Program) (types : List Ty) (wanted : FnType) (f : Fun) : Type 0 where
  pub function : IsFunction Q (functions_alone 0 []) f [] (tys_instance types wanted.params) (ty_instance types wanted.result)

-- each function fits the type at its place
pub data FitTypes (Q : Program) (types : List Ty) : List FnType → List Fun → Type 0 where
  none : FitTypes Q types [] []
  more : {F : FnType} {Fs : List FnType} {f : Fun} {fs : List Fun} → FitsType Q types F f → FitTypes Q types Fs fs →
      FitTypes Q types (F ∷ Fs) (f ∷ fs)

-- At these types and functions, and at all values of the variables' types at which each premise is true, some alternative is true.
pub record IsTrueOfAll (Q : Program) (types : List Ty) (funs : List Fun) (clause : Clause) : Type 0 where
  pub at : (rho : List Value) → AreIn Q (tys_instance types clause.vars) rho → AreTrueAt Q types funs rho clause.premises →
      SomeIsTrueAt Q types funs rho clause.alternatives

-- The function has the property in Q: the property fits its type, and the clause, read for this function alone, is true of all values.
pub record HasInProgram (Q : Program) (f : Fun) (p : Prop) : Type 0 where
  pub subject : Subject
  pub is_subject : IsSubject Q (functions_alone 0 []) f [] subject
  pub result : HasResult subject p
  pub is_true : IsTrueOfAll Q [] [] (clause_for subject p 0 [])

-- The function fits the type, and has each property that the type assumes.
pub record FitsFully (Q : Program) (types : List Ty) (wanted : FnType) (f : Fun) : Type 0 where
  pub fits : FitsType Q types wanted f
  pub has : (p : Prop) → HasProp wanted.props p → HasInProgram Q f p

-- each function fits the type at its place, with the properties that it assumes
pub data FunctionsFit (Q : Program) (types : List Ty) : List FnType → List Fun → Type 0 where
  none : FunctionsFit Q types [] []
  more : {F : FnType} {Fs : List FnType} {f : Fun} {fs : List Fun} → FitsFully Q types F f → FunctionsFit Q types Fs fs →
      FunctionsFit Q types (F ∷ Fs) (f ∷ fs)

-- in the one program Q the clause is true at all ground types and all fitting functions
pub record HoldsInProgram (Q : Program) (clause : Clause) : Type 0 where
  pub at : (types : List Ty) → length types ≡ clause.tparams → AreTypes Q 0 types → (funs : List Fun) → FunctionsFit Q types clause.funs funs →
      IsTrueOfAll Q types funs clause

-- the clause holds in every extension of the program
pub record HoldsInExtensions (P : Program) (clause : Clause) : Type 0 where
  pub in_each : (Q : Program) → IsExtension Q P → HoldsInProgram Q clause

-- a value for each variable number: of its type where the variable is live, any where it is not
pub data FitValues (Q : Program) (types : List Ty) : List (Option Ty) → List Value → Type 0 where
  none : FitValues Q types [] []
  live : {T : Ty} {v : Value} {vars : List (Option Ty)} {rho : List Value} → IsIn Q (ty_instance types T) v → FitValues Q types vars rho →
      FitValues Q types (Some T ∷ vars) (v ∷ rho)
  gone : {v : Value} {vars : List (Option Ty)} {rho : List Value} → FitValues Q types vars rho → FitValues Q types (None ∷ vars) (v ∷ rho)
