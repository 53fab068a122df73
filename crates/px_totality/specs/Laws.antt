-- What is said of every program that is typed and descends: each call, and each typed term, has exactly one value.
use Rattle.std.specs.Prelude.{◌≡◌, ℕ, List, [], length, Some, slice_get}
use Rattle.px_terms.specs.Head.TheVariants.{Def}
use Rattle.px_terms.specs.declared.types.Ty.{Ty}
use Rattle.px_terms.specs.declared.types.FnType.{FnType}
use Rattle.px_terms.specs.declared.types.Fun.{Fun}
use Rattle.px_terms.specs.declared.term.Term.{Term}
use Rattle.px_terms.specs.declared.term.Value.{Value}
use Rattle.px_terms.specs.declared.clause.Clause.{Clause}
use Rattle.px_terms.specs.declared.program.Def as definition
use Rattle.px_terms.specs.declared.program.Program.{Program}
use Rattle.px_terms.specs.declared.sequent.Context.{Context}
use Rattle.px_terms.specs.Types.{ty_instance, tys_instance}
use Rattle.px_terms.specs.Values.{IsIn, AreIn}
use Rattle.px_terms.specs.Meaning.{Gives, Means}
use Rattle.px_terms.specs.Typing.{Place, IsType, AreTypes, HasType}
use Rattle.px_terms.specs.Obligations.{IsObligation}
use Rattle.px_terms.specs.Extending.{IsWellFounded, IsExtension, FitsType, FitTypes, FitValues, HoldsInExtensions}

-- Of what is said of values with their counts there is exactly one, and the value is in the type.
pub record ExactlyOne (Q : Program) (T : Ty) (IsGiven : Value → ℕ → Type 0) : Type 0 where
  pub value : Value
  pub count : ℕ
  pub given : IsGiven value count
  pub in_type : IsIn Q T value
  pub no_other : (v : Value) (c : ℕ) → IsGiven v c → (v ≡ value) × (c ≡ count)

-- in Q a definition on functions that fit and values of its parameters' types gives exactly one value with one count, at all ground types
abbrev pub CallsHaveValue : Program → Type 0
CallsHaveValue Q =
    (n : ℕ) (D : definition.Def) → slice_get Q.defs n ≡ Some D →
    (types : List Ty) → length types ≡ D.tparams → AreTypes Q 0 types → (funs : List Fun) → FitTypes Q types D.funs funs →
    (vs : List Value) → AreIn Q (tys_instance types D.params) vs →
    ExactlyOne Q (ty_instance types D.result) (Gives Q (record { head = Def n; types = types }) funs vs)

-- so in every program that is typed and descends
abbrev pub EachCallHasValue : Type 0
EachCallHasValue = (Q : Program) → IsWellFounded Q → CallsHaveValue Q

-- in Q a function that fits a type, a built-in too, gives exactly one value with one count on values of its parameters' types
abbrev pub FunctionsHaveValue : Program → Type 0
FunctionsHaveValue Q =
    (types : List Ty) (F : FnType) (f : Fun) → FitsType Q types F f →
    (vs : List Value) → AreIn Q (tys_instance types F.params) vs → ExactlyOne Q (ty_instance types F.result) (Gives Q f [] vs)

-- so in every program that is typed and descends
abbrev pub EachFunctionHasValue : Type 0
EachFunctionHasValue = (Q : Program) → IsWellFounded Q → FunctionsHaveValue Q

-- The types of a context's variables are types.
pub record IsContext (Q : Program) (context : Context) : Type 0 where
  pub vars : (n : ℕ) (T : Ty) → slice_get context.vars n ≡ Some (Some T) → IsType Q context.tparams T
  pub results : (i : ℕ) (F : FnType) → slice_get context.funs i ≡ Some F → IsType Q context.tparams F.result

-- in Q a typed term has exactly one value with one count, at all ground types, functions that fit and values that fit its variables
abbrev pub TermsHaveValue : Program → Type 0
TermsHaveValue Q =
    (place : Place) (context : Context) → IsContext Q context → (t : Term) (T : Ty) → HasType Q place context t T →
    (types : List Ty) → length types ≡ context.tparams → AreTypes Q 0 types → (funs : List Fun) → FitTypes Q types context.funs funs →
    (rho : List Value) → FitValues Q types context.vars rho → ExactlyOne Q (ty_instance types T) (Means Q types funs rho t)

-- so in every program that is typed and descends
abbrev pub EachTermHasValue : Type 0
EachTermHasValue = (Q : Program) → IsWellFounded Q → TermsHaveValue Q

-- A program that is typed and descends is an extension of itself, and an extension of an extension is one.
pub record ExtensionsCompose : Type 0 where
  pub itself : (P : Program) → IsWellFounded P → IsExtension P P
  pub further : (P Q R : Program) → IsExtension R Q → IsExtension Q P → IsExtension R P

-- What is typed in a program, each obligation with its clause, and what holds, stays so in an extension.
pub record ExtensionsKeep : Type 0 where
  pub typing : (P Q : Program) → IsExtension Q P → (place : Place) (context : Context) (t : Term) (T : Ty) → HasType P place context t T →
      HasType Q place context t T
  pub obligation : (P Q : Program) → IsExtension Q P → (n : ℕ) (clause : Clause) → IsObligation P n clause → IsObligation Q n clause
  pub holding : (P Q : Program) → IsExtension Q P → (clause : Clause) → HoldsInExtensions P clause → HoldsInExtensions Q clause
