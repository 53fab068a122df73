-- The typed terms of a sequent have values, at all types, functions and values that fit its variables.
use Rattle.std.proofs.Common.{◌≡◌, ℕ, List, slice_get, Some}
use Rattle.std.specs.Prelude.{All}
use Rattle.px_terms.specs.declared.types.Ty.{Ty}
use Rattle.px_terms.specs.declared.types.FnType.{FnType}
use Rattle.px_terms.specs.declared.types.Fun.{Fun}
use Rattle.px_terms.specs.declared.term.Term.{Term}
use Rattle.px_terms.specs.declared.term.Value.{Value}
use Rattle.px_terms.specs.declared.clause.Equation.{Equation}
use Rattle.px_terms.specs.declared.program.Program.{Program}
use Rattle.px_terms.specs.declared.sequent.Context.{Context}
use Rattle.px_terms.specs.Types.{ty_instance}
use Rattle.px_terms.specs.Meaning.{Means}
use Rattle.px_terms.specs.Typing.{anywhere, HasType}
use Rattle.px_terms.specs.Extending.{IsWellFounded, FunctionsFit, FitTypes}
use Rattle.px_terms.specs.Extending as fitting
use Rattle.px_terms.specs.TypedSequents.{IsTypedContext, IsTypedEquation}
use Rattle.px_totality.proofs.TypesOfTerms.{all_at}
use Rattle.px_totality.specs.Laws.{ExactlyOne, EachTermHasValue, IsContext}
use Rattle.px_soundness.proofs.Truths.{HaveValues}
use Rattle.px_soundness.specs.Validity.{IsAssignment}

-- functions that fit with their properties fit
pub types_fit : (Q : Program) (types : List Ty) (Fs : List FnType) (fs : List Fun) → FunctionsFit Q types Fs fs → FitTypes Q types Fs fs
types_fit Q types _ _ fitting.FunctionsFit.none = fitting.FitTypes.none
types_fit Q types _ _ (fitting.FunctionsFit.more {Fs = Fs} {fs = fs} one all) = fitting.FitTypes.more one.fits (types_fit Q types Fs fs all)

-- a context of types, as totality sees it
pub is_context : (Q : Program) (context : Context) → IsTypedContext Q context → IsContext Q context
is_context Q context typed = record { vars = typed.vars; results = typed.results }

module _ (has_value : EachTermHasValue) (Q : Program) (founded : IsWellFounded Q) (context : Context) (typed : IsTypedContext Q context) (types : List Ty) (funs : List Fun) (rho : List Value) (given : IsAssignment Q context types funs rho) where
  -- a typed term has exactly one value
  pub value_of : (t : Term) (T : Ty) → HasType Q anywhere context t T → ExactlyOne Q (ty_instance types T) (Means Q types funs rho t)
  value_of t T has = has_value Q founded anywhere context (is_context Q context typed) t T has types given.count given.ground funs (types_fit Q types context.funs funs given.functions) rho given.values

  -- so have both sides of a typed equation
  pub sides_of : (e : Equation) → IsTypedEquation Q context e → HaveValues Q types funs rho e
  sides_of e has =
      let left = value_of e.left has.T has.left in
      let right = value_of e.right has.T has.right in
      record { left = (left.value, left.count, left.given); right = (right.value, right.count, right.given) }

  -- and those of each typed equation of a list
  pub each_has_sides : (es : List Equation) → All (IsTypedEquation Q context) es → (j : ℕ) (e : Equation) → slice_get es j ≡ Some e → HaveValues Q types funs rho e
  each_has_sides es typed_all j e found = sides_of e (all_at (IsTypedEquation Q context) es j e typed_all found)
