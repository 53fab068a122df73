-- Typed sequents: their variables have types, both sides of each equation have one, and so has each present term of the frame.
use Rattle.std.specs.Prelude.{◌≡◌, ℕ, ◌<◌, length, Some, slice_get, All}
use Rattle.px_terms.specs.declared.types.Ty.{Ty}
use Rattle.px_terms.specs.declared.types.FnType.{FnType}
use Rattle.px_terms.specs.declared.clause.Equation.{Equation}
use Rattle.px_terms.specs.declared.program.Program.{Program}
use Rattle.px_terms.specs.declared.sequent.Context.{Context}
use Rattle.px_terms.specs.declared.sequent.Present.{Present}
use Rattle.px_terms.specs.declared.sequent.Sequent.{Sequent}
use Rattle.px_terms.specs.Typing.{anywhere, IsType, AreTypes, HasType}

-- Both sides have one type.
pub record IsTypedEquation (P : Program) (context : Context) (e : Equation) : Type 0 where
  pub T : Ty
  pub left : HasType P anywhere context e.left T
  pub right : HasType P anywhere context e.right T

-- The present term has a type.
pub record IsTypedPresent (P : Program) (context : Context) (p : Present) : Type 0 where
  pub T : Ty
  pub term : HasType P anywhere context p.term T

-- The types of the context's live variables and of its function variables are types.
pub record IsTypedContext (P : Program) (context : Context) : Type 0 where
  pub vars : (n : ℕ) (T : Ty) → slice_get context.vars n ≡ Some (Some T) → IsType P context.tparams T
  pub params : (i : ℕ) (F : FnType) → slice_get context.funs i ≡ Some F → AreTypes P context.tparams F.params
  pub results : (i : ℕ) (F : FnType) → slice_get context.funs i ≡ Some F → IsType P context.tparams F.result

-- Every variable number given out has a place in the context, the variables of the frame are among them, and all parts are typed.
pub record IsTypedSequent (P : Program) (s : Sequent) : Type 0 where
  pub next : s.next ≡ length s.context.vars
  pub context : IsTypedContext P s.context
  pub below : All (λ (p : Present). p.variable < s.next) s.frame.entries
  pub alternatives : All (IsTypedEquation P s.context) s.alternatives
  pub facts : All (IsTypedEquation P s.context) s.facts
  pub present : All (IsTypedPresent P s.context) s.frame.entries
