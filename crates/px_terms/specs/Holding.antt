-- When equations are true at types, functions and values of the variables.
use Rattle.std.specs.Prelude.{List, [], ◌∷◌}
use Rattle.px_terms.specs.declared.types.Ty.{Ty}
use Rattle.px_terms.specs.declared.types.Fun.{Fun}
use Rattle.px_terms.specs.declared.term.Value.{Value}
use Rattle.px_terms.specs.declared.clause.Equation.{Equation}
use Rattle.px_terms.specs.declared.program.Program.{Program}
use Rattle.px_terms.specs.Meaning.{SameValue}

-- both sides of the equation have one value
abbrev pub IsTrueAt : Program → List Ty → List Fun → List Value → Equation → Type 0
IsTrueAt Q types funs rho e = SameValue Q types funs rho e.left e.right

-- each equation of the list is true
abbrev pub AreTrueAt : Program → List Ty → List Fun → List Value → List Equation → Type 0
AreTrueAt Q types funs rho [] = Unit {0}
AreTrueAt Q types funs rho (e ∷ es) = IsTrueAt Q types funs rho e × AreTrueAt Q types funs rho es

-- some equation of the list is true
pub data SomeIsTrueAt (Q : Program) (types : List Ty) (funs : List Fun) (rho : List Value) : List Equation → Type 0 where
  here : {e : Equation} {es : List Equation} → IsTrueAt Q types funs rho e → SomeIsTrueAt Q types funs rho (e ∷ es)
  later : {e : Equation} {es : List Equation} → SomeIsTrueAt Q types funs rho es → SomeIsTrueAt Q types funs rho (e ∷ es)
