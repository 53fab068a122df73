-- Equations with a term put in for a variable, and with another term on one side.
use Rattle.std.specs.Prelude.{ℕ, List, map}
use Rattle.px_terms.specs.declared.clause.Equation.{Equation}
use Rattle.px_terms.specs.declared.term.Term.{Term}
use Rattle.px_terms.specs.declared.row.Side.{Side}
use Rattle.px_terms.specs.declared.row.Side.TheVariants.{Left, Right}
use Rattle.px_terms.specs.Terms.{term_put}

-- the equation with a term put in for one free variable of both sides
abbrev pub equation_put : ℕ → Term → Equation → Equation
equation_put variable by e = record { left = term_put variable by e.left; right = term_put variable by e.right }

-- each equation with a term put in for one free variable
abbrev pub equations_put : ℕ → Term → List Equation → List Equation
equations_put variable by = map (equation_put variable by)

-- the equation with another term on one side
abbrev pub with_side : Side → Equation → Term → Equation
with_side Left e term = record e { left = term }
with_side Right e term = record e { right = term }
