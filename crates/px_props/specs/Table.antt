-- What the sides of the table of properties stand for.
use Rattle.std.specs.Prelude.{◌≡◌, Bool, true, false}
use Rattle.px_terms.specs.declared.term.Term.{Term}
use Rattle.px_terms.specs.declared.clause.Equation.{Equation}
use Rattle.px_terms.specs.Programs.{bool_type, true_term, false_term}
use Rattle.px_terms.specs.Clauses.{Subject, applied, x_of, y_of, z_of}
use Rattle.px_props.specs.declared.table.Asked.{Asked}
use Rattle.px_props.specs.declared.table.Asked.TheVariants as asked
use Rattle.px_props.specs.declared.table.Name.{Name}
use Rattle.px_props.specs.declared.table.Name.TheVariants.{X, Y, Z}
use Rattle.px_props.specs.declared.table.Side.{Side}
use Rattle.px_props.specs.declared.table.Side.TheVariants.{Variable, Truth, Once, Left, Right}
use Rattle.px_props.specs.declared.table.Sides.{Sides}

-- the result is as the property asks
abbrev pub IsAsked : Subject → Asked → Type 0
IsAsked s asked.Any = Unit {0}
IsAsked s asked.Last = s.result ≡ s.last
IsAsked s asked.Truth = s.result ≡ bool_type

-- the variable of the name
abbrev pub variable : Subject → Name → Term
variable s X = x_of s
variable s Y = y_of s
variable s Z = z_of s

-- the truth value, as a term
abbrev pub truth_term : Bool → Term
truth_term true = true_term
truth_term false = false_term

-- the side, as a term
abbrev pub side_term : Subject → Side → Term
side_term s (Variable a) = variable s a
side_term s (Truth holds) = truth_term holds
side_term s (Once a b) = applied s (variable s a) (variable s b)
side_term s (Left a b c) = applied s (applied s (variable s a) (variable s b)) (variable s c)
side_term s (Right a b c) = applied s (variable s a) (applied s (variable s b) (variable s c))

-- the two sides, as an equation
abbrev pub equation_of : Subject → Sides → Equation
equation_of s e = record { left = side_term s e.left; right = side_term s e.right }
