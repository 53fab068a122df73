-- Sequents: the first one of an obligation, their limits, and what a row changes in them.
use Rattle.std.specs.Prelude.{ℕ, ◌≤◌, List, length, map, slice_set, Option, All, IfSome}
use Rattle.px_terms.specs.declared.types.Ty.{Ty}
use Rattle.px_terms.specs.declared.term.Term.{Term}
use Rattle.px_terms.specs.declared.clause.Equation.{Equation}
use Rattle.px_terms.specs.declared.clause.Clause.{Clause}
use Rattle.px_terms.specs.declared.sequent.Present.{Present}
use Rattle.px_terms.specs.declared.sequent.Frame.{Frame}
use Rattle.px_terms.specs.declared.sequent.Sequent.{Sequent}
use Rattle.px_terms.specs.declared.row.Side.{Side}
use Rattle.px_terms.specs.declared.row.Side.TheVariants.{Left, Right}
use Rattle.px_base.specs.declared.limits.TheConstants.{SEQUENT_NODES, SEQUENT_DEPTH, FACTS, VARIABLES}
use Rattle.px_terms.specs.Types.{ty_size, ty_depth}
use Rattle.px_terms.specs.Terms.{term_size, term_depth, term_put}
use Rattle.px_terms.specs.TreeEdits.{with_side}
use Rattle.px_terms.specs.Typing.{live}

-- a side of an equation
abbrev pub side_of : Equation → Side → Term
side_of e Left = e.left
side_of e Right = e.right

-- the frame of some variables, each with itself as present term
abbrev pub own_frame : (ℕ → Term) → List ℕ → Frame
own_frame free on = record { entries = map (λ (v : ℕ). record { variable = v; term = free v }) on }

-- the first sequent of an obligation: the clause's data variables, its premises as facts, its alternatives
abbrev pub first_sequent : Clause → Frame → Sequent
first_sequent clause frame = record { context = record { tparams = clause.tparams; funs = clause.funs; vars = live clause.vars }; frame = frame; facts = clause.premises; alternatives = clause.alternatives; next = length clause.vars }

-- the term is within the limits of a sequent
pub record IsSmall (t : Term) : Type 0 where
  pub nodes : term_size t ≤ SEQUENT_NODES
  pub depth : term_depth t ≤ SEQUENT_DEPTH

-- the type is within the limits of a sequent
pub record IsSmallType (T : Ty) : Type 0 where
  pub nodes : ty_size T ≤ SEQUENT_NODES
  pub depth : ty_depth T ≤ SEQUENT_DEPTH

-- both sides are within the limits
pub record IsSmallEquation (e : Equation) : Type 0 where
  pub left : IsSmall e.left
  pub right : IsSmall e.right

-- the sequent is within the limits: its terms, the types of its live variables, its facts and its variables
pub record IsWithinLimits (s : Sequent) : Type 0 where
  pub vars : All (λ (v : Option Ty). IfSome v IsSmallType) s.context.vars
  pub present : All (λ (p : Present). IsSmall p.term) s.frame.entries
  pub facts : All IsSmallEquation s.facts
  pub alternatives : All IsSmallEquation s.alternatives
  pub few_facts : length s.facts ≤ FACTS
  pub few_variables : s.next ≤ VARIABLES

-- the sequent with another side of one alternative
abbrev pub with_alternative_side : Sequent → ℕ → Equation → Side → Term → Sequent
with_alternative_side s n e side t = record s { alternatives = slice_set s.alternatives n (with_side side e t) }

-- the sequent with another side of one fact
abbrev pub with_fact_side : Sequent → ℕ → Equation → Side → Term → Sequent
with_fact_side s n e side t = record s { facts = slice_set s.facts n (with_side side e t) }

-- a term is put in for a variable in each present term
abbrev pub frame_put : ℕ → Term → Frame → Frame
frame_put v by f = record { entries = map (λ (p : Present). record { variable = p.variable; term = term_put v by p.term }) f.entries }
