use Rattle.px_equations.specs.Listed.{AreListed}
use Rattle.px_equations.proofs.clauses.clauses_of.Given as goal

abbrev pub invariant-loop-number : goal.invariant-loop-number
invariant-loop-number l = AreListed l.program l.clauses l.number
