use Rattle.std.proofs.Common.{take, All}
use Rattle.px_terms.specs.declared.clause.Equation.{Equation}
use Rattle.px_terms.specs.TreeEdits.{equation_put}
use Rattle.px_terms.specs.Sequents.{IsSmallEquation}
use Rattle.px_cases.proofs.put_limits.are_small_equations.Given as goal

abbrev pub invariant-loop-equation : goal.invariant-loop-equation
invariant-loop-equation l = All (λ (e : Equation). IsSmallEquation (equation_put l.put.variable l.put.by.now e)) (take l.equation-index l.equations)
