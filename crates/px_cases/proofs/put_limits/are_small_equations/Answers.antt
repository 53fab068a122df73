use Rattle.std.proofs.Common.{refl}
use Rattle.px_terms.specs.declared.clause.Equation.{Equation}
use Rattle.px_terms.specs.TreeEdits.{equation_put}
use Rattle.px_terms.specs.Sequents.{IsSmallEquation}
use Rattle.px_cases.proofs.Lists.{all_one_more, all_whole, one_fails}
use Rattle.px_cases.proofs.put_limits.are_small_equations.Goals as goal

pub returns-then-not-is_small_equation : goal.returns-then-not-is_small_equation
returns-then-not-is_small_equation c = one_fails (λ (e : Equation). IsSmallEquation (equation_put c.args.put.now.variable c.args.put.now.by.now e)) c.args.equations.now c.loop-equation.equation-index c.equation-item.result c.is_small_equation.result c.loop-equation-test.true c.equation-item.is c.is_small_equation.ensures c.if-not-is_small_equation.true

pub loop-equation-preserved : goal.loop-equation-preserved
loop-equation-preserved c = all_one_more (λ (e : Equation). IsSmallEquation (equation_put c.args.put.now.variable c.args.put.now.by.now e)) c.args.equations.now c.loop-equation.equation-index c.equation-item.result c.loop-equation-test.true c.equation-item.is c.loop-equation.invariant (c.is_small_equation.ensures.0 c.if-not-is_small_equation.false)

pub returns : goal.returns
returns c = (λ _. all_whole (λ (e : Equation). IsSmallEquation (equation_put c.args.put.now.variable c.args.put.now.by.now e)) c.args.equations.now c.loop-equation.equation-index c.loop-equation-test.false c.loop-equation.invariant, λ _. refl)
