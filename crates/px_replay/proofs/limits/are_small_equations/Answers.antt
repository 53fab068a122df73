use Rattle.std.proofs.Common.{refl}
use Rattle.px_terms.specs.Sequents.{IsSmallEquation}
use Rattle.px_replay.proofs.Lists.{all_one_more, all_whole}
use Rattle.px_replay.proofs.limits.are_small_equations.Goals as goal

pub loop-equation-preserved : goal.loop-equation-preserved
loop-equation-preserved c = all_one_more IsSmallEquation c.args.equations.now c.loop-equation.equation-index c.equation-item.result c.loop-equation-test.true c.equation-item.is c.loop-equation.invariant (c.is_small_equation.ensures.0 c.if-not-is_small_equation.false)

pub returns : goal.returns
returns c = (λ _. all_whole IsSmallEquation c.args.equations.now c.loop-equation.equation-index c.loop-equation-test.false c.loop-equation.invariant, λ _. refl)
