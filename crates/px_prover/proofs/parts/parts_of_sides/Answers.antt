use Rattle.px_prover.proofs.Gathering.{sides_start, sides_next, sides_end, item_small}
use Rattle.px_prover.proofs.parts.parts_of_sides.Goals as goal

pub loop-equation-init : goal.loop-equation-init
loop-equation-init c = sides_start c.new-parts.result c.new-parts.ensures

pub loop-equation-preserved : goal.loop-equation-preserved
loop-equation-preserved c = sides_next c.args.equations.now c.loop-equation.equation-index c.equation-item.result c.loop-equation.parts c.in_ok-more.more c.append.new.self
    c.loop-equation-test.true c.equation-item.is c.loop-equation.invariant c.in_ok-more.ensures c.in_ok-append.ensures

pub returns : goal.returns
returns c = sides_end c.args.equations.now c.loop-equation.equation-index c.loop-equation.parts c.loop-equation-test.false c.loop-equation.invariant

pub parts_of_equation-requires : goal.parts_of_equation-requires
parts_of_equation-requires c = record { small = item_small c.args.equations.now c.loop-equation.equation-index c.equation-item.result c.requires.small c.loop-equation-test.true c.equation-item.is }
