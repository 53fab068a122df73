use Rattle.std.proofs.Common.{◌<◌, ◌≤◌, length}
use Rattle.px_equations.proofs.Loops.{not_of}
use Rattle.px_equations.proofs.TermsSteps.{have_next, have_fail, have_end, uneven}
use Rattle.px_equations.proofs.instances.terms_have.Goals as goal

pub returns-then-terms-vars : goal.returns-then-terms-vars
returns-then-terms-vars c =
    uneven c.args.program.now c.args.filling.now.context.now c.args.filling.now.sigma.now.types c.args.filling.now.sigma.now.terms c.as_slice-terms.result.now
    c.args.filling.now.clause.now.vars c.as_slice-vars.result.now c.as_slice-terms.ensures c.as_slice-vars.ensures c.if-terms-vars.true

pub loop-index-init : goal.loop-index-init
loop-index-init c = (λ e. e, λ e. e)

pub returns-then-not-has : goal.returns-then-not-has
returns-then-not-has c =
    let below : c.loop-index.index < length c.as_slice-vars.result.now = rw (← c.if-terms-vars.false) c.loop-index-test.true in
    have_fail c.args.program.now c.args.filling.now.context.now c.args.filling.now.sigma.now.types c.args.filling.now.sigma.now.terms
    c.as_slice-terms.result.now c.args.filling.now.clause.now.vars c.as_slice-vars.result.now c.as_slice-terms.ensures c.as_slice-vars.ensures
    c.loop-index.index c.index-terms-index.result c.index-vars-index.result c.loop-index-test.true below c.index-terms-index.is c.index-vars-index.is
    (not_of c.in_ok-has.has c.in_ok-has.ensures c.if-not-has.true) c.loop-index.invariant

pub loop-index-preserved : goal.loop-index-preserved
loop-index-preserved c =
    let below : c.loop-index.index < length c.as_slice-vars.result.now = rw (← c.if-terms-vars.false) c.loop-index-test.true in
    have_next c.args.program.now c.args.filling.now.context.now c.args.filling.now.sigma.now.types c.args.filling.now.sigma.now.terms
    c.as_slice-terms.result.now c.args.filling.now.clause.now.vars c.as_slice-vars.result.now c.as_slice-terms.ensures c.as_slice-vars.ensures
    c.loop-index.index c.index-terms-index.result c.index-vars-index.result c.loop-index-test.true below c.index-terms-index.is c.index-vars-index.is
    (c.in_ok-has.ensures.0 c.if-not-has.false) c.loop-index.invariant

pub returns : goal.returns
returns c =
    let over : length c.as_slice-vars.result.now ≤ c.loop-index.index = rw (← c.if-terms-vars.false) c.loop-index-test.false in
    have_end c.args.program.now c.args.filling.now.context.now c.args.filling.now.sigma.now.types c.args.filling.now.sigma.now.terms
    c.as_slice-terms.result.now c.args.filling.now.clause.now.vars c.as_slice-vars.result.now c.as_slice-terms.ensures c.as_slice-vars.ensures
    c.loop-index.index c.loop-index-test.false over c.loop-index.invariant
