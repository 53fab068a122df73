use Rattle.std.proofs.Common.{◌<◌, ◌≤◌, length, sym, ◌∙◌}
use Rattle.px_terms.specs.Typing.{IsKnown, behind}
use Rattle.px_equations.proofs.Loops.{not_of}
use Rattle.px_equations.proofs.FunctionSteps.{has_all, open_next, not_typed, not_assumed, open_end, uneven}
use Rattle.px_equations.proofs.functions.are_open.Goals as goal

pub returns-then-funs-takes : goal.returns-then-funs-takes
returns-then-funs-takes c =
    uneven c.args.all.now c.args.number c.args.filling.now.context.now c.args.filling.now.sigma.now.types c.args.filling.now.sigma.now.funs
    c.as_slice-funs.result.now c.args.filling.now.clause.now.funs c.as_slice-takes.result.now c.as_slice-funs.ensures c.as_slice-takes.ensures
    c.if-funs-takes.true

pub loop-index-init : goal.loop-index-init
loop-index-init c = (λ e. e, λ e. e)

pub returns-then-not-is_function : goal.returns-then-not-is_function
returns-then-not-is_function c =
    let below : c.loop-index.index < length c.as_slice-takes.result.now = rw (← c.if-funs-takes.false) c.loop-index-test.true in
    not_typed c.args.all.now c.args.number c.args.filling.now.context.now c.args.filling.now.sigma.now.types c.args.filling.now.sigma.now.funs
    c.as_slice-funs.result.now c.args.filling.now.clause.now.funs c.as_slice-takes.result.now c.as_slice-funs.ensures c.as_slice-takes.ensures
    c.loop-index.index c.index-funs-index.result c.index-takes-index.result c.program-program.result.now c.loop-index-test.true below
    c.index-funs-index.is c.index-takes-index.is (c.program-program.ensures.same ∙ c.checked.ensures.same)
    (not_of c.is_function.result c.is_function.ensures c.if-not-is_function.true) c.loop-index.invariant

pub returns-then-not-includes : goal.returns-then-not-includes
returns-then-not-includes c =
    let below : c.loop-index.index < length c.as_slice-takes.result.now = rw (← c.if-funs-takes.false) c.loop-index-test.true in
    let tells =
    has_all c.known-properties.result c.index-takes-index.result.props
    (IsKnown c.args.all.now (behind c.args.number) c.args.filling.now.context.now c.index-funs-index.result.head) c.includes.result
    (c.known-properties.ensures c.args.filling.now.context.now (sym c.as_slice.ensures)) c.includes.ensures
    in
    not_assumed c.args.all.now c.args.number c.args.filling.now.context.now c.args.filling.now.sigma.now.types c.args.filling.now.sigma.now.funs
    c.as_slice-funs.result.now c.args.filling.now.clause.now.funs c.as_slice-takes.result.now c.as_slice-funs.ensures c.as_slice-takes.ensures
    c.loop-index.index c.index-funs-index.result c.index-takes-index.result c.loop-index-test.true below c.index-funs-index.is c.index-takes-index.is
    (not_of c.includes.result tells c.if-not-includes.true) c.loop-index.invariant

pub loop-index-preserved : goal.loop-index-preserved
loop-index-preserved c =
    let below : c.loop-index.index < length c.as_slice-takes.result.now = rw (← c.if-funs-takes.false) c.loop-index-test.true in
    let tells =
    has_all c.known-properties.result c.index-takes-index.result.props
    (IsKnown c.args.all.now (behind c.args.number) c.args.filling.now.context.now c.index-funs-index.result.head) c.includes.result
    (c.known-properties.ensures c.args.filling.now.context.now (sym c.as_slice.ensures)) c.includes.ensures
    in
    open_next c.args.all.now c.args.number c.args.filling.now.context.now c.args.filling.now.sigma.now.types c.args.filling.now.sigma.now.funs
    c.as_slice-funs.result.now c.args.filling.now.clause.now.funs c.as_slice-takes.result.now c.as_slice-funs.ensures c.as_slice-takes.ensures
    c.loop-index.index c.index-funs-index.result c.index-takes-index.result c.program-program.result.now c.loop-index-test.true below
    c.index-funs-index.is c.index-takes-index.is (c.program-program.ensures.same ∙ c.checked.ensures.same)
    (c.is_function.ensures.0 c.if-not-is_function.false) (tells.0 c.if-not-includes.false) c.loop-index.invariant

pub returns : goal.returns
returns c =
    let over : length c.as_slice-takes.result.now ≤ c.loop-index.index = rw (← c.if-funs-takes.false) c.loop-index-test.false in
    open_end c.args.all.now c.args.number c.args.filling.now.context.now c.args.filling.now.sigma.now.types c.args.filling.now.sigma.now.funs
    c.as_slice-funs.result.now c.args.filling.now.clause.now.funs c.as_slice-takes.result.now c.as_slice-funs.ensures c.as_slice-takes.ensures
    c.loop-index.index c.loop-index-test.false over c.loop-index.invariant
