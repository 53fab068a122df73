use Rattle.std.proofs.Common.{◌≤◌, length}
use Rattle.px_descent.proofs.Lists.{item_at}
use Rattle.px_descent.proofs.Deciding.{serves_descends}
use Rattle.px_descent.proofs.Ending.{descend_more, descend_all, first_named, first_passed, named_excludes}
use Rattle.px_descent.proofs.descent.check_descent.Goals as goal

pub loop-number-preserved : goal.loop-number-preserved
loop-number-preserved c =
    let P = c.args.program.now in
    let D = c.definition-item.result in
    let there = item_at P.defs c.as_slice-definition-items.result.now c.loop-number.number D c.as_slice-definition-items.ensures
    c.loop-number-test.true c.definition-item.is in
    descend_more P c.loop-number.number D there c.loop-number.invariant
    (serves_descends P c.loop-number.number D c.in_ok-check_definition.ensures.descends)

pub returns-clause-descends : goal.returns-clause-descends
returns-clause-descends c =
    let past : length c.args.program.now.defs ≤ c.loop-number.number = rw (← c.as_slice-definition-items.ensures) c.loop-number-test.false in
    descend_all c.args.program.now c.loop-number.number past c.loop-number.invariant

pub returns-in_err-check_definition-clause-first : goal.returns-in_err-check_definition-clause-first
returns-in_err-check_definition-clause-first c =
    let P = c.args.program.now in
    let D = c.definition-item.result in
    let end = c.in_err-check_definition.field-0.0 in
    let there = item_at P.defs c.as_slice-definition-items.result.now c.loop-number.number D c.as_slice-definition-items.ensures
    c.loop-number-test.true c.definition-item.is in
    first_passed P c.from_residual.result end c.from_residual.ensures.1
    (first_named P c.loop-number.number D end there c.loop-number.invariant c.in_err-check_definition.ensures.first)

pub returns-in_err-check_definition-clause-only : goal.returns-in_err-check_definition-clause-only
returns-in_err-check_definition-clause-only c all =
    let P = c.args.program.now in
    let D = c.definition-item.result in
    let end = c.in_err-check_definition.field-0.0 in
    let there = item_at P.defs c.as_slice-definition-items.result.now c.loop-number.number D c.as_slice-definition-items.ensures
    c.loop-number-test.true c.definition-item.is in
    absurd (named_excludes P end (first_named P c.loop-number.number D end there c.loop-number.invariant c.in_err-check_definition.ensures.first) all)
