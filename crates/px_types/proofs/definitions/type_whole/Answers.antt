use Rattle.px_types.proofs.EndSteps.{ends_as}
use Rattle.px_types.proofs.EnvLemmas.{knows_in_body, last_of}
use Rattle.px_types.proofs.Headings.{is_heading, body_heading, body_fails, body_ok}
use Rattle.px_types.proofs.definitions.type_whole.Goals as goal

pub returns-in_err-heading-clause-answers : goal.returns-in_err-heading-clause-answers
returns-in_err-heading-clause-answers c =
    ends_as _ _ c.from_residual.result c.in_err-heading.field-0.0 c.from_residual.ensures.1 (body_heading c.args.program.now c.args.raw.now
    c.in_err-heading.field-0.0 c.in_err-heading.ensures)

pub type_body-found-requires-clause-knows : goal.type_body-found-requires-clause-knows
type_body-found-requires-clause-knows c =
    knows_in_body c.args.program.now c.args.notes.now c.requires.notes c.push.new.self c.in_ok-heading.heading c.len-number.result c.in_ok-push.ensures.ok
    c.len-number.ensures (is_heading c.args.program.now c.args.raw.now c.in_ok-heading.heading c.in_ok-heading.ensures).seen

pub returns-in_err-body-clause-answers : goal.returns-in_err-body-clause-answers
returns-in_err-body-clause-answers c =
    let P = c.args.program.now in
    let found = c.in_err-body.ensures c.in_ok-heading.heading (last_of P.defs c.push.new.self c.in_ok-heading.heading c.len-number.result
    c.in_ok-push.ensures.ok c.len-number.ensures) in
    ends_as _ _ c.from_residual-in_err-body.result c.in_err-body.field-0.0 c.from_residual-in_err-body.ensures.1
    (body_fails P c.args.raw.now c.in_ok-heading.heading c.push.new.self c.len-number.result c.in_err-body.field-0.0 c.in_ok-heading.ensures
    c.in_ok-push.ensures.ok c.len-number.ensures found)

pub returns-clause-answers : goal.returns-clause-answers
returns-clause-answers c =
    let P = c.args.program.now in
    let found = c.in_ok-body.ensures c.in_ok-heading.heading (last_of P.defs c.push.new.self c.in_ok-heading.heading c.len-number.result c.in_ok-push.ensures.ok
    c.len-number.ensures) in
    body_ok P c.args.raw.now c.in_ok-heading.heading c.push.new.self c.take_last-heading.new.items c.len-number.result c.take_last-heading.result
    c.with_body.result c.in_ok-body.body c.in_ok-heading.ensures c.in_ok-push.ensures.ok c.len-number.ensures found c.take_last-heading.ensures
    c.with_body.ensures
