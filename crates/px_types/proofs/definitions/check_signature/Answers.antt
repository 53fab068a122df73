use Rattle.px_types.proofs.Stages.{end_is}
use Rattle.px_types.proofs.Headings.{put_back, some_pushed, signature_heading, signature_assumed, signature_props}
use Rattle.px_types.proofs.definitions.check_signature.Goals as goal

pub returns-in_err-heading-clause-answers : goal.returns-in_err-heading-clause-answers
returns-in_err-heading-clause-answers c =
    end_is _ c.from_residual.result c.in_err-heading.field-0.0 c.from_residual.ensures.1 (signature_heading c.args.program.now c.args.raw.now
    c.in_err-heading.field-0.0 c.in_err-heading.ensures)

pub returns-in_err-check_assumed-clause-answers : goal.returns-in_err-check_assumed-clause-answers
returns-in_err-check_assumed-clause-answers c =
    end_is _ c.from_residual-in_err-check_assumed.result c.in_err-check_assumed.field-0.0 c.from_residual-in_err-check_assumed.ensures.1
    (signature_assumed c.args.program.now c.args.raw.now c.in_ok-heading.heading c.as_slice.result.now c.as_slice-2.result.now
    c.in_err-check_assumed.field-0.0 c.in_ok-heading.ensures c.as_slice.ensures c.as_slice-2.ensures c.in_err-check_assumed.ensures)

pub take_last-requires : goal.take_last-requires
take_last-requires c = some_pushed c.args.program.now.defs c.push.new.self c.in_ok-heading.heading c.in_ok-push.ensures.ok

pub returns-clause-same : goal.returns-clause-same
returns-clause-same c =
    put_back c.args.program.now c.push.new.self c.take_last.new.items c.in_ok-heading.heading c.take_last.result c.in_ok-push.ensures.ok c.take_last.ensures

pub returns-clause-answers : goal.returns-clause-answers
returns-clause-answers c =
    signature_props c.args.program.now c.args.raw.now c.in_ok-heading.heading c.as_slice.result.now c.as_slice-2.result.now c.in_ok-check_assumed.field-0
    c.push.new.self c.len.result c.as_slice-3.result.now c.check_props-fit.result
    c.in_ok-heading.ensures c.as_slice.ensures c.as_slice-2.ensures c.in_ok-check_assumed.ensures c.in_ok-push.ensures.ok c.len.ensures c.as_slice-3.ensures
    c.check_props-fit.ensures
