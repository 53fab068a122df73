use Rattle.px_types.proofs.EndSteps.{ends_as}
use Rattle.px_types.proofs.OrderSteps.{next_fails, next_takes}
use Rattle.px_types.proofs.programs.take_next.Goals as goal

pub returns-in_err-signature : goal.returns-in_err-signature
returns-in_err-signature c d at =
    ends_as _ _ c.from_residual.result c.in_err-signature.field-0.0 c.from_residual.ensures.1 (next_fails c.args.raw.now c.args.checking.now d
    c.in_err-signature.field-0.0 (c.in_err-signature.ensures.answers d at))

pub returns : goal.returns
returns c d at =
    next_takes c.args.raw.now c.args.checking.now d c.in_ok-signature.field-0 c.signature.new.self c.terms.new.self c.terms.result
    (c.in_ok-signature.ensures.answers d at) c.in_ok-signature.ensures.same (c.terms.ensures.answers d at)
