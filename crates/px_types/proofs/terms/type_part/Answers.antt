use Rattle.std.proofs.Common.{reverse}
use Rattle.px_types.specs.Envs.{env_of}
use Rattle.px_types.proofs.Stages.{end_is}
use Rattle.px_types.proofs.TermSteps.{part_here, part_unmet, part_untyped, part_other, part_typed}
use Rattle.px_types.proofs.terms.type_part.Goals as goal

pub returns-in_err-need-clause-answers : goal.returns-in_err-need-clause-answers
unfolding part_here
returns-in_err-need-clause-answers c =
    end_is _ c.from_residual.result c.in_err-need.field-0.0 c.from_residual.ensures.1
    (part_unmet (env_of c.args.env.now) (reverse c.args.bound.now) c.args.raw.now c.args.wanted.now c.ty_met.result c.ty_met.ensures c.in_err-need.field-0.0
    c.in_err-need.ensures)

pub returns-in_err-term-clause-answers : goal.returns-in_err-term-clause-answers
unfolding part_here
returns-in_err-term-clause-answers c =
    end_is _ c.from_residual-in_err-term.result c.in_err-term.field-0.0 c.from_residual-in_err-term.ensures.1
    (part_untyped (env_of c.args.env.now) (reverse c.args.bound.now) c.args.raw.now c.args.wanted.now c.ty_met.result c.ty_met.ensures c.in_ok-need.field-0
    c.in_ok-need.ensures c.in_err-term.field-0.0 c.in_err-term.ensures.answers)

pub returns-in_err-need-2-clause-answers : goal.returns-in_err-need-2-clause-answers
unfolding part_here
returns-in_err-need-2-clause-answers c =
    end_is _ c.from_residual-in_err-need-2.result c.in_err-need-2.field-0.0 c.from_residual-in_err-need-2.ensures.1
    (part_other (env_of c.args.env.now) (reverse c.args.bound.now) c.args.raw.now c.args.wanted.now c.ty_met.result c.ty_met.ensures c.in_ok-need.field-0
    c.in_ok-need.ensures c.in_ok-term.field-0 c.in_ok-term.ensures.answers c.is_same.result c.is_same.ensures c.in_err-need-2.field-0.0 c.in_err-need-2.ensures)

pub returns-clause-answers : goal.returns-clause-answers
unfolding part_here
returns-clause-answers c =
    part_typed (env_of c.args.env.now) (reverse c.args.bound.now) c.args.raw.now c.args.wanted.now c.ty_met.result c.ty_met.ensures c.in_ok-need.field-0
    c.in_ok-need.ensures c.in_ok-term.field-0 c.in_ok-term.ensures.answers c.is_same.result c.is_same.ensures c.in_ok-need-2.field-0 c.in_ok-need-2.ensures
