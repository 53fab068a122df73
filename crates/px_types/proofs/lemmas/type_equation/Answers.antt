use Rattle.px_types.specs.Envs.{env_of}
use Rattle.px_types.proofs.Stages.{end_is}
use Rattle.px_types.proofs.EquationSteps.{left_fails, right_fails, equation_ok}
use Rattle.px_types.proofs.lemmas.type_equation.Goals as goal

pub returns-in_err-term : goal.returns-in_err-term
returns-in_err-term c =
    end_is _ c.from_residual.result c.in_err-term.field-0.0 c.from_residual.ensures.1 (left_fails (env_of c.args.env.now) c.args.raw.now c.new-bound.result
    c.in_err-term.field-0.0 c.new-bound.ensures c.in_err-term.ensures.answers)

pub returns-in_err-right : goal.returns-in_err-right
returns-in_err-right c =
    end_is _ c.from_residual-in_err-right.result c.in_err-right.field-0.0 c.from_residual-in_err-right.ensures.1
    (right_fails (env_of c.args.env.now) c.args.raw.now c.new-bound.result c.type_term.new.bound c.in_ok-term.field-0 c.in_err-right.field-0.0
    c.new-bound.ensures c.in_ok-term.ensures.bound c.in_ok-term.ensures.answers c.in_err-right.ensures.answers)

pub returns : goal.returns
returns c =
    equation_ok (env_of c.args.env.now) c.args.raw.now c.new-bound.result c.type_term.new.bound c.in_ok-term.field-0 c.in_ok-right.right c.new-bound.ensures
    c.in_ok-term.ensures.bound c.in_ok-term.ensures.answers c.in_ok-right.ensures.answers
