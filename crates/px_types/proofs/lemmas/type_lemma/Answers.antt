use Rattle.px_types.proofs.EndSteps.{ends_as}
use Rattle.px_types.proofs.EquationSteps.{equations_heading, premises_fail, conclusion_fails, lemma_ok}
use Rattle.px_types.proofs.lemmas.type_lemma.Goals as goal

pub returns-in_err-funs : goal.returns-in_err-funs
returns-in_err-funs c =
    ends_as _ _ c.from_residual.result c.in_err-funs.field-0.0 c.from_residual.ensures.1 (equations_heading c.args.program.now c.args.raw.now
    c.in_err-funs.field-0.0 c.in_err-funs.ensures)

pub returns-in_err-premises : goal.returns-in_err-premises
returns-in_err-premises c =
    ends_as _ _ c.from_residual-in_err-premises.result c.in_err-premises.field-0.0 c.from_residual-in_err-premises.ensures.1
    (premises_fail c.args.program.now c.args.raw.now c.in_ok-funs.field-0 c.len.result c.in_ok-funs.ensures c.len.ensures c.in_err-premises.field-0.0
    c.in_err-premises.ensures)

pub returns-in_err-conclusion : goal.returns-in_err-conclusion
returns-in_err-conclusion c =
    ends_as _ _ c.from_residual-in_err-conclusion.result c.in_err-conclusion.field-0.0 c.from_residual-in_err-conclusion.ensures.1
    (conclusion_fails c.args.program.now c.args.raw.now c.in_ok-funs.field-0 c.len.result c.in_ok-funs.ensures c.len.ensures c.in_ok-premises.premises
    c.in_err-conclusion.field-0.0 c.in_ok-premises.ensures c.in_err-conclusion.ensures)

pub returns : goal.returns
returns c =
    lemma_ok c.args.program.now c.args.raw.now c.in_ok-funs.field-0 c.len.result c.in_ok-funs.ensures c.len.ensures c.in_ok-premises.premises
    c.in_ok-conclusion.conclusion c.in_ok-premises.ensures c.in_ok-conclusion.ensures
