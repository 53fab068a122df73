use Rattle.std.proofs.Common.{◌-◌, length, refl}
use Rattle.px_scope.proofs.DefinitionSteps.{opened}
use Rattle.px_scope.proofs.ReplicaSteps.{lemma_heading_fails, lemma_premises_fail, lemma_conclusion_fails, lemma_fine}
use Rattle.px_scope.proofs.declarations.resolve_lemma.Goals as goal

pub returns-in_err-locals : goal.returns-in_err-locals
returns-in_err-locals c =
    lemma_heading_fails c.args.text.now c.args.globals.now c.args.lemma.now c.in_ok-check_new.ensures.0 _ c.from_residual-in_err-locals.result c.in_err-locals.field-0.0 c.from_residual-in_err-locals.ensures.1 c.as_slice.result.now c.as_slice-2.result.now c.as_slice.ensures c.as_slice-2.ensures c.in_err-locals.ensures

pub returns-in_err-premises : goal.returns-in_err-premises
returns-in_err-premises c =
    lemma_premises_fail c.args.text.now c.args.globals.now c.args.lemma.now c.in_ok-check_new.ensures.0 c.in_ok-locals.field-0.locals c.in_ok-locals.field-0.params c.as_slice.result.now c.as_slice-2.result.now c.as_slice.ensures c.as_slice-2.ensures c.in_ok-locals.ensures.0
    (opened c.args.globals.now c.as_slice.result.now c.as_slice-2.result.now c.in_ok-locals.field-0 c.in_ok-locals.field-0.locals c.in_ok-locals.field-0.params refl refl c.in_ok-locals.ensures.1)
    c.declare.new.globals c.in_ok-declare.ensures.declared c.as_slice-equations.result.now c.as_slice-equations.ensures (length c.as_slice-equations.result.now - 1) (rw (c.as_slice-equations.ensures) c.requires.equations) refl
    _ c.from_residual-in_err-premises.result c.in_err-premises.field-0.0 c.from_residual-in_err-premises.ensures.1 c.in_err-premises.ensures.resolves

pub returns-in_err-conclusion : goal.returns-in_err-conclusion
returns-in_err-conclusion c =
    let here = rw c.in_ok-premises.ensures.locals at c.in_err-conclusion.ensures.resolves in
    lemma_conclusion_fails c.args.text.now c.args.globals.now c.args.lemma.now c.in_ok-check_new.ensures.0 c.in_ok-locals.field-0.locals c.in_ok-locals.field-0.params c.as_slice.result.now c.as_slice-2.result.now c.as_slice.ensures c.as_slice-2.ensures c.in_ok-locals.ensures.0
    (opened c.args.globals.now c.as_slice.result.now c.as_slice-2.result.now c.in_ok-locals.field-0 c.in_ok-locals.field-0.locals c.in_ok-locals.field-0.params refl refl c.in_ok-locals.ensures.1)
    c.declare.new.globals c.in_ok-declare.ensures.declared c.as_slice-equations.result.now c.as_slice-equations.ensures (length c.as_slice-equations.result.now - 1) (rw (c.as_slice-equations.ensures) c.requires.equations) refl
    c.in_ok-premises.ensures.resolves.0
    _ c.from_residual-in_err-conclusion.result c.in_err-conclusion.field-0.0 c.from_residual-in_err-conclusion.ensures.1 c.index-equations-last.result c.index-equations-last.is here

pub returns : goal.returns
returns c =
    let here = rw c.in_ok-premises.ensures.locals at c.in_ok-conclusion.ensures.resolves in
    lemma_fine c.args.text.now c.args.globals.now c.args.lemma.now c.in_ok-check_new.ensures.0 c.in_ok-locals.field-0.locals c.in_ok-locals.field-0.params c.as_slice.result.now c.as_slice-2.result.now c.as_slice.ensures c.as_slice-2.ensures c.in_ok-locals.ensures.0
    (opened c.args.globals.now c.as_slice.result.now c.as_slice-2.result.now c.in_ok-locals.field-0 c.in_ok-locals.field-0.locals c.in_ok-locals.field-0.params refl refl c.in_ok-locals.ensures.1)
    c.declare.new.globals c.in_ok-declare.ensures.declared c.as_slice-equations.result.now c.as_slice-equations.ensures (length c.as_slice-equations.result.now - 1) (rw (c.as_slice-equations.ensures) c.requires.equations) refl
    c.in_ok-premises.ensures.resolves.0 c.index-equations-last.result c.index-equations-last.is c.in_ok-premises.premises c.in_ok-conclusion.conclusion c.len.result c.in_ok-premises.ensures.resolves.1 here c.len.ensures
