use Rattle.std.proofs.Common.{◌↔◌, false, IsTrue, refl, sym, subst, ⊎_elim}
use Rattle.px_terms.specs.Head.{Head}
use Rattle.px_terms.specs.Head.TheVariants.{Def, FnVar}
use Rattle.px_terms.specs.TypedPrograms.{Fits}
use Rattle.px_props.proofs.Answering.{IsCompared, found_fitting, not_fitting, compared_fitting}
use Rattle.px_props.proofs.clauses.fits.Goals as goal

pub returns-in-Some : goal.returns-in-Some
returns-in-Some c =
    let there = found_fitting c.args.program.now c.args.funs.now (Def c.in-Def.number) c.args.prop c.in-Some.function c.in-Some.ensures c.has_few.result c.has_few.ensures in
    subst (λ (h : Head). IsTrue c.has_few.result ↔ Fits c.args.program.now c.args.funs.now h c.args.prop) (sym c.in-Def.is) there

pub returns-in-None : goal.returns-in-None
returns-in-None c =
    let there = not_fitting c.args.program.now c.args.funs.now (Def c.in-Def.number) c.args.prop c.in-None.ensures in
    subst (λ (h : Head). IsTrue false ↔ Fits c.args.program.now c.args.funs.now h c.args.prop) (sym c.in-Def.is) there

pub returns-in-Wle : goal.returns-in-Wle
returns-in-Wle c =
    let stands = ⊎_elim (λ (is : _). subst (IsCompared c.args.program.now c.args.funs.now) (sym is) refl) (λ (is : _). subst (IsCompared c.args.program.now c.args.funs.now) (sym is) refl) c.in-Wle.is in
    compared_fitting c.args.program.now c.args.funs.now c.args.head c.args.prop stands c.fits_comparison.result (c.fits_comparison.ensures c.args.head)

pub returns-in-Some-variable : goal.returns-in-Some-variable
returns-in-Some-variable c =
    let there = found_fitting c.args.program.now c.args.funs.now (FnVar c.in-FnVar.number) c.args.prop c.in-Some-variable.function c.in-Some-variable.ensures c.has_few-in-Some-variable.result c.has_few-in-Some-variable.ensures in
    subst (λ (h : Head). IsTrue c.has_few-in-Some-variable.result ↔ Fits c.args.program.now c.args.funs.now h c.args.prop) (sym c.in-FnVar.is) there

pub returns-in-None-variable : goal.returns-in-None-variable
returns-in-None-variable c =
    let there = not_fitting c.args.program.now c.args.funs.now (FnVar c.in-FnVar.number) c.args.prop c.in-None-variable.ensures in
    subst (λ (h : Head). IsTrue false ↔ Fits c.args.program.now c.args.funs.now h c.args.prop) (sym c.in-FnVar.is) there
