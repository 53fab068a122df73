use Rattle.std.proofs.Common.{sym, subst}
use Rattle.px_terms.specs.declared.program.Program.{Program}
use Rattle.px_terms.specs.Steps.{Step}
use Rattle.px_rewrite.proofs.StepLemmas.{only_one, none_there}
use Rattle.px_rewrite.proofs.steps.step.Goals as goal

pub returns-clause-only : goal.returns-clause-only
returns-clause-only c = λ t one.
    let here = subst (λ (P : Program). Step P c.args.facts.now c.args.term.now c.args.path.now c.args.kind t) (sym c.program.ensures.same) one in
    only_one c.program.result.now c.args.facts.now c.args.term.now c.args.path.now c.args.kind c.stepped.result c.stepped.ensures.ok c.stepped.ensures.only t here

pub returns-clause-no_step : goal.returns-clause-no_step
returns-clause-no_step c = λ is t one.
    let here = subst (λ (P : Program). Step P c.args.facts.now c.args.term.now c.args.path.now c.args.kind t) (sym c.program.ensures.same) one in
    none_there c.program.result.now c.args.facts.now c.args.term.now c.args.path.now c.args.kind c.stepped.result c.stepped.ensures.only is t here
