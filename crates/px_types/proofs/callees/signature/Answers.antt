use Rattle.std.proofs.Common.{List, Some, refl, sym, ◌∙◌, ap}
use Rattle.std.specs.Prelude.{slice_get}
use Rattle.px_terms.specs.declared.types.FnType.{FnType}
use Rattle.px_types.specs.Outcome.{signature_of}
use Rattle.px_types.proofs.HeadSteps.{variable_is}
use Rattle.px_types.proofs.callees.signature.Goals as goal

pub returns-in-Some-at : goal.returns-in-Some-at
unfolding signature_of
returns-in-Some-at c =
    let stands = c.in-Some-at.ensures ∙ ap (λ (funs : List FnType). slice_get funs c.in-FnVar.number) c.as_slice-in-FnVar.ensures in
    rw (c.in-FnVar.is, ← stands) refl ∙ ap Some (sym (variable_is c.args.scope.now.comparison.now c.in-Some-at.fun.now c.args.scope.now.compares))
