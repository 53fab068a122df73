use Rattle.std.proofs.Common.{List, ap, Some, ◌∙◌, refl}
use Rattle.std.specs.Prelude.{slice_get}
use Rattle.px_terms.specs.declared.types.FnType.{FnType}
use Rattle.px_types.specs.Outcome.{signature_of}
use Rattle.px_types.proofs.HeadSteps.{variable_is}
use Rattle.px_types.proofs.heads.find_called.Goals as goal

pub returns-in_ok-fun-in-FnVar : goal.returns-in_ok-fun-in-FnVar
unfolding signature_of
returns-in_ok-fun-in-FnVar c =
    let stands = c.in_ok-fun-in-FnVar.ensures ∙ ap (λ (funs : List FnType). slice_get funs c.in-FnVar.number) c.as_slice-in-FnVar.ensures in
    ap Some (variable_is c.args.comparison.now c.in_ok-fun-in-FnVar.fun.now c.requires) ∙ rw (c.in-FnVar.is, ← stands) refl
