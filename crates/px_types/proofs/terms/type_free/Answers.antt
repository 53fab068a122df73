use Rattle.std.proofs.Common.{List, sym, ◌∙◌, ap}
use Rattle.std.specs.Prelude.{slice_get}
use Rattle.px_terms.specs.declared.types.Ty.{Ty}
use Rattle.px_terms.specs.declared.term.Term.TheVariants as term
use Rattle.px_types.specs.Envs.{env_of}
use Rattle.px_types.specs.Outcome.{type_of_variable}
use Rattle.px_types.proofs.TermSteps.{live_type, variable_is, variable_fails, variable_typed}
use Rattle.px_types.proofs.terms.type_free.Goals as goal

pub returns-in_err-ty : goal.returns-in_err-ty
returns-in_err-ty c =
    let E = env_of c.args.env.now in
    let n = c.args.number in
    let stands = c.at-stands.ensures ∙ ap (λ (vars : List Ty). slice_get vars n) c.as_slice.ensures ∙ sym (live_type c.args.env.now.vars.now n) in
    variable_fails E c.args.place (term.Free n) c.args.types.now _ _ stands (variable_is E (term.Free n) (type_of_variable E n) c.args.types.now c.args.place)
    c.from_residual.result c.in_err-ty.field-0.0 c.from_residual.ensures.1 c.in_err-ty.ensures

pub returns : goal.returns
returns c =
    let E = env_of c.args.env.now in
    let n = c.args.number in
    let stands = c.at-stands.ensures ∙ ap (λ (vars : List Ty). slice_get vars n) c.as_slice.ensures ∙ sym (live_type c.args.env.now.vars.now n) in
    variable_typed E c.args.place (term.Free n) c.args.types.now _ _ stands (variable_is E (term.Free n) (type_of_variable E n) c.args.types.now c.args.place)
    c.in_ok-ty.ty c.in_ok-ty.ensures
