use Rattle.std.proofs.Common.{sym, ◌∙◌, ap, Err}
use Rattle.px_terms.specs.Clauses.{functions_alone}
use Rattle.px_equations.proofs.Loops.{not_of}
use Rattle.px_equations.proofs.Opening.{counted, unknown, property_open, one_property, no_property}
use Rattle.px_equations.proofs.open.property_in.Goals as goal

pub clause_of-requires : goal.clause_of-requires
clause_of-requires c =
    counted c.args.all.now c.program-program.result.now c.args.number c.args.own.now c.args.property.head c.args.property.prop c.as_slice-funs.result.now c.known.result
    (c.program-program.ensures.same ∙ c.checked.ensures.same) c.as_slice-funs.ensures
    (c.known.ensures (functions_alone c.args.own.now.tparams c.args.own.now.funs) (sym c.as_slice-funs.ensures))
    c.checked.ensures.checked c.requires (c.has.ensures.0 c.if-not-has.false)

pub returns-then-not-has-clause-open : goal.returns-then-not-has-clause-open
returns-then-not-has-clause-open c =
    unknown c.args.all.now c.program-program.result.now c.args.number c.args.own.now c.args.property.head c.args.property.prop c.as_slice-funs.result.now c.known.result
    (c.program-program.ensures.same ∙ c.checked.ensures.same) c.as_slice-funs.ensures
    (c.known.ensures (functions_alone c.args.own.now.tparams c.args.own.now.funs) (sym c.as_slice-funs.ensures))
    (not_of c.has.result c.has.ensures c.if-not-has.true)

pub returns-then-not-has-clause-only : goal.returns-then-not-has-clause-only
returns-then-not-has-clause-only c =
    unknown c.args.all.now c.program-program.result.now c.args.number c.args.own.now c.args.property.head c.args.property.prop c.as_slice-funs.result.now c.known.result
    (c.program-program.ensures.same ∙ c.checked.ensures.same) c.as_slice-funs.ensures
    (c.known.ensures (functions_alone c.args.own.now.tparams c.args.own.now.funs) (sym c.as_slice-funs.ensures))
    (not_of c.has.result c.has.ensures c.if-not-has.true)

pub returns-in-Ok-clause-open : goal.returns-in-Ok-clause-open
returns-in-Ok-clause-open c =
    property_open c.args.all.now c.program-program.result.now c.args.number c.args.own.now c.args.property.head c.args.property.prop c.as_slice-funs.result.now c.known.result
    (c.program-program.ensures.same ∙ c.checked.ensures.same) c.as_slice-funs.ensures
    (c.known.ensures (functions_alone c.args.own.now.tparams c.args.own.now.funs) (sym c.as_slice-funs.ensures))
    (c.has.ensures.0 c.if-not-has.false) c.in-Ok.clause c.in-Ok.ensures.ok

pub returns-in-Ok-clause-only : goal.returns-in-Ok-clause-only
returns-in-Ok-clause-only c =
    one_property c.args.all.now c.program-program.result.now c.args.number c.args.own.now c.args.property.head c.args.property.prop c.as_slice-funs.result.now c.known.result
    (c.program-program.ensures.same ∙ c.checked.ensures.same) c.as_slice-funs.ensures
    (c.known.ensures (functions_alone c.args.own.now.tparams c.args.own.now.funs) (sym c.as_slice-funs.ensures))
    c.in-Ok.clause c.in-Ok.ensures.only

pub returns-in-Err-Shape-clause-open : goal.returns-in-Err-Shape-clause-open
returns-in-Err-Shape-clause-open c =
    no_property c.args.all.now c.program-program.result.now c.args.number c.args.own.now c.args.property.head c.args.property.prop c.as_slice-funs.result.now c.known.result
    (c.program-program.ensures.same ∙ c.checked.ensures.same) c.as_slice-funs.ensures
    (c.known.ensures (functions_alone c.args.own.now.tparams c.args.own.now.funs) (sym c.as_slice-funs.ensures))
    (c.clause_of.ensures.shape (c.in-Err-Shape.is ∙ ap (λ e. Err e) c.in-Err-Shape.field-0-is))

pub returns-in-Err-Shape-clause-only : goal.returns-in-Err-Shape-clause-only
returns-in-Err-Shape-clause-only c =
    no_property c.args.all.now c.program-program.result.now c.args.number c.args.own.now c.args.property.head c.args.property.prop c.as_slice-funs.result.now c.known.result
    (c.program-program.ensures.same ∙ c.checked.ensures.same) c.as_slice-funs.ensures
    (c.known.ensures (functions_alone c.args.own.now.tparams c.args.own.now.funs) (sym c.as_slice-funs.ensures))
    (c.clause_of.ensures.shape (c.in-Err-Shape.is ∙ ap (λ e. Err e) c.in-Err-Shape.field-0-is))
