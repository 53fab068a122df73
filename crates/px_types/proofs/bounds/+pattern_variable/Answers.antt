use Rattle.std.proofs.Common.{◌≡◌, ◌<◌, ◌++◌, List, length, reverse, Some, None, ap, ◌∙◌, sym, arith}
use Rattle.std.specs.Prelude.{slice_get, ◌-◌}
use Rattle.px_terms.specs.declared.types.Ty.{Ty}
use Rattle.px_terms.specs.Types.{ty_instance, tys_instance}
use Rattle.px_types.specs.declared.bounds.Around.{Around, out-Around}
use Rattle.px_types.specs.declared.bounds.Around.TheVariants.{outs-Arm}
use Rattle.px_types.specs.declared.bounds.Around.TheFolds.{map-Around, fold_out-Around}
use Rattle.px_types.specs.Bounds.{bound_step, bound_of}
use Rattle.px_types.proofs.TypeOfSteps.{finds_at, variable_here, variable_later, no_item}
use Rattle.px_types.proofs.bounds.+pattern_variable.Goals as goal

pub returns-then-number-count : goal.returns-then-number-count
returns-then-number-count t c =
    let inner = c.in-Arm in
    let around : bound_of c.args.around.now ≡ reverse (tys_instance inner.types.now inner.fields.now) ++ bound_of inner.outer.now =
    fold_out-Around (List Ty) bound_step c.args.around.now
    ∙ ap (λ y. bound_step (map-Around Around (List Ty) bound_of y)) (ap out-Around inner.is ∙ outs-Arm _ _ _) in
    finds_at _ _ c.pattern_variable.result
    (ap (λ bound. slice_get bound c.args.number) around
    ∙ variable_later (ty_instance inner.types.now) inner.fields.now (bound_of inner.outer.now) c.args.number
    (rw c.len-count.ensures at c.if-number-count.true)
    ∙ ap (λ n. slice_get (bound_of inner.outer.now) (c.args.number - n)) (sym c.len-count.ensures))
    c.pattern_variable.ensures

pub returns-in_ok-instance_of_ty-in-Some : goal.returns-in_ok-instance_of_ty-in-Some
returns-in_ok-instance_of_ty-in-Some t c =
    let inner = c.in-Arm in
    let around : bound_of c.args.around.now ≡ reverse (tys_instance inner.types.now inner.fields.now) ++ bound_of inner.outer.now =
    fold_out-Around (List Ty) bound_step c.args.around.now
    ∙ ap (λ y. bound_step (map-Around Around (List Ty) bound_of y)) (ap out-Around inner.is ∙ outs-Arm _ _ _) in
    let below : c.args.number < length inner.fields.now = rw c.len-count.ensures at c.if-number-count.false in
    let stands : slice_get inner.fields.now (length inner.fields.now - 1 - c.args.number) ≡ Some c.in-Some.ty.now =
    rw (c.as_slice.ensures, c.len-count.ensures) at (sym c.in-Some.ensures) in
    ap (λ bound. slice_get bound c.args.number) around
    ∙ variable_here (ty_instance inner.types.now) inner.fields.now (bound_of inner.outer.now) c.args.number c.in-Some.ty.now below stands
    ∙ ap Some (sym (c.in_ok-instance_of_ty-in-Some.ensures ∙ ap (λ (types : List Ty). ty_instance types c.in-Some.ty.now) c.as_slice-in-Some.ensures))

pub returns-in-None : goal.returns-in-None
returns-in-None t c =
    let inner = c.in-Arm in
    let below : c.args.number < length inner.fields.now = rw c.len-count.ensures at c.if-number-count.false in
    let place : length inner.fields.now - 1 - c.args.number < length inner.fields.now = omega arith in
    let missing : slice_get inner.fields.now (length inner.fields.now - 1 - c.args.number) ≡ None =
    rw (c.as_slice.ensures, c.len-count.ensures) at (sym c.in-None.ensures) in
    absurd (no_item inner.fields.now _ place missing)
