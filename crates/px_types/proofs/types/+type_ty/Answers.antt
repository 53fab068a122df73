use Rattle.std.proofs.Common.{◌≡◌, Ok, ◌∙◌, ap, sym}
use Rattle.px_types.specs.Outcome.{ty_found, tys_found}
use Rattle.px_types.proofs.Stages.{stage, end_is, passed_on}
use Rattle.px_types.proofs.Loops.{each_start, each_next, each_fails, each_end}
use Rattle.px_types.proofs.TypesExact.{ty_found_is}
use Rattle.px_types.proofs.types.+type_ty.Goals as goal

pub type_ty-returns-in_err-need : goal.type_ty-returns-in_err-need
type_ty-returns-in_err-need t c =
    passed_on _ _ _ (ty_found_is c.args.program.now c.args.tparams c.args.raw.now) c.from_residual.result c.in_err-need.field-0.0 c.from_residual.ensures.1 (rw c.has_count.ensures at c.in_err-need.ensures)

pub type_ty-returns-in_err-need-2 : goal.type_ty-returns-in_err-need-2
type_ty-returns-in_err-need-2 t c =
    let first = stage _ _ (ty_found_is c.args.program.now c.args.tparams c.args.raw.now) tt (rw c.has_count.ensures at c.in_ok-need.ensures) in
    passed_on _ _ _ first c.from_residual-in_err-need-2.result c.in_err-need-2.field-0.0 c.from_residual-in_err-need-2.ensures.1 (rw c.is_small.ensures at c.in_err-need-2.ensures)

pub type_ty-returns-in_err-args : goal.type_ty-returns-in_err-args
type_ty-returns-in_err-args t c =
    let first = stage _ _ (ty_found_is c.args.program.now c.args.tparams c.args.raw.now) tt (rw c.has_count.ensures at c.in_ok-need.ensures) in
    let second = stage _ _ first tt (rw c.is_small.ensures at c.in_ok-need-2.ensures) in
    passed_on _ _ _ second c.from_residual-in_err-args.result c.in_err-args.field-0.0 c.from_residual-in_err-args.ensures.1 c.in_err-args.ensures

pub type_ty-returns : goal.type_ty-returns
type_ty-returns t c =
    let first = stage _ _ (ty_found_is c.args.program.now c.args.tparams c.args.raw.now) tt (rw c.has_count.ensures at c.in_ok-need.ensures) in
    let second = stage _ _ first tt (rw c.is_small.ensures at c.in_ok-need-2.ensures) in
    stage _ _ second c.in_ok-args.args c.in_ok-args.ensures ∙ ap Ok (sym c.made_of.ensures)

pub type_tys-loop-raw-init : goal.type_tys-loop-raw-init
unfolding tys_found
type_tys-loop-raw-init t c = each_start (ty_found c.args.program.now c.args.tparams) c.args.raws.now c.as_slice-raw-items.result.now c.as_slice-raw-items.ensures c.new-types.result c.new-types.ensures

pub type_tys-returns-in_err-type_ty : goal.type_tys-returns-in_err-type_ty
unfolding tys_found
type_tys-returns-in_err-type_ty t c =
    end_is _ c.from_residual.result c.in_err-type_ty.field-0.0 c.from_residual.ensures.1 (each_fails (ty_found c.args.program.now c.args.tparams) c.args.raws.now c.as_slice-raw-items.result.now c.as_slice-raw-items.ensures c.loop-raw.raw-index c.raw-item.result c.loop-raw.types c.in_err-type_ty.field-0.0 c.loop-raw-test.true c.raw-item.is c.in_err-type_ty.ensures c.loop-raw.invariant)

pub type_tys-loop-raw-preserved : goal.type_tys-loop-raw-preserved
unfolding tys_found
type_tys-loop-raw-preserved t c = each_next (ty_found c.args.program.now c.args.tparams) c.args.raws.now c.as_slice-raw-items.result.now c.as_slice-raw-items.ensures c.loop-raw.raw-index c.raw-item.result c.loop-raw.types c.push.new.self c.in_ok-type_ty.field-0 c.loop-raw-test.true c.raw-item.is c.in_ok-type_ty.ensures c.in_ok-push.ensures.ok c.loop-raw.invariant

pub type_tys-returns : goal.type_tys-returns
unfolding tys_found
type_tys-returns t c = each_end (ty_found c.args.program.now c.args.tparams) c.args.raws.now c.as_slice-raw-items.result.now c.as_slice-raw-items.ensures c.loop-raw.raw-index c.loop-raw.types c.loop-raw-test.false c.loop-raw.invariant
