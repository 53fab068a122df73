use Rattle.std.proofs.Common.{refl, subst, sym, []}
use Rattle.px_scope.specs.Uses.{type_uses}
use Rattle.px_scope.specs.Numbers.{IsType, AreTypes, none}
use Rattle.px_scope.proofs.Firsts.{loop_next, loop_fails}
use Rattle.px_scope.proofs.TypeSteps.{types_push, type_fine, type_name_fails, type_args_fail}
use Rattle.px_scope.proofs.types.+types.Goals as goal

pub resolve_type-returns-in_err-kind : goal.resolve_type-returns-in_err-kind
resolve_type-returns-in_err-kind t c =
    type_name_fails c.args.text.now c.args.globals.now c.args.types.now (IsType c.args.globals.now c.args.types.now c.args.ty.now) c.args.ty.now c.from_residual.result c.in_err-kind.field-0.0 c.from_residual.ensures.1 c.in_err-kind.ensures

pub resolve_type-returns-in_err-args : goal.resolve_type-returns-in_err-args
resolve_type-returns-in_err-args t c =
    type_args_fail c.args.text.now c.args.globals.now c.args.types.now (IsType c.args.globals.now c.args.types.now c.args.ty.now) c.args.ty.now c.from_residual-in_err-args.result c.in_err-args.field-0.0 c.from_residual-in_err-args.ensures.1 c.in_ok-kind.ensures.0 (rw (← c.as_slice.ensures) c.in_err-args.ensures)

pub resolve_type-returns : goal.resolve_type-returns
resolve_type-returns t c =
    type_fine c.args.text.now c.args.globals.now c.args.types.now c.args.ty.now c.in_ok-kind.kind c.in_ok-args.args c.in_ok-kind.ensures.0 c.in_ok-kind.ensures.1 (rw (← c.as_slice.ensures) c.in_ok-args.ensures)

pub resolve_types-loop-ty-init : goal.resolve_types-loop-ty-init
resolve_types-loop-ty-init t c = (refl, subst (AreTypes c.args.globals.now c.args.types.now []) (sym c.new-resolved.ensures) none)

pub resolve_types-returns-in_err-resolve_type : goal.resolve_types-returns-in_err-resolve_type
resolve_types-returns-in_err-resolve_type t c =
    loop_fails (type_uses c.args.text.now c.args.globals.now c.args.types.now) (IsType c.args.globals.now c.args.types.now) (AreTypes c.args.globals.now c.args.types.now) (types_push c.args.globals.now c.args.types.now) c.args.tys.now c.loop-ty.ty-index (AreTypes c.args.globals.now c.args.types.now c.args.tys.now) c.ty-item.result c.loop-ty.resolved c.from_residual.result c.in_err-resolve_type.field-0.0 c.loop-ty-test.true c.ty-item.is c.loop-ty.invariant c.from_residual.ensures.1 c.in_err-resolve_type.ensures

pub resolve_types-loop-ty-preserved : goal.resolve_types-loop-ty-preserved
resolve_types-loop-ty-preserved t c =
    loop_next (type_uses c.args.text.now c.args.globals.now c.args.types.now) (IsType c.args.globals.now c.args.types.now) (AreTypes c.args.globals.now c.args.types.now) (types_push c.args.globals.now c.args.types.now) c.args.tys.now c.loop-ty.ty-index c.ty-item.result c.loop-ty.resolved c.push.new.self c.in_ok-resolve_type.field-0 c.loop-ty-test.true c.ty-item.is c.loop-ty.invariant c.in_ok-resolve_type.ensures c.in_ok-push.ensures.ok
