use Rattle.std.proofs.Common.{refl, subst, sym, []}
use Rattle.px_scope.specs.Uses.{function_uses}
use Rattle.px_scope.specs.Numbers.{IsFunction, AreFunctions, none}
use Rattle.px_scope.proofs.Firsts.{loop_next, loop_fails}
use Rattle.px_scope.proofs.TermSteps.{functions_push}
use Rattle.px_scope.proofs.functions.resolve_functions.Goals as goal

pub loop-fun-init : goal.loop-fun-init
loop-fun-init c = (refl, subst (AreFunctions c.args.globals.now c.args.locals.now []) (sym c.new-functions.ensures) none)

pub returns-in_err-resolve_function : goal.returns-in_err-resolve_function
returns-in_err-resolve_function c =
    loop_fails (function_uses c.args.text.now c.args.globals.now c.args.locals.now) (IsFunction c.args.globals.now c.args.locals.now) (AreFunctions c.args.globals.now c.args.locals.now) (functions_push c.args.globals.now c.args.locals.now) c.args.funs.now c.loop-fun.fun-index (AreFunctions c.args.globals.now c.args.locals.now c.args.funs.now) c.fun-item.result c.loop-fun.functions c.from_residual.result c.in_err-resolve_function.field-0.0 c.loop-fun-test.true c.fun-item.is c.loop-fun.invariant c.from_residual.ensures.1 c.in_err-resolve_function.ensures

pub loop-fun-preserved : goal.loop-fun-preserved
loop-fun-preserved c =
    loop_next (function_uses c.args.text.now c.args.globals.now c.args.locals.now) (IsFunction c.args.globals.now c.args.locals.now) (AreFunctions c.args.globals.now c.args.locals.now) (functions_push c.args.globals.now c.args.locals.now) c.args.funs.now c.loop-fun.fun-index c.fun-item.result c.loop-fun.functions c.push.new.self c.in_ok-resolve_function.field-0 c.loop-fun-test.true c.fun-item.is c.loop-fun.invariant c.in_ok-resolve_function.ensures c.in_ok-push.ensures.ok
