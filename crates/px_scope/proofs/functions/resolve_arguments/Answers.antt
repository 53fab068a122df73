use Rattle.std.proofs.Common.{refl, subst, sym, ap, ◌∙◌, List, [], take}
use Rattle.std.proofs.lemmas.List.{take_min}
use Rattle.std.specs.List.{flat_map}
use Rattle.px_parser.specs.declared.surface.SExpr.{SExpr}
use Rattle.px_parser.specs.declared.surface.SExprKind.{out-SExprKind}
use Rattle.px_scope.specs.Uses.{expr_uses, Function}
use Rattle.px_scope.specs.Numbers.{IsArgument, AreArguments, none}
use Rattle.px_scope.specs.Answers.{Fine, Resolves}
use Rattle.px_scope.proofs.Firsts.{loop_next, loop_all, loop_fails}
use Rattle.px_scope.proofs.TermSteps.{arguments_push}
use Rattle.px_scope.proofs.functions.resolve_arguments.Goals as goal

pub loop-arg-init : goal.loop-arg-init
loop-arg-init c = (refl, subst (AreArguments c.args.globals.now c.args.locals.now []) (sym c.new-functions.ensures) none)

pub returns-in_err-resolve_argument : goal.returns-in_err-resolve_argument
returns-in_err-resolve_argument c =
    subst (λ (es : List SExpr). Resolves (flat_map (λ (e : SExpr). expr_uses c.args.text.now c.args.globals.now e Function c.args.locals.now) es) (AreArguments c.args.globals.now c.args.locals.now (take c.args.count c.args.args.now)) c.from_residual.result) (ap (λ n. take n c.args.args.now) c.min.ensures ∙ take_min c.args.count c.args.args.now)
    (loop_fails (λ (e : SExpr). expr_uses c.args.text.now c.args.globals.now e Function c.args.locals.now) (λ (e : SExpr). IsArgument c.args.globals.now c.args.locals.now (out-SExprKind e.kind)) (AreArguments c.args.globals.now c.args.locals.now) (arguments_push c.args.globals.now c.args.locals.now) (take c.min.result c.args.args.now) c.loop-arg.arg-index (AreArguments c.args.globals.now c.args.locals.now (take c.args.count c.args.args.now)) c.arg-item.result c.loop-arg.functions c.from_residual.result c.in_err-resolve_argument.field-0.0 c.loop-arg-test.true c.arg-item.is c.loop-arg.invariant c.from_residual.ensures.1 c.in_err-resolve_argument.ensures)

pub loop-arg-preserved : goal.loop-arg-preserved
loop-arg-preserved c =
    loop_next (λ (e : SExpr). expr_uses c.args.text.now c.args.globals.now e Function c.args.locals.now) (λ (e : SExpr). IsArgument c.args.globals.now c.args.locals.now (out-SExprKind e.kind)) (AreArguments c.args.globals.now c.args.locals.now) (arguments_push c.args.globals.now c.args.locals.now) (take c.min.result c.args.args.now) c.loop-arg.arg-index c.arg-item.result c.loop-arg.functions c.push.new.self c.in_ok-resolve_argument.field-0 c.loop-arg-test.true c.arg-item.is c.loop-arg.invariant c.in_ok-resolve_argument.ensures c.in_ok-push.ensures.ok

pub returns : goal.returns
returns c =
    subst (λ (es : List SExpr). Fine (flat_map (λ (e : SExpr). expr_uses c.args.text.now c.args.globals.now e Function c.args.locals.now) es) (AreArguments c.args.globals.now c.args.locals.now es) c.loop-arg.functions) (ap (λ n. take n c.args.args.now) c.min.ensures ∙ take_min c.args.count c.args.args.now)
    (loop_all (λ (e : SExpr). expr_uses c.args.text.now c.args.globals.now e Function c.args.locals.now) (λ (e : SExpr). IsArgument c.args.globals.now c.args.locals.now (out-SExprKind e.kind)) (AreArguments c.args.globals.now c.args.locals.now) (arguments_push c.args.globals.now c.args.locals.now) (take c.min.result c.args.args.now) c.loop-arg.arg-index c.loop-arg.functions c.loop-arg-test.false c.loop-arg.invariant)
