use Rattle.std.proofs.Common.{[], refl, sym, subst, ◌∙◌}
use Rattle.px_scope.specs.declared.locals.Locals.{Locals}
use Rattle.px_scope.specs.Uses.{first_broken}
use Rattle.px_scope.specs.ItemUses.{equation_uses}
use Rattle.px_scope.specs.Programs.{IsEquation, AreEquations, none}
use Rattle.px_scope.specs.Answers.{Fails, Fine}
use Rattle.px_scope.proofs.Firsts.{loop_next, loop_fails}
use Rattle.px_scope.proofs.DeclarationSteps.{equations_push}
use Rattle.px_scope.proofs.declarations.resolve_equations.Goals as goal

pub loop-equation-init : goal.loop-equation-init
loop-equation-init c = record { resolved = (refl, subst (AreEquations c.args.globals.now c.args.locals.now []) (sym c.new-resolved.ensures) none); locals = refl }

pub returns-in_err-resolve_equation-clause-resolves : goal.returns-in_err-resolve_equation-clause-resolves
returns-in_err-resolve_equation-clause-resolves c =
    loop_fails (equation_uses c.args.text.now c.args.globals.now c.args.locals.now) (IsEquation c.args.globals.now c.args.locals.now) (AreEquations c.args.globals.now c.args.locals.now) (equations_push c.args.globals.now c.args.locals.now) c.args.equations.now c.loop-equation.equation-index (AreEquations c.args.globals.now c.args.locals.now c.args.equations.now) c.equation-item.result c.loop-equation.resolved c.from_residual.result c.in_err-resolve_equation.field-0.0 c.loop-equation-test.true c.equation-item.is c.loop-equation.invariant.resolved c.from_residual.ensures.1
    (subst (λ (L : Locals). Fails (first_broken (equation_uses c.args.text.now c.args.globals.now L c.equation-item.result)) c.in_err-resolve_equation.field-0.0) c.loop-equation.invariant.locals c.in_err-resolve_equation.ensures.resolves)

pub loop-equation-preserved : goal.loop-equation-preserved
loop-equation-preserved c = record {
  resolved = loop_next (equation_uses c.args.text.now c.args.globals.now c.args.locals.now) (IsEquation c.args.globals.now c.args.locals.now) (AreEquations c.args.globals.now c.args.locals.now) (equations_push c.args.globals.now c.args.locals.now) c.args.equations.now c.loop-equation.equation-index c.equation-item.result c.loop-equation.resolved c.push.new.self c.in_ok-resolve_equation.field-0 c.loop-equation-test.true c.equation-item.is c.loop-equation.invariant.resolved
      (subst (λ (L : Locals). Fine (equation_uses c.args.text.now c.args.globals.now L c.equation-item.result) (IsEquation c.args.globals.now L c.equation-item.result) c.in_ok-resolve_equation.field-0) c.loop-equation.invariant.locals c.in_ok-resolve_equation.ensures.resolves)
      c.in_ok-push.ensures.ok;
  locals = c.in_ok-resolve_equation.ensures.locals ∙ c.loop-equation.invariant.locals;
}
