use Rattle.std.proofs.Common.{subst, refl}
use Rattle.px_scope.specs.declared.locals.Locals.{Locals}
use Rattle.px_scope.specs.Uses.{Data, expr_uses, first_broken}
use Rattle.px_scope.specs.ItemUses.{equation_uses}
use Rattle.px_scope.specs.Programs.{IsEquation}
use Rattle.px_scope.specs.Answers.{Fails}
use Rattle.px_scope.proofs.Firsts.{fine_both, fails_front, fails_back, passed_on}
use Rattle.px_scope.proofs.declarations.resolve_equation.Goals as goal

pub returns-in_err-left-clause-resolves : goal.returns-in_err-left-clause-resolves
returns-in_err-left-clause-resolves c =
    passed_on (IsEquation c.args.globals.now c.args.locals.now c.args.equation.now) (equation_uses c.args.text.now c.args.globals.now c.args.locals.now c.args.equation.now) c.from_residual.result c.in_err-left.field-0.0 c.from_residual.ensures.1
    (fails_front (expr_uses c.args.text.now c.args.globals.now c.args.equation.now.left Data c.args.locals.now) (expr_uses c.args.text.now c.args.globals.now c.args.equation.now.right Data c.args.locals.now) c.in_err-left.field-0.0 c.in_err-left.ensures.resolves)

pub returns-in_err-right-clause-resolves : goal.returns-in_err-right-clause-resolves
returns-in_err-right-clause-resolves c =
    passed_on (IsEquation c.args.globals.now c.args.locals.now c.args.equation.now) (equation_uses c.args.text.now c.args.globals.now c.args.locals.now c.args.equation.now) c.from_residual-in_err-right.result c.in_err-right.field-0.0 c.from_residual-in_err-right.ensures.1
    (fails_back (expr_uses c.args.text.now c.args.globals.now c.args.equation.now.left Data c.args.locals.now) (expr_uses c.args.text.now c.args.globals.now c.args.equation.now.right Data c.args.locals.now) c.in_err-right.field-0.0 c.in_ok-left.ensures.resolves.0
    (subst (λ (L : Locals). Fails (first_broken (expr_uses c.args.text.now c.args.globals.now c.args.equation.now.right Data L)) c.in_err-right.field-0.0) c.in_ok-left.ensures.locals c.in_err-right.ensures.resolves))

pub returns-clause-resolves : goal.returns-clause-resolves
returns-clause-resolves c =
    let right = rw c.in_ok-left.ensures.locals at c.in_ok-right.ensures.resolves in
    (fine_both (expr_uses c.args.text.now c.args.globals.now c.args.equation.now.left Data c.args.locals.now) (expr_uses c.args.text.now c.args.globals.now c.args.equation.now.right Data c.args.locals.now) c.in_ok-left.ensures.resolves.0 right.0, record { left = c.in_ok-left.left; right = c.in_ok-right.right; is_left = c.in_ok-left.ensures.resolves.1; is_right = right.1; is = refl })
