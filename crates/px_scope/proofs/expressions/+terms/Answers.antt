use Rattle.std.proofs.Common.{◌≡◌, ◌-◌, List, [], length, take, drop, Option, refl, sym, ap, ◌∙◌, subst}
use Rattle.std.proofs.lemmas.List.{take_rest, drop_min}
use Rattle.std.specs.List.{flat_map}
use Rattle.px_parser.specs.declared.surface.SExpr.{SExpr}
use Rattle.px_parser.specs.declared.surface.SExprKind.TheVariants.{Lower}
use Rattle.px_parser.specs.declared.surface.SArm.{SArm}
use Rattle.px_base.specs.declared.raw.RawKind.{RawKind}
use Rattle.px_base.specs.declared.raw.RawKind.TheVariants as kinds
use Rattle.px_base.specs.declared.raw.RawTerm.{RawTerm}
use Rattle.px_scope.specs.declared.locals.Locals.{Locals}
use Rattle.px_scope.specs.declared.lookups.Variable.{Variable}
use Rattle.px_scope.specs.Uses.{first_broken, expr_uses, arm_uses, Data, bind}
use Rattle.px_scope.specs.Numbers.{raw_term, IsTerm, AreTerms, no_terms, IsArm, AreArms, no_arms}
use Rattle.px_scope.specs.Answers.{Fails, Fine, Resolves}
use Rattle.px_scope.proofs.Firsts.{loop_next, loop_all, loop_fails}
use Rattle.px_scope.proofs.TermSteps.{terms_push, arms_push, literal_fine, construction_fine, construction_name_fails, construction_types_fail, construction_fields_fail}
use Rattle.px_scope.proofs.TermSteps.{variable_kind, variable_fine, variable_name_fails, variable_types_fail, call_fine, call_name_fails, call_types_fail, call_functions_fail, call_arguments_fail}
use Rattle.px_scope.proofs.TermSteps.{match_fine, match_on_fails, match_arms_fail, arm_fine, arm_name_fails, arm_variables_fail, arm_body_fails}
use Rattle.px_scope.proofs.expressions.+terms.Goals as goal
use Rattle.px_scope.proofs.expressions.+terms.Goals.{resolve_term-in-Value, resolve_term-in-Pattern}

pub resolve_term-returns-in_err-con-in-Upper-clause-resolves : goal.resolve_term-returns-in_err-con-in-Upper-clause-resolves
resolve_term-returns-in_err-con-in-Upper-clause-resolves t c = construction_name_fails c.args.text.now c.args.globals.now c.args.locals.now c.args.expr.now Data tt c.in-Upper.name c.in-Upper.types c.in-Upper.fields c.in-Upper.is (IsTerm c.args.globals.now c.args.locals.now c.args.expr.now) c.from_residual.result c.in_err-con-in-Upper.field-0.0 c.from_residual.ensures.1 c.in_err-con-in-Upper.ensures

pub resolve_term-returns-in_err-types-in-Upper-clause-resolves : goal.resolve_term-returns-in_err-types-in-Upper-clause-resolves
resolve_term-returns-in_err-types-in-Upper-clause-resolves t c = construction_types_fail c.args.text.now c.args.globals.now c.args.locals.now c.args.expr.now Data tt c.in-Upper.name c.in-Upper.types c.in-Upper.fields c.in-Upper.is (IsTerm c.args.globals.now c.args.locals.now c.args.expr.now) c.from_residual-in_err-types-in-Upper.result c.in_err-types-in-Upper.field-0.0 c.from_residual-in_err-types-in-Upper.ensures.1 c.in_ok-con-in-Upper.ensures.0 (rw (← c.as_slice.ensures) c.in_err-types-in-Upper.ensures)

pub resolve_term-returns-in_err-fields-in-Upper-clause-resolves : goal.resolve_term-returns-in_err-fields-in-Upper-clause-resolves
resolve_term-returns-in_err-fields-in-Upper-clause-resolves t c = construction_fields_fail c.args.text.now c.args.globals.now c.args.locals.now c.args.expr.now Data tt c.in-Upper.name c.in-Upper.types c.in-Upper.fields c.in-Upper.is (IsTerm c.args.globals.now c.args.locals.now c.args.expr.now) c.from_residual-in_err-fields-in-Upper.result c.in_err-fields-in-Upper.field-0.0 c.from_residual-in_err-fields-in-Upper.ensures.1 c.in_ok-con-in-Upper.ensures.0 (rw (← c.as_slice.ensures) c.in_ok-types-in-Upper.ensures.0) (rw (← c.as_slice-in-Upper.ensures) c.in_err-fields-in-Upper.ensures.resolves)

pub resolve_term-returns-in-Number-clause-resolves : goal.resolve_term-returns-in-Number-clause-resolves
resolve_term-returns-in-Number-clause-resolves t c = literal_fine c.args.text.now c.args.globals.now c.args.locals.now c.args.expr.now Data tt c.in-Number.number c.in-Number.is

pub resolve_term-returns-in_ok-fields-in-Upper-clause-resolves : goal.resolve_term-returns-in_ok-fields-in-Upper-clause-resolves
resolve_term-returns-in_ok-fields-in-Upper-clause-resolves t c = construction_fine c.args.text.now c.args.globals.now c.args.locals.now c.args.expr.now Data tt c.in-Upper.name c.in-Upper.types c.in-Upper.fields c.in-Upper.is c.in_ok-con-in-Upper.con c.in_ok-types-in-Upper.types c.in_ok-fields-in-Upper.fields c.in_ok-con-in-Upper.ensures.0 c.in_ok-con-in-Upper.ensures.1 (rw (← c.as_slice.ensures) c.in_ok-types-in-Upper.ensures) (rw (← c.as_slice-in-Upper.ensures) c.in_ok-fields-in-Upper.ensures.resolves)

pub resolve_term-returns-in_err-variable-in-None-clause-resolves : goal.resolve_term-returns-in_err-variable-in-None-clause-resolves
resolve_term-returns-in_err-variable-in-None-clause-resolves t c = variable_name_fails c.args.text.now c.args.globals.now c.args.locals.now c.args.expr.now c.in-Lower.name c.in-Lower.types (c.in-Lower.is ∙ ap (λ (a : Option (List SExpr)). Lower c.in-Lower.name c.in-Lower.types a) c.in-None.is) (IsTerm c.args.globals.now c.args.locals.now c.args.expr.now) c.from_residual-in_err-variable-in-None.result c.in_err-variable-in-None.field-0.0 c.from_residual-in_err-variable-in-None.ensures.1 c.in_err-variable-in-None.ensures

pub resolve_term-returns-in_err-types-in-None-clause-resolves : goal.resolve_term-returns-in_err-types-in-None-clause-resolves
resolve_term-returns-in_err-types-in-None-clause-resolves t c = variable_types_fail c.args.text.now c.args.globals.now c.args.locals.now c.args.expr.now c.in-Lower.name c.in-Lower.types (c.in-Lower.is ∙ ap (λ (a : Option (List SExpr)). Lower c.in-Lower.name c.in-Lower.types a) c.in-None.is) (IsTerm c.args.globals.now c.args.locals.now c.args.expr.now) c.from_residual-in_err-types-in-None.result c.in_err-types-in-None.field-0.0 c.from_residual-in_err-types-in-None.ensures.1 c.in_ok-variable-in-None.ensures.0 (rw (← c.as_slice-in-None.ensures) c.in_err-types-in-None.ensures)

pub resolve_term-returns-after-variable-clause-resolves : goal.resolve_term-returns-after-variable-clause-resolves
resolve_term-returns-after-variable-clause-resolves t c =
    let kind_is : c.match-variable.kind ≡ variable_kind c.in_ok-variable-in-None.variable c.in_ok-types-in-None.types = elim c.match-variable.branch [
      | resolve_term-in-Value w ↦ w.kind-is ∙ sym (ap (λ (v : Variable). variable_kind v c.in_ok-types-in-None.types) w.in-Value.is)
      | resolve_term-in-Pattern w ↦ w.kind-is ∙ sym (ap (λ (v : Variable). variable_kind v c.in_ok-types-in-None.types) w.in-Pattern.is)
    ] in
    subst (λ (k : RawKind). Fine (expr_uses c.args.text.now c.args.globals.now c.args.expr.now Data c.args.locals.now) (IsTerm c.args.globals.now c.args.locals.now c.args.expr.now) (raw_term c.args.expr.now.at k)) (sym kind_is)
    (variable_fine c.args.text.now c.args.globals.now c.args.locals.now c.args.expr.now c.in-Lower.name c.in-Lower.types (c.in-Lower.is ∙ ap (λ (a : Option (List SExpr)). Lower c.in-Lower.name c.in-Lower.types a) c.in-None.is) c.in_ok-variable-in-None.variable c.in_ok-types-in-None.types c.in_ok-variable-in-None.ensures.0 c.in_ok-variable-in-None.ensures.1 (rw (← c.as_slice-in-None.ensures) c.in_ok-types-in-None.ensures))

pub resolve_term-returns-in_err-called-in-Some-clause-resolves : goal.resolve_term-returns-in_err-called-in-Some-clause-resolves
resolve_term-returns-in_err-called-in-Some-clause-resolves t c = call_name_fails c.args.text.now c.args.globals.now c.args.locals.now c.args.expr.now c.in-Lower.name c.in-Lower.types c.in-Some.args (c.in-Lower.is ∙ ap (λ (a : Option (List SExpr)). Lower c.in-Lower.name c.in-Lower.types a) c.in-Some.is) (IsTerm c.args.globals.now c.args.locals.now c.args.expr.now) c.from_residual-in_err-called-in-Some.result c.in_err-called-in-Some.field-0.0 c.from_residual-in_err-called-in-Some.ensures.1 c.in_err-called-in-Some.ensures

pub resolve_term-returns-in_err-types-in-Some-clause-resolves : goal.resolve_term-returns-in_err-types-in-Some-clause-resolves
resolve_term-returns-in_err-types-in-Some-clause-resolves t c = call_types_fail c.args.text.now c.args.globals.now c.args.locals.now c.args.expr.now c.in-Lower.name c.in-Lower.types c.in-Some.args (c.in-Lower.is ∙ ap (λ (a : Option (List SExpr)). Lower c.in-Lower.name c.in-Lower.types a) c.in-Some.is) c.in_ok-called-in-Some.called.functions c.in_ok-called-in-Some.ensures.1.places (IsTerm c.args.globals.now c.args.locals.now c.args.expr.now) c.from_residual-in_err-types-in-Some.result c.in_err-types-in-Some.field-0.0 c.from_residual-in_err-types-in-Some.ensures.1 c.in_ok-called-in-Some.ensures.0 (rw (← c.as_slice-in-Some.ensures) c.in_err-types-in-Some.ensures)

pub resolve_term-returns-in_err-funs-in-Some-clause-resolves : goal.resolve_term-returns-in_err-funs-in-Some-clause-resolves
resolve_term-returns-in_err-funs-in-Some-clause-resolves t c = call_functions_fail c.args.text.now c.args.globals.now c.args.locals.now c.args.expr.now c.in-Lower.name c.in-Lower.types c.in-Some.args (c.in-Lower.is ∙ ap (λ (a : Option (List SExpr)). Lower c.in-Lower.name c.in-Lower.types a) c.in-Some.is) c.in_ok-called-in-Some.called.functions c.in_ok-called-in-Some.ensures.1.places (IsTerm c.args.globals.now c.args.locals.now c.args.expr.now) c.from_residual-in_err-funs-in-Some.result c.in_err-funs-in-Some.field-0.0 c.from_residual-in_err-funs-in-Some.ensures.1 c.in_ok-called-in-Some.ensures.0 (rw (← c.as_slice-in-Some.ensures) c.in_ok-types-in-Some.ensures.0) (rw (← c.as_slice-in-Some-2.ensures) c.in_err-funs-in-Some.ensures)

pub resolve_term-returns-in_err-args-in-Some-clause-resolves : goal.resolve_term-returns-in_err-args-in-Some-clause-resolves
resolve_term-returns-in_err-args-in-Some-clause-resolves t c = call_arguments_fail c.args.text.now c.args.globals.now c.args.locals.now c.args.expr.now c.in-Lower.name c.in-Lower.types c.in-Some.args (c.in-Lower.is ∙ ap (λ (a : Option (List SExpr)). Lower c.in-Lower.name c.in-Lower.types a) c.in-Some.is) c.in_ok-called-in-Some.called.functions c.in_ok-called-in-Some.ensures.1.places (IsTerm c.args.globals.now c.args.locals.now c.args.expr.now) c.from_residual-in_err-args-in-Some.result c.in_err-args-in-Some.field-0.0 c.from_residual-in_err-args-in-Some.ensures.1 c.in_ok-called-in-Some.ensures.0 (rw (← c.as_slice-in-Some.ensures) c.in_ok-types-in-Some.ensures.0) (rw (← c.as_slice-in-Some-2.ensures) c.in_ok-funs-in-Some.ensures.0) (rw (← c.as_slice-in-Some-3.ensures) c.in_err-args-in-Some.ensures.resolves)

pub resolve_term-returns-in_ok-args-in-Some-clause-resolves : goal.resolve_term-returns-in_ok-args-in-Some-clause-resolves
resolve_term-returns-in_ok-args-in-Some-clause-resolves t c = call_fine c.args.text.now c.args.globals.now c.args.locals.now c.args.expr.now c.in-Lower.name c.in-Lower.types c.in-Some.args (c.in-Lower.is ∙ ap (λ (a : Option (List SExpr)). Lower c.in-Lower.name c.in-Lower.types a) c.in-Some.is) c.in_ok-called-in-Some.called.functions c.in_ok-called-in-Some.ensures.1.places c.in_ok-called-in-Some.called.head c.in_ok-types-in-Some.types c.in_ok-funs-in-Some.funs c.in_ok-args-in-Some.args c.in_ok-called-in-Some.ensures.0 c.in_ok-called-in-Some.ensures.1.stands (rw (← c.as_slice-in-Some.ensures) c.in_ok-types-in-Some.ensures) (rw (← c.as_slice-in-Some-2.ensures) c.in_ok-funs-in-Some.ensures) (rw (← c.as_slice-in-Some-3.ensures) c.in_ok-args-in-Some.ensures.resolves)

pub resolve_term-returns-in_err-on-in-Match-clause-resolves : goal.resolve_term-returns-in_err-on-in-Match-clause-resolves
resolve_term-returns-in_err-on-in-Match-clause-resolves t c = match_on_fails c.args.text.now c.args.globals.now c.args.locals.now c.args.expr.now c.in-Match.on c.in-Match.arms c.in-Match.is (IsTerm c.args.globals.now c.args.locals.now c.args.expr.now) c.from_residual-in_err-on-in-Match.result c.in_err-on-in-Match.field-0.0 c.from_residual-in_err-on-in-Match.ensures.1 (rw (← c.get.ensures) c.in_err-on-in-Match.ensures.resolves)

pub resolve_term-returns-in_err-arms-in-Match-clause-resolves : goal.resolve_term-returns-in_err-arms-in-Match-clause-resolves
resolve_term-returns-in_err-arms-in-Match-clause-resolves t c = match_arms_fail c.args.text.now c.args.globals.now c.args.locals.now c.args.expr.now c.in-Match.on c.in-Match.arms c.in-Match.is (IsTerm c.args.globals.now c.args.locals.now c.args.expr.now) c.from_residual-in_err-arms-in-Match.result c.in_err-arms-in-Match.field-0.0 c.from_residual-in_err-arms-in-Match.ensures.1 (rw (← c.get.ensures) c.in_ok-on-in-Match.ensures.resolves.0) (subst (λ (here : Locals). Fails (first_broken (flat_map (λ (a : SArm). arm_uses c.args.text.now c.args.globals.now a here) c.in-Match.arms)) c.in_err-arms-in-Match.field-0.0) c.in_ok-on-in-Match.ensures.locals (rw (← c.as_slice-in-Match.ensures) c.in_err-arms-in-Match.ensures.resolves))

pub resolve_term-returns-in_ok-new-in-Match-clause-resolves : goal.resolve_term-returns-in_ok-new-in-Match-clause-resolves
resolve_term-returns-in_ok-new-in-Match-clause-resolves t c =
    subst (λ (on : RawTerm). Fine (expr_uses c.args.text.now c.args.globals.now c.args.expr.now Data c.args.locals.now) (IsTerm c.args.globals.now c.args.locals.now c.args.expr.now) (raw_term c.args.expr.now.at (kinds.Match on c.in_ok-arms-in-Match.arms))) (sym c.in_ok-new-in-Match.ensures)
    (match_fine c.args.text.now c.args.globals.now c.args.locals.now c.args.expr.now c.in-Match.on c.in-Match.arms c.in-Match.is c.in_ok-on-in-Match.on c.in_ok-arms-in-Match.arms (rw (← c.get.ensures) c.in_ok-on-in-Match.ensures.resolves) (subst (λ (here : Locals). Fine (flat_map (λ (a : SArm). arm_uses c.args.text.now c.args.globals.now a here) c.in-Match.arms) (AreArms c.args.globals.now here c.in-Match.arms) c.in_ok-arms-in-Match.arms) c.in_ok-on-in-Match.ensures.locals (rw (← c.as_slice-in-Match.ensures) c.in_ok-arms-in-Match.ensures.resolves)))

pub resolve_terms-loop-expr-init : goal.resolve_terms-loop-expr-init
resolve_terms-loop-expr-init t c = record { fine = (refl, subst (AreTerms c.args.globals.now c.args.locals.now []) (sym c.new-terms.ensures) no_terms); kept = refl }

pub resolve_terms-returns-in_err-resolve_term-clause-resolves : goal.resolve_terms-returns-in_err-resolve_term-clause-resolves
resolve_terms-returns-in_err-resolve_term-clause-resolves t c =
    subst (λ (es : List SExpr). Resolves (flat_map (λ (e : SExpr). expr_uses c.args.text.now c.args.globals.now e Data c.args.locals.now) es) (AreTerms c.args.globals.now c.args.locals.now (drop c.args.skipped c.args.exprs.now)) c.from_residual.result) (take_rest c.args.exprs.now c.min.result ∙ ap (λ n. drop n c.args.exprs.now) c.min.ensures ∙ drop_min c.args.skipped c.args.exprs.now)
    (loop_fails (λ (e : SExpr). expr_uses c.args.text.now c.args.globals.now e Data c.args.locals.now) (IsTerm c.args.globals.now c.args.locals.now) (AreTerms c.args.globals.now c.args.locals.now) (terms_push c.args.globals.now c.args.locals.now) (take (length c.args.exprs.now - c.min.result) (drop c.min.result c.args.exprs.now)) c.loop-expr.expr-index (AreTerms c.args.globals.now c.args.locals.now (drop c.args.skipped c.args.exprs.now)) c.expr-item.result c.loop-expr.terms c.from_residual.result c.in_err-resolve_term.field-0.0 c.loop-expr-test.true c.expr-item.is c.loop-expr.invariant.fine c.from_residual.ensures.1 (subst (λ (here : Locals). Fails (first_broken (expr_uses c.args.text.now c.args.globals.now c.expr-item.result Data here)) c.in_err-resolve_term.field-0.0) c.loop-expr.invariant.kept c.in_err-resolve_term.ensures.resolves))

pub resolve_terms-loop-expr-preserved : goal.resolve_terms-loop-expr-preserved
resolve_terms-loop-expr-preserved t c =
    record {
      fine = loop_next (λ (e : SExpr). expr_uses c.args.text.now c.args.globals.now e Data c.args.locals.now) (IsTerm c.args.globals.now c.args.locals.now) (AreTerms c.args.globals.now c.args.locals.now) (terms_push c.args.globals.now c.args.locals.now) (take (length c.args.exprs.now - c.min.result) (drop c.min.result c.args.exprs.now)) c.loop-expr.expr-index c.expr-item.result c.loop-expr.terms c.push.new.self c.in_ok-resolve_term.field-0 c.loop-expr-test.true c.expr-item.is c.loop-expr.invariant.fine (subst (λ (here : Locals). Fine (expr_uses c.args.text.now c.args.globals.now c.expr-item.result Data here) (IsTerm c.args.globals.now here c.expr-item.result) c.in_ok-resolve_term.field-0) c.loop-expr.invariant.kept c.in_ok-resolve_term.ensures.resolves) c.in_ok-push.ensures.ok;
      kept = c.in_ok-resolve_term.ensures.locals ∙ c.loop-expr.invariant.kept;
    }

pub resolve_terms-returns-clause-resolves : goal.resolve_terms-returns-clause-resolves
resolve_terms-returns-clause-resolves t c =
    subst (λ (es : List SExpr). Fine (flat_map (λ (e : SExpr). expr_uses c.args.text.now c.args.globals.now e Data c.args.locals.now) es) (AreTerms c.args.globals.now c.args.locals.now es) c.loop-expr.terms) (take_rest c.args.exprs.now c.min.result ∙ ap (λ n. drop n c.args.exprs.now) c.min.ensures ∙ drop_min c.args.skipped c.args.exprs.now)
    (loop_all (λ (e : SExpr). expr_uses c.args.text.now c.args.globals.now e Data c.args.locals.now) (IsTerm c.args.globals.now c.args.locals.now) (AreTerms c.args.globals.now c.args.locals.now) (terms_push c.args.globals.now c.args.locals.now) (take (length c.args.exprs.now - c.min.result) (drop c.min.result c.args.exprs.now)) c.loop-expr.expr-index c.loop-expr.terms c.loop-expr-test.false c.loop-expr.invariant.fine)

pub resolve_arms-loop-arm-init : goal.resolve_arms-loop-arm-init
resolve_arms-loop-arm-init t c = record { fine = (refl, subst (AreArms c.args.globals.now c.args.locals.now []) (sym c.new-resolved.ensures) no_arms); kept = refl }

pub resolve_arms-returns-in_err-resolve_arm-clause-resolves : goal.resolve_arms-returns-in_err-resolve_arm-clause-resolves
resolve_arms-returns-in_err-resolve_arm-clause-resolves t c = loop_fails (λ (a : SArm). arm_uses c.args.text.now c.args.globals.now a c.args.locals.now) (IsArm c.args.globals.now c.args.locals.now) (AreArms c.args.globals.now c.args.locals.now) (arms_push c.args.globals.now c.args.locals.now) c.args.arms.now c.loop-arm.arm-index (AreArms c.args.globals.now c.args.locals.now c.args.arms.now) c.arm-item.result c.loop-arm.resolved c.from_residual.result c.in_err-resolve_arm.field-0.0 c.loop-arm-test.true c.arm-item.is c.loop-arm.invariant.fine c.from_residual.ensures.1 (subst (λ (here : Locals). Fails (first_broken (arm_uses c.args.text.now c.args.globals.now c.arm-item.result here)) c.in_err-resolve_arm.field-0.0) c.loop-arm.invariant.kept c.in_err-resolve_arm.ensures.resolves)

pub resolve_arms-loop-arm-preserved : goal.resolve_arms-loop-arm-preserved
resolve_arms-loop-arm-preserved t c =
    record {
      fine = loop_next (λ (a : SArm). arm_uses c.args.text.now c.args.globals.now a c.args.locals.now) (IsArm c.args.globals.now c.args.locals.now) (AreArms c.args.globals.now c.args.locals.now) (arms_push c.args.globals.now c.args.locals.now) c.args.arms.now c.loop-arm.arm-index c.arm-item.result c.loop-arm.resolved c.push.new.self c.in_ok-resolve_arm.field-0 c.loop-arm-test.true c.arm-item.is c.loop-arm.invariant.fine (subst (λ (here : Locals). Fine (arm_uses c.args.text.now c.args.globals.now c.arm-item.result here) (IsArm c.args.globals.now here c.arm-item.result) c.in_ok-resolve_arm.field-0) c.loop-arm.invariant.kept c.in_ok-resolve_arm.ensures.resolves) c.in_ok-push.ensures.ok;
      kept = c.in_ok-resolve_arm.ensures.locals ∙ c.loop-arm.invariant.kept;
    }

pub resolve_arm-returns-in_err-con-clause-resolves : goal.resolve_arm-returns-in_err-con-clause-resolves
resolve_arm-returns-in_err-con-clause-resolves t c = arm_name_fails c.args.text.now c.args.globals.now c.args.locals.now c.args.arm.now (IsArm c.args.globals.now c.args.locals.now c.args.arm.now) c.from_residual.result c.in_err-con.field-0.0 c.from_residual.ensures.1 c.in_err-con.ensures

pub resolve_arm-returns-in_err-vars-clause-resolves : goal.resolve_arm-returns-in_err-vars-clause-resolves
resolve_arm-returns-in_err-vars-clause-resolves t c = arm_variables_fail c.args.text.now c.args.globals.now c.args.locals.now c.args.arm.now (IsArm c.args.globals.now c.args.locals.now c.args.arm.now) c.from_residual-in_err-vars.result c.in_err-vars.field-0.0 c.from_residual-in_err-vars.ensures.1 c.in_ok-con.ensures.0 (rw (← c.as_slice.ensures) c.in_err-vars.ensures.resolves)

pub resolve_arm-returns-in_err-body-clause-resolves : goal.resolve_arm-returns-in_err-body-clause-resolves
resolve_arm-returns-in_err-body-clause-resolves t c = arm_body_fails c.args.text.now c.args.globals.now c.args.locals.now c.args.arm.now (IsArm c.args.globals.now c.args.locals.now c.args.arm.now) c.from_residual-in_err-body.result c.in_err-body.field-0.0 c.from_residual-in_err-body.ensures.1 c.in_ok-con.ensures.0 (rw (← c.as_slice.ensures) c.in_ok-vars.ensures.resolves.0) (subst (λ (here : Locals). Fails (first_broken (expr_uses c.args.text.now c.args.globals.now c.args.arm.now.body Data here)) c.in_err-body.field-0.0) (c.in_ok-vars.ensures.locals ∙ ap (bind c.args.locals.now) c.as_slice.ensures) c.in_err-body.ensures.resolves)

pub resolve_arm-returns-clause-resolves : goal.resolve_arm-returns-clause-resolves
resolve_arm-returns-clause-resolves t c = arm_fine c.args.text.now c.args.globals.now c.args.locals.now c.args.arm.now c.in_ok-con.con c.in_ok-vars.vars c.in_ok-body.body c.in_ok-con.ensures.0 c.in_ok-con.ensures.1 (rw (← c.as_slice.ensures) c.in_ok-vars.ensures.resolves) (subst (λ (here : Locals). Fine (expr_uses c.args.text.now c.args.globals.now c.args.arm.now.body Data here) (IsTerm c.args.globals.now here c.args.arm.now.body) c.in_ok-body.body) (c.in_ok-vars.ensures.locals ∙ ap (bind c.args.locals.now) c.as_slice.ensures) c.in_ok-body.ensures.resolves)
