use Rattle.std.proofs.Common.{refl, subst, sym, []}
use Rattle.px_parser.specs.declared.surface.SExpr.{SExpr}
use Rattle.px_scope.specs.Uses.{expr_uses, From}
use Rattle.px_scope.specs.Numbers.{IsTerm, AreTerms, no_terms}
use Rattle.px_scope.proofs.Firsts.{loop_next, loop_fails}
use Rattle.px_scope.proofs.TermSteps.{terms_push, literal_fine, construction_fine, construction_name_fails, construction_types_fail, construction_fields_fail, from_lower, from_match}
use Rattle.px_scope.proofs.expressions.+parts.Goals as goal

pub resolve_from-returns-in_err-con-in-Upper : goal.resolve_from-returns-in_err-con-in-Upper
resolve_from-returns-in_err-con-in-Upper t c = construction_name_fails c.args.text.now c.args.globals.now c.args.locals.now c.args.expr.now From tt c.in-Upper.name c.in-Upper.types c.in-Upper.fields c.in-Upper.is (IsTerm c.args.globals.now c.args.locals.now c.args.expr.now) c.from_residual.result c.in_err-con-in-Upper.field-0.0 c.from_residual.ensures.1 c.in_err-con-in-Upper.ensures

pub resolve_from-returns-in_err-types-in-Upper : goal.resolve_from-returns-in_err-types-in-Upper
resolve_from-returns-in_err-types-in-Upper t c = construction_types_fail c.args.text.now c.args.globals.now c.args.locals.now c.args.expr.now From tt c.in-Upper.name c.in-Upper.types c.in-Upper.fields c.in-Upper.is (IsTerm c.args.globals.now c.args.locals.now c.args.expr.now) c.from_residual-in_err-types-in-Upper.result c.in_err-types-in-Upper.field-0.0 c.from_residual-in_err-types-in-Upper.ensures.1 c.in_ok-con-in-Upper.ensures.0 (rw (← c.as_slice.ensures) c.in_err-types-in-Upper.ensures)

pub resolve_from-returns-in_err-fields-in-Upper : goal.resolve_from-returns-in_err-fields-in-Upper
resolve_from-returns-in_err-fields-in-Upper t c = construction_fields_fail c.args.text.now c.args.globals.now c.args.locals.now c.args.expr.now From tt c.in-Upper.name c.in-Upper.types c.in-Upper.fields c.in-Upper.is (IsTerm c.args.globals.now c.args.locals.now c.args.expr.now) c.from_residual-in_err-fields-in-Upper.result c.in_err-fields-in-Upper.field-0.0 c.from_residual-in_err-fields-in-Upper.ensures.1 c.in_ok-con-in-Upper.ensures.0 (rw (← c.as_slice.ensures) c.in_ok-types-in-Upper.ensures.0) (rw (← c.as_slice-in-Upper.ensures) c.in_err-fields-in-Upper.ensures)

pub resolve_from-returns-in-Number : goal.resolve_from-returns-in-Number
resolve_from-returns-in-Number t c = literal_fine c.args.text.now c.args.globals.now c.args.locals.now c.args.expr.now From tt c.in-Number.number c.in-Number.is

pub resolve_from-returns-in_ok-fields-in-Upper : goal.resolve_from-returns-in_ok-fields-in-Upper
resolve_from-returns-in_ok-fields-in-Upper t c = construction_fine c.args.text.now c.args.globals.now c.args.locals.now c.args.expr.now From tt c.in-Upper.name c.in-Upper.types c.in-Upper.fields c.in-Upper.is c.in_ok-con-in-Upper.con c.in_ok-types-in-Upper.types c.in_ok-fields-in-Upper.fields c.in_ok-con-in-Upper.ensures.0 c.in_ok-con-in-Upper.ensures.1 (rw (← c.as_slice.ensures) c.in_ok-types-in-Upper.ensures) (rw (← c.as_slice-in-Upper.ensures) c.in_ok-fields-in-Upper.ensures)

pub resolve_from-returns-in-Lower : goal.resolve_from-returns-in-Lower
resolve_from-returns-in-Lower t c = from_lower c.args.text.now c.args.globals.now c.args.locals.now c.args.expr.now c.in-Lower.name c.in-Lower.types c.in-Lower.args c.lower_in_from.result c.in-Lower.is c.lower_in_from.ensures

pub resolve_from-returns-in-Match : goal.resolve_from-returns-in-Match
resolve_from-returns-in-Match t c = from_match c.args.text.now c.args.globals.now c.args.locals.now c.args.expr.now c.in-Match.on c.in-Match.arms c.fault.result c.in-Match.is c.fault.ensures

pub resolve_parts-loop-expr-init : goal.resolve_parts-loop-expr-init
resolve_parts-loop-expr-init t c = (refl, subst (AreTerms c.args.globals.now c.args.locals.now []) (sym c.new-terms.ensures) no_terms)

pub resolve_parts-returns-in_err-resolve_from : goal.resolve_parts-returns-in_err-resolve_from
resolve_parts-returns-in_err-resolve_from t c = loop_fails (λ (e : SExpr). expr_uses c.args.text.now c.args.globals.now e From c.args.locals.now) (IsTerm c.args.globals.now c.args.locals.now) (AreTerms c.args.globals.now c.args.locals.now) (terms_push c.args.globals.now c.args.locals.now) c.args.exprs.now c.loop-expr.expr-index (AreTerms c.args.globals.now c.args.locals.now c.args.exprs.now) c.expr-item.result c.loop-expr.terms c.from_residual.result c.in_err-resolve_from.field-0.0 c.loop-expr-test.true c.expr-item.is c.loop-expr.invariant c.from_residual.ensures.1 c.in_err-resolve_from.ensures

pub resolve_parts-loop-expr-preserved : goal.resolve_parts-loop-expr-preserved
resolve_parts-loop-expr-preserved t c = loop_next (λ (e : SExpr). expr_uses c.args.text.now c.args.globals.now e From c.args.locals.now) (IsTerm c.args.globals.now c.args.locals.now) (AreTerms c.args.globals.now c.args.locals.now) (terms_push c.args.globals.now c.args.locals.now) c.args.exprs.now c.loop-expr.expr-index c.expr-item.result c.loop-expr.terms c.push.new.self c.in_ok-resolve_from.field-0 c.loop-expr-test.true c.expr-item.is c.loop-expr.invariant c.in_ok-resolve_from.ensures c.in_ok-push.ensures.ok
