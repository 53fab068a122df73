use Rattle.std.proofs.Common.{refl, sym, ◌∙◌, arith}
use Rattle.std.proofs.lemmas.Result.{err_from_is_err_and}
use Rattle.px_lexer.specs.declared.token.Mark.TheVariants.{Comma}
use Rattle.px_parser.specs.Gives.{words}
use Rattle.px_parser.specs.Kinds.{is_mark, fronts}
use Rattle.px_parser.specs.Reading.{expr_at, exprs_at, arm_at, arms_at}
use Rattle.px_parser.proofs.Fronts.{fails_at}
use Rattle.px_parser.proofs.ExpressionSteps.{no_expression, number_first, upper_first, lower_first, match_first}
use Rattle.px_parser.proofs.ExpressionsRight.{expr_stays, arm_stays}
use Rattle.px_parser.proofs.Loops.{loop_first, loop_first_fails, loop_end, loop_next, loop_fails, loop_shorter}
use Rattle.px_parser.proofs.expressions.+expressions.Goals as goal

pub read_expressions-returns-in_err-first : goal.read_expressions-returns-in_err-first
unfolding exprs_at
read_expressions-returns-in_err-first t c =
    let p = err_from_is_err_and c.from_residual.result c.from_residual.ensures.1 in
    rw (p.1, p.2) (loop_first_fails (fronts (is_mark Comma)) Comma (expr_at c.args.room) (words c.args.tokens) c.in_err-first.field-0.0 c.in_err-first.ensures)

pub read_expressions-loop-after-init : goal.read_expressions-loop-after-init
unfolding exprs_at
read_expressions-loop-after-init t c =
    rw (c.in_ok-push.ensures.ok, c.new-expressions.ensures) (loop_first (fronts (is_mark Comma)) Comma (expr_at c.args.room) (words c.args.tokens) (words c.in_ok-first.rest) c.in_ok-first.first c.in_ok-first.ensures)

pub read_expressions-returns-in_err-next : goal.read_expressions-returns-in_err-next
read_expressions-returns-in_err-next t c =
    let p = err_from_is_err_and c.from_residual-in_err-next.result c.from_residual-in_err-next.ensures.1 in
    rw (p.1, p.2, ← c.loop-after.invariant) (loop_fails (fronts (is_mark Comma)) Comma (expr_at c.args.room) (expr_stays c.args.room) refl c.loop-after.expressions (words c.loop-after.rest) (words c.in-Some.after) c.in_err-next.field-0.0 c.in-Some.ensures.begins c.in-Some.ensures.rest c.in_err-next.ensures)

pub read_expressions-loop-after-smaller : goal.read_expressions-loop-after-smaller
read_expressions-loop-after-smaller t c =
    loop_shorter (fronts (is_mark Comma)) Comma (expr_at c.args.room) (expr_stays c.args.room) refl (words c.loop-after.rest) (words c.in-Some.after) (words c.in_ok-next.after) c.in_ok-next.next c.in-Some.ensures.rest c.in_ok-next.ensures

pub read_expressions-loop-after-preserved : goal.read_expressions-loop-after-preserved
read_expressions-loop-after-preserved t c =
    rw c.in_ok-push-2.ensures.ok (loop_next (fronts (is_mark Comma)) Comma (expr_at c.args.room) (expr_stays c.args.room) refl c.loop-after.expressions (words c.loop-after.rest) (words c.in-Some.after) (words c.in_ok-next.after) c.in_ok-next.next c.in-Some.ensures.begins c.in-Some.ensures.rest c.in_ok-next.ensures ∙ c.loop-after.invariant)

pub read_expressions-returns : goal.read_expressions-returns
unfolding exprs_at
read_expressions-returns t c = sym c.loop-after.invariant ∙ loop_end (fronts (is_mark Comma)) Comma (expr_at c.args.room) (expr_stays c.args.room) refl c.loop-after.expressions (words c.loop-after.rest) c.in_default.ensures.none

pub read_arms-returns-in_err-first : goal.read_arms-returns-in_err-first
unfolding arms_at
read_arms-returns-in_err-first t c =
    let p = err_from_is_err_and c.from_residual.result c.from_residual.ensures.1 in
    rw (p.1, p.2) (loop_first_fails (fronts (is_mark Comma)) Comma (arm_at c.args.room) (words c.args.tokens) c.in_err-first.field-0.0 c.in_err-first.ensures)

pub read_arms-loop-after-init : goal.read_arms-loop-after-init
unfolding arms_at
read_arms-loop-after-init t c =
    rw (c.in_ok-push.ensures.ok, c.new-arms.ensures) (loop_first (fronts (is_mark Comma)) Comma (arm_at c.args.room) (words c.args.tokens) (words c.in_ok-first.rest) c.in_ok-first.first c.in_ok-first.ensures)

pub read_arms-returns-in_err-next : goal.read_arms-returns-in_err-next
read_arms-returns-in_err-next t c =
    let p = err_from_is_err_and c.from_residual-in_err-next.result c.from_residual-in_err-next.ensures.1 in
    rw (p.1, p.2, ← c.loop-after.invariant) (loop_fails (fronts (is_mark Comma)) Comma (arm_at c.args.room) (arm_stays c.args.room) refl c.loop-after.arms (words c.loop-after.rest) (words c.in-Some.after) c.in_err-next.field-0.0 c.in-Some.ensures.begins c.in-Some.ensures.rest c.in_err-next.ensures)

pub read_arms-loop-after-smaller : goal.read_arms-loop-after-smaller
read_arms-loop-after-smaller t c =
    loop_shorter (fronts (is_mark Comma)) Comma (arm_at c.args.room) (arm_stays c.args.room) refl (words c.loop-after.rest) (words c.in-Some.after) (words c.in_ok-next.after) c.in_ok-next.next c.in-Some.ensures.rest c.in_ok-next.ensures

pub read_arms-loop-after-preserved : goal.read_arms-loop-after-preserved
read_arms-loop-after-preserved t c =
    rw c.in_ok-push-2.ensures.ok (loop_next (fronts (is_mark Comma)) Comma (arm_at c.args.room) (arm_stays c.args.room) refl c.loop-after.arms (words c.loop-after.rest) (words c.in-Some.after) (words c.in_ok-next.after) c.in_ok-next.next c.in-Some.ensures.begins c.in-Some.ensures.rest c.in_ok-next.ensures ∙ c.loop-after.invariant)

pub read_arms-returns : goal.read_arms-returns
unfolding arms_at
read_arms-returns t c = sym c.loop-after.invariant ∙ loop_end (fronts (is_mark Comma)) Comma (arm_at c.args.room) (arm_stays c.args.room) refl c.loop-after.arms (words c.loop-after.rest) c.in_default.ensures.none

pub read_expression-returns-then-room-eq0 : goal.read_expression-returns-then-room-eq0
read_expression-returns-then-room-eq0 t c = fails_at c.fault.result (words c.args.tokens) _ c.fault.ensures (no_expression c.args.room (words c.args.tokens) (omega arith))

pub read_expression-returns-then-begins_number : goal.read_expression-returns-then-begins_number
read_expression-returns-then-begins_number t c =
    rw (number_first c.args.room (words c.args.tokens) (omega arith) (sym c.begins_number.ensures ∙ c.if-begins_number.true)) c.number.ensures

pub read_expression-returns-then-begins_upper : goal.read_expression-returns-then-begins_upper
read_expression-returns-then-begins_upper t c =
    rw (upper_first c.args.room (words c.args.tokens) (omega arith) (sym c.begins_number.ensures ∙ c.if-begins_number.false) (sym c.begins_upper.ensures ∙ c.if-begins_upper.true)) c.read_construction.ensures

pub read_expression-returns-then-begins_lower : goal.read_expression-returns-then-begins_lower
read_expression-returns-then-begins_lower t c =
    rw (lower_first c.args.room (words c.args.tokens) (omega arith) (sym c.begins_number.ensures ∙ c.if-begins_number.false) (sym c.begins_upper.ensures ∙ c.if-begins_upper.false) (sym c.begins_lower.ensures ∙ c.if-begins_lower.true)) c.read_call.ensures

pub read_expression-returns-else-begins_lower : goal.read_expression-returns-else-begins_lower
read_expression-returns-else-begins_lower t c =
    rw (match_first c.args.room (words c.args.tokens) (omega arith) (sym c.begins_number.ensures ∙ c.if-begins_number.false) (sym c.begins_upper.ensures ∙ c.if-begins_upper.false) (sym c.begins_lower.ensures ∙ c.if-begins_lower.false)) c.read_match.ensures
