use Rattle.std.proofs.Common.{refl, sym, ◌∙◌}
use Rattle.std.proofs.lemmas.Result.{err_from_is_err_and}
use Rattle.px_lexer.specs.declared.token.Mark.TheVariants.{Comma}
use Rattle.px_parser.specs.Gives.{words}
use Rattle.px_parser.specs.Kinds.{is_mark, fronts}
use Rattle.px_parser.specs.Reading.{param_list_at, param_at}
use Rattle.px_parser.proofs.Loops.{loop_first, loop_first_fails, loop_end, loop_next, loop_fails, loop_shorter}
use Rattle.px_parser.proofs.ParametersRight.{param_stays}
use Rattle.px_parser.proofs.parameters.read_param_list.Goals as goal

pub returns-in_err-first : goal.returns-in_err-first
unfolding param_list_at
returns-in_err-first c =
    let p = err_from_is_err_and c.from_residual.result c.from_residual.ensures.1 in
    rw (p.1, p.2) (loop_first_fails (fronts (is_mark Comma)) Comma param_at (words c.args.tokens) c.in_err-first.field-0.0 c.in_err-first.ensures)

pub loop-after-init : goal.loop-after-init
unfolding param_list_at
loop-after-init c =
    rw (c.in_ok-push.ensures.ok, c.new-params.ensures) (loop_first (fronts (is_mark Comma)) Comma param_at (words c.args.tokens) (words c.in_ok-first.rest) c.in_ok-first.first c.in_ok-first.ensures)

pub returns-in_err-next : goal.returns-in_err-next
returns-in_err-next c =
    let p = err_from_is_err_and c.from_residual-in_err-next.result c.from_residual-in_err-next.ensures.1 in
    rw (p.1, p.2, ← c.loop-after.invariant) (loop_fails (fronts (is_mark Comma)) Comma param_at param_stays refl c.loop-after.params (words c.loop-after.rest) (words c.in-Some.after) c.in_err-next.field-0.0 c.in-Some.ensures.begins c.in-Some.ensures.rest c.in_err-next.ensures)

pub loop-after-smaller : goal.loop-after-smaller
loop-after-smaller c =
    loop_shorter (fronts (is_mark Comma)) Comma param_at param_stays refl (words c.loop-after.rest) (words c.in-Some.after) (words c.in_ok-next.after) c.in_ok-next.next c.in-Some.ensures.rest c.in_ok-next.ensures

pub loop-after-preserved : goal.loop-after-preserved
loop-after-preserved c =
    rw c.in_ok-push-2.ensures.ok (loop_next (fronts (is_mark Comma)) Comma param_at param_stays refl c.loop-after.params (words c.loop-after.rest) (words c.in-Some.after) (words c.in_ok-next.after) c.in_ok-next.next c.in-Some.ensures.begins c.in-Some.ensures.rest c.in_ok-next.ensures ∙ c.loop-after.invariant)

pub returns : goal.returns
unfolding param_list_at
returns c = sym c.loop-after.invariant ∙ loop_end (fronts (is_mark Comma)) Comma param_at param_stays refl c.loop-after.params (words c.loop-after.rest) c.in_default.ensures.none
