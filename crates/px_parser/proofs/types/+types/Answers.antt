use Rattle.std.proofs.Common.{refl, sym, ◌∙◌, arith}
use Rattle.std.proofs.lemmas.Result.{err_from_is_err_and}
use Rattle.px_lexer.specs.declared.token.Mark.TheVariants.{Comma}
use Rattle.px_parser.specs.Kinds.{is_mark, fronts}
use Rattle.px_parser.specs.Gives.{words}
use Rattle.px_parser.specs.Reading.{type_at, types_at}
use Rattle.px_parser.proofs.Fronts.{fails_at}
use Rattle.px_parser.proofs.TypeSteps.{no_type, a_type, no_name, no_arguments}
use Rattle.px_parser.proofs.Loops.{loop_first, loop_first_fails, loop_end, loop_next, loop_fails, loop_shorter}
use Rattle.px_parser.proofs.TypesRight.{type_stays}
use Rattle.px_parser.proofs.types.+types.Goals as goal

pub read_type-returns-then-room-eq0 : goal.read_type-returns-then-room-eq0
read_type-returns-then-room-eq0 t c = fails_at c.fault.result (words c.args.tokens) _ c.fault.ensures (no_type c.args.room (words c.args.tokens) (omega arith))

pub read_type-returns-in_err-name : goal.read_type-returns-in_err-name
read_type-returns-in_err-name t c =
    let p = err_from_is_err_and c.from_residual.result c.from_residual.ensures.1 in
    rw (p.1, p.2) (no_name c.args.room (words c.args.tokens) c.in_err-name.field-0.0 (omega arith) c.in_err-name.ensures)

pub read_type-returns-in_err-args : goal.read_type-returns-in_err-args
read_type-returns-in_err-args t c =
    let p = err_from_is_err_and c.from_residual-in_err-args.result c.from_residual-in_err-args.ensures.1 in
    rw (p.1, p.2) (no_arguments c.args.room (words c.args.tokens) (words c.in_ok-name.rest) c.in_ok-name.name c.in_err-args.field-0.0 (omega arith) c.in_ok-name.ensures c.in_err-args.ensures)

pub read_type-returns : goal.read_type-returns
read_type-returns t c = a_type c.args.room (words c.args.tokens) (words c.in_ok-name.rest) (words c.in_ok-args.rest) c.in_ok-name.name c.in_ok-args.args (omega arith) c.in_ok-name.ensures c.in_ok-args.ensures

pub read_types-returns-in_err-first : goal.read_types-returns-in_err-first
unfolding types_at
read_types-returns-in_err-first t c =
    let p = err_from_is_err_and c.from_residual.result c.from_residual.ensures.1 in
    rw (p.1, p.2) (loop_first_fails (fronts (is_mark Comma)) Comma (type_at c.args.room) (words c.args.tokens) c.in_err-first.field-0.0 c.in_err-first.ensures)

pub read_types-loop-after-init : goal.read_types-loop-after-init
unfolding types_at
read_types-loop-after-init t c =
    rw (c.in_ok-push.ensures.ok, c.new-types.ensures) (loop_first (fronts (is_mark Comma)) Comma (type_at c.args.room) (words c.args.tokens) (words c.in_ok-first.rest) c.in_ok-first.first c.in_ok-first.ensures)

pub read_types-returns-in_err-next : goal.read_types-returns-in_err-next
read_types-returns-in_err-next t c =
    let p = err_from_is_err_and c.from_residual-in_err-next.result c.from_residual-in_err-next.ensures.1 in
    rw (p.1, p.2, ← c.loop-after.invariant) (loop_fails (fronts (is_mark Comma)) Comma (type_at c.args.room) (type_stays c.args.room) refl c.loop-after.types (words c.loop-after.rest) (words c.in-Some.after) c.in_err-next.field-0.0 c.in-Some.ensures.begins c.in-Some.ensures.rest c.in_err-next.ensures)

pub read_types-loop-after-smaller : goal.read_types-loop-after-smaller
read_types-loop-after-smaller t c = loop_shorter (fronts (is_mark Comma)) Comma (type_at c.args.room) (type_stays c.args.room) refl (words c.loop-after.rest) (words c.in-Some.after) (words c.in_ok-next.after) c.in_ok-next.next c.in-Some.ensures.rest c.in_ok-next.ensures

pub read_types-loop-after-preserved : goal.read_types-loop-after-preserved
unfolding types_at
read_types-loop-after-preserved t c =
    rw c.in_ok-push-2.ensures.ok (loop_next (fronts (is_mark Comma)) Comma (type_at c.args.room) (type_stays c.args.room) refl c.loop-after.types (words c.loop-after.rest) (words c.in-Some.after) (words c.in_ok-next.after) c.in_ok-next.next c.in-Some.ensures.begins c.in-Some.ensures.rest c.in_ok-next.ensures ∙ c.loop-after.invariant)

pub read_types-returns : goal.read_types-returns
unfolding types_at
read_types-returns t c = sym c.loop-after.invariant ∙ loop_end (fronts (is_mark Comma)) Comma (type_at c.args.room) (type_stays c.args.room) refl c.loop-after.types (words c.loop-after.rest) c.in_default.ensures.none
