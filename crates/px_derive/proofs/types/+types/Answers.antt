use Rattle.std.proofs.Common.{[], ◌∷◌, ◌++◌, refl, sym, ◌∙◌, arith}
use Rattle.std.proofs.lemmas.Result.{err_from_is_err_and}
use Rattle.px_terms.specs.declared.types.Ty.{Ty}
use Rattle.px_derive.specs.Gives.{left}
use Rattle.px_derive.specs.Readers.{push, list_at}
use Rattle.px_derive.specs.Reading.{ty_at, tys_at}
use Rattle.px_derive.proofs.TypeSteps.{no_room, variable_fails, a_variable, a_word, a_datatype}
use Rattle.px_derive.proofs.ListFacts.{more_shorter}
use Rattle.px_derive.proofs.Loops.{ty_stays, first_read, first_fails, next_read, next_fails, no_next}
use Rattle.px_derive.proofs.types.+types.Goals as goal

pub read_types-returns-in_err-first : goal.read_types-returns-in_err-first
unfolding tys_at list_at
read_types-returns-in_err-first t c =
    let p = err_from_is_err_and c.from_residual.result c.from_residual.ensures.1 in
    rw (p.1, p.2) (first_fails 44 (ty_at c.args.names.now c.args.room) (push {T = Ty}) [] c.in_err-first.field-0.0 (left c.args.text) c.in_err-first.ensures)

pub read_types-loop-after-init : goal.read_types-loop-after-init
unfolding tys_at list_at
read_types-loop-after-init t c = rw (c.in_ok-push.ensures.ok, c.new-types.ensures) (first_read 44 (ty_at c.args.names.now c.args.room) (push {T = Ty}) [] (left c.args.text) (left c.in_ok-first.rest) c.in_ok-first.first (c.in_ok-first.first ∷ []) c.in_ok-first.ensures refl)

pub read_types-returns-in_err-next : goal.read_types-returns-in_err-next
read_types-returns-in_err-next t c =
    let p = err_from_is_err_and c.from_residual-in_err-next.result c.from_residual-in_err-next.ensures.1 in
    rw (p.1, p.2) (next_fails 44 (ty_at c.args.names.now c.args.room) (push {T = Ty}) (ty_stays c.args.names.now c.args.room) (tys_at c.args.names.now c.args.room (left c.args.text)) c.in_err-next.field-0.0 c.loop-after.types (left c.loop-after.rest) (left c.in-Some.after) c.loop-after.invariant c.in-Some.ensures c.in_err-next.ensures)

pub read_types-loop-after-smaller : goal.read_types-loop-after-smaller
read_types-loop-after-smaller t c = more_shorter 44 (ty_at c.args.names.now c.args.room) (push {T = Ty}) (ty_stays c.args.names.now c.args.room) (left c.loop-after.rest) (left c.in-Some.after) (left c.in_ok-next.after) c.in_ok-next.next c.in-Some.ensures c.in_ok-next.ensures

pub read_types-loop-after-preserved : goal.read_types-loop-after-preserved
read_types-loop-after-preserved t c = rw c.in_ok-push-2.ensures.ok (next_read 44 (ty_at c.args.names.now c.args.room) (push {T = Ty}) (ty_stays c.args.names.now c.args.room) (tys_at c.args.names.now c.args.room (left c.args.text)) c.loop-after.types (c.loop-after.types ++ c.in_ok-next.next ∷ []) (left c.loop-after.rest) (left c.in-Some.after) (left c.in_ok-next.after) c.in_ok-next.next c.loop-after.invariant c.in-Some.ensures c.in_ok-next.ensures refl)

pub read_types-returns : goal.read_types-returns
read_types-returns t c = no_next 44 (ty_at c.args.names.now c.args.room) (push {T = Ty}) (ty_stays c.args.names.now c.args.room) (tys_at c.args.names.now c.args.room (left c.args.text)) c.loop-after.types (left c.loop-after.rest) c.loop-after.invariant c.in_default.ensures

pub read_type-returns-then-room-eq0 : goal.read_type-returns-then-room-eq0
read_type-returns-then-room-eq0 t c = no_room c.args.names.now c.args.room (left c.args.text) (omega arith)

pub read_type-returns-in_err-number : goal.read_type-returns-in_err-number
read_type-returns-in_err-number t c =
    let p = err_from_is_err_and c.from_residual.result c.from_residual.ensures.1 in
    rw (p.1, p.2) (variable_fails c.in_err-number.field-0.0 c.args.names.now c.args.room (left c.args.text) (left c.in-Some.after) (omega arith) c.in-Some.ensures c.in_err-number.ensures)

pub read_type-returns-in-Some : goal.read_type-returns-in-Some
read_type-returns-in-Some t c = a_variable c.args.names.now c.args.room (left c.args.text) (left c.in-Some.after) (left c.in_ok-number.rest) c.in_ok-number.number (omega arith) c.in-Some.ensures c.in_ok-number.ensures

pub read_type-returns-then-is_word : goal.read_type-returns-then-is_word
read_type-returns-then-is_word t c = a_word c.args.names.now c.args.room (left c.args.text) c.word.result.0.now (left c.word.result.1) (omega arith) c.in_default.ensures c.word.ensures (sym c.is_word.ensures ∙ c.if-is_word.true)

pub read_type-returns : goal.read_type-returns
read_type-returns t c = rw (a_datatype c.args.names.now c.args.room (left c.args.text) c.word.result.0.now (left c.word.result.1) (omega arith) c.in_default.ensures c.word.ensures (sym c.is_word.ensures ∙ c.if-is_word.false)) c.read_datatype.ensures
