use Rattle.std.proofs.Common.{[], ◌∷◌, ◌++◌, refl, sym, ap, ◌∙◌, arith}
use Rattle.std.proofs.lemmas.Result.{err_from_is_err_and}
use Rattle.px_terms.specs.declared.term.Term.{Term}
use Rattle.px_derive.specs.Gives.{left}
use Rattle.px_derive.specs.Readers.{push, list_at}
use Rattle.px_derive.specs.Reading.{argument_added, no_arguments, argument_at, value_at, values_at, some_arguments_at, term_at, terms_at}
use Rattle.px_derive.specs.declared.terms.Arguments.{Arguments}
use Rattle.px_derive.proofs.TermSteps.{no_room, variable_fails, a_variable, literal_fails, a_literal, a_construction, a_function}
use Rattle.px_derive.proofs.ListFacts.{more_shorter}
use Rattle.px_derive.proofs.Loops.{term_stays, argument_stays, first_read, first_fails, next_read, next_fails, next_refused, no_next}
use Rattle.px_derive.proofs.terms.+terms.Goals as goal

pub read_terms-returns-in_err-first : goal.read_terms-returns-in_err-first
unfolding terms_at values_at list_at term_at
read_terms-returns-in_err-first t c =
    let p = err_from_is_err_and c.from_residual.result c.from_residual.ensures.1 in
    rw (p.1, p.2) (first_fails 44 (value_at (argument_at c.args.names.now c.args.room)) (push {T = Term}) [] c.in_err-first.field-0.0 (left c.args.text) c.in_err-first.ensures)

pub read_terms-loop-after-init : goal.read_terms-loop-after-init
unfolding terms_at values_at list_at term_at
read_terms-loop-after-init t c = rw (c.in_ok-push.ensures.ok, c.new-terms.ensures) (first_read 44 (value_at (argument_at c.args.names.now c.args.room)) (push {T = Term}) [] (left c.args.text) (left c.in_ok-first.rest) c.in_ok-first.first (c.in_ok-first.first ∷ []) c.in_ok-first.ensures refl)

pub read_terms-returns-in_err-next : goal.read_terms-returns-in_err-next
unfolding term_at
read_terms-returns-in_err-next t c =
    let p = err_from_is_err_and c.from_residual-in_err-next.result c.from_residual-in_err-next.ensures.1 in
    rw (p.1, p.2) (next_fails 44 (value_at (argument_at c.args.names.now c.args.room)) (push {T = Term}) (term_stays c.args.names.now c.args.room) (terms_at c.args.names.now c.args.room (left c.args.text)) c.in_err-next.field-0.0 c.loop-after.terms (left c.loop-after.rest) (left c.in-Some.after) c.loop-after.invariant c.in-Some.ensures c.in_err-next.ensures)

pub read_terms-loop-after-smaller : goal.read_terms-loop-after-smaller
unfolding term_at
read_terms-loop-after-smaller t c = more_shorter 44 (value_at (argument_at c.args.names.now c.args.room)) (push {T = Term}) (term_stays c.args.names.now c.args.room) (left c.loop-after.rest) (left c.in-Some.after) (left c.in_ok-next.after) c.in_ok-next.next c.in-Some.ensures c.in_ok-next.ensures

pub read_terms-loop-after-preserved : goal.read_terms-loop-after-preserved
unfolding term_at
read_terms-loop-after-preserved t c = rw c.in_ok-push-2.ensures.ok (next_read 44 (value_at (argument_at c.args.names.now c.args.room)) (push {T = Term}) (term_stays c.args.names.now c.args.room) (terms_at c.args.names.now c.args.room (left c.args.text)) c.loop-after.terms (c.loop-after.terms ++ c.in_ok-next.next ∷ []) (left c.loop-after.rest) (left c.in-Some.after) (left c.in_ok-next.after) c.in_ok-next.next c.loop-after.invariant c.in-Some.ensures c.in_ok-next.ensures refl)

pub read_terms-returns : goal.read_terms-returns
read_terms-returns t c = no_next 44 (value_at (argument_at c.args.names.now c.args.room)) (push {T = Term}) (term_stays c.args.names.now c.args.room) (terms_at c.args.names.now c.args.room (left c.args.text)) c.loop-after.terms (left c.loop-after.rest) c.loop-after.invariant c.in_default.ensures

pub read_argument-returns-then-room-eq0 : goal.read_argument-returns-then-room-eq0
read_argument-returns-then-room-eq0 t c = no_room c.args.names.now c.args.room (left c.args.text) (omega arith)

pub read_argument-returns-in_err-number : goal.read_argument-returns-in_err-number
read_argument-returns-in_err-number t c =
    let p = err_from_is_err_and c.from_residual.result c.from_residual.ensures.1 in
    rw (p.1, p.2) (variable_fails c.in_err-number.field-0.0 c.args.names.now c.args.room (left c.args.text) (left c.in-Some.after) (omega arith) c.in-Some.ensures c.in_err-number.ensures)

pub read_argument-returns-in-Some : goal.read_argument-returns-in-Some
read_argument-returns-in-Some t c = a_variable c.args.names.now c.args.room (left c.args.text) (left c.in-Some.after) (left c.in_ok-number.rest) c.in_ok-number.number (omega arith) c.in-Some.ensures c.in_ok-number.ensures

pub read_argument-returns-in_err-literal : goal.read_argument-returns-in_err-literal
read_argument-returns-in_err-literal t c =
    let p = err_from_is_err_and c.from_residual-in_err-literal.result c.from_residual-in_err-literal.ensures.1 in
    rw (p.1, p.2) (literal_fails c.in_err-literal.field-0.0 c.args.names.now c.args.room (left c.args.text) (omega arith) c.in_default.ensures (sym c.begins_digit.ensures ∙ c.if-begins_digit.true) c.in_err-literal.ensures)

pub read_argument-returns-then-begins_digit : goal.read_argument-returns-then-begins_digit
read_argument-returns-then-begins_digit t c = a_literal c.args.names.now c.args.room (left c.args.text) (left c.in_ok-literal.rest) c.in_ok-literal.literal (omega arith) c.in_default.ensures (sym c.begins_digit.ensures ∙ c.if-begins_digit.true) c.in_ok-literal.ensures

pub read_argument-returns-then-begins_upper : goal.read_argument-returns-then-begins_upper
read_argument-returns-then-begins_upper t c = rw (a_construction c.args.names.now c.args.room (left c.args.text) (omega arith) c.in_default.ensures (sym c.begins_digit.ensures ∙ c.if-begins_digit.false) (sym c.begins_upper.ensures ∙ c.if-begins_upper.true)) c.read_construction.ensures

pub read_argument-returns : goal.read_argument-returns
read_argument-returns t c = rw (a_function c.args.names.now c.args.room (left c.args.text) (omega arith) c.in_default.ensures (sym c.begins_digit.ensures ∙ c.if-begins_digit.false) (sym c.begins_upper.ensures ∙ c.if-begins_upper.false)) c.read_called.ensures

pub read_some_arguments-returns-in_err-first : goal.read_some_arguments-returns-in_err-first
unfolding some_arguments_at
read_some_arguments-returns-in_err-first t c =
    let p = err_from_is_err_and c.from_residual.result c.from_residual.ensures.1 in
    rw (p.1, p.2) (first_fails 44 (argument_at c.args.names.now c.args.room) argument_added no_arguments c.in_err-first.field-0.0 (left c.args.text) c.in_err-first.ensures)

pub read_some_arguments-loop-after-init : goal.read_some_arguments-loop-after-init
unfolding some_arguments_at
read_some_arguments-loop-after-init t c = first_read 44 (argument_at c.args.names.now c.args.room) argument_added no_arguments (left c.args.text) (left c.in_ok-first.rest) c.in_ok-first.first c.in_ok-all.all c.in_ok-first.ensures (ap (λ (all : Arguments). argument_added all c.in_ok-first.first) (sym c.new.ensures) ∙ c.in_ok-all.ensures)

pub read_some_arguments-returns-in_err-next : goal.read_some_arguments-returns-in_err-next
read_some_arguments-returns-in_err-next t c =
    let p = err_from_is_err_and c.from_residual-in_err-next.result c.from_residual-in_err-next.ensures.1 in
    rw (p.1, p.2) (next_fails 44 (argument_at c.args.names.now c.args.room) argument_added (argument_stays c.args.names.now c.args.room) (some_arguments_at (argument_at c.args.names.now c.args.room) (left c.args.text)) c.in_err-next.field-0.0 c.loop-after.all (left c.loop-after.rest) (left c.in-Some.after) c.loop-after.invariant c.in-Some.ensures c.in_err-next.ensures)

pub read_some_arguments-returns-in_err-all-2 : goal.read_some_arguments-returns-in_err-all-2
read_some_arguments-returns-in_err-all-2 t c =
    let p = err_from_is_err_and c.from_residual-in_err-all-2.result c.from_residual-in_err-all-2.ensures.1 in
    rw (p.1, p.2) (next_refused 44 (argument_at c.args.names.now c.args.room) argument_added (argument_stays c.args.names.now c.args.room) (some_arguments_at (argument_at c.args.names.now c.args.room) (left c.args.text)) c.in_err-all-2.field-0.0 c.loop-after.all (left c.loop-after.rest) (left c.in-Some.after) (left c.in_ok-next.after) c.in_ok-next.next c.loop-after.invariant c.in-Some.ensures c.in_ok-next.ensures c.in_err-all-2.ensures)

pub read_some_arguments-loop-after-smaller : goal.read_some_arguments-loop-after-smaller
read_some_arguments-loop-after-smaller t c = more_shorter 44 (argument_at c.args.names.now c.args.room) argument_added (argument_stays c.args.names.now c.args.room) (left c.loop-after.rest) (left c.in-Some.after) (left c.in_ok-next.after) c.in_ok-next.next c.in-Some.ensures c.in_ok-next.ensures

pub read_some_arguments-loop-after-preserved : goal.read_some_arguments-loop-after-preserved
read_some_arguments-loop-after-preserved t c = next_read 44 (argument_at c.args.names.now c.args.room) argument_added (argument_stays c.args.names.now c.args.room) (some_arguments_at (argument_at c.args.names.now c.args.room) (left c.args.text)) c.loop-after.all c.in_ok-all-2.all (left c.loop-after.rest) (left c.in-Some.after) (left c.in_ok-next.after) c.in_ok-next.next c.loop-after.invariant c.in-Some.ensures c.in_ok-next.ensures c.in_ok-all-2.ensures

pub read_some_arguments-returns : goal.read_some_arguments-returns
read_some_arguments-returns t c = no_next 44 (argument_at c.args.names.now c.args.room) argument_added (argument_stays c.args.names.now c.args.room) (some_arguments_at (argument_at c.args.names.now c.args.room) (left c.args.text)) c.loop-after.all (left c.loop-after.rest) c.loop-after.invariant c.in_default.ensures
