use Rattle.std.proofs.Common.{[], ◌∷◌, ◌++◌, refl, ℕ}
use Rattle.std.proofs.lemmas.Result.{err_from_is_err_and}
use Rattle.px_derive.specs.Gives.{left}
use Rattle.px_derive.specs.Readers.{push, list_at}
use Rattle.px_derive.specs.Reading.{small_at, numbers_at}
use Rattle.px_derive.proofs.ListFacts.{more_shorter}
use Rattle.px_derive.proofs.Loops.{number_stays, first_read, first_fails, next_read, next_fails, no_next}
use Rattle.px_derive.proofs.fields.read_variables.Goals as goal

pub returns-in_err-first : goal.returns-in_err-first
unfolding numbers_at list_at
returns-in_err-first c =
    let p = err_from_is_err_and c.from_residual.result c.from_residual.ensures.1 in
    rw (p.1, p.2) (first_fails 32 (small_at) (push {T = ℕ}) [] c.in_err-first.field-0.0 (left c.args.text) c.in_err-first.ensures)

pub loop-after-init : goal.loop-after-init
unfolding numbers_at list_at
loop-after-init c = rw (c.in_ok-push.ensures.ok, c.new-variables.ensures) (first_read 32 (small_at) (push {T = ℕ}) [] (left c.args.text) (left c.in_ok-first.rest) c.in_ok-first.first (c.in_ok-first.first ∷ []) c.in_ok-first.ensures refl)

pub returns-in_err-next : goal.returns-in_err-next
returns-in_err-next c =
    let p = err_from_is_err_and c.from_residual-in_err-next.result c.from_residual-in_err-next.ensures.1 in
    rw (p.1, p.2) (next_fails 32 (small_at) (push {T = ℕ}) (number_stays) (numbers_at 32 (left c.args.text)) c.in_err-next.field-0.0 c.loop-after.variables (left c.loop-after.rest) (left c.in-Some.after) c.loop-after.invariant c.in-Some.ensures c.in_err-next.ensures)

pub loop-after-smaller : goal.loop-after-smaller
loop-after-smaller c = more_shorter 32 (small_at) (push {T = ℕ}) (number_stays) (left c.loop-after.rest) (left c.in-Some.after) (left c.in_ok-next.after) c.in_ok-next.next c.in-Some.ensures c.in_ok-next.ensures

pub loop-after-preserved : goal.loop-after-preserved
loop-after-preserved c = rw c.in_ok-push-2.ensures.ok (next_read 32 (small_at) (push {T = ℕ}) (number_stays) (numbers_at 32 (left c.args.text)) c.loop-after.variables (c.loop-after.variables ++ c.in_ok-next.next ∷ []) (left c.loop-after.rest) (left c.in-Some.after) (left c.in_ok-next.after) c.in_ok-next.next c.loop-after.invariant c.in-Some.ensures c.in_ok-next.ensures refl)

pub returns : goal.returns
returns c = no_next 32 (small_at) (push {T = ℕ}) (number_stays) (numbers_at 32 (left c.args.text)) c.loop-after.variables (left c.loop-after.rest) c.loop-after.invariant c.in_default.ensures
