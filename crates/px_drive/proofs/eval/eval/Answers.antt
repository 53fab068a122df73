use Rattle.std.proofs.Common.{ℕ, List, [], Err, refl, inl, inr, subst}
use Rattle.std.proofs.KnownBytes.{Appends-nil}
use Rattle.px_drive.specs.declared.outcome.End.TheVariants.{NoMemory}
use Rattle.px_drive.specs.Ends.{FindsCall}
use Rattle.px_drive.proofs.LineStages.{runs_refused, runs_ended, runs_done}
use Rattle.px_drive.proofs.CallFacts.{call_fits}
use Rattle.px_drive.proofs.eval.eval.Goals as goal

pub find_call-requires : goal.find_call-requires
find_call-requires g c = let source = c.in_ok-checked.ensures.reads in c.source_is_numbered.ensures source.0 _ source.2

pub evaluate-requires : goal.evaluate-requires
evaluate-requires g c = let source = c.in_ok-checked.ensures.reads in call_fits _ _ _ _ (c.source_is_checked.ensures source.0 _ source.2) c.in_ok-call.ensures

pub returns-in_err-checked-clause-runs : goal.returns-in_err-checked-clause-runs
returns-in_err-checked-clause-runs g c = runs_refused _ _ c.from_residual.ensures.1 c.in_err-checked.ensures.reads (Appends-nil _)

pub returns-in_err-call-clause-runs : goal.returns-in_err-call-clause-runs
returns-in_err-call-clause-runs g c =
    let refuses : FindsCall c.in_ok-checked.checked c.args.question.name.now c.args.question.values.now (Err c.in_err-call.field-0.0) =
    subst (λ (words : List (List ℕ)). FindsCall c.in_ok-checked.checked c.args.question.name.now words (Err c.in_err-call.field-0.0)) c.as_slice.ensures c.in_err-call.ensures in
    runs_ended _ _ c.from_residual-in_err-call.ensures.1 [] _ c.in_ok-checked.ensures.reads (inl (refuses, refl)) (Appends-nil _)

pub returns-in_err-done-clause-runs : goal.returns-in_err-done-clause-runs
returns-in_err-done-clause-runs g c =
    runs_ended _ _ c.from_residual-in_err-done.ensures.1 [] _ c.in_ok-checked.ensures.reads (inr (c.in_ok-call.call, rw c.as_slice.ensures at c.in_ok-call.ensures, inl (c.in_err-done.ensures, refl))) (Appends-nil _)

pub returns-in_err-value-clause-runs : goal.returns-in_err-value-clause-runs
returns-in_err-value-clause-runs g c =
    runs_ended _ NoMemory c.from_residual-in_err-value.ensures.1 [] _ c.in_ok-checked.ensures.reads
    (inr (c.in_ok-call.call, rw c.as_slice.ensures at c.in_ok-call.ensures, inr (c.in_ok-done.done, c.in_ok-done.ensures, inl (tt, refl)))) (Appends-nil _)

pub returns-in_err-print_evaluated-clause-runs : goal.returns-in_err-print_evaluated-clause-runs
returns-in_err-print_evaluated-clause-runs g c =
    let spelled = rw c.program.ensures.same at c.in_ok-value.ensures in
    let writes = rw c.as_slice-2.ensures at c.in_err-print_evaluated.ensures.writes in
    let front = writes.0 in
    runs_ended _ _ c.from_residual-in_err-print_evaluated.ensures.1 _ _ c.in_ok-checked.ensures.reads
    (inr (c.in_ok-call.call, rw c.as_slice.ensures at c.in_ok-call.ensures, inr (c.in_ok-done.done, c.in_ok-done.ensures, inr (c.in_ok-value.value, spelled, (writes.1, (front.0, refl)))))) front.2

pub returns-clause-runs : goal.returns-clause-runs
returns-clause-runs g c =
    let spelled = rw c.program.ensures.same at c.in_ok-value.ensures in
    let writes = rw c.as_slice-2.ensures at c.in_ok-print_evaluated.ensures.writes in
    runs_done _ _ c.in_ok-checked.ensures.reads
    (inr (c.in_ok-call.call, rw c.as_slice.ensures at c.in_ok-call.ensures, inr (c.in_ok-done.done, c.in_ok-done.ensures, inr (c.in_ok-value.value, spelled, refl)))) writes
