use Rattle.px_replicas.proofs.MergeSteps.{two_states, fits_code, merged, ends_so}
use Rattle.px_replicas.proofs.merge.Merge.run.Goals as goal

pub run-requires : goal.run-requires
run-requires c =
    let can = c.requires in
    let a = c.args.one.now in
    let b = c.args.other.now in
    let states = two_states c.deref.result.now c.in_ok-args.args.items c.in_ok-copy.field-0 c.in_ok-copy-2.field-0 a b c.deref.ensures.value c.in_ok-args.ensures.items
    c.in_ok-copy.ensures c.in_ok-copy-2.ensures in
    fits_code can.program can.replica c.args.self.now a b can.serves can.one can.other c.as_slice.result.now c.deref.result.now c.as_slice.ensures states

pub returns-in_err-run : goal.returns-in_err-run
returns-in_err-run c P R serves one other =
    let a = c.args.one.now in
    let b = c.args.other.now in
    let states = two_states c.deref.result.now c.in_ok-args.args.items c.in_ok-copy.field-0 c.in_ok-copy-2.field-0 a b c.deref.ensures.value c.in_ok-args.ensures.items
    c.in_ok-copy.ensures c.in_ok-copy-2.ensures in
    ends_so P R c.args.self.now a b serves one other c.as_slice.result.now c.deref.result.now c.as_slice.ensures states c.args.budget c.in_err-run.field-0.0
    c.in_err-run.ensures.spent c.from_residual-in_err-run.result c.from_residual-in_err-run.ensures

pub returns : goal.returns
returns c P R serves one other =
    let a = c.args.one.now in
    let b = c.args.other.now in
    let gives = c.in_ok-run.ensures.gives in
    let states = two_states c.deref.result.now c.in_ok-args.args.items c.in_ok-copy.field-0 c.in_ok-copy-2.field-0 a b c.deref.ensures.value c.in_ok-args.ensures.items
    c.in_ok-copy.ensures c.in_ok-copy-2.ensures in
    merged P R c.args.self.now a b serves one other c.each_call_has_value.ensures c.as_slice.result.now c.deref.result.now c.as_slice.ensures states c.args.budget
    c.in_ok-run.field-0.value c.in_ok-run.field-0.calls gives.0 gives.1
