use Rattle.px_types.proofs.EndSteps.{ends_as}
use Rattle.px_types.proofs.ReplicaSteps.{replica_stands, stands_alone, state_fails, from_fails, rest_answers}
use Rattle.px_types.proofs.replicas.type_replica.Goals as goal

pub returns-in_err-state : goal.returns-in_err-state
returns-in_err-state c =
    ends_as _ _ c.from_residual.result c.in_err-state.field-0.0 c.from_residual.ensures.1 (state_fails c.args.program.now c.args.raw.now
    c.in_err-state.field-0.0 c.in_err-state.ensures)

pub returns-in_err-from : goal.returns-in_err-from
returns-in_err-from c =
    let P = c.args.program.now in
    ends_as _ _ c.from_residual-in_err-from.result c.in_err-from.field-0.0 c.from_residual-in_err-from.ensures.1
    (from_fails P c.args.raw.now c.in_ok-state.state c.in_ok-state.ensures (replica_stands P c.new-funs.result c.new-vars.result c.len.result)
    (stands_alone P c.new-funs.result c.new-vars.result c.len.result c.new-funs.ensures c.new-vars.ensures c.len.ensures) c.new-bound.result
    c.new-bound.ensures c.in_err-from.field-0.0 c.in_err-from.ensures.answers)

pub returns : goal.returns
returns c =
    let P = c.args.program.now in
    rest_answers P c.args.raw.now c.in_ok-state.state c.in_ok-state.ensures (replica_stands P c.new-funs.result c.new-vars.result c.len.result)
    (stands_alone P c.new-funs.result c.new-vars.result c.len.result c.new-funs.ensures c.new-vars.ensures c.len.ensures) c.new-bound.result
    c.new-bound.ensures c.in_ok-from.from c.type_merge.result c.in_ok-from.ensures.answers c.type_merge.ensures
