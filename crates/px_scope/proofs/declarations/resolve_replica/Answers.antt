use Rattle.px_scope.proofs.ReplicaSteps.{replica_state_fails, replica_from_fails, replica_merge_fails, replica_funs_fail, replica_fine}
use Rattle.px_scope.proofs.declarations.resolve_replica.Goals as goal

pub returns-in_err-state : goal.returns-in_err-state
returns-in_err-state c =
    replica_state_fails c.args.text.now c.args.globals.now c.args.replica.now c.in_ok-check_new.ensures.0 c.new-locals.result c.new-locals.ensures _ c.from_residual-in_err-state.result c.in_err-state.field-0.0 c.from_residual-in_err-state.ensures.1 c.in_err-state.ensures

pub returns-in_err-from : goal.returns-in_err-from
returns-in_err-from c =
    replica_from_fails c.args.text.now c.args.globals.now c.args.replica.now c.in_ok-check_new.ensures.0 c.new-locals.result c.new-locals.ensures c.in_ok-state.ensures.0 c.declare.new.globals c.in_ok-declare.ensures.declared _ c.from_residual-in_err-from.result c.in_err-from.field-0.0 c.from_residual-in_err-from.ensures.1 c.in_err-from.ensures

pub returns-in_err-merge : goal.returns-in_err-merge
returns-in_err-merge c =
    replica_merge_fails c.args.text.now c.args.globals.now c.args.replica.now c.in_ok-check_new.ensures.0 c.new-locals.result c.new-locals.ensures c.in_ok-state.ensures.0 c.declare.new.globals c.in_ok-declare.ensures.declared c.in_ok-from.ensures.0 _ c.from_residual-in_err-merge.result c.in_err-merge.field-0.0 c.from_residual-in_err-merge.ensures.1 c.in_err-merge.ensures

pub returns-in_err-funs : goal.returns-in_err-funs
returns-in_err-funs c =
    replica_funs_fail c.args.text.now c.args.globals.now c.args.replica.now c.in_ok-check_new.ensures.0 c.new-locals.result c.new-locals.ensures c.in_ok-state.ensures.0 c.declare.new.globals c.in_ok-declare.ensures.declared c.in_ok-from.ensures.0 c.in_ok-merge.ensures.0 c.as_slice.result.now c.as_slice.ensures _ c.from_residual-in_err-funs.result c.in_err-funs.field-0.0 c.from_residual-in_err-funs.ensures.1 c.in_err-funs.ensures

pub returns : goal.returns
returns c =
    replica_fine c.args.text.now c.args.globals.now c.args.replica.now c.in_ok-check_new.ensures.0 c.new-locals.result c.new-locals.ensures c.in_ok-state.ensures.0 c.declare.new.globals c.in_ok-declare.ensures.declared c.in_ok-from.ensures.0 c.in_ok-merge.ensures.0 c.as_slice.result.now c.as_slice.ensures c.in_ok-state.state c.in_ok-from.from c.in_ok-merge.merge c.in_ok-funs.funs c.in_ok-state.ensures.1 c.in_ok-from.ensures.1 c.in_ok-merge.ensures.1 c.in_ok-funs.ensures
