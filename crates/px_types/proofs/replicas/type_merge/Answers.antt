use Rattle.px_types.specs.Envs.{env_of}
use Rattle.px_types.proofs.EndSteps.{ends_as}
use Rattle.px_types.proofs.ReplicaSteps.{counts_fail, types_fail, stands_here, functions_fail, join_fails, merge_ok, seen_as}
use Rattle.px_types.proofs.replicas.type_merge.Goals as goal

pub returns-in_err-need : goal.returns-in_err-need
returns-in_err-need c =
    ends_as _ _ c.from_residual.result c.in_err-need.field-0.0 c.from_residual.ensures.1 (counts_fail c.args.env.now.program.now c.args.raw.now c.args.state
    c.args.from c.has_counts.result tt c.has_counts.ensures c.in_err-need.field-0.0 c.in_err-need.ensures)

pub returns-in_err-types : goal.returns-in_err-types
returns-in_err-types c =
    ends_as _ _ c.from_residual-in_err-types.result c.in_err-types.field-0.0 c.from_residual-in_err-types.ensures.1
    (types_fail c.args.env.now.program.now c.args.raw.now c.args.state c.args.from c.has_counts.result c.in_ok-need.field-0 c.has_counts.ensures
    c.in_ok-need.ensures c.in_err-types.field-0.0 c.in_err-types.ensures)

pub returns-in_err-funs : goal.returns-in_err-funs
returns-in_err-funs c =
    let P = c.args.env.now.program.now in
    let E = env_of c.args.env.now in
    let s = stands_here P c.args.raw.now c.args.state c.args.from c.has_counts.result c.in_ok-need.field-0 c.has_counts.ensures c.in_ok-need.ensures
    c.in_ok-types.types c.in_ok-types.ensures E c.requires.stands in
    ends_as _ _ c.from_residual-in_err-funs.result c.in_err-funs.field-0.0 c.from_residual-in_err-funs.ensures.1
    (functions_fail P c.args.raw.now c.args.state c.args.from c.has_counts.result c.in_ok-need.field-0 c.has_counts.ensures c.in_ok-need.ensures
    c.in_ok-types.types c.in_ok-types.ensures E c.requires.stands c.in_err-funs.field-0.0 (c.in_err-funs.ensures s.s s.is))

pub returns-in_err-need-2 : goal.returns-in_err-need-2
returns-in_err-need-2 c =
    let P = c.args.env.now.program.now in
    let E = env_of c.args.env.now in
    let s = stands_here P c.args.raw.now c.args.state c.args.from c.has_counts.result c.in_ok-need.field-0 c.has_counts.ensures c.in_ok-need.ensures
    c.in_ok-types.types c.in_ok-types.ensures E c.requires.stands in
    ends_as _ _ c.from_residual-in_err-need-2.result c.in_err-need-2.field-0.0 c.from_residual-in_err-need-2.ensures.1
    (join_fails P c.args.raw.now c.args.state c.args.from c.has_counts.result c.in_ok-need.field-0 c.has_counts.ensures c.in_ok-need.ensures
    c.in_ok-types.types c.in_ok-types.ensures E c.requires.stands c.in_ok-funs.funs (c.in_ok-funs.ensures s.s s.is) c.is_join-joins.result
    (c.is_join-joins.ensures s.s s.is) c.in_err-need-2.field-0.0 c.in_err-need-2.ensures)

pub returns : goal.returns
returns c =
    let P = c.args.env.now.program.now in
    let E = env_of c.args.env.now in
    let s = stands_here P c.args.raw.now c.args.state c.args.from c.has_counts.result c.in_ok-need.field-0 c.has_counts.ensures c.in_ok-need.ensures
    c.in_ok-types.types c.in_ok-types.ensures E c.requires.stands in
    seen_as P c.args.raw.now c.args.state c.args.from c.in_ok-types.types c.in_ok-funs.funs c.len.result c.len.ensures
    (merge_ok P c.args.raw.now c.args.state c.args.from c.has_counts.result c.in_ok-need.field-0 c.has_counts.ensures c.in_ok-need.ensures
    c.in_ok-types.types c.in_ok-types.ensures E c.requires.stands c.in_ok-funs.funs (c.in_ok-funs.ensures s.s s.is) c.is_join-joins.result
    (c.is_join-joins.ensures s.s s.is) c.in_ok-need-2.field-0 c.in_ok-need-2.ensures)
