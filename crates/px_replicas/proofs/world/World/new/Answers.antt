use Rattle.px_replicas.specs.declared.version.Version.{Version}
use Rattle.px_replicas.proofs.StartSteps.{found_there, start_merges, start_kept, start_new, start_stands}
use Rattle.px_replicas.proofs.world.World.new.Goals as goal

pub new-requires-2 : goal.new-requires-2
new-requires-2 c =
    let P = c.args.checked.now in
    let declared =
    found_there P c.program.result.now c.as_slice.result.now c.args.declaration c.in-Some.replica.now c.program.ensures.same c.as_slice.ensures c.in-Some.ensures in
    start_merges P c.args.declaration c.in-Some.replica.now c.program.ensures.checked declared

pub invariant_of-result : goal.invariant_of-result
invariant_of-result c =
    let P = c.args.checked.now in
    let first : Version = record { numbers = c.new.result; state = c.in_ok-first_value.field-0 } in
    let declared =
    found_there P c.program.result.now c.as_slice.result.now c.args.declaration c.in-Some.replica.now c.program.ensures.same c.as_slice.ensures c.in-Some.ensures in
    start_kept P c.args.declaration c.in-Some.replica.now c.program.ensures.checked declared c.args.count first c.in_ok-new-2.field-0 c.new.ensures
    c.in_ok-first_value.ensures c.in_ok-new-2.ensures.replicas c.in_ok-new-2.ensures.messages c.args.code.now c.in_ok-new.field-0 c.requires.stands c.in_ok-new.ensures c.requires.few

pub returns-clause-is_new : goal.returns-clause-is_new
returns-clause-is_new c =
    let P = c.args.checked.now in
    let first : Version = record { numbers = c.new.result; state = c.in_ok-first_value.field-0 } in
    let declared =
    found_there P c.program.result.now c.as_slice.result.now c.args.declaration c.in-Some.replica.now c.program.ensures.same c.as_slice.ensures c.in-Some.ensures in
    start_new P c.args.declaration c.in-Some.replica.now c.program.ensures.checked declared c.args.count first c.in_ok-new-2.field-0 c.new.ensures
    c.in_ok-first_value.ensures c.in_ok-new-2.ensures.replicas c.in_ok-new-2.ensures.messages

pub returns-clause-stands : goal.returns-clause-stands
returns-clause-stands c =
    let P = c.args.checked.now in
    let first : Version = record { numbers = c.new.result; state = c.in_ok-first_value.field-0 } in
    let declared =
    found_there P c.program.result.now c.as_slice.result.now c.args.declaration c.in-Some.replica.now c.program.ensures.same c.as_slice.ensures c.in-Some.ensures in
    start_stands P c.args.declaration c.in-Some.replica.now c.program.ensures.checked declared c.args.count first c.in_ok-new-2.field-0 c.new.ensures
    c.in_ok-first_value.ensures c.in_ok-new-2.ensures.replicas c.in_ok-new-2.ensures.messages
