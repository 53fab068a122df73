use Rattle.px_schedule.specs.Schedules.{update, send, deliver, show}
use Rattle.px_schedule.specs.Fields.{state_at, EndsBroken}
use Rattle.px_schedule.proofs.EventFacts.{passed_on, update_replica, send_replica, show_replica, deliver_message, deliver_replica, no_value, state_text, asks_update}
use Rattle.px_schedule.proofs.events.event_of.Goals as goal

pub returns-in_err-replica-in-Update-clause-broken : goal.returns-in_err-replica-in-Update-clause-broken
returns-in_err-replica-in-Update-clause-broken c =
    rw c.in-Update.is (passed_on (EndsBroken c.args.checked.now (state_at c.args.opened c.args.taken.now) (update c.in-Update.replica c.in-Update.value.now)) _ _ c.from_residual.ensures.1
    (update_replica c.args.checked.now (state_at c.args.opened c.args.taken.now) _ _ c.requires.room c.in_err-replica-in-Update.ensures.large.1 _ c.in_err-replica-in-Update.ensures.large.0))

pub returns-in_err-value-in-Update-clause-broken : goal.returns-in_err-value-in-Update-clause-broken
returns-in_err-value-in-Update-clause-broken c =
    rw c.in-Update.is (passed_on (EndsBroken c.args.checked.now (state_at c.args.opened c.args.taken.now) (update c.in-Update.replica c.in-Update.value.now)) _ _ c.from_residual-in_err-value-in-Update.ensures.1
    (no_value c.args.checked.now c.args.opened c.args.taken.now c.requires.opened _ _ c.requires.room c.in_ok-replica-in-Update.ensures.small.1 _ c.in_err-value-in-Update.ensures.only))

pub returns-in_err-below-in-Send-clause-broken : goal.returns-in_err-below-in-Send-clause-broken
returns-in_err-below-in-Send-clause-broken c =
    rw c.in-Send.is (passed_on (EndsBroken c.args.checked.now (state_at c.args.opened c.args.taken.now) (send c.in-Send.replica)) _ _ c.from_residual-in_err-below-in-Send.ensures.1
    (send_replica c.args.checked.now (state_at c.args.opened c.args.taken.now) _ c.requires.room c.in_err-below-in-Send.ensures.large.1 _ c.in_err-below-in-Send.ensures.large.0))

pub returns-in_err-below-in-Deliver-clause-broken : goal.returns-in_err-below-in-Deliver-clause-broken
returns-in_err-below-in-Deliver-clause-broken c =
    rw c.in-Deliver.is (passed_on (EndsBroken c.args.checked.now (state_at c.args.opened c.args.taken.now) (deliver c.in-Deliver.message c.in-Deliver.replica)) _ _ c.from_residual-in_err-below-in-Deliver.ensures.1
    (deliver_message c.args.checked.now (state_at c.args.opened c.args.taken.now) _ _ c.requires.room c.in_err-below-in-Deliver.ensures.large.1 _ c.in_err-below-in-Deliver.ensures.large.0))

pub returns-in_err-below-in-Deliver-2-clause-broken : goal.returns-in_err-below-in-Deliver-2-clause-broken
returns-in_err-below-in-Deliver-2-clause-broken c =
    rw c.in-Deliver.is (passed_on (EndsBroken c.args.checked.now (state_at c.args.opened c.args.taken.now) (deliver c.in-Deliver.message c.in-Deliver.replica)) _ _ c.from_residual-in_err-below-in-Deliver-2.ensures.1
    (deliver_replica c.args.checked.now (state_at c.args.opened c.args.taken.now) _ _ c.requires.room c.in_ok-below-in-Deliver.ensures.small.1 c.in_err-below-in-Deliver-2.ensures.large.1 _ c.in_err-below-in-Deliver-2.ensures.large.0))

pub returns-in_err-below-in-Show-clause-broken : goal.returns-in_err-below-in-Show-clause-broken
returns-in_err-below-in-Show-clause-broken c =
    rw c.in-Show.is (passed_on (EndsBroken c.args.checked.now (state_at c.args.opened c.args.taken.now) (show c.in-Show.replica)) _ _ c.from_residual-in_err-below-in-Show.ensures.1
    (show_replica c.args.checked.now (state_at c.args.opened c.args.taken.now) _ c.requires.room c.in_err-below-in-Show.ensures.large.1 _ c.in_err-below-in-Show.ensures.large.0))

pub returns-in_ok-value-in-Update-clause-asks : goal.returns-in_ok-value-in-Update-clause-asks
returns-in_ok-value-in-Update-clause-asks c =
    rw c.in-Update.is (asks_update c.args.checked.now (state_at c.args.opened c.args.taken.now) _ _ _ _ c.requires.room c.in_ok-replica-in-Update.ensures.small.1 c.in_ok-replica-in-Update.ensures.small.0
    (state_text c.args.checked.now c.args.opened c.args.taken.now c.requires.opened _ _ c.in_ok-value-in-Update.ensures.is))
