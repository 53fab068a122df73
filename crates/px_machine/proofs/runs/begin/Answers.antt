use Rattle.px_machine.proofs.TransferLemmas.{stores_more}
use Rattle.px_machine.proofs.runs.begin.Goals as goal

pub loop-arg-preserved : goal.loop-arg-preserved
loop-arg-preserved c =
    stores_more c.args.call.now.args.now c.loop-arg.arg-index c.arg-item.result c.loop-arg.heap c.put_in.new.self c.loop-arg.locals.items c.push.new.self.items c.in_ok-put_in.field-0 c.loop-arg-test.true c.arg-item.is c.loop-arg.invariant c.in_ok-put_in.ensures
    c.in_ok-push.ensures.items
