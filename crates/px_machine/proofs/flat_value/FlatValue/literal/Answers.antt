use Rattle.px_machine.proofs.FlatSteps.{one_word}
use Rattle.px_machine.proofs.flat_value.FlatValue.literal.Goals as goal

pub invariant_of-result : goal.invariant_of-result
invariant_of-result c = one_word c.args.word c.new-cells.result c.push.new.self c.new-cells.ensures c.in_ok-push.ensures.ok
