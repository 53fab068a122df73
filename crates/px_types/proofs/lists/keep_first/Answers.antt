use Rattle.px_types.proofs.ListSteps.{kept_next, kept_all}
use Rattle.px_types.proofs.lists.keep_first.Goals as goal

pub kept-preserved : goal.kept-preserved
kept-preserved g c =
    kept_next c.args.items.now c.kept.items c.args.count c.kept.invariant c.take_last.new.items c.take_last.result c.take_last.ensures
    (rw c.len.ensures at c.kept-test.true)

pub returns : goal.returns
returns g c = kept_all c.args.items.now c.kept.items c.args.count c.kept.invariant (rw c.len.ensures at c.kept-test.false)
