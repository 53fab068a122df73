use Rattle.px_prover.proofs.EndedLemmas.{by_clash, by_equal}
use Rattle.px_prover.proofs.ended.is_closed_at_once.Goals as goal

pub returns-then-is_some : goal.returns-then-is_some
returns-then-is_some c = by_clash c.args.sequent.now c.first_clash.result c.is_some.result c.first_clash.ensures c.is_some.ensures c.if-is_some.true

pub returns-else-is_some : goal.returns-else-is_some
returns-else-is_some c = by_equal c.args.sequent.now c.first_clash.result c.first_equal.result c.is_some.result c.is_some-else-is_some.result c.as_slice.result.now c.first_clash.ensures c.is_some.ensures c.if-is_some.false c.as_slice.ensures
    c.first_equal.ensures c.is_some-else-is_some.ensures
