use Rattle.px_induct.proofs.Entries.{guarded}
use Rattle.px_induct.proofs.guard.allows.Goals as goal

pub returns-then-all_put_parts : goal.returns-then-all_put_parts
returns-then-all_put_parts c = guarded c.args.frame.now c.args.terms.now c.as_slice-entries.result.now c.one_puts_other.result c.as_slice-entries.ensures (c.all_put_parts.ensures.0 c.if-all_put_parts.true) c.one_puts_other.ensures
