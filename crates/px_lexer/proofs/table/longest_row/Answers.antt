use Rattle.std.proofs.Common.{sym, ◌∙◌}
use Rattle.px_lexer.proofs.TableFacts.{longest_found, longest_more, longest_none}
use Rattle.px_lexer.proofs.table.longest_row.Goals as goal

pub returns-then-starts_with-clause-some : goal.returns-then-starts_with-clause-some
returns-then-starts_with-clause-some c = longest_found c.args.table.now c.loop-row.row-index _ c.args.text.now c.requires c.loop-row-test.true c.loop-row.invariant (sym c.starts_with.ensures.value ∙ c.if-starts_with.true)

pub loop-row-preserved : goal.loop-row-preserved
loop-row-preserved c = longest_more c.args.table.now c.loop-row.row-index _ c.args.text.now c.loop-row-test.true c.loop-row.invariant (sym c.starts_with.ensures.value ∙ c.if-starts_with.false)

pub returns-clause-none : goal.returns-clause-none
returns-clause-none c = longest_none c.args.table.now c.loop-row.row-index c.args.text.now c.loop-row-test.false c.loop-row.invariant
