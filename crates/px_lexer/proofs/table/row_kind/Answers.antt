use Rattle.std.proofs.Common.{sym, ◌∙◌}
use Rattle.px_lexer.proofs.TableFacts.{row_found, row_more, row_none}
use Rattle.px_lexer.proofs.table.row_kind.Goals as goal

pub returns-then-eq-clause-some : goal.returns-then-eq-clause-some
returns-then-eq-clause-some c = row_found c.args.table.now c.loop-row.row-index _ c.args.word.now c.loop-row-test.true (sym c.eq.ensures ∙ c.if-eq.true)

pub loop-row-preserved : goal.loop-row-preserved
loop-row-preserved c = row_more c.args.table.now c.loop-row.row-index _ c.args.word.now c.loop-row-test.true c.loop-row.invariant (sym c.eq.ensures ∙ c.if-eq.false)

pub returns-clause-none : goal.returns-clause-none
returns-clause-none c = row_none c.args.table.now c.loop-row.row-index c.args.word.now c.loop-row-test.false c.loop-row.invariant
