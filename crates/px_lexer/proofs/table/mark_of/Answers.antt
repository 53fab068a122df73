use Rattle.px_lexer.specs.Forms.{marks}
use Rattle.px_lexer.proofs.TableFacts.{marks-longest_first}
use Rattle.px_lexer.proofs.table.mark_of.Goals as goal

pub longest_row-requires : goal.longest_row-requires
unfolding marks
longest_row-requires c = marks-longest_first

pub returns-clause-none : goal.returns-clause-none
unfolding marks
returns-clause-none c = c.longest_row.ensures.none

pub returns-clause-some : goal.returns-clause-some
unfolding marks
returns-clause-some c = c.longest_row.ensures.some
