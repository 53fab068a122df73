use Rattle.px_equations.proofs.Opening.{lemma_open, one_lemma, not_past}
use Rattle.px_equations.proofs.open.lemma_in.Goals as goal

pub returns-clause-open : goal.returns-clause-open
returns-clause-open c = λ own. lemma_open c.in_ok-first.ensures.0 c.in_ok-first.ensures.1 c.in-Some.ensures.has

pub returns-clause-only : goal.returns-clause-only
returns-clause-only c = λ own clause is. one_lemma (lemma_open c.in_ok-first.ensures.0 c.in_ok-first.ensures.1 c.in-Some.ensures.has) is

pub unreachable-requires : goal.unreachable-requires
unreachable-requires c = not_past c.args.all.now.declared c.in_ok-first.first _ c.in_ok-first.ensures.1 c.in_default.ensures.has
