use Rattle.px_terms.specs.Rows.{none}
use Rattle.px_cases.proofs.MatchTrees.{next_free, one_has, of_con, of_call, of_free, of_bound, of_literal}
use Rattle.px_cases.proofs.match_free.+is_match_free.Goals as goal

pub are_match_free-loop-term-init : goal.are_match_free-loop-term-init
are_match_free-loop-term-init t c = none

pub are_match_free-returns-then-not-is_match_free : goal.are_match_free-returns-then-not-is_match_free
are_match_free-returns-then-not-is_match_free t c = one_has c.args.terms.now c.loop-term.term-index c.term-item.result c.is_match_free.result c.loop-term-test.true c.term-item.is c.is_match_free.ensures c.if-not-is_match_free.true

pub are_match_free-loop-term-preserved : goal.are_match_free-loop-term-preserved
are_match_free-loop-term-preserved t c = next_free c.args.terms.now c.loop-term.term-index c.term-item.result c.loop-term-test.true c.term-item.is c.loop-term.invariant (c.is_match_free.ensures.0 c.if-not-is_match_free.false)

pub is_match_free-returns-in-Con : goal.is_match_free-returns-in-Con
is_match_free-returns-in-Con t c = of_con c.args.term.now _ _ _ _ c.as_slice.result.now c.are_match_free.result c.in-Con.is c.as_slice.ensures c.are_match_free.ensures

pub is_match_free-returns-in-Call : goal.is_match_free-returns-in-Call
is_match_free-returns-in-Call t c = of_call c.args.term.now _ _ _ c.as_slice-in-Call.result.now c.are_match_free-in-Call.result c.in-Call.is c.as_slice-in-Call.ensures c.are_match_free-in-Call.ensures

pub is_match_free-returns-in-Free : goal.is_match_free-returns-in-Free
is_match_free-returns-in-Free t c = of_free c.args.term.now _ c.in-Free.is

pub is_match_free-returns-in-Bound : goal.is_match_free-returns-in-Bound
is_match_free-returns-in-Bound t c = of_bound c.args.term.now _ c.in-Bound.is

pub is_match_free-returns-in-Lit : goal.is_match_free-returns-in-Lit
is_match_free-returns-in-Lit t c = of_literal c.args.term.now _ c.in-Lit.is
