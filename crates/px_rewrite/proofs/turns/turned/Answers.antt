use Rattle.std.proofs.Common.{sym}
use Rattle.px_rewrite.proofs.TurnLemmas.{rewritten_turns, rewritten_back_turns}
use Rattle.px_rewrite.proofs.turns.turned.Goals as goal

pub returns-then-left_to_right-clause-turns : goal.returns-then-left_to_right-clause-turns
returns-then-left_to_right-clause-turns c =
    rewritten_turns c.args.program.now c.args.facts.now c.args.part.now c.args.kind c.in-Fact.number c.in-Fact.left_to_right c.in-Some.fact.now c.rewritten.result
    c.in-Fact.is c.if-left_to_right.true (sym c.in-Some.ensures) c.rewritten.ensures.turns

pub returns-else-left_to_right-clause-turns : goal.returns-else-left_to_right-clause-turns
returns-else-left_to_right-clause-turns c =
    rewritten_back_turns c.args.program.now c.args.facts.now c.args.part.now c.args.kind c.in-Fact.number c.in-Fact.left_to_right c.in-Some.fact.now c.rewritten-else-left_to_right.result
    c.in-Fact.is c.if-left_to_right.false (sym c.in-Some.ensures) c.rewritten-else-left_to_right.ensures.turns
