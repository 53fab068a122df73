use Rattle.std.proofs.Common.{arith}
use Rattle.std.proofs.lemmas.Bool.{le-leb}
use Rattle.px_rewrite.proofs.Shallow.{is_shallow}
use Rattle.px_rewrite.proofs.steps.is_shallow.Goals as goal

pub returns-then-nodes-from : goal.returns-then-nodes-from
returns-then-nodes-from c =
    let deep = is_shallow c.args.term.now in
    (λ _. omega (arith, c.requires, c.from.ensures, c.if-nodes-from.true, deep), λ _. le-leb c.args.nodes c.from.result c.if-nodes-from.true)
