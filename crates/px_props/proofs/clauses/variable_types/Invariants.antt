use Rattle.std.proofs.Common.{◌≡◌, ◌++◌, replicate}
use Rattle.px_props.proofs.clauses.variable_types.Given as goal

abbrev pub invariant-loop-number : goal.invariant-loop-number
invariant-loop-number l = l.made ≡ l.function.leading.now ++ replicate l._number l.function.last.now
