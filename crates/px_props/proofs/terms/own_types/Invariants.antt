use Rattle.std.proofs.Common.{◌≡◌}
use Rattle.px_terms.specs.Types.{own_types}
use Rattle.px_props.proofs.terms.own_types.Given as goal

abbrev pub invariant-loop-number : goal.invariant-loop-number
invariant-loop-number l = l.made ≡ own_types l.number
