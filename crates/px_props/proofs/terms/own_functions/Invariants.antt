use Rattle.std.proofs.Common.{◌≡◌}
use Rattle.px_terms.specs.Types.{own_functions}
use Rattle.px_props.proofs.terms.own_functions.Given as goal

abbrev pub invariant-loop-number : goal.invariant-loop-number
invariant-loop-number l = l.made ≡ own_functions l.number
