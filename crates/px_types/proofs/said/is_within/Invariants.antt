use Rattle.std.proofs.Common.{◌≡◌, true, take}
use Rattle.std.specs.List.{list_all}
use Rattle.px_base.specs.PropSets.{all_props}
use Rattle.px_types.proofs.SaidSteps.{within_at}
use Rattle.px_types.proofs.said.is_within.Given as goal

abbrev pub invariant-loop-prop : goal.invariant-loop-prop
invariant-loop-prop l = list_all (within_at l.wanted l.known) (take l.prop-index all_props) ≡ true
