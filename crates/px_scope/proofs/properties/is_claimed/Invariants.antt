use Rattle.std.proofs.Common.{◌≡◌, false, take}
use Rattle.px_scope.specs.Rules.{has_prop}
use Rattle.px_scope.proofs.properties.is_claimed.Given as goal

abbrev pub invariant-loop-other : goal.invariant-loop-other
invariant-loop-other l = has_prop (take l.other-index l.claimed) l.fn.prop ≡ false
