use Rattle.std.proofs.Common.{◌≡◌, false, take}
use Rattle.std.specs.List.{list_any}
use Rattle.px_scope.specs.Later.{is_lower}
use Rattle.px_scope.proofs.later.declares_lower.Given as goal

abbrev pub invariant-loop-item : goal.invariant-loop-item
invariant-loop-item l = list_any (is_lower l.name) (take l.item-index l.text) ≡ false
