use Rattle.std.proofs.Common.{◌≡◌, false, take}
use Rattle.std.specs.List.{list_any}
use Rattle.std.specs.Str.{bytes_eq}
use Rattle.px_parser.specs.declared.surface.SCon.{SCon}
use Rattle.px_scope.proofs.later.is_among.Given as goal

abbrev pub invariant-loop-con : goal.invariant-loop-con
invariant-loop-con l = list_any (λ (con : SCon). bytes_eq l.name con.name.text) (take l.con-index l.cons) ≡ false
