use Rattle.std.proofs.Common.{string_bytes, arith}
use Rattle.std.specs.Str.{bytes_eq}
use Rattle.px_scope.proofs.NameFacts.{list_any_map}
use Rattle.px_scope.proofs.names.NameTable.add.Goals as goal

pub returns-clause-known : goal.returns-clause-known
returns-clause-known c = rw (← c.self.view_is, ← c.in_ok-owned.ensures.ok, list_any_map string_bytes (bytes_eq (string_bytes c.in_ok-owned.owned)) c.self.inside.names.keys) (grind arith)
