use Rattle.std.proofs.Common.{string_bytes, map, sym, ap, ◌∙◌, take}
use Rattle.std.proofs.lemmas.List.{take-map}
use Rattle.px_scope.proofs.names.NameTable.truncate.Goals as goal

pub returns : goal.returns
returns c = ap (map string_bytes) c.truncate.ensures.keys ∙ sym (take-map string_bytes c.args.len c.self.inside.names.keys) ∙ ap (take c.args.len) c.self.view_is
