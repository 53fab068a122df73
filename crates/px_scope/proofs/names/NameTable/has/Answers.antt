use Rattle.std.proofs.Common.{string_bytes, sym, ap, ◌∙◌}
use Rattle.std.specs.Str.{bytes_eq}
use Rattle.px_scope.specs.Names.{is_name}
use Rattle.px_scope.proofs.NameFacts.{list_any_map}
use Rattle.px_scope.proofs.names.NameTable.has.Goals as goal

pub returns : goal.returns
returns c = c.contains.ensures ∙ sym (list_any_map string_bytes (bytes_eq c.args.name.now) c.self.inside.names.keys) ∙ ap (λ names. is_name names c.args.name.now) c.self.view_is
