use Rattle.std.proofs.Common.{string_bytes, sym, ap, ◌∙◌, Some, None, arith}
use Rattle.std.specs.Str.{bytes_eq}
use Rattle.px_scope.proofs.NameFacts.{found_in_table, number_below, number_above}
use Rattle.px_scope.proofs.names.NameTable.number.Goals as goal

pub returns-in_default : goal.returns-in_default
returns-in_default c = found_in_table string_bytes (bytes_eq c.args.name.now) c.self.inside.names.keys c.args.self.now c.self.view_is None c.in_default.ensures.index

pub returns-in-Ok : goal.returns-in-Ok
returns-in-Ok c =
    ap Some c.in-Ok.ensures.1 ∙ sym (number_below c.in-Some.index c.in-Ok.ensures.0)
    ∙ found_in_table string_bytes (bytes_eq c.args.name.now) c.self.inside.names.keys c.args.self.now c.self.view_is (Some c.in-Some.index) c.in-Some.ensures.index

pub returns-in-Err : goal.returns-in-Err
returns-in-Err c =
    sym (number_above c.in-Some.index (omega arith))
    ∙ found_in_table string_bytes (bytes_eq c.args.name.now) c.self.inside.names.keys c.args.self.now c.self.view_is (Some c.in-Some.index) c.in-Some.ensures.index
