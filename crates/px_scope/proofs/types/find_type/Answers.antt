use Rattle.std.proofs.Common.{◌≡◌, map, string_bytes, Some, sym, ap, ◌∙◌}
use Rattle.px_parser.specs.declared.surface.SType.{out-SType}
use Rattle.px_scope.specs.Rules.{lone_name, is_own, are_parameters}
use Rattle.px_scope.proofs.TypeNames.{absent_type, other_arguments}
use Rattle.px_scope.proofs.types.find_type.Goals as goal

pub returns-then-not-are_own_parameters : goal.returns-then-not-are_own_parameters
returns-then-not-are_own_parameters c =
    let are : c.are_own_parameters.result ≡ are_parameters (map lone_name (out-SType c.args.ty.now).args) c.args.types.now.parameters = c.are_own_parameters.ensures ∙ ap (λ xs. are_parameters (map lone_name xs) (map string_bytes c.texts.result.now)) c.as_slice.ensures ∙ ap (are_parameters (map lone_name (out-SType c.args.ty.now).args)) c.texts.ensures in
    other_arguments c.args.text.now c.args.globals.now c.args.types.now (out-SType c.args.ty.now).name.text (map lone_name (out-SType c.args.ty.now).args) (out-SType c.args.ty.now).name.at c.as_str-name.result.now c.in-Some-Con.number c.is_number.result c.are_own_parameters.result c.fault-then-not-are_own_parameters.result c.as_str-name.ensures (sym c.type_kind.ensures ∙ c.in-Some-Con.is ∙ ap Some c.in-Some-Con.field-0-is) (c.is_number.ensures ∙ ap (is_own c.args.types.now.own) c.in-Some-Con.number-is) c.if-is_number.true are c.if-not-are_own_parameters.true c.fault-then-not-are_own_parameters.ensures

pub returns-in-None : goal.returns-in-None
returns-in-None c =
    absent_type c.args.text.now c.args.globals.now c.args.types.now (out-SType c.args.ty.now).name.text (map lone_name (out-SType c.args.ty.now).args) (out-SType c.args.ty.now).name.at c.as_str-name.result.now c.declares_type.result c.absent_kind-kind.result c.fault.result c.as_str-name.ensures (sym c.type_kind.ensures ∙ c.in-None.is) c.declares_type.ensures c.absent_kind-kind.ensures c.fault.ensures
