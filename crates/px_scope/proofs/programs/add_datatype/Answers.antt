use Rattle.std.proofs.Common.{ap, ◌∙◌}
use Rattle.px_scope.specs.Declaring.{constructor_names}
use Rattle.px_scope.proofs.ProgramSteps.{datatype_next}
use Rattle.px_scope.proofs.programs.add_datatype.Goals as goal

pub returns : goal.returns
returns c =
    datatype_next c.args.text.now c.args.globals.now c.resolve_data.new.globals c.args.program.now c.args.datatype.now c.in_ok-raw.raw c.len-number.result c.push.new.self c.push-2.new.self c.push-3.new.self c.push-4.new.self c.in_ok-name.name c.in_ok-names.names c.len-number.ensures c.in_ok-push.ensures.ok c.in_ok-push-2.ensures.ok (c.in_ok-name.ensures.is ∙ c.as_str.ensures) c.in_ok-push-3.ensures.ok (c.in_ok-names.ensures.is ∙ ap constructor_names c.as_slice.ensures) c.in_ok-push-4.ensures.ok c.in_ok-raw.ensures
