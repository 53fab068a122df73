use Rattle.std.proofs.Common.{◌<◌, ◌++◌, List, length, reverse, sym, ap, ◌∙◌}
use Rattle.px_terms.specs.Types.{tys_instance}
use Rattle.px_terms.specs.declared.types.Ty.{Ty}
use Rattle.px_schedule.specs.Runs.{left}
use Rattle.px_schedule.specs.Wanting.{field_wants}
use Rattle.px_schedule.proofs.Ends.{passed, ends_stuck}
use Rattle.px_schedule.proofs.ConSteps.{con_type, variable_stuck, unnamed_stuck, full_stuck, con_step}
use Rattle.px_schedule.proofs.reading.read_constructor.Goals as goal

pub returns-in_default : goal.returns-in_default
returns-in_default c = record {
  step = tt;
  stuck = variable_stuck c.args.program.now c.args.ty.now c.requires.other (λ d args. c.in_default.not-Con d args) _ (left c.args.text) c.args.reading.now.cells;
}

pub returns-in_default-find_constructor-clause-stuck : goal.returns-in_default-find_constructor-clause-stuck
returns-in_default-find_constructor-clause-stuck c =
    unnamed_stuck c.args.program.now c.requires.lawful c.args.ty.now c.in-Con.datatype c.in-Con.args (con_type c.args.ty.now c.in-Con.datatype c.in-Con.args c.in-Con.is) _ c.requires.wants (left c.args.text) c.split_run.result.0.now (left c.split_run.result.1) c.requires.no_space c.split_run.ensures c.in_default-find_constructor.ensures c.args.reading.now.cells

pub returns-in_err-open_constructor-clause-stuck : goal.returns-in_err-open_constructor-clause-stuck
returns-in_err-open_constructor-clause-stuck c =
    passed c.from_residual.result _ _ c.from_residual.ensures (λ end same.
    ends_stuck c.args.program.now _ (left c.args.text) c.args.reading.now.cells end (λ fault.
    let less : c.args.reading.now.left < length c.in-Some.found.fields.now = c.in_err-open_constructor.ensures.full (sym same ∙ fault) in
    full_stuck c.args.program.now c.requires.lawful c.args.ty.now c.in-Con.datatype c.in-Con.args (con_type c.args.ty.now c.in-Con.datatype c.in-Con.args c.in-Con.is) _ c.requires.wants (left c.args.text) c.split_run.result.0.now (left c.split_run.result.1) c.requires.no_space c.split_run.ensures c.in-Some.found.con c.in-Some.found.fields.now c.in-Some.ensures c.args.reading.now.left c.args.reading.now.cells c.requires.room less))

pub returns-clause-step : goal.returns-clause-step
returns-clause-step c =
    let fields : List Ty = c.in-Some.found.fields.now in
    let wanted_is = c.in_ok-open_constructor.ensures.wanted ∙ ap (λ (args : List Ty). field_wants (tys_instance args fields) ++ reverse c.args.reading.now.wanted) c.as_slice.ensures in
    con_step c.args.program.now c.requires.lawful c.args.ty.now c.in-Con.datatype c.in-Con.args (con_type c.args.ty.now c.in-Con.datatype c.in-Con.args c.in-Con.is) c.args.reading.now c.open_constructor.new.reading c.requires.wants c.requires.room (left c.args.text) c.split_run.result.0.now (left c.split_run.result.1) c.requires.no_space c.split_run.ensures c.in-Some.found.con fields c.in-Some.ensures wanted_is c.in_ok-open_constructor.ensures.cells c.in_ok-open_constructor.ensures.left
