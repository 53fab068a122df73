use Rattle.px_types.proofs.Headings.{fn_type_ok}
use Rattle.px_types.proofs.signatures.type_fn_type.Goals as goal

pub returns : goal.returns
returns c =
    fn_type_ok c.args.program.now c.args.tparams c.args.raw.now c.in_ok-params.params c.in_ok-given.given c.as_slice.result.now c.set_of_written.result
    c.in_ok-params.ensures c.in_ok-given.ensures c.as_slice.ensures c.set_of_written.ensures
