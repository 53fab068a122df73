use Rattle.px_drive.proofs.ArgumentEnds.{refused_are_arguments_law}
use Rattle.px_drive.proofs.laws.refused_are_arguments.Goals as goal

pub returns : goal.returns
returns c = refused_are_arguments_law c.one_source.ensures c.never_both.ensures c.one_no_call.ensures c.never_call_and_none.ensures
