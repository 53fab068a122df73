use Rattle.std.proofs.Common.{sym, ◌∙◌}
use Rattle.px_types.proofs.Exact.{one_ok}
use Rattle.px_types.proofs.ProgramsExact.{exact_program}
use Rattle.px_types.proofs.program_laws.one_program.Goals as goal

pub returns : goal.returns
returns c raw P Q fit a b =
    let exact = exact_program raw fit in
    one_ok P Q (sym (exact.ok P a) ∙ exact.ok Q b)
