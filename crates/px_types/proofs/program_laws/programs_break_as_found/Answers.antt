use Rattle.px_types.proofs.Exact.{breaks_of}
use Rattle.px_types.proofs.ProgramsExact.{exact_program}
use Rattle.px_types.proofs.program_laws.programs_break_as_found.Goals as goal

pub returns : goal.returns
returns c raw fault fit =
    let exact = exact_program raw fit in
    (λ e. breaks_of exact fault e, λ br. exact.err fault br)
