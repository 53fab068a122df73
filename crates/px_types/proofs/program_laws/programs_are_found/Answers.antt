use Rattle.px_types.proofs.Exact.{is_of}
use Rattle.px_types.proofs.ProgramsExact.{exact_program}
use Rattle.px_types.proofs.program_laws.programs_are_found.Goals as goal

pub returns : goal.returns
returns c raw P fit =
    let exact = exact_program raw fit in
    (λ e. is_of exact P e, λ is. exact.ok P is)
