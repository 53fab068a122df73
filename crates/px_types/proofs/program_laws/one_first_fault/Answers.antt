use Rattle.std.proofs.Common.{sym, ◌∙◌}
use Rattle.px_terms.specs.declared.program.Program.{Program}
use Rattle.px_types.proofs.Exact.{one_err}
use Rattle.px_types.proofs.ProgramsExact.{exact_program}
use Rattle.px_types.proofs.program_laws.one_first_fault.Goals as goal

pub returns : goal.returns
returns c raw a b fit x y =
    let exact = exact_program raw fit in
    one_err {T = Program} a b (sym (exact.err a x) ∙ exact.err b y)
