use Rattle.std.proofs.Common.{◌≡◌, Result, Ok, Err, sym, ◌∙◌}
use Rattle.px_terms.specs.declared.program.Program.{Program}
use Rattle.px_types.specs.Faults.{Broken}
use Rattle.px_types.proofs.ProgramsExact.{exact_program}
use Rattle.px_types.proofs.program_laws.never_typed_and_broken.Goals as goal

pub returns : goal.returns
returns c raw P fault fit typed br =
    let exact = exact_program raw fit in
    let clash : ◌≡◌ {A = Result Program Broken} (Ok P) (Err fault) = sym (exact.ok P typed) ∙ exact.err fault br in
    absurd cc
