use Rattle.std.proofs.Common.{◌≡◌, Result, Ok, Err, refl}
use Rattle.px_base.specs.declared.raw.RawProgram.{RawProgram}
use Rattle.px_base.specs.Fitting.{IsFitting}
use Rattle.px_terms.specs.declared.program.Program.{Program}
use Rattle.px_types.specs.Faults.{Broken}
use Rattle.px_types.specs.NextOutcome.{program_found}
use Rattle.px_types.specs.ProgramLaws.{IsJudgedWhole, typed, broken}
use Rattle.px_types.proofs.Exact.{is_of, breaks_of}
use Rattle.px_types.proofs.ProgramsExact.{exact_program}
use Rattle.px_types.proofs.program_laws.always_judged.Goals as goal

judged : (raw : RawProgram) → IsFitting raw → (o : Result Program Broken) → program_found raw ≡ o → IsJudgedWhole raw
judged raw fit (Ok P) e = typed P (is_of (exact_program raw fit) P e)
judged raw fit (Err fault) e = broken fault (breaks_of (exact_program raw fit) fault e)

pub returns : goal.returns
returns c raw fit = judged raw fit (program_found raw) refl
