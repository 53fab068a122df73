-- What the answer for a whole program says of it, by the laws of programs.
use Rattle.std.proofs.Common.{◌≡◌, inl, inr, Result, Ok, Err, IfOk, refl, sym, ◌∙◌, ap}
use Rattle.std.specs.Prelude.{IfErr}
use Rattle.px_base.specs.declared.raw.RawProgram.{RawProgram}
use Rattle.px_base.specs.Fitting.{IsFitting}
use Rattle.px_terms.specs.declared.program.Program.{Program}
use Rattle.px_terms.specs.Numbered.{HasNumbers}
use Rattle.px_terms.specs.TypedPrograms.{IsTyped}
use Rattle.px_types.specs.declared.ends.TypeEnd.{TypeEnd}
use Rattle.px_types.specs.declared.ends.TypeEnd.TheVariants.{Fault, NoMemory}
use Rattle.px_types.specs.Faults.{Broken, breaks}
use Rattle.px_types.specs.Answers.{Answers}
use Rattle.px_types.specs.Checkings.{IsEnd, IsUnlessNoMemory}
use Rattle.px_types.specs.Declarations.{IsProgramOf, IsFault}
use Rattle.px_types.specs.NextOutcome.{program_found}
use Rattle.px_types.proofs.Exact.{is_of, breaks_of, one_ok, one_err}
use Rattle.px_types.proofs.ProgramsExact.{exact_program}
use Rattle.px_types.proofs.Reached.{program_is_reached}
use Rattle.px_types.proofs.Numbers.{has_numbers}

module _ (raw : RawProgram) (fits : IsFitting raw) where
  pub program_of : (r : Result Program TypeEnd) → Answers (program_found raw) r → IfOk r (IsProgramOf raw)
  program_of (Ok P) e = is_of (exact_program raw fits) P e
  program_of (Err end) e = tt

  pub fault_of : (r : Result Program TypeEnd) → Answers (program_found raw) r → IfErr r (IsEnd raw)
  fault_of (Ok P) e = tt
  fault_of (Err (Fault kind at)) e = breaks_of (exact_program raw fits) (breaks kind at) e
  fault_of (Err NoMemory) e = tt

  pub typed_of : (r : Result Program TypeEnd) → Answers (program_found raw) r → IfOk r IsTyped
  typed_of (Ok P) e = let taken = program_is_reached raw P fits (is_of (exact_program raw fits) P e) in taken.reached.typed
  typed_of (Err end) e = tt

  pub numbered_of : (r : Result Program TypeEnd) → Answers (program_found raw) r → IfOk r HasNumbers
  numbered_of (Ok P) e = let taken = program_is_reached raw P fits (is_of (exact_program raw fits) P e) in has_numbers raw taken.counts P taken.reached fits
  numbered_of (Err end) e = tt

  pub names_of : (r : Result Program TypeEnd) → Answers (program_found raw) r → IfOk r (λ (P : Program). P.names ≡ raw.names)
  names_of (Ok P) e = ap (λ (Q : Program). Q.names) (is_of (exact_program raw fits) P e).named
  names_of (Err end) e = tt

  pub each_program_of : (r : Result Program TypeEnd) → Answers (program_found raw) r → (P : Program) → IsProgramOf raw P → IsUnlessNoMemory (Ok P) r
  each_program_of (Ok Q) e P is = inl (ap Ok (one_ok Q P (sym e ∙ (exact_program raw fits).ok P is)))
  each_program_of (Err (Fault kind at)) e P is =
      let clash : ◌≡◌ {A = Result Program Broken} (Err (breaks kind at)) (Ok P) = sym e ∙ (exact_program raw fits).ok P is in
      absurd cc
  each_program_of (Err NoMemory) e P is = inr refl

  pub each_fault_of : (r : Result Program TypeEnd) → Answers (program_found raw) r → (fault : Broken) → IsFault raw fault →
      IsUnlessNoMemory (Err (Fault fault.kind fault.at)) r
  each_fault_of (Ok P) e fault br =
      let clash : ◌≡◌ {A = Result Program Broken} (Ok P) (Err fault) = sym e ∙ (exact_program raw fits).err fault br in
      absurd cc
  each_fault_of (Err (Fault kind at)) e fault br =
      let same = one_err {T = Program} (breaks kind at) fault (sym e ∙ (exact_program raw fits).err fault br) in
      inl (ap (λ (b : Broken). Err (Fault b.kind b.at)) same)
  each_fault_of (Err NoMemory) e fault br = inr refl
