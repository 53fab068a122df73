-- Laws of typing: a written program is typed as one program, or has exactly one first fault.
use Rattle.std.specs.Prelude.{◌≡◌, ◌↔◌, Ok, Err}
use Rattle.px_base.specs.declared.raw.RawProgram.{RawProgram}
use Rattle.px_base.specs.Fitting.{IsFitting}
use Rattle.px_terms.specs.declared.program.Program.{Program}
use Rattle.px_terms.specs.Numbered.{HasNumbers}
use Rattle.px_terms.specs.TypedPrograms.{IsTyped}
use Rattle.px_types.specs.Faults.{Broken}
use Rattle.px_types.specs.Declarations.{IsProgramOf, IsFault}
use Rattle.px_types.specs.NextOutcome.{program_found}

-- a written program is found exactly as the rules say
abbrev pub ProgramsAreFound : Type 0
ProgramsAreFound = (raw : RawProgram) (P : Program) → IsFitting raw → (program_found raw ≡ Ok P) ↔ IsProgramOf raw P

-- a written program has exactly the first broken rule that is found
abbrev pub ProgramsBreakAsFound : Type 0
ProgramsBreakAsFound = (raw : RawProgram) (fault : Broken) → IsFitting raw → (program_found raw ≡ Err fault) ↔ IsFault raw fault

-- a written program is at most one program
abbrev pub OneProgram : Type 0
OneProgram = (raw : RawProgram) (P Q : Program) → IsFitting raw → IsProgramOf raw P → IsProgramOf raw Q → P ≡ Q

-- a written program has at most one first fault
abbrev pub OneFirstFault : Type 0
OneFirstFault = (raw : RawProgram) (a b : Broken) → IsFitting raw → IsFault raw a → IsFault raw b → a ≡ b

-- no written program is typed and has a fault
abbrev pub NeverTypedAndBroken : Type 0
NeverTypedAndBroken = (raw : RawProgram) (P : Program) (fault : Broken) → IsFitting raw → IsProgramOf raw P → ¬ IsFault raw fault

-- A program, or a first fault.
pub data IsJudgedWhole (raw : RawProgram) : Type 0 where
  typed : (P : Program) → IsProgramOf raw P → IsJudgedWhole raw
  broken : (fault : Broken) → IsFault raw fault → IsJudgedWhole raw

-- each written program is typed or has a fault
abbrev pub AlwaysJudged : Type 0
AlwaysJudged = (raw : RawProgram) → IsFitting raw → IsJudgedWhole raw

-- the program that a written one is, is typed
abbrev pub ProgramsAreTyped : Type 0
ProgramsAreTyped = (raw : RawProgram) (P : Program) → IsFitting raw → IsProgramOf raw P → IsTyped P

-- and its parts can be numbered
abbrev pub ProgramsHaveNumbers : Type 0
ProgramsHaveNumbers = (raw : RawProgram) (P : Program) → IsFitting raw → IsProgramOf raw P → HasNumbers P
