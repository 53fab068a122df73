-- What the program is for: where it is done, the text is a program, and what was accepted of it is true; where a name is
-- refused, it is the first to be.
use Rattle.std.specs.Prelude.{ℕ, ◌≤◌, List, ⊤, Option, Some, None, MatchOption}
use Rattle.px_terms.specs.declared.term.Value.{Value}
use Rattle.px_terms.specs.declared.program.Program.{Program}
use Rattle.px_terms.specs.Extending.{IsExtension}
use Rattle.px_terms.specs.Obligations.{AllHoldInExtensions}
use Rattle.px_world.specs.Known.{Told}
use Rattle.px_scope.specs.declared.ends.ScopeKind.{ScopeKind}
use Rattle.px_drive.specs.declared.arguments.ClosedCall.{ClosedCall}
use Rattle.px_drive.specs.declared.outcome.CommandLine.{CommandLine}
use Rattle.px_drive.specs.declared.outcome.CommandLine.TheVariants.{Check, Replay, Eval, Run}
use Rattle.px_drive.specs.declared.outcome.End.{End}
use Rattle.px_drive.specs.declared.outcome.End.TheVariants.{Source}
use Rattle.px_drive.specs.declared.outcome.SourceFault.TheVariants.{Scope}
use Rattle.px_drive.specs.Lines.{program_of}
use Rattle.px_drive.specs.Arguments.{IsCall, IsValueOfCall}
use Rattle.px_drive.specs.Sources.{IsSource, IsFirstBroken}

-- The bytes that were read of a file, which are the file's where these are told, are a program.
pub record ReadsProgram (known : List ℕ → Option (List ℕ)) (file : List ℕ) : Type 0 where
  pub text : List ℕ
  pub program : Program
  pub text_is : Told (known file) text
  pub is_source : IsSource text program

-- The program of the bytes that were read of a file, which are the file's where these are told; each of its obligations
-- holds in the language's meaning, in every extension of the program; and the program is one of these itself.
pub record ReadsTrue (known : List ℕ → Option (List ℕ)) (file : List ℕ) : Type 0 where
  pub text : List ℕ
  pub program : Program
  pub text_is : Told (known file) text
  pub is_source : IsSource text program
  pub holds : AllHoldInExtensions program
  pub itself : IsExtension program program

-- The bytes that were read of a file, which are the file's where these are told, are a program; the name and the words are a call
-- of it, and the call has a value by the program's meaning, within so many calls.
pub record ReadsValue (known : List ℕ → Option (List ℕ)) (file name : List ℕ) (words : List (List ℕ)) (budget : ℕ) : Type 0 where
  pub text : List ℕ
  pub program : Program
  pub call : ClosedCall
  pub value : Value
  pub calls : ℕ
  pub text_is : Told (known file) text
  pub is_source : IsSource text program
  pub is_call : IsCall program name words call
  pub is_value : IsValueOfCall program call value calls
  pub within : calls ≤ budget

-- what is true where a line ends Done: a row for each command
abbrev pub Headline : (List ℕ → Option (List ℕ)) → Option CommandLine → Type 0
Headline known None = ⊥
Headline known (Some (Check file)) = ReadsProgram known file
Headline known (Some (Replay file derivation)) = ReadsTrue known file
Headline known (Some (Eval file name words budget)) = ReadsValue known file name words budget
Headline known (Some (Run file derivation schedule budget)) = ReadsTrue known file

-- The bytes that were read of a file, which are the file's where these are told, have a first name that breaks a rule of
-- scope: this rule, at this place.
pub record ReadsFirstBroken (known : List ℕ → Option (List ℕ)) (file : List ℕ) (kind : ScopeKind) (at : ℕ) : Type 0 where
  pub text : List ℕ
  pub text_is : Told (known file) text
  pub is_first : IsFirstBroken text kind at

-- where a line ends with a fault of scope, it is the first of the program's file
abbrev pub TellsFirstBroken : (List ℕ → Option (List ℕ)) → Option CommandLine → End → Type 0
TellsFirstBroken known kept (Source (Scope kind at)) = MatchOption kept ⊥ (λ line. ReadsFirstBroken known (program_of line) kind at)
TellsFirstBroken known kept _ = ⊤
