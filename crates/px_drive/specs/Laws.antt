-- What the sources of programs are, and what the table of causes says of every call.
use Rattle.std.specs.Prelude.{◌≡◌, ◌≢◌, ℕ, ◌<◌, ◌≤◌, ◌⊎◌, List, [], length, slice_get, ⊤, Option, None, Some}
use Rattle.px_base.specs.declared.limits.TheConstants.{VALUE_NODES}
use Rattle.px_terms.specs.declared.types.Ty.{Ty}
use Rattle.px_terms.specs.declared.term.Value.{Value}
use Rattle.px_terms.specs.declared.program.Def.{Def}
use Rattle.px_terms.specs.declared.program.Program.{Program}
use Rattle.px_terms.specs.Values.{IsIn}
use Rattle.px_terms.specs.Extending.{IsExtension}
use Rattle.px_terms.specs.Obligations.{AllHoldInExtensions}
use Rattle.px_descent.specs.Checked.{IsChecked as HoldsChecked}
use Rattle.px_replay.specs.declared.ends.Why.{Why}
use Rattle.px_machine.specs.Cells.{preorder}
use Rattle.px_machine.specs.ValueText.{value_text}
use Rattle.px_schedule.specs.ValueGrammar.{IsText}
use Rattle.px_world.specs.Known.{Told, IsLonger}
use Rattle.px_scope.specs.declared.ends.ScopeKind.{ScopeKind}
use Rattle.px_drive.specs.declared.arguments.ClosedCall.{ClosedCall}
use Rattle.px_drive.specs.declared.outcome.ArgumentKind.{ArgumentKind}
use Rattle.px_drive.specs.declared.outcome.CommandLine.{CommandLine}
use Rattle.px_drive.specs.declared.outcome.CommandLine.TheVariants.{Check, Replay, Eval, Run}
use Rattle.px_drive.specs.declared.outcome.Which.TheVariants as which
use Rattle.px_drive.specs.declared.outcome.End.{End}
use Rattle.px_drive.specs.declared.outcome.End.TheVariants.{Done, Usage, Source, Rejected, Schedule, Spent, ReadFault, WriteFault, NoMemory, TooLong, Arguments}
use Rattle.px_drive.specs.declared.outcome.SourceFault.{SourceFault}
use Rattle.px_drive.specs.declared.outcome.SourceFault.TheVariants.{Scope}
use Rattle.px_drive.specs.Lines.{line_of, program_of}
use Rattle.px_drive.specs.Messages.{checked_line, accepted_line, evaluated_lines}
use Rattle.px_drive.specs.Seen.{FilesSeen, SinkSeen}
use Rattle.px_drive.specs.Sources.{IsSource, IsSourceFault, IsFirstBroken}
use Rattle.px_drive.specs.Derivations.{IsDerivationOf, IsRejected}
use Rattle.px_drive.specs.Arguments.{IsCall, IsNoCall, IsValueOfCall, DefinitionsAreNumbered}
use Rattle.px_drive.specs.Ends.{limit_of, LineEnds}
use Rattle.px_drive.specs.Answers.{Ends}
use Rattle.px_drive.specs.Completeness.{HasText}

-- a text is at most one program
abbrev pub OneSource : Type 0
OneSource = (text : List ℕ) (P Q : Program) → IsSource text P → IsSource text Q → P ≡ Q

-- a text has at most one fault
abbrev pub OneSourceFault : Type 0
OneSourceFault = (text : List ℕ) (one other : SourceFault) → IsSourceFault text one → IsSourceFault text other → one ≡ other

-- no text is a program and has a fault
abbrev pub NeverBoth : Type 0
NeverBoth = (text : List ℕ) (P : Program) (fault : SourceFault) → IsSource text P → IsSourceFault text fault → ⊥

-- the program of a text is an extension of itself: it is typed, and every definition of it descends
abbrev pub SourceExtendsItself : Type 0
SourceExtendsItself = (text : List ℕ) (P : Program) → IsSource text P → IsExtension P P

-- the program of a text is checked: besides, its names are lawful and its parts can be numbered, and in each extension of it
-- each call and each typed term has exactly one value
abbrev pub SourceIsChecked : Type 0
SourceIsChecked = (text : List ℕ) (P : Program) → IsSource text P → HoldsChecked P

-- the definitions of the program of a text, and the parameters of each, are numbered below 2^32
abbrev pub SourceIsNumbered : Type 0
SourceIsNumbered = (text : List ℕ) (P : Program) → IsSource text P → DefinitionsAreNumbered P

-- in the program of a text a name and words are at most one call
abbrev pub OneCall : Type 0
OneCall = (text : List ℕ) (P : Program) → IsSource text P → (name : List ℕ) (words : List (List ℕ)) (call other : ClosedCall) → IsCall P name words call → IsCall P name words other → call ≡ other

-- in the program of a text a name and words are no call for at most one cause
abbrev pub OneNoCall : Type 0
OneNoCall = (text : List ℕ) (P : Program) → IsSource text P → (name : List ℕ) (words : List (List ℕ)) (kind other : ArgumentKind) (number another : ℕ) → IsNoCall P name words kind number → IsNoCall P name words other another
    → (kind ≡ other) × (number ≡ another)

-- in the program of a text no name and words are a call and are none
abbrev pub NeverCallAndNone : Type 0
NeverCallAndNone = (text : List ℕ) (P : Program) → IsSource text P → (name : List ℕ) (words : List (List ℕ)) (call : ClosedCall) (kind : ArgumentKind) (number : ℕ) → IsCall P name words call → ¬ IsNoCall P name words kind number

-- in the program of a text a call has at most one value, with one number of calls
abbrev pub OneValueOfCall : Type 0
OneValueOfCall = (text : List ℕ) (P : Program) → IsSource text P → (name : List ℕ) (words : List (List ℕ)) (call : ClosedCall) → IsCall P name words call
    → (v w : Value) (a b : ℕ) → IsValueOfCall P call v a → IsValueOfCall P call w b → (v ≡ w) × (a ≡ b)

-- in the program of a text, what is printed of a value of a type, where it has at most VALUE_NODES nodes, is a text of that value of the type
abbrev pub PrintedIsText : Type 0
PrintedIsText = (text : List ℕ) (P : Program) → IsSource text P → (T : Ty) (v : Value) → IsIn P T v → length (preorder v) ≤ VALUE_NODES → IsText P T (value_text P.names v) v

-- in the program of a text, what is printed of the value of a call, where it has at most VALUE_NODES nodes, is a text of that value of the
-- definition's result type
abbrev pub AnswersAreTexts : Type 0
AnswersAreTexts = (text : List ℕ) (P : Program) → IsSource text P → (name : List ℕ) (words : List (List ℕ)) (call : ClosedCall) → IsCall P name words call
    → (D : Def) → slice_get P.defs call.def ≡ Some D → (v : Value) (calls : ℕ) → IsValueOfCall P call v calls → length (preorder v) ≤ VALUE_NODES → IsText P D.result (value_text P.names v) v

-- a fault of scope is the first by byte: a name of the text breaks that rule there, and none breaks a rule before
abbrev pub ScopeFaultIsFirst : Type 0
ScopeFaultIsFirst = (text : List ℕ) (kind : ScopeKind) (at : ℕ) → IsSourceFault text (Scope kind at) → IsFirstBroken text kind at

-- no text is a derivation of a program and is rejected
abbrev pub NeverRejected : Type 0
NeverRejected = (P : Program) (text : List ℕ) (line : ℕ) (why : Why) → IsDerivationOf P text → ¬ IsRejected P text line why

-- of the program of a text, a text is rejected at one line at most, for one reason
abbrev pub OneRejection : Type 0
OneRejection = (source : List ℕ) (P : Program) → IsSource source P → (text : List ℕ) (line other : ℕ) (why reason : Why) → IsRejected P text line why → IsRejected P text other reason
    → (line ≡ other) × (why ≡ reason)

-- a derivation of the program of a text shows that each of its obligations holds, in every extension of the program, and the
-- program is one of these itself
abbrev pub AcceptedIsTrue : Type 0
AcceptedIsTrue = (text derivation : List ℕ) (P : Program) → IsSource text P → IsDerivationOf P derivation → AllHoldInExtensions P × IsExtension P P

-- Usage comes only where the words are no plain line, and there nothing else comes but want of memory
abbrev pub UsageByWords : Type 0
UsageByWords = (words : List (List ℕ)) (files : FilesSeen) (out : SinkSeen) (line : Option CommandLine) (end : End) → Ends words files out line end
    → (end ≡ Usage → line_of words ≡ None) × (line_of words ≡ None → (end ≡ Usage) ⊎ (end ≡ NoMemory))

-- no words end Done in one call and Usage in another
abbrev pub DoneOrUsage : Type 0
DoneOrUsage = (words : List (List ℕ)) (files others : FilesSeen) (out other : SinkSeen) (line another : Option CommandLine)
    → Ends words files out line Done → Ends words others other another Usage → ⊥

-- the ends that are named for a command: a row for each command and end
abbrev pub IsNamed : CommandLine → End → Type 0
IsNamed (Check _) Done = ⊤
IsNamed (Check _) (Source _) = ⊤
IsNamed (Check _) ReadFault = ⊤
IsNamed (Check _) WriteFault = ⊤
IsNamed (Check _) NoMemory = ⊤
IsNamed (Check _) (TooLong which.Program) = ⊤
IsNamed (Replay _ _) Done = ⊤
IsNamed (Replay _ _) (Source _) = ⊤
IsNamed (Replay _ _) (Rejected _ _) = ⊤
IsNamed (Replay _ _) ReadFault = ⊤
IsNamed (Replay _ _) WriteFault = ⊤
IsNamed (Replay _ _) NoMemory = ⊤
IsNamed (Replay _ _) (TooLong which.Program) = ⊤
IsNamed (Replay _ _) (TooLong which.Derivation) = ⊤
IsNamed (Eval _ _ _ _) Done = ⊤
IsNamed (Eval _ _ _ _) (Source _) = ⊤
IsNamed (Eval _ _ _ _) (Spent event) = event ≡ 0
IsNamed (Eval _ _ _ _) ReadFault = ⊤
IsNamed (Eval _ _ _ _) WriteFault = ⊤
IsNamed (Eval _ _ _ _) NoMemory = ⊤
IsNamed (Eval _ _ _ _) (TooLong which.Program) = ⊤
IsNamed (Eval _ _ _ _) (Arguments _ _) = ⊤
IsNamed (Run _ _ _ _) Done = ⊤
IsNamed (Run _ _ _ _) (Source _) = ⊤
IsNamed (Run _ _ _ _) (Rejected _ _) = ⊤
IsNamed (Run _ _ _ _) (Schedule _ _) = ⊤
IsNamed (Run _ _ _ _) (Spent event) = 0 < event
IsNamed (Run _ _ _ _) ReadFault = ⊤
IsNamed (Run _ _ _ _) WriteFault = ⊤
IsNamed (Run _ _ _ _) NoMemory = ⊤
IsNamed (Run _ _ _ _) (TooLong _) = ⊤
IsNamed _ _ = ⊥

-- a line ends in no refusal that isn't named for its command
abbrev pub EndsAreNamed : Type 0
EndsAreNamed = (files : FilesSeen) (out : SinkSeen) (line : CommandLine) (end : End) (printed : List ℕ) → LineEnds files out line end printed → IsNamed line end

-- the program's text was refused: the bytes that were read, which are the file's where these are told, have this fault
pub record IsFaulty (files : FilesSeen) (line : CommandLine) (fault : SourceFault) : Type 0 where
  pub text : List ℕ
  pub text_is : Told (files.bytes (program_of line)) text
  pub is_fault : IsSourceFault text fault

-- where a line ends with a fault of the program's text, the text is refused for it
abbrev pub SourceIsFaulty : Type 0
SourceIsFaulty = (files : FilesSeen) (out : SinkSeen) (line : CommandLine) (printed : List ℕ) (fault : SourceFault) → LineEnds files out line (Source fault) printed → IsFaulty files line fault

-- a program's text that is told, within its limit, and has a fault is refused for it, but for a fault of reading or want of
-- memory
abbrev pub FaultyIsSource : Type 0
FaultyIsSource = (files : FilesSeen) (out : SinkSeen) (line : CommandLine) (printed text : List ℕ) (fault : SourceFault) (end : End) → files.bytes (program_of line) ≡ Some text → length text ≤ limit_of which.Program
    → IsSourceFault text fault → LineEnds files out line end printed → (end ≡ Source fault) ⊎ ((end ≡ ReadFault) ⊎ (end ≡ NoMemory))

-- `check` did its work: the text is a program, it is the file's where this is told, and the counts were printed
pub record IsChecked (files : FilesSeen) (file printed : List ℕ) : Type 0 where
  pub text : List ℕ
  pub program : Program
  pub text_is : Told (files.bytes file) text
  pub is_source : IsSource text program
  pub printed_is : printed ≡ checked_line program

-- where `check` ends Done, it did its work
abbrev pub DoneIsChecked : Type 0
DoneIsChecked = (files : FilesSeen) (out : SinkSeen) (file printed : List ℕ) → LineEnds files out (Check file) Done printed → IsChecked files file printed

-- `replay` did its work: the derivation is one of the program, both are those of the files where these tell their bytes, and the
-- number of obligations was printed
pub record IsReplayed (files : FilesSeen) (file derivation printed : List ℕ) : Type 0 where
  pub text : List ℕ
  pub steps : List ℕ
  pub program : Program
  pub text_is : Told (files.bytes file) text
  pub steps_is : Told (files.bytes derivation) steps
  pub is_source : IsSource text program
  pub is_derivation : IsDerivationOf program steps
  pub printed_is : printed ≡ accepted_line (length program.declared)

-- where `replay` ends Done, it did its work
abbrev pub DoneIsReplayed : Type 0
DoneIsReplayed = (files : FilesSeen) (out : SinkSeen) (file derivation printed : List ℕ) → LineEnds files out (Replay file derivation) Done printed → IsReplayed files file derivation printed

-- a derivation was refused: the bytes that were read are none of the program, this line is the first with which their lines
-- are no partial derivation of it any more, this is what is wrong with it, and both texts are those of the files where these
-- tell their bytes
pub record IsRefused (files : FilesSeen) (file derivation : List ℕ) (number : ℕ) (why : Why) : Type 0 where
  pub text : List ℕ
  pub steps : List ℕ
  pub program : Program
  pub text_is : Told (files.bytes file) text
  pub steps_is : Told (files.bytes derivation) steps
  pub is_source : IsSource text program
  pub is_rejected : IsRejected program steps number why
  pub is_none : ¬ IsDerivationOf program steps

-- where `replay` ends Rejected, the derivation was refused for its cause
abbrev pub RejectedIsRefused : Type 0
RejectedIsRefused = (files : FilesSeen) (out : SinkSeen) (file derivation printed : List ℕ) (number : ℕ) (why : Why) → LineEnds files out (Replay file derivation) (Rejected number why) printed → IsRefused files file derivation number why

-- a derivation's text that is told, within its limit, and rejected of the program of a text that is told, within its limit,
-- is refused for it, but for a fault of reading or want of memory
abbrev pub RefusedIsRejected : Type 0
RefusedIsRejected = (files : FilesSeen) (out : SinkSeen) (file derivation printed text steps : List ℕ) (P : Program) (number : ℕ) (why : Why) (end : End) → HasText files which.Program file text → IsSource text P
    → HasText files which.Derivation derivation steps → IsRejected P steps number why → LineEnds files out (Replay file derivation) end printed → (end ≡ Rejected number why) ⊎ ((end ≡ ReadFault) ⊎ (end ≡ NoMemory))

-- a text that is told is too long only where it has more bytes than its limit
abbrev pub TooLongIsLonger : Type 0
TooLongIsLonger = (files : FilesSeen) (out : SinkSeen) (line : CommandLine) (file derivation printed : List ℕ)
    → (LineEnds files out line (TooLong which.Program) printed → IsLonger (files.bytes (program_of line)) (limit_of which.Program))
    × (LineEnds files out (Replay file derivation) (TooLong which.Derivation) printed → IsLonger (files.bytes derivation) (limit_of which.Derivation))

-- a program that is told and has more bytes than its limit is too long, but for a fault or want of memory
abbrev pub LongIsTooLong : Type 0
LongIsTooLong = (files : FilesSeen) (out : SinkSeen) (line : CommandLine) (printed text : List ℕ) (end : End) → files.bytes (program_of line) ≡ Some text → limit_of which.Program < length text
    → LineEnds files out line end printed → (end ≡ TooLong which.Program) ⊎ ((end ≡ ReadFault) ⊎ (end ≡ NoMemory))

-- an end of a replay that comes before a derivation was read whole
abbrev pub EndsEarly : End → Type 0
EndsEarly Done = ⊥
EndsEarly Usage = ⊥
EndsEarly (Rejected _ _) = ⊥
EndsEarly (Schedule _ _) = ⊥
EndsEarly (Spent _) = ⊥
EndsEarly (Arguments _ _) = ⊥
EndsEarly WriteFault = ⊥
EndsEarly _ = ⊤

-- a derivation that is told and has more bytes than its limit is neither accepted nor rejected
abbrev pub LongIsNotReplayed : Type 0
LongIsNotReplayed = (files : FilesSeen) (out : SinkSeen) (file derivation printed bytes : List ℕ) (end : End) → files.bytes derivation ≡ Some bytes → limit_of which.Derivation < length bytes
    → LineEnds files out (Replay file derivation) end printed → EndsEarly end

-- of a program that is told, within its limit, a derivation that is told and has more bytes than its limit is too long, but
-- for a fault of reading or want of memory
abbrev pub LongDerivationIsTooLong : Type 0
LongDerivationIsTooLong = (files : FilesSeen) (out : SinkSeen) (file derivation printed text bytes : List ℕ) (P : Program) (end : End) → HasText files which.Program file text → IsSource text P
    → files.bytes derivation ≡ Some bytes → limit_of which.Derivation < length bytes → LineEnds files out (Replay file derivation) end printed → (end ≡ TooLong which.Derivation) ⊎ ((end ≡ ReadFault) ⊎ (end ≡ NoMemory))

-- `eval` did its work: the name and the words are a call of the program, its value and its number of calls, which is within the
-- budget, were printed, and the text is the file's where this is told
pub record IsEvaluated (files : FilesSeen) (file name : List ℕ) (words : List (List ℕ)) (budget : ℕ) (printed : List ℕ) : Type 0 where
  pub text : List ℕ
  pub program : Program
  pub call : ClosedCall
  pub value : Value
  pub calls : ℕ
  pub text_is : Told (files.bytes file) text
  pub is_source : IsSource text program
  pub is_call : IsCall program name words call
  pub is_value : IsValueOfCall program call value calls
  pub within : calls ≤ budget
  pub printed_is : printed ≡ evaluated_lines program.names value calls

-- where `eval` ends Done, it did its work
abbrev pub DoneIsEvaluated : Type 0
DoneIsEvaluated = (files : FilesSeen) (out : SinkSeen) (file name : List ℕ) (words : List (List ℕ)) (budget : ℕ) (printed : List ℕ) → LineEnds files out (Eval file name words budget) Done printed → IsEvaluated files file name words budget printed

-- the arguments were refused: the name and the words are no call of the program, for this cause, and the text is the file's where this
-- is told
pub record IsRefusedCall (files : FilesSeen) (file name : List ℕ) (words : List (List ℕ)) (kind : ArgumentKind) (number : ℕ) : Type 0 where
  pub text : List ℕ
  pub program : Program
  pub text_is : Told (files.bytes file) text
  pub is_source : IsSource text program
  pub is_no_call : IsNoCall program name words kind number

-- where `eval` ends with a refusal of its arguments, they are refused for their cause
abbrev pub ArgumentsAreRefused : Type 0
ArgumentsAreRefused = (files : FilesSeen) (out : SinkSeen) (file name : List ℕ) (words : List (List ℕ)) (budget : ℕ) (printed : List ℕ) (kind : ArgumentKind) (number : ℕ)
    → LineEnds files out (Eval file name words budget) (Arguments kind number) printed → IsRefusedCall files file name words kind number

-- arguments that are no call of the program of a text that is told, within its limit, are refused for their cause, but for a fault
-- of reading or want of memory
abbrev pub RefusedAreArguments : Type 0
RefusedAreArguments = (files : FilesSeen) (out : SinkSeen) (file name : List ℕ) (words : List (List ℕ)) (budget : ℕ) (printed text : List ℕ) (P : Program) (kind : ArgumentKind) (number : ℕ) (end : End) → HasText files which.Program file text
    → IsSource text P → IsNoCall P name words kind number → LineEnds files out (Eval file name words budget) end printed → (end ≡ Arguments kind number) ⊎ ((end ≡ ReadFault) ⊎ (end ≡ NoMemory))

-- the call takes more calls than the budget: the name and the words are a call of the program that takes so many, and the text is the
-- file's where this is told
pub record IsSpentCall (files : FilesSeen) (file name : List ℕ) (words : List (List ℕ)) (budget : ℕ) : Type 0 where
  pub text : List ℕ
  pub program : Program
  pub call : ClosedCall
  pub value : Value
  pub calls : ℕ
  pub text_is : Told (files.bytes file) text
  pub is_source : IsSource text program
  pub is_call : IsCall program name words call
  pub is_value : IsValueOfCall program call value calls
  pub above : budget < calls

-- where `eval` ends Spent, the event is 0, and the call takes more calls than the budget
abbrev pub SpentIsAbove : Type 0
SpentIsAbove = (files : FilesSeen) (out : SinkSeen) (file name : List ℕ) (words : List (List ℕ)) (budget : ℕ) (printed : List ℕ) (event : ℕ) → LineEnds files out (Eval file name words budget) (Spent event) printed
    → (event ≡ 0) × IsSpentCall files file name words budget

-- a call of the program of a text that is told, within its limit, that takes more calls than the budget ends Spent, but for a fault
-- of reading or want of memory
abbrev pub AboveIsSpent : Type 0
AboveIsSpent = (files : FilesSeen) (out : SinkSeen) (file name : List ℕ) (words : List (List ℕ)) (budget : ℕ) (printed text : List ℕ) (P : Program) (call : ClosedCall) (v : Value) (calls : ℕ) (end : End) → HasText files which.Program file text
    → IsSource text P → IsCall P name words call → IsValueOfCall P call v calls → budget < calls → LineEnds files out (Eval file name words budget) end printed → (end ≡ Spent 0) ⊎ ((end ≡ ReadFault) ⊎ (end ≡ NoMemory))

-- a refusal after which the lines stand that were printed before it: of `run` alone, which prints as it goes
abbrev pub LeavesLines : CommandLine → End → Type 0
LeavesLines (Run _ _ _ _) (Spent _) = ⊤
LeavesLines (Run _ _ _ _) NoMemory = ⊤
LeavesLines _ _ = ⊥

-- a refusal prints nothing, but for a failed write, and where `run` printed lines before it
abbrev pub RefusalsPrintNothing : Type 0
RefusalsPrintNothing = (files : FilesSeen) (out : SinkSeen) (line : CommandLine) (printed : List ℕ) (end : End) → LineEnds files out line end printed
    → end ≢ Done → end ≢ WriteFault → ¬ LeavesLines line end → printed ≡ []
