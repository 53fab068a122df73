-- Plain lines: the lists of words that are commands.
use Rattle.std.specs.Prelude.{◌≡◌, ◌≤◌, ℕ, length, take, drop, List, [], ◌∷◌, Bool, false, not, ◌&&◌, ◌==◌, nat_le, if◌then◌else◌, ⊤, Option, None, Some, Result, Ok, Err, codes, option_and_then}
use Rattle.std.specs.Fmt.{decimal}
use Rattle.std.specs.Str.{bytes_eq}
use Rattle.std.specs.Str.Parse.{digits_value}
use Rattle.px_base.specs.declared.limits.TheConstants.{DEFAULT_CALLS, MOST_CALLS}
use Rattle.px_drive.specs.declared.outcome.CommandLine.{CommandLine}
use Rattle.px_drive.specs.declared.outcome.CommandLine.TheVariants.{Check, Replay, Eval, Run}
use Rattle.px_drive.specs.declared.outcome.End.{End}
use Rattle.px_drive.specs.declared.outcome.End.TheVariants.{Usage, NoMemory}

-- whether a word begins an option: its first byte is `-`
abbrev pub is_option : List ℕ → Bool
is_option [] = false
is_option (first ∷ _) = first == 45

-- whether a word can name a file, or a definition: it isn't empty and doesn't begin with `-`
abbrev pub is_file : List ℕ → Bool
is_file [] = false
is_file (first ∷ _) = not (first == 45)

-- the words before the first that begins an option
abbrev pub positionals : List (List ℕ) → List (List ℕ)
positionals [] = []
positionals (word ∷ words) = if is_option word then [] else word ∷ positionals words

-- the words from the first on that begins an option
abbrev pub options : List (List ℕ) → List (List ℕ)
options [] = []
options (word ∷ words) = if is_option word then word ∷ words else options words

-- So many words are those before the first that begins an option, and the others are those from it on.
pub record SplitsAt (words : List (List ℕ)) (n : ℕ) : Type 0 where
  pub within : n ≤ length words
  pub before : take n words ≡ positionals words
  pub behind : drop n words ≡ options words

-- the number n, where this word is its decimal without leading zeros and it is within the limits
abbrev pub number_if : ℕ → ℕ → List ℕ → ℕ → Option ℕ
number_if least most word n = if bytes_eq word (decimal n) && (nat_le least n && nat_le n most) then Some n else None

-- the number that a word is in decimal without leading zeros, within these limits
abbrev pub number_within : ℕ → ℕ → List ℕ → Option ℕ
number_within least most word = number_if least most word (digits_value 10 word)

-- how many calls the options ask for: those of `--calls N`, and the default without it; they are no other words
abbrev pub calls_of : List (List ℕ) → Option ℕ
calls_of [] = Some DEFAULT_CALLS
calls_of (word ∷ number ∷ []) = if bytes_eq word (codes "--calls") then number_within 1 MOST_CALLS number else None
calls_of _ = None

-- the line of `check F`, by the words after `check`
abbrev pub check_line : List (List ℕ) → Option CommandLine
check_line (file ∷ []) = if is_file file then Some (Check file) else None
check_line _ = None

-- the line of `replay F D`, by the words after `replay`
abbrev pub replay_line : List (List ℕ) → Option CommandLine
replay_line (file ∷ derivation ∷ []) = if is_file file && is_file derivation then Some (Replay file derivation) else None
replay_line _ = None

-- the line of `eval F NAME V..`, by these words and the number of calls; a V may be empty
abbrev pub eval_words : ℕ → List (List ℕ) → Option CommandLine
eval_words calls (file ∷ name ∷ values) = if is_file file && is_file name then Some (Eval file name values calls) else None
eval_words calls _ = None

-- the line of `eval F NAME V.. [--calls N]`, by the words after `eval`
abbrev pub eval_line : List (List ℕ) → Option CommandLine
eval_line args = option_and_then (λ (calls : ℕ). eval_words calls (positionals args)) (calls_of (options args))

-- the line of `run F D S`, by these words and the number of calls
abbrev pub run_words : ℕ → List (List ℕ) → Option CommandLine
run_words calls (file ∷ derivation ∷ schedule ∷ []) = if is_file file && (is_file derivation && is_file schedule) then Some (Run file derivation schedule calls) else None
run_words calls _ = None

-- the line of `run F D S [--calls N]`, by the words after `run`
abbrev pub run_line : List (List ℕ) → Option CommandLine
run_line args = option_and_then (λ (calls : ℕ). run_words calls (positionals args)) (calls_of (options args))

-- the plain line that these words are, if they are one
abbrev pub line_of : List (List ℕ) → Option CommandLine
line_of [] = None
line_of (command ∷ args) = if bytes_eq command (codes "check") then check_line args else if bytes_eq command (codes "replay") then replay_line args else if bytes_eq command (codes "eval") then eval_line args else if bytes_eq command (codes "run") then run_line args else None

-- the word of a line that names the file of its program
abbrev pub program_of : CommandLine → List ℕ
program_of (Check file) = file
program_of (Replay file derivation) = file
program_of (Eval file name values calls) = file
program_of (Run file derivation schedule calls) = file

-- the words of a line that name files
abbrev pub files_of : CommandLine → List (List ℕ)
files_of (Check file) = file ∷ []
files_of (Replay file derivation) = file ∷ derivation ∷ []
files_of (Eval file name values calls) = file ∷ []
files_of (Run file derivation schedule calls) = file ∷ derivation ∷ schedule ∷ []

-- the line is the one that the words are, and Usage comes where they are none
abbrev pub ReadsLine : Option CommandLine → Result CommandLine End → Type 0
ReadsLine plain (Ok line) = plain ≡ Some line
ReadsLine plain (Err Usage) = plain ≡ None
ReadsLine plain (Err NoMemory) = ⊤
ReadsLine plain (Err _) = ⊥
