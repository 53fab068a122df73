-- What a function of this crate answers where a reader finds a value or a fault.
use Rattle.std.specs.Prelude.{◌≡◌, ℕ, List, Result, Ok, Err}
use Rattle.px_parser.specs.Words.{Word, words_of}
use Rattle.px_parser.specs.declared.rest.Rest.{Rest}
use Rattle.px_parser.specs.declared.phrase_end.PhraseEnd.{PhraseEnd}
use Rattle.px_parser.specs.declared.phrase_end.PhraseEnd.TheVariants.{Fault, NoMemory}

-- the words that are left
abbrev pub words : Rest → List Word
words rest = words_of rest.text.now rest.tokens.now

-- the end is the fault that reading finds, or want of memory
abbrev pub Fails : {T : Type 0} → PhraseEnd → Result T ℕ → Type 0
Fails NoMemory read = Unit {0}
Fails (Fault left) read = read ≡ Err left

-- the answer is what reading finds, unless memory ran out
abbrev pub Gives : {T : Type 0} → Result (T × Rest) PhraseEnd → Result (T × List Word) ℕ → Type 0
Gives (Ok found) read = read ≡ Ok (found.0, words found.1)
Gives (Err end) read = Fails end read

-- the same where reading finds no value
abbrev pub Passes : Result Rest PhraseEnd → Result (Unit {0} × List Word) ℕ → Type 0
Passes (Ok rest) read = read ≡ Ok (tt, words rest)
Passes (Err end) read = Fails end read
