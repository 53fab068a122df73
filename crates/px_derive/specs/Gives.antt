-- What a function of this crate answers where a reader finds a value or nothing.
use Rattle.std.specs.Prelude.{◌≡◌, ℕ, List, Option, Some, None, Result, Ok, Err}
use Rattle.px_derive.specs.declared.rest.Rest.{Rest}
use Rattle.px_derive.specs.declared.line_end.LineEnd.{LineEnd}
use Rattle.px_derive.specs.declared.line_end.LineEnd.TheVariants.{Form, NoMemory}

-- the bytes that are left
abbrev pub left : Rest → List ℕ
left rest = rest.bytes.now

-- nothing is found, or memory ran out
abbrev pub Fails : {T : Type 0} → LineEnd → Option T → Type 0
Fails NoMemory found = Unit {0}
Fails Form found = found ≡ None

-- the answer is what reading finds, unless memory ran out
abbrev pub Gives : {T : Type 0} → Result (T × Rest) LineEnd → Option (T × List ℕ) → Type 0
Gives (Ok read) found = found ≡ Some (read.0, left read.1)
Gives (Err end) found = Fails end found

-- the same where reading finds no value
abbrev pub Passes : Result Rest LineEnd → Option (Unit {0} × List ℕ) → Type 0
Passes (Ok rest) found = found ≡ Some (tt, left rest)
Passes (Err end) found = Fails end found

-- the same where nothing is left
abbrev pub Answers : {T : Type 0} → Result T LineEnd → Option T → Type 0
Answers (Ok value) found = found ≡ Some value
Answers (Err end) found = Fails end found
