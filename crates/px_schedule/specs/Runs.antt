-- Bytes of a class in a row.
use Rattle.std.specs.Prelude.{◌≡◌, ℕ, Bool, true, false, ◌==◌, List, [], ◌∷◌, ◌++◌}
use Rattle.std.specs.List.{AllByRecursion}
use Rattle.std.specs.Char.{is_ascii_digit}
use Rattle.px_base.specs.NameForms.{is_name_part}
use Rattle.px_schedule.specs.declared.rest.Rest.{Rest}
use Rattle.px_schedule.specs.declared.runs.Class.{Class}
use Rattle.px_schedule.specs.declared.runs.Class.TheVariants as classes

-- a byte of the class
abbrev pub is_in : Class → ℕ → Bool
is_in classes.Space byte = byte == 32
is_in classes.Digit byte = is_ascii_digit byte
is_in classes.NamePart byte = is_name_part byte

-- the bytes that are left
abbrev pub left : Rest → List ℕ
left rest = rest.bytes.now

-- the first byte is of the class
abbrev pub begins : (ℕ → Bool) → List ℕ → Bool
begins test [] = false
begins test (c ∷ cs) = test c

-- The text is this word of the class, all of it, and the rest.
pub record IsRun (class : Class) (text word rest : List ℕ) : Type 0 where
  pub whole : text ≡ word ++ rest
  pub each : AllByRecursion (λ (byte : ℕ). is_in class byte ≡ true) word
  pub ends : begins (is_in class) rest ≡ false
