-- Classes of bytes.
use Rattle.std.specs.Prelude.{ℕ, Bool}
use Rattle.std.specs.Char.{is_ascii_digit}
use Rattle.px_base.specs.NameForms.{is_name_part}
use Rattle.px_derive.specs.declared.runs.Class.{Class}
use Rattle.px_derive.specs.declared.runs.Class.TheVariants as classes

-- a byte of the class
abbrev pub is_in : Class → ℕ → Bool
is_in classes.NamePart byte = is_name_part byte
is_in classes.Digit byte = is_ascii_digit byte
