-- Names in tables, by their numbers.
use Rattle.std.specs.Prelude.{ℕ, ◌^◌, Bool, List, Option, Some, None, nat_lt, cond}
use Rattle.std.specs.List.{position, list_any}
use Rattle.std.specs.Option.{option_and_then}
use Rattle.std.specs.Str.{bytes_eq}

-- the name is one of these
abbrev pub is_name : List (List ℕ) → List ℕ → Bool
is_name names name = list_any (bytes_eq name) names

-- The number, where it is below 2^32. No text within the limit has as many names.
abbrev pub number : ℕ → Option ℕ
number n = cond (nat_lt n (2 ^ 32)) (Some n) None

-- the place of a name among these
abbrev pub number_of : List (List ℕ) → List ℕ → Option ℕ
number_of names name = option_and_then number (position (bytes_eq name) names)
