-- Classes of bytes, and what stands between tokens.
use Rattle.std.specs.Prelude.{◌≡◌, ◌≢◌, ◌<◌, ◌≤◌, ℕ, Bool, ◌||◌, ◌==◌, List, length, slice_index, IsTrue}
pub use Rattle.px_base.specs.NameForms.{is_name_part}

-- a space, a tab, a line feed or a carriage return
abbrev pub is_blank : ℕ → Bool
is_blank byte = byte == 32 || byte == 9 || byte == 10 || byte == 13

-- the byte at this place of the text is a blank
pub record IsBlankAt (text : List ℕ) (at : ℕ) : Type 0 where
  pub within : at < length text
  pub blank : IsTrue (is_blank (slice_index text at))

-- from `at` to `end` stands a comment: a `#` and the rest of its line, up to the line feed or the text's end
pub record IsComment (text : List ℕ) (at end : ℕ) : Type 0 where
  pub rises : at < end
  pub within : end ≤ length text
  pub begins : slice_index text at ≡ 35
  pub one_line : (place : ℕ) → at ≤ place → place < end → slice_index text place ≢ 10
  pub whole : end < length text → slice_index text end ≡ 10
