-- The lines of a text.
use Rattle.std.specs.Prelude.{◌≡◌, ◌<◌, ◌≤◌, ◌+◌, ℕ, List, ◌∷◌, ◌++◌, length, drop, slice_range, Contains}
use Rattle.px_derive.specs.declared.lines.Piece.{Piece}
use Rattle.px_derive.specs.declared.lines.Piece.TheVariants as pieces

-- From `start` on the text has a line up to the line feed at `end`, the first there, and goes on at `next`.
pub record IsLine (text : List ℕ) (start end next : ℕ) : Type 0 where
  pub rises : start ≤ end
  pub within : end < length text
  pub after : next ≡ end + 1
  pub whole : drop start text ≡ slice_range text start end ++ 10 ∷ drop next text
  pub one_line : ¬ Contains (slice_range text start end) 10

-- From this place on the text has bytes, but no line feed.
pub record IsPartial (text : List ℕ) (at : ℕ) : Type 0 where
  pub some : at < length text
  pub no_feed : ¬ Contains (drop at text) 10

-- this is what stands at a place of the text
abbrev pub IsPiece : List ℕ → ℕ → Piece → Type 0
IsPiece text at (pieces.Line start end next) = (start ≡ at) × IsLine text start end next
IsPiece text at pieces.Partial = IsPartial text at
IsPiece text at pieces.End = at ≡ length text
