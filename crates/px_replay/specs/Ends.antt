-- What a line's refusal is, by what was found of it.
use Rattle.std.specs.Prelude.{ℕ}
use Rattle.px_derive.specs.declared.line_end.LineEnd.{LineEnd}
use Rattle.px_derive.specs.declared.line_end.LineEnd.TheVariants as line_ends
use Rattle.px_replay.specs.declared.ends.Why.TheVariants as why
use Rattle.px_replay.specs.declared.ends.FeedEnd.{FeedEnd}
use Rattle.px_replay.specs.declared.ends.FeedEnd.TheVariants as ends
use Rattle.px_replay.specs.declared.ends.RowEnd.{RowEnd}
use Rattle.px_replay.specs.declared.ends.RowEnd.TheVariants as row_ends
use Rattle.px_replay.specs.declared.ends.LineRefusal.{LineRefusal}
use Rattle.px_replay.specs.declared.ends.LineRefusal.TheVariants as refusals

-- a line that is no row's is wrong in its form
abbrev pub line_refusal : LineEnd → LineRefusal
line_refusal line_ends.Form = refusals.Wrong why.Form
line_refusal line_ends.NoMemory = refusals.NoMemory

-- a row that does not apply breaks a rule
abbrev pub row_refusal : RowEnd → LineRefusal
row_refusal row_ends.NoRule = refusals.Wrong why.Rule
row_refusal row_ends.NoMemory = refusals.NoMemory

-- the refusal of the line of this number
abbrev pub refusal_at : ℕ → LineRefusal → FeedEnd
refusal_at line (refusals.Wrong w) = ends.Rejected line w
refusal_at line refusals.NoMemory = ends.NoMemory
