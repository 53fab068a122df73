-- What the lines of a text make of a replay.
use Rattle.std.specs.Prelude.{◌≡◌, ℕ, List, [], Result, Ok, Err}
use Rattle.px_terms.specs.declared.program.Program.{Program}
use Rattle.px_replay.specs.Standings.{Standing, StandsFor}
use Rattle.px_drive.specs.declared.outcome.End.{End}
use Rattle.px_drive.specs.declared.outcome.End.TheVariants.{Rejected, NoMemory}
use Rattle.px_drive.specs.Derivations.{BeginsWith, IsRejected}

-- The replay stands for all lines of the text.
pub record HasFed (P : Program) (text : List ℕ) (replay : Standing) : Type 0 where
  pub lines : List (List ℕ)
  pub is : BeginsWith text lines []
  pub stands : StandsFor replay lines
  pub program : replay.program ≡ P

-- the replay was fed all lines of the text; or one was refused, or the last has no line feed
abbrev pub Feeds : Program → List ℕ → Standing → Result (Unit {0}) End → Type 0
Feeds P text replay (Ok _) = HasFed P text replay
Feeds P text replay (Err (Rejected line why)) = IsRejected P text line why
Feeds P text replay (Err NoMemory) = Unit {0}
Feeds P text replay (Err _) = ⊥
