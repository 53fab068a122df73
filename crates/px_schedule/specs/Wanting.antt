-- What is wanted next of a value's text, and what that says of the text that is left.
use Rattle.std.specs.Prelude.{◌≡◌, ℕ, ◌+◌, ◌<◌, ◌≤◌, ◌⊎◌, Bool, cond, List, [], ◌∷◌, ◌++◌, length, reverse}
use Rattle.px_base.specs.declared.limits.TheConstants.{VALUE_NODES}
use Rattle.px_terms.specs.declared.types.Ty.{Ty}
use Rattle.px_terms.specs.declared.term.Value.{Value}
use Rattle.px_terms.specs.declared.program.Program.{Program}
use Rattle.px_terms.specs.Values.{IsIn}
use Rattle.px_machine.specs.declared.cells.Cell.{Cell}
use Rattle.px_machine.specs.Cells.{preorders}
use Rattle.px_schedule.specs.declared.wanted.Wanted.{Wanted}
use Rattle.px_schedule.specs.declared.wanted.Wanted.TheVariants as wanted
use Rattle.px_schedule.specs.declared.reading.Reading.{Reading}
use Rattle.px_schedule.specs.declared.value_end.ValueEnd.{ValueEnd}
use Rattle.px_schedule.specs.declared.value_end.ValueEnd.TheVariants.{Fault, NoMemory}
use Rattle.px_schedule.specs.ValueGrammar.{Piece, mark, pieces, AreSpelled}

-- `(` in front of the first field, and a comma in front of others
abbrev pub mark_before : Bool → ℕ
mark_before is_first = cond is_first 40 44

-- behind the first field
abbrev pub closed_wants : List Ty → List Wanted
closed_wants [] = wanted.Mark 41 ∷ []
closed_wants (T ∷ types) = wanted.Mark 44 ∷ (wanted.Value T ∷ closed_wants types)

-- fields of these types
abbrev pub field_wants : List Ty → List Wanted
field_wants [] = []
field_wants (T ∷ types) = wanted.Mark 40 ∷ (wanted.Value T ∷ closed_wants types)

-- the byte is a mark
abbrev pub IsMark : ℕ → Type 0
IsMark c = (c ≡ 40) ⊎ ((c ≡ 41) ⊎ (c ≡ 44))

-- behind a value no other is wanted at once
abbrev pub Follows : List Wanted → Type 0
Follows [] = Unit {0}
Follows (wanted.Mark c ∷ ws) = Unit {0}
Follows (wanted.Value T ∷ ws) = ⊥

-- marks are wanted, and values with a mark behind them or nothing
abbrev pub AreWants : List Wanted → Type 0
AreWants [] = Unit {0}
AreWants (wanted.Mark c ∷ ws) = IsMark c × AreWants ws
AreWants (wanted.Value T ∷ ws) = Follows ws × AreWants ws

-- these values and these pieces are what is wanted
pub data Fits (P : Program) : List Wanted → List Value → List Piece → Type 0 where
  done : Fits P [] [] []
  marked : {c : ℕ} {ws : List Wanted} {vs : List Value} {ps : List Piece} → Fits P ws vs ps → Fits P (wanted.Mark c ∷ ws) vs (mark c ∷ ps)
  valued : {T : Ty} {ws : List Wanted} {v : Value} {vs : List Value} {ps all : List Piece} → IsIn P T v → all ≡ pieces v ++ ps → Fits P ws vs ps →
      Fits P (wanted.Value T ∷ ws) (v ∷ vs) all

-- The text that is left is what is wanted, with these values.
pub record Completes (P : Program) (ws : List Wanted) (text : List ℕ) (vs : List Value) : Type 0 where
  pub pieces : List Piece
  pub fits : Fits P ws vs pieces
  pub spelled : AreSpelled P.names text pieces

-- Some values complete the text, and these are their cells.
pub record Grows (P : Program) (ws : List Wanted) (text : List ℕ) (cells : List Cell) : Type 0 where
  pub values : List Value
  pub completes : Completes P ws text values
  pub are : preorders values ≡ cells

-- Some values complete the text, and behind the cells that were added these are theirs.
pub record Stays (P : Program) (ws : List Wanted) (text : List ℕ) (added cells : List Cell) : Type 0 where
  pub values : List Value
  pub completes : Completes P ws text values
  pub are : cells ≡ added ++ preorders values

-- Reading went on from the one state to the other, by adding cells: whatever completes the one completes the other.
pub record Turns (P : Program) (ws : List Wanted) (text : List ℕ) (cells : List Cell) (later : List Wanted) (rest : List ℕ) (more : List Cell) : Type 0 where
  pub added : List Cell
  pub are : more ≡ cells ++ added
  pub forth : (vs : List Value) → Completes P later rest vs → Grows P ws text (added ++ preorders vs)
  pub back : (vs : List Value) → Completes P ws text vs → Stays P later rest added (preorders vs)

-- nothing that is within the limit completes the text
abbrev pub IsStuck : Program → List Wanted → List ℕ → List Cell → Type 0
IsStuck P ws text cells = (vs : List Value) → Completes P ws text vs → length cells + length (preorders vs) ≤ VALUE_NODES → ⊥

-- how many values are wanted
abbrev pub values_in : List Wanted → ℕ
values_in [] = 0
values_in (wanted.Value T ∷ ws) = 1 + values_in ws
values_in (wanted.Mark c ∷ ws) = values_in ws

-- so many nodes may be wanted besides, and so many cells there are: together the limit
abbrev pub IsRoom : ℕ → List Cell → List Wanted → Type 0
IsRoom left cells ws = left + length cells + values_in ws ≡ VALUE_NODES

-- what a refusal says of what was wanted: of a fault that nothing within the limit completes the text
abbrev pub EndsStuck : Program → List Wanted → List ℕ → List Cell → ValueEnd → Type 0
EndsStuck P ws text cells Fault = IsStuck P ws text cells
EndsStuck P ws text cells NoMemory = Unit {0}

-- What was wanted first was read.
pub record IsStep (P : Program) (w : Wanted) (before : Reading) (text : List ℕ) (later : Reading) (rest : List ℕ) : Type 0 where
  pub turns : Turns P (w ∷ reverse before.wanted) text before.cells (reverse later.wanted) rest later.cells
  pub room : IsRoom later.left later.cells (reverse later.wanted)
  pub wants : AreWants (reverse later.wanted)
  pub shorter : length rest < length text

-- Nothing was read yet of a value of the type.
pub record IsStart (T : Ty) (reading : Reading) : Type 0 where
  pub wanted : reverse reading.wanted ≡ wanted.Value T ∷ []
  pub cells : reading.cells ≡ []
  pub room : reading.left + 1 ≡ VALUE_NODES
