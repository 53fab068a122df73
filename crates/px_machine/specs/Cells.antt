-- A value as cells in preorder: each constructor with the number of its fields, before the cells of its fields.
use Rattle.std.specs.Prelude.{◌≡◌, ℕ, ◌<◌, ◌≤◌, List, [], ◌∷◌, length, take, drop, slice_get, unwrap_or}
use Rattle.std.specs.List.{flat_map}
use Rattle.px_terms.specs.declared.term.Value.{Value}
use Rattle.px_terms.specs.declared.term.Value.TheVariants as value
use Rattle.px_terms.specs.declared.term.Value.TheOpen.{Value-F}
use Rattle.px_terms.specs.declared.term.Value.TheFolds.{fold-Value}
use Rattle.px_machine.specs.declared.cells.Cell.{Cell}
use Rattle.px_machine.specs.declared.cells.Cell.TheVariants as cell

-- the cell of a value's top, and then the cells of its fields in order
abbrev pub preorder_step : Value-F (List Cell) → List Cell
preorder_step (Value-F.Lit w) = cell.Lit w ∷ []
preorder_step (Value-F.Con d k fields) = cell.Con d k (length fields) ∷ flat_map (λ (cells : List Cell). cells) fields

-- a value's cells
abbrev pub preorder : Value → List Cell
preorder = fold-Value (List Cell) preorder_step

-- the cells of values, one after the other
abbrev pub preorders : List Value → List Cell
preorders values = flat_map preorder values

-- the values of a list of cells whose rest shows these values: a constructor takes as many of them as it has fields
abbrev pub put_before : Cell → List Value → List Value
put_before (cell.Lit w) values = value.Lit w ∷ values
put_before (cell.Con d k count) values = value.Con d k (take count values) ∷ drop count values

-- the values that the cells show, one after the other
abbrev pub trees : List Cell → List Value
trees [] = []
trees (c ∷ cells) = put_before c (trees cells)

-- the value that the cells show first
abbrev pub tree : List Cell → Value
tree cells = unwrap_or (slice_get (trees cells) 0) (value.Lit 0)

-- the cells are those of one value
abbrev pub IsValue : List Cell → Type 0
IsValue cells = preorder (tree cells) ≡ cells

-- the cells are those of values, one after the other
abbrev pub AreValues : List Cell → Type 0
AreValues cells = preorders (trees cells) ≡ cells

-- how many fields a cell's node has
abbrev pub fields_of : Cell → ℕ
fields_of (cell.Lit w) = 0
fields_of (cell.Con d k count) = count

-- The first value that the cells show ends there.
pub record IsFirst (end : ℕ) (cells : List Cell) : Type 0 where
  pub some : 0 < end
  pub within : end ≤ length cells
  pub first : take end cells ≡ preorder (tree cells)
  pub rest : trees (drop end cells) ≡ drop 1 (trees cells)
