-- How values come into the heap and out of it, for the proofs of the machine. A list of numbers is read from its end, as a stack.
use Rattle.std.specs.Prelude.{◌≡◌, ℕ, ◌<◌, ◌≤◌, List, ◌∷◌, ◌++◌, length, reverse}
use Rattle.px_terms.specs.declared.term.Value.{Value}
use Rattle.px_machine.specs.declared.cells.Cell.{Cell}
use Rattle.px_machine.specs.declared.heap.Heap.{Heap}
use Rattle.px_machine.specs.Cells.{preorder, preorders, put_before, fields_of}
use Rattle.px_machine.specs.Heap.{IsHeap, heap_trees, tree_at, trees_at}
use Rattle.px_machine.specs.Running.{NameNodes}

-- The heap has grown: its nodes stand for what they stood for.
pub record Extends (old new : Heap) : Type 0 where
  pub more : List Value
  pub trees : heap_trees new ≡ heap_trees old ++ more

-- the values that a stack of numbers names, the top first
abbrev pub stacked : Heap → List ℕ → List Value
stacked heap numbers = trees_at (heap_trees heap) (reverse numbers)

-- The numbers name as many nodes as the cell has fields.
pub record CanPut (c : Cell) (h : Heap) (numbers : List ℕ) : Type 0 where
  pub heap : IsHeap h
  pub named : NameNodes h numbers
  pub enough : fields_of c ≤ length numbers

-- A node of the cell on the topmost values stands in their place.
pub record IsPut (c : Cell) (old : Heap) (before : List ℕ) (new : Heap) (after : List ℕ) : Type 0 where
  pub heap : IsHeap new
  pub extends : Extends old new
  pub named : NameNodes new after
  pub values : stacked new after ≡ put_before c (stacked old before)

-- The node of this number stands for the value.
pub record IsAdded (old new : Heap) (v : Value) (number : ℕ) : Type 0 where
  pub heap : IsHeap new
  pub extends : Extends old new
  pub within : number < length new.nodes.items
  pub is : tree_at (heap_trees new) number ≡ v

-- the cells of the values that a stack of numbers names
abbrev pub cells_left : Heap → List ℕ → List Cell
cells_left heap numbers = preorders (stacked heap numbers)

-- The cell is the node's, and its fields are put on the stack.
pub record IsTaken (h : Heap) (number : ℕ) (c : Cell) (before after : List ℕ) : Type 0 where
  pub named : NameNodes h before → NameNodes h after
  pub cells : preorder (tree_at (heap_trees h) number) ++ cells_left h before ≡ c ∷ cells_left h after
