-- The heap's nodes as values, for the proofs of the machine.
use Rattle.std.specs.Prelude.{◌≡◌, ℕ, ◌+◌, ◌<◌, ◌≤◌, List, [], ◌∷◌, ◌++◌, length, take, drop, map, slice_index_or}
use Rattle.std.specs.List.{AllByRecursion}
use Rattle.px_terms.specs.declared.term.Value.{Value}
use Rattle.px_terms.specs.declared.term.Value.TheVariants as value
use Rattle.px_machine.specs.declared.heap.Heap as code_heap
use Rattle.px_machine.specs.declared.heap.Node as code_node
use Rattle.px_machine.specs.declared.heap.Node.TheVariants as node

-- the value that a number names among these
abbrev pub tree_at : List Value → ℕ → Value
tree_at trees n = slice_index_or trees n (value.Lit 0)

-- the values that numbers name
abbrev pub trees_at : List Value → List ℕ → List Value
trees_at trees = map (tree_at trees)

-- so many numbers behind a place of the list of fields
abbrev pub numbers_of : List ℕ → ℕ → ℕ → List ℕ
numbers_of fields first count = take count (drop first fields)

-- the value of a node over the values of the nodes before it
abbrev pub node_tree : List ℕ → List Value → code_node.Node → Value
node_tree fields trees (node.Lit w) = value.Lit w
node_tree fields trees (node.Con d k first count) = value.Con d k (trees_at trees (numbers_of fields first count))

-- the values of nodes behind these values
abbrev pub grown : List ℕ → List Value → List code_node.Node → List Value
grown fields trees [] = trees
grown fields trees (n ∷ nodes) = grown fields (trees ++ node_tree fields trees n ∷ []) nodes

-- the value of each node
abbrev pub heap_trees : code_heap.Heap → List Value
heap_trees heap = grown heap.fields.items [] heap.nodes.items

-- the node's fields stand in the list of fields, and are nodes below the number
abbrev pub IsNodeBelow : List ℕ → ℕ → code_node.Node → Type 0
IsNodeBelow fields number (node.Lit w) = Unit {0}
IsNodeBelow fields number (node.Con d k first count) = (first + count ≤ length fields) × AllByRecursion (λ (n : ℕ). n < number) (numbers_of fields first count)

-- each node's fields are nodes before it, where this many nodes stand before all of them
abbrev pub AreNodes : List ℕ → ℕ → List code_node.Node → Type 0
AreNodes fields number [] = Unit {0}
AreNodes fields number (n ∷ nodes) = IsNodeBelow fields number n × AreNodes fields (number + 1) nodes

-- Each node's fields are nodes before it, and each node has its size.
pub record IsHeap (heap : code_heap.Heap) : Type 0 where
  pub nodes : AreNodes heap.fields.items 0 heap.nodes.items
  pub sizes : length heap.sizes.items ≡ length heap.nodes.items

-- The heap has grown by one node of this number, which stands for the value.
pub record Grows (old new : code_heap.Heap) (v : Value) (added : ℕ) : Type 0 where
  pub heap : IsHeap new
  pub trees : heap_trees new ≡ heap_trees old ++ v ∷ []
  pub number : added ≡ length old.nodes.items
  pub more : length new.nodes.items ≡ length old.nodes.items + 1
