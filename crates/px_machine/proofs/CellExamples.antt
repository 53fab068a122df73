-- Closed examples of the definitions.
use Rattle.std.proofs.Common.{◌≡◌, List, [], ◌∷◌, codes, refl}
use Rattle.px_base.specs.declared.names.Names.{Names}
use Rattle.px_terms.specs.declared.term.Value.{Value}
use Rattle.px_terms.specs.declared.term.Value.TheVariants as value
use Rattle.px_machine.specs.declared.cells.Cell.{Cell}
use Rattle.px_machine.specs.declared.cells.Cell.TheVariants as cell
use Rattle.px_machine.specs.Cells.{preorder, tree}
use Rattle.px_machine.specs.ValueText.{value_text}
use Rattle.px_machine.proofs.CellInduction.{preorder-Lit, preorder-Con}
use Rattle.px_machine.proofs.PrintEquations.{value_text-Con}

names : Names
names = record { datatypes = []; cons = (codes "False" ∷ codes "True" ∷ []) ∷ (codes "Nil" ∷ codes "Cons" ∷ []) ∷ []; defs = []; lemmas = []; replicas = [] }

nil : Value
nil = value.Con 1 0 []

pair : Value
pair = value.Con 1 1 (value.Lit 1 ∷ value.Con 1 1 (value.Lit 20 ∷ value.Con 1 0 [] ∷ []) ∷ [])

pair_cells : List Cell
pair_cells = cell.Con 1 1 2 ∷ cell.Lit 1 ∷ cell.Con 1 1 2 ∷ cell.Lit 20 ∷ cell.Con 1 0 0 ∷ []

cells_of_pair : preorder pair ≡ pair_cells
unfolding pair pair_cells
cells_of_pair = simp (preorder-Con, preorder-Lit)

tree_of_pair : tree pair_cells ≡ pair
unfolding pair pair_cells
tree_of_pair = refl

-- two lists without elements in one list
lists : Value
lists = value.Con 1 1 (value.Con 1 0 [] ∷ value.Con 1 1 (value.Con 0 1 [] ∷ value.Con 1 0 [] ∷ []) ∷ [])

text_of_lists : value_text names lists ≡ codes "Cons(Nil, Cons(True, Nil))"
unfolding lists names
text_of_lists = simp value_text-Con

text_of_nil : value_text names nil ≡ codes "Nil"
unfolding nil names
text_of_nil = simp value_text-Con
