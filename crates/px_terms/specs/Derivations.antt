-- Derivations: the trees that derive a sequent, and the stack of open sequents.
use Rattle.std.specs.Prelude.{◌≡◌, ℕ, ◌<◌, List, [], ◌∷◌, ◌++◌, length, slice_get, Some, All}
use Rattle.px_terms.specs.declared.term.Term.TheVariants as term
use Rattle.px_terms.specs.declared.clause.Clause.{Clause}
use Rattle.px_terms.specs.declared.program.Program.{Program}
use Rattle.px_terms.specs.declared.sequent.Sequent.{Sequent}
use Rattle.px_terms.specs.declared.row.Row.{Row}
use Rattle.px_terms.specs.declared.row.Tree.{Tree}
use Rattle.px_terms.specs.Obligations.{IsObligation}
use Rattle.px_terms.specs.Sequents.{own_frame, first_sequent}
use Rattle.px_terms.specs.Rows.{Opens}

mutual
  -- a row of a derivation with the trees of its children
  pub data Node : Type 0 where
    node : (row : Row) (children : Nodes) → Node

  -- several trees, one for each child in order
  pub data Nodes : Type 0 where
    no_node : Nodes
    more_nodes : (first : Node) (others : Nodes) → Nodes

mutual
  -- in obligation n the tree derives the sequent
  pub data Derives (P : Program) (n : ℕ) : Sequent → Node → Type 0 where
    by_row : {s : Sequent} {r : Row} {nodes : Nodes} {children : List Sequent} → Opens P n s r children → DeriveAll P n children nodes → Derives P n s (node r nodes)

  -- each tree derives the sequent at its place
  pub data DeriveAll (P : Program) (n : ℕ) : List Sequent → Nodes → Type 0 where
    all_derived : DeriveAll P n [] no_node
    derived : {s : Sequent} {sequents : List Sequent} {first : Node} {others : Nodes} → Derives P n s first → DeriveAll P n sequents others →
        DeriveAll P n (s ∷ sequents) (more_nodes first others)

abbrev mutual
  -- the rows of a tree in preorder
  pub rows_of : Node → List Row
  rows_of (node r nodes) = r ∷ rows_of_all nodes

  pub rows_of_all : Nodes → List Row
  rows_of_all no_node = []
  rows_of_all (more_nodes first others) = rows_of first ++ rows_of_all others

-- the numbers rise
abbrev pub Rise : List ℕ → Type 0
Rise [] = Unit {0}
Rise (n ∷ ns) = All (λ (m : ℕ). n < m) ns × Rise ns

-- The induction may speak of these variables of the clause: they rise, and are among its data variables.
pub record AreFrameVariables (clause : Clause) (on : List ℕ) : Type 0 where
  pub rise : Rise on
  pub within : All (λ (v : ℕ). v < length clause.vars) on

-- the sequent that the tree of an obligation begins with, where the induction speaks of these variables
abbrev pub begins_with : Clause → List ℕ → Sequent
begins_with clause on = first_sequent clause (own_frame (λ (v : ℕ). term.Free v) on)

-- The rows are those of a tree, in preorder, that derives the first sequent of obligation n.
pub record DerivesObligation (P : Program) (n : ℕ) (tree : Tree) : Type 0 where
  pub clause : Clause
  pub obligation : IsObligation P n clause
  pub on : AreFrameVariables clause tree.on
  pub root : Node
  pub rows : rows_of root ≡ tree.rows
  pub derives : Derives P n (begins_with clause tree.on) root

-- one tree for each obligation, in order, and each derives its obligation
pub record IsDerivation (P : Program) (trees : List Tree) : Type 0 where
  pub count : length trees ≡ length P.declared
  pub each : (n : ℕ) (tree : Tree) → slice_get trees n ≡ Some tree → DerivesObligation P n tree

-- the rows lead from a stack of open sequents to another one: each row takes the top sequent and puts its children there
pub data Leads (P : Program) (n : ℕ) : List Sequent → List Row → List Sequent → Type 0 where
  stays : {stack : List Sequent} → Leads P n stack [] stack
  goes_on : {s : Sequent} {below after : List Sequent} {r : Row} {rows : List Row} {children : List Sequent} → Opens P n s r children →
      Leads P n (children ++ below) rows after → Leads P n (s ∷ below) (r ∷ rows) after

-- rows lead from one sequent to nothing open exactly where they are those of a tree that derives it
pub record StackIsTree (P : Program) (n : ℕ) (s : Sequent) (rows : List Row) : Type 0 where
  pub tree_of : Leads P n (s ∷ []) rows [] → (root : Node) × Derives P n s root × (rows_of root ≡ rows)
  pub stack_of : (root : Node) → Derives P n s root → rows_of root ≡ rows → Leads P n (s ∷ []) rows []
