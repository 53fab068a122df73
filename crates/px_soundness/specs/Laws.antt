-- What is said of derivations.
use Rattle.std.specs.Prelude.{◌≡◌, ℕ, List, []}
use Rattle.px_terms.specs.declared.clause.Clause.{Clause}
use Rattle.px_terms.specs.declared.program.Program.{Program}
use Rattle.px_terms.specs.declared.sequent.Sequent.{Sequent}
use Rattle.px_terms.specs.declared.row.Row.{Row}
use Rattle.px_terms.specs.declared.row.Tree.{Tree}
use Rattle.px_terms.specs.Extending.{IsWellFounded}
use Rattle.px_terms.specs.Obligations.{IsObligation, AllHoldInExtensions}
use Rattle.px_terms.specs.Rows.{Opens}
use Rattle.px_terms.specs.Derivations.{Leads, Nodes, DeriveAll, rows_of_all, StackIsTree, IsDerivation}

-- a row leaves at most one list of children of a sequent
abbrev pub OneOpening : Type 0
OneOpening = (P : Program) → IsWellFounded P → (n : ℕ) (s : Sequent) (row : Row) (a b : List Sequent) → Opens P n s row a → Opens P n s row b → a ≡ b

-- rows lead from a stack to nothing open exactly where they are those of trees that derive its sequents
pub record StackIsTrees (P : Program) (n : ℕ) (stack : List Sequent) (rows : List Row) : Type 0 where
  pub trees_of : Leads P n stack rows [] → (nodes : Nodes) × DeriveAll P n stack nodes × (rows_of_all nodes ≡ rows)
  pub stack_of : (nodes : Nodes) → DeriveAll P n stack nodes → rows_of_all nodes ≡ rows → Leads P n stack rows []

-- the stack of open sequents stands for trees, whatever the program and the stack
abbrev pub StacksAreTrees : Type 0
StacksAreTrees = (P : Program) (n : ℕ) (stack : List Sequent) (rows : List Row) → StackIsTrees P n stack rows

-- the same of one sequent and its tree
abbrev pub EachStackIsTree : Type 0
EachStackIsTree = (P : Program) (n : ℕ) (s : Sequent) (rows : List Row) → StackIsTree P n s rows

-- an obligation has at most one clause
abbrev pub OneClause : Type 0
OneClause = (P : Program) (n : ℕ) (clause other : Clause) → IsObligation P n clause → IsObligation P n other → clause ≡ other

-- where trees derive the obligations of a program that is typed and descends, each of them holds in every extension
abbrev pub DerivationsAreSound : Type 0
DerivationsAreSound = (P : Program) → IsWellFounded P → (trees : List Tree) → IsDerivation P trees → AllHoldInExtensions P
