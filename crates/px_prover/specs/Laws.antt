-- What is said of the plain class.
use Rattle.std.specs.Prelude.{◌≡◌, ℕ, suc, List, IsTrue}
use Rattle.px_terms.specs.declared.term.Term.{Term}
use Rattle.px_terms.specs.declared.clause.Equation.{Equation}
use Rattle.px_terms.specs.declared.clause.Clause.{Clause}
use Rattle.px_terms.specs.declared.program.Program.{Program}
use Rattle.px_prover.specs.Rooms.{Room}
use Rattle.px_prover.specs.Norms.{Normal, Norm}
use Rattle.px_prover.specs.Moves.{Reaches, AreAmong}
use Rattle.px_prover.specs.declared.branch.Branch.{Branch}
use Rattle.px_prover.specs.Settling.{NormalSides, Settled, SettlesBranch}
use Rattle.px_prover.specs.Closing.{LeafPair, AreLeafPairs}
use Rattle.px_prover.specs.Blocking.{IsBlocker}
use Rattle.px_prover.specs.Plain.{Plain}

-- normalising a term has one result: under these facts, in this room and with these units
abbrev pub OneNormalForm : Type 0
OneNormalForm = (P : Program) (facts : List Equation) (room : Room) (units : ℕ) (t : Term) (n m : Normal) → Norm P facts room units t n → Norm P facts room units t m → n ≡ m

-- settling a branch has one result
abbrev pub OneSettling : Type 0
OneSettling = (P : Program) (b : Branch) (end last : Settled) → SettlesBranch P b end → SettlesBranch P b last → end ≡ last

-- a pair has one list of leaf pairs
abbrev pub OneListOfLeafPairs : Type 0
OneListOfLeafPairs = (path : List ℕ) (s t : Term) (leaves others : List LeafPair) → AreLeafPairs path s t leaves → AreLeafPairs path s t others → leaves ≡ others

-- a branch has at most one blocker
abbrev pub OneBlocker : Type 0
OneBlocker = (P : Program) (n : ℕ) (own : Clause) (b : Branch) (steps : ℕ) (alternatives : List NormalSides) (u v : Term) →
    IsBlocker P n own b steps alternatives u → IsBlocker P n own b steps alternatives v → u ≡ v

-- what is plain with some splits is plain with more
abbrev pub MoreSplitsFindMore : Type 0
MoreSplitsFindMore = (P : Program) (n splits steps : ℕ) → Plain P n splits steps → Plain P n (suc splits) steps

-- a normal form is reached by moves, each within the room, where the facts that it is under stand among those of the moves
abbrev pub NormsAreMoves : Type 0
NormsAreMoves = (P : Program) (facts all : List Equation) (room : Room) (units : ℕ) (t : Term) (n : Normal) → AreAmong facts all → IsTrue (room t) →
    Norm P facts room units t n → Reaches P all room t n.term
