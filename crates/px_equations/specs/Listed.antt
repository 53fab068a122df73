-- The clauses of the obligations, as they are listed.
use Rattle.std.specs.Prelude.{◌≡◌, ℕ, List, [], length, Some, slice_get}
use Rattle.px_base.specs.declared.head.Head.TheVariants.{Def}
use Rattle.px_terms.specs.declared.clause.Clause.{Clause}
use Rattle.px_terms.specs.declared.program.Declared.{Declared}
use Rattle.px_terms.specs.declared.program.Declared.TheVariants as declared
use Rattle.px_terms.specs.declared.program.Program.{Program}
use Rattle.px_terms.specs.Obligations.{IsDeclaredClause, IsObligation}
use Rattle.px_props.specs.Signatures.{IsCounted}
use Rattle.px_descent.specs.Checked.{IsChecked}
use Rattle.px_equations.specs.declared.index.Index.{Index}
use Rattle.px_equations.specs.Index.{IsIndex}

-- What is declared has a clause: the lemma is there, or the property fits the definition.
pub record HasClause (P : Program) (d : Declared) : Type 0 where
  pub clause : Clause
  pub says : IsDeclaredClause P d clause

-- the definition of a declared property takes no more than can be counted
abbrev pub IsDeclaredCounted : Program → Declared → Type 0
IsDeclaredCounted P (declared.Property n p) = IsCounted P [] (Def n)
IsDeclaredCounted P (declared.Lemma n) = Unit {0}

-- This is the clause of what is declared, and there is no other.
pub record IsOnlyDeclared (P : Program) (d : Declared) (clause : Clause) : Type 0 where
  pub is : IsDeclaredClause P d clause
  pub only : (own : Clause) → IsDeclaredClause P d own → own ≡ clause

-- This is the clause of obligation n, and there is no other.
pub record IsOnlyClause (P : Program) (n : ℕ) (clause : Clause) : Type 0 where
  pub is : IsObligation P n clause
  pub only : (own : Clause) → IsObligation P n own → own ≡ clause

-- These are the clauses of the first so many obligations, in order.
pub record AreListed (P : Program) (clauses : List Clause) (count : ℕ) : Type 0 where
  pub all : length clauses ≡ count
  pub each : (n : ℕ) (clause : Clause) → slice_get clauses n ≡ Some clause → IsOnlyClause P n clause

-- The program is checked, these are the clauses of its obligations, and the index is right.
pub record IsListing (P : Program) (clauses : List Clause) (index : Index) : Type 0 where
  pub checked : IsChecked P
  pub listed : AreListed P clauses (length P.declared)
  pub indexed : IsIndex P.declared index
