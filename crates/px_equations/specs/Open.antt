-- What is told of a reference: the clause that it is open to, or that there is none.
use Rattle.std.specs.Prelude.{◌≡◌, ℕ, Option, Some, None}
use Rattle.px_terms.specs.declared.clause.Clause.{Clause}
use Rattle.px_terms.specs.declared.program.Program.{Program}
use Rattle.px_terms.specs.declared.row.Ref.{Ref}
use Rattle.px_terms.specs.Obligations.{IsObligation}
use Rattle.px_terms.specs.Noting.{IsOpen}
use Rattle.px_equations.specs.declared.open.OpenClause.{OpenClause}
use Rattle.px_equations.specs.declared.open.OpenClause.TheVariants.{Listed, Made}

-- the clause that is lent or made
abbrev pub clause_in : OpenClause → Clause
clause_in (Listed clause) = clause.now
clause_in (Made clause) = clause

-- this clause is open to obligation n by the reference, or none is
abbrev pub TellsOpen : Program → ℕ → Ref → Option OpenClause → Type 0
TellsOpen P n ref None = (own clause : Clause) → IsObligation P n own → ¬ IsOpen P n own ref clause
TellsOpen P n ref (Some found) = (own : Clause) → IsObligation P n own → IsOpen P n own ref (clause_in found)

-- the same, where `own` is the obligation's clause
abbrev pub TellsFor : Program → ℕ → Clause → Ref → Option OpenClause → Type 0
TellsFor P n own ref None = (clause : Clause) → ¬ IsOpen P n own ref clause
TellsFor P n own ref (Some found) = IsOpen P n own ref (clause_in found)

-- what is found is this clause
abbrev pub IsThatOpen : Clause → Option OpenClause → Type 0
IsThatOpen clause None = ⊥
IsThatOpen clause (Some found) = clause_in found ≡ clause
