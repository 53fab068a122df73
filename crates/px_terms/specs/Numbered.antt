-- Programs whose obligations, variables and constructors can be numbered below 2^32, as those of each program that is read.
use Rattle.std.specs.Prelude.{◌≡◌, ℕ, ◌<◌, ◌^◌, length, Some, slice_get}
use Rattle.px_terms.specs.declared.clause.Clause.{Clause}
use Rattle.px_terms.specs.declared.program.DataDef.{DataDef}
use Rattle.px_terms.specs.declared.program.Program.{Program}
use Rattle.px_terms.specs.Obligations.{IsObligation}

-- the clause has fewer than 2^32 data variables, and fewer function variables
pub record HasNumberedVariables (clause : Clause) : Type 0 where
  pub vars : length clause.vars < 2 ^ 32
  pub funs : length clause.funs < 2 ^ 32

-- the program has fewer than 2^32 obligations, variables in each clause, and constructors of each datatype
pub record HasNumbers (P : Program) : Type 0 where
  pub obligations : length P.declared < 2 ^ 32
  pub clauses : (n : ℕ) (clause : Clause) → IsObligation P n clause → HasNumberedVariables clause
  pub constructors : (d : ℕ) (D : DataDef) → slice_get P.datatypes d ≡ Some D → length D.cons < 2 ^ 32
