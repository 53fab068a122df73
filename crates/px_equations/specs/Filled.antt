-- What is put into a clause.
use Rattle.std.specs.Prelude.{ℕ}
use Rattle.px_terms.specs.declared.program.Program.{Program}
use Rattle.px_terms.specs.Noting.{FitsClause}
use Rattle.px_equations.specs.declared.instances.Filling.{Filling}

-- what is put in fits the clause where it is open to obligation n
abbrev pub Fits : Program → ℕ → Filling → Type 0
Fits P n filling = FitsClause P n filling.context.now filling.clause.now filling.sigma.now
