-- The largest set that no self-call raises: where each self-call lowers one of its positions.
use Rattle.std.specs.Prelude.{ℕ, List, All}
use Rattle.px_terms.specs.declared.program.Def as definition
use Rattle.px_terms.specs.declared.program.Program.{Program}
use Rattle.px_terms.specs.Descent.{Standing, self_calls, Lowers, IsKept}

-- The call lowers a position that each self-call keeps.
pub record LowersKept (P : Program) (n : ℕ) (D : definition.Def) (args : List Standing) : Type 0 where
  pub position : ℕ
  pub kept : IsKept P n D position
  pub lowered : Lowers args position

-- the largest set serves: each self-call lowers one of its positions
abbrev pub LargestServes : Program → ℕ → definition.Def → Type 0
LargestServes P n D = All (LowersKept P n D) (self_calls P n D)
