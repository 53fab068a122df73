-- The laws of descent.
use Rattle.std.specs.Prelude.{◌≡◌, ◌↔◌, ℕ}
use Rattle.px_terms.specs.declared.program.Def as definition
use Rattle.px_terms.specs.declared.program.Program.{Program}
use Rattle.px_terms.specs.Descent.{Descends, AllDescend, IsFirstStuck}
use Rattle.px_descent.specs.Largest.{LargestServes}

-- some set of positions serves exactly where the largest one does
abbrev pub LargestDecides : Type 0
LargestDecides = (P : Program) (n : ℕ) (D : definition.Def) → Descends P n D ↔ LargestServes P n D

-- where there is a first self-call that is stuck, not every definition descends
abbrev pub StuckExcludesDescent : Type 0
StuckExcludesDescent = (P : Program) (n call : ℕ) → IsFirstStuck P n call → ¬ AllDescend P

-- there is at most one first self-call that is stuck
abbrev pub OneFirstStuck : Type 0
OneFirstStuck = (P : Program) (n call m other : ℕ) → IsFirstStuck P n call → IsFirstStuck P m other → (n ≡ m) × (call ≡ other)
