-- What the check of descent answers.
use Rattle.std.specs.Prelude.{◌≡◌, ◌↔◌, ℕ, ◌-◌, ◌^◌, ◌<◌, min, Bool, false, IsTrue, List, length, get_or}
use Rattle.px_terms.specs.declared.program.Def as definition
use Rattle.px_terms.specs.declared.program.Program.{Program}
use Rattle.px_terms.specs.Descent.{IsKept, IsStuck, IsFirstStuck}
use Rattle.px_descent.specs.declared.end.NoDescent.{NoDescent}

-- of the definition's first positions it is told whether each self-call keeps them
pub record TellsKept (P : Program) (n : ℕ) (D : definition.Def) (kept : List Bool) : Type 0 where
  pub tells : (i : ℕ) → i < length kept → IsTrue (get_or kept i false) ↔ IsKept P n D i

-- The end names definition n, which does not descend, and its first self-call that lowers no position of the largest set.
pub record NamesFirstIn (P : Program) (n : ℕ) (D : definition.Def) (end : NoDescent) : Type 0 where
  pub call : ℕ
  pub stuck : IsStuck P n D call
  pub earlier : (c : ℕ) → c < call → ¬ IsStuck P n D c
  pub def : end.def ≡ n
  pub number : end.call ≡ min call (2 ^ 32 - 1)

-- The end names the first definition that does not descend, and its first self-call that lowers no position of the largest
-- set, by its number or by 2^32 - 1 where that is greater.
pub record NamesFirst (P : Program) (end : NoDescent) : Type 0 where
  pub call : ℕ
  pub first : IsFirstStuck P end.def call
  pub number : end.call ≡ min call (2 ^ 32 - 1)
