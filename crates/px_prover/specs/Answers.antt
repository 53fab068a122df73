-- What the search answers.
use Rattle.std.specs.Prelude.{ℕ, ◌<◌, length}
use Rattle.px_terms.specs.declared.program.Program.{Program}
use Rattle.px_terms.specs.declared.row.Tree.{Tree}
use Rattle.px_terms.specs.Derivations.{DerivesObligation}
use Rattle.px_prover.specs.declared.ends.ProveEnd.{ProveEnd}
use Rattle.px_prover.specs.declared.ends.ProveEnd.TheVariants.{Unproved, NoMemory}
use Rattle.px_prover.specs.Plain.{Plain}

-- A tree derives the obligation.
pub record HasTree (P : Program) (n : ℕ) : Type 0 where
  pub tree : Tree
  pub derives : DerivesObligation P n tree

-- Obligation n is not plain, and each obligation before it has a derivation.
pub record IsUnproved (P : Program) (splits steps n : ℕ) : Type 0 where
  pub within : n < length P.declared
  pub not_plain : ¬ Plain P n splits steps
  pub before : (i : ℕ) → i < n → HasTree P i

-- why the search with so many splits and steps ends: the first obligation that it does not find is not plain; want of memory is free
abbrev pub TellsUnproved : Program → ℕ → ℕ → ProveEnd → Type 0
TellsUnproved P splits steps (Unproved n) = IsUnproved P splits steps n
TellsUnproved P splits steps NoMemory = Unit {0}
