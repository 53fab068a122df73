-- What is said of replays.
use Rattle.std.specs.Prelude.{◌≡◌, ℕ, List, ◌++◌, ◌↔◌}
use Rattle.px_terms.specs.declared.program.Program.{Program}
use Rattle.px_descent.specs.Checked.{IsChecked}
use Rattle.px_replay.specs.States.{State, Lead, IsPartial, EndIsDerivation}
use Rattle.px_replay.specs.Beginnings.{BeginDerivation}

-- of a checked program, lines lead to at most one state
abbrev pub OneState : Type 0
OneState = (P : Program) → IsChecked P → (lines : List (List ℕ)) (old a b : State) → Lead P old lines a → Lead P old lines b → a ≡ b

-- lines lead to the end exactly where they are those of a derivation's trees
abbrev pub EndsAreDerivations : Type 0
EndsAreDerivations = (P : Program) (lines : List (List ℕ)) → EndIsDerivation P lines

-- what begins a partial derivation's text is one itself
abbrev pub PartialsBegin : Type 0
PartialsBegin = (P : Program) (lines more : List (List ℕ)) → IsPartial P (lines ++ more) → IsPartial P lines

-- lines are a partial derivation exactly where they are those of trees of the first obligations, and then maybe of the first rows of one more
abbrev pub PartialsAreTrees : Type 0
PartialsAreTrees = (P : Program) (lines : List (List ℕ)) → IsPartial P lines ↔ BeginDerivation P lines
