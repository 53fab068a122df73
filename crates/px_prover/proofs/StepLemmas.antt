-- Steps that lead from one term to another are joined, and those of a child are steps of the term.
use Rattle.std.proofs.Common.{◌≡◌, ℕ, List, [], ◌∷◌, ◌++◌, Some, slice_get}
use Rattle.px_terms.specs.declared.term.Term.{Term}
use Rattle.px_terms.specs.Terms.{children, with_child}
use Rattle.px_prover.specs.declared.deeds.Setting.{Setting}
use Rattle.px_prover.specs.Rooms.{Room, room_in}
use Rattle.px_prover.specs.Moves.{Move}
use Rattle.px_prover.specs.Normalising.{moves_below}
use Rattle.px_prover.specs.Turning.{StepsLead, no_step, steps_on}
use Rattle.px_prover.proofs.ChildMoves.{child_move}

-- steps one after the other
pub steps_joined : {setting : Setting} {room : Room} {t u v : Term} {moves more : List Move} → StepsLead setting room t moves u → StepsLead setting room u more v → StepsLead setting room t (moves ++ more) v
steps_joined no_step rest = rest
steps_joined (steps_on move lead) rest = steps_on move (steps_joined lead rest)

-- what a child becomes, the term does
pub steps_below : (setting : Setting) (room : Room) (t old : Term) (i : ℕ) → slice_get (children t) i ≡ Some old → {c u : Term} {moves : List Move} → StepsLead setting (room_in room t i) c moves u →
    StepsLead setting room (with_child t i c) (moves_below i moves) (with_child t i u)
steps_below setting room t old i found no_step = no_step
steps_below setting room t old i found (steps_on move lead) =
    steps_on (λ all keeps. child_move setting.program.now all room t old i found (move all keeps)) (steps_below setting room t old i found lead)
