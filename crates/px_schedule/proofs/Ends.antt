-- Refusals: what is passed on, and what they say of the text.
use Rattle.std.proofs.Common.{◌≡◌, ℕ, List, Result, Ok, Err, IsErr, IsErrAnd, IfErr, refl}
use Rattle.px_terms.specs.declared.program.Program.{Program}
use Rattle.px_machine.specs.declared.cells.Cell.{Cell}
use Rattle.px_schedule.specs.declared.wanted.Wanted.{Wanted}
use Rattle.px_schedule.specs.declared.value_end.ValueEnd.{ValueEnd}
use Rattle.px_schedule.specs.declared.value_end.ValueEnd.TheVariants.{Fault, NoMemory}
use Rattle.px_schedule.specs.Wanting.{IsStuck, EndsStuck}

-- an end that is passed on
pub passed : {X E : Type 0} (r : Result X E) (P Q : E → Type 0) → IsErr r × IsErrAnd r P → ((e : E) → P e → Q e) → IfErr r Q
passed (Ok x) P Q told onward = tt
passed (Err e) P Q told onward = onward e told.1

-- a fault is stuck, if it is one
pub ends_stuck : (P : Program) (ws : List Wanted) (text : List ℕ) (cells : List Cell) (end : ValueEnd) → (end ≡ Fault → IsStuck P ws text cells) → EndsStuck P ws text cells end
ends_stuck P ws text cells Fault stuck = stuck refl
ends_stuck P ws text cells NoMemory stuck = tt
