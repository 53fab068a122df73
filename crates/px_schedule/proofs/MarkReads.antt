-- A mark is read, where what is wanted is one, and the spaces before what is wanted.
use Rattle.std.proofs.Common.{◌≡◌, ◌≢◌, ℕ, false, List, ◌∷◌, reverse, Result, Ok, Err, IfOk, IfErr, refl, sym, subst}
use Rattle.px_base.specs.Lawful.{IsLawful}
use Rattle.px_terms.specs.declared.program.Program.{Program}
use Rattle.px_machine.specs.declared.cells.Cell.{Cell}
use Rattle.px_schedule.specs.declared.rest.Rest.{Rest}
use Rattle.px_schedule.specs.declared.runs.Class.TheVariants as classes
use Rattle.px_schedule.specs.declared.wanted.Wanted.{Wanted}
use Rattle.px_schedule.specs.declared.wanted.Wanted.TheVariants as wanted
use Rattle.px_schedule.specs.declared.reading.Reading.{Reading}
use Rattle.px_schedule.specs.declared.value_end.ValueEnd.{ValueEnd}
use Rattle.px_schedule.specs.Runs.{left, begins, IsRun}
use Rattle.px_schedule.specs.Wanting.{AreWants, IsRoom, IsStep, IsStuck, EndsStuck}
use Rattle.px_schedule.proofs.Spellings.{is_space}
use Rattle.px_schedule.proofs.Turning.{mark_step, mark_stuck, step_spaced, stuck_spaced}

pub mark_read : (P : Program) (w : Wanted) (c : ℕ) → w ≡ wanted.Mark c → (before : Reading) (text rest : List ℕ) → begins is_space text ≡ false → text ≡ c ∷ rest → AreWants (w ∷ reverse before.wanted) → IsRoom before.left before.cells (w ∷ reverse before.wanted) → IsStep P w before text before rest
mark_read P w c is before text rest ends whole are room =
    subst (λ (x : Wanted). IsStep P x before text before rest) (sym is)
    (mark_step P c before before text rest ends whole (subst (λ (x : Wanted). AreWants (x ∷ reverse before.wanted)) is are) (subst (λ (x : Wanted). IsRoom before.left before.cells (x ∷ reverse before.wanted)) is room) refl)

pub mark_refused : (P : Program) (w : Wanted) (c : ℕ) → w ≡ wanted.Mark c → (ws : List Wanted) (text : List ℕ) (cells : List Cell) → begins is_space text ≡ false → ((rest : List ℕ) → text ≢ c ∷ rest) → IsStuck P (w ∷ ws) text cells
mark_refused P w c is ws text cells ends none =
    subst (λ (x : Wanted). IsStuck P (x ∷ ws) text cells) (sym is) (mark_stuck P c ws text cells ends none)

-- a step behind spaces is one
pub read_spaced : (P : Program) → IsLawful P.names → (w : Wanted) (before later : Reading) → AreWants (w ∷ reverse before.wanted) → (text spaces back : List ℕ) → IsRun classes.Space text spaces back → (r : Result Rest ValueEnd) → IfOk r (λ rest. IsStep P w before back later (left rest)) → IfOk r (λ rest. IsStep P w before text later (left rest))
read_spaced P lawful w before later are text spaces back run (Ok rest) step = step_spaced P lawful w before later are text spaces back (left rest) run.whole run.each run.ends step
read_spaced P lawful w before later are text spaces back run (Err end) step = tt

-- a refusal behind spaces is one
pub refused_spaced : (P : Program) → IsLawful P.names → (ws : List Wanted) → AreWants ws → (text spaces back : List ℕ) → IsRun classes.Space text spaces back → (cells : List Cell) (r : Result Rest ValueEnd) → IfErr r (EndsStuck P ws back cells) → IfErr r (EndsStuck P ws text cells)
refused_spaced P lawful ws are text spaces back run cells (Ok rest) stuck = tt
refused_spaced P lawful ws are text spaces back run cells (Err end) stuck = stuck_spaced P lawful ws are text spaces back run.whole run.each run.ends cells end stuck
