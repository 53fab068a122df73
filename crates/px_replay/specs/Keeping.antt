-- What a replay keeps of itself from call to call.
use Rattle.std.specs.Prelude.{◌≡◌, ℕ, ◌≤◌, ◌^◌, List, length, Option, None}
use Rattle.px_terms.specs.declared.program.Program.{Program}
use Rattle.px_replay.specs.declared.ends.FeedEnd.{FeedEnd}
use Rattle.px_replay.specs.declared.open_sequents.Progress.{Progress}
use Rattle.px_replay.specs.States.{State, start, Lead}
use Rattle.px_replay.specs.Replaying.{IsSound, state_of}

-- The state was reached by so many lines.
pub record IsReached (P : Program) (state : State) (fed : ℕ) : Type 0 where
  pub lines : List (List ℕ)
  pub leads : Lead P start lines state
  pub count : fed ≡ length lines

-- Few lines were fed; and where none was refused, what is open can be relied on, and some lines led to it.
pub record IsKept (P : Program) (progress : Progress) (fed : ℕ) (refusal : Option FeedEnd) : Type 0 where
  pub few : fed ≤ 2 ^ 63
  pub sound : refusal ≡ None → IsSound P progress
  pub reached : refusal ≡ None → IsReached P (state_of progress) fed
