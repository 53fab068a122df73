-- What a replay stands for, and what its calls answer.
use Rattle.std.specs.Prelude.{◌≡◌, refl, ℕ, ◌+◌, List, [], ◌∷◌, ◌++◌, length, Option, Some, None, Result, Ok, Err}
use Rattle.std.specs.Coded.{Coded, code_by, coded×, coded_list, coded_option, coded_ℕ}
use Rattle.px_terms.specs.declared.program.Program.{Program}
use Rattle.px_terms.specs.contracts.program.Program as programs
use Rattle.px_terms.specs.contracts.sequent.Sequent as sequents
use Rattle.px_terms.specs.declared.sequent.Sequent.{Sequent}
use Rattle.px_replay.specs.declared.ends.Why.TheVariants as why
use Rattle.px_replay.specs.declared.ends.FeedEnd.{FeedEnd}
use Rattle.px_replay.specs.declared.ends.FeedEnd.TheVariants as ends
use Rattle.px_replay.specs.contracts.ends.FeedEnd as feed_ends
use Rattle.px_replay.specs.declared.ends.Accepted.{Accepted}
use Rattle.px_replay.specs.States.{State, start, Lead, IsPartial, IsDerivationText}
use Rattle.px_replay.specs.Refusals.{FailsAfter}

-- What a replay is: its program, its state, how many lines it was fed, and the refusal that it repeats.
pub record Standing : Type 0 where
  pub program : Program
  pub state : State
  pub fed : ℕ
  pub refusal : Option FeedEnd

-- a state is stored as the pair of its fields
abbrev pub state_code : Coded State
state_code = code_by (ℕ × List Sequent) (coded× coded_ℕ (coded_list sequents.the_row.coded)) (λ s. (s.next, s.stack))
    (λ p. record { next = p.0; stack = p.1 }) (λ _. refl)

-- a standing is stored as the tuple of its fields
abbrev pub standing_code : Coded Standing
standing_code =
    code_by (Program × (State × (ℕ × Option FeedEnd))) (coded× programs.the_row.coded (coded× state_code (coded× coded_ℕ (coded_option feed_ends.the_row.coded))))
    (λ s. (s.program, (s.state, (s.fed, s.refusal)))) (λ p. record { program = p.0; state = p.1.0; fed = p.1.1.0; refusal = p.1.1.1 }) (λ _. refl)

-- The replay stands for these lines: they lead to its state, it was fed so many, and it has refused none.
pub record StandsFor (r : Standing) (lines : List (List ℕ)) : Type 0 where
  pub leads : Lead r.program start lines r.state
  pub count : r.fed ≡ length lines
  pub none : r.refusal ≡ None

-- after these lines one more was fed: the replay stands for all of them, or the line has its number, is refused for its first
-- reason, and with it they are no partial derivation
abbrev pub Fed : List (List ℕ) → List ℕ → Standing → Result (Unit {0}) FeedEnd → Type 0
Fed lines line new (Ok _) = StandsFor new (lines ++ line ∷ [])
Fed lines line new (Err (ends.Rejected n w)) = (n ≡ length lines + 1) × FailsAfter new.program lines line w × ¬ IsPartial new.program (lines ++ line ∷ [])
Fed lines line new (Err ends.NoMemory) = Unit {0}

-- a refusal is kept: what was refused before is refused so again, and nothing changes
abbrev pub StaysRefused : Standing → Standing → Result (Unit {0}) FeedEnd → Type 0
StaysRefused old new (Ok _) = (old.refusal ≡ None) × (new.refusal ≡ None)
StaysRefused old new (Err end) = (new.refusal ≡ Some end) × ((kept : FeedEnd) → old.refusal ≡ Some kept → (end ≡ kept) × (new ≡ old))

-- at the end of these lines: they are a whole derivation, of so many obligations, or the line after them is missing
abbrev pub Finished : Program → List (List ℕ) → Result Accepted FeedEnd → Type 0
Finished P lines (Ok accepted) = IsDerivationText P lines × (accepted.obligations ≡ length P.declared)
Finished P lines (Err (ends.Rejected n w)) = (n ≡ length lines + 1) × (w ≡ why.End) × ¬ IsDerivationText P lines
Finished P lines (Err ends.NoMemory) = ⊥
