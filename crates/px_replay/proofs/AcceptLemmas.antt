-- What is true where a replay accepts, and what is missing where it does not.
use Rattle.std.proofs.Common.{◌≡◌, ◌+◌, ℕ, List, [], length, Option, None, refl, sym, ap, subst}
use Rattle.px_terms.specs.declared.program.Program.{Program}
use Rattle.px_terms.specs.Obligations.{AllHoldInExtensions}
use Rattle.px_soundness.specs.Laws.{DerivationsAreSound}
use Rattle.px_descent.specs.Checked.{IsChecked}
use Rattle.px_replay.specs.declared.ends.FeedEnd.{FeedEnd}
use Rattle.px_replay.specs.declared.ends.Why.TheVariants as why
use Rattle.px_replay.specs.declared.open_sequents.Progress.{Progress}
use Rattle.px_replay.specs.States.{State, IsDerivationText, at_end}
use Rattle.px_replay.specs.Replaying.{state_of}
use Rattle.px_replay.specs.Keeping.{IsKept}
use Rattle.px_replay.specs.Laws.{OneState, EndsAreDerivations}
use Rattle.px_replay.specs.Standings.{Standing, StandsFor}
use Rattle.px_replay.proofs.FeedLemmas.{seen, is_finished, not_finished, ended, none_open}

-- where all obligations were begun and nothing is open, each of them holds
holds : EndsAreDerivations → DerivationsAreSound → (P : Program) → IsChecked P → (progress : Progress) (fed : ℕ) (refusal : Option FeedEnd) → IsKept P progress fed refusal → refusal ≡ None → progress.next ≡ length P.declared → progress.stack ≡ [] → AllHoldInExtensions P
holds ends sound P checked progress fed refusal kept none next stack =
    let reached = kept.reached none in
    let text = is_finished ends P reached.lines (state_of progress) reached.leads (ended P progress next stack) in
    sound P (record { typed = checked.typed; descends = checked.descends }) text.trees text.derivation

-- the same of the replay as it is seen
pub accepted_holds : EndsAreDerivations → DerivationsAreSound → (P : Program) → IsChecked P → (progress : Progress) (fed : ℕ) (refusal : Option FeedEnd) (whole : Standing) → seen P progress fed refusal ≡ whole → IsKept P progress fed refusal → refusal ≡ None →
    (progress.next ≡ length P.declared) × (progress.stack ≡ []) → AllHoldInExtensions whole.program
accepted_holds ends sound P checked progress fed refusal whole is kept none all = subst (λ (r : Standing). AllHoldInExtensions r.program) is (holds ends sound P checked progress fed refusal kept none all.0 all.1)

-- then the lines are a whole derivation, of as many obligations as there are
pub accepted : EndsAreDerivations → (P : Program) (progress : Progress) (fed : ℕ) (refusal : Option FeedEnd) (whole : Standing) (count : ℕ) → seen P progress fed refusal ≡ whole → (progress.next ≡ length P.declared) × (progress.stack ≡ []) → count ≡ length P.declared →
    (lines : List (List ℕ)) → StandsFor whole lines → IsDerivationText whole.program lines × (count ≡ length whole.program.declared)
accepted ends P progress fed refusal whole count is all counted lines stands =
    let here : StandsFor (seen P progress fed refusal) lines = subst (λ (r : Standing). StandsFor r lines) (sym is) stands in (
      subst (λ (r : Standing). IsDerivationText r.program lines) is (is_finished ends P lines (state_of progress) here.leads (ended P progress all.0 all.1)),
      subst (λ (r : Standing). count ≡ length r.program.declared) is counted,
    )

-- and else they are none, and the line after them is missing
pub not_accepted : OneState → EndsAreDerivations → (P : Program) → IsChecked P → (progress : Progress) (fed : ℕ) (refusal : Option FeedEnd) (whole : Standing) → seen P progress fed refusal ≡ whole → ((progress.next ≡ length P.declared) × (progress.stack ≡ []) → ⊥) →
    (lines : List (List ℕ)) → StandsFor whole lines → (fed + 1 ≡ length lines + 1) × (why.End ≡ why.End) × ¬ IsDerivationText whole.program lines
not_accepted one_state ends P checked progress fed refusal whole is unfinished lines stands =
    let here : StandsFor (seen P progress fed refusal) lines = subst (λ (r : Standing). StandsFor r lines) (sym is) stands in
    let other : state_of progress ≡ at_end P → ⊥ = λ same. unfinished (ap (λ (s : State). s.next) same, none_open progress.stack (ap (λ (s : State). s.stack) same)) in (
      ap (λ (k : ℕ). k + 1) here.count,
      refl,
      subst (λ (r : Standing). ¬ IsDerivationText r.program lines) is (not_finished one_state ends P checked lines (state_of progress) here.leads other),
    )
