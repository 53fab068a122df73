-- What a line that is fed, and the end, make of the lines that a replay stands for.
use Rattle.std.proofs.Common.{◌≡◌, ◌-◌, ◌<◌, ◌≤◌, reverse, All, ◌+◌, ◌^◌, ℕ, List, [], ◌∷◌, ◌++◌, length, Option, Some, None, Err, refl, sym, ap, subst, ◌∙◌, arith, length-append}
use Rattle.px_terms.specs.declared.program.Program.{Program}
use Rattle.px_terms.specs.declared.sequent.Sequent.{Sequent}
use Rattle.px_terms.specs.declared.row.Row.{Row}
use Rattle.px_terms.specs.declared.row.Row.TheVariants as row
use Rattle.px_terms.specs.Rows.{Opens}
use Rattle.px_derive.specs.Laws.{OneRow}
use Rattle.px_descent.specs.Checked.{IsChecked}
use Rattle.px_replay.specs.declared.ends.Why.{Why}
use Rattle.px_replay.specs.declared.ends.Why.TheVariants as why
use Rattle.px_replay.specs.declared.ends.LineRefusal.{LineRefusal}
use Rattle.px_replay.specs.declared.ends.LineRefusal.TheVariants as refusals
use Rattle.px_replay.specs.declared.ends.FeedEnd.{FeedEnd}
use Rattle.px_replay.specs.declared.ends.FeedEnd.TheVariants as ends
use Rattle.px_replay.specs.States.{State, start, stays, Moves, MovesFrom, LineMoves, Lead, IsPartial, IsDerivationText, EndIsDerivation, at_end}
use Rattle.px_replay.specs.Refusals.{IsDue, IsDueFrom, Fails, FailsAfter}
use Rattle.px_replay.specs.Ends.{refusal_at}
use Rattle.px_replay.specs.Standings.{Standing, StandsFor, Fed}
use Rattle.px_replay.specs.declared.open_sequents.Open.{Open}
use Rattle.px_replay.specs.declared.open_sequents.Progress.{Progress}
use Rattle.px_replay.specs.Keeping.{IsKept}
use Rattle.px_replay.specs.Replaying.{IsRightlyMarked, IsSound, LineRefused, sequents_of, state_of}
use Rattle.std.proofs.lemmas.List.Elements.{All-nil}
use Rattle.std.proofs.lemmas.List.{length-reverse, length-map}
use Rattle.px_replay.specs.Laws.{OneState}
use Rattle.px_replay.proofs.Leading.{lead_last, last_move}
use Rattle.px_replay.proofs.Openings.{needs}
use Rattle.px_replay.proofs.LineLemmas.{obligation_within}

-- the replay stands for the lines with this one
pub stands_longer : (old new : Standing) (lines : List (List ℕ)) (line : List ℕ) → StandsFor old lines → new.program ≡ old.program → LineMoves old.program old.state line new.state → new.fed ≡ old.fed + 1 → new.refusal ≡ None → StandsFor new (lines ++ line ∷ [])
stands_longer old new lines line stands program moves fed none = record {
  leads = subst (λ (P : Program). Lead P start (lines ++ line ∷ []) new.state) (sym program) (lead_last old.program start lines old.state line new.state stands.leads moves);
  count = fed ∙ (ap (λ (k : ℕ). k + 1) stands.count ∙ sym (length-append lines (line ∷ [])));
  none = none;
}

-- a row that moves on may stand next
moves_due : (P : Program) (next : ℕ) (stack : List Sequent) (r : Row) (new : State) → MovesFrom P next stack r new → IsDueFrom P next stack r
moves_due P next [] r new begins = record { there = obligation_within P next begins.own begins.obligation; on = begins.on; header = begins.header }
moves_due P next (s ∷ below) r new opened = λ n on is. needs P (next - 1) s (row.Header n on) opened.children (subst (λ (q : Row). Opens P (next - 1) s q opened.children) is opened.opens)

-- a line that fails moves nowhere
pub fails_move : OneRow → (P : Program) → IsChecked P → (state : State) (line : List ℕ) (w : Why) (new : State) → Fails P state line w → LineMoves P state line new → ⊥
fails_move one_row P checked state line why.Form new fails moves = fails moves.row moves.spellable moves.spelled
fails_move one_row P checked state line why.Order new fails moves =
    let rows : moves.row ≡ fails.row = one_row P.names moves.row fails.row checked.lawful moves.spellable fails.spellable (sym moves.spelled ∙ fails.spelled) in
    fails.order (subst (λ (r : Row). IsDue P state r) rows (moves_due P state.next state.stack moves.row new moves.moves))
fails_move one_row P checked state line why.Rule new fails moves =
    let rows : moves.row ≡ fails.row = one_row P.names moves.row fails.row checked.lawful moves.spellable fails.spellable (sym moves.spelled ∙ fails.spelled) in
    fails.rule new (subst (λ (r : Row). Moves P state r new) rows moves.moves)
fails_move one_row P checked state line why.End new fails moves = fails

-- lines that end with one that fails begin no derivation
no_partial : OneRow → OneState → (P : Program) → IsChecked P → (lines : List (List ℕ)) (line : List ℕ) (state : State) (w : Why) → Lead P start lines state → Fails P state line w → ¬ IsPartial P (lines ++ line ∷ [])
no_partial one_row one_state P checked lines line state w leads fails partial =
    let last = last_move P start partial.state lines line partial.leads in
    let one : last.now ≡ state = one_state P checked lines start last.now state last.leads leads in
    fails_move one_row P checked state line w partial.state fails (subst (λ (s : State). LineMoves P s line partial.state) one last.moves)

-- a line was refused behind the lines that the replay stands for
pub fed_refused : OneRow → OneState → (old new : Standing) (lines : List (List ℕ)) (line : List ℕ) (refusal : LineRefusal) → IsChecked old.program → StandsFor old lines → new.program ≡ old.program → LineRefused old.program old.state line refusal →
    Fed lines line new (Err (refusal_at (old.fed + 1) refusal))
fed_refused one_row one_state old new lines line (refusals.Wrong w) checked stands program refused = (
  ap (λ (k : ℕ). k + 1) stands.count,
  subst (λ (P : Program). FailsAfter P lines line w) (sym program) (record { state = old.state; leads = stands.leads; fails = refused }),
  subst (λ (P : Program). ¬ IsPartial P (lines ++ line ∷ [])) (sym program) (no_partial one_row one_state old.program checked lines line old.state w stands.leads refused),
)
fed_refused one_row one_state old new lines line refusals.NoMemory checked stands program refused = tt

-- where the state is not the end, the lines are no derivation
pub not_finished : OneState → ((P : Program) (lines : List (List ℕ)) → EndIsDerivation P lines) → (P : Program) → IsChecked P → (lines : List (List ℕ)) (state : State) → Lead P start lines state → (state ≡ at_end P → ⊥) → ¬ IsDerivationText P lines
not_finished one_state ends P checked lines state leads not text = not (one_state P checked lines start state (at_end P) leads ((ends P lines).end text))

-- where it is, they are one
pub is_finished : ((P : Program) (lines : List (List ℕ)) → EndIsDerivation P lines) → (P : Program) (lines : List (List ℕ)) (state : State) → Lead P start lines state → state ≡ at_end P → IsDerivationText P lines
is_finished ends P lines state leads is = (ends P lines).derivation (subst (λ (s : State). Lead P start lines s) is leads)

-- what a replay keeps, at first
pub kept_first : (P : Program) (progress : Progress) (fed : ℕ) → progress.next ≡ 0 → progress.stack ≡ [] → fed ≡ 0 → IsKept P progress fed None
kept_first P progress fed next stack none =
    let first : state_of progress ≡ start = ap (λ (n : ℕ). record { next = n; stack = sequents_of progress.stack }) next ∙ ap (λ (os : List Open). record { next = 0; stack = sequents_of os }) stack in
    record {
      few = (let e : fed ≡ 0 = none in omega (arith, e));
      sound = λ same. record { marked = subst (All IsRightlyMarked) (sym stack) (All-nil IsRightlyMarked); within = (let e : progress.next ≡ 0 = next in omega (arith, e)); begun = λ zero. stack };
      reached = λ same. record { lines = []; leads = subst (λ (s : State). Lead P start [] s) (sym first) stays; count = none };
    }

-- a replay that was fed nothing stands for no lines
pub stands_first : (P : Program) (stack : List Open) → stack ≡ [] → StandsFor (record { program = P; state = state_of (record { next = 0; stack = stack }); fed = 0; refusal = None }) []
stands_first P stack none = record {
  leads = subst (λ (os : List Open). Lead P start [] (state_of (record { next = 0; stack = os }))) (sym none) stays;
  count = refl;
  none = refl;
}

-- what it keeps after a line
pub kept_longer : (P : Program) (old new : Progress) (fed longer : ℕ) (line : List ℕ) → IsKept P old fed None → fed < 2 ^ 63 → longer ≡ fed + 1 → LineMoves P (state_of old) line (state_of new) → IsSound P new → IsKept P new longer None
kept_longer P old new fed longer line kept few is moves sound =
    let before = kept.reached refl in
    record {
      few = (let e : longer ≡ fed + 1 = is in omega (arith, e, few));
      sound = λ same. sound;
      reached = λ same. record { lines = before.lines ++ line ∷ []; leads = lead_last P start before.lines (state_of old) line (state_of new) before.leads moves; count = is ∙ (ap (λ (k : ℕ). k + 1) before.count ∙ sym (length-append before.lines (line ∷ []))) };
    }

-- what it keeps after a refusal
pub kept_refused : (P : Program) (new : Progress) (fed : ℕ) (end : FeedEnd) → fed ≤ 2 ^ 63 → IsKept P new fed (Some end)
kept_refused P new fed end few = record {
  few = few;
  sound = λ none. (let e : Some end ≡ None = none in cc);
  reached = λ none. (let e : Some end ≡ None = none in cc);
}

-- where every obligation was begun and nothing is open, the state is the end
pub ended : (P : Program) (progress : Progress) → progress.next ≡ length P.declared → progress.stack ≡ [] → state_of progress ≡ at_end P
ended P progress next stack = ap (λ (n : ℕ). record { next = n; stack = sequents_of progress.stack }) next ∙ ap (λ (os : List Open). record { next = length P.declared; stack = sequents_of os }) stack

length-map-reverse : (stack : List Open) → length (sequents_of stack) ≡ length stack
length-map-reverse stack = length-map (reverse stack) (λ (o : Open). o.sequent) ∙ length-reverse stack

-- a stack whose sequents are none is empty
pub none_open : (stack : List Open) → sequents_of stack ≡ [] → stack ≡ []
none_open stack none = let lengths : length stack ≡ 0 = sym (length-map-reverse stack) ∙ ap (λ (ss : List Sequent). length ss) none in by_length stack lengths
  where
    by_length : (os : List Open) → length os ≡ 0 → os ≡ []
    by_length [] e = refl
    by_length (o ∷ os) e = absurd (omega (arith, e))

-- what a replay is for who looks from outside
abbrev pub seen : Program → Progress → ℕ → Option FeedEnd → Standing
seen P progress fed refusal = record { program = P; state = state_of progress; fed = fed; refusal = refusal }

-- after a line that moves on, the replay stands for one line more
pub line_fed : (P : Program) (old new : Progress) (fed : ℕ) (refusal : Option FeedEnd) (line : List ℕ) (before : Standing) → seen P old fed refusal ≡ before → refusal ≡ None → LineMoves P (state_of old) line (state_of new) →
    (lines : List (List ℕ)) → StandsFor before lines → StandsFor (seen P new (fed + 1) refusal) (lines ++ line ∷ [])
line_fed P old new fed refusal line before is none moves lines stands =
    stands_longer (seen P old fed refusal) (seen P new (fed + 1) refusal) lines line (subst (λ (r : Standing). StandsFor r lines) (sym is) stands) refl moves refl none

-- what it keeps then
pub kept_fed : (P : Program) (old new : Progress) (fed : ℕ) (refusal : Option FeedEnd) (line : List ℕ) (before : Standing) → seen P old fed refusal ≡ before → refusal ≡ None → IsKept P old fed refusal → before.fed < 2 ^ 63 →
    LineMoves P (state_of old) line (state_of new) → IsSound P new → IsKept P new (fed + 1) refusal
kept_fed P old new fed refusal line before is none kept few moves sound =
    subst (IsKept P new (fed + 1)) (sym none)
    (kept_longer P old new fed (fed + 1) line (subst (IsKept P old fed) none kept) (subst (λ (r : Standing). r.fed < 2 ^ 63) (sym is) few) refl moves sound)

-- after a line that was refused, the refusal says so
pub line_refused : OneRow → OneState → (P : Program) → IsChecked P → (old : Progress) (fed : ℕ) (refusal : Option FeedEnd) (line : List ℕ) (before new : Standing) (found : LineRefusal) (end : FeedEnd) → seen P old fed refusal ≡ before → new.program ≡ P →
    LineRefused P (state_of old) line found → end ≡ refusal_at (fed + 1) found → (lines : List (List ℕ)) → StandsFor before lines → Fed lines line new (Err end)
line_refused one_row one_state P checked old fed refusal line before new found end is same refused said lines stands =
    subst (λ (e : FeedEnd). Fed lines line new (Err e)) (sym said)
    (fed_refused one_row one_state (seen P old fed refusal) new lines line found checked (subst (λ (r : Standing). StandsFor r lines) (sym is) stands) same refused)
