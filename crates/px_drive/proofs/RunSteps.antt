-- The run of a schedule event by event: what stands after so many events, and what is said where one ends the run.
use Rattle.std.proofs.Common.{◌≡◌, ◌<◌, ◌≤◌, ◌+◌, ℕ, ◌⊎◌, List, [], ◌++◌, length, take, Option, Some, Result, Ok, Err, IsErrAnd, slice_get, inl, inr, refl, sym, subst, ◌∙◌, arith, append-nil}
use Rattle.std.proofs.lemmas.Bool.{cases_order}
use Rattle.std.proofs.lemmas.List.{take_all}
use Rattle.std.proofs.Math.Seq.{take-append-add}
use Rattle.std.proofs.KnownBytes.{Appends-trans}
use Rattle.std.specs.Io.KnownBytes.{Appends}
use Rattle.px_terms.specs.declared.program.ReplicaDef.{ReplicaDef}
use Rattle.px_terms.specs.declared.program.Program.{Program}
use Rattle.px_machine.specs.declared.run_end.RunEnd.{RunEnd}
use Rattle.px_machine.specs.declared.run_end.RunEnd.TheVariants as refusals
use Rattle.px_schedule.specs.declared.schedule.Event.{Event}
use Rattle.px_schedule.specs.declared.schedule.Schedule.{Schedule as Recorded}
use Rattle.px_replicas.specs.declared.shown.Shown.{Shown}
use Rattle.px_replicas.specs.Events.{HasState, IsWithin, AreWithin}
use Rattle.px_replicas.specs.Lines.{AreLines, none}
use Rattle.px_replicas.specs.Worlds.{Standing, Runs, Fits, StandsFor, GoesOn}
use Rattle.px_replicas.specs.Laws.{IsOfSchedule, NextFits, LinesGoOn}
use Rattle.px_drive.specs.declared.outcome.End.{End}
use Rattle.px_drive.specs.declared.outcome.End.TheVariants.{Done, Usage, Source, Rejected, Schedule, Spent, ReadFault, WriteFault, NoMemory, TooLong, Arguments}
use Rattle.px_drive.specs.Seen.{SinkSeen}
use Rattle.px_drive.specs.Recordings.{IsCutRun}
use Rattle.px_drive.specs.Printing.{HasPrinted, PrintsShown, line_shown, end_of_event}
use Rattle.px_drive.specs.Ends.{RunsEvents, end_of}

-- no event has no lines
no_lines : (P : Program) (R : ReplicaDef) (events : List Event) → AreLines P R events 0 []
no_lines P R events = record { all = []; shown = none refl refl; whole = refl }

-- before the first event nothing is printed
cut_at_start : (P : Program) (S : Recorded) → IsOfSchedule P S → IsCutRun P S []
cut_at_start P S is = record {
  R = is.replica;
  declared = is.declared;
  place = 0;
  stands = let none : 0 ≤ length S.events = omega arith in none;
  lines = [];
  are_lines = no_lines P is.replica S.events;
  count = 0;
  front = refl;
}

-- as a `?` hands want of memory on there
pub none_at_start : (P : Program) (S : Recorded) (budget : ℕ) (out : SinkSeen) (result : Result (Unit {0}) End) → IsErrAnd result (λ e. e ≡ NoMemory) → IsOfSchedule P S → Appends out.old out.new [] → HasPrinted (RunsEvents P S budget) out (end_of result)
none_at_start P S budget out (Ok done) is of wrote = absurd is
none_at_start P S budget out (Err end) is of wrote = subst (HasPrinted (RunsEvents P S budget) out) (sym is) ([], cut_at_start P S of, wrote)

-- After so many events the world stands for the schedule, each of them was within the budget, and their lines were printed.
pub record Going (P : Program) (S : Recorded) (budget place : ℕ) (w : Standing) (out : SinkSeen) : Type 0 where
  pub is : IsOfSchedule P S
  pub stands : StandsFor P is.replica S.count S.events place w
  pub within : AreWithin P is.replica S.events budget place
  pub text : List ℕ
  pub lines : AreLines P is.replica S.events place text
  pub wrote : Appends out.old out.new text
  pub later : out.before ≤ out.after

-- a new world stands before the first event
pub going_at_start : (P : Program) (S : Recorded) (budget : ℕ) (w : Standing) (out : SinkSeen) (is : IsOfSchedule P S) → StandsFor P is.replica S.count S.events 0 w → Appends out.old out.new [] → out.before ≤ out.after → Going P S budget 0 w out
going_at_start P S budget w out is stands wrote later = record {
  is = is;
  stands = stands;
  within = λ (place : ℕ) (below : place < 0). let wrong : ⊥ = omega (arith, below) in absurd wrong;
  text = [];
  lines = no_lines P is.replica S.events;
  wrote = wrote;
  later = later;
}

-- the next event fits
pub fits_next : NextFits → (P : Program) (S : Recorded) (budget place : ℕ) (w : Standing) (out : SinkSeen) (e : Event) → Going P S budget place w out → slice_get S.events place ≡ Some e → Fits w e
fits_next next P S budget place w out e going at = (next P going.is.replica S.count S.events place w e going.stands going.is.may going.is.room at).0

-- and its value is of the type of the state of the declaration that the world runs
pub value_next : NextFits → (P : Program) (S : Recorded) (budget place : ℕ) (w : Standing) (out : SinkSeen) (e : Event) → Going P S budget place w out → slice_get S.events place ≡ Some e → (R : ReplicaDef) → Runs w w.program R → HasState w.program R e
value_next next P S budget place w out e going at R runs =
    let state : HasState P going.is.replica e = (next P going.is.replica S.count S.events place w e going.stands going.is.may going.is.room at).1 in
    let there : slice_get P.replicas w.declaration ≡ Some going.is.replica = going.stands.runs.declared in
    let program : w.program ≡ P = going.stands.runs.program in
    let here : slice_get P.replicas w.declaration ≡ Some R = subst (λ (Q : Program). slice_get Q.replicas w.declaration ≡ Some R) program runs.declared in
    let both : Some going.is.replica ≡ Some R = sym there ∙ here in
    let same : going.is.replica ≡ R = cc in
    subst (λ (Q : Program). HasState Q R e) (sym program) (subst (λ (T : ReplicaDef). HasState P T e) same state)

-- one event more within the budget
more_within : (P : Program) (R : ReplicaDef) (events : List Event) (budget place : ℕ) → AreWithin P R events budget place → IsWithin P R events budget place → AreWithin P R events budget (place + 1)
more_within P R events budget place within this other below = by_place (cases_order other place)
  where
    by_place : (other ≡ place) ⊎ ((other < place) ⊎ (place < other)) → IsWithin P R events budget other
    by_place (inl is) = subst (λ (n : ℕ). IsWithin P R events budget n) (sym is) this
    by_place (inr (inl less)) = within other less
    by_place (inr (inr above)) = let wrong : ⊥ = omega (arith, below, above) in absurd wrong

module _ (go_on : LinesGoOn) (P : Program) (S : Recorded) (budget place : ℕ) (w : Standing) (old : Option (List ℕ)) (before : ℕ) (now : Option (List ℕ)) (seen : ℕ) (going : Going P S budget place w (record { old = old; new = now; before = before; after = seen })) where
  -- the declaration
  abbrev pub R : ReplicaDef
  R = going.is.replica

  -- where the event happens and its line is printed, the run goes on
  pub goes_next : (new : Standing) (answer : Option Shown) (later : Option (List ℕ)) (count : ℕ) → GoesOn P R S.count S.events place budget new (Ok answer) → Appends now later (line_shown P.names answer) → seen ≤ count
      → Going P S budget (place + 1) new (record { old = old; new = later; before = before; after = count })
  goes_next new answer later count (stands, this, is) wrote rises = record {
    is = going.is;
    stands = stands;
    within = more_within P R S.events budget place going.within this;
    text = going.text ++ line_shown P.names answer;
    lines = go_on P R S.events place going.text answer going.lines is;
    wrote = Appends-trans old now later going.text (line_shown P.names answer) going.wrote wrote;
    later = let first : before ≤ seen = going.later in omega (arith, first, rises);
  }

  -- the lines so far are a front of themselves
  cut_here : place ≤ length S.events → IsCutRun P S going.text
  cut_here within = record {
    R = R;
    declared = going.is.declared;
    place = place;
    stands = within;
    lines = going.text;
    are_lines = going.lines;
    count = length going.text;
    front = sym (take_all (length going.text) going.text (let all : length going.text ≤ length going.text = omega arith in all));
  }

  -- where the event is refused, the budget is spent or no memory is left
  pub refused_here : (new : Standing) (refusal : RunEnd) (end : End) → place < length S.events → GoesOn P R S.count S.events place budget new (Err refusal) → end ≡ end_of_event place refusal
      → HasPrinted (RunsEvents P S budget) (record { old = old; new = now; before = before; after = seen }) end
  refused_here new refusals.Spent end there above is = subst (HasPrinted (RunsEvents P S budget) (record { old = old; new = now; before = before; after = seen })) (sym is) (
    going.text,
    record {
      R = R;
      declared = going.is.declared;
      place = place;
      counted = refl;
      stands = there;
      first = record { before = going.within; above = above };
      lines = going.lines;
    },
    going.wrote,
  )
  refused_here new refusals.NoMemory end there above is = subst (HasPrinted (RunsEvents P S budget) (record { old = old; new = now; before = before; after = seen })) (sym is)
      (going.text, cut_here (omega (arith, there)), going.wrote)

  -- where its line is not printed whole, a front of the lines with it stands
  unprinted : (new : Standing) (answer : Option Shown) (later : Option (List ℕ)) (count : ℕ) (end : End) → place < length S.events → GoesOn P R S.count S.events place budget new (Ok answer)
      → PrintsShown (line_shown P.names answer) (record { old = now; new = later; before = seen; after = count }) (Err end) → HasPrinted (RunsEvents P S budget) (record { old = old; new = later; before = before; after = count }) end
  unprinted new answer later count WriteFault there (stands, this, is) ((n, fits, front), rose) = (
    going.text ++ take n (line_shown P.names answer),
    (
      let first : before ≤ seen = going.later in omega (arith, first, rose),
      record {
        R = R;
        declared = going.is.declared;
        place = place + 1;
        stands = let next : place + 1 ≤ length S.events = omega (arith, there) in next;
        lines = going.text ++ line_shown P.names answer;
        are_lines = go_on P R S.events place going.text answer going.lines is;
        count = length going.text + n;
        front = sym (take-append-add going.text (line_shown P.names answer) n);
      },
    ),
    Appends-trans old now later going.text (take n (line_shown P.names answer)) going.wrote front,
  )
  unprinted new answer later count NoMemory there goes nothing =
      (going.text, cut_here (omega (arith, there)), subst (Appends old later) (append-nil going.text) (Appends-trans old now later going.text [] going.wrote nothing))
  unprinted new answer later count Done there goes h = absurd h
  unprinted new answer later count Usage there goes h = absurd h
  unprinted new answer later count (Source fault) there goes h = absurd h
  unprinted new answer later count (Rejected number why) there goes h = absurd h
  unprinted new answer later count (Schedule number kind) there goes h = absurd h
  unprinted new answer later count (Spent event) there goes h = absurd h
  unprinted new answer later count ReadFault there goes h = absurd h
  unprinted new answer later count (TooLong long) there goes h = absurd h
  unprinted new answer later count (Arguments kind number) there goes h = absurd h

  -- as a `?` hands it on
  pub unprinted_on : (new : Standing) (answer : Option Shown) (later : Option (List ℕ)) (count : ℕ) (result : Result (Unit {0}) End) (end : End) → IsErrAnd result (λ e. e ≡ end) → place < length S.events → GoesOn P R S.count S.events place budget new (Ok answer)
      → PrintsShown (line_shown P.names answer) (record { old = now; new = later; before = seen; after = count }) (Err end) → HasPrinted (RunsEvents P S budget) (record { old = old; new = later; before = before; after = count }) (end_of result)
  unprinted_on new answer later count (Ok done) end is there goes prints = absurd is
  unprinted_on new answer later count (Err e) end is there goes prints =
      subst (HasPrinted (RunsEvents P S budget) (record { old = old; new = later; before = before; after = count })) (sym is) (unprinted new answer later count end there goes prints)

  -- behind the last event the run is whole
  pub whole_here : place ≡ length S.events → HasPrinted (RunsEvents P S budget) (record { old = old; new = now; before = before; after = seen }) Done
  whole_here is = (
    going.text,
    record {
      R = R;
      declared = going.is.declared;
      within = subst (AreWithin P R S.events budget) is going.within;
      lines = subst (λ (n : ℕ). AreLines P R S.events n going.text) is going.lines;
    },
    going.wrote,
  )
