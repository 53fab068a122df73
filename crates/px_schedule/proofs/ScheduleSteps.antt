-- From lines to the schedule, or to the first line that breaks a rule.
use Rattle.std.proofs.Common.{◌≡◌, ℕ, zero, suc, ◌+◌, ◌<◌, ◌≤◌, ◌^◌, List, [], ◌∷◌, ◌++◌, length, Some, None, Result, Ok, Err, refl, sym, ap, ◌∙◌, subst, arith}
use Rattle.std.specs.Prelude.{Contains, slice_get}
use Rattle.std.proofs.lemmas.List.{append_assoc, append-nil, length-append}
use Rattle.std.proofs.lemmas.Option.{slice_get_within}
use Rattle.std.specs.Prelude.{IfErr, IsErrAnd}
use Rattle.px_base.specs.Lawful.{IsLawful}
use Rattle.px_base.specs.declared.limits.TheConstants.{REPLICAS}
use Rattle.px_terms.specs.declared.program.ReplicaDef.{ReplicaDef}
use Rattle.px_terms.specs.declared.program.Program.{Program}
use Rattle.px_schedule.specs.declared.schedule.Event.{Event}
use Rattle.px_schedule.specs.declared.schedule.Schedule.{Schedule}
use Rattle.px_schedule.specs.declared.schedule_end.ScheduleKind.{ScheduleKind}
use Rattle.px_schedule.specs.declared.schedule_end.ScheduleKind.TheVariants.{Form, UnknownReplicaType, TooMany}
use Rattle.px_schedule.specs.declared.schedule_end.ScheduleEnd.{ScheduleEnd}
use Rattle.px_schedule.specs.declared.schedule_end.ScheduleEnd.TheVariants as schedule_end
use Rattle.px_schedule.specs.declared.line_end.LineEnd.{LineEnd}
use Rattle.px_schedule.specs.declared.line_end.LineEnd.TheVariants as line_end
use Rattle.px_schedule.specs.declared.commands.Opening.{Opening}
use Rattle.px_schedule.specs.declared.events.Opened.{Opened}
use Rattle.px_schedule.specs.declared.events.Taken.{Taken}
use Rattle.px_schedule.specs.declared.openings.FoundReplica.{FoundReplica}
use Rattle.px_schedule.specs.Names.{place_of}
use Rattle.px_schedule.specs.Schedules.{Command, IsLineOf, State, start, IsDeclaration, here, later, begins, IsKept, AreKept, none, more, ended, IsSchedule, BeginsWith, IsWrong, formless, broken, Breaks, ends, unfinished, wrong, IsFault, IsEnd}
use Rattle.px_schedule.specs.Fields.{IsCut, opening, IsOpened, opened_state, state_at, EndsWrong, Adds, AreTaken, AreEvents, IsLaterFault, EndsLater, IsFoundReplica, at_line}
use Rattle.px_schedule.proofs.NameFacts.{place_found, one_place, no_place}
use Rattle.px_schedule.proofs.LineFacts.{ended_more, replicas_distinct}

-- one line more behind lines that keep the rules
kept_more : (P : Program) {S T U : State} {lines : List (List ℕ)} {line : List ℕ} {events added : List Event} → AreKept P S lines T events → IsKept P T line U added → AreKept P S (lines ++ line ∷ []) U (events ++ added)
kept_more P {added = added} none kept = more kept none (sym (append-nil added))
kept_more P {added = added} (more {events = front} {others = behind} first rest whole) kept =
    more first (kept_more P rest kept) (ap (λ (es : List Event). es ++ added) whole ∙ append_assoc front behind added)

ended_push : (lines : List (List ℕ)) (line rest : List ℕ) → ended (lines ++ line ∷ []) ++ rest ≡ ended lines ++ (line ++ 10 ∷ rest)
ended_push [] line rest = ended_more line [] rest
ended_push (first ∷ lines) line rest =
    ended_more first (lines ++ line ∷ []) rest ∙ ap (λ (t : List ℕ). first ++ 10 ∷ t) (ended_push lines line rest) ∙ sym (ended_more first lines (line ++ 10 ∷ rest))

-- nothing is taken yet
pub taken_start : (P : Program) (o : Opened) (text : List ℕ) (taken : Taken) → taken.events ≡ [] → taken.messages ≡ 0 → AreTaken P o text 2 taken text
taken_start P o text taken nothing sent = record {
  lines = [];
  whole = refl;
  kept = started taken.events taken.messages nothing sent;
  number = refl;
}
  where
    whole : List Event → ℕ → State
    whole events messages = record { declaration = Some o.declaration; count = o.count; messages = messages; events = length events }

    started : (events : List Event) (messages : ℕ) → events ≡ [] → messages ≡ 0 → AreKept P (opened_state o) [] (whole events messages) events
    started [] zero e f = none
    started [] (suc n) e f = absurd (omega arith)
    started (x ∷ xs) n e f = absurd cc

pub taken_next : (P : Program) (o : Opened) (text : List ℕ) (line : ℕ) (taken next : Taken) (rest front back : List ℕ) → AreTaken P o text line taken rest → IsCut 10 rest front back → Adds P o taken front next → AreTaken P o text (line + 1) next back
taken_next P o text line taken next rest front back before cut adds = record {
  lines = before.lines ++ front ∷ [];
  whole = before.whole ∙ ap (λ (t : List ℕ). ended before.lines ++ t) cut.whole ∙ sym (ended_push before.lines front back);
  kept = subst (AreKept P (opened_state o) (before.lines ++ front ∷ []) (state_at o next)) (sym adds.events) (kept_more P before.kept adds.kept);
  number =
      let many : length (before.lines ++ front ∷ []) ≡ length before.lines + 1 = length-append before.lines (front ∷ []) in
      let number : line ≡ length before.lines + 2 = before.number in
      omega arith;
}

-- one line more takes a byte at least
pub cut_shorter : (mark : ℕ) (rest front back : List ℕ) → IsCut mark rest front back → length back + 1 ≤ length rest
cut_shorter mark rest front back cut =
    let whole : length rest ≡ length front + suc (length back) = ap length cut.whole ∙ length-append front (mark ∷ back) in
    omega arith

pub taken_end : (P : Program) (o : Opened) (text : List ℕ) (line : ℕ) (taken : Taken) (rest : List ℕ) → AreTaken P o text line taken rest → length rest ≡ 0 → AreEvents P o text taken.events
taken_end P o text line taken [] before empty = record {
  lines = before.lines;
  state = state_at o taken;
  whole = before.whole ∙ append-nil (ended before.lines);
  kept = before.kept;
  declaration = refl;
  count = refl;
}
taken_end P o text line taken (c ∷ cs) before empty = absurd (omega arith)

taken_breaks : (P : Program) (o : Opened) (text : List ℕ) (line : ℕ) (taken : Taken) (rest : List ℕ) (kind : ScheduleKind) → AreTaken P o text line taken rest → Breaks P (state_at o taken) rest kind → IsLaterFault P o text line kind
taken_breaks P o text line taken rest kind before breaks = record {
  lines = before.lines;
  rest = rest;
  state = state_at o taken;
  events = taken.events;
  whole = before.whole;
  kept = before.kept;
  number = before.number;
  breaks = breaks;
}

pub taken_unfinished : (P : Program) (o : Opened) (text : List ℕ) (line : ℕ) (taken : Taken) (rest : List ℕ) → AreTaken P o text line taken rest → 0 < length rest → (Contains rest 10 → ⊥) → IsLaterFault P o text line Form
taken_unfinished P o text line taken rest before some free = taken_breaks P o text line taken rest Form before (unfinished some free refl)

begins_with : (rest front back : List ℕ) → IsCut 10 rest front back → BeginsWith rest front
begins_with rest front back cut = record { rest = back; whole = cut.whole; one_line = cut.first }

pub taken_wrong : (P : Program) (o : Opened) (text : List ℕ) (line : ℕ) (taken : Taken) (rest front back : List ℕ) → AreTaken P o text line taken rest → IsCut 10 rest front back → (end : LineEnd) → EndsWrong P (state_at o taken) front end → EndsLater P o text (at_line line end)
taken_wrong P o text line taken rest front back before cut (line_end.Fault kind) breaks = taken_breaks P o text line taken rest kind before (wrong front (begins_with rest front back cut) breaks)
taken_wrong P o text line taken rest front back before cut line_end.NoMemory breaks = tt

-- the first line is wanting
pub no_line : (P : Program) (text : List ℕ) → (Contains text 10 → ⊥) → IsFault P text 1 Form
no_line P text free = record { lines = []; rest = text; state = start; events = []; whole = refl; kept = none; number = refl; breaks = by text free }
  where
    by : (t : List ℕ) → (Contains t 10 → ⊥) → Breaks P start t Form
    by [] absent = ends refl refl refl
    by (c ∷ cs) absent = unfinished (omega arith) absent refl

-- the first line breaks a rule
pub first_wrong : (P : Program) (text front back : List ℕ) (kind : ScheduleKind) → IsCut 10 text front back → IsWrong P start front kind → IsFault P text 1 kind
first_wrong P text front back kind cut breaks = record { lines = []; rest = text; state = start; events = []; whole = refl; kept = none; number = refl; breaks = wrong front (begins_with text front back cut) breaks }

-- the first line of the text and those behind it
first_more : (P : Program) (text front back : List ℕ) (lines : List (List ℕ)) (rest : List ℕ) → IsCut 10 text front back → back ≡ ended lines ++ rest → text ≡ ended (front ∷ lines) ++ rest
first_more P text front back lines rest cut e = cut.whole ∙ ap (λ (t : List ℕ). front ++ 10 ∷ t) e ∙ sym (ended_more front lines rest)

-- a later line's refusal is the text's
pub later_ends : (P : Program) (o : Opened) (text front back : List ℕ) → IsCut 10 text front back → IsKept P start front (opened_state o) [] → (end : ScheduleEnd) → EndsLater P o back end → IsEnd P text end
later_ends P o text front back cut kept (schedule_end.Fault line kind) behind = record {
  lines = front ∷ behind.lines;
  rest = behind.rest;
  state = behind.state;
  events = behind.events;
  whole = first_more P text front back behind.lines behind.rest cut behind.whole;
  kept = more kept behind.kept refl;
  number = let number : line ≡ length behind.lines + 2 = behind.number in omega arith;
  breaks = behind.breaks;
}
later_ends P o text front back cut kept schedule_end.NoMemory behind = tt

pub is_schedule : (P : Program) (o : Opened) (text front back : List ℕ) (schedule : Schedule) → IsCut 10 text front back → IsKept P start front (opened_state o) [] → AreEvents P o back schedule.events → schedule.declaration ≡ o.declaration → schedule.count ≡ o.count → IsSchedule P text schedule
is_schedule P o text front back schedule cut kept events number count = record {
  lines = front ∷ events.lines;
  state = events.state;
  whole = first_more P text front back events.lines [] cut (events.whole ∙ sym (append-nil (ended events.lines))) ∙ append-nil (ended (front ∷ events.lines));
  kept = more kept events.kept refl;
  declaration = events.declaration ∙ ap (λ (n : ℕ). Some n) (sym number);
  count = events.count ∙ sym count;
}

-- the replica declaration of a name
pub found_replica : (P : Program) (name : List ℕ) (n : ℕ) (replica : ReplicaDef) (found : FoundReplica) → place_of P.names.replicas name ≡ Some n → slice_get P.replicas n ≡ Some replica → n < 2 ^ 32 → found.number ≡ n → replica.state ≡ found.state.now → IsFoundReplica P name found
found_replica P name n replica found place stands small number state = record {
  is_declaration = record {
    named = ap (slice_get P.names.replicas) number ∙ place_found P.names.replicas name n place;
    declared = subst (λ (k : ℕ). k < length P.replicas) (sym number) (slice_get_within P.replicas n replica stands);
    small = subst (λ (k : ℕ). k < 2 ^ 32) (sym number) small;
  };
  replica = replica;
  stands = ap (slice_get P.replicas) number ∙ stands;
  state = state;
}

pub unnamed_replica : (P : Program) (name : List ℕ) → place_of P.names.replicas name ≡ None → (n : ℕ) → IsDeclaration P name n → ⊥
unnamed_replica P name none_is n is = no_place P.names.replicas name none_is n is.named

the_place : (P : Program) → IsLawful P.names → (name : List ℕ) (m n : ℕ) → place_of P.names.replicas name ≡ Some m → IsDeclaration P name n → n ≡ m
the_place P lawful name m n place is = one_place P.names.replicas (replicas_distinct P lawful) n m name is.named (place_found P.names.replicas name m place)

absent_at : (xs : List ReplicaDef) (m : ℕ) → slice_get xs m ≡ None → m < length xs → ⊥
absent_at [] m e less = omega arith
absent_at (x ∷ xs) zero e less = cc
absent_at (x ∷ xs) (suc m) e less = absent_at xs m e (omega arith)

pub undeclared_replica : (P : Program) → IsLawful P.names → (name : List ℕ) (m : ℕ) → place_of P.names.replicas name ≡ Some m → slice_get P.replicas m ≡ None → (n : ℕ) → IsDeclaration P name n → ⊥
undeclared_replica P lawful name m place beyond n is =
    let same : n ≡ m = the_place P lawful name m n place is in
    absent_at P.replicas m beyond (subst (λ (k : ℕ). k < length P.replicas) same is.declared)

pub large_replica : (P : Program) → IsLawful P.names → (name : List ℕ) (m : ℕ) → place_of P.names.replicas name ≡ Some m → 2 ^ 32 ≤ m → (n : ℕ) → IsDeclaration P name n → ⊥
large_replica P lawful name m place beyond n is =
    let same : n ≡ m = the_place P lawful name m n place is in
    let less = is.small in
    omega arith

-- the first line
pub opening_formless : (P : Program) (line : List ℕ) → ((c : Command) → IsLineOf None line c → ⊥) → IsWrong P start line Form
opening_formless P line none_is = formless none_is refl

pub opening_unknown : (P : Program) (line : List ℕ) (o : Opening) → IsLineOf None line (opening o) → ((n : ℕ) → IsDeclaration P o.name.now n → ⊥) → IsWrong P start line UnknownReplicaType
opening_unknown P line o is none_is = broken (opening o) is (here (λ (found : (n : ℕ) × IsDeclaration P o.name.now n). none_is found.0 found.1) refl)

pub opening_few : (P : Program) (line : List ℕ) (o : Opening) → IsLineOf None line (opening o) → (n : ℕ) → IsDeclaration P o.name.now n → ((1 ≤ o.count) × (o.count ≤ REPLICAS) → ⊥) → IsWrong P start line TooMany
opening_few P line o is n declared not = broken (opening o) is (later (n, declared) (here not refl))

pub opening_kept : (P : Program) (line : List ℕ) (o : Opening) (opened : Opened) (found : FoundReplica) → (Contains line 10 → ⊥) → IsLineOf None line (opening o) → IsFoundReplica P o.name.now found → 1 ≤ o.count → o.count ≤ REPLICAS →
    opened.declaration ≡ found.number → opened.count ≡ o.count → found.state.now ≡ opened.state.now → IsOpened P opened × IsKept P start line (opened_state opened) []
opening_kept P line o opened found one_line is declared some few number count state = (
  record { replica = declared.replica; stands = ap (slice_get P.replicas) number ∙ declared.stands; state = declared.state ∙ state },
  record {
    command = opening o;
    one_line = one_line;
    is_line = is;
    holds = ((found.number, declared.is_declaration), ((some, few), tt));
    takes = begins o.name.now o.count found.number refl declared.is_declaration (made opened.declaration opened.count number count) refl;
  },
)
  where
    whole : ℕ → ℕ → State
    whole a b = record { declaration = Some a; count = b; messages = 0; events = 0 }

    made : (a b : ℕ) → a ≡ found.number → b ≡ o.count → whole a b ≡ whole found.number o.count
    made a b e f = ap (λ (x : ℕ). whole x b) e ∙ ap (whole found.number) f

-- a refusal that is handed on says what it said
pub passed_end : {T : Type 0} (Says : ScheduleEnd → Type 0) (r : Result T ScheduleEnd) (end : ScheduleEnd) → IsErrAnd r (λ (e : ScheduleEnd). e ≡ end) → Says end → IfErr r Says
passed_end Says (Ok x) end is says = absurd is
passed_end Says (Err e) end is says = subst Says (sym is) says
