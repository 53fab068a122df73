-- The events of a schedule's text may happen: each line keeps the rules that this asks, since what is known at a line is what the events before it made.
use Rattle.std.proofs.Common.{◌≡◌, ℕ, zero, suc, ◌+◌, ◌<◌, ◌≤◌, cond, List, [], ◌∷◌, ◌++◌, length, take, Option, Some, None, slice_get, refl, sym, ap, ◌∙◌, subst, arith}
use Rattle.std.specs.List.{AllByRecursion}
use Rattle.px_base.specs.declared.limits.TheConstants.{EVENTS, REPLICAS}
use Rattle.px_terms.specs.declared.term.Value.{Value}
use Rattle.px_terms.specs.declared.program.ReplicaDef.{ReplicaDef}
use Rattle.px_terms.specs.declared.program.Program.{Program}
use Rattle.px_schedule.specs.declared.schedule.Event.{Event}
use Rattle.px_schedule.specs.declared.schedule.Event.TheVariants.{Update, Send, Deliver, Show}
use Rattle.px_schedule.specs.Schedules.{Command, replicas, update, send, deliver, show, State, start, IsDueAt, IsStateText, Holds, rules, after, IsEventOf, Takes, begins}
use Rattle.px_schedule.specs.Schedules.{goes_on, IsKept, AreKept, none, more}
use Rattle.px_replicas.specs.Held.{is_send, sends_before}
use Rattle.px_replicas.specs.Events.{NamesSome, HasState, MayHappen}
use Rattle.px_replicas.specs.Laws.{SchedulesMayHappen}
use Rattle.px_replicas.proofs.Places.{one_some, counted}

-- What the first line says.
record FirstLine (P : Program) (T : State) (events : List Event) : Type 0 where
  number : ℕ
  within : number < length P.replicas
  declaration : T.declaration ≡ Some number
  messages : T.messages ≡ 0
  taken : T.events ≡ 0
  some : 1 ≤ T.count
  few : T.count ≤ REPLICAS
  no_event : events ≡ []

-- What each further line says: its event.
record NextLine (P : Program) (R : ReplicaDef) (S T : State) (events : List Event) : Type 0 where
  event : Event
  is_after : T ≡ after S event
  one_event : events ≡ event ∷ []
  room : S.events < EVENTS
  names : NamesSome S.count S.messages event
  state : HasState P R event

module _ (P : Program) (S T : State) (events : List Event) where
  first_taken : (name : List ℕ) (count : ℕ) → 1 ≤ count → count ≤ REPLICAS → Takes P S (replicas name count) T events → FirstLine P T events
  first_taken name count some few (begins other many n is declared T_is none_yet) =
      let same : count ≡ many = cc in
      let there : FirstLine P (record { declaration = Some n; count = many; messages = 0; events = 0 }) events = record {
        number = n;
        within = declared.declared;
        declaration = refl;
        messages = refl;
        taken = refl;
        some = omega (arith, some, same);
        few = subst (λ (c : ℕ). c ≤ REPLICAS) same few;
        no_event = none_yet;
      } in
      subst (λ (T : State). FirstLine P T events) (sym T_is) there
  first_taken name count some few (goes_on e is T_is one) = absurd is

  first_by : (command : Command) → IsDueAt None command → AllByRecursion (Holds P S) (rules command) → Takes P S command T events → FirstLine P T events
  first_by (replicas name count) due holds takes = first_taken name count holds.1.0.0 holds.1.0.1 takes
  first_by (update r text) due holds takes = absurd due
  first_by (send r) due holds takes = absurd due
  first_by (deliver k r) due holds takes = absurd due
  first_by (show r) due holds takes = absurd due

  module _ (R : ReplicaDef) (n : ℕ) (declared : S.declaration ≡ Some n) (stands : slice_get P.replicas n ≡ Some R) where
    -- a text of the state's type is a value of the declaration's
    of_state : (text : List ℕ) (v : Value) → IsStateText P S text v → HasState P R (Update zero v)
    of_state text v is =
        let number : is.number ≡ n = one_some is.number n (sym is.is_declared ∙ declared) in
        let same : is.replica ≡ R = one_some is.replica R (sym is.stands ∙ ap (slice_get P.replicas) number ∙ stands) in
        subst (λ (R : ReplicaDef). HasState P R (Update zero v)) same is.is_text.typed

    -- the line's event
    next_taken : (command : Command) → ((name : List ℕ) (count : ℕ) → command ≡ replicas name count → ⊥) → S.events < EVENTS →
        ((e : Event) → IsEventOf P S command e → NamesSome S.count S.messages e × HasState P R e) → Takes P S command T events → NextLine P R S T events
    next_taken command no_first room each (begins name count n is declares T_is none_yet) = absurd (no_first name count is)
    next_taken command no_first room each (goes_on e is T_is one) = record {
      event = e;
      is_after = T_is;
      one_event = one;
      room = room;
      names = (each e is).0;
      state = (each e is).1;
    }

    abbrev Fits : Event → Type 0
    Fits e = NamesSome S.count S.messages e × HasState P R e

    next_by : (command : Command) → IsDueAt (Some n) command → AllByRecursion (Holds P S) (rules command) → Takes P S command T events → NextLine P R S T events
    next_by (replicas name count) due holds takes = absurd due
    next_by (update r text) due holds takes =
        next_taken (update r text) (λ name count h. cc) holds.0 (λ e is. subst Fits (sym is.1) (holds.1.0, of_state text is.0 is.2)) takes
    next_by (send r) due holds takes = next_taken (send r) (λ name count h. cc) holds.0 (λ e is. subst Fits (sym is) (holds.1.0, tt)) takes
    next_by (deliver k r) due holds takes =
        next_taken (deliver k r) (λ name count h. cc) holds.0 (λ e is. subst Fits (sym is) ((holds.1.0, holds.1.1.0), tt)) takes
    next_by (show r) due holds takes = next_taken (show r) (λ name count h. cc) holds.0 (λ e is. subst Fits (sym is) (holds.1.0, tt)) takes

first_line : (P : Program) (S T : State) (line : List ℕ) (events : List Event) → S.declaration ≡ None → IsKept P S line T events → FirstLine P T events
first_line P S T line events undeclared kept =
    let due : IsDueAt None kept.command = subst (λ (d : Option ℕ). IsDueAt d kept.command) undeclared kept.is_line.due in
    first_by P S T events kept.command due kept.holds kept.takes

next_line : (P : Program) (R : ReplicaDef) (S T : State) (line : List ℕ) (events : List Event) (n : ℕ) → S.declaration ≡ Some n → slice_get P.replicas n ≡ Some R →
    IsKept P S line T events → NextLine P R S T events
next_line P R S T line events n declared stands kept =
    let due : IsDueAt (Some n) kept.command = subst (λ (d : Option ℕ). IsDueAt d kept.command) declared kept.is_line.due in
    next_by P S T events R n declared stands kept.command due kept.holds kept.takes

-- What is known behind an event.
record IsAfter (S : State) (e : Event) (T : State) : Type 0 where
  declaration : T.declaration ≡ S.declaration
  count : T.count ≡ S.count
  messages : T.messages ≡ S.messages + cond (is_send e) 1 0
  taken : T.events ≡ S.events + 1

known_after : (S : State) (e : Event) → IsAfter S e (after S e)
known_after S (Update r v) = record { declaration = refl; count = refl; messages = omega arith; taken = refl }
known_after S (Send r) = record { declaration = refl; count = refl; messages = refl; taken = refl }
known_after S (Deliver k r) = record { declaration = refl; count = refl; messages = omega arith; taken = refl }
known_after S (Show r) = record { declaration = refl; count = refl; messages = omega arith; taken = refl }

-- What lines behind the first say: their events may happen, where so many messages were sent before.
record MayFollow (P : Program) (R : ReplicaDef) (S U : State) (events : List Event) : Type 0 where
  count : U.count ≡ S.count
  declaration : U.declaration ≡ S.declaration
  room : S.events ≤ EVENTS → S.events + length events ≤ EVENTS
  names : (i : ℕ) (e : Event) → slice_get events i ≡ Some e → NamesSome S.count (S.messages + sends_before events i) e
  values : (i : ℕ) (e : Event) → slice_get events i ≡ Some e → HasState P R e

nothing_follows : (P : Program) (R : ReplicaDef) (S : State) → MayFollow P R S S []
nothing_follows P R S = record {
  count = refl;
  declaration = refl;
  room = λ le. omega (arith, le);
  names = λ i e at. absurd cc;
  values = λ i e at. absurd cc;
}

-- one event in front of others that may follow
one_more : (P : Program) (R : ReplicaDef) (S T U : State) (e : Event) (others : List Event) → IsAfter S e T → S.events < EVENTS →
    NamesSome S.count S.messages e → HasState P R e → MayFollow P R T U others → MayFollow P R S U (e ∷ others)
one_more P R S T U e others known room named state rest = record {
  count = rest.count ∙ known.count;
  declaration = rest.declaration ∙ known.declaration;
  room = λ le. by_room;
  names = names;
  values = values;
}
  where
    by_room : S.events + length (e ∷ others) ≤ EVENTS
    by_room =
        let fits : T.events ≤ EVENTS = subst (λ (k : ℕ). k ≤ EVENTS) (sym known.taken) (omega (arith, room)) in
        let all : T.events + length others ≤ EVENTS = rest.room fits in
        let moved : (S.events + 1) + length others ≤ EVENTS = subst (λ (k : ℕ). k + length others ≤ EVENTS) known.taken all in
        omega (arith, moved)

    names : (i : ℕ) (f : Event) → slice_get (e ∷ others) i ≡ Some f → NamesSome S.count (S.messages + sends_before (e ∷ others) i) f
    names zero f at =
        let none_sent : sends_before (e ∷ others) 0 ≡ 0 = refl in
        let same : S.messages ≡ S.messages + sends_before (e ∷ others) 0 = omega (arith, none_sent) in
        subst (λ (k : ℕ). NamesSome S.count k f) same (subst (NamesSome S.count S.messages) (one_some e f at) named)
    names (suc i) f at =
        let there : NamesSome T.count (T.messages + sends_before others i) f = rest.names i f at in
        let sent : sends_before (e ∷ others) (suc i) ≡ cond (is_send e) 1 0 + sends_before others i = counted is_send e (take i others) in
        let messages : T.messages ≡ S.messages + cond (is_send e) 1 0 = known.messages in
        let same : T.messages + sends_before others i ≡ S.messages + sends_before (e ∷ others) (suc i) = omega (arith, sent, messages) in
        subst (λ (k : ℕ). NamesSome S.count k f) same (subst (λ (c : ℕ). NamesSome c (T.messages + sends_before others i) f) known.count there)

    values : (i : ℕ) (f : Event) → slice_get (e ∷ others) i ≡ Some f → HasState P R f
    values zero f at = subst (HasState P R) (one_some e f at) state
    values (suc i) f at = rest.values i f at

-- the events of lines behind the first may happen
lines_follow : (P : Program) (R : ReplicaDef) (n : ℕ) → slice_get P.replicas n ≡ Some R → {S U : State} {lines : List (List ℕ)} {events : List Event} →
    AreKept P S lines U events → S.declaration ≡ Some n → MayFollow P R S U events
lines_follow P R n stands (none {S = S}) declared = nothing_follows P R S
lines_follow P R n stands (more {S = S} {T = T} {U = U} {line = line} {events = own} {others = others} {all = all} kept rest whole) declared =
    let next : NextLine P R S T own = next_line P R S T line own n declared stands kept in
    let known : IsAfter S next.event T = subst (IsAfter S next.event) (sym next.is_after) (known_after S next.event) in
    let follow : MayFollow P R T U others = lines_follow P R n stands rest (known.declaration ∙ declared) in
    let is : all ≡ next.event ∷ others = whole ∙ ap (λ (front : List Event). front ++ others) next.one_event in
    subst (MayFollow P R S U) (sym is) (one_more P R S T U next.event others known next.room next.names next.state follow)

-- What a whole text says.
record SaysAll (P : Program) (U : State) (events : List Event) : Type 0 where
  number : ℕ
  replica : ReplicaDef
  declaration : U.declaration ≡ Some number
  stands : slice_get P.replicas number ≡ Some replica
  some : 1 ≤ U.count
  few : U.count ≤ REPLICAS
  room : length events ≤ EVENTS
  may : MayHappen P replica U.count events

-- what stands below the length of a list
record StandsAt {A : Type 0} (xs : List A) (n : ℕ) : Type 0 where
  x : A
  at : slice_get xs n ≡ Some x

stands_at : {A : Type 0} (xs : List A) (n : ℕ) → n < length xs → StandsAt xs n
stands_at [] n within = absurd (omega (arith, within))
stands_at (x ∷ xs) zero within = record { x = x; at = refl }
stands_at (x ∷ xs) (suc n) within = let there = stands_at xs n (omega (arith, within)) in record { x = there.x; at = there.at }

whole_text : (P : Program) {S U : State} {lines : List (List ℕ)} {events : List Event} → AreKept P S lines U events → S ≡ start → (d : ℕ) →
    U.declaration ≡ Some d → SaysAll P U events
whole_text P (none {S = S}) begin d declared =
    let wrong : None ≡ Some d = sym (ap (λ (S : State). S.declaration) begin) ∙ declared in
    absurd cc
whole_text P (more {S = S} {T = T} {U = U} {line = line} {events = own} {others = others} {all = all} kept rest whole) begin d declared =
    let first : FirstLine P T own = first_line P S T line own (ap (λ (S : State). S.declaration) begin) kept in
    let there : StandsAt P.replicas first.number = stands_at P.replicas first.number first.within in
    let follow : MayFollow P there.x T U others = lines_follow P there.x first.number there.at rest first.declaration in
    let is : all ≡ others = whole ∙ ap (λ (front : List Event). front ++ others) first.no_event in
    let fits : T.events ≤ EVENTS = subst (λ (k : ℕ). k ≤ EVENTS) (sym first.taken) (omega arith) in
    let room : T.events + length others ≤ EVENTS = follow.room fits in
    let none_sent : (i : ℕ) → T.messages + sends_before others i ≡ sends_before others i =
    λ i. let zeroth : T.messages ≡ 0 = first.messages in omega (arith, zeroth) in
    let may : MayHappen P there.x U.count others = record {
      names =
          λ i e at. subst (λ (k : ℕ). NamesSome k (sends_before others i) e) (sym follow.count)
          (subst (λ (k : ℕ). NamesSome T.count k e) (none_sent i) (follow.names i e at));
      values = follow.values;
    } in
    record {
      number = first.number;
      replica = there.x;
      declaration = follow.declaration ∙ first.declaration;
      stands = there.at;
      some = subst (λ (k : ℕ). 1 ≤ k) (sym follow.count) first.some;
      few = subst (λ (k : ℕ). k ≤ REPLICAS) (sym follow.count) first.few;
      room = subst (λ (events : List Event). length events ≤ EVENTS) (sym is) (let le : length others ≤ EVENTS = omega (arith, room) in le);
      may = subst (MayHappen P there.x U.count) (sym is) may;
    }

pub schedules_may_happen : SchedulesMayHappen
schedules_may_happen P text s is =
    let says : SaysAll P is.state s.events = whole_text P is.kept refl s.declaration is.declaration in
    let number : says.number ≡ s.declaration = one_some says.number s.declaration (sym says.declaration ∙ is.declaration) in
    record {
      replica = says.replica;
      declared = ap (slice_get P.replicas) (sym number) ∙ says.stands;
      some = subst (λ (k : ℕ). 1 ≤ k) is.count says.some;
      few = subst (λ (k : ℕ). k ≤ REPLICAS) is.count says.few;
      room = says.room;
      may = subst (λ (k : ℕ). MayHappen P says.replica k s.events) is.count says.may;
    }
