-- A world that stands for a schedule stands for it after one event more.
use Rattle.std.proofs.Common.{◌≡◌, ◌≢◌, ◌⊎◌, ◌↔◌, inl, inr, ℕ, zero, suc, ◌+◌, ◌<◌, ◌≤◌, Bool, cond, List, [], ◌∷◌, ◌++◌, length, take, count_by, Option, Some, None, Result, Ok, Err, slice_get, Contains, refl, sym, ap, ◌∙◌, subst, arith}
use Rattle.std.proofs.lemmas.Bool.{cases_lt}
use Rattle.std.proofs.lemmas.List.{length-append}
use Rattle.std.proofs.lemmas.Option.{slice_get_within}
use Rattle.px_terms.specs.declared.term.Value.{Value}
use Rattle.px_terms.specs.declared.program.ReplicaDef.{ReplicaDef}
use Rattle.px_terms.specs.declared.program.Program.{Program}
use Rattle.px_terms.specs.Extending.{IsWellFounded}
use Rattle.px_terms.specs.TypedPrograms.{IsTypedReplica}
use Rattle.px_descent.specs.Checked.{IsChecked}
use Rattle.px_machine.specs.declared.run_end.RunEnd.{RunEnd}
use Rattle.px_machine.specs.declared.run_end.RunEnd.TheVariants as ends
use Rattle.px_schedule.specs.declared.schedule.Event.{Event}
use Rattle.px_schedule.specs.declared.schedule.Event.TheVariants.{Update, Send, Deliver, Show}
use Rattle.px_replicas.specs.declared.shown.Shown.{Shown}
use Rattle.px_replicas.specs.declared.version.Version.{Version}
use Rattle.px_replicas.specs.Held.{is_update, is_send, updates_before, sends_before, IsSendAt, Holds, AreHeld, IsUnion}
use Rattle.px_replicas.specs.Joins.{Merges, IsMerged, IsContributed, IsJoin, IsState, IsMessage, MergeJoins}
use Rattle.px_replicas.specs.Events.{MayHappen, Needs, at_update, at_delivery, at_send, at_show}
use Rattle.px_replicas.specs.Lines.{IsAnswer}
use Rattle.px_replicas.specs.Worlds.{Standing, Runs, with_version, Happens, update, send, deliver, show, HappensAbove, Takes, StandsFor, GoesOn}
use Rattle.px_replicas.specs.Laws.{HeldByCases, JoinOfASet}
use Rattle.px_replicas.specs.Serving.{AreSound, IsFounded}
use Rattle.px_replicas.proofs.RisingLists.{In, Rises, in_contains, contains_in, pairs_rise, rise_from_pairs, in_append, in_front, in_back, rises_push}
use Rattle.px_replicas.proofs.Places.{one_some, counted}
use Rattle.px_replicas.proofs.Changes.{last_or_before, changed_or_kept, length_set}
use Rattle.px_replicas.proofs.JoinSteps.{one_more, union_joined}

-- one item more counts where it passes the test
counts_more : (p : Event → Bool) (xs : List Event) (i : ℕ) (x : Event) → slice_get xs i ≡ Some x → count_by p (take (i + 1) xs) ≡ count_by p (take i xs) + cond (p x) 1 0
counts_more p [] i x e = absurd cc
counts_more p (y ∷ xs) zero x e =
    let same : y ≡ x = cc in
    counted p y [] ∙ ap (λ (z : Event). cond (p z) 1 0 + 0) same ∙ plus (cond (p x) 1 0)
  where
    plus : (n : ℕ) → n + 0 ≡ 0 + n
    plus n = omega arith
counts_more p (y ∷ xs) (suc i) x e =
    let rest : count_by p (take (i + 1) xs) ≡ count_by p (take i xs) + cond (p x) 1 0 = counts_more p xs i x e in
    let more : count_by p (y ∷ take (i + 1) xs) ≡ cond (p y) 1 0 + count_by p (take (i + 1) xs) = counted p y (take (i + 1) xs) in
    let before : count_by p (y ∷ take i xs) ≡ cond (p y) 1 0 + count_by p (take i xs) = counted p y (take i xs) in
    let next : suc i + 1 ≡ suc (i + 1) = omega arith in
    ap (λ k. count_by p (take k (y ∷ xs))) next ∙ sums (count_by p (y ∷ take (i + 1) xs)) (cond (p y) 1 0) (count_by p (take (i + 1) xs)) (count_by p (take i xs)) (cond (p x) 1 0)
    (count_by p (y ∷ take i xs)) more rest before
  where
    sums : (a b c d e f : ℕ) → a ≡ b + c → c ≡ d + e → f ≡ b + d → a ≡ f + e
    sums a b c d e f one two three = omega (arith, one, two, three)

-- at a later place no fewer are counted
pub counts_rise : (p : Event → Bool) (xs : List Event) (i j : ℕ) → i ≤ j → count_by p (take i xs) ≤ count_by p (take j xs)
counts_rise p [] zero j le = omega arith
counts_rise p [] (suc i) zero le = absurd (omega arith)
counts_rise p [] (suc i) (suc j) le = omega arith
counts_rise p (y ∷ xs) zero j le = let none : count_by p [] ≡ 0 = refl in omega arith
counts_rise p (y ∷ xs) (suc i) zero le = absurd (omega arith)
counts_rise p (y ∷ xs) (suc i) (suc j) le =
    let rest : count_by p (take i xs) ≤ count_by p (take j xs) = counts_rise p xs i j (omega arith) in
    let one : count_by p (y ∷ take i xs) ≡ cond (p y) 1 0 + count_by p (take i xs) = counted p y (take i xs) in
    let other : count_by p (y ∷ take j xs) ≡ cond (p y) 1 0 + count_by p (take j xs) = counted p y (take j xs) in
    omega (arith, one, other, rest)

-- the same numbers, where the same is held
still_held : (events : List Event) (i q : ℕ) (numbers : List ℕ) → AreHeld events i q numbers → ((n : ℕ) → Holds events n (i + 1) q ↔ Holds events n i q) → AreHeld events (i + 1) q numbers
still_held events i q numbers held same = record {
  rising = held.rising;
  each = λ n. (λ h. (same n).1 ((held.each n).0 h), λ h. (held.each n).1 ((same n).0 h));
}

still_state : (P : Program) (R : ReplicaDef) (events : List Event) (i q : ℕ) (numbers : List ℕ) (v : Value) → IsState P R events i q numbers v →
    ((n : ℕ) → Holds events n (i + 1) q ↔ Holds events n i q) → IsState P R events (i + 1) q numbers v
still_state P R events i q numbers v state same = record { held = still_held events i q numbers state.held same; join = state.join }

-- what holds of no case adds nothing
adds_nothing : (X Is More : Type 0) → (More → ⊥) → X ↔ (Is ⊎ More) → X ↔ Is
adds_nothing X Is More never same = (λ x. elim (same.0 x) [ inl h ↦ h | inr h ↦ absurd (never h) ], λ h. same.1 (inl h))

-- What is known of the program and the declaration that a world runs.
pub record Known (P : Program) (R : ReplicaDef) (w : Standing) : Type 0 where
  pub checked : IsChecked P
  pub founded : IsWellFounded P
  pub typed : IsTypedReplica P R
  pub declared : slice_get P.replicas w.declaration ≡ Some R
  pub replicas : AreSound P R w.updates w.replicas

known : (P : Program) (R : ReplicaDef) (w : Standing) → Runs w P R → IsFounded w → Known P R w
known P R w runs it = subst (λ (Q : Program). (S : ReplicaDef) → slice_get Q.replicas w.declaration ≡ Some S → Known Q S w) runs.program base R runs.declared
  where
    base : (S : ReplicaDef) → slice_get w.program.replicas w.declaration ≡ Some S → Known w.program S w
    base S at =
        let same : it.replica ≡ S = one_some it.replica S (sym it.runs.declared ∙ at) in
        subst (λ (T : ReplicaDef). Known w.program T w) same
        (record { checked = it.checked; founded = it.founded; typed = it.typed; declared = it.runs.declared; replicas = it.replicas })

module _ (P : Program) (R : ReplicaDef) (count : ℕ) (events : List Event) (i : ℕ) (w : Standing) (stands : StandsFor P R count events i w) (law : HeldByCases) where
  -- the counts behind the event
  updates_next : (e : Event) → slice_get events i ≡ Some e → (n : ℕ) → n ≡ cond (is_update e) 1 0 → w.updates + n ≡ updates_before events (i + 1)
  updates_next e at n is =
      let more : updates_before events (i + 1) ≡ updates_before events i + cond (is_update e) 1 0 = counts_more is_update events i e at in
      let so_far : w.updates ≡ updates_before events i = stands.updates in
      omega (arith, more, so_far, is)

  sends_next : (e : Event) → slice_get events i ≡ Some e → (n : ℕ) → n ≡ cond (is_send e) 1 0 → length w.messages + n ≡ sends_before events (i + 1)
  sends_next e at n is =
      let more : sends_before events (i + 1) ≡ sends_before events i + cond (is_send e) 1 0 = counts_more is_send events i e at in
      let so_far : length w.messages ≡ sends_before events i = stands.sent in
      omega (arith, more, so_far, is)

  one_later : w.events + 1 ≡ i + 1
  one_later = let so_far : w.events ≡ i = stands.taken in omega (arith, so_far)

  -- a show
  shown_on : (r : ℕ) → slice_get events i ≡ Some (Show r) → StandsFor P R count events (i + 1) (record w { events = w.events + 1 })
  shown_on r at =
      let sent : length w.messages + 0 ≡ sends_before events (i + 1) = sends_next (Show r) at 0 refl in
      let updates : w.updates + 0 ≡ updates_before events (i + 1) = updates_next (Show r) at 0 refl in
      record {
        runs = record { program = stands.runs.program; declared = stands.runs.declared };
        many = stands.many;
        replicas =
            λ q version there. still_state P R events i q version.numbers version.state (stands.replicas q version there)
            (λ n. (law.goes_on events i).at_show r at q n);
        sent = omega (arith, sent);
        messages = stands.messages;
        updates = omega (arith, updates);
        taken = one_later;
      }

  -- a sending
  sent_on : (r : ℕ) (old : Version) → slice_get events i ≡ Some (Send r) → slice_get w.replicas r ≡ Some old →
      StandsFor P R count events (i + 1) (record w { messages = w.messages ++ old ∷ []; events = w.events + 1 })
  sent_on r old at is_old =
      let state : IsState P R events i r old.numbers old.state = stands.replicas r old is_old in
      let longer : length (w.messages ++ old ∷ []) ≡ length w.messages + 1 = length-append w.messages (old ∷ []) in
      let sent : length w.messages + 1 ≡ sends_before events (i + 1) = sends_next (Send r) at 1 refl in
      let updates : w.updates + 0 ≡ updates_before events (i + 1) = updates_next (Send r) at 0 refl in
      record {
        runs = record { program = stands.runs.program; declared = stands.runs.declared };
        many = stands.many;
        replicas =
            λ q version there. still_state P R events i q version.numbers version.state (stands.replicas q version there)
            (λ n. (law.goes_on events i).at_send r at q n);
        sent = longer ∙ sent;
        messages = λ k version there. elim (last_or_before w.messages old k version there) [
          | inl before ↦ stands.messages k version before
          | inr last ↦
              let it : IsMessage P R events k old.numbers old.state = record {
                sent = record { sending = i; sender = r; sends = record { stands = at; number = last.0 ∙ stands.sent }; held = state.held };
                join = state.join;
              } in
              subst (λ (v : Version). IsMessage P R events k v.numbers v.state) (sym last.1) it
        ];
        updates = omega (arith, updates);
        taken = one_later;
      }

  -- another version of one replica, where it has what is held there, and nothing is added elsewhere
  changed_on : (r : ℕ) (next : Version) (n : ℕ) → IsState P R events (i + 1) r next.numbers next.state →
      ((q m : ℕ) → q ≢ r → Holds events m (i + 1) q ↔ Holds events m i q) → length w.messages ≡ sends_before events (i + 1) → w.updates + n ≡ updates_before events (i + 1) →
      StandsFor P R count events (i + 1) (record (with_version w r next) { updates = w.updates + n })
  changed_on r next n state elsewhere sent updates = record {
    runs = record { program = stands.runs.program; declared = stands.runs.declared };
    many = length_set w.replicas r next ∙ stands.many;
    replicas = λ q version there. elim (changed_or_kept w.replicas r next q version there) [
      | inl changed ↦
          let here : IsState P R events (i + 1) q next.numbers next.state = subst (λ (p : ℕ). IsState P R events (i + 1) p next.numbers next.state) (sym changed.0) state in
          subst (λ (v : Version). IsState P R events (i + 1) q v.numbers v.state) (sym changed.1) here
      | inr kept ↦ still_state P R events i q version.numbers version.state (stands.replicas q version kept.1) (λ m. elsewhere q m kept.0)
    ];
    sent = sent;
    messages = stands.messages;
    updates = updates;
    taken = one_later;
  }

  module _ (founded : Known P R w) (set_law : JoinOfASet) (joins : MergeJoins P R) (may : MayHappen P R count events) where
    -- what a replica holds after an update there
    update_state : (r c : ℕ) (b : Value) (old next : Version) → slice_get events i ≡ Some (Update r b) → slice_get w.replicas r ≡ Some old →
        Merges P R old.state b next.state c → next.numbers ≡ old.numbers ++ w.updates ∷ [] → IsState P R events (i + 1) r next.numbers next.state
    update_state r c b old next at is_old merges numbers =
        let state : IsState P R events i r old.numbers old.state = stands.replicas r old is_old in
        let merged : IsMerged P R old.state b next.state = record { calls = c; merges = merges } in
        let contributed : IsContributed events w.updates b = record { place = i; replica = r; update = record { stands = at; number = stands.updates } } in
        let join : IsJoin P R events (old.numbers ++ w.updates ∷ []) next.state = one_more P R events old.numbers w.updates old.state b next.state state.join contributed merged in
        let rises : Rises (old.numbers ++ w.updates ∷ []) =
        rises_push old.numbers w.updates (rise_from_pairs old.numbers state.held.rising) (λ m there. (founded.replicas.each r old is_old).below m (in_contains old.numbers m there)) in
        let held : AreHeld events (i + 1) r (old.numbers ++ w.updates ∷ []) = record {
          rising = pairs_rise (old.numbers ++ w.updates ∷ []) rises;
          each = λ n. (to state n, from state n);
        } in
        subst (λ (ns : List ℕ). IsState P R events (i + 1) r ns next.state) (sym numbers) (record { held = held; join = join })
      where
        same : (n : ℕ) → Holds events n (i + 1) r ↔ (Holds events n i r ⊎ ((r ≡ r) × (n ≡ updates_before events i)))
        same n = (law.goes_on events i).at_update r b at r n

        last : (n : ℕ) → In (w.updates ∷ []) n → n ≡ w.updates
        last n (inl e) = e
        last n (inr wrong) = absurd wrong

        to : IsState P R events i r old.numbers old.state → (n : ℕ) → Contains (old.numbers ++ w.updates ∷ []) n → Holds events n (i + 1) r
        to state n h = elim (in_append old.numbers (w.updates ∷ []) n (contains_in (old.numbers ++ w.updates ∷ []) n h)) [
          | inl k ↦ (same n).1 (inl ((state.held.each n).0 (in_contains old.numbers n k)))
          | inr k ↦ (same n).1 (inr (refl, last n k ∙ stands.updates))
        ]

        from : IsState P R events i r old.numbers old.state → (n : ℕ) → Holds events n (i + 1) r → Contains (old.numbers ++ w.updates ∷ []) n
        from state n h = elim ((same n).0 h) [
          | inl k ↦ in_contains (old.numbers ++ w.updates ∷ []) n (in_front old.numbers (w.updates ∷ []) n (contains_in old.numbers n ((state.held.each n).1 k)))
          | inr k ↦ in_contains (old.numbers ++ w.updates ∷ []) n (in_back old.numbers (w.updates ∷ []) n (inl (k.1 ∙ sym stands.updates)))
        ]

    updated_on : (r c : ℕ) (b : Value) (old next : Version) → slice_get events i ≡ Some (Update r b) → slice_get w.replicas r ≡ Some old →
        Merges P R old.state b next.state c → next.numbers ≡ old.numbers ++ w.updates ∷ [] →
        StandsFor P R count events (i + 1) (record (with_version w r next) { updates = w.updates + 1 })
    updated_on r c b old next at is_old merges numbers =
        let sent : length w.messages + 0 ≡ sends_before events (i + 1) = sends_next (Update r b) at 0 refl in
        changed_on r next 1 (update_state r c b old next at is_old merges numbers)
        (λ q m no. adds_nothing (Holds events m (i + 1) q) (Holds events m i q) ((q ≡ r) × (m ≡ updates_before events i)) (λ h. no h.0) ((law.goes_on events i).at_update r b at q m))
        (omega (arith, sent)) (updates_next (Update r b) at 1 refl)

    -- the message that is delivered was sent before
    sent_before : (k sending sender : ℕ) (version : Version) → slice_get w.messages k ≡ Some version → IsSendAt events sending sender k → sending < i
    sent_before k sending sender version there sends = elim (cases_lt sending i) [
      | inl lt ↦ lt
      | inr late ↦
          let rise : sends_before events i ≤ sends_before events sending = counts_rise is_send events i sending late in
          let within : k < length w.messages = slice_get_within w.messages k version there in
          let so_far : length w.messages ≡ sends_before events i = stands.sent in
          let number : k ≡ sends_before events sending = sends.number in
          absurd (omega (arith, rise, within, so_far, number))
    ]

    deliver_state : (k r c : ℕ) (old sent next : Version) → slice_get events i ≡ Some (Deliver k r) → slice_get w.replicas r ≡ Some old → slice_get w.messages k ≡ Some sent →
        Merges P R old.state sent.state next.state c → IsUnion old.numbers sent.numbers next.numbers → IsState P R events (i + 1) r next.numbers next.state
    deliver_state k r c old sent next at is_old is_sent merges union =
        let merged : IsMerged P R old.state sent.state next.state = record { calls = c; merges = merges } in
        record {
          held = record { rising = union.rising; each = λ n. (to n, from n) };
          join =
              union_joined P R founded.founded founded.typed joins events may.values old.numbers sent.numbers old.state sent.state next.state
              state.join message.join merged set_law w.declaration founded.checked founded.declared next.numbers union;
        }
      where
        state : IsState P R events i r old.numbers old.state
        state = stands.replicas r old is_old

        message : IsMessage P R events k sent.numbers sent.state
        message = stands.messages k sent is_sent

        same : (n : ℕ) → Holds events n (i + 1) r ↔ (Holds events n i r ⊎ ((r ≡ r) × Contains sent.numbers n))
        same n =
            (law.goes_on events i).at_delivery k r sent.numbers message.sent at
            (sent_before k message.sent.sending message.sent.sender sent is_sent message.sent.sends) r n

        to : (n : ℕ) → Contains next.numbers n → Holds events n (i + 1) r
        to n h = elim ((union.each n).0 h) [
          | inl mine ↦ (same n).1 (inl ((state.held.each n).0 mine))
          | inr got ↦ (same n).1 (inr (refl, got))
        ]

        from : (n : ℕ) → Holds events n (i + 1) r → Contains next.numbers n
        from n h = elim ((same n).0 h) [
          | inl mine ↦ (union.each n).1 (inl ((state.held.each n).1 mine))
          | inr got ↦ (union.each n).1 (inr got.1)
        ]

    delivered_on : (k r c : ℕ) (old sent next : Version) → slice_get events i ≡ Some (Deliver k r) → slice_get w.replicas r ≡ Some old → slice_get w.messages k ≡ Some sent →
        Merges P R old.state sent.state next.state c → IsUnion old.numbers sent.numbers next.numbers → StandsFor P R count events (i + 1) (with_version w r next)
    delivered_on k r c old sent next at is_old is_sent merges union =
        let message : IsMessage P R events k sent.numbers sent.state = stands.messages k sent is_sent in
        let before : message.sent.sending < i = sent_before k message.sent.sending message.sent.sender sent is_sent message.sent.sends in
        let none : length w.messages + 0 ≡ sends_before events (i + 1) = sends_next (Deliver k r) at 0 refl in
        let whole : StandsFor P R count events (i + 1) (record (with_version w r next) { updates = w.updates + 0 }) =
        changed_on r next 0 (deliver_state k r c old sent next at is_old is_sent merges union)
        (λ q m no. adds_nothing (Holds events m (i + 1) q) (Holds events m i q) ((q ≡ r) × Contains sent.numbers m) (λ h. no h.0)
        ((law.goes_on events i).at_delivery k r sent.numbers message.sent at before q m))
        (omega (arith, none)) (updates_next (Deliver k r) at 0 refl) in
        let same : w.updates + 0 ≡ w.updates = omega arith in
        subst (λ (n : ℕ). StandsFor P R count events (i + 1) (record (with_version w r next) { updates = n })) same whole

    -- what an event asks for, where it happens
    needs : (e : Event) (c : ℕ) (new : Standing) (answer : Option Shown) → slice_get events i ≡ Some e → Happens w P R e c new answer → Needs P R events i c
    needs e c new answer at (update {r = r} {v = b} old next is_old merges numbers is none) = at_update at (stands.replicas r old is_old) merges
    needs e c new answer at (send {r = r} old is_old is calls none) = at_send at calls
    needs e c new answer at (deliver {k = k} {r = r} old sent next is_old is_sent merges union is none) = at_delivery at (stands.replicas r old is_old) (stands.messages k sent is_sent) merges
    needs e c new answer at (show {r = r} old is_old is calls shown) = at_show at calls

    stands_next : (e : Event) (c : ℕ) (new : Standing) (answer : Option Shown) → slice_get events i ≡ Some e → Happens w P R e c new answer → StandsFor P R count events (i + 1) new
    stands_next e c new answer at (update {r = r} {calls = calls} {v = b} old next is_old merges numbers is none) =
        subst (StandsFor P R count events (i + 1)) (sym is) (updated_on r calls b old next at is_old merges numbers)
    stands_next e c new answer at (send {r = r} old is_old is calls none) = subst (StandsFor P R count events (i + 1)) (sym is) (sent_on r old at is_old)
    stands_next e c new answer at (deliver {k = k} {r = r} {calls = calls} old sent next is_old is_sent merges union is none) =
        subst (StandsFor P R count events (i + 1)) (sym is) (delivered_on k r calls old sent next at is_old is_sent merges union)
    stands_next e c new answer at (show {r = r} old is_old is calls shown) = subst (StandsFor P R count events (i + 1)) (sym is) (shown_on r at)

    no_show : (e : Event) (answer : Option Shown) → slice_get events i ≡ Some e → answer ≡ None → ((r : ℕ) → e ≡ Show r → ⊥) → IsAnswer P R events i answer
    no_show e answer at none other =
        let here : IsAnswer P R events i None = λ r show. other r (one_some e (Show r) (sym at ∙ show)) in
        subst (IsAnswer P R events i) (sym none) here

    answers : (e : Event) (c : ℕ) (new : Standing) (answer : Option Shown) → slice_get events i ≡ Some e → Happens w P R e c new answer → IsAnswer P R events i answer
    answers e c new answer at (update {r = r} {v = b} old next is_old merges numbers is none) = no_show (Update r b) answer at none (λ q wrong. absurd cc)
    answers e c new answer at (send {r = r} old is_old is calls none) = no_show (Send r) answer at none (λ q wrong. absurd cc)
    answers e c new answer at (deliver {k = k} {r = r} old sent next is_old is_sent merges union is none) = no_show (Deliver k r) answer at none (λ q wrong. absurd cc)
    answers e c new answer at (show {r = r} old is_old is calls shown) =
        let here : IsAnswer P R events i (Some (record { replica = r; numbers = old.numbers; value = old.state })) = record { stands = at; state = stands.replicas r old is_old } in
        subst (IsAnswer P R events i) (sym shown) here

    pub goes_on_so : (e : Event) (budget : ℕ) (new : Standing) (result : Result (Option Shown) RunEnd) → slice_get events i ≡ Some e → Takes w P R e budget new result →
        GoesOn P R count events i budget new result
    goes_on_so e budget new (Ok answer) at took = (
      stands_next e took.calls new answer at took.happens,
      record { calls = took.calls; needs = needs e took.calls new answer at took.happens; within = took.within },
      answers e took.calls new answer at took.happens,
    )
    goes_on_so e budget new (Err ends.Spent) at took =
        let above : HappensAbove w P R e budget = took.0 in
        record { calls = above.calls; needs = needs e above.calls above.new above.answer at above.happens; above = above.above }
    goes_on_so e budget new (Err ends.NoMemory) at took = tt

-- what a world that stands for a schedule answers to the next event, where it takes it
pub goes_on : JoinOfASet → HeldByCases → (w : Standing) → IsFounded w → (e : Event) (budget : ℕ) (new : Standing)
    (result : Result (Option Shown) RunEnd) → ((P : Program) (R : ReplicaDef) → Runs w P R → Takes w P R e budget new result) → (P : Program) (R : ReplicaDef) (count : ℕ)
    (events : List Event) (i : ℕ) → StandsFor P R count events i w → MergeJoins P R → MayHappen P R count events → slice_get events i ≡ Some e → GoesOn P R count events i budget new result
goes_on set held w founded e budget new result takes P R count events i stands joins may at =
    goes_on_so P R count events i w stands held (known P R w stands.runs founded) set joins may e budget new result at (takes P R stands.runs)
