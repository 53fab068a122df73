-- A schedule that may happen has its lines: at each place there is a world that stands for it, since each event happens.
use Rattle.std.proofs.Common.{◌≡◌, ◌⊎◌, ◌↔◌, inl, inr, ℕ, zero, suc, ◌+◌, ◌<◌, ◌≤◌, List, [], ◌∷◌, ◌++◌, length, replicate, Option, Some, None, Ok, slice_get, Contains, refl, ◌∙◌, subst, arith}
use Rattle.std.proofs.lemmas.Bool.{cases_lt}
use Rattle.std.proofs.lemmas.Option.{slice_get_cases}
use Rattle.px_terms.specs.declared.term.Value.{Value}
use Rattle.px_terms.specs.declared.program.ReplicaDef.{ReplicaDef}
use Rattle.px_terms.specs.declared.program.Program.{Program}
use Rattle.px_terms.specs.Values.{IsIn}
use Rattle.px_terms.specs.Extending.{IsWellFounded}
use Rattle.px_terms.specs.TypedPrograms.{IsTypedReplica}
use Rattle.px_descent.specs.Checked.{IsChecked}
use Rattle.px_schedule.specs.declared.schedule.Event.{Event}
use Rattle.px_schedule.specs.declared.schedule.Event.TheVariants.{Update, Send, Deliver, Show}
use Rattle.px_replicas.specs.declared.shown.Shown.{Shown}
use Rattle.px_replicas.specs.declared.version.Version.{Version}
use Rattle.px_replicas.specs.Held.{is_update, updates_before, sends_before, Holds, own, received, IsUnion}
use Rattle.px_replicas.specs.Joins.{IsMerged, IsJoin, IsState, IsMessage, MergeJoins}
use Rattle.px_replicas.specs.Events.{MayHappen}
use Rattle.px_replicas.specs.Holdings.{Holdings}
use Rattle.px_replicas.specs.Keeping.{AreInOrder}
use Rattle.px_replicas.specs.Lines.{show_lines, shown_list, IsAnswer, AreLines}
use Rattle.px_replicas.specs.Lines as lines
use Rattle.px_replicas.specs.Worlds.{Standing, with_version, Happens, update, send, deliver, show, StandsFor, GoesOn}
use Rattle.px_replicas.specs.Serving.{built_value, IsSound, AreSound, standing_of}
use Rattle.px_replicas.specs.Laws.{LinesExist, StatesExist}
use Rattle.px_replicas.proofs.Semilattices.{Merged}
use Rattle.px_replicas.proofs.RisingLists.{In, Rises, in_contains, contains_in, pairs_rise, rise_from_pairs}
use Rattle.px_replicas.proofs.UnionSteps.{above_all}
use Rattle.px_replicas.proofs.Places.{counts_later}
use Rattle.px_replicas.proofs.HeldCases.{held_by_cases}
use Rattle.px_replicas.proofs.DeclaredReplicas.{founded_of, typed_of, first_is_state}
use Rattle.px_replicas.proofs.JoinOfSets.{total, join_of_a_set}
use Rattle.px_replicas.proofs.JoinSteps.{gathered_typed}
use Rattle.px_replicas.proofs.Outputs.{lines_go_on}
use Rattle.px_replicas.proofs.GoingOn.{counts_rise, Known, goes_on_so}
use Rattle.px_replicas.proofs.StartSteps.{start_stands}

-- What stands at a place of a list.
record Item {A : Type 0} (xs : List A) (n : ℕ) : Type 0 where
  x : A
  at : slice_get xs n ≡ Some x

item : {A : Type 0} (xs : List A) (n : ℕ) → n < length xs → Item xs n
item xs n within = elim (slice_get_cases xs n).1 [
  | inl there ↦ record { x = there.0; at = there.2 }
  | inr past ↦ let le : length xs ≤ n = past.0 in absurd (omega (arith, within, le))
]

-- A number and those of a list, rising.
record Inserted (x : ℕ) (xs : List ℕ) : Type 0 where
  all : List ℕ
  rises : Rises all
  each : (n : ℕ) → In all n ↔ ((n ≡ x) ⊎ In xs n)

-- behind a lesser number
put_behind : (x y : ℕ) (ys : List ℕ) → Inserted x ys → Rises (y ∷ ys) → y < x → Inserted x (y ∷ ys)
put_behind x y ys rest rises lt = record {
  all = y ∷ rest.all;
  rises = (λ n there. above n ((rest.each n).0 there), rest.rises);
  each = λ n. (to n, from n);
}
  where
    above : (n : ℕ) → (n ≡ x) ⊎ In ys n → y < n
    above n (inl e) = omega (arith, e, lt)
    above n (inr there) = rises.0 n there

    to : (n : ℕ) → In (y ∷ rest.all) n → (n ≡ x) ⊎ In (y ∷ ys) n
    to n (inl e) = inr (inl e)
    to n (inr there) = elim ((rest.each n).0 there) [ inl e ↦ inl e | inr k ↦ inr (inr k) ]

    from : (n : ℕ) → (n ≡ x) ⊎ In (y ∷ ys) n → In (y ∷ rest.all) n
    from n (inl e) = inr ((rest.each n).1 (inl e))
    from n (inr (inl e)) = inl e
    from n (inr (inr k)) = inr ((rest.each n).1 (inr k))

-- where it stands already
there_already : (x y : ℕ) (ys : List ℕ) → Rises (y ∷ ys) → x ≡ y → Inserted x (y ∷ ys)
there_already x y ys rises same = record { all = y ∷ ys; rises = rises; each = λ n. (λ h. inr h, from n) }
  where
    from : (n : ℕ) → (n ≡ x) ⊎ In (y ∷ ys) n → In (y ∷ ys) n
    from n (inl e) = inl (e ∙ same)
    from n (inr h) = h

inserted : (x : ℕ) (xs : List ℕ) → Rises xs → Inserted x xs
inserted x [] rises = record { all = x ∷ []; rises = (λ y none. absurd none, tt); each = λ n. (λ h. h, λ h. h) }
inserted x (y ∷ ys) rises = elim (cases_lt x y) [
  | inl lt ↦ record { all = x ∷ y ∷ ys; rises = (above_all x y ys rises lt, rises); each = λ n. (λ h. h, λ h. h) }
  | inr le ↦ elim (cases_lt y x) [
    | inl lt ↦ put_behind x y ys (inserted x ys rises.1) rises lt
    | inr ge ↦ there_already x y ys rises (omega (arith, le, ge))
  ]
]

-- The numbers of two lists, rising.
record United (one other : List ℕ) : Type 0 where
  all : List ℕ
  rises : Rises all
  each : (n : ℕ) → In all n ↔ (In one n ⊎ In other n)

united : (one other : List ℕ) → Rises one → Rises other → United one other
united [] other p q = record { all = other; rises = q; each = λ n. (λ h. inr h, from n) }
  where
    from : (n : ℕ) → In [] n ⊎ In other n → In other n
    from n (inl none) = absurd none
    from n (inr h) = h
united (x ∷ xs) other p q = one_more (united xs other p.1 q)
  where
    one_more : United xs other → United (x ∷ xs) other
    one_more rest = record { all = more.all; rises = more.rises; each = λ n. (to n, from n) }
      where
        more : Inserted x rest.all
        more = inserted x rest.all rest.rises

        to : (n : ℕ) → In more.all n → In (x ∷ xs) n ⊎ In other n
        to n h = elim ((more.each n).0 h) [
          | inl e ↦ inl (inl e)
          | inr k ↦ elim ((rest.each n).0 k) [ inl a ↦ inl (inr a) | inr b ↦ inr b ]
        ]

        from : (n : ℕ) → In (x ∷ xs) n ⊎ In other n → In more.all n
        from n (inl (inl e)) = (more.each n).1 (inl e)
        from n (inl (inr a)) = (more.each n).1 (inr ((rest.each n).1 (inl a)))
        from n (inr b) = (more.each n).1 (inr ((rest.each n).1 (inr b)))

-- The union of two lists.
record Union (one other : List ℕ) : Type 0 where
  both : List ℕ
  is : IsUnion one other both

-- rising lists have a union
union_of : (one other : List ℕ) → AreInOrder one → AreInOrder other → Union one other
union_of one other p q = by (united one other (rise_from_pairs one p) (rise_from_pairs other q))
  where
    by : United one other → Union one other
    by u = record { both = u.all; is = record { rising = pairs_rise u.all u.rises; each = λ n. (to n, from n) } }
      where
        to : (n : ℕ) → Contains u.all n → Contains one n ⊎ Contains other n
        to n h = elim ((u.each n).0 (contains_in u.all n h)) [ inl a ↦ inl (in_contains one n a) | inr b ↦ inr (in_contains other n b) ]

        from : (n : ℕ) → Contains one n ⊎ Contains other n → Contains u.all n
        from n (inl a) = in_contains u.all n ((u.each n).1 (inl (contains_in one n a)))
        from n (inr b) = in_contains u.all n ((u.each n).1 (inr (contains_in other n b)))

-- an update that is held was contributed before
holds_below : (events : List Event) (n i r : ℕ) → Holds events n i r → n < updates_before events i
holds_below events n i r (own {place = p} {v = v} lt is) =
    let later : updates_before events p < updates_before events i = counts_later is_update events p i (Update r v) is.stands refl lt in
    let number : n ≡ updates_before events p = is.number in
    omega (arith, later, number)
holds_below events n i r (received {place = p} {k = k} {sending = s} {sender = q} before is earlier sends held) =
    let there : n < updates_before events s = holds_below events n s q held in
    let rise : updates_before events s ≤ updates_before events i = counts_rise is_update events s i (omega (arith, before, earlier)) in
    omega (arith, there, rise)

-- An event happens, with some calls.
record Step (P : Program) (R : ReplicaDef) (w : Standing) (e : Event) : Type 0 where
  calls : ℕ
  new : Standing
  answer : Option Shown
  happens : Happens w P R e calls new answer

-- A world stands for the first i events, which have lines.
record Reached (P : Program) (R : ReplicaDef) (count : ℕ) (events : List Event) (i : ℕ) : Type 0 where
  world : Standing
  stands : StandsFor P R count events i world
  text : List ℕ
  are : AreLines P R events i text

module _ (P : Program) (R : ReplicaDef) (declaration : ℕ) (checked : IsChecked P) (declared : slice_get P.replicas declaration ≡ Some R) (joins : MergeJoins P R)
    (count : ℕ) (events : List Event) (may : MayHappen P R count events) where
  founded : IsWellFounded P
  founded = founded_of checked

  typed : IsTypedReplica P R
  typed = typed_of declaration checked declared

  -- a join is of the state's type
  join_typed : (numbers : List ℕ) (v : Value) → IsJoin P R events numbers v → IsIn P R.state v
  join_typed numbers v join =
      gathered_typed P R founded typed joins events may.values join.first v numbers (first_is_state P R founded typed join.first join.calls join.is_first) join.gathers

  module _ (i : ℕ) (w : Standing) (stands : StandsFor P R count events i w) where
    -- the versions of a world that stands for a schedule are sound
    sound : AreSound P R w.updates w.replicas
    sound = record { each = λ r version at. by r version (stands.replicas r version at) }
      where
        by : (r : ℕ) (version : Version) → IsState P R events i r version.numbers version.state → IsSound P R w.updates version
        by r version state = record {
          typed = join_typed version.numbers version.state state.join;
          rising = state.held.rising;
          below = λ n there.
              let below : n < updates_before events i = holds_below events n i r ((state.held.each n).0 there) in
              let so_far : w.updates ≡ updates_before events i = stands.updates in
              omega (arith, below, so_far);
        }

    known : Known P R w
    known = record { checked = checked; founded = founded; typed = typed; declared = stands.runs.declared; replicas = sound }

    -- the version of each replica
    version_of : (r : ℕ) → r < count → Item w.replicas r
    version_of r within = let many : length w.replicas ≡ count = stands.many in item w.replicas r (omega (arith, within, many))

    state_typed : (r : ℕ) (version : Version) → slice_get w.replicas r ≡ Some version → IsIn P R.state version.state
    state_typed r version at = join_typed version.numbers version.state (stands.replicas r version at).join

    update_step : (r : ℕ) (b : Value) → IsIn P R.state b → Item w.replicas r → Step P R w (Update r b)
    update_step r b is old =
        let merged : Merged (IsIn P R.state) (IsMerged P R) old.x.state b = total P R founded typed joins old.x.state b (state_typed r old.x old.at) is in
        let next : Version = record { numbers = old.x.numbers ++ w.updates ∷ []; state = merged.value } in
        record {
          calls = merged.is.calls;
          new = record (with_version w r next) { updates = w.updates + 1 };
          answer = None;
          happens = update old.x next old.at merged.is.merges refl refl refl;
        }

    deliver_step : (k r : ℕ) → Item w.messages k → Item w.replicas r → Step P R w (Deliver k r)
    deliver_step k r sent old =
        let state : IsState P R events i r old.x.numbers old.x.state = stands.replicas r old.x old.at in
        let message : IsMessage P R events k sent.x.numbers sent.x.state = stands.messages k sent.x sent.at in
        let merged : Merged (IsIn P R.state) (IsMerged P R) old.x.state sent.x.state =
        total P R founded typed joins old.x.state sent.x.state (state_typed r old.x old.at) (join_typed sent.x.numbers sent.x.state message.join) in
        let union : Union old.x.numbers sent.x.numbers = union_of old.x.numbers sent.x.numbers state.held.rising message.sent.held.rising in
        let next : Version = record { numbers = union.both; state = merged.value } in
        record {
          calls = merged.is.calls;
          new = with_version w r next;
          answer = None;
          happens = deliver old.x sent.x next old.at sent.at merged.is.merges union.is refl refl;
        }

    -- each event that may happen happens
    step : (e : Event) → slice_get events i ≡ Some e → Step P R w e
    step (Update r b) at = update_step r b (may.values i (Update r b) at) (version_of r (may.names i (Update r b) at))
    step (Send r) at =
        let old : Item w.replicas r = version_of r (may.names i (Send r) at) in
        record {
          calls = 0;
          new = record w { messages = w.messages ++ old.x ∷ []; events = w.events + 1 };
          answer = None;
          happens = send old.x old.at refl refl refl;
        }
    step (Deliver k r) at =
        let names : (k < sends_before events i) × (r < count) = may.names i (Deliver k r) at in
        let within : k < sends_before events i = names.0 in
        let many : length w.messages ≡ sends_before events i = stands.sent in
        deliver_step k r (item w.messages k (omega (arith, within, many))) (version_of r names.1)
    step (Show r) at =
        let old : Item w.replicas r = version_of r (may.names i (Show r) at) in
        record {
          calls = 0;
          new = record w { events = w.events + 1 };
          answer = Some (record { replica = r; numbers = old.x.numbers; value = old.x.state });
          happens = show old.x old.at refl refl refl;
        }

    -- one event later
    later : (text : List ℕ) → AreLines P R events i text → (e : Event) → slice_get events i ≡ Some e → Reached P R count events (i + 1)
    later text are e at =
        let it : Step P R w e = step e at in
        let on : GoesOn P R count events i it.calls it.new (Ok it.answer) =
        goes_on_so P R count events i w stands held_by_cases known join_of_a_set joins may e it.calls it.new (Ok it.answer) at
        (record { calls = it.calls; happens = it.happens; within = omega arith }) in
        record {
          world = it.new;
          stands = on.0;
          text = text ++ show_lines P.names (shown_list it.answer);
          are = lines_go_on P R events i text it.answer are on.2;
        }

  -- before the first event
  start : Reached P R count events 0
  start =
      let first : Version = record { numbers = []; state = built_value R.from } in
      let holdings : Holdings = record { replicas = replicate count first; messages = [] } in
      record {
        world = standing_of P declaration holdings 0 0;
        stands = start_stands P declaration R checked declared count first holdings refl refl refl refl R declared events;
        text = [];
        are = record { all = []; shown = lines.none refl refl; whole = refl };
      }

  -- after each number of events
  reached : (i : ℕ) → i ≤ length events → Reached P R count events i
  reached zero within = start
  reached (suc i) within =
      let before : Reached P R count events i = reached i (omega (arith, within)) in
      let e : Item events i = item events i (omega (arith, within)) in
      let next : i + 1 ≡ suc i = omega arith in
      subst (Reached P R count events) next (later i before.world before.stands before.text before.are e.x e.at)

  state_of : (i r : ℕ) → Reached P R count events i → r < count → (numbers : List ℕ) × (v : Value) × IsState P R events i r numbers v
  state_of i r at within =
      let it : Item at.world.replicas r = version_of i at.world at.stands r within in
      (it.x.numbers, it.x.state, at.stands.replicas r it.x it.at)

pub lines_exist : LinesExist
lines_exist P R declaration count checked declared joins events may i within =
    let at : Reached P R count events i = reached P R declaration checked declared joins count events may i within in
    (at.text, at.are)

pub states_exist : StatesExist
states_exist P R declaration count checked declared joins events may i within r there =
    state_of P R declaration checked declared joins count events may i r (reached P R declaration checked declared joins count events may i within) there
