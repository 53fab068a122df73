-- What the functions of a world do, over plain values: `w` is what a world's fields show.
use Rattle.std.proofs.Common.{◌≡◌, inl, inr, ℕ, ◌+◌, ◌<◌, ◌≤◌, false, true, List, [], ◌∷◌, ◌++◌, length, Some, None, Result, Ok, Err, IsErr, IsErrAnd, slice_get, slice_set, Contains, refl, sym, ap, ◌∙◌, subst, arith}
use Rattle.std.proofs.lemmas.Bool.{false≢true}
use Rattle.std.proofs.lemmas.List.{length-append}
use Rattle.px_base.specs.declared.limits.TheConstants.{EVENTS, REPLICAS}
use Rattle.px_terms.specs.declared.term.Value.{Value}
use Rattle.px_terms.specs.declared.program.ReplicaDef.{ReplicaDef}
use Rattle.px_terms.specs.declared.program.Program.{Program}
use Rattle.px_terms.specs.Values.{IsIn}
use Rattle.px_descent.specs.Checked.{IsChecked}
use Rattle.px_machine.specs.declared.run_end.RunEnd.{RunEnd}
use Rattle.px_machine.specs.declared.run_end.RunEnd.TheVariants as ends
use Rattle.px_schedule.specs.declared.schedule.Event.TheVariants as event
use Rattle.px_replicas.specs.declared.merge.Merge.{Merge}
use Rattle.px_replicas.specs.declared.shown.Shown.{Shown}
use Rattle.px_replicas.specs.declared.version.Version.{Version}
use Rattle.px_replicas.specs.Held.{IsUnion}
use Rattle.px_replicas.specs.Holdings.{Holdings, Sends}
use Rattle.px_replicas.specs.Keeping.{AreInOrder}
use Rattle.px_replicas.specs.Worlds.{Standing, Runs, HappensWithin, HappensAbove, with_version, update, send, deliver, show}
use Rattle.px_replicas.specs.Serving.{Serves, CanMerge, MergesTo, MergesAbove, MergesWithin, IsSound, AreSound, IsKept, standing_of, IsFounded, IsOfState, IsUpdated, Updates, IsDelivered, Delivers, IsShown}
use Rattle.px_replicas.proofs.Changes.{last_or_before, changed_or_kept, length_set}
use Rattle.px_replicas.proofs.RisingLists.{In, Rises, in_contains, contains_in, pairs_rise, rise_from_pairs, in_append, rises_push}

one_some : {A : Type 0} (a b : A) → Some a ≡ Some b → a ≡ b
one_some a b e = cc

-- a world is founded
pub founded_so : (w : Standing) (m : Merge) (seen : Standing) → w ≡ seen → IsChecked w.program → IsKept w m → IsFounded seen
founded_so w m seen is checked kept = subst IsFounded is (record {
  replica = kept.replica;
  runs = record { program = refl; declared = kept.declared };
  checked = checked;
  founded = kept.serves.founded;
  typed = kept.serves.typed;
  replicas = kept.replicas;
  messages = kept.messages;
})

-- what is true at the world's own program is so at each that it runs
pub at_programs : (w : Standing) (Q : Program → ReplicaDef → Type 0) → ((R : ReplicaDef) → Runs w w.program R → Q w.program R) → (P : Program) (R : ReplicaDef) → Runs w P R → Q P R
at_programs w Q own P R runs =
    subst (λ (Q' : Program). (S : ReplicaDef) → slice_get Q'.replicas w.declaration ≡ Some S → Q Q' S) runs.program
    (λ S at. own S (record { program = refl; declared = at })) R runs.declared

module _ (w : Standing) (m : Merge) (kept : IsKept w m) where
  own_runs : Runs w w.program kept.replica
  own_runs = record { program = refl; declared = kept.declared }

  -- the world runs one declaration
  pub own_replica : (Q : ReplicaDef → Type 0) → Q kept.replica → (R : ReplicaDef) → Runs w w.program R → Q R
  own_replica Q here R runs = subst Q (one_some kept.replica R (sym kept.declared ∙ runs.declared)) here

  pub can_merge : (r : ℕ) (before : Version) (v : Value) → slice_get w.replicas r ≡ Some before → IsOfState w v → CanMerge m before.state v
  can_merge r before v at is = record {
    program = w.program;
    replica = kept.replica;
    serves = kept.serves;
    one = (kept.replicas.each r before at).typed;
    other = is kept.replica own_runs;
  }

  sound_later : (version : Version) → IsSound w.program kept.replica w.updates version → IsSound w.program kept.replica (w.updates + 1) version
  sound_later version sound = record {
    typed = sound.typed;
    rising = sound.rising;
    below = λ n there. let lt : n < w.updates = sound.below n there in omega (arith, lt);
  }

  all_sound_later : (versions : List Version) → AreSound w.program kept.replica w.updates versions → AreSound w.program kept.replica (w.updates + 1) versions
  all_sound_later versions sound = record { each = λ i version at. sound_later version (sound.each i version at) }

  -- where one version is changed
  changed_sound : (updates : ℕ) (versions : List Version) (r : ℕ) (next : Version) → AreSound w.program kept.replica updates versions → IsSound w.program kept.replica updates next →
      AreSound w.program kept.replica updates (slice_set versions r next)
  changed_sound updates versions r next sound one = record {
    each = λ i version at. elim (changed_or_kept versions r next i version at) [
      | inl changed ↦ subst (IsSound w.program kept.replica updates) (sym changed.1) one
      | inr same ↦ sound.each i version same.1
    ];
  }

  -- The world after an update.
  module _ (r : ℕ) (v : Value) (budget : ℕ) where
    pub updated_so : (before next : Version) → slice_get w.replicas r ≡ Some before → IsOfState w v →
        ((P : Program) (R : ReplicaDef) → Serves P R m → IsIn P R.state before.state → IsIn P R.state v → MergesTo P R before.state v budget next.state) →
        next.numbers ≡ before.numbers ++ w.updates ∷ [] → (R : ReplicaDef) → Runs w w.program R → IsUpdated w R r v budget next
    updated_so before next at is run numbers = own_replica (λ (R : ReplicaDef). IsUpdated w R r v budget next) (record {
      old = before;
      is_old = at;
      merged = run w.program kept.replica kept.serves (kept.replicas.each r before at).typed (is kept.replica own_runs);
      numbers = numbers;
    })

    above_update : (before : Version) → slice_get w.replicas r ≡ Some before → (R : ReplicaDef) → MergesAbove w.program R before.state v budget →
        HappensAbove w w.program R (event.Update r v) budget
    above_update before at R above =
        let next : Version = record { numbers = before.numbers ++ w.updates ∷ []; state = above.value } in
        record {
          calls = above.calls;
          new = record (with_version w r next) { updates = w.updates + 1 };
          answer = None;
          happens = update before next at above.merges refl refl refl;
          above = above.above;
        }

    pub update_ends : (before : Version) → slice_get w.replicas r ≡ Some before → IsOfState w v → (end : RunEnd) →
        ((P : Program) (R : ReplicaDef) → Serves P R m → IsIn P R.state before.state → IsIn P R.state v → MergesWithin P R before.state v budget (Err end)) →
        (result : Result Version RunEnd) → IsErr result × IsErrAnd result (λ x. x ≡ end) → (R : ReplicaDef) → Runs w w.program R → Updates w R r v budget result
    update_ends before at is end run (Ok next) ended = let wrong : false ≡ true = ended.0 in absurd (false≢true wrong)
    update_ends before at is end run (Err ends.NoMemory) ended = λ R runs. tt
    update_ends before at is end run (Err ends.Spent) ended =
        let here : MergesWithin w.program kept.replica before.state v budget (Err end) =
        run w.program kept.replica kept.serves (kept.replicas.each r before at).typed (is kept.replica own_runs) in
        let spent : MergesWithin w.program kept.replica before.state v budget (Err ends.Spent) =
        subst (λ (x : RunEnd). MergesWithin w.program kept.replica before.state v budget (Err x)) (sym ended.1) here in
        own_replica (λ (R : ReplicaDef). HappensAbove w w.program R (event.Update r v) budget) (above_update before at kept.replica spent)

    update_sound : (next : Version) → IsUpdated w kept.replica r v budget next → IsSound w.program kept.replica (w.updates + 1) next
    update_sound next it =
        let sound : IsSound w.program kept.replica w.updates it.old = kept.replicas.each r it.old it.is_old in
        let rises : Rises (it.old.numbers ++ w.updates ∷ []) =
        rises_push it.old.numbers w.updates (rise_from_pairs it.old.numbers sound.rising) (λ k there. sound.below k (in_contains it.old.numbers k there)) in
        record {
          typed = it.merged.typed;
          rising = subst AreInOrder (sym it.numbers) (pairs_rise (it.old.numbers ++ w.updates ∷ []) rises);
          below = λ n there. by sound n (subst (λ (ns : List ℕ). Contains ns n) it.numbers there);
        }
      where
        last : (n : ℕ) → In (w.updates ∷ []) n → n ≡ w.updates
        last n (inl same) = same
        last n (inr wrong) = absurd wrong

        by : IsSound w.program kept.replica w.updates it.old → (n : ℕ) → Contains (it.old.numbers ++ w.updates ∷ []) n → n < w.updates + 1
        by sound n there = elim (in_append it.old.numbers (w.updates ∷ []) n (contains_in (it.old.numbers ++ w.updates ∷ []) n there)) [
          | inl k ↦ let lt : n < w.updates = sound.below n (in_contains it.old.numbers n k) in omega (arith, lt)
          | inr k ↦ let same : n ≡ w.updates = last n k in omega (arith, same)
        ]

    pub update_kept : (next : Version) (holdings : Holdings) → w.events < EVENTS → ((R : ReplicaDef) → Runs w w.program R → IsUpdated w R r v budget next) →
        holdings ≡ record { replicas = slice_set w.replicas r next; messages = w.messages } → IsKept (standing_of w.program w.declaration holdings (w.updates + 1) (w.events + 1)) m
    update_kept next holdings room it is =
        let one : IsSound w.program kept.replica (w.updates + 1) next = update_sound next (it kept.replica own_runs) in
        let so_far : w.updates ≤ w.events = kept.few_updates in
        let messages : length w.messages ≤ w.events = kept.few_messages in
        subst (λ (h : Holdings). IsKept (standing_of w.program w.declaration h (w.updates + 1) (w.events + 1)) m) (sym is) (record {
          replica = kept.replica;
          declared = kept.declared;
          serves = kept.serves;
          replicas = changed_sound (w.updates + 1) w.replicas r next (all_sound_later w.replicas kept.replicas) one;
          messages = all_sound_later w.messages kept.messages;
          many = subst (λ (n : ℕ). n ≤ REPLICAS) (sym (length_set w.replicas r next)) kept.many;
          few_updates = omega (arith, so_far);
          few_messages = omega (arith, messages);
          few_events = omega (arith, room);
        })

    pub update_taken : (next : Version) (holdings : Holdings) → ((R : ReplicaDef) → Runs w w.program R → IsUpdated w R r v budget next) →
        holdings ≡ record { replicas = slice_set w.replicas r next; messages = w.messages } → (P : Program) (R : ReplicaDef) → Runs w P R →
        HappensWithin w P R (event.Update r v) budget (standing_of w.program w.declaration holdings (w.updates + 1) (w.events + 1)) None
    update_taken next holdings it is =
        let new : Standing = standing_of w.program w.declaration holdings (w.updates + 1) (w.events + 1) in
        let same : new ≡ record (with_version w r next) { updates = w.updates + 1 } = ap (λ (h : Holdings). standing_of w.program w.declaration h (w.updates + 1) (w.events + 1)) is in
        at_programs w (λ P R. HappensWithin w P R (event.Update r v) budget new None)
        (λ R runs. let u = it R runs in
        record { calls = u.merged.calls; happens = update u.old next u.is_old u.merged.merges u.numbers same refl; within = u.merged.within })

  -- what both sides of a delivery merge
  pub can_merge_both : (k r : ℕ) (before sent : Version) → slice_get w.replicas r ≡ Some before → slice_get w.messages k ≡ Some sent → CanMerge m before.state sent.state
  can_merge_both k r before sent at from = record {
    program = w.program;
    replica = kept.replica;
    serves = kept.serves;
    one = (kept.replicas.each r before at).typed;
    other = (kept.messages.each k sent from).typed;
  }

  -- The world after a delivery.
  module _ (k r : ℕ) (budget : ℕ) where
    pub delivered_so : (before sent next : Version) → slice_get w.replicas r ≡ Some before → slice_get w.messages k ≡ Some sent →
        ((P : Program) (R : ReplicaDef) → Serves P R m → IsIn P R.state before.state → IsIn P R.state sent.state → MergesTo P R before.state sent.state budget next.state) →
        IsUnion before.numbers sent.numbers next.numbers → (R : ReplicaDef) → Runs w w.program R → IsDelivered w R k r budget next
    delivered_so before sent next at from run union = own_replica (λ (R : ReplicaDef). IsDelivered w R k r budget next) (record {
      old = before;
      is_old = at;
      sent = sent;
      is_sent = from;
      merged = run w.program kept.replica kept.serves (kept.replicas.each r before at).typed (kept.messages.each k sent from).typed;
      numbers = union;
    })

    above_delivery : (before sent : Version) (numbers : List ℕ) → slice_get w.replicas r ≡ Some before → slice_get w.messages k ≡ Some sent →
        IsUnion before.numbers sent.numbers numbers → (R : ReplicaDef) → MergesAbove w.program R before.state sent.state budget → HappensAbove w w.program R (event.Deliver k r) budget
    above_delivery before sent numbers at from union R above =
        let next : Version = record { numbers = numbers; state = above.value } in
        record {
          calls = above.calls;
          new = with_version w r next;
          answer = None;
          happens = deliver before sent next at from above.merges union refl refl;
          above = above.above;
        }

    pub deliver_ends : (before sent : Version) (numbers : List ℕ) → slice_get w.replicas r ≡ Some before → slice_get w.messages k ≡ Some sent →
        IsUnion before.numbers sent.numbers numbers → (end : RunEnd) →
        ((P : Program) (R : ReplicaDef) → Serves P R m → IsIn P R.state before.state → IsIn P R.state sent.state → MergesWithin P R before.state sent.state budget (Err end)) →
        (result : Result Version RunEnd) → IsErr result × IsErrAnd result (λ x. x ≡ end) → (R : ReplicaDef) → Runs w w.program R → Delivers w R k r budget result
    deliver_ends before sent numbers at from union end run (Ok next) ended = let wrong : false ≡ true = ended.0 in absurd (false≢true wrong)
    deliver_ends before sent numbers at from union end run (Err ends.NoMemory) ended = λ R runs. tt
    deliver_ends before sent numbers at from union end run (Err ends.Spent) ended =
        let here : MergesWithin w.program kept.replica before.state sent.state budget (Err end) =
        run w.program kept.replica kept.serves (kept.replicas.each r before at).typed (kept.messages.each k sent from).typed in
        let spent : MergesWithin w.program kept.replica before.state sent.state budget (Err ends.Spent) =
        subst (λ (x : RunEnd). MergesWithin w.program kept.replica before.state sent.state budget (Err x)) (sym ended.1) here in
        own_replica (λ (R : ReplicaDef). HappensAbove w w.program R (event.Deliver k r) budget) (above_delivery before sent numbers at from union kept.replica spent)

    delivery_sound : (next : Version) → IsDelivered w kept.replica k r budget next → IsSound w.program kept.replica w.updates next
    delivery_sound next it = record {
      typed = it.merged.typed;
      rising = it.numbers.rising;
      below = λ n there. elim ((it.numbers.each n).0 there) [
        | inl mine ↦ (kept.replicas.each r it.old it.is_old).below n mine
        | inr got ↦ (kept.messages.each k it.sent it.is_sent).below n got
      ];
    }

    pub deliver_kept : (next : Version) (holdings : Holdings) → w.events < EVENTS → ((R : ReplicaDef) → Runs w w.program R → IsDelivered w R k r budget next) →
        holdings ≡ record { replicas = slice_set w.replicas r next; messages = w.messages } → IsKept (standing_of w.program w.declaration holdings w.updates (w.events + 1)) m
    deliver_kept next holdings room it is =
        let one : IsSound w.program kept.replica w.updates next = delivery_sound next (it kept.replica own_runs) in
        let so_far : w.updates ≤ w.events = kept.few_updates in
        let messages : length w.messages ≤ w.events = kept.few_messages in
        subst (λ (h : Holdings). IsKept (standing_of w.program w.declaration h w.updates (w.events + 1)) m) (sym is) (record {
          replica = kept.replica;
          declared = kept.declared;
          serves = kept.serves;
          replicas = changed_sound w.updates w.replicas r next kept.replicas one;
          messages = kept.messages;
          many = subst (λ (n : ℕ). n ≤ REPLICAS) (sym (length_set w.replicas r next)) kept.many;
          few_updates = omega (arith, so_far);
          few_messages = omega (arith, messages);
          few_events = omega (arith, room);
        })

    pub deliver_taken : (next : Version) (holdings : Holdings) → ((R : ReplicaDef) → Runs w w.program R → IsDelivered w R k r budget next) →
        holdings ≡ record { replicas = slice_set w.replicas r next; messages = w.messages } → (P : Program) (R : ReplicaDef) → Runs w P R →
        HappensWithin w P R (event.Deliver k r) budget (standing_of w.program w.declaration holdings w.updates (w.events + 1)) None
    deliver_taken next holdings it is =
        let new : Standing = standing_of w.program w.declaration holdings w.updates (w.events + 1) in
        let same : new ≡ with_version w r next = ap (λ (h : Holdings). standing_of w.program w.declaration h w.updates (w.events + 1)) is in
        at_programs w (λ P R. HappensWithin w P R (event.Deliver k r) budget new None)
        (λ R runs. let d = it R runs in
        record {
          calls = d.merged.calls;
          happens = deliver d.old d.sent next d.is_old d.is_sent d.merged.merges d.numbers same refl;
          within = d.merged.within;
        })

  -- The world after a sending.
  pub send_kept : (r : ℕ) (old next : Holdings) → old.replicas ≡ w.replicas → old.messages ≡ w.messages → w.events < EVENTS → Sends old r next →
      IsKept (standing_of w.program w.declaration next w.updates (w.events + 1)) m
  send_kept r old next replicas messages room sends =
      let so_far : w.updates ≤ w.events = kept.few_updates in
      let few : length w.messages ≤ w.events = kept.few_messages in
      let longer : length (w.messages ++ sends.version ∷ []) ≡ length w.messages + 1 = length-append w.messages (sends.version ∷ []) in
      let at : slice_get w.replicas r ≡ Some sends.version = ap (λ (vs : List Version). slice_get vs r) (sym replicas) ∙ sends.is_version in
      let is : next ≡ record { replicas = w.replicas; messages = w.messages ++ sends.version ∷ [] } =
      sends.added ∙ (λ i. record { replicas = replicas i; messages = messages i ++ sends.version ∷ [] }) in
      subst (λ (h : Holdings). IsKept (standing_of w.program w.declaration h w.updates (w.events + 1)) m) (sym is) (record {
        replica = kept.replica;
        declared = kept.declared;
        serves = kept.serves;
        replicas = kept.replicas;
        messages = record {
          each = λ i version there. elim (last_or_before w.messages sends.version i version there) [
            | inl before ↦ kept.messages.each i version before
            | inr last ↦ subst (IsSound w.program kept.replica w.updates) (sym last.1) (kept.replicas.each r sends.version at)
          ];
        };
        many = kept.many;
        few_updates = omega (arith, so_far);
        few_messages = omega (arith, few, longer);
        few_events = omega (arith, room);
      })

  -- The world after a show.
  pub show_kept : w.events < EVENTS → IsKept (record w { events = w.events + 1 }) m
  show_kept room =
      let so_far : w.updates ≤ w.events = kept.few_updates in
      let few : length w.messages ≤ w.events = kept.few_messages in
      record {
        replica = kept.replica;
        declared = kept.declared;
        serves = kept.serves;
        replicas = kept.replicas;
        messages = kept.messages;
        many = kept.many;
        few_updates = omega (arith, so_far);
        few_messages = omega (arith, few);
        few_events = omega (arith, room);
      }

pub send_taken : (w : Standing) (r budget : ℕ) (old next : Holdings) → old.replicas ≡ w.replicas → old.messages ≡ w.messages → Sends old r next → (P : Program) (R : ReplicaDef) →
    HappensWithin w P R (event.Send r) budget (standing_of w.program w.declaration next w.updates (w.events + 1)) None
send_taken w r budget old next replicas messages sends P R =
    let at : slice_get w.replicas r ≡ Some sends.version = ap (λ (vs : List Version). slice_get vs r) (sym replicas) ∙ sends.is_version in
    let is : next ≡ record { replicas = w.replicas; messages = w.messages ++ sends.version ∷ [] } =
    sends.added ∙ (λ i. record { replicas = replicas i; messages = messages i ++ sends.version ∷ [] }) in
    let new : standing_of w.program w.declaration next w.updates (w.events + 1) ≡ record w { messages = w.messages ++ sends.version ∷ []; events = w.events + 1 } =
    ap (λ (h : Holdings). standing_of w.program w.declaration h w.updates (w.events + 1)) is in
    record { calls = 0; happens = send sends.version at new refl refl; within = omega arith }

pub show_taken : (w : Standing) (r budget : ℕ) (new : Standing) (shown : Shown) → IsShown w r shown → new ≡ record w { events = w.events + 1 } → (P : Program) (R : ReplicaDef) →
    HappensWithin w P R (event.Show r) budget new (Some shown)
show_taken w r budget new shown it is P R =
    record { calls = 0; happens = show it.version it.is_version is refl (ap (λ (s : Shown). Some s) it.is); within = omega arith }

pub shown_so : (w : Standing) (r : ℕ) (version : Version) (slice numbers : List ℕ) (value : Value) → slice_get w.replicas r ≡ Some version → slice ≡ version.numbers → numbers ≡ slice →
    value ≡ version.state → IsShown w r (record { replica = r; numbers = numbers; value = value })
shown_so w r version slice numbers value at lent copied state =
    record { version = version; is_version = at; is = λ i. record { replica = r; numbers = (copied ∙ lent) i; value = state i } }
