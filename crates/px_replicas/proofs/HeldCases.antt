-- What each event adds to what is held.
use Rattle.std.proofs.Common.{◌≡◌, ◌⊎◌, inl, inr, ◌↔◌, ℕ, ◌+◌, ◌<◌, ◌≤◌, List, Some, slice_get, Contains, refl, sym, ap, ◌∙◌, subst, arith}
use Rattle.std.proofs.lemmas.Bool.{cases_lt}
use Rattle.px_terms.specs.declared.term.Value.{Value}
use Rattle.px_schedule.specs.declared.schedule.Event.{Event}
use Rattle.px_schedule.specs.declared.schedule.Event.TheVariants.{Update, Send, Deliver, Show}
use Rattle.px_replicas.specs.Held.{updates_before, IsUpdateAt, IsSendAt, IsDeliveryAt, Holds, own, received, AreSent}
use Rattle.px_replicas.specs.Laws.{HeldGoesOn, HeldByCases}
use Rattle.px_replicas.proofs.Places.{one_sending}

nothing_before : (events : List Event) (n i r : ℕ) → Holds events n i r → i ≡ 0 → ⊥
nothing_before events n i r (own below update) zero = omega (arith, below, zero)
nothing_before events n i r (received below delivery before send holds) zero = omega (arith, below, zero)

-- what is held stays held
pub later : (events : List Event) (n i j r : ℕ) → i ≤ j → Holds events n i r → Holds events n j r
later events n i j r le (own {place = p} {v = v} below update) = own {place = p} {v = v} (omega (arith, below, le)) update
later events n i j r le (received {place = p} {k = k} {sending = s} {sender = q} below delivery before send holds) =
    received {place = p} {k = k} {sending = s} {sender = q} (omega (arith, below, le)) delivery before send holds

-- The event at place i contributes the update at the replica.
record IsOwn (events : List Event) (n i r : ℕ) : Type 0 where
  value : Value
  update : IsUpdateAt events i r value n

-- The event at place i delivers the update to the replica.
record IsReceived (events : List Event) (n i r : ℕ) : Type 0 where
  message : ℕ
  sending : ℕ
  sender : ℕ
  delivery : IsDeliveryAt events i message r
  before : sending < i
  send : IsSendAt events sending sender message
  holds : Holds events n sending sender

-- what is held after one event more was held before, or that event contributes or delivers it
newest : (events : List Event) (n i j r : ℕ) → Holds events n j r → j ≡ i + 1 → Holds events n i r ⊎ (IsOwn events n i r ⊎ IsReceived events n i r)
newest events n i j r (own {place = p} {v = v} below update) next = elim (cases_lt p i) [
  | inl lt ↦ inl (own {place = p} {v = v} lt update)
  | inr ge ↦
      let same : p ≡ i = omega (arith, below, next, ge) in
      inr (inl (record { value = v; update = subst (λ (p : ℕ). IsUpdateAt events p r v n) same update }))
]
newest events n i j r (received {place = p} {k = k} {sending = s} {sender = q} below delivery before send holds) next = elim (cases_lt p i) [
  | inl lt ↦ inl (received {place = p} {k = k} {sending = s} {sender = q} lt delivery before send holds)
  | inr ge ↦
      let same : p ≡ i = omega (arith, below, next, ge) in
      inr (inr (record {
        message = k;
        sending = s;
        sender = q;
        delivery = subst (λ (p : ℕ). IsDeliveryAt events p k r) same delivery;
        before = omega (arith, before, same);
        send = send;
        holds = holds;
      }))
]

module _ (events : List Event) (i : ℕ) where
  grows : (q n : ℕ) → Holds events n i q → Holds events n (i + 1) q
  grows q n held = later events n i (i + 1) q (omega arith) held

  at_update : (r : ℕ) (v : Value) → slice_get events i ≡ Some (Update r v) → (q n : ℕ) →
      Holds events n (i + 1) q ↔ (Holds events n i q ⊎ ((q ≡ r) × (n ≡ updates_before events i)))
  at_update r v at q n = (there, back)
    where
      by : Holds events n i q ⊎ (IsOwn events n i q ⊎ IsReceived events n i q) → Holds events n i q ⊎ ((q ≡ r) × (n ≡ updates_before events i))
      by (inl held) = inl held
      by (inr (inl is)) =
          let h : Some (Update q is.value) ≡ Some (Update r v) = sym is.update.stands ∙ at in
          let same : q ≡ r = cc in
          inr (same, is.update.number)
      by (inr (inr is)) =
          let h : Some (Deliver is.message q) ≡ Some (Update r v) = sym is.delivery.stands ∙ at in
          absurd cc

      there : Holds events n (i + 1) q → Holds events n i q ⊎ ((q ≡ r) × (n ≡ updates_before events i))
      there held = by (newest events n i (i + 1) q held refl)

      back : Holds events n i q ⊎ ((q ≡ r) × (n ≡ updates_before events i)) → Holds events n (i + 1) q
      back (inl held) = grows q n held
      back (inr both) =
          let stands : slice_get events i ≡ Some (Update q v) = at ∙ ap (λ (r : ℕ). Some (Update r v)) (sym both.0) in
          own {place = i} {v = v} (omega arith) (record { stands = stands; number = both.1 })

  -- an event that neither contributes nor delivers adds nothing
  module _ (e : Event) (at : slice_get events i ≡ Some e) (no_update : (q : ℕ) (v : Value) → Some (Update q v) ≡ Some e → ⊥)
      (no_delivery : (k q : ℕ) → Some (Deliver k q) ≡ Some e → ⊥) where
    adds_nothing : (q n : ℕ) → Holds events n (i + 1) q ↔ Holds events n i q
    adds_nothing q n = (λ held. by (newest events n i (i + 1) q held refl), grows q n)
      where
        by : Holds events n i q ⊎ (IsOwn events n i q ⊎ IsReceived events n i q) → Holds events n i q
        by (inl held) = held
        by (inr (inl is)) = absurd (no_update q is.value (sym is.update.stands ∙ at))
        by (inr (inr is)) = absurd (no_delivery is.message q (sym is.delivery.stands ∙ at))

  at_send : (r : ℕ) → slice_get events i ≡ Some (Send r) → (q n : ℕ) → Holds events n (i + 1) q ↔ Holds events n i q
  at_send r at = adds_nothing (Send r) at (λ q v h. cc) (λ k q h. cc)

  at_show : (r : ℕ) → slice_get events i ≡ Some (Show r) → (q n : ℕ) → Holds events n (i + 1) q ↔ Holds events n i q
  at_show r at = adds_nothing (Show r) at (λ q v h. cc) (λ k q h. cc)

  at_delivery : (k r : ℕ) (sent : List ℕ) (sends : AreSent events k sent) → slice_get events i ≡ Some (Deliver k r) → sends.sending < i → (q n : ℕ) →
      Holds events n (i + 1) q ↔ (Holds events n i q ⊎ ((q ≡ r) × Contains sent n))
  at_delivery k r sent sends at before q n = (there, back)
    where
      by : Holds events n i q ⊎ (IsOwn events n i q ⊎ IsReceived events n i q) → Holds events n i q ⊎ ((q ≡ r) × Contains sent n)
      by (inl held) = inl held
      by (inr (inl is)) =
          let h : Some (Update q is.value) ≡ Some (Deliver k r) = sym is.update.stands ∙ at in
          absurd cc
      by (inr (inr is)) =
          let h : Some (Deliver is.message q) ≡ Some (Deliver k r) = sym is.delivery.stands ∙ at in
          let same : q ≡ r = cc in
          let number : is.message ≡ k = cc in
          let send : IsSendAt events is.sending is.sender k = subst (λ (k : ℕ). IsSendAt events is.sending is.sender k) number is.send in
          let places : (is.sending ≡ sends.sending) × (is.sender ≡ sends.sender) =
          one_sending events k is.sending sends.sending is.sender sends.sender send sends.sends in
          let held : Holds events n sends.sending sends.sender =
          subst (λ (r : ℕ). Holds events n sends.sending r) places.1 (subst (λ (p : ℕ). Holds events n p is.sender) places.0 is.holds) in
          inr (same, (sends.held.each n).1 held)

      there : Holds events n (i + 1) q → Holds events n i q ⊎ ((q ≡ r) × Contains sent n)
      there held = by (newest events n i (i + 1) q held refl)

      back : Holds events n i q ⊎ ((q ≡ r) × Contains sent n) → Holds events n (i + 1) q
      back (inl held) = grows q n held
      back (inr both) =
          let stands : slice_get events i ≡ Some (Deliver k q) = at ∙ ap (λ (r : ℕ). Some (Deliver k r)) (sym both.0) in
          received {place = i} {k = k} {sending = sends.sending} {sender = sends.sender} (omega arith) (record { stands = stands }) before sends.sends ((sends.held.each n).0 both.1)

  goes_on : HeldGoesOn events i
  goes_on = record { at_update = at_update; at_send = at_send; at_delivery = at_delivery; at_show = at_show }

pub held_by_cases : HeldByCases
held_by_cases = record { before = λ events n r held. nothing_before events n 0 r held refl; goes_on = goes_on }
