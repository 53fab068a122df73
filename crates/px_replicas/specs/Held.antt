-- Which updates a replica holds, and which a message holds. Events stand at places from 0; the first i events are those below place i.
-- Updates and messages are numbered from 0 in the order of the events that contribute and send them.
use Rattle.std.specs.Prelude.{◌≡◌, ℕ, ◌<◌, Bool, true, false, List, take, Some, slice_get, Contains, ◌⊎◌, ◌↔◌, count_by}
use Rattle.std.specs.List.{AllPairs}
use Rattle.px_terms.specs.declared.term.Value.{Value}
use Rattle.px_schedule.specs.declared.schedule.Event.{Event}
use Rattle.px_schedule.specs.declared.schedule.Event.TheVariants.{Update, Send, Deliver, Show}

-- an event that contributes a value
abbrev pub is_update : Event → Bool
is_update (Update r v) = true
is_update (Send r) = false
is_update (Deliver k r) = false
is_update (Show r) = false

-- an event that sends a message
abbrev pub is_send : Event → Bool
is_send (Update r v) = false
is_send (Send r) = true
is_send (Deliver k r) = false
is_send (Show r) = false

-- how many values were contributed by the first i events
abbrev pub updates_before : List Event → ℕ → ℕ
updates_before events i = count_by is_update (take i events)

-- how many messages were sent by the first i events
abbrev pub sends_before : List Event → ℕ → ℕ
sends_before events i = count_by is_send (take i events)

-- At this place the value is contributed at replica r, as the update of this number.
pub record IsUpdateAt (events : List Event) (place r : ℕ) (v : Value) (n : ℕ) : Type 0 where
  pub stands : slice_get events place ≡ Some (Update r v)
  pub number : n ≡ updates_before events place

-- At this place replica r sends the message of this number.
pub record IsSendAt (events : List Event) (place r k : ℕ) : Type 0 where
  pub stands : slice_get events place ≡ Some (Send r)
  pub number : k ≡ sends_before events place

-- At this place message k reaches replica r.
pub record IsDeliveryAt (events : List Event) (place k r : ℕ) : Type 0 where
  pub stands : slice_get events place ≡ Some (Deliver k r)

-- After the first i events replica r holds update n: one of them contributed it at r, or one of them delivered to r a message whose
-- sender held it just before the sending. A message that is never delivered adds nothing; it may come often, late and in any order.
pub data Holds (events : List Event) (n : ℕ) : ℕ → ℕ → Type 0 where
  own : {i r place : ℕ} {v : Value} → place < i → IsUpdateAt events place r v n → Holds events n i r
  received : {i r place k sending sender : ℕ} → place < i → IsDeliveryAt events place k r → sending < place → IsSendAt events sending sender k →
      Holds events n sending sender → Holds events n i r

-- The numbers are those of a set, each once, rising.
pub record AreRising (numbers : List ℕ) (In : ℕ → Type 0) : Type 0 where
  pub rising : AllPairs (λ (m n : ℕ). m < n) numbers
  pub each : (n : ℕ) → Contains numbers n ↔ In n

-- the numbers are those of either list, each once, rising
abbrev pub IsUnion : List ℕ → List ℕ → List ℕ → Type 0
IsUnion one other both = AreRising both (λ (n : ℕ). Contains one n ⊎ Contains other n)

-- what replica r holds after the first i events
abbrev pub AreHeld : List Event → ℕ → ℕ → List ℕ → Type 0
AreHeld events i r numbers = AreRising numbers (λ (n : ℕ). Holds events n i r)

-- What message k holds: what its sender held just before the sending.
pub record AreSent (events : List Event) (k : ℕ) (numbers : List ℕ) : Type 0 where
  pub sending : ℕ
  pub sender : ℕ
  pub sends : IsSendAt events sending sender k
  pub held : AreHeld events sending sender numbers
