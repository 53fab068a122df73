-- What stands where in a list of events: events that are counted by a test have a number each, so each update and each message has one place.
use Rattle.std.proofs.Common.{◌≡◌, ℕ, zero, suc, ◌+◌, ◌<◌, Bool, true, cond, List, [], ◌∷◌, take, count_by, Some, refl, sym, ap, ◌∙◌, arith, inl, inr, slice_get}
use Rattle.std.proofs.lemmas.List.Sums.{sum_by-cons}
use Rattle.std.proofs.lemmas.Bool.{cases_lt}
use Rattle.px_terms.specs.declared.term.Value.{Value}
use Rattle.px_schedule.specs.declared.schedule.Event.{Event}
use Rattle.px_schedule.specs.declared.schedule.Event.TheVariants.{Update, Send}
use Rattle.px_replicas.specs.Held.{is_update, is_send, IsUpdateAt, IsSendAt}

pub one_some : {A : Type 0} (a b : A) → Some a ≡ Some b → a ≡ b
one_some a b e = cc

-- of the list with one more in front
pub counted : (test : Event → Bool) (x : Event) (xs : List Event) → count_by test (x ∷ xs) ≡ cond (test x) 1 0 + count_by test xs
counted test x xs = sum_by-cons (λ (e : Event). cond (test e) 1 0) x xs

-- what the test is true of counts for all places behind it
pub counts_later : (test : Event → Bool) (events : List Event) (p q : ℕ) (e : Event) → slice_get events p ≡ Some e → test e ≡ true → p < q →
    count_by test (take p events) < count_by test (take q events)
counts_later test [] p q e at is lt = absurd cc
counts_later test (x ∷ xs) p zero e at is lt = absurd (omega arith)
counts_later test (x ∷ xs) zero (suc q) e at is lt =
    let same : x ≡ e = one_some x e at in
    let one : cond {A = ℕ} (test x) 1 0 ≡ 1 = ap (λ (y : Event). cond {A = ℕ} (test y) 1 0) same ∙ ap (λ (b : Bool). cond {A = ℕ} b 1 0) is in
    let c : count_by test (take (suc q) (x ∷ xs)) ≡ cond (test x) 1 0 + count_by test (take q xs) = counted test x (take q xs) in
    let z : count_by test (take 0 (x ∷ xs)) ≡ 0 = refl in
    omega arith
counts_later test (x ∷ xs) (suc p) (suc q) e at is lt =
    let a : count_by test (take (suc p) (x ∷ xs)) ≡ cond (test x) 1 0 + count_by test (take p xs) = counted test x (take p xs) in
    let b : count_by test (take (suc q) (x ∷ xs)) ≡ cond (test x) 1 0 + count_by test (take q xs) = counted test x (take q xs) in
    let rest : count_by test (take p xs) < count_by test (take q xs) = counts_later test xs p q e at is (omega arith) in
    omega arith

-- two places of one number are one place
one_place : (test : Event → Bool) (events : List Event) (p q : ℕ) (e f : Event) → slice_get events p ≡ Some e → slice_get events q ≡ Some f → test e ≡ true →
    test f ≡ true → count_by test (take p events) ≡ count_by test (take q events) → p ≡ q
one_place test events p q e f at there is other same = elim (cases_lt p q) [
  | inl lt ↦ let less : count_by test (take p events) < count_by test (take q events) = counts_later test events p q e at is lt in absurd (omega (arith, less, same))
  | inr le ↦ elim (cases_lt q p) [
    | inl lt ↦ let less : count_by test (take q events) < count_by test (take p events) = counts_later test events q p f there other lt in absurd (omega (arith, less, same))
    | inr ge ↦ omega (arith, le, ge)
  ]
]

-- an update of one number is contributed at one place
pub one_update : (events : List Event) (n p q r s : ℕ) (v w : Value) → IsUpdateAt events p r v n → IsUpdateAt events q s w n → v ≡ w
one_update events n p q r s v w one other =
    let same : p ≡ q =
    one_place is_update events p q (Update r v) (Update s w) one.stands other.stands refl refl (sym one.number ∙ other.number) in
    let h : Some (Update r v) ≡ Some (Update s w) = sym one.stands ∙ ap (slice_get events) same ∙ other.stands in
    cc

-- a message of one number is sent at one place
pub one_sending : (events : List Event) (k p q r s : ℕ) → IsSendAt events p r k → IsSendAt events q s k → (p ≡ q) × (r ≡ s)
one_sending events k p q r s one other =
    let same : p ≡ q = one_place is_send events p q (Send r) (Send s) one.stands other.stands refl refl (sym one.number ∙ other.number) in
    let h : Some (Send r) ≡ Some (Send s) = sym one.stands ∙ ap (slice_get events) same ∙ other.stands in
    let sender : r ≡ s = cc in
    (same, sender)
