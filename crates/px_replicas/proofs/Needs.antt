-- An event asks for one number of calls: what a message holds has one join, as what a replica holds has.
use Rattle.std.proofs.Common.{◌≡◌, ℕ, List, Some, sym, ◌∙◌, subst}
use Rattle.px_terms.specs.declared.term.Value.{Value}
use Rattle.px_terms.specs.declared.program.ReplicaDef.{ReplicaDef}
use Rattle.px_terms.specs.declared.program.Program.{Program}
use Rattle.px_schedule.specs.declared.schedule.Event.{Event}
use Rattle.px_schedule.specs.declared.schedule.Event.TheVariants.{Update, Send, Deliver, Show}
use Rattle.px_replicas.specs.Held.{AreHeld}
use Rattle.px_replicas.specs.Joins.{Merges, IsState, IsMessage}
use Rattle.px_replicas.specs.Events.{at_update, at_delivery, at_send, at_show}
use Rattle.px_replicas.specs.Laws.{OneNeed}
use Rattle.px_replicas.proofs.Places.{one_sending}
use Rattle.px_replicas.proofs.Outputs.{one_set, same_join, one_merge, one_state}

-- what a message holds has one join
pub one_message : (P : Program) (R : ReplicaDef) (events : List Event) (k : ℕ) (ones others : List ℕ) (v w : Value) → IsMessage P R events k ones v →
    IsMessage P R events k others w → v ≡ w
one_message P R events k ones others v w one other =
    let sending : ℕ = other.sent.sending in
    let sender : ℕ = other.sent.sender in
    let places : (one.sent.sending ≡ sending) × (one.sent.sender ≡ sender) =
    one_sending events k one.sent.sending sending one.sent.sender sender one.sent.sends other.sent.sends in
    let held : AreHeld events sending sender ones =
    subst (λ (r : ℕ). AreHeld events sending r ones) places.1 (subst (λ (p : ℕ). AreHeld events p one.sent.sender ones) places.0 one.sent.held) in
    same_join P R events ones others v w (one_set _ _ ones others held other.sent.held (λ n. (λ h. h, λ h. h))) one.join other.join

-- the merge of equal values takes one number of calls
same_calls : (P : Program) (R : ReplicaDef) (a b d e v w : Value) (x y : ℕ) → a ≡ d → b ≡ e → Merges P R a b v x → Merges P R d e w y → x ≡ y
same_calls P R a b d e v w x y first second one other =
    let moved : Merges P R d e v x = subst (λ (z : Value). Merges P R d z v x) second (subst (λ (z : Value). Merges P R z b v x) first one) in
    (one_merge P R d e v w x y moved other).1

pub one_need : OneNeed
one_need P R events i c d (at_update {r = r} {numbers = xs} {a = a} {b = b} {v = v} at state m)
    (at_update {r = s} {numbers = ys} {a = e} {b = f} {v = w} there other k) =
    let h : Some (Update r b) ≡ Some (Update s f) = sym at ∙ there in
    let place : r ≡ s = cc in
    let value : b ≡ f = cc in
    let moved : IsState P R events i s xs a = subst (λ (r : ℕ). IsState P R events i r xs a) place state in
    same_calls P R a b e f v w c d (one_state P R events i s xs ys a e moved other).1 value m k
one_need P R events i c d (at_update {r = r} {b = b} at state m) (at_delivery {k = k} {r = s} there other message n) =
    let h : Some (Update r b) ≡ Some (Deliver k s) = sym at ∙ there in
    absurd cc
one_need P R events i c d (at_update {r = r} {b = b} at state m) (at_send {r = s} there none) =
    let h : Some (Update r b) ≡ Some (Send s) = sym at ∙ there in
    absurd cc
one_need P R events i c d (at_update {r = r} {b = b} at state m) (at_show {r = s} there none) =
    let h : Some (Update r b) ≡ Some (Show s) = sym at ∙ there in
    absurd cc
one_need P R events i c d (at_delivery {k = k} {r = r} at state message m) (at_update {r = s} {b = f} there other n) =
    let h : Some (Deliver k r) ≡ Some (Update s f) = sym at ∙ there in
    absurd cc
one_need P R events i c d (at_delivery {k = k} {r = r} {numbers = xs} {others = us} {a = a} {b = b} {v = v} at state message m)
    (at_delivery {k = l} {r = s} {numbers = ys} {others = ws} {a = e} {b = f} {v = w} there other sent n) =
    let h : Some (Deliver k r) ≡ Some (Deliver l s) = sym at ∙ there in
    let number : k ≡ l = cc in
    let place : r ≡ s = cc in
    let moved : IsState P R events i s xs a = subst (λ (r : ℕ). IsState P R events i r xs a) place state in
    let same : IsMessage P R events l us b = subst (λ (k : ℕ). IsMessage P R events k us b) number message in
    same_calls P R a b e f v w c d (one_state P R events i s xs ys a e moved other).1 (one_message P R events l us ws b f same sent) m n
one_need P R events i c d (at_delivery {k = k} {r = r} at state message m) (at_send {r = s} there none) =
    let h : Some (Deliver k r) ≡ Some (Send s) = sym at ∙ there in
    absurd cc
one_need P R events i c d (at_delivery {k = k} {r = r} at state message m) (at_show {r = s} there none) =
    let h : Some (Deliver k r) ≡ Some (Show s) = sym at ∙ there in
    absurd cc
one_need P R events i c d (at_send {r = r} at none) (at_update {r = s} {b = f} there other n) =
    let h : Some (Send r) ≡ Some (Update s f) = sym at ∙ there in
    absurd cc
one_need P R events i c d (at_send {r = r} at none) (at_delivery {k = k} {r = s} there other message n) =
    let h : Some (Send r) ≡ Some (Deliver k s) = sym at ∙ there in
    absurd cc
one_need P R events i c d (at_send at none) (at_send there zero) = none ∙ sym zero
one_need P R events i c d (at_send at none) (at_show there zero) = none ∙ sym zero
one_need P R events i c d (at_show {r = r} at none) (at_update {r = s} {b = f} there other n) =
    let h : Some (Show r) ≡ Some (Update s f) = sym at ∙ there in
    absurd cc
one_need P R events i c d (at_show {r = r} at none) (at_delivery {k = k} {r = s} there other message n) =
    let h : Some (Show r) ≡ Some (Deliver k s) = sym at ∙ there in
    absurd cc
one_need P R events i c d (at_show at none) (at_send there zero) = none ∙ sym zero
one_need P R events i c d (at_show at none) (at_show there zero) = none ∙ sym zero
