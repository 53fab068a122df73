-- A schedule has one output: one list of what is shown, and one text; what is shown with the same numbers has one value.
use Rattle.std.proofs.Common.{◌≡◌, ◌⊎◌, inl, inr, ℕ, zero, suc, List, [], ◌∷◌, ◌++◌, Option, Some, None, refl, sym, ap, ◌∙◌, subst, arith, slice_get}
use Rattle.px_terms.specs.declared.program.ReplicaDef.{ReplicaDef}
use Rattle.px_terms.specs.declared.program.Program.{Program}
use Rattle.px_schedule.specs.declared.schedule.Event.{Event}
use Rattle.px_schedule.specs.declared.schedule.Event.TheVariants.{Show}
use Rattle.px_replicas.specs.declared.shown.Shown.{Shown}
use Rattle.px_replicas.specs.Joins.{IsState}
use Rattle.px_replicas.specs.Lines.{show_lines, shown_list, IsShownAt, IsAnswer, AreShown, none, more, AreLines}
use Rattle.px_replicas.proofs.Outputs.{one_state, same_join}

shown_alike : (P : Program) (R : ReplicaDef) (events : List Event) (i : ℕ) (s t : Shown) → IsShownAt P R events i s → IsShownAt P R events i t → s ≡ t
shown_alike P R events i s t one other =
    let h : Some (Show s.replica) ≡ Some (Show t.replica) = sym one.stands ∙ other.stands in
    let replica : s.replica ≡ t.replica = cc in
    let there : IsState P R events i t.replica s.numbers s.value = subst (λ (r : ℕ). IsState P R events i r s.numbers s.value) replica one.state in
    let both = one_state P R events i t.replica s.numbers t.numbers s.value t.value there other.state in
    λ k. record { replica = replica k; numbers = both.0 k; value = both.1 k }

one_answer : (P : Program) (R : ReplicaDef) (events : List Event) (i : ℕ) (a b : Option Shown) → IsAnswer P R events i a → IsAnswer P R events i b → a ≡ b
one_answer P R events i None None one other = refl
one_answer P R events i None (Some t) one other = absurd (one t.replica other.stands)
one_answer P R events i (Some s) None one other = absurd (other s.replica one.stands)
one_answer P R events i (Some s) (Some t) one other = ap (λ (x : Shown). Some x) (shown_alike P R events i s t one other)

pub one_shown : (P : Program) (R : ReplicaDef) (events : List Event) (i j : ℕ) (xs ys : List Shown) → i ≡ j → AreShown P R events i xs → AreShown P R events j ys → xs ≡ ys
one_shown P R events i j xs ys same (none z e) (none w f) = e ∙ sym f
one_shown P R events i j xs ys same (none z e) (more {i = n} answer before is next f) = let wrong : ⊥ = omega (arith, same, z, next) in absurd wrong
one_shown P R events i j xs ys same (more {i = n} answer before is next f) (none z e) = let wrong : ⊥ = omega (arith, same, z, next) in absurd wrong
one_shown P R events i j xs ys same (more {i = n} {before = us} a before is next e) (more {i = m} {before = vs} b back was then f) =
    let places : n ≡ m = omega (arith, same, next, then) in
    let fronts : us ≡ vs = one_shown P R events n m us vs places before back in
    let answers : a ≡ b = one_answer P R events m a b (subst (λ (k : ℕ). IsAnswer P R events k a) places is) was in
    e ∙ (λ k. fronts k ++ shown_list (answers k)) ∙ sym f

pub one_text : (P : Program) (R : ReplicaDef) (events : List Event) (i : ℕ) (one other : List ℕ) → AreLines P R events i one → AreLines P R events i other → one ≡ other
one_text P R events i one other a b = a.whole ∙ ap (show_lines P.names) (one_shown P R events i i a.all b.all refl a.shown b.shown) ∙ sym b.whole

get_append : {A : Type 0} (xs ys : List A) (j : ℕ) (s : A) → slice_get (xs ++ ys) j ≡ Some s → (slice_get xs j ≡ Some s) ⊎ ((k : ℕ) × (slice_get ys k ≡ Some s))
get_append [] ys j s e = inr (j, e)
get_append (x ∷ xs) ys zero s e = inl e
get_append (x ∷ xs) ys (suc j) s e = get_append xs ys j s e

-- Where something was shown.
record Somewhere (P : Program) (R : ReplicaDef) (events : List Event) (s : Shown) : Type 0 where
  place : ℕ
  is : IsShownAt P R events place s

answered : (P : Program) (R : ReplicaDef) (events : List Event) (i : ℕ) (answer : Option Shown) (k : ℕ) (s : Shown) → IsAnswer P R events i answer → slice_get (shown_list answer) k ≡ Some s →
    Somewhere P R events s
answered P R events i None k s is e = absurd cc
answered P R events i (Some t) zero s is e = let same : t ≡ s = cc in record { place = i; is = subst (IsShownAt P R events i) same is }
answered P R events i (Some t) (suc k) s is e = absurd cc

shown_somewhere : (P : Program) (R : ReplicaDef) (events : List Event) (i : ℕ) (all : List Shown) (j : ℕ) (s : Shown) → AreShown P R events i all → slice_get all j ≡ Some s →
    Somewhere P R events s
shown_somewhere P R events i all j s (none z e) at = let wrong : slice_get {X = Shown} [] j ≡ Some s = ap (λ (xs : List Shown). slice_get xs j) (sym e) ∙ at in absurd cc
shown_somewhere P R events i all j s (more {i = n} {before = us} answer before is next e) at =
    elim (get_append us (shown_list answer) j s (ap (λ (xs : List Shown). slice_get xs j) (sym e) ∙ at)) [
      | inl front ↦ shown_somewhere P R events n us j s before front
      | inr back ↦ answered P R events n answer back.0 s is back.1
    ]

pub same_numbers : (P : Program) (R : ReplicaDef) (events : List Event) (i : ℕ) (all : List Shown) → AreShown P R events i all →
    (j k : ℕ) (s t : Shown) → slice_get all j ≡ Some s → slice_get all k ≡ Some t → s.numbers ≡ t.numbers → s.value ≡ t.value
same_numbers P R events i all are j k s t at there same =
    same_join P R events s.numbers t.numbers s.value t.value same (shown_somewhere P R events i all j s are at).is.state.join (shown_somewhere P R events i all k t are there).is.state.join
