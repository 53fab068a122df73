-- A world at its start.
use Rattle.std.proofs.Common.{◌≡◌, ℕ, zero, suc, ◌<◌, ◌≤◌, List, [], length, replicate, Some, slice_get, Contains, refl, sym, ap, ◌∙◌, subst, arith}
use Rattle.px_base.specs.declared.limits.TheConstants.{REPLICAS}
use Rattle.px_base.specs.declared.head.Head.TheVariants as head
use Rattle.px_terms.specs.declared.program.ReplicaDef.{ReplicaDef}
use Rattle.px_terms.specs.declared.program.Program.{Program}
use Rattle.px_terms.specs.declared.term.Value.{Value}
use Rattle.px_terms.specs.Meaning.{Means}
use Rattle.px_terms.specs.Extending.{IsWellFounded}
use Rattle.px_terms.specs.TypedPrograms.{IsTypedReplica}
use Rattle.px_descent.specs.Checked.{IsChecked}
use Rattle.px_machine.specs.declared.code.Code.{Code}
use Rattle.px_machine.specs.Standing.{Stands}
use Rattle.px_schedule.specs.declared.schedule.Event.{Event}
use Rattle.px_replicas.specs.declared.merge.Merge.{Merge}
use Rattle.px_replicas.specs.declared.version.Version.{Version}
use Rattle.px_replicas.specs.Held.{AreHeld}
use Rattle.px_replicas.specs.Joins.{done, IsJoin, IsState, IsMessage}
use Rattle.px_replicas.specs.Holdings.{Holdings}
use Rattle.px_replicas.specs.Keeping.{AreInOrder}
use Rattle.px_replicas.specs.Worlds.{IsNew, StandsFor}
use Rattle.px_replicas.specs.Serving.{built_value, IsMergeOf, IsSound, IsKept, standing_of}
use Rattle.px_replicas.proofs.FirstSteps.{built_means}
use Rattle.px_replicas.proofs.MergeTyping.{merge_defined}
use Rattle.px_replicas.proofs.DeclaredReplicas.{founded_of, typed_of, first_is_state}
use Rattle.px_replicas.proofs.HeldCases.{held_by_cases}
use Rattle.px_replicas.proofs.Places.{one_some}

-- each of so many equal items
one_of_equal : {A : Type 0} (n : ℕ) (x : A) (i : ℕ) (y : A) → slice_get (replicate n x) i ≡ Some y → y ≡ x
one_of_equal zero x i y e = absurd cc
one_of_equal (suc n) x zero y e = cc
one_of_equal (suc n) x (suc i) y e = one_of_equal n x i y e

so_many : {A : Type 0} (n : ℕ) (x : A) → length (replicate n x) ≡ n
so_many zero x = refl
so_many (suc n) x = ap suc (so_many n x)

no_item : {A : Type 0} (i : ℕ) (y : A) (B : Type 0) → slice_get [] i ≡ Some y → B
no_item i y B e = absurd cc

empty : (n : ℕ) → Contains [] n → ⊥
empty n there = let within : there.0 < 0 = there.1 in omega (arith, within)

-- before the first event nothing is held
none_is_held : (events : List Event) (r : ℕ) → AreHeld events 0 r []
none_is_held events r = record {
  rising = λ i j d lt within. absurd (omega arith);
  each = λ n. (λ there. absurd (empty n there), λ held. absurd (held_by_cases.before events n r held));
}

-- a declaration that is found in a program's list is the program's
pub found_there : (P Q : Program) (all : List ReplicaDef) (declaration : ℕ) (R : ReplicaDef) → Q ≡ P → all ≡ Q.replicas → Some R ≡ slice_get all declaration →
    slice_get P.replicas declaration ≡ Some R
found_there P Q all declaration R same lent found =
    ap (λ (S : Program). slice_get S.replicas declaration) (sym same) ∙ ap (λ (rs : List ReplicaDef). slice_get rs declaration) (sym lent) ∙ sym found

module _ (P : Program) (declaration : ℕ) (R : ReplicaDef) (checked : IsChecked P) (declared : slice_get P.replicas declaration ≡ Some R) where
  pub start_typed : IsTypedReplica P R
  start_typed = typed_of declaration checked declared

  -- the merge is a definition
  pub start_merges : (n : ℕ) × (R.merge.head ≡ head.Def n)
  start_merges = let it = merge_defined P R start_typed in (it.n, it.head)

  module _ (count : ℕ) (first : Version) (holdings : Holdings) (none : first.numbers ≡ []) (value : first.state ≡ built_value R.from)
      (replicas : holdings.replicas ≡ replicate count first) (messages : holdings.messages ≡ [])
    where
      founded : IsWellFounded P
      founded = founded_of checked

      first_means : Means P [] [] [] R.from first.state 0
      first_means = subst (λ (v : Value). Means P [] [] [] R.from v 0) (sym value) (built_means P [] [] [] R.from start_typed.built)

      first_sound : IsSound P R 0 first
      first_sound = record {
        typed = first_is_state P R founded start_typed first.state 0 first_means;
        rising = subst AreInOrder (sym none) (λ i j d lt within. absurd (omega arith));
        below = λ n there. absurd (empty n (subst (λ (ns : List ℕ). Contains ns n) none there));
      }

      many : length holdings.replicas ≡ count
      many = ap length replicas ∙ so_many count first

      is_first : (i : ℕ) (version : Version) → slice_get holdings.replicas i ≡ Some version → version ≡ first
      is_first i version at = one_of_equal count first i version (ap (λ (vs : List Version). slice_get vs i) (sym replicas) ∙ at)

      no_message : (k : ℕ) (version : Version) (B : Type 0) → slice_get holdings.messages k ≡ Some version → B
      no_message k version B at = no_item k version B (ap (λ (vs : List Version). slice_get vs k) (sym messages) ∙ at)

      pub start_kept : (code : Code) (m : Merge) → Stands code P → IsMergeOf code R m → count ≤ REPLICAS → IsKept (standing_of P declaration holdings 0 0) m
      start_kept code m stands is few =
          let none_sent : length holdings.messages ≡ 0 = ap length messages in
          record {
            replica = R;
            declared = declared;
            serves =
                record {
                  founded = founded;
                  typed = start_typed;
                  stands = subst (λ (k : Code). Stands k P) (sym is.over) stands;
                  merge = is.merge;
                  given = is.given;
                };
            replicas = record { each = λ i version at. subst (IsSound P R 0) (sym (is_first i version at)) first_sound };
            messages = record { each = λ k version at. no_message k version (IsSound P R 0 version) at };
            many = omega (arith, many, few);
            few_updates = omega arith;
            few_messages = omega (arith, none_sent);
            few_events = omega arith;
          }

      pub start_new : IsNew P declaration count (standing_of P declaration holdings 0 0)
      start_new = record {
        replica = R;
        runs = record { program = refl; declared = declared };
        is_declaration = refl;
        first = first;
        calls = 0;
        is_first = first_means;
        holds_none = none;
        replicas = replicas;
        messages = messages;
        updates = refl;
        events = refl;
      }

      first_state : (events : List Event) (r : ℕ) → IsState P R events 0 r first.numbers first.state
      first_state events r = record {
        held = subst (AreHeld events 0 r) (sym none) (none_is_held events r);
        join =
            subst (λ (ns : List ℕ). IsJoin P R events ns first.state) (sym none)
            (record { first = first.state; calls = 0; is_first = first_means; gathers = done refl });
      }

      pub start_stands : (S : ReplicaDef) → slice_get P.replicas declaration ≡ Some S → (events : List Event) → StandsFor P S count events 0 (standing_of P declaration holdings 0 0)
      start_stands S at events =
          let same : R ≡ S = one_some R S (sym declared ∙ at) in
          subst (λ (T : ReplicaDef). StandsFor P T count events 0 (standing_of P declaration holdings 0 0)) same (record {
            runs = record { program = refl; declared = declared };
            many = many;
            replicas =
                λ r version here. subst (λ (v : Version). IsState P R events 0 r v.numbers v.state) (sym (is_first r version here)) (first_state events r);
            sent = ap length messages;
            messages = λ k version there. no_message k version (IsMessage P R events k version.numbers version.state) there;
            updates = refl;
            taken = refl;
          })
