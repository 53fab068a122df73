-- Where the merge joins, a join of updates is the least upper bound of the first value and theirs, so it depends on their set alone.
use Rattle.std.proofs.Common.{◌≡◌, ◌↔◌, ℕ, List, [], ◌∷◌, Some, Contains, inl, inr, slice_get, refl, sym, subst}
use Rattle.px_terms.specs.declared.term.Term.{out-Term}
use Rattle.px_terms.specs.declared.term.Value.{Value}
use Rattle.px_terms.specs.declared.program.ReplicaDef.{ReplicaDef}
use Rattle.px_terms.specs.declared.program.Program.{Program}
use Rattle.px_terms.specs.Values.{IsIn}
use Rattle.px_terms.specs.Meaning.{Gives}
use Rattle.px_terms.specs.TypedPrograms.{IsTypedReplica}
use Rattle.px_terms.specs.Extending.{IsWellFounded}
use Rattle.px_totality.specs.Laws.{ExactlyOne}
use Rattle.px_totality.proofs.Unique.{unique}
use Rattle.px_totality.proofs.EachHasValue.{each_call}
use Rattle.px_schedule.specs.declared.schedule.Event.{Event}
use Rattle.px_schedule.specs.declared.schedule.Event.TheVariants.{Update}
use Rattle.px_replicas.specs.Joins.{IsMerged, IsContributed, Gathers, done, more, IsJoin, Commute, Associate, MergeJoins}
use Rattle.px_replicas.specs.Events.{HasState}
use Rattle.px_replicas.specs.Laws.{JoinOfASet}
use Rattle.px_replicas.proofs.Semilattices.{Merged}
use Rattle.px_replicas.proofs.Semilattices as semilattice
use Rattle.px_replicas.proofs.RisingLists.{In, in_contains, contains_in}
use Rattle.px_replicas.proofs.Outputs.{one_contributed, one_merge}
use Rattle.px_replicas.proofs.MergeTyping.{merge_gives}
use Rattle.px_replicas.proofs.DeclaredReplicas.{founded_of, typed_of, first_is_state}

module _ (P : Program) (R : ReplicaDef) (founded : IsWellFounded P) (typed : IsTypedReplica P R) (joins : MergeJoins P R) where
  abbrev pub D : Value → Type 0
  D v = IsIn P R.state v

  abbrev pub M : Value → Value → Value → Type 0
  M a b v = IsMerged P R a b v

  pub total : (a b : Value) → D a → D b → Merged D M a b
  total a b da db =
      let it : ExactlyOne P R.state (Gives P R.merge R.funs (a ∷ b ∷ [])) = merge_gives P R (each_call P founded) typed a b da db in
      record { value = it.value; there = it.in_type; is = record { calls = it.count; merges = it.given } }

  pub one : (a b v w : Value) → M a b v → M a b w → v ≡ w
  one a b v w m n = (one_merge P R a b v w m.calls n.calls m.merges n.merges).0

  comm : (a b v : Value) → D a → D b → M a b v → M b a v
  comm a b v da db m =
      let it : Commute P R a b = joins.comm a b da db in
      subst (M b a) (one a b it.both v it.one_way m) it.other_way

  pub assoc : (a b c x y v : Value) → D a → D b → D c → M a b x → M b c y → M x c v → M a y v
  assoc a b c x y v da db dc front behind all =
      let it : Associate P R a b c = joins.assoc a b c da db dc in
      let from_front : M x c it.all = subst (λ (x : Value). M x c it.all) (one a b it.front x it.is_front front) it.from_front in
      let from_back : M a y it.all = subst (λ (y : Value). M a y it.all) (one b c it.back y it.is_back behind) it.from_back in
      subst (M a y) (one x c it.all v from_front all) from_back

  idem : (a : Value) → D a → M a a a
  idem a da = joins.idem a da

  pub there_is : (a b v : Value) → D a → D b → M a b v → D v
  there_is a b v da db m = semilattice.there_is D M total one comm assoc idem a b v da db m

  pub takes_first : (a b v : Value) → D a → D b → M a b v → M v a v
  takes_first a b v da db m = semilattice.takes_first D M total one comm assoc idem a b v da db m

  takes_second : (a b v : Value) → D a → D b → M a b v → M v b v
  takes_second a b v da db m = semilattice.takes_second D M total one comm assoc idem a b v da db m

  pub takes_through : (u a b : Value) → D u → D a → D b → M u a u → M a b a → M u b u
  takes_through u a b du da db ua ab = semilattice.takes_through D M total one comm assoc idem u a b du da db ua ab

  takes_both : (u a b v : Value) → D u → D a → D b → M u a u → M u b u → M a b v → M u v u
  takes_both u a b v du da db ua ub m = semilattice.takes_both D M total one comm assoc idem u a b v du da db ua ub m

  take_each_other : (u v : Value) → D u → D v → M u v u → M v u v → u ≡ v
  take_each_other u v du dv uv vu = semilattice.take_each_other D M total one comm assoc idem u v du dv uv vu

  module _ (events : List Event) (of_type : (i : ℕ) (e : Event) → slice_get events i ≡ Some e → HasState P R e) where
    contributed : (n : ℕ) (b : Value) → IsContributed events n b → D b
    contributed n b is = of_type is.place (Update is.replica b) is.update.stands

    -- The value takes in each of these updates.
    record Takes (u : Value) (numbers : List ℕ) : Type 0 where
      each : (n : ℕ) (b : Value) → In numbers n → IsContributed events n b → M u b u

    -- The value is of the state's type, and takes in the first value and each of these updates.
    record IsAbove (a : Value) (numbers : List ℕ) (v : Value) : Type 0 where
      there : D v
      first : M v a v
      updates : Takes v numbers

    -- what updates are merged to takes them in
    is_above : (a v : Value) (numbers : List ℕ) → Gathers P R events a numbers v → D a → IsAbove a numbers v
    is_above a v _ (done e) da =
        let itself : IsAbove a [] a = record { there = da; first = idem a da; updates = record { each = λ n b none is. absurd none } } in
        subst (IsAbove a []) (sym e) itself
    is_above a w _ (more {b = b} {v = x} {n = n} {numbers = numbers} is m g) da =
        let db : D b = contributed n b is in
        let dx : D x = there_is a b x da db m in
        let rest : IsAbove x numbers w = is_above x w numbers g dx in
        let of_first : M w a w = takes_through w x a rest.there dx da rest.first (takes_first a b x da db m) in
        let of_next : M w b w = takes_through w x b rest.there dx db rest.first (takes_second a b x da db m) in
        record { there = rest.there; first = of_first; updates = record { each = λ k c within contributes. by rest.updates of_next k c within contributes } }
      where
        by : Takes w numbers → M w b w → (k : ℕ) (c : Value) → In (n ∷ numbers) k → IsContributed events k c → M w c w
        by others of_next k c (inl e) contributes =
            let same : b ≡ c = one_contributed events n b c is (subst (λ (k : ℕ). IsContributed events k c) e contributes) in
            subst (λ (c : Value). M w c w) same of_next
        by others of_next k c (inr within) contributes = others.each k c within contributes

    -- and each value that takes them in takes it in
    is_least : (a v u : Value) (numbers : List ℕ) → Gathers P R events a numbers v → D a → D u → M u a u → Takes u numbers → M u v u
    is_least a v u _ (done e) da du ua takes = subst (λ (v : Value). M u v u) (sym e) ua
    is_least a w u _ (more {b = b} {v = x} {n = n} {numbers = numbers} is m g) da du ua takes =
        let db : D b = contributed n b is in
        let dx : D x = there_is a b x da db m in
        let ux : M u x u = takes_both u a b x du da db ua (takes.each n b (inl refl) is) m in
        is_least x w u numbers g dx du ux (record { each = λ k c within contributes. takes.each k c (inr within) contributes })

    -- a value that takes in these updates takes in any of them
    fewer : (u : Value) (ones others : List ℕ) → ((n : ℕ) → Contains ones n → Contains others n) → Takes u others → Takes u ones
    fewer u ones others within takes = record {
      each = λ n b there is. takes.each n b (contains_in others n (within n (in_contains ones n there))) is;
    }

    same_set : (ones others : List ℕ) (v w : Value) → ((n : ℕ) → Contains ones n ↔ Contains others n) → IsJoin P R events ones v → IsJoin P R events others w → v ≡ w
    same_set ones others v w same one_join other_join =
        let first : other_join.first ≡ one_join.first =
        (unique P [] [] [] [] (out-Term R.from) other_join.first one_join.first other_join.calls one_join.calls other_join.is_first one_join.is_first).0 in
        let da : D one_join.first = first_is_state P R founded typed one_join.first one_join.calls one_join.is_first in
        let moved : Gathers P R events one_join.first others w = subst (λ (a : Value). Gathers P R events a others w) first other_join.gathers in
        let up : IsAbove one_join.first ones v = is_above one_join.first v ones one_join.gathers da in
        let down : IsAbove one_join.first others w = is_above one_join.first w others moved da in
        let w_takes : M w v w =
        is_least one_join.first v w ones one_join.gathers da down.there down.first (fewer w ones others (λ n. (same n).0) down.updates) in
        let v_takes : M v w v =
        is_least one_join.first w v others moved da up.there up.first (fewer v others ones (λ n. (same n).1) up.updates) in
        take_each_other v w up.there down.there v_takes w_takes

pub join_of_a_set : JoinOfASet
join_of_a_set P R declaration checked at joins events of_type ones others v w same one other =
    same_set P R (founded_of checked) (typed_of declaration checked at) joins events of_type ones others v w same one other
