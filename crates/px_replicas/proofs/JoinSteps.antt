-- Where a merge joins, the merge of the joins of two lists of updates is the join of both.
use Rattle.std.proofs.Common.{◌≡◌, ◌⊎◌, inl, inr, ℕ, List, [], ◌∷◌, ◌++◌, Some, slice_get, Contains, refl, sym, subst}
use Rattle.px_terms.specs.declared.term.Term.{out-Term}
use Rattle.px_terms.specs.declared.term.Value.{Value}
use Rattle.px_terms.specs.declared.program.ReplicaDef.{ReplicaDef}
use Rattle.px_terms.specs.declared.program.Program.{Program}
use Rattle.px_terms.specs.Values.{IsIn}
use Rattle.px_terms.specs.TypedPrograms.{IsTypedReplica}
use Rattle.px_terms.specs.Extending.{IsWellFounded}
use Rattle.px_totality.proofs.Unique.{unique}
use Rattle.px_descent.specs.Checked.{IsChecked}
use Rattle.px_schedule.specs.declared.schedule.Event.{Event}
use Rattle.px_schedule.specs.declared.schedule.Event.TheVariants.{Update}
use Rattle.px_replicas.specs.Held.{IsUnion}
use Rattle.px_replicas.specs.Joins.{IsMerged, IsContributed, Gathers, done, more, IsJoin, MergeJoins}
use Rattle.px_replicas.specs.Events.{HasState}
use Rattle.px_replicas.specs.Laws.{JoinOfASet}
use Rattle.px_replicas.proofs.RisingLists.{In, in_contains, contains_in, in_append, in_front, in_back}
use Rattle.px_replicas.proofs.Semilattices.{Merged}
use Rattle.px_replicas.proofs.DeclaredReplicas.{first_is_state}
use Rattle.px_replicas.proofs.JoinOfSets as order

-- The update of this number has a value.
record IsUpdate (events : List Event) (n : ℕ) : Type 0 where
  value : Value
  is : IsContributed events n value

module _ (P : Program) (R : ReplicaDef) (founded : IsWellFounded P) (typed : IsTypedReplica P R) (joins : MergeJoins P R) where
  -- what took in a value's beginning takes in what is merged from it on
  keeps_first : (events : List Event) → ((i : ℕ) (e : Event) → slice_get events i ≡ Some e → HasState P R e) → (f s a : Value) (ns : List ℕ) → IsIn P R.state f → IsIn P R.state s →
      IsMerged P R s f s → Gathers P R events s ns a → IsMerged P R a f a
  keeps_first events values f s a [] df ds m (done e) = subst (λ (z : Value). IsMerged P R z f z) (sym e) m
  keeps_first events values f s a (n ∷ ns) df ds m (more {b = c} {v = y} is n_merged rest) =
      let dc : IsIn P R.state c = values is.place (Update is.replica c) is.update.stands in
      let dy : IsIn P R.state y = order.there_is P R founded typed joins s c y ds dc n_merged in
      let ys : IsMerged P R y s y = order.takes_first P R founded typed joins s c y ds dc n_merged in
      let yf : IsMerged P R y f y = order.takes_through P R founded typed joins y s f dy ds df ys m in
      keeps_first events values f y a ns df dy yf rest

  -- a merge with what is gathered is gathered from the merge with the beginning
  merged_in : (events : List Event) → ((i : ℕ) (e : Event) → slice_get events i ≡ Some e → HasState P R e) → (a f x b v : Value) (ns : List ℕ) → IsIn P R.state a → IsIn P R.state f →
      IsMerged P R a f x → Gathers P R events f ns b → IsMerged P R a b v → Gathers P R events x ns v
  merged_in events values a f x b v [] da df front (done e) all =
      let there : IsMerged P R a f v = subst (λ (z : Value). IsMerged P R a z v) e all in
      done (order.one P R founded typed joins a f v x there front)
  merged_in events values a f x b v (n ∷ ns) da df front (more {b = c} {v = y} is n_merged rest) all =
      let dc : IsIn P R.state c = values is.place (Update is.replica c) is.update.stands in
      let dx : IsIn P R.state x = order.there_is P R founded typed joins a f x da df front in
      let dy : IsIn P R.state y = order.there_is P R founded typed joins f c y df dc n_merged in
      let next : Merged (IsIn P R.state) (IsMerged P R) x c = order.total P R founded typed joins x c dx dc in
      let there : IsMerged P R a y next.value = order.assoc P R founded typed joins a f c x y next.value da df dc front n_merged next.is in
      more is next.is (merged_in events values a y next.value b v ns da dy there rest all)

  pub gathered_typed : (events : List Event) → ((i : ℕ) (e : Event) → slice_get events i ≡ Some e → HasState P R e) → (a v : Value) (ns : List ℕ) → IsIn P R.state a →
      Gathers P R events a ns v → IsIn P R.state v
  gathered_typed events values a v [] da (done e) = subst (IsIn P R.state) (sym e) da
  gathered_typed events values a v (n ∷ ns) da (more {b = c} {v = y} is n_merged rest) =
      let dc : IsIn P R.state c = values is.place (Update is.replica c) is.update.stands in
      gathered_typed events values y v ns (order.there_is P R founded typed joins a c y da dc n_merged) rest

  -- updates that have values are gathered to one
  gather_all : (events : List Event) → ((i : ℕ) (e : Event) → slice_get events i ≡ Some e → HasState P R e) → (a : Value) (ns : List ℕ) → IsIn P R.state a →
      ((n : ℕ) → In ns n → IsUpdate events n) → (v : Value) × Gathers P R events a ns v
  gather_all events values a [] da all = (a, done refl)
  gather_all events values a (n ∷ ns) da all =
      let it : IsUpdate events n = all n (inl refl) in
      let dc : IsIn P R.state it.value = values it.is.place (Update it.is.replica it.value) it.is.update.stands in
      let next : Merged (IsIn P R.state) (IsMerged P R) a it.value = order.total P R founded typed joins a it.value da dc in
      let rest : (v : Value) × Gathers P R events next.value ns v = gather_all events values next.value ns next.there (λ m h. all m (inr h)) in
      (rest.0, more it.is next.is rest.1)

append_gathered : (P : Program) (R : ReplicaDef) (events : List Event) (a v w : Value) (xs ys : List ℕ) → Gathers P R events a xs v → Gathers P R events v ys w →
    Gathers P R events a (xs ++ ys) w
append_gathered P R events a v w [] ys (done e) rest = subst (λ (z : Value). Gathers P R events z ys w) e rest
append_gathered P R events a v w (n ∷ xs) ys (more {v = x} is merged front) rest = more is merged (append_gathered P R events x v w xs ys front rest)

-- each update that is gathered has a value
has_update : (P : Program) (R : ReplicaDef) (events : List Event) (a v : Value) (ns : List ℕ) → Gathers P R events a ns v → (n : ℕ) → In ns n → IsUpdate events n
has_update P R events a v [] g n there = absurd there
has_update P R events a v (m ∷ ns) (more {b = b} is merged rest) n (inl e) = record { value = b; is = subst (λ (k : ℕ). IsContributed events k b) (sym e) is }
has_update P R events a v (m ∷ ns) (more {v = x} is merged rest) n (inr there) = has_update P R events x v ns rest n there

-- a join and one update more
pub one_more : (P : Program) (R : ReplicaDef) (events : List Event) (ns : List ℕ) (n : ℕ) (a b v : Value) → IsJoin P R events ns a → IsContributed events n b →
    IsMerged P R a b v → IsJoin P R events (ns ++ n ∷ []) v
one_more P R events ns n a b v join is merged = record {
  first = join.first;
  calls = join.calls;
  is_first = join.is_first;
  gathers = append_gathered P R events join.first a v ns (n ∷ []) join.gathers (more is merged (done refl));
}

module _ (P : Program) (R : ReplicaDef) (founded : IsWellFounded P) (typed : IsTypedReplica P R) (joins : MergeJoins P R) (events : List Event)
    (values : (i : ℕ) (e : Event) → slice_get events i ≡ Some e → HasState P R e) (ones others : List ℕ) (a b v : Value) (one : IsJoin P R events ones a)
    (other : IsJoin P R events others b) (merged : IsMerged P R a b v) where
  -- the join of one list behind the other
  both_joined : IsJoin P R events (ones ++ others) v
  both_joined =
      let df : IsIn P R.state one.first = first_is_state P R founded typed one.first one.calls one.is_first in
      let same : other.first ≡ one.first = (unique P [] [] [] [] (out-Term R.from) other.first one.first other.calls one.calls other.is_first one.is_first).0 in
      let rest : Gathers P R events one.first others b = subst (λ (z : Value). Gathers P R events z others b) same other.gathers in
      let da : IsIn P R.state a = gathered_typed P R founded typed joins events values one.first a ones df one.gathers in
      let kept : IsMerged P R a one.first a = keeps_first P R founded typed joins events values one.first one.first a ones df df (joins.idem one.first df) one.gathers in
      let behind : Gathers P R events a others v = merged_in P R founded typed joins events values a one.first a b v others da df kept rest merged in
      record {
        first = one.first;
        calls = one.calls;
        is_first = one.is_first;
        gathers = append_gathered P R events one.first a v ones others one.gathers behind;
      }

  -- the join of the set of both
  pub union_joined : JoinOfASet → (declaration : ℕ) → IsChecked P → slice_get P.replicas declaration ≡ Some R → (both : List ℕ) → IsUnion ones others both → IsJoin P R events both v
  union_joined law declaration checked declared both union =
      let df : IsIn P R.state one.first = first_is_state P R founded typed one.first one.calls one.is_first in
      let all : (w : Value) × Gathers P R events one.first both w = gather_all P R founded typed joins events values one.first both df from in
      let whole : IsJoin P R events both all.0 = record { first = one.first; calls = one.calls; is_first = one.is_first; gathers = all.1 } in
      let same : all.0 ≡ v = law P R declaration checked declared joins events values both (ones ++ others) all.0 v (λ n. (to n, back n)) whole both_joined in
      subst (IsJoin P R events both) same whole
    where
      to : (n : ℕ) → Contains both n → Contains (ones ++ others) n
      to n h = elim ((union.each n).0 h) [
        | inl k ↦ in_contains (ones ++ others) n (in_front ones others n (contains_in ones n k))
        | inr k ↦ in_contains (ones ++ others) n (in_back ones others n (contains_in others n k))
      ]

      back : (n : ℕ) → Contains (ones ++ others) n → Contains both n
      back n h = (union.each n).1 (either n (in_append ones others n (contains_in (ones ++ others) n h)))
        where
          either : (n : ℕ) → In ones n ⊎ In others n → Contains ones n ⊎ Contains others n
          either n (inl k) = inl (in_contains ones n k)
          either n (inr k) = inr (in_contains others n k)

      from : (n : ℕ) → In both n → IsUpdate events n
      from n h = elim ((union.each n).0 (in_contains both n h)) [
        | inl k ↦ has_update P R events one.first a ones one.gathers n (contains_in ones n k)
        | inr k ↦ has_update P R events other.first b others other.gathers n (contains_in others n k)
      ]
