-- A part replaced by one of the same value keeps the value of the whole.
use Rattle.std.proofs.Common.{◌≡◌, ℕ, zero, suc, ◌+◌, List, [], ◌∷◌, Option, Some, None, refl, sym, slice_get, slice_set, option_and_then, option_map, subst}
use Rattle.std.proofs.lemmas.Option.{none-some, same_Some}
use Rattle.px_terms.specs.declared.types.Ty.{Ty}
use Rattle.px_terms.specs.declared.types.Fun.{Fun}
use Rattle.px_terms.specs.declared.term.Term.{Term, out-Term}
use Rattle.px_terms.specs.declared.term.Term.TheVariants.{Con, Call, Match, outs-Con, outs-Call, outs-Match}
use Rattle.px_terms.specs.declared.term.Term.TheOpen.{Term-F}
use Rattle.px_terms.specs.declared.term.Value.{Value}
use Rattle.px_terms.specs.declared.program.Program.{Program}
use Rattle.px_terms.specs.Terms.{children_of, children, subterm, with_child_of, with_child, replaced}
use Rattle.px_terms.specs.Meaning.{MeansOf, MeanAll, con, choose, call, more}

-- The path goes through a child, which stands as another in the whole.
record Goes (s : Term) (n : ℕ) (path : List ℕ) (part becomes t : Term) : Type 0 where
  child : Term
  new : Term
  at : slice_get (children s) n ≡ Some child
  deeper : subterm child path ≡ Some part
  put : replaced child path becomes ≡ Some new
  whole : with_child s n new ≡ t

goes_to : (s : Term) (n : ℕ) (path : List ℕ) (part becomes t child : Term) → slice_get (children s) n ≡ Some child → subterm child path ≡ Some part →
    (o : Option Term) → replaced child path becomes ≡ o → option_map (with_child s n) o ≡ Some t → Goes s n path part becomes t
goes_to s n path part becomes t child at deeper None put whole = absurd (none-some t whole)
goes_to s n path part becomes t child at deeper (Some new) put whole =
    record { child = child; new = new; at = at; deeper = deeper; put = put; whole = same_Some (with_child s n new) t whole }

goes : (s : Term) (n : ℕ) (path : List ℕ) (part becomes t : Term) → (o : Option Term) → slice_get (children s) n ≡ o →
    option_and_then (λ child. subterm child path) o ≡ Some part →
    option_and_then (λ child. option_map (with_child s n) (replaced child path becomes)) o ≡ Some t → Goes s n path part becomes t
goes s n path part becomes t None at deeper whole = absurd (none-some part deeper)
goes s n path part becomes t (Some child) at deeper whole = goes_to s n path part becomes t child at deeper (replaced child path becomes) refl whole

module _ (P : Program) (types : List Ty) (funs : List Fun) (rho bound : List Value) where
  -- where the one term has a value, the other has it too
  abbrev pub Keeps : Term → Term → Type 0
  Keeps part becomes = (v : Value) (c : ℕ) → MeansOf P types funs rho bound (out-Term part) v c →
      (e : ℕ) × MeansOf P types funs rho bound (out-Term becomes) v e

  with_same : (s t : Term) (v : Value) (c : ℕ) → s ≡ t → MeansOf P types funs rho bound (out-Term s) v c → MeansOf P types funs rho bound (out-Term t) v c
  with_same s t v c same means = subst (λ z. MeansOf P types funs rho bound (out-Term z) v c) same means

  with_layer : (y z : Term-F Term) (v : Value) (c : ℕ) → z ≡ y → MeansOf P types funs rho bound y v c → MeansOf P types funs rho bound z v c
  with_layer y z v c same means = subst (λ x. MeansOf P types funs rho bound x v c) (sym same) means

  -- another item of the same value keeps the values of a list
  pub all_kept : (ts : List Term) (n : ℕ) (child by : Term) → slice_get ts n ≡ Some child → Keeps child by → (vs : List Value) (c : ℕ) →
      MeanAll P types funs rho bound ts vs c → (e : ℕ) × MeanAll P types funs rho bound (slice_set ts n by) vs e
  all_kept [] n child by at keeps vs c all = absurd (none-some child at)
  all_kept (t ∷ ts) zero child by at keeps _ c (more {v = v} {vs = vs} {a = a} {b = b} means mean total) =
      let there = keeps v a (with_same t child v a (same_Some t child at) means) in
      (there.0 + b, more there.1 mean refl)
  all_kept (t ∷ ts) (suc n) child by at keeps _ c (more {v = v} {vs = vs} {a = a} {b = b} means mean total) =
      let rest = all_kept ts n child by at keeps vs b mean in
      (a + rest.0, more means rest.1 refl)

  only_child : (on : Term) (n : ℕ) (child : Term) → slice_get (on ∷ []) n ≡ Some child → on ≡ child
  only_child on zero child at = same_Some on child at
  only_child on (suc n) child at = absurd (none-some child at)

  -- another child of the same value keeps the value of a layer
  pub child_kept : (y : Term-F Term) (s : Term) (n : ℕ) (child by : Term) → slice_get (children_of y) n ≡ Some child → Keeps child by → (v : Value) (c : ℕ) →
      MeansOf P types funs rho bound y v c → (e : ℕ) × MeansOf P types funs rho bound (out-Term (with_child_of y s n by)) v e
  child_kept (Term-F.Free m) s n child by at keeps v c means = absurd (none-some child at)
  child_kept (Term-F.Bound m) s n child by at keeps v c means = absurd (none-some child at)
  child_kept (Term-F.Lit w) s n child by at keeps v c means = absurd (none-some child at)
  child_kept (Term-F.Con d k ts fields) s n child by at keeps v c (con {vs = vs} all is) =
      let there = all_kept fields n child by at keeps vs c all in (
        there.0,
        with_layer (Term-F.Con d k ts (slice_set fields n by)) (out-Term (Con d k ts (slice_set fields n by))) v there.0
            (outs-Con d k ts (slice_set fields n by)) (con there.1 is),
      )
  child_kept (Term-F.Call f fs args) s n child by at keeps v c (call {vs = vs} {a = a} {b = b} all fun_means funs_mean gives total) =
      let there = all_kept args n child by at keeps vs a all in (
        there.0 + b,
        with_layer (Term-F.Call f fs (slice_set args n by)) (out-Term (Call f fs (slice_set args n by))) v (there.0 + b)
            (outs-Call f fs (slice_set args n by)) (call there.1 fun_means funs_mean gives refl),
      )
  child_kept (Term-F.Match on d ts arms) s n child by at keeps v c (choose {u = u} {a = a} {b = b} on_means chooses arm_means total) =
      let there = keeps u a (with_same on child u a (only_child on n child at) on_means) in (
        there.0 + b,
        with_layer (Term-F.Match by d ts arms) (out-Term (Match by d ts arms)) v (there.0 + b) (outs-Match by d ts arms)
            (choose there.1 chooses arm_means refl),
      )

  -- the other part keeps the value of the whole, along the path
  pub path_kept : (s : Term) (path : List ℕ) (part becomes t : Term) → subterm s path ≡ Some part → replaced s path becomes ≡ Some t → Keeps part becomes →
      Keeps s t
  path_kept s [] part becomes t at whole keeps v c means =
      let there = keeps v c (with_same s part v c (same_Some s part at) means) in
      (there.0, with_same becomes t v there.0 (same_Some becomes t whole) there.1)
  path_kept s (n ∷ path) part becomes t at whole keeps v c means =
      let g = goes s n path part becomes t (slice_get (children s) n) refl at whole in
      let child_keeps : Keeps g.child g.new = path_kept g.child path part becomes g.new g.deeper g.put keeps in
      let there = child_kept (out-Term s) s n g.child g.new g.at child_keeps v c means in
      (there.0, with_same (with_child s n g.new) t v there.0 g.whole there.1)

-- a part replaced by one of the same value keeps the value of the whole
pub replaced_keeps : (P : Program) (types : List Ty) (funs : List Fun) (rho bound : List Value) (s : Term) (path : List ℕ) (part becomes t : Term) →
    subterm s path ≡ Some part → replaced s path becomes ≡ Some t →
    ((v : Value) (c : ℕ) → MeansOf P types funs rho bound (out-Term part) v c → (e : ℕ) × MeansOf P types funs rho bound (out-Term becomes) v e) →
    (v : Value) (c : ℕ) → MeansOf P types funs rho bound (out-Term s) v c → (e : ℕ) × MeansOf P types funs rho bound (out-Term t) v e
replaced_keeps P types funs rho bound s path part becomes t at whole keeps v c means =
    path_kept P types funs rho bound s path part becomes t at whole keeps v c means
