-- The part of a typed term at a path has a type, and another one of that type may stand in its place.
use Rattle.std.proofs.Common.{◌≡◌, ℕ, zero, suc, List, [], ◌∷◌, Option, Some, slice_get, slice_set, sym, ap, ◌∙◌, subst}
use Rattle.std.specs.Option.{option_and_then, option_map}
use Rattle.px_terms.specs.declared.types.Ty.{Ty}
use Rattle.px_terms.specs.declared.term.Term.{Term, out-Term}
use Rattle.px_terms.specs.declared.term.Term.TheVariants as term
use Rattle.px_terms.specs.declared.term.Term.TheOpen.{Term-F}
use Rattle.px_terms.specs.declared.program.Program.{Program}
use Rattle.px_terms.specs.declared.sequent.Context.{Context}
use Rattle.px_terms.specs.Terms.{children_of, children, subterm, with_child_of, with_child, replaced}
use Rattle.px_terms.specs.Typing.{Place, HasTypeLayer}
use Rattle.px_terms.specs.Typing as typing
use Rattle.px_totality.proofs.Instances.{nothing_is_some, one_item}
use Rattle.px_soundness.proofs.TypesOfLists.{Follows, follows, IsMapped, is_mapped, of_layer, typed_at}

module _ (Q : Program) (place : Place) (context : Context) where
  -- The child has a type, and with another one of that type the term has its type still.
  record TypedChild (bound : List Ty) (y : Term-F Term) (t : Term) (n : ℕ) (child : Term) (T : Ty) : Type 0 where
    U : Ty
    typed : HasTypeLayer Q place context bound (out-Term child) U
    others : (by : Term) → HasTypeLayer Q place context bound (out-Term by) U →
        HasTypeLayer Q place context bound (out-Term (with_child_of y t n by)) T

  only_child : {bound : List Ty} (on : Term) (n : ℕ) (t : Term) {U : Ty} → HasTypeLayer Q place context bound (out-Term on) U →
      slice_get (on ∷ []) n ≡ Some t → HasTypeLayer Q place context bound (out-Term t) U
  only_child {bound} on zero t {U = U} is at = subst (λ (s : Term). HasTypeLayer Q place context bound (out-Term s) U) (one_item on t at) is
  only_child on (suc n) t is at = absurd (nothing_is_some t at)

  typed_child : {bound : List Ty} {y : Term-F Term} {T : Ty} → HasTypeLayer Q place context bound y T → (t : Term) (n : ℕ) (child : Term) →
      slice_get (children_of y) n ≡ Some child → TypedChild bound y t n child T
  typed_child (typing.free found met) t n child at = absurd (nothing_is_some child at)
  typed_child (typing.bound found met) t n child at = absurd (nothing_is_some child at)
  typed_child (typing.lit small e) t n child at = absurd (nothing_is_some child at)
  typed_child {bound} (typing.con {d = d} {k = k} {types = types} {fields = fields} found is e met have) t n child at =
      let there = typed_at Q place context have n child at in
      record {
        U = there.T;
        typed = there.typed;
        others =
            λ by good. of_layer Q place context (term.Con d k types (slice_set fields n by)) (term.outs-Con d k types (slice_set fields n by))
            (typing.con found is e met (there.others by good));
      }
  typed_child {bound} (typing.call {f = f} {funs = funs} {args = args} function may types_met met arguments have) t n child at =
      let there = typed_at Q place context have n child at in
      record {
        U = there.T;
        typed = there.typed;
        others =
            λ by good. of_layer Q place context (term.Call f funs (slice_set args n by)) (term.outs-Call f funs (slice_set args n by))
            (typing.call function may types_met met arguments (there.others by good));
      }
  typed_child (typing.choose {on = on} {d = d} {types = types} {arms = arms} {U = U} is e found have) t n child at = record {
    U = U;
    typed = only_child on n child is at;
    others = λ by good. of_layer Q place context (term.Match by d types arms) (term.outs-Match by d types arms) (typing.choose good e found have);
  }

  -- The part has a type, and with another one of that type the whole has its type still.
  pub record TypedPart (bound : List Ty) (t : Term) (path : List ℕ) (part : Term) (T : Ty) : Type 0 where
    pub U : Ty
    pub typed : HasTypeLayer Q place context bound (out-Term part) U
    pub whole : (by s : Term) → HasTypeLayer Q place context bound (out-Term by) U → replaced t path by ≡ Some s →
        HasTypeLayer Q place context bound (out-Term s) T

  pub typed_part : {bound : List Ty} (path : List ℕ) (t part : Term) (T : Ty) → HasTypeLayer Q place context bound (out-Term t) T →
      subterm t path ≡ Some part → TypedPart bound t path part T
  typed_part {bound} [] t part T is at = record {
    U = T;
    typed = subst (λ (s : Term). HasTypeLayer Q place context bound (out-Term s) T) (one_item t part at) is;
    whole = λ by s good e. subst (λ (s : Term). HasTypeLayer Q place context bound (out-Term s) T) (one_item by s e) good;
  }
  typed_part {bound} (n ∷ path) t part T is at =
      let there : Follows (slice_get (children t) n) (λ (child : Term). subterm child path) part =
      follows (slice_get (children t) n) (λ (child : Term). subterm child path) part at in
      let child : TypedChild bound (out-Term t) t n there.item T = typed_child is t n there.item there.is in
      let below : TypedPart bound there.item path part child.U = typed_part path there.item part child.U child.typed there.gives in
      record {
        U = below.U;
        typed = below.typed;
        whole = λ by s good e.
            let put : Term → Option Term = λ (child : Term). option_map (with_child t n) (replaced child path by) in
            let here : option_map (with_child t n) (replaced there.item path by) ≡ Some s = sym (ap (option_and_then put) there.is) ∙ e in
            let made : IsMapped (replaced there.item path by) (with_child t n) s = is_mapped (replaced there.item path by) (with_child t n) s here in
            subst (λ (s : Term). HasTypeLayer Q place context bound (out-Term s) T) made.gives
            (child.others made.item (below.whole by made.item good made.is));
      }
