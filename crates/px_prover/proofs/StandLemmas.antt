-- The search for what stands in a term: what is found in itself and its first parts, and in the rest.
use Rattle.std.proofs.Common.{◌≡◌, ◌<◌, ◌≤◌, ◌+◌, ⊎_elim, ◌↔◌, ℕ, zero, suc, List, [], ◌∷◌, ◌++◌, length, Some, None, slice_get, Contains, sym, ap, subst, refl, ◌∙◌, arith, ◌^◌}
use Rattle.std.proofs.lemmas.List.Elements.{Contains-append_left, Contains-append_right, Contains-append_cases}
use Rattle.std.proofs.lemmas.Option.{slice_get_within, slice_get-get_or}
use Rattle.px_terms.specs.declared.term.Term.{Term, out-Term}
use Rattle.px_terms.specs.declared.types.Ty.{Ty}
use Rattle.px_terms.specs.declared.term.Term.TheVariants as term
use Rattle.px_terms.specs.declared.term.Term.TheOpen.{Term-F}
use Rattle.px_terms.specs.Terms.{term_size}
use Rattle.px_prover.specs.Uses.{parts_of, StandsIn, itself, inside}
use Rattle.px_prover.proofs.NoneSoFar.{cases_eq}
use Rattle.px_prover.proofs.SizeLemmas.{layer_size, size_by_layer, standing_size, one_node, as_many}
use Rattle.px_prover.proofs.RisingLemmas.{contains_cases, contains_first}

-- the term is t, or stands in one of its first parts
pub data StandsAmong (t : Term) (i : ℕ) (u : Term) : Type 0 where
  whole : u ≡ t → StandsAmong t i u
  within : (next : Term) (k : ℕ) → k < i → slice_get (parts_of (out-Term t)) k ≡ Some next → StandsIn u next → StandsAmong t i u

-- these are t and what stands in its first parts
pub record AreParts (t : Term) (i : ℕ) (found : List Term) : Type 0 where
  pub stand : (u : Term) → Contains found u → StandsAmong t i u
  pub all : (u : Term) → StandsAmong t i u → Contains found u

some_is : {X : Type 0} {x y : X} → Some x ≡ Some y → x ≡ y
some_is e = cc

none_is_some : {X : Type 0} {x : X} → None ≡ Some x → ⊥
none_is_some e = cc

-- a term has a part of each number below their count
pub part_stands : (t : Term) (i count : ℕ) → count ≡ length (parts_of (out-Term t)) → i < count → None ≡ slice_get (parts_of (out-Term t)) i → ⊥
part_stands t i count is below none = none_is_some (none ∙ slice_get-get_or (parts_of (out-Term t)) i t (subst (λ (n : ℕ). i < n) is below))

-- the arms of a small match are few
pub arms_fit : (t on : Term) (d : ℕ) (types : List Ty) (arms : List Term) → t ≡ term.Match on d types arms → term_size t < 2 ^ 32 → length arms < 2 ^ 32
arms_fit t on d types arms is fits =
    let layer : out-Term t ≡ Term-F.Match on d types arms = ap out-Term is ∙ term.outs-Match on d types arms in
    let whole : term_size t ≡ layer_size (Term-F.Match on d types arms) = size_by_layer t ∙ ap layer_size layer in
    let many = as_many arms in
    omega (arith, whole, many, fits)

part_of_layer : (y : Term-F Term) (i : ℕ) (c : Term) → slice_get (parts_of y) i ≡ Some c → term_size c < layer_size y
part_of_layer (Term-F.Free n) i c is = absurd (none_is_some is)
part_of_layer (Term-F.Bound n) i c is = absurd (none_is_some is)
part_of_layer (Term-F.Lit w) i c is = absurd (none_is_some is)
part_of_layer (Term-F.Con d k types fields) i c is = let fewer = standing_size fields i c is in omega (arith, fewer)
part_of_layer (Term-F.Call f funs args) i c is = let fewer = standing_size args i c is in omega (arith, fewer)
part_of_layer (Term-F.Match on d types arms) zero c is = let same : term_size on ≡ term_size c = ap term_size (some_is is) in omega (arith, same)
part_of_layer (Term-F.Match on d types arms) (suc i) c is = let fewer = standing_size arms i c is in let one = one_node on in omega (arith, fewer, one)

-- a part has fewer nodes than its term
pub part_falls : (t : Term) (i : ℕ) (c : Term) → slice_get (parts_of (out-Term t)) i ≡ Some c → term_size c < term_size t
part_falls t i c is = subst (λ (n : ℕ). term_size c < n) (sym (size_by_layer t)) (part_of_layer (out-Term t) i c is)

-- the term alone
pub parts_start : (t : Term) (start new : List Term) (one : Term) → start ≡ [] → new ≡ start ++ one ∷ [] → one ≡ t → AreParts t 0 new
parts_start t start new one empty is same =
    let alone : new ≡ t ∷ [] = is ∙ (ap (λ (us : List Term). us ++ one ∷ []) empty ∙ ap (λ (x : Term). x ∷ []) same) in
    record {
      stand = λ u has. ⊎_elim (λ (e : t ≡ u). whole (sym e)) (λ later. absurd (omega (arith, later.1))) (contains_cases t [] u (subst (λ (us : List Term). Contains us u) alone has));
      all = λ u stands. subst (λ (us : List Term). Contains us u) (sym alone) (own_alone u stands);
    }
  where
    own_alone : (u : Term) → StandsAmong t 0 u → Contains (t ∷ []) u
    own_alone u (whole e) = subst (λ (x : Term). Contains (t ∷ []) x) (sym e) (contains_first t [])
    own_alone u (within next k less is part) = absurd (omega (arith, less))

module _ (t : Term) (i : ℕ) where
  stands_later : (u : Term) → StandsAmong t i u → StandsAmong t (i + 1) u
  stands_later u (whole e) = whole e
  stands_later u (within next k less is part) = within next k (omega (arith, less)) is part

  -- what stands in one more part
  pub parts_next : (c : Term) → slice_get (parts_of (out-Term t)) i ≡ Some c → (found more new : List Term) → AreParts t i found → ((u : Term) → Contains more u ↔ StandsIn u c) → new ≡ found ++ more → AreParts t (i + 1) new
  parts_next c part_is found more new before are is = record {
    stand = λ u has. ⊎_elim
        (λ old. stands_later u (before.stand u old))
        (λ last. within c i (omega arith) part_is ((are u).0 last))
        (Contains-append_cases found more u (subst (λ (us : List Term). Contains us u) is has));
    all = λ u stands. subst (λ (us : List Term). Contains us u) (sym is) (by_part u stands);
  }
    where
      by_part : (u : Term) → StandsAmong t (i + 1) u → Contains (found ++ more) u
      by_part u (whole e) = Contains-append_left found more u (before.all u (whole e))
      by_part u (within next k less at part) = ⊎_elim
          (λ same. let one : next ≡ c = some_is (sym at ∙ (ap (λ (n : ℕ). slice_get (parts_of (out-Term t)) n) same ∙ part_is)) in
          Contains-append_right found more u ((are u).1 (subst (λ (x : Term). StandsIn u x) one part)))
          (λ other. Contains-append_left found more u (before.all u (within next k (omega (arith, less, other)) at part)))
          (cases_eq k i)

  -- what stands in all parts
  pub parts_end : (found : List Term) → length (parts_of (out-Term t)) ≤ i → AreParts t i found → (u : Term) → Contains found u ↔ StandsIn u t
  parts_end found past before u = (λ has. to_part u (before.stand u has), λ stands. before.all u (by_part u t refl stands))
    where
      to_part : (v : Term) → StandsAmong t i v → StandsIn v t
      to_part v (whole e) = subst (λ (x : Term). StandsIn x t) (sym e) itself
      to_part v (within next k less is part) = inside k is part

      by_part : (v w : Term) → w ≡ t → StandsIn v w → StandsAmong t i v
      by_part v w e itself = whole e
      by_part v w e (inside {next = next} k is part) =
          let at : slice_get (parts_of (out-Term t)) k ≡ Some next = subst (λ (x : Term). slice_get (parts_of (out-Term x)) k ≡ Some next) e is in
          let less = slice_get_within (parts_of (out-Term t)) k next at in
          within next k (omega (arith, less, past)) at part
