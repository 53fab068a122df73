-- The search for what stands in a type: what is found in itself and its first arguments, and in the rest.
use Rattle.std.proofs.Common.{◌≡◌, ◌<◌, ◌≤◌, ◌+◌, ⊎_elim, ◌↔◌, ℕ, zero, suc, List, [], ◌∷◌, ◌++◌, length, map, take, get_or, Some, None, slice_get, Contains, flat_map, sym, ap, subst, refl, ◌∙◌, arith, append_assoc, append-nil}
use Rattle.std.proofs.lemmas.List.{take_all}
use Rattle.std.proofs.lemmas.List.Sums.{sum_by-cons}
use Rattle.std.proofs.lemmas.List.Elements.{Contains-append_left, Contains-append_right, Contains-append_cases, Contains-push, Contains-push_cases}
use Rattle.std.proofs.lemmas.Option.{slice_get_within}
use Rattle.std.proofs.lemmas.Grind.{flat_map-append}
use Rattle.px_terms.specs.declared.types.Ty.{Ty, out-Ty}
use Rattle.px_terms.specs.declared.types.Ty.TheOpen.{Ty-F}
use Rattle.px_terms.specs.declared.types.Ty.TheFolds.{map-Ty, fold_out-Ty}
use Rattle.px_terms.specs.Types.{ty_size, tys_size, ty_size_step}
use Rattle.px_prover.specs.Uses.{arguments_of, TypeStandsIn, itself, inside}
use Rattle.px_prover.specs.Places.{TypeStandsThere}
use Rattle.px_prover.proofs.NoneSoFar.{cases_eq, read_at}
use Rattle.px_prover.proofs.Gathering.{one_more}
use Rattle.px_prover.proofs.RisingLemmas.{contains_cases, contains_first}

-- the type is t, or stands in one of its first parts
pub data StandsAmong (t : Ty) (i : ℕ) (u : Ty) : Type 0 where
  whole : u ≡ t → StandsAmong t i u
  within : (next : Ty) (k : ℕ) → k < i → slice_get (arguments_of (out-Ty t)) k ≡ Some next → TypeStandsIn u next → StandsAmong t i u

-- these are t and what stands in its first parts
pub record AreParts (t : Ty) (i : ℕ) (found : List Ty) : Type 0 where
  pub stand : (u : Ty) → Contains found u → StandsAmong t i u
  pub all : (u : Ty) → StandsAmong t i u → Contains found u

some_is : {X : Type 0} {x y : X} → Some x ≡ Some y → x ≡ y
some_is e = cc

none_is_some : {X : Type 0} {x : X} → None ≡ Some x → ⊥
none_is_some e = cc

-- the nodes of a type, by its layer
abbrev type_layer_size : Ty-F Ty → ℕ
type_layer_size Ty-F.Word = 1
type_layer_size (Ty-F.Var n) = 1
type_layer_size (Ty-F.Con d args) = 1 + tys_size args

type_layer_is : (y : Ty-F Ty) → ty_size_step (map-Ty Ty ℕ ty_size y) ≡ type_layer_size y
type_layer_is Ty-F.Word = refl
type_layer_is (Ty-F.Var n) = refl
type_layer_is (Ty-F.Con d args) = refl

type_size_by_layer : (t : Ty) → ty_size t ≡ type_layer_size (out-Ty t)
type_size_by_layer t = fold_out-Ty ℕ ty_size_step t ∙ type_layer_is (out-Ty t)

standing_type_size : (ts : List Ty) (i : ℕ) (t : Ty) → slice_get ts i ≡ Some t → ty_size t ≤ tys_size ts
standing_type_size [] i t is = absurd (none_is_some is)
standing_type_size (s ∷ ts) zero t is = let same : ty_size s ≡ ty_size t = ap ty_size (some_is is) in let all = sum_by-cons (λ (x : ℕ). x) (ty_size s) (map ty_size ts) in omega (arith, same, all)
standing_type_size (s ∷ ts) (suc i) t is = let rest = standing_type_size ts i t is in let all = sum_by-cons (λ (x : ℕ). x) (ty_size s) (map ty_size ts) in omega (arith, rest, all)

argument_of_layer : (y : Ty-F Ty) (i : ℕ) (c : Ty) → slice_get (arguments_of y) i ≡ Some c → ty_size c < type_layer_size y
argument_of_layer Ty-F.Word i c is = absurd (none_is_some is)
argument_of_layer (Ty-F.Var n) i c is = absurd (none_is_some is)
argument_of_layer (Ty-F.Con d args) i c is = let fewer = standing_type_size args i c is in omega (arith, fewer)

-- an argument has fewer nodes than its type
pub part_falls : (t : Ty) (i : ℕ) (c : Ty) → slice_get (arguments_of (out-Ty t)) i ≡ Some c → ty_size c < ty_size t
part_falls t i c is = subst (λ (n : ℕ). ty_size c < n) (sym (type_size_by_layer t)) (argument_of_layer (out-Ty t) i c is)

-- an argument that is read
pub argument_at : (t : Ty) (args : List Ty) (i : ℕ) (c : Ty) → args ≡ arguments_of (out-Ty t) → i < length args → c ≡ get_or args i c → slice_get (arguments_of (out-Ty t)) i ≡ Some c
argument_at t args i c are below is = subst (λ (ts : List Ty). slice_get ts i ≡ Some c) are (read_at args i c below is)

-- the type alone
pub parts_start : (t : Ty) (start new : List Ty) (one : Ty) → start ≡ [] → new ≡ start ++ one ∷ [] → one ≡ t → AreParts t 0 new
parts_start t start new one empty is same =
    let alone : new ≡ t ∷ [] = is ∙ (ap (λ (us : List Ty). us ++ one ∷ []) empty ∙ ap (λ (x : Ty). x ∷ []) same) in
    record {
      stand = λ u has. ⊎_elim (λ (e : t ≡ u). whole (sym e)) (λ later. absurd (omega (arith, later.1))) (contains_cases t [] u (subst (λ (us : List Ty). Contains us u) alone has));
      all = λ u stands. subst (λ (us : List Ty). Contains us u) (sym alone) (own_alone u stands);
    }
  where
    own_alone : (u : Ty) → StandsAmong t 0 u → Contains (t ∷ []) u
    own_alone u (whole e) = subst (λ (x : Ty). Contains (t ∷ []) x) (sym e) (contains_first t [])
    own_alone u (within next k less is part) = absurd (omega (arith, less))

module _ (t : Ty) (i : ℕ) where
  stands_later : (u : Ty) → StandsAmong t i u → StandsAmong t (i + 1) u
  stands_later u (whole e) = whole e
  stands_later u (within next k less is part) = within next k (omega (arith, less)) is part

  -- what stands in one more part
  pub parts_next : (c : Ty) → slice_get (arguments_of (out-Ty t)) i ≡ Some c → (found more new : List Ty) → AreParts t i found → ((u : Ty) → Contains more u ↔ TypeStandsIn u c) → new ≡ found ++ more → AreParts t (i + 1) new
  parts_next c part_is found more new before are is = record {
    stand = λ u has. ⊎_elim
        (λ old. stands_later u (before.stand u old))
        (λ last. within c i (omega arith) part_is ((are u).0 last))
        (Contains-append_cases found more u (subst (λ (us : List Ty). Contains us u) is has));
    all = λ u stands. subst (λ (us : List Ty). Contains us u) (sym is) (by_part u stands);
  }
    where
      by_part : (u : Ty) → StandsAmong t (i + 1) u → Contains (found ++ more) u
      by_part u (whole e) = Contains-append_left found more u (before.all u (whole e))
      by_part u (within next k less at part) = ⊎_elim
          (λ same. let one : next ≡ c = some_is (sym at ∙ (ap (λ (n : ℕ). slice_get (arguments_of (out-Ty t)) n) same ∙ part_is)) in
          Contains-append_right found more u ((are u).1 (subst (λ (x : Ty). TypeStandsIn u x) one part)))
          (λ other. Contains-append_left found more u (before.all u (within next k (omega (arith, less, other)) at part)))
          (cases_eq k i)

  -- what stands in all parts
  pub parts_end : (found : List Ty) → length (arguments_of (out-Ty t)) ≤ i → AreParts t i found → (u : Ty) → Contains found u ↔ TypeStandsIn u t
  parts_end found past before u = (λ has. to_part u (before.stand u has), λ stands. before.all u (by_part u t refl stands))
    where
      to_part : (v : Ty) → StandsAmong t i v → TypeStandsIn v t
      to_part v (whole e) = subst (λ (x : Ty). TypeStandsIn x t) (sym e) itself
      to_part v (within next k less is part) = inside k is part

      by_part : (v w : Ty) → w ≡ t → TypeStandsIn v w → StandsAmong t i v
      by_part v w e itself = whole e
      by_part v w e (inside {next = next} k is part) =
          let at : slice_get (arguments_of (out-Ty t)) k ≡ Some next = subst (λ (x : Ty). slice_get (arguments_of (out-Ty x)) k ≡ Some next) e is in
          let less = slice_get_within (arguments_of (out-Ty t)) k next at in
          within next k (omega (arith, less, past)) at part

-- what is listed of one more item
pub listed_next : {X Y : Type 0} (lists : X → List Y) (xs : List X) (i : ℕ) (x : X) (front found more new : List Y) → i < length xs → x ≡ get_or xs i x → found ≡ front ++ flat_map lists (take i xs) → more ≡ lists x → new ≡ found ++ more →
    new ≡ front ++ flat_map lists (take (i + 1) xs)
listed_next {X} {Y} lists xs i x front found more new below is before own new_is =
    let own_alone : flat_map lists (x ∷ []) ≡ lists x = append-nil (lists x) in
    let all : flat_map lists (take (i + 1) xs) ≡ flat_map lists (take i xs) ++ lists x = ap (flat_map lists) (one_more xs i x below is) ∙ (flat_map-append lists (take i xs) (x ∷ []) ∙ ap (λ (ys : List Y). flat_map lists (take i xs) ++ ys) own_alone) in
    new_is ∙ ((λ k. before k ++ own k) ∙ (append_assoc front (flat_map lists (take i xs)) (lists x) ∙ ap (λ (ys : List Y). front ++ ys) (sym all)))

-- the types that stand in none
pub there_start : (types : List Ty) → types ≡ [] → (u : Ty) → Contains types u ↔ TypeStandsThere [] u
there_start types empty u = (
  λ has. let none = subst (λ (us : List Ty). Contains us u) empty has in absurd (omega (arith, none.1)),
  λ there. let has = there.is_whole in absurd (omega (arith, has.1)),
)

-- what stands in one more type
pub there_next : (tys : List Ty) (i : ℕ) (ty : Ty) (types more new : List Ty) → i < length tys → ty ≡ get_or tys i ty → ((u : Ty) → Contains types u ↔ TypeStandsThere (take i tys) u) → ((u : Ty) → Contains more u ↔ TypeStandsIn u ty) →
    new ≡ types ++ more → (u : Ty) → Contains new u ↔ TypeStandsThere (take (i + 1) tys) u
there_next tys i ty types more new below is before own new_is u =
    let all = one_more tys i ty below is in (
      λ has. subst (λ (ts : List Ty). TypeStandsThere ts u) (sym all) (⊎_elim
          (λ old. let there = (before u).0 old in record { whole = there.whole; is_whole = Contains-append_left (take i tys) (ty ∷ []) there.whole there.is_whole; part = there.part })
          (λ last. record { whole = ty; is_whole = Contains-push (take i tys) ty; part = (own u).0 last })
          (Contains-append_cases types more u (subst (λ (us : List Ty). Contains us u) new_is has))),
      λ there. subst (λ (us : List Ty). Contains us u) (sym new_is) (by_whole (subst (λ (ts : List Ty). TypeStandsThere ts u) all there)),
    )
  where
    by_whole : TypeStandsThere (take i tys ++ ty ∷ []) u → Contains (types ++ more) u
    by_whole there = ⊎_elim
        (λ old. Contains-append_left types more u ((before u).1 (record { whole = there.whole; is_whole = old; part = there.part })))
        (λ (same : ty ≡ there.whole). Contains-append_right types more u ((own u).1 (subst (λ (t : Ty). TypeStandsIn u t) (sym same) there.part)))
        (Contains-push_cases (take i tys) ty there.whole there.is_whole)

pub there_end : (tys : List Ty) (i : ℕ) (types : List Ty) → length tys ≤ i → ((u : Ty) → Contains types u ↔ TypeStandsThere (take i tys) u) → (u : Ty) → Contains types u ↔ TypeStandsThere tys u
there_end tys i types past before u = subst (λ (ts : List Ty). Contains types u ↔ TypeStandsThere ts u) (take_all i tys past) (before u)
