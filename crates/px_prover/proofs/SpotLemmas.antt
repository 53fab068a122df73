-- The search for places: what is found of a term and its first children, and of the rest.
use Rattle.std.proofs.Common.{◌≡◌, ◌<◌, ◌≤◌, ◌+◌, ⊎_elim, ◌↔◌, ℕ, List, [], ◌∷◌, ◌++◌, length, map, take, get_or, Option, Some, None, Result, Ok, Err, IfOk, slice_get, option_and_then, Contains, sym, ap, subst, refl, ◌∙◌, arith, append_assoc, append-nil}
use Rattle.std.proofs.lemmas.List.{map-append, map_more, take_all}
use Rattle.std.proofs.lemmas.List.Elements.{Contains-append_left, Contains-append_right, Contains-append_cases, Contains-push, Contains-push_cases}
use Rattle.std.proofs.lemmas.Option.{slice_get_within, slice_get-get_or}
use Rattle.px_terms.specs.declared.term.Term.{Term}
use Rattle.px_terms.specs.Terms.{children, subterm}
use Rattle.px_prover.specs.declared.spots.Spot.{Spot}
use Rattle.px_prover.specs.Places.{Placed, seen_spot, IsPlaceIn, ArePlaces}
use Rattle.px_prover.proofs.NoneSoFar.{cases_eq}
use Rattle.px_prover.proofs.RisingLemmas.{contains_cases, contains_first}

-- the part is the term itself, or stands in one of its first children
pub data StandsBefore (path : List ℕ) (t : Term) (i : ℕ) (p : Placed) : Type 0 where
  itself : p.path ≡ path → p.part ≡ t → StandsBefore path t i p
  below : (c : Term) (k : ℕ) (way : List ℕ) → k < i → slice_get (children t) k ≡ Some c → p.path ≡ path ++ k ∷ way → subterm c way ≡ Some p.part → StandsBefore path t i p

-- these are the term and the places of its first children
pub record ArePlacesBefore (path : List ℕ) (t : Term) (i : ℕ) (found : List Spot) : Type 0 where
  pub stand : (p : Placed) → Contains (map seen_spot found) p → StandsBefore path t i p
  pub all : (p : Placed) → StandsBefore path t i p → Contains (map seen_spot found) p

some_is : {X : Type 0} {x y : X} → Some x ≡ Some y → x ≡ y
some_is e = cc

none_is_some : {X : Type 0} {x : X} → None ≡ Some x → ⊥
none_is_some e = cc

-- a term has a child of each number below their count
pub child_stands : (t : Term) (i count : ℕ) → count ≡ length (children t) → i < count → None ≡ slice_get (children t) i → ⊥
child_stands t i count is within none = none_is_some (none ∙ slice_get-get_or (children t) i t (subst (λ (n : ℕ). i < n) is within))

-- the term alone
pub places_start : (path : List ℕ) (t : Term) (start new : List Spot) (spot : Spot) → start ≡ [] → new ≡ start ++ spot ∷ [] → seen_spot spot ≡ record { path = path; part = t } → ArePlacesBefore path t 0 new
places_start path t start new spot empty is seen =
    let own : Placed = record { path = path; part = t } in
    let alone : map seen_spot new ≡ own ∷ [] = ap (λ (fs : List Spot). map seen_spot fs) (is ∙ ap (λ (fs : List Spot). fs ++ spot ∷ []) empty) ∙ ap (λ (p : Placed). p ∷ []) seen in
    record {
      stand = λ p has. ⊎_elim
          (λ (same : own ≡ p). itself (ap (λ (q : Placed). q.path) (sym same)) (ap (λ (q : Placed). q.part) (sym same)))
          (λ later. absurd (omega (arith, later.1)))
          (contains_cases own [] p (subst (λ (ps : List Placed). Contains ps p) alone has));
      all = λ p stands. subst (λ (ps : List Placed). Contains ps p) (sym alone) (own_alone p stands);
    }
  where
    own_alone : (p : Placed) → StandsBefore path t 0 p → Contains (record { path = path; part = t } ∷ []) p
    own_alone p (itself a b) =
        let same : p ≡ record { path = path; part = t } = λ k. record { path = a k; part = b k } in
        subst (λ (q : Placed). Contains (record { path = path; part = t } ∷ []) q) (sym same) (contains_first (record { path = path; part = t }) [])
    own_alone p (below c k way less is a b) = absurd (omega (arith, less))

module _ (path : List ℕ) (t : Term) (i : ℕ) where
  stands_later : (p : Placed) → StandsBefore path t i p → StandsBefore path t (i + 1) p
  stands_later p (itself a b) = itself a b
  stands_later p (below c k way less is a b) = below c k way (omega (arith, less)) is a b

  module _ (c : Term) (child_is : slice_get (children t) i ≡ Some c) (place : List ℕ) (place_is : place ≡ path ++ i ∷ []) where
    through_child : (way : List ℕ) → place ++ way ≡ path ++ i ∷ way
    through_child way = ap (λ (q : List ℕ). q ++ way) place_is ∙ append_assoc path (i ∷ []) way

    from_child : (p : Placed) → IsPlaceIn place c p → StandsBefore path t (i + 1) p
    from_child p is = below c i is.way (omega arith) child_is (is.path_is ∙ through_child is.way) is.part_is

    in_child : (p : Placed) (d : Term) (k : ℕ) (way : List ℕ) → k ≡ i → slice_get (children t) k ≡ Some d → p.path ≡ path ++ k ∷ way → subterm d way ≡ Some p.part → IsPlaceIn place c p
    in_child p d k way same is a b =
        let one : d ≡ c = some_is (sym is ∙ (ap (λ (n : ℕ). slice_get (children t) n) same ∙ child_is)) in
        record { way = way; path_is = a ∙ (ap (λ (n : ℕ). path ++ n ∷ way) same ∙ sym (through_child way)); part_is = subst (λ (x : Term). subterm x way ≡ Some p.part) one b }

    -- the places of one more child
    pub places_next : (found more new : List Spot) → ArePlacesBefore path t i found → ArePlaces place c more → new ≡ found ++ more → ArePlacesBefore path t (i + 1) new
    places_next found more new before are is =
        let whole : map seen_spot new ≡ map seen_spot found ++ map seen_spot more = ap (λ (fs : List Spot). map seen_spot fs) is ∙ map-append seen_spot found more in
        record {
          stand = λ p has. ⊎_elim
              (λ old. stands_later p (before.stand p old))
              (λ last. from_child p ((are p).0 last))
              (Contains-append_cases (map seen_spot found) (map seen_spot more) p (subst (λ (ps : List Placed). Contains ps p) whole has));
          all = λ p stands. subst (λ (ps : List Placed). Contains ps p) (sym whole) (by_place p stands);
        }
      where
        by_place : (p : Placed) → StandsBefore path t (i + 1) p → Contains (map seen_spot found ++ map seen_spot more) p
        by_place p (itself a b) = Contains-append_left (map seen_spot found) (map seen_spot more) p (before.all p (itself a b))
        by_place p (below d k way less is a b) = ⊎_elim
            (λ same. Contains-append_right (map seen_spot found) (map seen_spot more) p ((are p).1 (in_child p d k way same is a b)))
            (λ other. Contains-append_left (map seen_spot found) (map seen_spot more) p (before.all p (below d k way (omega (arith, less, other)) is a b)))
            (cases_eq k i)

  -- the places of all children
  pub places_end : (found : List Spot) → length (children t) ≤ i → ArePlacesBefore path t i found → ArePlaces path t found
  places_end found past before p = (λ has. to_place (before.stand p has), λ is. before.all p (by_way is.way is.path_is is.part_is))
    where
      to_place : StandsBefore path t i p → IsPlaceIn path t p
      to_place (itself a b) = record { way = []; path_is = a ∙ sym (append-nil path); part_is = ap (λ (x : Term). Some x) (sym b) }
      to_place (below c k way less is a b) = record { way = k ∷ way; path_is = a; part_is = ap (λ (o : Option Term). option_and_then (λ (child : Term). subterm child way) o) is ∙ b }

      through : (k : ℕ) (way : List ℕ) (o : Option Term) → slice_get (children t) k ≡ o → p.path ≡ path ++ k ∷ way → option_and_then (λ (child : Term). subterm child way) o ≡ Some p.part → StandsBefore path t i p
      through k way None e a b = absurd (none_is_some b)
      through k way (Some c) e a b = let within = slice_get_within (children t) k c e in below c k way (omega (arith, within, past)) e a b

      by_way : (way : List ℕ) → p.path ≡ path ++ way → subterm t way ≡ Some p.part → StandsBefore path t i p
      by_way [] a b = itself (a ∙ append-nil path) (sym (some_is b))
      by_way (k ∷ way) a b = through k way (slice_get (children t) k) refl a b

-- the path of one more place, where the part stands
pub paths_next : (places : List Spot) (part : Term) (i : ℕ) (place : Spot) (paths new : List (List ℕ)) (way : List ℕ) → i < length places → place ≡ get_or places i place → place.part.now ≡ part → way ≡ place.path →
    ((path : List ℕ) → Contains paths path ↔ Contains (map seen_spot (take i places)) (record { path = path; part = part })) → new ≡ paths ++ way ∷ [] →
    (path : List ℕ) → Contains new path ↔ Contains (map seen_spot (take (i + 1) places)) (record { path = path; part = part })
paths_next places part i place paths new way within is same way_is before new_is path =
    let seen = map seen_spot (take i places) in
    let here : Placed = record { path = way; part = part } in
    let seen_here : seen_spot place ≡ here = λ k. record { path = sym way_is k; part = same k } in
    let whole : map seen_spot (take (i + 1) places) ≡ seen ++ here ∷ [] = map_more seen_spot places i place within ∙ ap (λ (p : Placed). seen ++ p ∷ []) (ap seen_spot (sym is) ∙ seen_here) in
    let asked : Placed = record { path = path; part = part } in (
      λ has. subst (λ (ps : List Placed). Contains ps asked) (sym whole) (⊎_elim
          (λ old. Contains-append_left seen (here ∷ []) asked ((before path).0 old))
          (λ (e : way ≡ path). subst (Contains (seen ++ here ∷ [])) (ap (λ (q : List ℕ). record { path = q; part = part }) e) (Contains-push seen here))
          (Contains-push_cases paths way path (subst (λ (qs : List (List ℕ)). Contains qs path) new_is has))),
      λ has. subst (λ (qs : List (List ℕ)). Contains qs path) (sym new_is) (⊎_elim
          (λ old. Contains-append_left paths (way ∷ []) path ((before path).1 old))
          (λ (e : here ≡ asked). subst (Contains (paths ++ way ∷ [])) (ap (λ (p : Placed). p.path) e) (Contains-push paths way))
          (Contains-push_cases seen here asked (subst (λ (ps : List Placed). Contains ps asked) whole has))),
    )

-- another part stands at one more place
pub paths_pass : (places : List Spot) (part : Term) (i : ℕ) (place : Spot) (paths : List (List ℕ)) → i < length places → place ≡ get_or places i place → ¬ (place.part.now ≡ part) →
    ((path : List ℕ) → Contains paths path ↔ Contains (map seen_spot (take i places)) (record { path = path; part = part })) →
    (path : List ℕ) → Contains paths path ↔ Contains (map seen_spot (take (i + 1) places)) (record { path = path; part = part })
paths_pass places part i place paths within is other before path =
    let seen = map seen_spot (take i places) in
    let here = seen_spot place in
    let whole : map seen_spot (take (i + 1) places) ≡ seen ++ here ∷ [] = map_more seen_spot places i place within ∙ ap (λ (s : Spot). seen ++ seen_spot s ∷ []) (sym is) in
    let asked : Placed = record { path = path; part = part } in (
      λ has. subst (λ (ps : List Placed). Contains ps asked) (sym whole) (Contains-append_left seen (here ∷ []) asked ((before path).0 has)),
      λ has. ⊎_elim
          (λ old. (before path).1 old)
          (λ (e : here ≡ asked). absurd (other (ap (λ (p : Placed). p.part) e)))
          (Contains-push_cases seen here asked (subst (λ (ps : List Placed). Contains ps asked) whole has)),
    )

pub paths_start : (part : Term) (paths : List (List ℕ)) → paths ≡ [] → (path : List ℕ) → Contains paths path ↔ Contains {X = Placed} [] (record { path = path; part = part })
paths_start part paths empty path = (
  λ has. let none = subst (λ (qs : List (List ℕ)). Contains qs path) empty has in absurd (omega (arith, none.1)),
  λ has. absurd (omega (arith, has.1)),
)

pub paths_end : (places : List Spot) (part : Term) (i : ℕ) (paths : List (List ℕ)) → length places ≤ i →
    ((path : List ℕ) → Contains paths path ↔ Contains (map seen_spot (take i places)) (record { path = path; part = part })) →
    (path : List ℕ) → Contains paths path ↔ Contains (map seen_spot places) (record { path = path; part = part })
paths_end places part i paths past before path = subst (λ (ps : List Spot). Contains paths path ↔ Contains (map seen_spot ps) (record { path = path; part = part })) (take_all i places past) (before path)

-- the paths to a part are those of the places of the whole term where it stands
paths_exact : (t part : Term) (places asked : List Spot) (paths : List (List ℕ)) → ArePlaces [] t places → asked ≡ places →
    ((path : List ℕ) → Contains paths path ↔ Contains (map seen_spot asked) (record { path = path; part = part })) → (path : List ℕ) → Contains paths path ↔ (subterm t path ≡ Some part)
paths_exact t part places asked paths are same exact path =
    let p : Placed = record { path = path; part = part } in
    let known : Contains (map seen_spot asked) p ↔ IsPlaceIn [] t p = subst (λ (ss : List Spot). Contains (map seen_spot ss) p ↔ IsPlaceIn [] t p) (sym same) (are p) in (
      λ has. let place = known.0 ((exact path).0 has) in subst (λ (q : List ℕ). subterm t q ≡ Some part) (sym place.path_is) place.part_is,
      λ stands. (exact path).1 (known.1 (record { way = path; path_is = refl; part_is = stands })),
    )

pub paths_answer : (t part : Term) (places asked : List Spot) {E : Type 0} (result : Result (List (List ℕ)) E) → ArePlaces [] t places → asked ≡ places →
    IfOk result (λ (paths : List (List ℕ)). (path : List ℕ) → Contains paths path ↔ Contains (map seen_spot asked) (record { path = path; part = part })) →
    IfOk result (λ (paths : List (List ℕ)). (path : List ℕ) → Contains paths path ↔ (subterm t path ≡ Some part))
paths_answer t part places asked (Ok paths) are same exact = paths_exact t part places asked paths are same exact
paths_answer t part places asked (Err end) are same exact = tt
