-- Names are found by their numbers, where no two of a kind are equal.
use Rattle.std.proofs.Common.{◌≡◌, ℕ, zero, suc, ◌+◌, ◌<◌, ◌≤◌, ◌^◌, Bool, true, false, not, cond, ◌&&◌, List, [], ◌∷◌, ◌++◌, length, drop, get_or, Option, Some, None, refl, sym, ap, ◌∙◌, subst, arith, nat_lt}
use Rattle.std.specs.Prelude.{Contains}
use Rattle.std.specs.List.{position_or_len, flat_map}
use Rattle.std.specs.Str.{bytes_eq}
use Rattle.std.proofs.lemmas.Slice.Eq.{bytes_eq-Decides}
use Rattle.std.proofs.lemmas.Bool.Decides.{Decides-ltb}
use Rattle.std.proofs.lemmas.List.Quantifiers.{position-Some}
use Rattle.std.proofs.lemmas.List.Elements.{Contains-get_or, Contains-append_left, Contains-append_right}
use Rattle.std.proofs.lemmas.Option.{unwrap_or-slice_get}
use Rattle.std.proofs.lemmas.List.{drop_more, drop_all}
use Rattle.px_base.specs.Distinct.{AreDistinct, none, more}
use Rattle.px_base.specs.declared.names.Names.{Names}
use Rattle.px_derive.specs.Spelling.{name_at, constructors_at}
use Rattle.px_derive.specs.Spellable.{IsNumberOf, IsConstructorOf}
use Rattle.px_derive.specs.Reading.{small, place_of, number_named, constructor_or, constructor_from, small_constructor, constructor_named}
use Rattle.px_derive.specs.declared.lookups.Constructor.{Constructor}
use Rattle.px_derive.proofs.Found.{Both, and_then_some}

-- a number that is small
pub small_is : (n m : ℕ) → small n ≡ Some m → (n ≡ m) × (m < 2 ^ 32)
small_is n m e = by (nat_lt n (2 ^ 32)) (Decides-ltb n (2 ^ 32)).0 e
  where
    by : (b : Bool) → (b ≡ true → n < 2 ^ 32) → cond b (Some n) None ≡ Some m → (n ≡ m) × (m < 2 ^ 32)
    by true less f = let q : n ≡ m = cc in (q, subst (λ k. k < 2 ^ 32) q (less refl))
    by false less f = absurd cc

pub small_some : (n : ℕ) → n < 2 ^ 32 → small n ≡ Some n
small_some n less = rw ((Decides-ltb n (2 ^ 32)).1 less) refl

abbrev here : List ℕ → List ℕ → Bool
here word name = bytes_eq name word

place_step : (word x : List ℕ) (xs : List (List ℕ)) (d : ℕ) (b : Bool) → b ≡ false → position_or_len (here word) xs ≡ d → cond (not b) (1 + position_or_len (here word) xs) 0 ≡ suc d
place_step word x xs d true e f = absurd cc
place_step word x xs d false e f = omega arith

-- a name stands first at its number
place_or_len : (names : List (List ℕ)) → AreDistinct names → (d : ℕ) → d < length names → position_or_len (here (get_or names d [])) names ≡ d
place_or_len [] distinct d less = absurd (omega arith)
place_or_len (x ∷ xs) distinct zero less = rw ((bytes_eq-Decides x x).1 refl) refl
place_or_len (x ∷ xs) (more absent distinct) (suc d) less =
    let in_rest : d < length xs = omega arith in
    let differs : (bytes_eq x (get_or xs d []) ≡ true) → ⊥ = λ e. absent (subst (Contains xs) (sym ((bytes_eq-Decides x (get_or xs d [])).0 e)) (Contains-get_or xs d [] in_rest)) in
    place_step (get_or xs d []) x xs d (bytes_eq x (get_or xs d [])) (is_false _ differs) (place_or_len xs distinct d in_rest)
  where
    is_false : (b : Bool) → (b ≡ true → ⊥) → b ≡ false
    is_false true h = absurd (h refl)
    is_false false h = refl

place_named : (names : List (List ℕ)) → AreDistinct names → (d : ℕ) → d < length names → place_of names (get_or names d []) ≡ Some d
place_named names distinct d less = rw (place_or_len names distinct d less, (Decides-ltb d (length names)).1 less) refl

pub name_is : (names : List (List ℕ)) (d : ℕ) → name_at names d ≡ get_or names d []
name_is names d = unwrap_or-slice_get names d []

-- a name is found by its number
pub named_number : (names : List (List ℕ)) → AreDistinct names → (d : ℕ) → IsNumberOf names d → number_named names (name_at names d) ≡ Some d
unfolding number_named
named_number names distinct d is = rw (name_is names d, place_named names distinct d is.within) (small_some d is.small)

-- A word was found as the name of this number.
pub record IsNamed (names : List (List ℕ)) (word : List ℕ) (d : ℕ) : Type 0 where
  pub number : IsNumberOf names d
  pub name : word ≡ name_at names d

place_found : (names : List (List ℕ)) (word : List ℕ) (d : ℕ) → place_of names word ≡ Some d → (d < length names) × (word ≡ get_or names d [])
place_found names word d e =
    let p = position-Some (here word) names d [] e in
    (p.0, sym ((bytes_eq-Decides (get_or names d []) word).0 p.1))

pub number_found : (names : List (List ℕ)) (word : List ℕ) (d : ℕ) → number_named names word ≡ Some d → IsNamed names word d
unfolding number_named
number_found names word d e =
    let b : Both (place_of names word) small d = and_then_some (place_of names word) small d e in
    let s = small_is b.value d b.second in
    let p = place_found names word b.value b.first in
    record {
      number = record { small = s.1; within = subst (λ k. k < length names) s.0 p.0 };
      name = p.1 ∙ ap (λ k. get_or names k []) s.0 ∙ sym (name_is names d);
    }

-- the front of a list in which nothing stands twice
pub distinct_front : {A : Type 0} (xs ys : List A) → AreDistinct (xs ++ ys) → AreDistinct xs
distinct_front [] ys distinct = none
distinct_front (x ∷ xs) ys (more absent distinct) = more (λ there. absent (Contains-append_left xs ys x there)) (distinct_front xs ys distinct)

pub distinct_back : {A : Type 0} (xs ys : List A) → AreDistinct (xs ++ ys) → AreDistinct ys
distinct_back [] ys distinct = distinct
distinct_back (x ∷ xs) ys (more absent distinct) = distinct_back xs ys distinct

-- what stands in front does not stand behind
pub distinct_apart : {A : Type 0} (xs ys : List A) → AreDistinct (xs ++ ys) → (x : A) → Contains xs x → Contains ys x → ⊥
distinct_apart [] ys distinct x (k, less, is) there = omega arith
distinct_apart (y ∷ xs) ys (more absent distinct) x (zero, less, is) there = absent (Contains-append_right xs ys y (subst (Contains ys) (sym is) there))
distinct_apart (y ∷ xs) ys (more absent distinct) x (suc k, less, is) there = distinct_apart xs ys distinct x (k, omega arith, is) there

abbrev all_of : List (List (List ℕ)) → List (List ℕ)
all_of lists = flat_map (λ (own : List (List ℕ)). own) lists

no_place : (names : List (List ℕ)) (word : List ℕ) (o : Option ℕ) → place_of names word ≡ o → (Contains names word → ⊥) → place_of names word ≡ None
no_place names word (Some d) e absent =
    let p = place_found names word d e in
    absurd (absent (subst (Contains names) (sym p.1) (Contains-get_or names d [] p.0)))
no_place names word None e absent = e

contained : (lists : List (List (List ℕ))) (d k : ℕ) → k < length (get_or lists d []) → Contains (all_of lists) (get_or (get_or lists d []) k [])
contained [] d k less = absurd (omega arith)
contained (own ∷ lists) zero k less = Contains-append_left own (all_of lists) (get_or own k []) (Contains-get_or own k [] less)
contained (own ∷ lists) (suc d) k less = Contains-append_right own (all_of lists) (get_or (get_or lists d []) k []) (contained lists d k less)

-- the constructor of these numbers
abbrev pub constructor_of : ℕ → ℕ → Constructor
constructor_of d k = record { datatype = d; con = k }

from_named : (start : ℕ) (lists : List (List (List ℕ))) → AreDistinct (all_of lists) → (d k : ℕ) → k < length (get_or lists d []) → constructor_from start lists (get_or (get_or lists d []) k []) ≡ Some (constructor_of (start + d) k)
from_named start [] distinct d k less = absurd (omega arith)
from_named start (own ∷ lists) distinct zero k less =
    let here_is : place_of own (get_or own k []) ≡ Some k = place_named own (distinct_front own (all_of lists) distinct) k less in
    let same : start ≡ start + zero = omega arith in
    rw here_is (ap (λ (i : ℕ). Some (constructor_of i k)) same)
from_named start (own ∷ lists) distinct (suc d) k less =
    let word : List ℕ = get_or (get_or lists d []) k [] in
    let not_here : place_of own word ≡ None = no_place own word (place_of own word) refl (λ there. distinct_apart own (all_of lists) distinct word there (contained lists d k less)) in
    let same : start + 1 + d ≡ start + suc d = omega arith in
    rw not_here (from_named (start + 1) lists (distinct_back own (all_of lists) distinct) d k less ∙ ap (λ (i : ℕ). Some (constructor_of i k)) same)

constructors_are : (names : Names) (d : ℕ) → constructors_at names d ≡ get_or names.cons d []
constructors_are names d = unwrap_or-slice_get names.cons d []

small_both : (d k : ℕ) → d < 2 ^ 32 → k < 2 ^ 32 → small_constructor (constructor_of d k) ≡ Some (constructor_of d k)
small_both d k one two = rw ((Decides-ltb d (2 ^ 32)).1 one, (Decides-ltb k (2 ^ 32)).1 two) refl

-- a constructor is found by its numbers
pub named_constructor : (names : Names) → AreDistinct (all_of names.cons) → (d k : ℕ) → IsConstructorOf names d k → constructor_named names.cons (name_at (constructors_at names d) k) ≡ Some (constructor_of d k)
unfolding constructor_named
named_constructor names distinct d k is =
    let own : constructors_at names d ≡ get_or names.cons d [] = constructors_are names d in
    let word : name_at (constructors_at names d) k ≡ get_or (get_or names.cons d []) k [] = name_is (constructors_at names d) k ∙ ap (λ ns. get_or ns k []) own in
    let found : constructor_from 0 names.cons (get_or (get_or names.cons d []) k []) ≡ Some (constructor_of d k) = from_named 0 names.cons distinct d k (subst (λ ns. k < length ns) own is.con.within) ∙ ap (λ (i : ℕ). Some (constructor_of i k)) (omega arith) in
    rw (word, found) (small_both d k is.datatype.small is.con.small)

-- A word was found as the name of this constructor, the datatypes being numbered from a start on.
record IsFrom (start : ℕ) (lists : List (List (List ℕ))) (word : List ℕ) (c : Constructor) : Type 0 where
  at : ℕ
  place : c.datatype ≡ start + at
  within : at < length lists
  own : c.con < length (get_or lists at [])
  name : word ≡ get_or (get_or lists at []) c.con []

from_found : (start : ℕ) (lists : List (List (List ℕ))) (word : List ℕ) (c : Constructor) → constructor_from start lists word ≡ Some c → IsFrom start lists word c
from_found start [] word c e = absurd cc
from_found start (own ∷ lists) word c e = by (place_of own word) refl e (from_found (start + 1) lists word c)
  where
    by : (o : Option ℕ) → place_of own word ≡ o → constructor_or start o (constructor_from (start + 1) lists word) ≡ Some c → (constructor_from (start + 1) lists word ≡ Some c → IsFrom (start + 1) lists word c) → IsFrom start (own ∷ lists) word c
    by (Some k) here_is f deeper =
        let q : constructor_of start k ≡ c = cc in
        let p = place_found own word k here_is in
        let con_is : k ≡ c.con = ap (λ (z : Constructor). z.con) q in
        record {
          at = 0;
          place = sym (ap (λ (z : Constructor). z.datatype) q) ∙ (omega arith);
          within = omega arith;
          own = subst (λ i. i < length own) con_is p.0;
          name = p.1 ∙ ap (λ i. get_or own i []) con_is;
        }
    by None not_here f deeper =
        let r : IsFrom (start + 1) lists word c = deeper f in
        record { at = suc r.at; place = r.place ∙ (omega arith); within = omega (arith, r.within); own = r.own; name = r.name }

-- A word was found as the name of this constructor.
pub record IsNamedConstructor (names : Names) (word : List ℕ) (c : Constructor) : Type 0 where
  pub numbers : IsConstructorOf names c.datatype c.con
  pub name : word ≡ name_at (constructors_at names c.datatype) c.con

small_constructor_is : (c e : Constructor) → small_constructor c ≡ Some e → (c ≡ e) × (e.datatype < 2 ^ 32) × (e.con < 2 ^ 32)
small_constructor_is c e f = by (nat_lt c.datatype (2 ^ 32)) (nat_lt c.con (2 ^ 32)) (Decides-ltb c.datatype (2 ^ 32)).0 (Decides-ltb c.con (2 ^ 32)).0 f
  where
    by : (a b : Bool) → (a ≡ true → c.datatype < 2 ^ 32) → (b ≡ true → c.con < 2 ^ 32) → cond (a && b) (Some c) None ≡ Some e → (c ≡ e) × (e.datatype < 2 ^ 32) × (e.con < 2 ^ 32)
    by true true one two g = let q : c ≡ e = cc in (q, subst (λ (z : Constructor). z.datatype < 2 ^ 32) q (one refl), subst (λ (z : Constructor). z.con < 2 ^ 32) q (two refl))
    by true false one two g = absurd cc
    by false b one two g = absurd cc

pub constructor_found : (names : Names) (word : List ℕ) (c : Constructor) → constructor_named names.cons word ≡ Some c → IsNamedConstructor names word c
unfolding constructor_named
constructor_found names word c e =
    let b : Both (constructor_from 0 names.cons word) small_constructor c = and_then_some (constructor_from 0 names.cons word) small_constructor c e in
    let (same, one, two) = small_constructor_is b.value c b.second in
    let f : IsFrom 0 names.cons word c = subst (IsFrom 0 names.cons word) same (from_found 0 names.cons word b.value b.first) in
    let at_is : f.at ≡ c.datatype = omega (arith, f.place) in
    let own : get_or names.cons f.at [] ≡ constructors_at names c.datatype = ap (λ i. get_or names.cons i []) at_is ∙ sym (constructors_are names c.datatype) in
    record {
      numbers = record {
        datatype = record { small = one; within = subst (λ i. i < length names.cons) at_is f.within };
        con = record { small = two; within = subst (λ ns. c.con < length ns) own f.own };
      };
      name = f.name ∙ ap (λ ns. get_or ns c.con []) own ∙ sym (name_is (constructors_at names c.datatype) c.con);
    }

-- a look-up in the lists from one on, one step on
pub found_here : (lists : List (List (List ℕ))) (word : List ℕ) (i k : ℕ) (own : List (List ℕ)) → i < length lists → own ≡ get_or lists i own → constructor_from i (drop i lists) word ≡ constructor_from 0 lists word → place_of own word ≡ Some k → constructor_named lists word ≡ small_constructor (constructor_of i k)
unfolding constructor_named
found_here lists word i k own within own_is so_far place_is =
    let more : drop i lists ≡ own ∷ drop (i + 1) lists = drop_more lists i own within ∙ ap (λ z. z ∷ drop (i + 1) lists) (sym own_is) in
    let here_is : constructor_from 0 lists word ≡ Some (constructor_of i k) = sym so_far ∙ rw (more, place_is) refl in
    rw here_is refl

pub not_found_here : (lists : List (List (List ℕ))) (word : List ℕ) (i : ℕ) (own : List (List ℕ)) → i < length lists → own ≡ get_or lists i own → constructor_from i (drop i lists) word ≡ constructor_from 0 lists word → place_of own word ≡ None → constructor_from (i + 1) (drop (i + 1) lists) word ≡ constructor_from 0 lists word
not_found_here lists word i own within own_is so_far no_place_is =
    let more : drop i lists ≡ own ∷ drop (i + 1) lists = drop_more lists i own within ∙ ap (λ z. z ∷ drop (i + 1) lists) (sym own_is) in
    let step : constructor_from i (drop i lists) word ≡ constructor_from (i + 1) (drop (i + 1) lists) word = rw (more, no_place_is) refl in
    sym step ∙ so_far

pub found_nowhere : (lists : List (List (List ℕ))) (word : List ℕ) (i : ℕ) → length lists ≤ i → constructor_from i (drop i lists) word ≡ constructor_from 0 lists word → constructor_named lists word ≡ None
unfolding constructor_named
found_nowhere lists word i past so_far =
    let none_left : constructor_from 0 lists word ≡ None = sym so_far ∙ rw (drop_all i lists past) refl in
    rw none_left refl
