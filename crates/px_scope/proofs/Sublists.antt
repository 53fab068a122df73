-- Lists of places that are got from others by leaving out some at which no name stands.
use Rattle.std.proofs.Common.{◌≡◌, ℕ, zero, suc, ◌<◌, Bool, true, false, List, [], ◌∷◌, ◌++◌, arith, ap}
use Rattle.std.specs.List.{All, AllPairs, Contains}
use Rattle.std.proofs.lemmas.List.Elements.{All-cons, All-head, All-tail}
use Rattle.std.proofs.lemmas.List.Kept.{AllPairs-cons}

-- A place: where a word begins, and whether the word is a name or a property's.
pub record Place : Type 0 where
  pub at : ℕ
  pub named : Bool

-- the place of a name or a property
abbrev pub name_at : ℕ → Place
name_at at = record { at = at; named = true }

-- the place of another word
abbrev pub other_at : ℕ → Place
other_at at = record { at = at; named = false }

-- the one place stands before the other
abbrev pub Precedes : Place → Place → Type 0
Precedes a b = a.at < b.at

-- the first list is the second without some places at which no name stands
pub data Sub : List Place → List Place → Type 0 where
  done : Sub [] []
  keep : {x : Place} {xs ys : List Place} → Sub xs ys → Sub (x ∷ xs) (x ∷ ys)
  leave : {y : Place} {xs ys : List Place} → y.named ≡ false → Sub xs ys → Sub xs (y ∷ ys)

pub sub_refl : (xs : List Place) → Sub xs xs
sub_refl [] = done
sub_refl (x ∷ xs) = keep (sub_refl xs)

pub sub_trans : (xs ys zs : List Place) → Sub xs ys → Sub ys zs → Sub xs zs
sub_trans _ _ _ s done = s
sub_trans _ _ _ s (leave {y = y} {xs = ys} {ys = zs} other t) = leave other (sub_trans _ ys zs s t)
sub_trans _ _ _ (keep {x = x} {xs = xs} {ys = ys} s) (keep {ys = zs} t) = keep (sub_trans xs ys zs s t)
sub_trans _ _ _ (leave {y = y} {xs = xs} {ys = ys} other s) (keep {ys = zs} t) = leave other (sub_trans xs ys zs s t)

pub sub_both : (xs ys vs ws : List Place) → Sub xs ys → Sub vs ws → Sub (xs ++ vs) (ys ++ ws)
sub_both _ _ vs ws done t = t
sub_both _ _ vs ws (keep {xs = xs} {ys = ys} s) t = keep (sub_both xs ys vs ws s t)
sub_both _ _ vs ws (leave {xs = xs} {ys = ys} other s) t = leave other (sub_both xs ys vs ws s t)

-- what holds of all of a list holds of all that is left of it
pub sub_all : (P : Place → Type 0) (xs ys : List Place) → Sub xs ys → All P ys → All P xs
sub_all P _ _ done all = all
sub_all P _ _ (keep {x = x} {xs = xs} {ys = ys} s) all = All-cons P x xs (All-head P x ys all) (sub_all P xs ys s (All-tail P x ys all))
sub_all P _ _ (leave {y = y} {xs = xs} {ys = ys} other s) all = sub_all P xs ys s (All-tail P y ys all)

module _ {X : Type 0} (R : X → X → Type 0) (x : X) (xs : List X) (pairs : AllPairs R (x ∷ xs)) where
  pub all_pairs_head : All (R x) xs
  all_pairs_head k d within = pairs zero (suc k) d (omega arith) (omega arith)

  pub all_pairs_tail : AllPairs R xs
  all_pairs_tail i j d below within = pairs (suc i) (suc j) d (omega arith) (omega arith)

-- what is left of a list that rises rises
pub sub_rises : (xs ys : List Place) → Sub xs ys → AllPairs Precedes ys → AllPairs Precedes xs
sub_rises _ _ done rises = rises
sub_rises _ _ (keep {x = x} {xs = xs} {ys = ys} s) rises =
    let after : All (Precedes x) xs = sub_all (Precedes x) xs ys s (all_pairs_head Precedes x ys rises) in
    AllPairs-cons Precedes x xs after (sub_rises xs ys s (all_pairs_tail Precedes x ys rises))
sub_rises _ _ (leave {y = y} {xs = xs} {ys = ys} other s) rises = sub_rises xs ys s (all_pairs_tail Precedes y ys rises)

-- a list of one more has its first element
pub contains_first : {X : Type 0} (x : X) (xs : List X) (y : X) → x ≡ y → Contains (x ∷ xs) y
contains_first x xs y same = (0, omega arith, same)

-- a list of one more has what it had
pub contains_later : {X : Type 0} (x : X) (xs : List X) (y : X) → Contains xs y → Contains (x ∷ xs) y
contains_later x xs y (k, within, is) = (suc k, omega arith, is)

-- the place of a name is never left out
pub sub_keeps : (xs ys : List Place) → Sub xs ys → (p : Place) → p.named ≡ true → Contains ys p → Contains xs p
sub_keeps _ _ done p named has = has
sub_keeps _ _ (keep {x = x} {xs = xs} {ys = ys} s) p named (zero, within, is) = contains_first x xs p is
sub_keeps _ _ (keep {x = x} {xs = xs} {ys = ys} s) p named (suc k, within, is) = contains_later x xs p (sub_keeps xs ys s p named (k, omega arith, is))
sub_keeps _ _ (leave {y = y} {xs = xs} {ys = ys} other s) p named (zero, within, is) = let same : y.named ≡ p.named = ap (λ (q : Place). q.named) is in cc
sub_keeps _ _ (leave {y = y} {xs = xs} {ys = ys} other s) p named (suc k, within, is) = sub_keeps xs ys s p named (k, omega arith, is)
