-- Some items, and behind them those of a list from there on.
use Rattle.std.proofs.Common.{◌≡◌, ◌≤◌, ℕ, zero, suc, List, [], ◌∷◌, ◌++◌, length, drop, Some, slice_get, slice_set, refl, ap, ◌∙◌, arith}
use Rattle.std.proofs.lemmas.List.{append-nil}

-- The first item of the list is this one; another one in its place is behind the others.
pub record IsMixed {X : Type 0} (done xs : List X) (i : ℕ) (c x : X) : Type 0 where
  pub found : slice_get (done ++ drop i xs) i ≡ Some c
  pub put : slice_set (done ++ drop i xs) i x ≡ (done ++ x ∷ []) ++ drop (suc i) xs

pub mixed : {X : Type 0} (done xs : List X) (i : ℕ) (c x : X) → length done ≡ i → slice_get xs i ≡ Some c → IsMixed done xs i c x
mixed [] [] zero c x long found = cc
mixed [] (t ∷ ts) zero c x long found = record { found = found; put = refl }
mixed [] xs (suc i) c x long found = absurd (omega (arith, long))
mixed (u ∷ us) xs zero c x long found = absurd (omega (arith, long))
mixed (u ∷ us) [] (suc i) c x long found = cc
mixed (u ∷ us) (t ∷ ts) (suc i) c x long found =
    let rest = mixed us ts i c x (omega (arith, long)) found in
    record { found = rest.found; put = ap (λ (vs : List _). u ∷ vs) rest.put }

-- all of them
pub mixed_all : {X : Type 0} (done xs : List X) (i : ℕ) → length xs ≤ i → done ++ drop i xs ≡ done
mixed_all done [] zero most = append-nil done
mixed_all done [] (suc i) most = append-nil done
mixed_all done (t ∷ ts) zero most = absurd (omega arith)
mixed_all done (t ∷ ts) (suc i) most = mixed_all done ts i (omega arith)

-- what is left of a list begins with its item
pub left_is : {X : Type 0} (xs : List X) (i : ℕ) (c : X) → slice_get xs i ≡ Some c → drop i xs ≡ c ∷ drop (suc i) xs
left_is [] i c found = cc
left_is (t ∷ ts) zero c found = let same : t ≡ c = cc in ap (λ (x : _). x ∷ ts) same
left_is (t ∷ ts) (suc i) c found = left_is ts i c found

-- nothing is left
pub left_none : {X : Type 0} (xs : List X) (i : ℕ) → length xs ≤ i → drop i xs ≡ []
left_none [] zero most = refl
left_none [] (suc i) most = refl
left_none (t ∷ ts) zero most = absurd (omega arith)
left_none (t ∷ ts) (suc i) most = left_none ts i (omega arith)
