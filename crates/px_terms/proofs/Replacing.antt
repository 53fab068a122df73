-- A list with another item, put together from what stands before it and after it.
use Rattle.std.proofs.Common.{◌≡◌, ℕ, ◌+◌, ◌-◌, ◌<◌, List, [], ◌∷◌, ◌++◌, length, take, drop, slice_set, add-one, append_assoc, sym, ap, ◌∙◌}
use Rattle.std.proofs.lemmas.List.{set_split, take_rest}

-- the items before `i`, another one, and the items after `i`
pub replaced_item : {A : Type 0} (xs : List A) (i : ℕ) (y : A) → i < length xs →
    (take i xs ++ y ∷ []) ++ take (length xs - (i + 1)) (drop (i + 1) xs) ≡ slice_set xs i y
replaced_item xs i y h =
    ap (λ rest. (take i xs ++ y ∷ []) ++ rest) (take_rest xs (i + 1))
    ∙ append_assoc (take i xs) (y ∷ []) (drop (i + 1) xs)
    ∙ rw add-one (sym (set_split xs i y h))
