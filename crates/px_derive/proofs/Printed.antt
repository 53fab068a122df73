-- What a loop over the items of a list has written.
use Rattle.std.proofs.Common.{◌≡◌, ℕ, ◌-◌, ◌<◌, ◌≤◌, List, [], ◌∷◌, ◌++◌, length, map, take, drop, get_or, refl, sym, ap, ◌∙◌, append_assoc, arith, Bool, true, false, ◌==◌}
use Rattle.std.specs.List.{join_with_byte, flat_map}
use Rattle.std.proofs.lemmas.List.{take_rest, take_all}
use Rattle.px_derive.specs.Spelling.{commas}
use Rattle.px_derive.proofs.ListFacts.{followed, joined}

-- the first item was written, and then each further one after a comma
pub printed : {T : Type 0} (written : T → List ℕ) (xs : List T) (first : T) (start before out : List ℕ) (i : ℕ) → 1 ≤ length xs → first ≡ get_or xs 0 first → before ≡ start ++ written first →
    out ≡ before ++ flat_map (λ (x : T). 44 ∷ written x) (take i (take (length xs - 1) (drop 1 xs))) → length (take (length xs - 1) (drop 1 xs)) ≤ i → out ≡ start ++ commas (map written xs)
printed written [] first start before out i some is one all done = absurd (omega arith)
printed {T} written (x ∷ xs) first start before out i some is one all done =
    let rest : take (length (x ∷ xs) - 1) (drop 1 (x ∷ xs)) ≡ xs = take_rest (x ∷ xs) 1 in
    let low : length xs ≤ i = rw (← rest) done in
    let whole : take i (take (length (x ∷ xs) - 1) (drop 1 (x ∷ xs))) ≡ xs = ap (take i) rest ∙ take_all i xs low in
    all ∙ ap (λ ys. before ++ followed 44 written ys) whole ∙ ap (λ z. z ++ followed 44 written xs) (one ∙ ap (λ y. start ++ written y) is) ∙ append_assoc start (written x) (followed 44 written xs)
    ∙ ap (λ z. start ++ z) (sym (joined 44 written x xs))

join_append : (x : List ℕ) (xs : List (List ℕ)) (y : List ℕ) (ys : List (List ℕ)) → join_with_byte 44 ((x ∷ xs) ++ y ∷ ys) ≡ join_with_byte 44 (x ∷ xs) ++ 44 ∷ join_with_byte 44 (y ∷ ys)
join_append x [] y ys = refl
join_append x (z ∷ zs) y ys = ap (λ w. x ++ 44 ∷ w) (join_append z zs y ys) ∙ sym (append_assoc x (44 ∷ join_with_byte 44 (z ∷ zs)) (44 ∷ join_with_byte 44 (y ∷ ys)))

-- two lists, with a comma between
pub two_lists : (xs ys : List (List ℕ)) → 0 < length xs → 0 < length ys → commas (xs ++ ys) ≡ commas xs ++ 44 ∷ commas ys
two_lists [] ys some others = absurd (omega arith)
two_lists (x ∷ xs) [] some others = absurd (omega arith)
two_lists (x ∷ xs) (y ∷ ys) some others = join_append x xs y ys

-- a list that is not empty
pub not_empty : {A B : Type 0} (f : A → B) (xs : List A) (b : Bool) → b ≡ (length xs == 0) → b ≡ false → 0 < length (map f xs)
not_empty f [] b is some = let q : true ≡ false = sym is ∙ some in absurd cc
not_empty f (x ∷ xs) b is some = omega arith

-- the one list was written, a comma, and the other
pub both_printed : (start before middle out : List ℕ) (fs ts : List (List ℕ)) → 0 < length fs → 0 < length ts → before ≡ start ++ commas fs → middle ≡ before ++ 44 ∷ [] → out ≡ middle ++ commas ts → out ≡ start ++ commas (fs ++ ts)
both_printed start before middle out fs ts some others one comma other =
    other ∙ ap (λ z. z ++ commas ts) (comma ∙ ap (λ z. z ++ 44 ∷ []) one) ∙ append_assoc (start ++ commas fs) (44 ∷ []) (commas ts) ∙ append_assoc start (commas fs) (44 ∷ commas ts) ∙ ap (λ z. start ++ z) (sym (two_lists fs ts some others))
