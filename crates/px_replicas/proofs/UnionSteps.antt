-- Two rising lists, taken from the front into one.
use Rattle.std.proofs.Common.{◌≡◌, ◌⊎◌, ℕ, ◌<◌, ◌≤◌, List, [], ◌∷◌, ◌++◌, refl, sym, ap, ◌∙◌, subst, inl, inr, arith, Contains, length, get_or, take, drop, ◌-◌}
use Rattle.std.proofs.lemmas.List.{append-nil}
use Rattle.std.proofs.Math.Seq.{take-length}
use Rattle.px_replicas.specs.Held.{IsUnion}
use Rattle.px_replicas.specs.Keeping.{AreInOrder}
use Rattle.px_replicas.proofs.RisingLists.{In, Rises, in_contains, contains_in, pairs_rise, rise_from_pairs, in_append, in_front, in_back, rises_push}

-- both has what was taken of one and of the other so far, and left and right are the rest
pub record Merging (one other both left right : List ℕ) : Type 0 where
  pub rises : Rises both
  pub left_rises : Rises left
  pub right_rises : Rises right
  pub below_left : (m n : ℕ) → In both m → In left n → m < n
  pub below_right : (m n : ℕ) → In both m → In right n → m < n
  pub from : (n : ℕ) → In both n → In one n ⊎ In other n
  pub of_left : (n : ℕ) → In left n → In one n
  pub of_right : (n : ℕ) → In right n → In other n
  pub there_one : (n : ℕ) → In one n → In both n ⊎ In left n
  pub there_other : (n : ℕ) → In other n → In both n ⊎ In right n

-- nothing is taken yet
pub starts : (one other : List ℕ) → AreInOrder one → AreInOrder other → Merging one other [] one other
starts one other p q = record {
  rises = tt;
  left_rises = rise_from_pairs one p;
  right_rises = rise_from_pairs other q;
  below_left = λ m n none h. absurd none;
  below_right = λ m n none h. absurd none;
  from = λ n none. absurd none;
  of_left = λ n h. h;
  of_right = λ n h. h;
  there_one = λ n h. inr h;
  there_other = λ n h. inr h;
}

last_in : (xs : List ℕ) (x m : ℕ) → In (xs ++ x ∷ []) m → In xs m ⊎ (m ≡ x)
last_in xs x m h = elim (in_append xs (x ∷ []) m h) [
  | inl k ↦ inl k
  | inr k ↦ only k
]
  where
    only : In (x ∷ []) m → In xs m ⊎ (m ≡ x)
    only (inl e) = inr e
    only (inr none) = absurd none

is_last : (xs : List ℕ) (x m : ℕ) → m ≡ x → In (xs ++ x ∷ []) m
is_last xs x m e = in_back xs (x ∷ []) m (inl e)

-- behind what was taken, a number of either list that is below the new rests
takes : (one other both left right lefts rights : List ℕ) (x : ℕ) → Merging one other both left right → In left x ⊎ In right x →
    ((n : ℕ) → In lefts n → (x < n) × In left n) → ((n : ℕ) → In rights n → (x < n) × In right n) → Rises lefts → Rises rights →
    ((n : ℕ) → In left n → (n ≡ x) ⊎ In lefts n) → ((n : ℕ) → In right n → (n ≡ x) ⊎ In rights n) → Merging one other (both ++ x ∷ []) lefts rights
takes one other both left right lefts rights x m is behind_left behind_right rise_left rise_right out_left out_right = record {
  rises = rises_push both x m.rises (λ n h. elim is [ inl k ↦ m.below_left n x h k | inr k ↦ m.below_right n x h k ]);
  left_rises = rise_left;
  right_rises = rise_right;
  below_left = λ k n h there. elim (last_in both x k h) [
    | inl old ↦ m.below_left k n old (behind_left n there).1
    | inr e ↦ let lt : x < n = (behind_left n there).0 in omega (arith, lt, e)
  ];
  below_right = λ k n h there. elim (last_in both x k h) [
    | inl old ↦ m.below_right k n old (behind_right n there).1
    | inr e ↦ let lt : x < n = (behind_right n there).0 in omega (arith, lt, e)
  ];
  from = λ n h. elim (last_in both x n h) [
    | inl old ↦ m.from n old
    | inr e ↦ elim is [ inl k ↦ inl (subst (In one) (sym e) (m.of_left x k)) | inr k ↦ inr (subst (In other) (sym e) (m.of_right x k)) ]
  ];
  of_left = λ n h. m.of_left n (behind_left n h).1;
  of_right = λ n h. m.of_right n (behind_right n h).1;
  there_one = λ n h. elim (m.there_one n h) [
    | inl old ↦ inl (in_front both (x ∷ []) n old)
    | inr k ↦ elim (out_left n k) [ inl e ↦ inl (is_last both x n e) | inr rest ↦ inr rest ]
  ];
  there_other = λ n h. elim (m.there_other n h) [
    | inl old ↦ inl (in_front both (x ∷ []) n old)
    | inr k ↦ elim (out_right n k) [ inl e ↦ inl (is_last both x n e) | inr rest ↦ inr rest ]
  ];
}

pub above_all : (x y : ℕ) (ys : List ℕ) → Rises (y ∷ ys) → x < y → (n : ℕ) → In (y ∷ ys) n → x < n
above_all x y ys h lt n (inl e) = omega arith
above_all x y ys h lt n (inr there) = let above : y < n = h.0 n there in omega arith

-- the right list's first number is the lesser
pub takes_right : (one other both left right : List ℕ) (x y : ℕ) (xs ys : List ℕ) → left ≡ x ∷ xs → right ≡ y ∷ ys → y < x → Merging one other both left right →
    Merging one other (both ++ y ∷ []) left ys
takes_right one other both left right x y xs ys e f lt merging =
    let m : Merging one other both (x ∷ xs) (y ∷ ys) = subst (λ (zs : List ℕ). Merging one other both (x ∷ xs) zs) f (subst (λ (zs : List ℕ). Merging one other both zs right) e merging) in
    subst (λ (zs : List ℕ). Merging one other (both ++ y ∷ []) zs ys) (sym e)
    (takes one other both (x ∷ xs) (y ∷ ys) (x ∷ xs) ys y m (inr (inl refl)) (λ n h. (above_all y x xs m.left_rises lt n h, h)) (λ n h. (m.right_rises.0 n h, inr h))
    m.left_rises m.right_rises.1 (λ n h. inr h) (λ n h. h))

-- the left list's first number is the lesser
pub takes_left : (one other both left right : List ℕ) (x y : ℕ) (xs ys : List ℕ) → left ≡ x ∷ xs → right ≡ y ∷ ys → x < y → Merging one other both left right →
    Merging one other (both ++ x ∷ []) xs right
takes_left one other both left right x y xs ys e f lt merging =
    let m : Merging one other both (x ∷ xs) (y ∷ ys) = subst (λ (zs : List ℕ). Merging one other both (x ∷ xs) zs) f (subst (λ (zs : List ℕ). Merging one other both zs right) e merging) in
    subst (λ (zs : List ℕ). Merging one other (both ++ x ∷ []) xs zs) (sym f)
    (takes one other both (x ∷ xs) (y ∷ ys) xs (y ∷ ys) x m (inl (inl refl)) (λ n h. (m.left_rises.0 n h, inr h)) (λ n h. (above_all x y ys m.right_rises lt n h, h))
    m.left_rises.1 m.right_rises (λ n h. h) (λ n h. inr h))

-- the first numbers are the same
pub takes_both : (one other both left right : List ℕ) (x y : ℕ) (xs ys : List ℕ) → left ≡ x ∷ xs → right ≡ y ∷ ys → y ≡ x → Merging one other both left right →
    Merging one other (both ++ x ∷ []) xs ys
takes_both one other both left right x y xs ys e f same merging =
    let m : Merging one other both (x ∷ xs) (y ∷ ys) = subst (λ (zs : List ℕ). Merging one other both (x ∷ xs) zs) f (subst (λ (zs : List ℕ). Merging one other both zs right) e merging) in
    takes one other both (x ∷ xs) (y ∷ ys) xs ys x m (inl (inl refl)) (λ n h. (m.left_rises.0 n h, inr h))
    (λ n h. (let lt : y < n = m.right_rises.0 n h in let k : x < n = omega arith in k, inr h)) m.left_rises.1 m.right_rises.1 (λ n h. h) (λ n h. out n h)
  where
    out : (n : ℕ) → In (y ∷ ys) n → (n ≡ x) ⊎ In ys n
    out n (inl k) = inl (k ∙ same)
    out n (inr k) = inr k

-- behind a rising list, a rising list that is above it
rises_join : (xs ys : List ℕ) → Rises xs → Rises ys → ((m n : ℕ) → In xs m → In ys n → m < n) → Rises (xs ++ ys)
rises_join [] ys p q h = q
rises_join (x ∷ xs) ys p q h = (
  λ n there. elim (in_append xs ys n there) [ inl k ↦ p.0 n k | inr k ↦ h x n (inl refl) k ],
  rises_join xs ys p.1 q (λ m n a b. h m n (inr a) b),
)

-- the rest of one list, where that of the other is empty
ends_one : (one other both left : List ℕ) → Merging one other both left [] → IsUnion one other (both ++ left)
ends_one one other both left m = record {
  rising = pairs_rise (both ++ left) (rises_join both left m.rises m.left_rises m.below_left);
  each = λ n. (there n, λ h. in_contains (both ++ left) n (back n h));
}
  where
    there : (n : ℕ) → Contains (both ++ left) n → Contains one n ⊎ Contains other n
    there n h = elim (in_append both left n (contains_in (both ++ left) n h)) [
      | inl k ↦ elim (m.from n k) [ inl a ↦ inl (in_contains one n a) | inr b ↦ inr (in_contains other n b) ]
      | inr k ↦ inl (in_contains one n (m.of_left n k))
    ]

    back : (n : ℕ) → Contains one n ⊎ Contains other n → In (both ++ left) n
    back n (inl h) = elim (m.there_one n (contains_in one n h)) [ inl k ↦ in_front both left n k | inr k ↦ in_back both left n k ]
    back n (inr h) = elim (m.there_other n (contains_in other n h)) [ inl k ↦ in_front both left n k | inr k ↦ absurd k ]

ends_other : (one other both right : List ℕ) → Merging one other both [] right → IsUnion one other (both ++ right)
ends_other one other both right m = record {
  rising = pairs_rise (both ++ right) (rises_join both right m.rises m.right_rises m.below_right);
  each = λ n. (there n, λ h. in_contains (both ++ right) n (back n h));
}
  where
    there : (n : ℕ) → Contains (both ++ right) n → Contains one n ⊎ Contains other n
    there n h = elim (in_append both right n (contains_in (both ++ right) n h)) [
      | inl k ↦ elim (m.from n k) [ inl a ↦ inl (in_contains one n a) | inr b ↦ inr (in_contains other n b) ]
      | inr k ↦ inr (in_contains other n (m.of_right n k))
    ]

    back : (n : ℕ) → Contains one n ⊎ Contains other n → In (both ++ right) n
    back n (inl h) = elim (m.there_one n (contains_in one n h)) [ inl k ↦ in_front both right n k | inr k ↦ absurd k ]
    back n (inr h) = elim (m.there_other n (contains_in other n h)) [ inl k ↦ in_front both right n k | inr k ↦ in_back both right n k ]

none_left : (xs : List ℕ) → length xs < 1 → xs ≡ []
none_left [] lt = refl
none_left (x ∷ xs) lt = absurd (omega arith)

-- what is left of both lists, of which one is empty
ends : (one other both left right more all : List ℕ) → Merging one other both left right → (left ≡ []) ⊎ (right ≡ []) → more ≡ both ++ left → all ≡ more ++ right → IsUnion one other all
ends one other both left right more all m (inl none) e f =
    let is : all ≡ both ++ right = f ∙ ap (λ (xs : List ℕ). xs ++ right) (e ∙ ap (λ (xs : List ℕ). both ++ xs) none ∙ append-nil both) in
    subst (IsUnion one other) (sym is) (ends_other one other both right (subst (λ (xs : List ℕ). Merging one other both xs right) none m))
ends one other both left right more all m (inr none) e f =
    let is : all ≡ both ++ left = f ∙ ap (λ (xs : List ℕ). more ++ xs) none ∙ append-nil more ∙ e in
    subst (IsUnion one other) (sym is) (ends_one one other both left (subst (λ (xs : List ℕ). Merging one other both left xs) none m))

-- what a slice pattern's rest is
rest_of : (x : ℕ) (xs : List ℕ) → take (length (x ∷ xs) - 1) (drop 1 (x ∷ xs)) ≡ xs
rest_of x xs =
    let n : length (x ∷ xs) - 1 ≡ length xs = omega arith in
    ap (λ (k : ℕ). take k xs) n ∙ take-length xs

-- the three steps, as the code makes them
pub right_next : (one other both left right new : List ℕ) → 1 ≤ length left → 1 ≤ length right → get_or right 0 0 < get_or left 0 0 → Merging one other both left right →
    new ≡ both ++ get_or right 0 0 ∷ [] → Merging one other new left (take (length right - 1) (drop 1 right))
right_next one other both [] right new p q lt m is = absurd (omega arith)
right_next one other both (x ∷ xs) [] new p q lt m is = absurd (omega arith)
right_next one other both (x ∷ xs) (y ∷ ys) new p q lt m is =
    subst (λ (zs : List ℕ). Merging one other zs (x ∷ xs) (take (length (y ∷ ys) - 1) (drop 1 (y ∷ ys)))) (sym is)
    (subst (λ (zs : List ℕ). Merging one other (both ++ y ∷ []) (x ∷ xs) zs) (sym (rest_of y ys)) (takes_right one other both (x ∷ xs) (y ∷ ys) x y xs ys refl refl lt m))

pub left_next : (one other both left right new : List ℕ) → 1 ≤ length left → 1 ≤ length right → get_or left 0 0 < get_or right 0 0 → Merging one other both left right →
    new ≡ both ++ get_or left 0 0 ∷ [] → Merging one other new (take (length left - 1) (drop 1 left)) right
left_next one other both [] right new p q lt m is = absurd (omega arith)
left_next one other both (x ∷ xs) [] new p q lt m is = absurd (omega arith)
left_next one other both (x ∷ xs) (y ∷ ys) new p q lt m is =
    subst (λ (zs : List ℕ). Merging one other zs (take (length (x ∷ xs) - 1) (drop 1 (x ∷ xs))) (y ∷ ys)) (sym is)
    (subst (λ (zs : List ℕ). Merging one other (both ++ x ∷ []) zs (y ∷ ys)) (sym (rest_of x xs)) (takes_left one other both (x ∷ xs) (y ∷ ys) x y xs ys refl refl lt m))

pub both_next : (one other both left right new : List ℕ) → 1 ≤ length left → 1 ≤ length right → get_or right 0 0 ≡ get_or left 0 0 → Merging one other both left right →
    new ≡ both ++ get_or left 0 0 ∷ [] → Merging one other new (take (length left - 1) (drop 1 left)) (take (length right - 1) (drop 1 right))
both_next one other both [] right new p q same m is = absurd (omega arith)
both_next one other both (x ∷ xs) [] new p q same m is = absurd (omega arith)
both_next one other both (x ∷ xs) (y ∷ ys) new p q same m is =
    subst (λ (zs : List ℕ). Merging one other zs (take (length (x ∷ xs) - 1) (drop 1 (x ∷ xs))) (take (length (y ∷ ys) - 1) (drop 1 (y ∷ ys)))) (sym is)
    (subst (λ (zs : List ℕ). Merging one other (both ++ x ∷ []) zs (take (length (y ∷ ys) - 1) (drop 1 (y ∷ ys)))) (sym (rest_of x xs))
    (subst (λ (zs : List ℕ). Merging one other (both ++ x ∷ []) xs zs) (sym (rest_of y ys)) (takes_both one other both (x ∷ xs) (y ∷ ys) x y xs ys refl refl same m)))

-- the end, as the code comes to it
pub ends_left : (one other both left right more all : List ℕ) → length left < 1 → Merging one other both left right → more ≡ both ++ left → all ≡ more ++ right → IsUnion one other all
ends_left one other both left right more all lt m = ends one other both left right more all m (inl (none_left left lt))

pub ends_right : (one other both left right more all : List ℕ) → length right < 1 → Merging one other both left right → more ≡ both ++ left → all ≡ more ++ right → IsUnion one other all
ends_right one other both left right more all lt m = ends one other both left right more all m (inr (none_left right lt))
