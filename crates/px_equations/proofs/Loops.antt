-- A relation of lists, as a loop goes along them.
use Rattle.std.proofs.Common.{◌≡◌, ◌↔◌, ℕ, ◌+◌, ◌<◌, ◌≤◌, Bool, true, false, IsTrue, List, [], ◌∷◌, length, get_or, drop, refl, sym, ◌∙◌, ap, subst, drop-cons, add-one}
use Rattle.std.proofs.lemmas.Bool.{false≢true}
use Rattle.std.proofs.lemmas.List.{drop_all}

-- a test that came out false
pub fails : {P : Type 0} → (P → ⊥) → IsTrue false ↔ P
fails h = (λ e. absurd (false≢true e), λ p. absurd (h p))

pub not_of : {P : Type 0} (b : Bool) → (IsTrue b ↔ P) → b ≡ false → P → ⊥
not_of b h e p = false≢true (sym e ∙ h.1 p)

pub drop_at : {X : Type 0} (xs looked : List X) → looked ≡ xs → (i : ℕ) (x : X) → i < length looked → x ≡ get_or looked i x → drop i xs ≡ x ∷ drop (i + 1) xs
drop_at xs looked same i x h is =
    let item : x ≡ get_or xs i x = is ∙ ap (λ (zs : List _). get_or zs i x) same in
    let below : i < length xs = rw same at h in
    rw (add-one, drop-cons xs i x below, ← item) refl

pub drop_end : {X : Type 0} (xs looked : List X) → looked ≡ xs → (i : ℕ) → length looked ≤ i → drop i xs ≡ []
drop_end xs looked same i h = let over : length xs ≤ i = rw same at h in drop_all i xs over

-- a relation of one list, that is one of its items
module _ {X : Type 0} (R : List X → Type 0) (One : X → Type 0) (more : (x : X) (xs : List X) → One x → R xs → R (x ∷ xs))
    (less : (x : X) (xs : List X) → R (x ∷ xs) → One x × R xs) where
  pub along_next : (xs looked : List X) → looked ≡ xs → (i : ℕ) (x : X) → i < length looked → x ≡ get_or looked i x → One x →
      (R (drop i xs) ↔ R xs) → R (drop (i + 1) xs) ↔ R xs
  along_next xs looked same i x h is one so =
      let here : drop i xs ≡ x ∷ drop (i + 1) xs = drop_at xs looked same i x h is in
      (λ rest. so.0 (subst R (sym here) (more x _ one rest)), λ all. (less x _ (subst R here (so.1 all))).1)

  pub along_fails : (xs looked : List X) → looked ≡ xs → (i : ℕ) (x : X) → i < length looked → x ≡ get_or looked i x → (One x → ⊥) →
      (R (drop i xs) ↔ R xs) → IsTrue false ↔ R xs
  along_fails xs looked same i x h is other so =
      let here : drop i xs ≡ x ∷ drop (i + 1) xs = drop_at xs looked same i x h is in
      fails (λ all. other (less x _ (subst R here (so.1 all))).0)

  pub along_end : (xs looked : List X) → looked ≡ xs → (i : ℕ) → length looked ≤ i → R [] → (R (drop i xs) ↔ R xs) → IsTrue true ↔ R xs
  along_end xs looked same i h none so = (λ _. so.0 (subst R (sym (drop_end xs looked same i h)) none), λ _. refl)

-- a relation of two lists, that is one of the items at each place
module _ {X Y : Type 0} (R : List X → List Y → Type 0) (One : X → Y → Type 0)
    (more : (x : X) (y : Y) (xs : List X) (ys : List Y) → One x y → R xs ys → R (x ∷ xs) (y ∷ ys))
    (less : (x : X) (y : Y) (xs : List X) (ys : List Y) → R (x ∷ xs) (y ∷ ys) → One x y × R xs ys) where
  pub both_next : (xs seen : List X) (ys looked : List Y) → seen ≡ xs → looked ≡ ys → (i : ℕ) (x : X) (y : Y) → i < length seen → i < length looked →
      x ≡ get_or seen i x → y ≡ get_or looked i y → One x y → (R (drop i xs) (drop i ys) ↔ R xs ys) → R (drop (i + 1) xs) (drop (i + 1) ys) ↔ R xs ys
  both_next xs seen ys looked same alike i x y h k is js one so =
      let p : drop i xs ≡ x ∷ drop (i + 1) xs = drop_at xs seen same i x h is in
      let q : drop i ys ≡ y ∷ drop (i + 1) ys = drop_at ys looked alike i y k js in
      (λ rest. so.0 (rw (p, q) (more x y _ _ one rest)), λ all. (less x y _ _ (rw (p, q) at so.1 all)).1)

  pub both_fail : (xs seen : List X) (ys looked : List Y) → seen ≡ xs → looked ≡ ys → (i : ℕ) (x : X) (y : Y) → i < length seen → i < length looked →
      x ≡ get_or seen i x → y ≡ get_or looked i y → (One x y → ⊥) → (R (drop i xs) (drop i ys) ↔ R xs ys) → IsTrue false ↔ R xs ys
  both_fail xs seen ys looked same alike i x y h k is js other so =
      let p : drop i xs ≡ x ∷ drop (i + 1) xs = drop_at xs seen same i x h is in
      let q : drop i ys ≡ y ∷ drop (i + 1) ys = drop_at ys looked alike i y k js in
      fails (λ all. other (less x y _ _ (rw (p, q) at so.1 all)).0)

  pub both_end : (xs seen : List X) (ys looked : List Y) → seen ≡ xs → looked ≡ ys → (i : ℕ) → length seen ≤ i → length looked ≤ i → R [] [] →
      (R (drop i xs) (drop i ys) ↔ R xs ys) → IsTrue true ↔ R xs ys
  both_end xs seen ys looked same alike i h k none so =
      (λ _. so.0 (rw (drop_end xs seen same i h, drop_end ys looked alike i k) none), λ _. refl)
