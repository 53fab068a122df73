-- Lists in which nothing stands twice.
use Rattle.std.proofs.Common.{◌≡◌, ◌⊎◌, inl, inr, ⊎_elim, ℕ, zero, suc, ◌<◌, true, false, List, [], ◌∷◌, ◌++◌, length, refl, sym, ap, ◌∙◌, subst, arith, append-nil}
use Rattle.std.specs.Prelude.{Contains, slice_index_or}
use Rattle.std.specs.List.{list_any}
use Rattle.std.specs.Str.{bytes_eq}
use Rattle.std.proofs.lemmas.Slice.Eq.{bytes_eq-Decides}
use Rattle.std.proofs.lemmas.List.Folds.{list_any_at}
use Rattle.std.proofs.lemmas.List.Elements.{Contains-push, Contains-append_left}
use Rattle.px_base.specs.Distinct.{AreDistinct, more}
use Rattle.px_scope.specs.Names.{is_name}

-- what stands in a list stands in it with one item more in front
pub contains_later : {A : Type 0} (y : A) (xs : List A) (x : A) → Contains xs x → Contains (y ∷ xs) x
contains_later y xs x c = let within = c.1 in (suc c.0, omega arith, c.2)

contains_cases_at : {A : Type 0} (y : A) (xs : List A) (x : A) (k : ℕ) → k < length (y ∷ xs) → slice_index_or (y ∷ xs) k x ≡ x → (y ≡ x) ⊎ Contains xs x
contains_cases_at y xs x zero within is = inl is
contains_cases_at y xs x (suc k) within is = inr (k, omega arith, is)

contains_cases : {A : Type 0} (y : A) (xs : List A) (x : A) → Contains (y ∷ xs) x → (y ≡ x) ⊎ Contains xs x
contains_cases y xs x c = contains_cases_at y xs x c.0 c.1 c.2

-- what is in a list with one item more
contains_at : {A : Type 0} (xs ys : List A) (x y : A) → Contains (xs ++ x ∷ ys) y → (x ≡ y) ⊎ Contains (xs ++ ys) y
contains_at [] ys x y c = contains_cases x ys y c
contains_at (z ∷ xs) ys x y c =
    ⊎_elim (λ (e : z ≡ y). inr (0, omega arith, e))
    (λ d. ⊎_elim inl (λ b. inr (contains_later z (xs ++ ys) y b)) (contains_at xs ys x y d))
    (contains_cases z (xs ++ x ∷ ys) y c)

-- one item more, which is not in the list
distinct_at : {A : Type 0} (xs ys : List A) (x : A) → AreDistinct (xs ++ ys) → (Contains (xs ++ ys) x → ⊥) → AreDistinct (xs ++ x ∷ ys)
distinct_at [] ys x distinct new = more new distinct
distinct_at (y ∷ xs) ys x (more other rest) new =
    more (λ c. ⊎_elim (λ (e : x ≡ y). new (0, omega arith, sym e)) other (contains_at xs ys x y c))
    (distinct_at xs ys x rest (λ c. new (contains_later y (xs ++ ys) x c)))

-- one item more at the end
pub distinct_push : {A : Type 0} (xs : List A) (x : A) → AreDistinct xs → (Contains xs x → ⊥) → AreDistinct (xs ++ x ∷ [])
distinct_push xs x distinct new =
    distinct_at xs [] x (subst AreDistinct (sym (append-nil xs)) distinct) (λ c. new (subst (λ ys. Contains ys x) (append-nil xs) c))

contains_middle : {A : Type 0} (xs ys : List A) (x : A) → Contains (xs ++ x ∷ ys) x
contains_middle [] ys x = (0, omega arith, refl)
contains_middle (y ∷ xs) ys x = contains_later y (xs ++ x ∷ ys) x (contains_middle xs ys x)

-- an item is none of those before it
pub none_before : {A : Type 0} (xs ys : List A) (x : A) → AreDistinct (xs ++ x ∷ ys) → Contains xs x → ⊥
none_before [] ys x distinct c = let within = c.1 in absurd (omega arith)
none_before (y ∷ xs) ys x (more other rest) c =
    ⊎_elim (λ (e : y ≡ x). other (subst (Contains (xs ++ x ∷ ys)) (sym e) (contains_middle xs ys x)))
    (none_before xs ys x rest)
    (contains_cases y xs x c)

-- a name that the test does not find is not in the list
pub not_among : (names : List (List ℕ)) (name : List ℕ) → is_name names name ≡ false → Contains names name → ⊥
not_among names name e c =
    let same : bytes_eq name name ≡ true = (bytes_eq-Decides name name).1 refl in
    let yes : list_any (bytes_eq name) names ≡ true = list_any_at (bytes_eq name) names c.0 name c.1 (ap (bytes_eq name) c.2 ∙ same) in
    absurd cc

-- A list with one name more, which stands in the table in any order.
module _ (table before after front back : List (List ℕ)) (name : List ℕ)
    (before_is : before ≡ front ++ back) (after_is : after ≡ front ++ name ∷ back)
    (within : (other : List ℕ) → Contains before other → Contains table other) where
  -- the list is still without equal names
  pub distinct_more : is_name table name ≡ false → AreDistinct before → AreDistinct after
  distinct_more new distinct =
      subst AreDistinct (sym after_is) (distinct_at front back name (subst AreDistinct before_is distinct)
      (λ c. not_among table name new (within name (subst (λ xs. Contains xs name) (sym before_is) c))))

  -- the table still has its names
  pub within_more : (other : List ℕ) → Contains after other → Contains (table ++ name ∷ []) other
  within_more other c =
      ⊎_elim (λ (e : name ≡ other). subst (Contains (table ++ name ∷ [])) e (Contains-push table name))
      (λ d. Contains-append_left table (name ∷ []) other (within other (subst (λ xs. Contains xs other) (sym before_is) d)))
      (contains_at front back name other (subst (λ xs. Contains xs other) after_is c))
