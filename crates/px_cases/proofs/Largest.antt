-- The largest of some numbers, one more of them at a time.
use Rattle.std.proofs.Common.{◌≡◌, refl, sym, ◌∙◌, ℕ, zero, suc, ◌+◌, ◌<◌, max, min, List, [], ◌∷◌, length, map, get_or, take, arith, add-one, ap}
use Rattle.px_terms.specs.declared.term.Term.{Term}
use Rattle.px_terms.specs.Largest.{largest}
use Rattle.px_terms.specs.Terms.{term_depth, terms_depth}

largest-take-suc : {A : Type 0} (f : A → ℕ) (xs : List A) (i : ℕ) (x : A) → i < length xs →
    largest (map f (take (suc i) xs)) ≡ max (largest (map f (take i xs))) (f (get_or xs i x))
largest-take-suc f [] i x h = absurd (omega arith)
largest-take-suc f (y ∷ ys) zero x h = omega arith
largest-take-suc f (y ∷ ys) (suc i) x h =
    let h' : i < length ys = omega arith in
    omega (arith, largest-take-suc f ys i x h')

-- the largest of a value at each of the first items grows by the next item's
largest-take : {A : Type 0} (f : A → ℕ) (xs : List A) (i : ℕ) (x : A) → i < length xs →
    largest (map f (take (i + 1) xs)) ≡ max (largest (map f (take i xs))) (f (get_or xs i x))
largest-take f xs i x h = rw add-one (largest-take-suc f xs i x h)

-- the same for what has been found so far, where both stop at a most
pub deepest_step : {A : Type 0} (f : A → ℕ) (xs : List A) (i most : ℕ) (x : A) (now before found : ℕ) →
    i < length xs → x ≡ get_or xs i x →
    before ≡ min (largest (map f (take i xs))) most → found ≡ min (f x) most → now ≡ max before found →
    now ≡ min (largest (map f (take (i + 1) xs))) most
deepest_step f xs i most x now before found h is b d n =
    let more : largest (map f (take (i + 1) xs)) ≡ max (largest (map f (take i xs))) (f (get_or xs i x)) = largest-take f xs i x h in
    let item : f x ≡ f (get_or xs i x) = ap f is in
    omega arith

map_twice : {A B C : Type 0} (f : B → C) (g : A → B) (xs : List A) → map f (map g xs) ≡ map (λ (x : A). f (g x)) xs
map_twice f g [] = refl
map_twice f g (x ∷ xs) = ap (λ ys. f (g x) ∷ ys) (map_twice f g xs)

-- the same of the depths of what terms become
pub put_deepest : (g : Term → Term) (xs : List Term) (i most : ℕ) (x : Term) (now before found : ℕ) →
    i < length xs → x ≡ get_or xs i x →
    before ≡ min (terms_depth (map g (take i xs))) most → found ≡ min (term_depth (g x)) most → now ≡ max before found →
    now ≡ min (terms_depth (map g (take (i + 1) xs))) most
put_deepest g xs i most x now before found h is b d n =
    let at_first : before ≡ min (largest (map (λ (y : Term). term_depth (g y)) (take i xs))) most = b ∙ ap (λ ds. min (largest ds) most) (map_twice term_depth g (take i xs)) in
    deepest_step (λ (y : Term). term_depth (g y)) xs i most x now before found h is at_first d n ∙ ap (λ ds. min (largest ds) most) (sym (map_twice term_depth g (take (i + 1) xs)))
