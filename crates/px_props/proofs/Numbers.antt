-- The numbers from one on, with one more at the end.
use Rattle.std.proofs.Common.{◌≡◌, ℕ, zero, suc, ◌+◌, List, [], ◌∷◌, ◌++◌, map, ap, sym, ◌∙◌, arith, add-one, add-zero, zero-add}
use Rattle.std.proofs.lemmas.List.{map-append}
use Rattle.px_terms.specs.Types.{numbers_from}

numbers_from-last : (s n : ℕ) → numbers_from s (suc n) ≡ numbers_from s n ++ (s + n) ∷ []
numbers_from-last s zero = ap (λ (k : ℕ). k ∷ []) (sym (add-zero s))
numbers_from-last s (suc n) =
    let moved : (s + 1) + n ≡ s + suc n = omega arith in
    ap (λ (xs : List ℕ). s ∷ xs) (numbers_from-last (s + 1) n ∙ ap (λ (k : ℕ). numbers_from (s + 1) n ++ k ∷ []) moved)

numbered_from-last : {A : Type 0} (f : ℕ → A) (s n : ℕ) → map f (numbers_from s n) ++ f (s + n) ∷ [] ≡ map f (numbers_from s (n + 1))
numbered_from-last f s n =
    let last : numbers_from s (n + 1) ≡ numbers_from s n ++ (s + n) ∷ [] = rw add-one (numbers_from-last s n) in
    sym (ap (map f) last ∙ map-append f (numbers_from s n) ((s + n) ∷ []))

-- one more of what is numbered from 0 on
pub numbered-last : {A : Type 0} (f : ℕ → A) (n : ℕ) → map f (numbers_from 0 n) ++ f n ∷ [] ≡ map f (numbers_from 0 (n + 1))
numbered-last f n = ap (λ (k : ℕ). map f (numbers_from 0 n) ++ f k ∷ []) (sym (zero-add n)) ∙ numbered_from-last f 0 n
