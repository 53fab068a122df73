-- The numbers from one on, with one more at the end.
use Rattle.std.proofs.Common.{◌≡◌, ℕ, zero, suc, ◌+◌, List, [], ◌∷◌, ◌++◌, map, ap, sym, ◌∙◌, arith, add-one, add-zero}
use Rattle.std.proofs.lemmas.List.{map-append}
use Rattle.px_terms.specs.Types.{numbers_from}

numbers_from-last : (s n : ℕ) → numbers_from s (suc n) ≡ numbers_from s n ++ (s + n) ∷ []
numbers_from-last s zero = ap (λ (k : ℕ). k ∷ []) (sym (add-zero s))
numbers_from-last s (suc n) =
    let moved : (s + 1) + n ≡ s + suc n = omega arith in
    ap (λ (xs : List ℕ). s ∷ xs) (numbers_from-last (s + 1) n ∙ ap (λ (k : ℕ). numbers_from (s + 1) n ++ k ∷ []) moved)

-- one more of what is numbered from a start on
pub numbered_from-last : {A : Type 0} (f : ℕ → A) (s n : ℕ) → map f (numbers_from s n) ++ f (s + n) ∷ [] ≡ map f (numbers_from s (n + 1))
numbered_from-last f s n =
    let last : numbers_from s (n + 1) ≡ numbers_from s n ++ (s + n) ∷ [] = rw add-one (numbers_from-last s n) in
    sym (ap (map f) last ∙ map-append f (numbers_from s n) ((s + n) ∷ []))
