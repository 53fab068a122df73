-- What holds of each entry of a frame, or of none, along a loop over them; and the guard of both together.
use Rattle.std.proofs.Common.{◌≡◌, ◌↔◌, IsTrue, Bool, true, false, ℕ, zero, suc, ◌+◌, ◌<◌, ◌≤◌, List, [], ◌∷◌, length, get_or, take, slice_get, Some, All, subst, sym, ap, ◌∙◌, arith, add-one}
use Rattle.std.proofs.lemmas.List.Elements.{All-more}
use Rattle.std.proofs.lemmas.List.{take_all}
use Rattle.px_terms.specs.declared.term.Term.{Term}
use Rattle.px_terms.specs.declared.sequent.Present.{Present}
use Rattle.px_terms.specs.declared.sequent.Frame.{Frame}
use Rattle.px_terms.specs.Guards.{Guard, PutsOther, PutsPart}

-- one more element
pub all_one_more : {X : Type 0} (P : X → Type 0) (xs : List X) (i : ℕ) (x : X) → i < length xs → x ≡ get_or xs i x → All P (take i xs) → P x → All P (take (i + 1) xs)
all_one_more P xs i x within is before here = All-more P xs i x within before (subst P is here)

-- all elements
pub all_whole : {X : Type 0} (P : X → Type 0) (xs : List X) (i : ℕ) → length xs ≤ i → All P (take i xs) → All P xs
all_whole P xs i past all = subst (All P) (take_all i xs past) all

-- what stands at a number below the length is found there
pub found_item : {X : Type 0} (xs : List X) (i : ℕ) (x : X) → i < length xs → x ≡ get_or xs i x → slice_get xs i ≡ Some x
found_item [] i x within is = absurd (omega arith)
found_item (y ∷ ys) zero x within is = ap (λ a. Some a) (sym is)
found_item (y ∷ ys) (suc i) x within is =
    let rest : i < length ys = omega arith in
    found_item ys i x rest is

-- it holds of no element
abbrev pub None_of : {X : Type 0} → (X → Type 0) → List X → Type 0
None_of {X} P xs = (i : ℕ) (x : X) → slice_get xs i ≡ Some x → ¬ P x

none_more : {X : Type 0} (P : X → Type 0) (xs : List X) (n : ℕ) (x : X) → n < length xs → x ≡ get_or xs n x → None_of P (take n xs) → ¬ P x → None_of P (take (suc n) xs)
none_more P [] n x within is before not i y found holds = absurd (omega arith)
none_more P (z ∷ zs) zero x within is before not zero y found holds =
    let one : y ≡ x = let same : z ≡ y = cc in sym same ∙ sym is in
    not (subst P one holds)
none_more P (z ∷ zs) zero x within is before not (suc i) y found holds = before i y found holds
none_more P (z ∷ zs) (suc n) x within is before not zero y found holds = before zero y found holds
none_more P (z ∷ zs) (suc n) x within is before not (suc i) y found holds =
    let rest : n < length zs = omega arith in
    none_more P zs n x rest is (λ j w at. before (suc j) w at) not i y found holds

-- it holds of none of the elements so far, nor of the next
pub none_next : {X : Type 0} (P : X → Type 0) (xs : List X) (n : ℕ) (x : X) → n < length xs → x ≡ get_or xs n x → None_of P (take n xs) → ¬ P x → None_of P (take (n + 1) xs)
none_next P xs n x within is before not = rw add-one (none_more P xs n x within is before not)

-- it holds of none at all
pub none_whole : {X : Type 0} (P : X → Type 0) (xs : List X) (n : ℕ) → length xs ≤ n → None_of P (take n xs) → None_of P xs
none_whole P xs n past none = subst (λ ys. None_of P ys) (take_all n xs past) none

-- an element of which it holds
abbrev pub Some_of : {X : Type 0} → (X → Type 0) → List X → Type 0
Some_of {X} P xs = (i : ℕ) × (x : X) × (slice_get xs i ≡ Some x) × P x

-- there is none of which it holds
pub nothing_found : {X : Type 0} (P : X → Type 0) (xs : List X) → None_of P xs → IsTrue false ↔ Some_of P xs
nothing_found P xs none = (λ (told : false ≡ true). cc, λ (found : Some_of P xs). absurd (none found.0 found.1 found.2 found.3))

-- what is false is not true
pub both_false : (b : Bool) → b ≡ false → ¬ IsTrue b
both_false b is_false is_true = let told : false ≡ true = sym is_false ∙ is_true in cc

-- where each variable gets a part, the guard holds exactly where some variable gets another term
pub guarded : (frame : Frame) (terms : List Term) (entries : List Present) (answer : Bool) → entries ≡ frame.entries → All (PutsPart terms) entries → (IsTrue answer ↔ Some_of (PutsOther terms) entries) → IsTrue answer ↔ Guard frame terms
guarded frame terms entries answer are all other =
    let parts : All (PutsPart terms) frame.entries = subst (All (PutsPart terms)) are all in
    let exact : IsTrue answer ↔ Some_of (PutsOther terms) frame.entries = subst (λ (es : List Present). IsTrue answer ↔ Some_of (PutsOther terms) es) are other in
    (λ (told : IsTrue answer). let found = exact.0 told in record { parts = parts; number = found.0; entry = found.1; stands = found.2; proper = found.3 }, λ (guard : Guard frame terms). exact.1 (guard.number, guard.entry, guard.stands, guard.proper))
