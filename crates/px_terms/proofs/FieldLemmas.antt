-- A part that stands in a field, along a loop over the fields.
use Rattle.std.proofs.Common.{◌≡◌, ◌≢◌, ◌↔◌, IsTrue, Bool, true, false, refl, ap, ◌∙◌, ℕ, zero, suc, ◌+◌, ◌<◌, List, [], ◌∷◌, length, get_or, take, subst, sym, arith, add-one}
use Rattle.px_terms.specs.declared.types.Ty.{Ty}
use Rattle.px_terms.specs.declared.term.Term.{Term, out-Term}
use Rattle.px_terms.specs.declared.term.Term.TheVariants as term
use Rattle.px_terms.specs.declared.term.Term.TheOpen.{Term-F}
use Rattle.px_terms.specs.Guards.{IsConSubterm, IsInField, itself, inside, here, later}

-- what is false is not true
pub both_false : (b : Bool) → b ≡ false → ¬ IsTrue b
both_false b is_false is_true = let told : false ≡ true = sym is_false ∙ is_true in cc

-- the part stands in field i
pub found_at : (part : Term) (fields : List Term) (i : ℕ) (x : Term) → i < length fields → x ≡ get_or fields i x → IsConSubterm part x → IsInField part fields
found_at part [] i x below is stands = absurd (omega arith)
found_at part (y ∷ ys) zero x below is stands = here (subst (IsConSubterm part) is stands)
found_at part (y ∷ ys) (suc i) x below is stands =
    let rest : i < length ys = omega arith in
    later (found_at part ys i x rest is stands)

none_more : (part : Term) (fields : List Term) (i : ℕ) (x : Term) → i < length fields → x ≡ get_or fields i x → ¬ IsInField part (take i fields) → ¬ IsConSubterm part x → ¬ IsInField part (take (suc i) fields)
none_more part [] i x below is none not stands = absurd (omega arith)
none_more part (y ∷ ys) zero x below is none not (here stands) = not (subst (IsConSubterm part) (sym is) stands)
none_more part (y ∷ ys) zero x below is none not (later stands) = none stands
none_more part (y ∷ ys) (suc i) x below is none not (here stands) = none (here stands)
none_more part (y ∷ ys) (suc i) x below is none not (later stands) =
    let rest : i < length ys = omega arith in
    none_more part ys i x rest is (λ (first : IsInField part (take i ys)). none (later first)) not stands

-- the part stands neither in the fields before field i nor in it
pub none_next : (part : Term) (fields : List Term) (i : ℕ) (x : Term) → i < length fields → x ≡ get_or fields i x → ¬ IsInField part (take i fields) → ¬ IsConSubterm part x → ¬ IsInField part (take (i + 1) fields)
none_next part fields i x below is none not = rw add-one (none_more part fields i x below is none not)

in_fields : (part whole : Term) (d k : ℕ) (types : List Ty) (fields : List Term) → out-Term whole ≡ Term-F.Con d k types fields → part ≢ whole → IsConSubterm part whole → IsInField part fields
in_fields part _ d k types fields layer other itself = absurd (other refl)
in_fields part whole d k types fields layer other (inside {d = e} {k = l} {types = us} {fields = parts} also stands) =
    let one : Term-F.Con e l us parts ≡ Term-F.Con d k types fields = sym also ∙ layer in
    let same : parts ≡ fields = cc in
    subst (IsInField part) same stands

-- a constructor that is not the part holds it exactly where a field does
pub in_constructor : (part whole : Term) (d k : ℕ) (types : List Ty) (fields listed : List Term) (answer : Bool) → whole ≡ term.Con d k types fields → listed ≡ fields → part ≢ whole → (IsTrue answer ↔ IsInField part listed) → IsTrue answer ↔ IsConSubterm part whole
in_constructor part whole d k types fields listed answer is all other answers =
    let layer : out-Term whole ≡ Term-F.Con d k types fields = ap out-Term is ∙ term.outs-Con d k types fields in
    (λ (told : IsTrue answer). inside layer (subst (IsInField part) all (answers.0 told)), λ (stands : IsConSubterm part whole). answers.1 (subst (IsInField part) (sym all) (in_fields part whole d k types fields layer other stands)))
