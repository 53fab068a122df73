-- Types that are compared, as the code compares them.
use Rattle.std.proofs.Common.{◌≡◌, ◌↔◌, ℕ, ◌+◌, ◌<◌, Bool, true, false, IsTrue, List, [], ◌∷◌, ◌++◌, length, map, get_or, take}
use Rattle.std.proofs.Common.{sym, ◌∙◌, ap, add-one}
use Rattle.std.proofs.Math.Seq.{take-suc}
use Rattle.std.proofs.lemmas.Bool.{false≢true}
use Rattle.std.proofs.lemmas.List.{get_or-map, length-map}
use Rattle.px_terms.specs.declared.types.Ty.{Ty, out-Ty}
use Rattle.px_terms.specs.declared.types.Ty.TheVariants as type
use Rattle.px_terms.specs.declared.types.Ty.TheOpen.{Ty-F}
use Rattle.px_terms.specs.Types.{ty_instance, tys_instance}
use Rattle.px_terms.specs.TreeEquations.{ty_instance-Con}

-- a test that came out false
pub fails : {P : Type 0} → (P → ⊥) → IsTrue false ↔ P
fails h = (λ e. absurd (false≢true e), λ p. absurd (h p))

-- Lists that become the same, as far as they were seen.
one_more : (h : Ty → Ty) (xs : List Ty) (i : ℕ) (T : Ty) → i < length xs → T ≡ get_or xs i T → take (i + 1) (map h xs) ≡ take i (map h xs) ++ h T ∷ []
one_more h xs i T below is =
    let within : i < length (map h xs) = rw (length-map xs h) below in
    let more : take (i + 1) (map h xs) ≡ take i (map h xs) ++ get_or (map h xs) i (h T) ∷ [] = rw add-one (take-suc (map h xs) i (h T) within) in
    more ∙ ap (λ (U : Ty). take i (map h xs) ++ U ∷ []) (get_or-map h xs i T (h T) below ∙ ap h (sym is))

module _ (f g : Ty → Ty) (tys others : List Ty) where
  pub alike_next : (i : ℕ) (T U : Ty) (b : Bool) → i < length tys → i < length others → T ≡ get_or tys i T → U ≡ get_or others i U → (IsTrue b ↔ (f T ≡ g U)) →
      b ≡ true → take i (map f tys) ≡ take i (map g others) → take (i + 1) (map f tys) ≡ take (i + 1) (map g others)
  alike_next i T U b h k is js tells e before = one_more f tys i T h is ∙ (λ j. before j ++ tells.0 e j ∷ []) ∙ sym (one_more g others i U k js)

  pub alike_fails : (i : ℕ) (T U : Ty) (b : Bool) → i < length tys → i < length others → T ≡ get_or tys i T → U ≡ get_or others i U → (IsTrue b ↔ (f T ≡ g U)) →
      b ≡ false → map f tys ≡ map g others → ⊥
  alike_fails i T U b h k is js tells e all =
      let one : f T ≡ g U = ap f is ∙ sym (get_or-map f tys i T (f T) h) ∙ ap (λ (xs : List Ty). get_or xs i (f T)) all ∙ get_or-map g others i U (f T) k ∙ ap g
      (sym js) in
      false≢true (sym e ∙ tells.1 one)

-- the same where the one list stays as it is
pub become_next : (g : Ty → Ty) (tys others : List Ty) (i : ℕ) (T U : Ty) (b : Bool) → i < length tys → i < length others → T ≡ get_or tys i T →
    U ≡ get_or others i U → (IsTrue b ↔ (T ≡ g U)) → b ≡ true → take i tys ≡ take i (map g others) → take (i + 1) tys ≡ take (i + 1) (map g others)
become_next g tys others i T U b h k is js tells e before =
    let more : take (i + 1) tys ≡ take i tys ++ get_or tys i T ∷ [] = rw add-one (take-suc tys i T h) in
    more ∙ ap (λ (V : Ty). take i tys ++ V ∷ []) (sym is) ∙ (λ j. before j ++ tells.0 e j ∷ []) ∙ sym (one_more g others i U k js)

-- Two datatypes' types become one exactly where their numbers are one and their arguments become the same.
same_args : (d e : ℕ) (xs ys : List Ty) → type.Con d xs ≡ type.Con e ys → xs ≡ ys
same_args d e xs ys p = let layers : Ty-F.Con d xs ≡ Ty-F.Con e ys = sym (type.outs-Con d xs) ∙ ap out-Ty p ∙ type.outs-Con e ys in cc

pub con_meets : (types others : List Ty) (T U : Ty) (d e : ℕ) (xs ys : List Ty) (b : Bool) → T ≡ type.Con d xs → U ≡ type.Con e ys → d ≡ e →
    (IsTrue b ↔ (tys_instance types xs ≡ tys_instance others ys)) → IsTrue b ↔ (ty_instance types T ≡ ty_instance others U)
con_meets types others T U d e xs ys b is js same h =
    let p : ty_instance types T ≡ type.Con d (tys_instance types xs) = ap (ty_instance types) is ∙ ty_instance-Con types d xs in
    let q : ty_instance others U ≡ type.Con e (tys_instance others ys) = ap (ty_instance others) js ∙ ty_instance-Con others e ys in
    (λ t. p ∙ (λ i. type.Con (same i) (h.0 t i)) ∙ sym q, λ one. h.1 (same_args d e (tys_instance types xs) (tys_instance others ys) (sym p ∙ one ∙ q)))
