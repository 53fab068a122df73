-- The ends of lists.
use Rattle.std.proofs.Common.{◌≡◌, ℕ, ◌+◌, ◌<◌, ◌≤◌, List, [], ◌∷◌, ◌++◌, length, take, get_or, refl, sym, ◌∙◌, ap, append_assoc, arith, length-append}
use Rattle.std.proofs.lemmas.List.{take-append-le, take_all, take_at, take_more}
use Rattle.px_base.specs.declared.raw.RawProp.{RawProp}
use Rattle.px_terms.specs.declared.program.Declared.{Declared}
use Rattle.px_terms.specs.declared.program.Declared.TheVariants as declared
use Rattle.px_types.specs.Declarations.{obligations_of}

module _ {X : Type 0} (whole xs : List X) (count : ℕ) (same : take count xs ≡ take count whole) where
  pub kept_next : (ys : List X) (x : X) → xs ≡ ys ++ x ∷ [] → count < length xs → take count ys ≡ take count whole
  kept_next ys x e over =
      let longer : length xs ≡ length (ys ++ x ∷ []) = ap (λ (zs : List X). length zs) e in
      let within : count ≤ length ys = omega (arith, length-append ys (x ∷ [])) in
      sym (take-append-le count ys (x ∷ []) within) ∙ ap (λ (zs : List X). take count zs) (sym e) ∙ same

  pub kept_all : length xs ≤ count → xs ≡ take count whole
  kept_all few = sym (take_all count xs few) ∙ same

obligations_push : (def : ℕ) (raws : List RawProp) (raw : RawProp) →
    obligations_of def (raws ++ raw ∷ []) ≡ obligations_of def raws ++ declared.Property def raw.prop ∷ []
obligations_push def [] raw = refl
obligations_push def (x ∷ xs) raw = ap (λ (zs : List Declared). declared.Property def x.prop ∷ zs) (obligations_push def xs raw)

-- the obligations of the first properties of a list
module _ (before now : List Declared) (def : ℕ) (raws : List RawProp) (i : ℕ) (so_far : now ≡ before ++ obligations_of def (take i raws)) where
  pub property_pushed : (d : RawProp) (more : List Declared) → i < length raws → more ≡ now ++ declared.Property def (get_or raws i d).prop ∷ [] →
      more ≡ before ++ obligations_of def (take (i + 1) raws)
  property_pushed d more below e =
      e
      ∙ ap (λ (xs : List Declared). xs ++ declared.Property def (get_or raws i d).prop ∷ []) so_far
      ∙ append_assoc before (obligations_of def (take i raws)) (declared.Property def (get_or raws i d).prop ∷ [])
      ∙ ap (λ (xs : List Declared). before ++ xs) (sym (ap (obligations_of def) (take_more raws i d below) ∙ obligations_push def (take i raws)
      (get_or raws i d)))

  pub properties_pushed : length raws ≤ i → now ≡ before ++ obligations_of def raws
  properties_pushed past = so_far ∙ ap (λ (xs : List RawProp). before ++ obligations_of def xs) (take_all i raws past)

  pub properties_dropped : (count : ℕ) (still after : List Declared) → count ≡ length before → still ≡ now → after ≡ take count still → after ≡ before
  properties_dropped count still after e same is =
      is ∙ ap (λ (xs : List Declared). take count xs) (same ∙ so_far) ∙ take_at before (obligations_of def (take i raws)) count (sym e)
