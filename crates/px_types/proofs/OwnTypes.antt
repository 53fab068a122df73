-- A definition's own type variables put in leave it as it is.
use Rattle.std.proofs.Common.{◌≡◌, ◌+◌, ◌≤◌, ℕ, zero, suc, List, [], ◌∷◌, map, length, slice_get, unwrap_or, refl, sym, ap, ◌∙◌, subst, arith, add-zero, zero-add}
use Rattle.px_terms.specs.declared.types.Ty.{Ty}
use Rattle.px_terms.specs.declared.types.Ty.TheVariants as type
use Rattle.px_terms.specs.declared.types.Ty.TheViews.{roll-Ty}
use Rattle.px_terms.specs.declared.types.Ty.TheOpen.{Ty-F}
use Rattle.px_terms.specs.declared.types.Ty.TheFolds.{ind-Ty, map-Ty, fold-roll-Ty}
use Rattle.px_terms.specs.declared.program.Program.{Program}
use Rattle.px_terms.specs.Types.{numbers_from, own_types, ty_instance_step, ty_instance, tys_instance}
use Rattle.px_terms.specs.Typing.{IsTypeLayer, AreTypes}
use Rattle.px_terms.specs.Typing as typing

-- there are so many numbers
pub length-numbered : {A : Type 0} (f : ℕ → A) (s count : ℕ) → length (map f (numbers_from s count)) ≡ count
length-numbered f s zero = refl
length-numbered f s (suc count) = ap suc (length-numbered f (s + 1) count)

-- what stands for a type variable is the variable, or there is nothing
own_at : (s count n : ℕ) → unwrap_or (slice_get (map (λ (i : ℕ). type.Var i) (numbers_from s count)) n) (type.Var (s + n)) ≡ type.Var (s + n)
own_at s zero n = refl
own_at s (suc count) zero = ap type.Var (sym (add-zero s))
own_at s (suc count) (suc n) =
    let same : s + suc n ≡ (s + 1) + n = omega arith in
    subst (λ (k : ℕ). unwrap_or (slice_get (map (λ (i : ℕ). type.Var i) (numbers_from (s + 1) count)) n) (type.Var k) ≡ type.Var k) (sym same) (own_at (s + 1) count n)

module _ (count : ℕ) where
  -- the type stays as it is
  abbrev Stays : Ty → Type 0
  Stays T = ty_instance (own_types count) T ≡ T

  all_stay : (ts : List ((T : Ty) × Stays T)) → tys_instance (own_types count) (map (λ (e : (T : Ty) × Stays T). e.0) ts) ≡ map (λ (e : (T : Ty) × Stays T). e.0) ts
  all_stay [] = refl
  all_stay (t ∷ ts) = let here : ty_instance (own_types count) t.0 ≡ t.0 = t.1 in let rest = all_stay ts in cc

  -- a layer without the proofs beside its parts
  abbrev plain : Ty-F ((T : Ty) × Stays T) → Ty-F Ty
  plain = map-Ty ((T : Ty) × Stays T) Ty (λ (e : (T : Ty) × Stays T). e.0)

  layer_stays : (y : Ty-F ((T : Ty) × Stays T)) → ty_instance_step (own_types count) (map-Ty Ty Ty (ty_instance (own_types count)) (plain y)) ≡ roll-Ty (plain y)
  layer_stays Ty-F.Word = sym type.rolls-Word
  layer_stays (Ty-F.Var n) =
      subst (λ (k : ℕ). unwrap_or (slice_get (own_types count) n) (type.Var k) ≡ type.Var k) (zero-add n) (own_at 0 count n) ∙ sym (type.rolls-Var n)
  layer_stays (Ty-F.Con d args) = ap (type.Con d) (all_stay args) ∙ sym (type.rolls-Con d (map (λ (e : (T : Ty) × Stays T). e.0) args))

  pub stays : (T : Ty) → Stays T
  stays = ind-Ty Stays (λ x y is.
      subst (λ (z : Ty-F Ty). ty_instance (own_types count) (roll-Ty z) ≡ roll-Ty z) is
      (fold-roll-Ty Ty (ty_instance_step (own_types count)) (plain y) ∙ layer_stays y))

  pub list_stays : (ts : List Ty) → tys_instance (own_types count) ts ≡ ts
  list_stays [] = refl
  list_stays (t ∷ ts) = let here : ty_instance (own_types count) t ≡ t = stays t in let rest = list_stays ts in cc

-- a definition's own type variables are types there
own_are_types : (P : Program) (all s count : ℕ) → s + count ≤ all → AreTypes P all (map (λ (i : ℕ). type.Var i) (numbers_from s count))
own_are_types P all s zero fit = typing.none
own_are_types P all s (suc count) fit =
    typing.more (subst (IsTypeLayer P all) (sym (type.outs-Var s)) (typing.var (omega arith))) (own_are_types P all (s + 1) count (omega arith))

pub are_types : (P : Program) (count : ℕ) → AreTypes P count (own_types count)
are_types P count = own_are_types P count 0 count (omega arith)
