-- Whether types are types, as the code finds it.
use Rattle.std.proofs.Common.{◌≡◌, ◌↔◌, ℕ, ◌+◌, ◌<◌, ◌≤◌, Bool, true, false, IsTrue, List, ◌∷◌, length, get_or, drop, Option, Some, None, refl, sym, ◌∙◌, ap, subst}
use Rattle.std.specs.Prelude.{slice_get}
use Rattle.std.specs.Option.{IsSomeAnd}
use Rattle.px_terms.specs.declared.types.Ty.{Ty, out-Ty}
use Rattle.px_terms.specs.declared.types.Ty.TheVariants as type
use Rattle.px_terms.specs.declared.types.Ty.TheOpen.{Ty-F}
use Rattle.px_terms.specs.declared.program.DataDef.{DataDef}
use Rattle.px_terms.specs.declared.program.Program.{Program}
use Rattle.px_terms.specs.Typing.{IsType, IsTypeLayer, AreTypes}
use Rattle.px_terms.specs.Typing as typing
use Rattle.px_equations.proofs.Loops.{fails, not_of, along_next, along_fails, along_end}

module _ (P : Program) (tparams : ℕ) where
  abbrev TakesSo : ℕ → List Ty → Type 0
  TakesSo d args = IsSomeAnd (slice_get P.datatypes d) (λ (D : DataDef). D.tparams ≡ length args)

  con_of : (d : ℕ) (args : List Ty) → TakesSo d args → AreTypes P tparams args → IsTypeLayer P tparams (Ty-F.Con d args)
  con_of d args takes are = go (slice_get P.datatypes d) refl takes
    where
      go : (o : Option DataDef) → slice_get P.datatypes d ≡ o → IsSomeAnd o (λ (D : DataDef). D.tparams ≡ length args) → IsTypeLayer P tparams (Ty-F.Con d args)
      go None stands takes = absurd takes
      go (Some D) stands takes = typing.con stands (sym takes) are

  of_con : {d : ℕ} {args : List Ty} → IsTypeLayer P tparams (Ty-F.Con d args) → TakesSo d args × AreTypes P tparams args
  of_con (typing.con stands count are) = (rw stands (sym count), are)

  of_var : {n : ℕ} → IsTypeLayer P tparams (Ty-F.Var n) → n < tparams
  of_var (typing.var below) = below

  -- a test of a layer is one of the type
  by_layer : (T : Ty) (y : Ty-F Ty) (r : Bool) → out-Ty T ≡ y → (IsTrue r ↔ IsTypeLayer P tparams y) → IsTrue r ↔ IsType P tparams T
  by_layer T y r is h = subst (λ (z : Ty-F Ty). IsTrue r ↔ IsTypeLayer P tparams z) (sym is) h

  pub word_is_type : (T : Ty) → T ≡ type.Word → IsTrue true ↔ IsType P tparams T
  word_is_type T is = by_layer T Ty-F.Word true (ap out-Ty is ∙ type.outs-Word) (λ _. typing.word, λ _. refl)

  pub var_is_type : (T : Ty) (n : ℕ) (r : Bool) → T ≡ type.Var n → (IsTrue r ↔ (n < tparams)) → IsTrue r ↔ IsType P tparams T
  var_is_type T n r is h = by_layer T (Ty-F.Var n) r (ap out-Ty is ∙ type.outs-Var n) (λ t. typing.var (h.0 t), λ k. h.1 (of_var k))

  pub con_is_type : (T : Ty) (d : ℕ) (args : List Ty) (given : ℕ) (b r : Bool) → T ≡ type.Con d args → given ≡ length args →
      (IsTrue b ↔ IsSomeAnd (slice_get P.datatypes d) (λ (D : DataDef). D.tparams ≡ given)) → b ≡ true → (IsTrue r ↔ AreTypes P tparams args) →
      IsTrue r ↔ IsType P tparams T
  con_is_type T d args given b r is counts takes e h =
      let so : TakesSo d args = subst (λ (k : ℕ). IsSomeAnd (slice_get P.datatypes d) (λ (D : DataDef). D.tparams ≡ k)) counts (takes.0 e) in
      by_layer T (Ty-F.Con d args) r (ap out-Ty is ∙ type.outs-Con d args) (λ t. con_of d args so (h.0 t), λ k. h.1 (of_con k).1)

  pub con_is_no_type : (T : Ty) (d : ℕ) (args : List Ty) (given : ℕ) (b : Bool) → T ≡ type.Con d args → given ≡ length args →
      (IsTrue b ↔ IsSomeAnd (slice_get P.datatypes d) (λ (D : DataDef). D.tparams ≡ given)) → b ≡ false → IsTrue false ↔ IsType P tparams T
  con_is_no_type T d args given b is counts takes e =
      by_layer T (Ty-F.Con d args) false (ap out-Ty is ∙ type.outs-Con d args)
      (fails (λ k. not_of b takes e (subst (λ (m : ℕ). IsSomeAnd (slice_get P.datatypes d) (λ (D : DataDef). D.tparams ≡ m)) (sym counts) (of_con k).0)))

  one_less : (T : Ty) (types : List Ty) → AreTypes P tparams (T ∷ types) → IsType P tparams T × AreTypes P tparams types
  one_less T types (typing.more is are) = (is, are)

  -- the types so far are types
  abbrev pub TypesSo : List Ty → ℕ → Type 0
  TypesSo types i = AreTypes P tparams (drop i types) ↔ AreTypes P tparams types

  pub types_next : (types looked : List Ty) → looked ≡ types → (i : ℕ) (T : Ty) → i < length looked → T ≡ get_or looked i T → IsType P tparams T →
      TypesSo types i → TypesSo types (i + 1)
  types_next = along_next (AreTypes P tparams) (IsType P tparams) (λ T types is are. typing.more is are) one_less

  pub types_fail : (types looked : List Ty) → looked ≡ types → (i : ℕ) (T : Ty) → i < length looked → T ≡ get_or looked i T → (IsType P tparams T → ⊥) →
      TypesSo types i → IsTrue false ↔ AreTypes P tparams types
  types_fail = along_fails (AreTypes P tparams) (IsType P tparams) (λ T types is are. typing.more is are) one_less

  pub types_end : (types looked : List Ty) → looked ≡ types → (i : ℕ) → length looked ≤ i → TypesSo types i → IsTrue true ↔ AreTypes P tparams types
  types_end types looked same i h = along_end (AreTypes P tparams) (IsType P tparams) (λ T types is are. typing.more is are) one_less types looked same i h typing.none
