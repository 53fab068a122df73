-- Which terms may be put in, as the code finds it.
use Rattle.std.proofs.Common.{◌≡◌, ◌↔◌, ℕ, suc, ◌+◌, ◌<◌, ◌≤◌, true, false, IsTrue, List, [], ◌∷◌, length, drop, get_or, refl, sym, ◌∙◌, ap}
use Rattle.std.proofs.lemmas.List.{length-map}
use Rattle.px_terms.specs.declared.types.Ty.{Ty}
use Rattle.px_terms.specs.declared.term.Term.{Term}
use Rattle.px_terms.specs.declared.program.Program.{Program}
use Rattle.px_terms.specs.declared.sequent.Context.{Context}
use Rattle.px_terms.specs.Types.{ty_instance, tys_instance}
use Rattle.px_terms.specs.Typing.{anywhere, HasType, HaveTypes}
use Rattle.px_terms.specs.Typing as typing
use Rattle.px_equations.proofs.Loops.{fails, both_next, both_fail, both_end}

module _ (P : Program) (context : Context) (types : List Ty) where
  abbrev Have : List Term → List Ty → Type 0
  Have ts vars = HaveTypes P anywhere context [] ts (tys_instance types vars)

  abbrev One : Term → Ty → Type 0
  One t T = HasType P anywhere context t (ty_instance types T)

  abbrev pub HaveSo : List Term → List Ty → ℕ → Type 0
  HaveSo ts vars i = HaveTypes P anywhere context [] (drop i ts) (tys_instance types (drop i vars)) ↔ HaveTypes P anywhere context [] ts (tys_instance types vars)

  one_less : (t : Term) (T : Ty) (ts : List Term) (vars : List Ty) → Have (t ∷ ts) (T ∷ vars) → One t T × Have ts vars
  one_less t T ts vars (typing.more is are) = (is, are)

  one_more : (t : Term) (T : Ty) (ts : List Term) (vars : List Ty) → One t T → Have ts vars → Have (t ∷ ts) (T ∷ vars)
  one_more t T ts vars is are = typing.more is are

  pub have_next : (ts seen : List Term) (vars looked : List Ty) → seen ≡ ts → looked ≡ vars → (i : ℕ) (t : Term) (T : Ty) → i < length seen →
      i < length looked → t ≡ get_or seen i t → T ≡ get_or looked i T → HasType P anywhere context t (ty_instance types T) → HaveSo ts vars i →
      HaveSo ts vars (i + 1)
  have_next = both_next Have One one_more one_less

  pub have_fail : (ts seen : List Term) (vars looked : List Ty) → seen ≡ ts → looked ≡ vars → (i : ℕ) (t : Term) (T : Ty) → i < length seen →
      i < length looked → t ≡ get_or seen i t → T ≡ get_or looked i T → (HasType P anywhere context t (ty_instance types T) → ⊥) → HaveSo ts vars i →
      IsTrue false ↔ HaveTypes P anywhere context [] ts (tys_instance types vars)
  have_fail = both_fail Have One one_more one_less

  pub have_end : (ts seen : List Term) (vars looked : List Ty) → seen ≡ ts → looked ≡ vars → (i : ℕ) → length seen ≤ i → length looked ≤ i →
      HaveSo ts vars i → IsTrue true ↔ HaveTypes P anywhere context [] ts (tys_instance types vars)
  have_end ts seen vars looked same alike i h k = both_end Have One one_more one_less ts seen vars looked same alike i h k typing.none

  lengths : {ts : List Term} {wanted : List Ty} → HaveTypes P anywhere context [] ts wanted → length ts ≡ length wanted
  lengths typing.none = refl
  lengths (typing.more is are) = ap suc (lengths are)

  pub uneven : (ts seen : List Term) (vars looked : List Ty) → seen ≡ ts → looked ≡ vars → (length seen ≡ length looked → ⊥) →
      IsTrue false ↔ HaveTypes P anywhere context [] ts (tys_instance types vars)
  uneven ts seen vars looked same alike other =
      fails (λ have. other (ap length same ∙ lengths have ∙ length-map vars (ty_instance types) ∙ ap length (sym alike)))
