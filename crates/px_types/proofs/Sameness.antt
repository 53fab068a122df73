-- When two types are one.
use Rattle.std.proofs.Common.{◌≡◌, Bool, List, [], ◌∷◌, map, refl, sym, ◌∙◌, ap, subst, Decides}
use Rattle.std.proofs.lemmas.Bool.{false≢true}
use Rattle.std.proofs.lemmas.Bool.Decides.{Decides-eqb, Decides-and, Decides-like}
use Rattle.px_terms.specs.declared.types.Ty.{Ty, out-Ty, roll-Ty, out-roll-Ty, roll-out-Ty, map-Ty, fold_out-Ty, ind-Ty}
use Rattle.px_terms.specs.declared.types.Ty.TheOpen.{Ty-F}
use Rattle.px_types.specs.Outcome.{pass_all, same_layer, same_step, same, same_all}
use Rattle.px_types.proofs.Exact.{Every}

-- a fact of each argument of a type's layer
abbrev pub ArgsHold : (Ty → Type 0) → Ty-F Ty → Type 0
ArgsHold P Ty-F.Word = Unit {0}
ArgsHold P (Ty-F.Var n) = Unit {0}
ArgsHold P (Ty-F.Con d args) = Every P args

all_of_pairs : (P : Ty → Type 0) (pairs : List ((T : Ty) × P T)) → Every P (map (λ (e : (T : Ty) × P T). e.0) pairs)
all_of_pairs P [] = tt
all_of_pairs P (e ∷ es) = (e.1, all_of_pairs P es)

args_of_layer : (P : Ty → Type 0) (y : Ty-F ((T : Ty) × P T)) → ArgsHold P (map-Ty ((T : Ty) × P T) Ty (λ (e : (T : Ty) × P T). e.0) y)
args_of_layer P Ty-F.Word = tt
args_of_layer P (Ty-F.Var n) = tt
args_of_layer P (Ty-F.Con d args) = all_of_pairs P args

pub ty_induction : (P : Ty → Type 0) → ((T : Ty) → ArgsHold P (out-Ty T) → P T) → (T : Ty) → P T
ty_induction P step = ind-Ty P (λ x y e. step (roll-Ty x) (subst (ArgsHold P) (e ∙ sym (out-roll-Ty x)) (args_of_layer P y)))

pub every_ty : (P : Ty → Type 0) → ((T : Ty) → P T) → (types : List Ty) → Every P types
every_ty P all [] = tt
every_ty P all (T ∷ types) = (all T, every_ty P all types)

same_is : (a b : Ty) → same a b ≡ same_layer (map-Ty Ty (Ty → Bool) same (out-Ty a)) (out-Ty b)
unfolding same
same_is a b = ap (λ (test : Ty → Bool). test b) (fold_out-Ty (Ty → Bool) same_step a)

-- the test of a type says what it should
abbrev Tells : Ty → Type 0
Tells a = (b : Ty) → Decides (same a b) (a ≡ b)

decides_all : (args : List Ty) → Every Tells args → (others : List Ty) → Decides (pass_all (map same args) others) (args ≡ others)
decides_all [] all [] = (λ e. refl, λ e. refl)
decides_all [] all (b ∷ bs) = (λ e. absurd (false≢true e), λ e. absurd cc)
decides_all (a ∷ as_) all [] = (λ e. absurd (false≢true e), λ e. absurd cc)
decides_all (a ∷ as_) (one, all) (b ∷ bs) = Decides-like _ (λ e. λ i. e.0 i ∷ e.1 i) (λ e. (cc, cc)) (Decides-and _ _ (one b) (decides_all as_ all bs))

decides_layer : (x : Ty-F Ty) → ArgsHold Tells x → (y : Ty-F Ty) → Decides (same_layer (map-Ty Ty (Ty → Bool) same x) y) (x ≡ y)
decides_layer Ty-F.Word all Ty-F.Word = (λ e. refl, λ e. refl)
decides_layer Ty-F.Word all (Ty-F.Var n) = (λ e. absurd (false≢true e), λ e. absurd cc)
decides_layer Ty-F.Word all (Ty-F.Con d args) = (λ e. absurd (false≢true e), λ e. absurd cc)
decides_layer (Ty-F.Var m) all Ty-F.Word = (λ e. absurd (false≢true e), λ e. absurd cc)
decides_layer (Ty-F.Var m) all (Ty-F.Var n) = Decides-like _ (λ e. ap Ty-F.Var e) (λ e. cc) (Decides-eqb m n)
decides_layer (Ty-F.Var m) all (Ty-F.Con d args) = (λ e. absurd (false≢true e), λ e. absurd cc)
decides_layer (Ty-F.Con d args) all Ty-F.Word = (λ e. absurd (false≢true e), λ e. absurd cc)
decides_layer (Ty-F.Con d args) all (Ty-F.Var n) = (λ e. absurd (false≢true e), λ e. absurd cc)
decides_layer (Ty-F.Con d args) all (Ty-F.Con e others) = Decides-like _ (λ h. λ i. Ty-F.Con (h.0 i) (h.1 i)) (λ h. (cc, cc)) (Decides-and _ _ (Decides-eqb d e) (decides_all args all others))

same_by_layers : {a b : Ty} → out-Ty a ≡ out-Ty b → a ≡ b
same_by_layers {a} {b} e = sym (roll-out-Ty a) ∙ ap roll-Ty e ∙ roll-out-Ty b

pub decides_same : (a b : Ty) → Decides (same a b) (a ≡ b)
decides_same = ty_induction Tells (λ a all b. subst (λ test. Decides test (a ≡ b)) (sym (same_is a b)) (Decides-like _ same_by_layers (λ e. ap out-Ty e) (decides_layer (out-Ty a) all (out-Ty b))))

pub decides_same_all : (types others : List Ty) → Decides (same_all types others) (types ≡ others)
unfolding same_all
decides_same_all types others = decides_all types (every_ty Tells decides_same types) others
