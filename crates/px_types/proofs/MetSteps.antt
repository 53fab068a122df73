-- Types within the limits, as the code tells them.
use Rattle.std.proofs.Common.{◌≡◌, ◌↔◌, ℕ, zero, suc, ◌+◌, ◌-◌, ◌<◌, ◌≤◌, ◌^◌, min, Bool, true, false, ◌&&◌, IsTrue, List, [], ◌∷◌, length, get_or, take}
use Rattle.std.proofs.Common.{refl, sym, ◌∙◌, ap, Decides, arith}
use Rattle.std.specs.List.{list_all}
use Rattle.std.proofs.lemmas.Bool.Decides.{same_from_decides, Decides-like}
use Rattle.std.proofs.lemmas.List.{take_all}
use Rattle.std.proofs.lemmas.List.Folds.{list_all_more, list_all-map}
use Rattle.px_base.specs.declared.limits.TheConstants.{TYPE_NODES, TYPE_DEPTH}
use Rattle.px_terms.specs.declared.types.Ty.{Ty}
use Rattle.px_terms.specs.declared.types.Ty.TheVariants as type
use Rattle.px_terms.specs.Types.{ty_size, tys_size, ty_depth, tys_depth, ty_instance, tys_instance}
use Rattle.px_terms.specs.TreeEquations.{ty_size-Con, ty_depth-Con}
use Rattle.px_types.specs.declared.env.Stand.{Stand}
use Rattle.px_types.specs.declared.env.Stand.TheVariants.{Body, Behind}
use Rattle.px_types.specs.Faults.{Env}
use Rattle.px_types.specs.Scopes.{place_of}
use Rattle.px_types.specs.Outcome.{is_met, is_function_met}
use Rattle.px_types.proofs.TypesExact.{decides_small}

-- the limits are the same at each place of a text
decides_within : (s : Stand) (T : Ty) → Decides (is_met (place_of s) T) ((ty_size T ≤ TYPE_NODES) × (ty_depth T ≤ TYPE_DEPTH))
unfolding is_met
decides_within (Body n) T = decides_small (ty_size T) (ty_depth T)
decides_within (Behind count) T = decides_small (ty_size T) (ty_depth T)

pub met_is : (s : Stand) (T : Ty) (r : Bool) → (IsTrue r ↔ ((ty_size T ≤ TYPE_NODES) × (ty_depth T ≤ TYPE_DEPTH))) → r ≡ is_met (place_of s) T
met_is s T r h = same_from_decides r (is_met (place_of s) T) h (decides_within s T)

-- a number that is counted up to a bound is below a small one exactly where it is
below : (n m bound most : ℕ) → m ≡ min n bound → most < bound → m < most → 1 + n ≤ most
below n m bound most e h less = omega arith

above : (n m bound most : ℕ) → m ≡ min n bound → most < bound → 1 + n ≤ most → m < most
above n m bound most e h small = omega arith

pub con_met_is : (s : Stand) (d : ℕ) (args : List Ty) (nodes depth : ℕ) (r : Bool) → nodes ≡ min (tys_size args) (2 ^ 64 - 1) →
    depth ≡ min (tys_depth args) (2 ^ 32 - 1) → Decides r ((nodes < TYPE_NODES) × (depth < TYPE_DEPTH)) → r ≡ is_met (place_of s) (type.Con d args)
con_met_is s d args nodes depth r nodes_are depth_is h =
    same_from_decides r (is_met (place_of s) (type.Con d args)) (Decides-like r to from h) (decides_within s (type.Con d args))
  where
    to : (nodes < TYPE_NODES) × (depth < TYPE_DEPTH) → (ty_size (type.Con d args) ≤ TYPE_NODES) × (ty_depth (type.Con d args) ≤ TYPE_DEPTH)
    to h =
        rw (ty_size-Con d args, ty_depth-Con d args) (
          below (tys_size args) nodes (2 ^ 64 - 1) TYPE_NODES nodes_are (omega arith) h.0,
          below (tys_depth args)
              depth (2 ^ 32 - 1) TYPE_DEPTH depth_is (omega arith) h.1,
        )

    from : (ty_size (type.Con d args) ≤ TYPE_NODES) × (ty_depth (type.Con d args) ≤ TYPE_DEPTH) → (nodes < TYPE_NODES) × (depth < TYPE_DEPTH)
    from h = (
      above (tys_size args) nodes (2 ^ 64 - 1) TYPE_NODES nodes_are (omega arith) (rw (ty_size-Con d args) at h.0),
      above (tys_depth args) depth (2 ^ 32 - 1)
          TYPE_DEPTH depth_is (omega arith) (rw (ty_depth-Con d args) at h.1),
    )

and_fails : (x y : Bool) → y ≡ false → (x && y) ≡ false
and_fails true y e = e
and_fails false y e = refl

-- a test of each item of a list, as far as it was seen
pub all_next : {X : Type 0} (test : X → Bool) (xs : List X) (i : ℕ) (x : X) → i < length xs → x ≡ get_or xs i x → test x ≡ true →
    list_all test (take i xs) ≡ true → list_all test (take (i + 1) xs) ≡ true
all_next test xs i x h is e before = list_all_more test xs i x h ∙ rw (before, ← is, e) refl

pub all_fails : {X : Type 0} (test : X → Bool) (xs : List X) (i : ℕ) (x : X) → i < length xs → x ≡ get_or xs i x → test x ≡ false → list_all test xs ≡ false
all_fails test [] i x h is e = absurd (omega arith)
all_fails test (y ∷ ys) zero x h is e = let here : test y ≡ false = rw (← is) e in rw here refl
all_fails test (y ∷ ys) (suc i) x h is e = and_fails (test y) _ (all_fails test ys i x (omega arith) is e)

pub all_end : {X : Type 0} (test : X → Bool) (xs : List X) (i : ℕ) → length xs ≤ i → list_all test (take i xs) ≡ true → list_all test xs ≡ true
all_end test xs i h e = rw (take_all i xs h) at e

-- whether a parameter's type is met, with these types put in
abbrev pub param_met : Env → List Ty → Ty → Bool
param_met E types U = is_met E.place (ty_instance types U)

-- Each type of a function type, the result's first, with these types put in.
module _ (E : Env) (types : List Ty) (params : List Ty) (T : Ty) where
  function_met_is : is_function_met E (tys_instance types params) (ty_instance types T)
      ≡ (is_met E.place (ty_instance types T) && list_all (param_met E types) params)
  unfolding is_function_met
  function_met_is = ap (λ (b : Bool). is_met E.place (ty_instance types T) && b) (list_all-map (is_met E.place) (ty_instance types) params)

  pub result_unmet : false ≡ is_met E.place (ty_instance types T) → false ≡ is_function_met E (tys_instance types params) (ty_instance types T)
  result_unmet e = sym (function_met_is ∙ rw (← e) refl)

  pub param_unmet : (looked : List Ty) (i : ℕ) (U : Ty) → looked ≡ params → i < length looked → U ≡ get_or looked i U → false ≡ (param_met E types) U →
      false ≡ is_function_met E (tys_instance types params) (ty_instance types T)
  param_unmet looked i U same h is e =
      sym (function_met_is ∙ and_fails _ _ (all_fails (param_met E types) params i U (rw same at h) (is ∙ ap (λ (xs : List Ty). get_or xs i U) same) (sym e)))

  pub all_params_met : (looked : List Ty) (i : ℕ) → looked ≡ params → length looked ≤ i → true ≡ is_met E.place (ty_instance types T) →
      list_all (param_met E types) (take i looked) ≡ true → true ≡ is_function_met E (tys_instance types params) (ty_instance types T)
  all_params_met looked i same h e before = sym (function_met_is ∙ rw (← e, all_end (param_met E types) params i (rw same at h) (rw same at before)) refl)
