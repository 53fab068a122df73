-- What is called or passed, as the code tells it.
use Rattle.std.proofs.Common.{◌≡◌, ◌↔◌, ◌⊎◌, inl, inr, ◌==◌, ◌&&◌, ◌||◌, eq-eqb, ℕ, zero, suc, ◌+◌, ◌<◌, ◌≤◌, Bool, true, false, IsTrue, List, [], ◌∷◌, ◌++◌}
use Rattle.std.proofs.Common.{length, map, get_or, take, Some, None, refl, sym, ◌∙◌, ap, arith, add-one, add-zero, zero-add}
use Rattle.std.specs.Prelude.{nat_lt}
use Rattle.std.proofs.Math.Seq.{take-suc}
use Rattle.std.proofs.lemmas.Bool.{false≢true, lt-ltb}
use Rattle.std.proofs.lemmas.Bool.Decides.{nat_tests}
use Rattle.std.proofs.lemmas.List.{map-append, take_all, length-map}
use Rattle.px_base.specs.declared.head.Head.{Head}
use Rattle.px_base.specs.declared.head.Head.TheVariants.{Def, Wle, Weq, FnVar}
use Rattle.px_base.specs.declared.raw.RawFun.{RawFun}
use Rattle.px_terms.specs.declared.types.Ty.{Ty, out-Ty, roll-Ty, roll-out-Ty, map-Ty, fold_out-Ty}
use Rattle.px_terms.specs.declared.types.Ty.TheVariants as type
use Rattle.px_terms.specs.declared.types.Ty.TheOpen.{Ty-F}
use Rattle.px_terms.specs.declared.types.FnType.{FnType}
use Rattle.px_terms.specs.declared.program.Program.{Program}
use Rattle.px_terms.specs.Types.{numbers_from, ty_instance_step, ty_instance, tys_instance, fn_type_instance, own_types}
use Rattle.px_types.specs.declared.env.Stand.{Stand}
use Rattle.px_types.specs.declared.env.Stand.TheVariants.{Body, Behind}
use Rattle.px_types.specs.declared.heads.BuiltIn.{BuiltIn}
use Rattle.px_types.specs.Faults.{Env, Counts, counts_of}
use Rattle.px_types.specs.Scopes.{place_of}
use Rattle.px_types.specs.Envs.{comparing}
use Rattle.px_types.specs.Outcome.{Signature, may_call, may_pass, same_all, are_own, stands_before, has_argument_count}
use Rattle.px_types.proofs.Exact.{Every}
use Rattle.px_types.proofs.Sameness.{ArgsHold, ty_induction, decides_same_all}

-- a type stays as it is where no type is put in
abbrev Stays : Ty → Type 0
Stays T = ty_instance [] T ≡ T

all_stay : (args : List Ty) → Every Stays args → tys_instance [] args ≡ args
all_stay [] all = refl
all_stay (T ∷ args) (one, all) = λ i. one i ∷ all_stay args all i

layer_stays : (y : Ty-F Ty) → ArgsHold Stays y → ty_instance_step [] (map-Ty Ty Ty (ty_instance []) y) ≡ roll-Ty y
layer_stays Ty-F.Word all = sym type.rolls-Word
layer_stays (Ty-F.Var n) all = sym (type.rolls-Var n)
layer_stays (Ty-F.Con d args) all = ap (type.Con d) (all_stay args all) ∙ sym (type.rolls-Con d args)

pub stays : (T : Ty) → ty_instance [] T ≡ T
stays = ty_induction Stays (λ T all. fold_out-Ty Ty (ty_instance_step []) T ∙ layer_stays (out-Ty T) all ∙ roll-out-Ty T)

pub stay : (types : List Ty) → tys_instance [] types ≡ types
stay [] = refl
stay (T ∷ types) = λ i. stays T i ∷ stay types i

-- what takes these functions and values and gives this one, with types put in
abbrev pub put_in : List Ty → List FnType → List Ty → Ty → Signature
put_in types takes params T = record { takes = map (fn_type_instance types) takes; params = tys_instance types params; result = ty_instance types T }

-- a function variable is called at no types
pub variable_is : (b : BuiltIn) (F : FnType) → b ≡ comparing →
    put_in b.types b.takes F.params F.result ≡ record { takes = []; params = F.params; result = F.result }
variable_is b F e = rw e (λ i. record { takes = []; params = stay F.params i; result = stays F.result i })

-- a function that is no definition may be called and passed at each place
module _ (P : Program) (s : Stand) where
  pub wle_called : (types : List Ty) → true ≡ may_call P (place_of s) Wle types
  unfolding may_call
  wle_called types = elim s as (λ (s : Stand). true ≡ may_call P (place_of s) Wle types) [ Body n ↦ refl | Behind count ↦ refl ]

  pub weq_called : (types : List Ty) → true ≡ may_call P (place_of s) Weq types
  unfolding may_call
  weq_called types = elim s as (λ (s : Stand). true ≡ may_call P (place_of s) Weq types) [ Body n ↦ refl | Behind count ↦ refl ]

  pub variable_called : (i : ℕ) (types : List Ty) → true ≡ may_call P (place_of s) (FnVar i) types
  unfolding may_call
  variable_called i types = elim s as (λ (s : Stand). true ≡ may_call P (place_of s) (FnVar i) types) [ Body n ↦ refl | Behind count ↦ refl ]

  pub wle_passed : true ≡ may_pass P (place_of s) Wle
  unfolding may_pass
  wle_passed = elim s as (λ (s : Stand). true ≡ may_pass P (place_of s) Wle) [ Body n ↦ refl | Behind count ↦ refl ]

  pub weq_passed : true ≡ may_pass P (place_of s) Weq
  unfolding may_pass
  weq_passed = elim s as (λ (s : Stand). true ≡ may_pass P (place_of s) Weq) [ Body n ↦ refl | Behind count ↦ refl ]

  pub variable_passed : (i : ℕ) → true ≡ may_pass P (place_of s) (FnVar i)
  unfolding may_pass
  variable_passed i = elim s as (λ (s : Stand). true ≡ may_pass P (place_of s) (FnVar i)) [ Body n ↦ refl | Behind count ↦ refl ]

  -- a head that is no definition
  abbrev pub IsOther : Head → Type 0
  IsOther h = (h ≡ Wle) ⊎ ((h ≡ Weq) ⊎ ((i : ℕ) × (h ≡ FnVar i)))

  pub other_called : (h : Head) (types : List Ty) → IsOther h → true ≡ may_call P (place_of s) h types
  other_called h types is = elim is [
    | inl e ↦ rw e (wle_called types)
    | inr rest ↦ elim rest [ inl e ↦ rw e (weq_called types) | inr v ↦ rw v.1 (variable_called v.0 types) ]
  ]

  pub other_passed : (h : Head) → IsOther h → true ≡ may_pass P (place_of s) h
  other_passed h is = elim is [
    | inl e ↦ rw e wle_passed
    | inr rest ↦ elim rest [ inl e ↦ rw e weq_passed | inr v ↦ rw v.1 (variable_passed v.0) ]
  ]

  module _ (h : Head) (m : ℕ) (head : h ≡ Def m) where
    -- in the body of definition n
    module _ (n : ℕ) (place : s ≡ Body n) where
      in_body_is : (types : List Ty) → may_call P (place_of s) h types ≡ (nat_lt m n || (m == n && are_own P n types))
      unfolding may_call
      in_body_is types = rw (head, place) refl

      pub earlier_called : (types : List Ty) → m < n → nat_lt m n ≡ may_call P (place_of s) h types
      earlier_called types below = let e = lt-ltb m n below in e ∙ sym (in_body_is types ∙ ap (λ (b : Bool). b || (m == n && are_own P n types)) e)

      not_earlier : n ≤ m → nat_lt m n ≡ false
      not_earlier above = grind (arith, nat_tests)

      pub itself_called : (types : List Ty) (own : Bool) → n ≤ m → m ≡ n → own ≡ are_own P n types → own ≡ may_call P (place_of s) h types
      itself_called types own above is e = e ∙ sym (in_body_is types ∙ rw (not_earlier above, eq-eqb m n is) refl)

      pub later_called : (types : List Ty) → n ≤ m → (m ≡ n → ⊥) → (m == n) ≡ may_call P (place_of s) h types
      later_called types above other = let e : (m == n) ≡ false = grind (arith, nat_tests) in e ∙ sym (in_body_is types ∙ rw (not_earlier above, e) refl)

      pub body_passed : nat_lt m n ≡ may_pass P (place_of s) h
      unfolding may_pass
      body_passed = rw (head, place) refl

    -- behind so many obligations
    module _ (count : ℕ) (place : s ≡ Behind count) where
      pub behind_called : (types : List Ty) → stands_before P m count ≡ may_call P (place_of s) h types
      unfolding may_call
      behind_called types = rw (head, place) refl

      pub behind_passed : stands_before P m count ≡ may_pass P (place_of s) h
      unfolding may_pass
      behind_passed = rw (head, place) refl

-- Whether a function may be passed, and has as many types as it takes.
module _ (E : Env) (raw : RawFun) (pass : Bool) (pass_is : pass ≡ may_pass E.program E.place raw.head) where
  pub unpassed : pass ≡ false → false ≡ has_argument_count E raw
  unfolding has_argument_count
  unpassed e = sym (rw (sym pass_is ∙ e) refl)

  pub no_counts : pass ≡ true → None ≡ counts_of E raw.head → false ≡ has_argument_count E raw
  unfolding has_argument_count
  no_counts e none = sym (rw (sym pass_is ∙ e, ← none) refl)

  pub counted : pass ≡ true → (c : Counts) (n : ℕ) → Some c ≡ counts_of E raw.head → n ≡ length raw.types → (c.types == n) ≡ has_argument_count E raw
  unfolding has_argument_count
  counted e c n some long = sym (rw (sym pass_is ∙ e, ← some, long) refl)

-- The type parameters in order.
numbers_from-last : (s n : ℕ) → numbers_from s (suc n) ≡ numbers_from s n ++ (s + n) ∷ []
numbers_from-last s zero = ap (λ (k : ℕ). k ∷ []) (sym (add-zero s))
numbers_from-last s (suc n) =
    let moved : (s + 1) + n ≡ s + suc n = omega arith in
    ap (λ (xs : List ℕ). s ∷ xs) (numbers_from-last (s + 1) n ∙ ap (λ (k : ℕ). numbers_from (s + 1) n ++ k ∷ []) moved)

own_last : (n : ℕ) → own_types (n + 1) ≡ own_types n ++ type.Var n ∷ []
own_last n =
    let last : numbers_from 0 (n + 1) ≡ numbers_from 0 n ++ (0 + n) ∷ [] = rw add-one (numbers_from-last 0 n) in
    ap (map (λ (k : ℕ). type.Var k)) last ∙ map-append (λ (k : ℕ). type.Var k) (numbers_from 0 n) ((0 + n) ∷ []) ∙ ap
    (λ (k : ℕ). own_types n ++ type.Var k ∷ []) (zero-add n)

numbers_length : (s n : ℕ) → length (numbers_from s n) ≡ n
numbers_length s zero = refl
numbers_length s (suc n) = ap suc (numbers_length (s + 1) n)

own_length : (n : ℕ) → length (own_types n) ≡ n
own_length n = length-map (numbers_from 0 n) (λ (k : ℕ). type.Var k) ∙ numbers_length 0 n

own_at : (s n i : ℕ) (d : Ty) → i < n → get_or (map (λ (k : ℕ). type.Var k) (numbers_from s n)) i d ≡ type.Var (s + i)
own_at s zero i d h = absurd (omega arith)
own_at s (suc n) zero d h = ap (λ (k : ℕ). type.Var k) (sym (add-zero s))
own_at s (suc n) (suc i) d h =
    let moved : (s + 1) + i ≡ s + suc i = omega arith in
    own_at (s + 1) n i d (omega arith) ∙ ap (λ (k : ℕ). type.Var k) moved

not_true : (b : Bool) → (b ≡ true → ⊥) → false ≡ b
not_true true h = absurd (h refl)
not_true false h = refl

-- The types are those parameters, as far as they were seen.
module _ (types looked : List Ty) (count : ℕ) (same : looked ≡ types) where
  pub own_next : (i : ℕ) (T : Ty) (b : Bool) → i < length looked → T ≡ get_or looked i T → (IsTrue b ↔ (T ≡ type.Var i)) → b ≡ true →
      take i looked ≡ own_types i → take (i + 1) looked ≡ own_types (i + 1)
  own_next i T b h is tells e before =
      let last : take (i + 1) looked ≡ take i looked ++ get_or looked i T ∷ [] = rw add-one (take-suc looked i T h) in
      last ∙ ap (λ (xs : List Ty). xs ++ get_or looked i T ∷ []) before ∙ ap (λ (U : Ty). own_types i ++ U ∷ []) (sym is ∙ tells.0 e) ∙ sym (own_last i)

  pub own_fails : (i : ℕ) (T : Ty) (b : Bool) → length types ≡ count → i < length looked → T ≡ get_or looked i T → (IsTrue b ↔ (T ≡ type.Var i)) → b ≡ false →
      false ≡ same_all types (own_types count)
  own_fails i T b long h is tells e = not_true _ (λ t. false≢true (sym e ∙ tells.1 (is_own ((decides_same_all types (own_types count)).0 t))))
    where
      is_own : types ≡ own_types count → T ≡ type.Var i
      is_own all =
          let below : i < count = rw (← long, ← same) h in
          is ∙ ap (λ (xs : List Ty). get_or xs i T) (same ∙ all) ∙ own_at 0 count i T below ∙ ap (λ (k : ℕ). type.Var k) (zero-add i)

  pub own_end : (i : ℕ) → length types ≡ count → length looked ≤ i → take i looked ≡ own_types i → true ≡ same_all types (own_types count)
  own_end i long h before =
      let all : types ≡ own_types i = sym same ∙ sym (take_all i looked h) ∙ before in
      let number : i ≡ count = sym (own_length i) ∙ ap length (sym all) ∙ long in
      sym ((decides_same_all types (own_types count)).1 (rw (← number) all))

pub own_miscounted : (types : List Ty) (count : ℕ) → (length types ≡ count → ⊥) → false ≡ same_all types (own_types count)
own_miscounted types count other = not_true _ (λ t. other (ap length ((decides_same_all types (own_types count)).0 t) ∙ own_length count))
