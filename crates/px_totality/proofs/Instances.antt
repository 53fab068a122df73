-- Types put in for type variables: an instance is a type, types put in twice are put in once, and own types put in are themselves.
use Rattle.std.proofs.Common.{◌≡◌, ℕ, zero, suc, ◌+◌, ◌<◌, List, [], ◌∷◌, map, length, Some, None, slice_get, unwrap_or, refl, sym, ap, ◌∙◌, subst}
use Rattle.std.proofs.Common.{arith}
use Rattle.std.proofs.lemmas.List.{length-map}
use Rattle.std.proofs.lemmas.List.Elements.{All-head, All-tail}
use Rattle.px_terms.specs.declared.types.Ty.{Ty, roll-Ty}
use Rattle.px_terms.specs.declared.types.Ty.TheVariants as type
use Rattle.px_terms.specs.declared.types.Ty.TheViews.{roll-out-Ty}
use Rattle.px_terms.specs.declared.types.Ty.TheOpen.{Ty-F}
use Rattle.px_terms.specs.declared.program.Program.{Program}
use Rattle.px_terms.specs.Types.{numbers_from, ty_instance, tys_instance, own_types}
use Rattle.px_terms.specs.TreeEquations.{ty_instance-Word, ty_instance-Var, ty_instance-Con}
use Rattle.px_terms.specs.Typing.{IsTypeLayer, IsType, AreTypes}
use Rattle.px_terms.specs.Typing as typing
use Rattle.px_terms.specs.TypedPrograms.{IsWritten, AreWritten}

pub nothing_is_some : {A : Type 0} (x : A) → None ≡ Some x → ⊥
nothing_is_some x e = cc

pub one_item : {A : Type 0} (x y : A) → Some x ≡ Some y → x ≡ y
one_item x y e = cc

-- written types are types
pub written_types : (Q : Program) (k : ℕ) (types : List Ty) → AreWritten Q k types → AreTypes Q k types
written_types Q k [] all = typing.none
written_types Q k (T ∷ types) all =
    let first : IsWritten Q k T = All-head (IsWritten Q k) T types all in
    typing.more first.is_type (written_types Q k types (All-tail (IsWritten Q k) T types all))

-- the type of this number
pub type_at : (Q : Program) (k : ℕ) (types : List Ty) (n : ℕ) (T : Ty) → AreTypes Q k types → slice_get types n ≡ Some T → IsType Q k T
type_at Q k _ n T typing.none at = absurd (nothing_is_some T at)
type_at Q k _ zero T (typing.more {T = S} is are) at = subst (IsType Q k) (one_item S T at) is
type_at Q k _ (suc n) T (typing.more {types = types} is are) at = type_at Q k types n T are at

-- what is put in for the variable of this number is a type
put_in_is_type : (Q : Program) (k : ℕ) (types : List Ty) (n : ℕ) (other : Ty) → AreTypes Q k types → n < length types →
    IsType Q k (unwrap_or (slice_get types n) other)
put_in_is_type Q k _ n other typing.none below = let wrong : ⊥ = omega (arith, below) in absurd wrong
put_in_is_type Q k _ zero other (typing.more is are) below = is
put_in_is_type Q k _ (suc n) other (typing.more {types = types} is are) below = put_in_is_type Q k types n other are (omega (arith, below))

-- the instance of what is put in is put in for the same variable
put_in_twice : (us types : List Ty) (n : ℕ) (other : Ty) → n < length types →
    ty_instance us (unwrap_or (slice_get types n) other) ≡ unwrap_or (slice_get (tys_instance us types) n) other
put_in_twice us [] n other below = let wrong : ⊥ = omega (arith, below) in absurd wrong
put_in_twice us (T ∷ types) zero other below = refl
put_in_twice us (T ∷ types) (suc n) other below = put_in_twice us types n other (omega (arith, below))

module _ (Q : Program) (k : ℕ) (ts : List Ty) (are_types : AreTypes Q k ts) where
  mutual
    layer_instance_is_type : {y : Ty-F Ty} → IsTypeLayer Q (length ts) y → IsType Q k (ty_instance ts (roll-Ty y))
    layer_instance_is_type typing.word =
        let e : ty_instance ts (roll-Ty Ty-F.Word) ≡ type.Word = ap (ty_instance ts) type.rolls-Word ∙ ty_instance-Word ts in
        subst (IsType Q k) (sym e) (subst (IsTypeLayer Q k) (sym type.outs-Word) typing.word)
    layer_instance_is_type (typing.var {n = n} below) =
        let e : ty_instance ts (roll-Ty (Ty-F.Var n)) ≡ unwrap_or (slice_get ts n) (type.Var n) =
        ap (ty_instance ts) (type.rolls-Var n) ∙ ty_instance-Var ts n in
        subst (IsType Q k) (sym e) (put_in_is_type Q k ts n (type.Var n) are_types below)
    layer_instance_is_type (typing.con {d = d} {args = args} {D = D} found count are) =
        let e : ty_instance ts (roll-Ty (Ty-F.Con d args)) ≡ type.Con d (tys_instance ts args) =
        ap (ty_instance ts) (type.rolls-Con d args) ∙ ty_instance-Con ts d args in
        let long : length (tys_instance ts args) ≡ D.tparams = length-map args (ty_instance ts) ∙ count in
        subst (IsType Q k) (sym e)
        (subst (IsTypeLayer Q k) (sym (type.outs-Con d (tys_instance ts args))) (typing.con {D = D} found long (instances_are_types are)))

    -- the instances are types
    pub instances_are_types : {types : List Ty} → AreTypes Q (length ts) types → AreTypes Q k (tys_instance ts types)
    instances_are_types typing.none = typing.none
    instances_are_types (typing.more {T = T} is are) =
        typing.more (subst (λ (S : Ty). IsType Q k (ty_instance ts S)) (roll-out-Ty T) (layer_instance_is_type is)) (instances_are_types are)

  -- the instance is a type
  pub instance_is_type : (T : Ty) → IsType Q (length ts) T → IsType Q k (ty_instance ts T)
  instance_is_type T is = subst (λ (S : Ty). IsType Q k (ty_instance ts S)) (roll-out-Ty T) (layer_instance_is_type is)

module _ (Q : Program) (us ts : List Ty) where
  mutual
    layer_twice : {y : Ty-F Ty} → IsTypeLayer Q (length ts) y → ty_instance us (ty_instance ts (roll-Ty y)) ≡ ty_instance (tys_instance us ts) (roll-Ty y)
    layer_twice typing.word =
        subst (λ (T : Ty). ty_instance us (ty_instance ts T) ≡ ty_instance (tys_instance us ts) T) (sym type.rolls-Word)
        (ap (ty_instance us) (ty_instance-Word ts) ∙ ty_instance-Word us ∙ sym (ty_instance-Word (tys_instance us ts)))
    layer_twice (typing.var {n = n} below) =
        subst (λ (T : Ty). ty_instance us (ty_instance ts T) ≡ ty_instance (tys_instance us ts) T) (sym (type.rolls-Var n))
        (ap (ty_instance us) (ty_instance-Var ts n) ∙ put_in_twice us ts n (type.Var n) below ∙ sym (ty_instance-Var (tys_instance us ts) n))
    layer_twice (typing.con {d = d} {args = args} found count are) =
        subst (λ (T : Ty). ty_instance us (ty_instance ts T) ≡ ty_instance (tys_instance us ts) T) (sym (type.rolls-Con d args))
        (ap (ty_instance us) (ty_instance-Con ts d args) ∙ ty_instance-Con us d (tys_instance ts args) ∙ ap (type.Con d) (instances_twice are) ∙ sym
        (ty_instance-Con (tys_instance us ts) d args))

    -- types put in twice are put in once
    pub instances_twice : {types : List Ty} → AreTypes Q (length ts) types → tys_instance us (tys_instance ts types) ≡ tys_instance (tys_instance us ts) types
    instances_twice typing.none = refl
    instances_twice (typing.more {T = T} {types = types} is are) =
        let first : ty_instance us (ty_instance ts T) ≡ ty_instance (tys_instance us ts) T =
        subst (λ (S : Ty). ty_instance us (ty_instance ts S) ≡ ty_instance (tys_instance us ts) S) (roll-out-Ty T) (layer_twice is) in
        let others : tys_instance us (tys_instance ts types) ≡ tys_instance (tys_instance us ts) types = instances_twice are in
        λ i. first i ∷ others i

  -- the same of one type
  pub instance_twice : (T : Ty) → IsType Q (length ts) T → ty_instance us (ty_instance ts T) ≡ ty_instance (tys_instance us ts) T
  instance_twice T is = subst (λ (S : Ty). ty_instance us (ty_instance ts S) ≡ ty_instance (tys_instance us ts) S) (roll-out-Ty T) (layer_twice is)

-- the types from a number on, put in for the variables from it on
own_from : (ts rest : List Ty) (s : ℕ) → ((i : ℕ) → slice_get ts (s + i) ≡ slice_get rest i) →
    tys_instance ts (map (λ (i : ℕ). type.Var i) (numbers_from s (length rest))) ≡ rest
own_from ts [] s same = refl
own_from ts (T ∷ rest) s same =
    let none : s + 0 ≡ s = omega arith in
    let here : slice_get ts s ≡ Some T = ap (slice_get ts) (sym none) ∙ same 0 in
    let first : ty_instance ts (type.Var s) ≡ T = ty_instance-Var ts s ∙ ap (λ o. unwrap_or o (type.Var s)) here in
    let others = own_from ts rest (s + 1) (λ i. let one : (s + 1) + i ≡ s + suc i = omega arith in ap (slice_get ts) one ∙ same (suc i)) in
    λ i. first i ∷ others i

-- own types put in are the types that are put in
pub own_types_are : (ts : List Ty) → tys_instance ts (own_types (length ts)) ≡ ts
own_types_are ts = own_from ts ts 0 (λ i. let same : 0 + i ≡ i = omega arith in ap (slice_get ts) same)
