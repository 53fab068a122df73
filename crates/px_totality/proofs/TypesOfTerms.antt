-- The type of a typed term is a type.
use Rattle.std.proofs.Common.{◌≡◌, ℕ, ◌<◌, List, [], ◌∷◌, ◌++◌, reverse, length, Option, Some, None, slice_get, refl, sym, ap, ◌∙◌, subst}
use Rattle.std.proofs.Common.{arith}
use Rattle.std.specs.List.{All}
use Rattle.std.specs.Option.{option_and_then}
use Rattle.std.proofs.lemmas.Option.{get_or_from_slice_get, slice_get_within}
use Rattle.std.proofs.lemmas.List.{reverse-append}
use Rattle.std.proofs.lemmas.List.Elements.{All-head}
use Rattle.px_terms.specs.declared.types.Ty.{Ty, out-Ty}
use Rattle.px_terms.specs.declared.types.Ty.TheVariants as type
use Rattle.px_terms.specs.declared.types.Ty.TheOpen.{Ty-F}
use Rattle.px_terms.specs.declared.types.FnType.{FnType}
use Rattle.px_terms.specs.declared.types.Fun.{Fun}
use Rattle.px_terms.specs.declared.term.Term.{Term}
use Rattle.px_terms.specs.declared.term.Term.TheOpen.{Term-F}
use Rattle.px_terms.specs.declared.program.ConDef.{ConDef}
use Rattle.px_terms.specs.declared.program.DataDef.{DataDef}
use Rattle.px_terms.specs.declared.program.Program.{Program}
use Rattle.px_terms.specs.declared.sequent.Context.{Context}
use Rattle.px_terms.specs.Programs.{bool_type, bool_data, constructor_at}
use Rattle.px_terms.specs.Typing.{Place, IsTypeLayer, IsType, AreTypes, IsFunction, HasTypeLayer, HaveTypesInArms}
use Rattle.px_terms.specs.Typing as typing
use Rattle.px_terms.specs.TypedPrograms.{IsTyped, IsTypedData, IsTypedCon}
use Rattle.px_totality.specs.Laws.{IsContext}
use Rattle.px_totality.proofs.Instances.{nothing_is_some, one_item, written_types, type_at, instances_are_types, instance_is_type}

-- of each element, so of the one with this number
pub all_at : {X : Type 0} (P : X → Type 0) (xs : List X) (i : ℕ) (x : X) → All P xs → slice_get xs i ≡ Some x → P x
all_at P xs i x all at = subst P (get_or_from_slice_get xs i x x at) (all i x (slice_get_within xs i x at))

-- A constructor stands in a datatype.
pub record StandsIn (Q : Program) (d k : ℕ) (c : ConDef) : Type 0 where
  pub datatype : DataDef
  pub found : slice_get Q.datatypes d ≡ Some datatype
  pub stands : slice_get datatype.cons k ≡ Some c

pub stands_in : (Q : Program) (d k : ℕ) (c : ConDef) → constructor_at Q d k ≡ Some c → StandsIn Q d k c
stands_in Q d k c at = go (slice_get Q.datatypes d) refl at
  where
    go : (o : Option DataDef) → slice_get Q.datatypes d ≡ o → option_and_then (λ (D : DataDef). slice_get D.cons k) o ≡ Some c → StandsIn Q d k c
    go None found at = absurd (nothing_is_some c at)
    go (Some D) found at = record { datatype = D; found = found; stands = at }

-- the constructors of a datatype that is found
pub constructor_of : (Q : Program) (d k : ℕ) (D : DataDef) → slice_get Q.datatypes d ≡ Some D → constructor_at Q d k ≡ slice_get D.cons k
constructor_of Q d k D found = ap (option_and_then (λ (D : DataDef). slice_get D.cons k)) found

pub are_types_append : (Q : Program) (k : ℕ) {types others : List Ty} → AreTypes Q k types → AreTypes Q k others → AreTypes Q k (types ++ others)
are_types_append Q k typing.none others = others
are_types_append Q k (typing.more is are) others = typing.more is (are_types_append Q k are others)

pub are_types_reversed : (Q : Program) (k : ℕ) {types : List Ty} → AreTypes Q k types → AreTypes Q k (reverse types)
are_types_reversed Q k typing.none = typing.none
are_types_reversed Q k (typing.more {T = T} {types = types} is are) =
    subst (AreTypes Q k) (sym (reverse-append (T ∷ []) types)) (are_types_append Q k (are_types_reversed Q k are) (typing.more is typing.none))

-- What a datatype's type rests on.
pub record DataType (Q : Program) (k : ℕ) (D : DataDef) (types : List Ty) : Type 0 where
  pub long : length types ≡ D.tparams
  pub are : AreTypes Q k types

data_layer : (Q : Program) (k d : ℕ) (D : DataDef) (types : List Ty) {y : Ty-F Ty} → IsTypeLayer Q k y → y ≡ Ty-F.Con d types →
    slice_get Q.datatypes d ≡ Some D → DataType Q k D types
data_layer Q k d D types typing.word e found = let wrong : ⊥ = cc in absurd wrong
data_layer Q k d D types (typing.var below) e found = let wrong : ⊥ = cc in absurd wrong
data_layer Q k d D types (typing.con {d = f} {args = args} {D = E} stands long are) e found =
    let which : f ≡ d = cc in
    let given : args ≡ types = cc in
    let same : E ≡ D = one_item E D (sym stands ∙ ap (slice_get Q.datatypes) which ∙ found) in
    record { long = ap length (sym given) ∙ long ∙ ap (λ (D : DataDef). D.tparams) same; are = subst (AreTypes Q k) given are }

pub data_type : (Q : Program) (k d : ℕ) (D : DataDef) (types : List Ty) (T : Ty) → IsType Q k T → T ≡ type.Con d types → slice_get Q.datatypes d ≡ Some D →
    DataType Q k D types
data_type Q k d D types T is e found = data_layer Q k d D types is (ap out-Ty e ∙ type.outs-Con d types) found

pub bool_is_type : (Q : Program) → IsTyped Q → (k : ℕ) → IsType Q k bool_type
bool_is_type Q typed k = subst (λ (y : Ty-F Ty). IsTypeLayer Q k y) (sym (type.outs-Con 0 [])) (typing.con {D = bool_data} typed.bool refl typing.none)

-- the fields of a constructor have types over as many variables as there are arguments
pub fields_are_types : (Q : Program) (D : DataDef) (types : List Ty) (c : ConDef) → length types ≡ D.tparams → IsTypedCon Q D.tparams c →
    AreTypes Q (length types) c.fields
fields_are_types Q D types c long is = subst (λ (n : ℕ). AreTypes Q n c.fields) (sym long) (written_types Q D.tparams c.fields is)

module _ (Q : Program) (typed : IsTyped Q) where
  -- the datatype that is found is typed
  pub data_is_typed : (d : ℕ) (D : DataDef) → slice_get Q.datatypes d ≡ Some D → IsTypedData Q D
  data_is_typed d D found = all_at (IsTypedData Q) Q.datatypes d D typed.datatypes found

  module _ (place : Place) (context : Context) (is_context : IsContext Q context) where
    abbrev k : ℕ
    k = context.tparams

    result_is_type : {f : Fun} {takes : List FnType} {params : List Ty} {T : Ty} → IsFunction Q context f takes params T → IsType Q k T
    result_is_type (typing.of_definition {n = n} {types = types} {D = D} found long are takes_is params_is result_is) =
        let result : IsType Q (length types) D.result = subst (λ (m : ℕ). IsType Q m D.result) (sym long) (typed.defs n D found).signature.result.is_type in
        subst (IsType Q k) (sym result_is) (instance_is_type Q k types are D.result result)
    result_is_type (typing.at_most is) = subst (IsType Q k) (sym is) (bool_is_type Q typed k)
    result_is_type (typing.equal is) = subst (IsType Q k) (sym is) (bool_is_type Q typed k)
    result_is_type (typing.of_variable {n = n} {F = F} found params_is result_is) = subst (IsType Q k) (sym result_is) (is_context.results n F found)

    mutual
      -- so is that of a layer
      pub type_of : {bound : List Ty} {y : Term-F Term} {T : Ty} → HasTypeLayer Q place context bound y T → AreTypes Q k bound → IsType Q k T
      type_of (typing.free {n = n} {T = T} at met) around = is_context.vars n T at
      type_of {bound} (typing.bound {n = n} {T = T} at met) around = type_at Q k bound n T around at
      type_of (typing.lit small e) around = subst (IsType Q k) (sym e) (subst (IsTypeLayer Q k) (sym type.outs-Word) typing.word)
      type_of (typing.con found is e met have) around = is
      type_of (typing.call function may types_met met arguments have) around = result_is_type function
      type_of (typing.choose {d = d} {types = types} {U = U} {D = D} on U_is found arms) around =
          let of_data : IsTypedData Q D = data_is_typed d D found in
          type_of_arms arms D.tparams of_data.some of_data.cons (data_type Q k d D types U (type_of on around) U_is found).long
          (data_type Q k d D types U (type_of on around) U_is found).are around

      type_of_arms : {bound types : List Ty} {cs : List ConDef} {arms : List Term} {T : Ty} → HaveTypesInArms Q place context bound types cs arms T → (m : ℕ) →
          0 < length cs → All (IsTypedCon Q m) cs → length types ≡ m → AreTypes Q k types → AreTypes Q k bound → IsType Q k T
      type_of_arms typing.no_arm m some cons long are around = let wrong : ⊥ = omega (arith, some) in absurd wrong
      type_of_arms (typing.arm {types = types} {c = c} {cs = cs} met body arms) m some cons long are around =
          let fields : AreTypes Q (length types) c.fields =
          subst (λ (n : ℕ). AreTypes Q n c.fields) (sym long) (written_types Q m c.fields (All-head (IsTypedCon Q m) c cs cons)) in
          type_of body (are_types_append Q k (are_types_reversed Q k (instances_are_types Q k types are fields)) around)
