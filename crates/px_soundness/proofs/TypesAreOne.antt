-- A term has at most one type at its place.
use Rattle.std.proofs.Common.{◌≡◌, ℕ, ◌<◌, List, length, Some, slice_get, sym, ap, ◌∙◌, subst, arith}
use Rattle.px_terms.specs.declared.types.Ty.{Ty}
use Rattle.px_terms.specs.declared.types.FnType.{FnType}
use Rattle.px_terms.specs.declared.types.Fun.{Fun}
use Rattle.px_terms.specs.Head.{Head}
use Rattle.px_terms.specs.Head.TheVariants.{Def, Wle, Weq, FnVar}
use Rattle.px_terms.specs.declared.term.Term.{Term}
use Rattle.px_terms.specs.declared.term.Term.TheOpen.{Term-F}
use Rattle.px_terms.specs.declared.program.ConDef.{ConDef}
use Rattle.px_terms.specs.declared.program.DataDef.{DataDef}
use Rattle.px_terms.specs.declared.program.Def as definition
use Rattle.px_terms.specs.declared.program.Program.{Program}
use Rattle.px_terms.specs.declared.sequent.Context.{Context}
use Rattle.px_terms.specs.Types.{ty_instance}
use Rattle.px_terms.specs.Programs.{bool_type}
use Rattle.px_terms.specs.Typing.{Place, IsFunction, HasTypeLayer, HaveTypesInArms}
use Rattle.px_terms.specs.Typing as typing
use Rattle.px_terms.specs.TypedPrograms.{IsTyped}
use Rattle.px_totality.proofs.Instances.{one_item}
use Rattle.px_totality.proofs.TypesOfTerms.{data_is_typed}

-- What a definition gives at these types.
record GivenByDefinition (Q : Program) (n : ℕ) (types : List Ty) (T : Ty) : Type 0 where
  D : definition.Def
  found : slice_get Q.defs n ≡ Some D
  is : T ≡ ty_instance types D.result

-- What a function variable gives.
record GivenByVariable (context : Context) (i : ℕ) (T : Ty) : Type 0 where
  F : FnType
  found : slice_get context.funs i ≡ Some F
  is : T ≡ F.result

-- what is given, by the head
abbrev GivenBy : Program → Context → Head → List Ty → Ty → Type 0
GivenBy Q context (Def n) types T = GivenByDefinition Q n types T
GivenBy Q context Wle types T = T ≡ bool_type
GivenBy Q context Weq types T = T ≡ bool_type
GivenBy Q context (FnVar i) types T = GivenByVariable context i T

given_by : (Q : Program) (context : Context) {f : Fun} {takes : List FnType} {params : List Ty} {T : Ty} → IsFunction Q context f takes params T →
    GivenBy Q context f.head f.types T
given_by Q context (typing.of_definition {D = D} found count are takes_are params_are is) = record { D = D; found = found; is = is }
given_by Q context (typing.at_most is) = is
given_by Q context (typing.equal is) = is
given_by Q context (typing.of_variable {F = F} found params_are is) = record { F = F; found = found; is = is }

one_given : (Q : Program) (context : Context) (h : Head) (types : List Ty) (T U : Ty) → GivenBy Q context h types T →
    GivenBy Q context h types U → T ≡ U
one_given Q context (Def n) types T U x y =
    let same : x.D ≡ y.D = one_item x.D y.D (sym x.found ∙ y.found) in
    x.is ∙ ap (λ (D : definition.Def). ty_instance types D.result) same ∙ sym y.is
one_given Q context Wle types T U x y = x ∙ sym y
one_given Q context Weq types T U x y = x ∙ sym y
one_given Q context (FnVar i) types T U x y =
    let same : x.F ≡ y.F = one_item x.F y.F (sym x.found ∙ y.found) in
    x.is ∙ ap (λ (F : FnType). F.result) same ∙ sym y.is

module _ (Q : Program) (typed : IsTyped Q) (place : Place) (context : Context) where
  mutual
    pub one_type : {bound : List Ty} {y : Term-F Term} {T U : Ty} → HasTypeLayer Q place context bound y T →
        HasTypeLayer Q place context bound y U → T ≡ U
    one_type (typing.free {T = T} at met) (typing.free {T = U} other other_met) = one_item T U (one_item (Some T) (Some U) (sym at ∙ other))
    one_type (typing.bound {T = T} at met) (typing.bound {T = U} other other_met) = one_item T U (sym at ∙ other)
    one_type (typing.lit small e) (typing.lit other_small other) = e ∙ sym other
    one_type (typing.con found is e met have) (typing.con other_found other_is other other_met other_have) = e ∙ sym other
    one_type (typing.call {f = f} {T = T} function may types_met met arguments have)
        (typing.call {T = U} other other_may other_types_met other_met other_arguments other_have) =
        one_given Q context f.head f.types T U (given_by Q context function) (given_by Q context other)
    one_type {bound} (typing.choose {d = d} {types = types} {arms = bodies} {D = D} on U_is found arms)
        (typing.choose {T = U} {D = E} other_on other_is other_found other_arms) =
        let same : E ≡ D = one_item E D (sym other_found ∙ found) in
        one_type_of_arms arms (data_is_typed Q typed d D found).some
        (subst (λ (D : DataDef). HaveTypesInArms Q place context bound types D.cons bodies U) same other_arms)

    one_type_of_arms : {bound types : List Ty} {cs : List ConDef} {arms : List Term} {T U : Ty} → HaveTypesInArms Q place context bound types cs arms T →
        0 < length cs → HaveTypesInArms Q place context bound types cs arms U → T ≡ U
    one_type_of_arms typing.no_arm some others = let wrong : ⊥ = omega (arith, some) in absurd wrong
    one_type_of_arms (typing.arm met is arms) some (typing.arm other_met other others) = one_type is other
