-- Which types, functions and terms written ones are, once their places are gone.
use Rattle.std.specs.Prelude.{◌≡◌, ℕ, List, [], ◌∷◌, length, map, Some, slice_get}
use Rattle.std.specs.Option.{IsSomeAnd}
use Rattle.px_base.specs.declared.prop.Prop.{Prop}
use Rattle.px_base.specs.declared.raw.RawTyKind.TheVariants as type_kinds
use Rattle.px_base.specs.declared.raw.RawTy.{RawTy, out-RawTy}
use Rattle.px_base.specs.declared.raw.RawProp.{RawProp}
use Rattle.px_base.specs.declared.raw.RawFun.{RawFun}
use Rattle.px_base.specs.declared.raw.RawFnType.{RawFnType}
use Rattle.px_base.specs.declared.raw.RawKind.{RawKind, out-RawKind}
use Rattle.px_base.specs.declared.raw.RawKind.TheOpen.{RawKind-F}
use Rattle.px_base.specs.declared.raw.RawTerm.{RawTerm}
use Rattle.px_base.specs.declared.raw.RawArm.{RawArm}
use Rattle.px_base.specs.Distinct.{AreDistinct}
use Rattle.px_base.specs.PropSets.{set_of}
use Rattle.px_terms.specs.declared.types.Ty.{Ty}
use Rattle.px_terms.specs.declared.types.Ty.TheVariants as type
use Rattle.px_terms.specs.declared.types.FnType.{FnType}
use Rattle.px_terms.specs.declared.types.Fun.{Fun}
use Rattle.px_terms.specs.declared.term.Term.{Term}
use Rattle.px_terms.specs.declared.term.Term.TheVariants as term
use Rattle.px_terms.specs.declared.program.ConDef.{ConDef}
use Rattle.px_terms.specs.declared.program.Program.{Program}
use Rattle.px_terms.specs.Programs.{constructor_at}

mutual
  -- the written type is this one: nothing is written after `Word` and a type parameter
  pub data IsTy : RawTy → Ty → Type 0 where
    word : {raw : RawTy} {T : Ty} → (out-RawTy raw).kind ≡ type_kinds.Word → (out-RawTy raw).args ≡ [] → T ≡ type.Word → IsTy raw T
    var : {raw : RawTy} {T : Ty} {n : ℕ} → (out-RawTy raw).kind ≡ type_kinds.Var n → (out-RawTy raw).args ≡ [] → T ≡ type.Var n → IsTy raw T
    con : {raw : RawTy} {T : Ty} {d : ℕ} {types : List Ty} → (out-RawTy raw).kind ≡ type_kinds.Con d → AreTys (out-RawTy raw).args types → T ≡ type.Con d types → IsTy raw T

  -- each written type is the one at its place
  pub data AreTys : List RawTy → List Ty → Type 0 where
    none : AreTys [] []
    more : {raw : RawTy} {raws : List RawTy} {T : Ty} {types : List Ty} → IsTy raw T → AreTys raws types → AreTys (raw ∷ raws) (T ∷ types)

-- The written function is this one.
pub record IsFun (raw : RawFun) (f : Fun) : Type 0 where
  pub head : f.head ≡ raw.head
  pub types : AreTys raw.types f.types

-- each written function is the one at its place
pub data AreFuns : List RawFun → List Fun → Type 0 where
  none : AreFuns [] []
  more : {raw : RawFun} {raws : List RawFun} {f : Fun} {fs : List Fun} → IsFun raw f → AreFuns raws fs → AreFuns (raw ∷ raws) (f ∷ fs)

-- the properties that are written
abbrev pub props_of : List RawProp → List Prop
props_of raws = map (λ (raw : RawProp). raw.prop) raws

-- The written type of a function parameter is this one.
pub record IsFnTy (raw : RawFnType) (F : FnType) : Type 0 where
  pub params : AreTys raw.params F.params
  pub result : IsTy raw.result F.result
  pub props : F.props ≡ set_of (props_of raw.props)

-- each written type of a function parameter is the one at its place
pub data AreFnTys : List RawFnType → List FnType → Type 0 where
  none : AreFnTys [] []
  more : {raw : RawFnType} {raws : List RawFnType} {F : FnType} {funs : List FnType} → IsFnTy raw F → AreFnTys raws funs → AreFnTys (raw ∷ raws) (F ∷ funs)

-- the constructors of written arms
abbrev pub cons_of : List RawArm → List ℕ
cons_of arms = map (λ (arm : RawArm). arm.con) arms

-- the arm's pattern has as many variables as the constructor has fields
abbrev pub HasPattern : Program → RawArm → Type 0
HasPattern P arm = IsSomeAnd (constructor_at P arm.datatype arm.con) (λ (c : ConDef). length arm.vars ≡ length c.fields)

mutual
  -- The layer of a written term is this term: its places are gone, and the arms of a match stand in the order of the constructors.
  -- The types that a match carries aren't written; typing fills them in.
  pub data IsTermLayer (P : Program) : RawKind-F RawKind RawArm RawTerm → Term → Type 0 where
    free : {n : ℕ} {t : Term} → t ≡ term.Free n → IsTermLayer P (RawKind-F.Free n []) t
    bound : {n : ℕ} {t : Term} → t ≡ term.Bound n → IsTermLayer P (RawKind-F.Bound n []) t
    literal : {w : ℕ} {t : Term} → t ≡ term.Lit w → IsTermLayer P (RawKind-F.Lit w) t
    construction : {d k : ℕ} {raw_types : List RawTy} {types : List Ty} {raw_fields : List RawTerm} {fields : List Term} {t : Term} → AreTys raw_types types → AreTerms P raw_fields fields → t ≡ term.Con d k types fields → IsTermLayer P (RawKind-F.Con d k raw_types raw_fields) t
    call : {raw : RawFun} {f : Fun} {raw_funs : List RawFun} {funs : List Fun} {raw_args : List RawTerm} {args : List Term} {t : Term} → IsFun raw f → AreFuns raw_funs funs → AreTerms P raw_args args → t ≡ term.Call f funs args → IsTermLayer P (RawKind-F.Call raw raw_funs raw_args) t
    choice : {scrutinee : RawTerm} {arms : List RawArm} {on : Term} {d : ℕ} {types : List Ty} {bodies : List Term} {t : Term} → IsTermLayer P (out-RawKind scrutinee.kind) on → AreArms P d bodies arms → AreDistinct (cons_of arms) → length arms ≡ length bodies → t ≡ term.Match on d types bodies → IsTermLayer P (RawKind-F.Match scrutinee arms) t

  -- each written term is the one at its place
  pub data AreTerms (P : Program) : List RawTerm → List Term → Type 0 where
    none : AreTerms P [] []
    more : {raw : RawTerm} {raws : List RawTerm} {t : Term} {ts : List Term} → IsTermLayer P (out-RawKind raw.kind) t → AreTerms P raws ts → AreTerms P (raw ∷ raws) (t ∷ ts)

  -- each arm is one of this datatype, and its body is the one at its constructor's place
  pub data AreArms (P : Program) : ℕ → List Term → List RawArm → Type 0 where
    no_arm : {d : ℕ} {bodies : List Term} → AreArms P d bodies []
    arm : {d : ℕ} {bodies : List Term} {raw : RawArm} {raws : List RawArm} {body : Term} → raw.datatype ≡ d → HasPattern P raw → slice_get bodies raw.con ≡ Some body → IsTermLayer P (out-RawKind raw.body.kind) body → AreArms P d bodies raws → AreArms P d bodies (raw ∷ raws)

-- the written term is this term
abbrev pub IsTerm : Program → RawTerm → Term → Type 0
IsTerm P raw t = IsTermLayer P (out-RawKind raw.kind) t
