-- What the check of types asks of a program whose names are numbers: each number stands for something that is declared before
-- its place and may stand there, the lists can be counted by words of 32 bits, and types and terms nest within the limit.
use Rattle.std.specs.Prelude.{◌≡◌, ℕ, suc, ◌+◌, ◌<◌, ◌^◌, ◌==◌, List, [], ◌∷◌, ◌++◌, map, sum, length, Option, Some, None, All, if◌then◌else◌}
use Rattle.std.specs.List.{slice_get, flat_map}
use Rattle.px_base.specs.declared.limits.TheConstants.{WRITTEN_DEPTH}
use Rattle.px_base.specs.declared.head.Head.{Head}
use Rattle.px_base.specs.declared.head.Head.TheVariants.{Def, Wle, Weq, FnVar}
use Rattle.px_base.specs.declared.raw.Decl.{Decl}
use Rattle.px_base.specs.declared.raw.Decl.TheVariants as decl
use Rattle.px_base.specs.declared.raw.RawTyKind.{RawTyKind}
use Rattle.px_base.specs.declared.raw.RawTyKind.TheVariants.{Word, Var, Con}
use Rattle.px_base.specs.declared.raw.RawTy.{RawTy, out-RawTy}
use Rattle.px_base.specs.declared.raw.RawProp.{RawProp}
use Rattle.px_base.specs.declared.raw.RawFun.{RawFun}
use Rattle.px_base.specs.declared.raw.RawKind.{RawKind, out-RawKind}
use Rattle.px_base.specs.declared.raw.RawKind.TheOpen.{RawKind-F}
use Rattle.px_base.specs.declared.raw.RawTerm.{RawTerm}
use Rattle.px_base.specs.declared.raw.RawArm.{RawArm}
use Rattle.px_base.specs.declared.raw.RawCon.{RawCon}
use Rattle.px_base.specs.declared.raw.RawData.{RawData}
use Rattle.px_base.specs.declared.raw.RawFnType.{RawFnType}
use Rattle.px_base.specs.declared.raw.RawDef.{RawDef}
use Rattle.px_base.specs.declared.raw.RawClaim.{RawClaim}
use Rattle.px_base.specs.declared.raw.RawEquation.{RawEquation}
use Rattle.px_base.specs.declared.raw.RawLemma.{RawLemma}
use Rattle.px_base.specs.declared.raw.RawReplica.{RawReplica}
use Rattle.px_base.specs.declared.raw.RawProgram.{RawProgram}
use Rattle.px_base.specs.Distinct.{AreDistinct}

-- How many declarations of each kind stand before a place.
pub record Counts : Type 0 where
  pub datatypes : ℕ
  pub defs : ℕ
  pub claims : ℕ
  pub lemmas : ℕ
  pub replicas : ℕ

-- What may be named at a place: the numbers below these; of definitions `called` may be called, and `passed` may be passed as
-- an argument. `own` is the datatype that is being declared there, where one is.
pub record Range : Type 0 where
  pub datatypes : ℕ
  pub own : Option ℕ
  pub called : ℕ
  pub passed : ℕ
  pub tparams : ℕ
  pub functions : ℕ
  pub values : ℕ

-- the list can be counted by a word of 32 bits
abbrev pub IsShort : {T : Type 0} → List T → Type 0
IsShort xs = length xs < 2 ^ 32

-- what a type names may be named
abbrev pub IsTyKindIn : Range → RawTyKind → Type 0
IsTyKindIn R Word = Unit {0}
IsTyKindIn R (Var n) = n < R.tparams
IsTyKindIn R (Con n) = n < R.datatypes

-- the types are type parameters in order, from this one to the last, each written without arguments
pub data AreParametersFrom : ℕ → ℕ → List RawTy → Type 0 where
  last : {n : ℕ} → AreParametersFrom n n []
  next : {n last : ℕ} {t : RawTy} {ts : List RawTy} → (out-RawTy t).kind ≡ Var n → (out-RawTy t).args ≡ [] →
      AreParametersFrom (n + 1) last ts → AreParametersFrom n last (t ∷ ts)

-- the datatype that is being declared has its own type parameters as arguments, in order
abbrev pub AreArgumentsIn : Range → RawTyKind → List RawTy → Type 0
AreArgumentsIn R Word args = Unit {0}
AreArgumentsIn R (Var n) args = Unit {0}
AreArgumentsIn R (Con n) args = R.own ≡ Some n → AreParametersFrom 0 R.tparams args

mutual
  -- the type has at most so many levels, and names what may be named
  pub data IsTypeIn (R : Range) : ℕ → RawTy → Type 0 where
    ranged : {most room : ℕ} {t : RawTy} → most ≡ suc room → IsTyKindIn R (out-RawTy t).kind →
        AreArgumentsIn R (out-RawTy t).kind (out-RawTy t).args → IsShort (out-RawTy t).args →
        AreTypesIn R room (out-RawTy t).args → IsTypeIn R most t

  -- so does each of the types
  pub data AreTypesIn (R : Range) : ℕ → List RawTy → Type 0 where
    no_types : {most : ℕ} → AreTypesIn R most []
    more_types : {most : ℕ} {t : RawTy} {ts : List RawTy} → IsTypeIn R most t → AreTypesIn R most ts → AreTypesIn R most (t ∷ ts)

-- The constructor may be named: its datatype may, which has so many constructors.
pub record IsConstructorIn (P : RawProgram) (R : Range) (d k : ℕ) : Type 0 where
  pub declared : RawData
  pub below : d < R.datatypes
  pub stands : slice_get P.datatypes d ≡ Some declared
  pub has : k < length declared.cons

-- the function may be called
abbrev pub IsCalledIn : Range → Head → Type 0
IsCalledIn R (Def n) = n < R.called
IsCalledIn R Wle = Unit {0}
IsCalledIn R Weq = Unit {0}
IsCalledIn R (FnVar n) = n < R.functions

-- The function that is called, and its types, with at most so many levels.
pub record IsFunIn (R : Range) (most : ℕ) (f : RawFun) : Type 0 where
  pub head : IsCalledIn R f.head
  pub few : IsShort f.types
  pub types : AreTypesIn R most f.types

-- The definition may be an argument: it may be passed, and has no function parameters.
pub record IsPassedIn (P : RawProgram) (R : Range) (n : ℕ) : Type 0 where
  pub declared : RawDef
  pub below : n < R.passed
  pub stands : slice_get P.defs n ≡ Some declared
  pub first_order : declared.funs ≡ []

-- the function may be an argument
abbrev pub IsHeadIn : RawProgram → Range → Head → Type 0
IsHeadIn P R (Def n) = IsPassedIn P R n
IsHeadIn P R Wle = Unit {0}
IsHeadIn P R Weq = Unit {0}
IsHeadIn P R (FnVar n) = n < R.functions

-- The function argument, and its types, with at most so many levels.
pub record IsArgumentIn (P : RawProgram) (R : Range) (most : ℕ) (f : RawFun) : Type 0 where
  pub head : IsHeadIn P R f.head
  pub few : IsShort f.types
  pub types : AreTypesIn R most f.types

-- The function argument in a term, where it has one level more than its types.
pub record IsArgumentBelow (P : RawProgram) (R : Range) (most : ℕ) (f : RawFun) : Type 0 where
  pub room : ℕ
  pub level : most ≡ suc room
  pub function : IsArgumentIn P R room f

mutual
  -- a term of this kind has at most so many levels, and names what may be named where so many variables of patterns are bound
  pub data IsTermIn (P : RawProgram) (R : Range) : ℕ → ℕ → RawKind-F RawKind RawArm RawTerm → Type 0 where
    free : {most room bound n : ℕ} {types : List RawTy} → most ≡ suc room → n < R.values → IsShort types → AreTypesIn R room types →
        IsTermIn P R most bound (RawKind-F.Free n types)
    pattern : {most room bound n : ℕ} {types : List RawTy} → most ≡ suc room → n < bound → IsShort types → AreTypesIn R room types →
        IsTermIn P R most bound (RawKind-F.Bound n types)
    literal : {most room bound w : ℕ} → most ≡ suc room → IsTermIn P R most bound (RawKind-F.Lit w)
    construction : {most room bound d k : ℕ} {types : List RawTy} {fields : List RawTerm} → most ≡ suc room → IsConstructorIn P R d k →
        IsShort types → AreTypesIn R room types → IsShort fields → AreTermsIn P R room bound fields →
        IsTermIn P R most bound (RawKind-F.Con d k types fields)
    call : {most room bound : ℕ} {fun : RawFun} {funs : List RawFun} {args : List RawTerm} → most ≡ suc room → IsFunIn R room fun →
        IsShort funs → All (IsArgumentBelow P R room) funs → IsShort args → AreTermsIn P R room bound args →
        IsTermIn P R most bound (RawKind-F.Call fun funs args)
    choice : {most room bound : ℕ} {on : RawTerm} {arms : List RawArm} → most ≡ suc room → IsTermIn P R room bound (out-RawKind on.kind) →
        IsShort arms → AreArmsIn P R room bound arms → IsTermIn P R most bound (RawKind-F.Match on arms)

  -- so does each of the terms
  pub data AreTermsIn (P : RawProgram) (R : Range) : ℕ → ℕ → List RawTerm → Type 0 where
    no_terms : {most bound : ℕ} → AreTermsIn P R most bound []
    more_terms : {most bound : ℕ} {t : RawTerm} {ts : List RawTerm} → IsTermIn P R most bound (out-RawKind t.kind) → AreTermsIn P R most bound ts →
        AreTermsIn P R most bound (t ∷ ts)

  -- so does each of the arms: in its body the variables of its pattern are bound too
  pub data AreArmsIn (P : RawProgram) (R : Range) : ℕ → ℕ → List RawArm → Type 0 where
    no_arms : {most bound : ℕ} → AreArmsIn P R most bound []
    more_arms : {most bound : ℕ} {a : RawArm} {arms : List RawArm} → IsConstructorIn P R a.datatype a.con → IsShort a.vars →
        IsTermIn P R most (bound + length a.vars) (out-RawKind a.body.kind) → AreArmsIn P R most bound arms → AreArmsIn P R most bound (a ∷ arms)

-- the term is in the range, with at most WRITTEN_DEPTH levels
abbrev pub IsWholeTermIn : RawProgram → Range → RawTerm → Type 0
IsWholeTermIn P R t = IsTermIn P R WRITTEN_DEPTH 0 (out-RawKind t.kind)

mutual
  -- a replica's first value is built of constructors and literals alone
  pub data IsGround : RawKind-F RawKind RawArm RawTerm → Type 0 where
    literal : {w : ℕ} → IsGround (RawKind-F.Lit w)
    construction : {d k : ℕ} {types : List RawTy} {fields : List RawTerm} → AreGround fields → IsGround (RawKind-F.Con d k types fields)

  -- so is each of the terms
  pub data AreGround : List RawTerm → Type 0 where
    none : AreGround []
    more : {t : RawTerm} {ts : List RawTerm} → IsGround (out-RawKind t.kind) → AreGround ts → AreGround (t ∷ ts)

-- no property is written twice
abbrev pub AreProperties : List RawProp → Type 0
AreProperties props = AreDistinct (map (λ (p : RawProp). p.prop) props)

-- what types may name
abbrev pub type_range : ℕ → ℕ → Range
type_range datatypes tparams = record { datatypes = datatypes; own = None; called = 0; passed = 0; tparams = tparams; functions = 0; values = 0 }

-- what the constructors of a datatype may name: the datatype too
abbrev pub own_range : Counts → RawData → Range
own_range C raw = record (type_range (C.datatypes + 1) raw.tparams) { own = Some C.datatypes }

-- The fields of a constructor are in the range.
pub record IsConIn (R : Range) (raw : RawCon) : Type 0 where
  pub few : IsShort raw.fields
  pub fields : AreTypesIn R WRITTEN_DEPTH raw.fields

-- The datatype has a constructor, and its fields are in the range, in which it stands itself.
pub record IsDataIn (C : Counts) (raw : RawData) : Type 0 where
  pub some : 0 < length raw.cons
  pub few : IsShort raw.cons
  pub cons : All (IsConIn (own_range C raw)) raw.cons

-- The function type is in the range.
pub record IsFnTypeIn (R : Range) (raw : RawFnType) : Type 0 where
  pub few_params : IsShort raw.params
  pub params : AreTypesIn R WRITTEN_DEPTH raw.params
  pub result : IsTypeIn R WRITTEN_DEPTH raw.result
  pub few_props : IsShort raw.props
  pub props : AreProperties raw.props

-- The types of functions and of values are in the range.
pub record AreParametersIn (R : Range) (funs : List RawFnType) (types : List RawTy) : Type 0 where
  pub few_functions : IsShort funs
  pub functions : All (IsFnTypeIn R) funs
  pub few_values : IsShort types
  pub values : AreTypesIn R WRITTEN_DEPTH types

-- what the body of a definition may name: its functions and its parameters, and in call position the definition too
abbrev pub body_range : Counts → RawDef → Range
body_range C raw = record { datatypes = C.datatypes; own = None; called = C.defs + 1; passed = C.defs; tparams = raw.tparams; functions = length raw.funs; values = length raw.params }

-- The definition's signature and body are in the range.
pub record IsDefIn (P : RawProgram) (C : Counts) (raw : RawDef) : Type 0 where
  pub parameters : AreParametersIn (type_range C.datatypes raw.tparams) raw.funs raw.params
  pub result : IsTypeIn (type_range C.datatypes raw.tparams) WRITTEN_DEPTH raw.result
  pub body : IsWholeTermIn P (body_range C raw) raw.body
  pub few_props : IsShort raw.props

-- The claim is of a definition before it.
pub record IsClaimIn (C : Counts) (raw : RawClaim) : Type 0 where
  pub below : raw.def < C.defs
  pub few_props : IsShort raw.props

-- Both sides are in the range.
pub record IsEquationIn (P : RawProgram) (R : Range) (raw : RawEquation) : Type 0 where
  pub left : IsWholeTermIn P R raw.left
  pub right : IsWholeTermIn P R raw.right

-- what the equations of a lemma may name: its functions and its variables too
abbrev pub lemma_range : Counts → RawLemma → Range
lemma_range C raw = record { datatypes = C.datatypes; own = None; called = C.defs; passed = C.defs; tparams = raw.tparams; functions = length raw.funs; values = length raw.vars }

-- The lemma's signature and equations are in the range.
pub record IsLemmaIn (P : RawProgram) (C : Counts) (raw : RawLemma) : Type 0 where
  pub parameters : AreParametersIn (type_range C.datatypes raw.tparams) raw.funs raw.vars
  pub few_premises : IsShort raw.premises
  pub premises : All (IsEquationIn P (lemma_range C raw)) raw.premises
  pub conclusion : IsEquationIn P (lemma_range C raw) raw.conclusion

-- what a replica may name: datatypes and definitions alone
abbrev pub replica_range : Counts → Range
replica_range C = record { datatypes = C.datatypes; own = None; called = C.defs; passed = C.defs; tparams = 0; functions = 0; values = 0 }

-- The replica's parts are in the range, and its first value is built of constructors and literals alone.
pub record IsReplicaIn (P : RawProgram) (C : Counts) (raw : RawReplica) : Type 0 where
  pub state : IsTypeIn (replica_range C) WRITTEN_DEPTH raw.state
  pub from : IsWholeTermIn P (replica_range C) raw.from
  pub ground : IsGround (out-RawKind raw.from.kind)
  pub merge : IsFunIn (replica_range C) WRITTEN_DEPTH raw.merge
  pub few_funs : IsShort raw.funs
  pub funs : All (IsArgumentIn P (replica_range C) WRITTEN_DEPTH) raw.funs

-- These are all declarations of the program.
pub record AreAll (P : RawProgram) (C : Counts) : Type 0 where
  pub datatypes : C.datatypes ≡ length P.datatypes
  pub defs : C.defs ≡ length P.defs
  pub claims : C.claims ≡ length P.claims
  pub lemmas : C.lemmas ≡ length P.lemmas
  pub replicas : C.replicas ≡ length P.replicas

-- These declarations are those of the program that are left after so many, each once, those of a kind in their order, and each
-- names what stands before it.
pub data AreInOrder (P : RawProgram) : Counts → List Decl → Type 0 where
  done : {C : Counts} → AreAll P C → AreInOrder P C []
  datatype : {C : Counts} {n : ℕ} {raw : RawData} {rest : List Decl} → n ≡ C.datatypes → slice_get P.datatypes n ≡ Some raw → IsDataIn C raw →
      AreInOrder P (record C { datatypes = C.datatypes + 1 }) rest → AreInOrder P C (decl.Datatype n ∷ rest)
  definition : {C : Counts} {n : ℕ} {raw : RawDef} {rest : List Decl} → n ≡ C.defs → slice_get P.defs n ≡ Some raw → IsDefIn P C raw →
      AreInOrder P (record C { defs = C.defs + 1 }) rest → AreInOrder P C (decl.Definition n ∷ rest)
  claim : {C : Counts} {n : ℕ} {raw : RawClaim} {rest : List Decl} → n ≡ C.claims → slice_get P.claims n ≡ Some raw → IsClaimIn C raw →
      AreInOrder P (record C { claims = C.claims + 1 }) rest → AreInOrder P C (decl.Claim n ∷ rest)
  lemma : {C : Counts} {n : ℕ} {raw : RawLemma} {rest : List Decl} → n ≡ C.lemmas → slice_get P.lemmas n ≡ Some raw → IsLemmaIn P C raw →
      AreInOrder P (record C { lemmas = C.lemmas + 1 }) rest → AreInOrder P C (decl.Lemma n ∷ rest)
  replica : {C : Counts} {n : ℕ} {raw : RawReplica} {rest : List Decl} → n ≡ C.replicas → slice_get P.replicas n ≡ Some raw → IsReplicaIn P C raw →
      AreInOrder P (record C { replicas = C.replicas + 1 }) rest → AreInOrder P C (decl.Replica n ∷ rest)

-- `Bool` alone stands before the first declaration
abbrev pub bool_alone : Counts
bool_alone = record { datatypes = 1; defs = 0; claims = 0; lemmas = 0; replicas = 0 }

-- the properties that a claim adds to definition n
abbrev pub claimed_of : ℕ → RawClaim → List RawProp
claimed_of n raw = if raw.def == n then raw.props else []

-- all properties that are declared of definition n: its own, and then those that are claimed
abbrev pub properties_of : RawProgram → ℕ → RawDef → List RawProp
properties_of P n raw = raw.props ++ flat_map (claimed_of n) P.claims

-- Each declaration has a name, and each constructor.
pub record HasNames (P : RawProgram) : Type 0 where
  pub datatypes : length P.names.datatypes ≡ length P.datatypes
  pub cons : length P.names.cons ≡ length P.datatypes
  pub constructors : (n : ℕ) (raw : RawData) (own : List (List ℕ)) → slice_get P.datatypes n ≡ Some raw → slice_get P.names.cons n ≡ Some own →
      length own ≡ length raw.cons
  pub defs : length P.names.defs ≡ length P.defs
  pub lemmas : length P.names.lemmas ≡ length P.lemmas
  pub replicas : length P.names.replicas ≡ length P.replicas

-- how many properties these definitions have
abbrev pub def_props : List RawDef → ℕ
def_props defs = sum (map (λ (raw : RawDef). length raw.props) defs)

-- how many properties are claimed
abbrev pub claim_props : List RawClaim → ℕ
claim_props claims = sum (map (λ (raw : RawClaim). length raw.props) claims)

-- how many obligations a program has: one for each property and for each lemma
abbrev pub obligation_count : RawProgram → ℕ
obligation_count P = def_props P.defs + claim_props P.claims + length P.lemmas

-- the declaration of `Bool`, as a written one
abbrev pub raw_bool : RawData
raw_bool = record { at = 0; tparams = 0; cons = record { at = 0; fields = [] } ∷ record { at = 0; fields = [] } ∷ [] }

-- The lists of declarations can be counted by words of 32 bits.
pub record AreShort (P : RawProgram) : Type 0 where
  pub order : IsShort P.order
  pub datatypes : IsShort P.datatypes
  pub defs : IsShort P.defs
  pub claims : IsShort P.claims
  pub lemmas : IsShort P.lemmas
  pub replicas : IsShort P.replicas

-- The program is as the check of types asks for it.
pub record IsFitting (P : RawProgram) : Type 0 where
  pub short : AreShort P
  pub bool : slice_get P.datatypes 0 ≡ Some raw_bool
  pub order : AreInOrder P bool_alone P.order
  pub properties : (n : ℕ) (raw : RawDef) → slice_get P.defs n ≡ Some raw → AreProperties (properties_of P n raw)
  pub named : HasNames P
  pub few : obligation_count P < 2 ^ 32
