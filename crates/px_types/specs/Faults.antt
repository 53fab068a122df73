-- The first fault of typing in a written type or term: each part is looked at after the parts before it are typed.
use Rattle.std.specs.Prelude.{◌≡◌, ◌≢◌, ℕ, ◌+◌, ◌<◌, ◌≤◌, ◌^◌, nat_lt, List, [], ◌∷◌, ◌++◌, length, sum, reverse, Option, Some, None, slice_get, if◌then◌else◌, All, Contains}
use Rattle.std.specs.Option.{IsSomeAnd, option_map, option_and_then}
use Rattle.px_base.specs.Largest.{largest}
use Rattle.px_base.specs.PropSets.{HasProp}
use Rattle.px_base.specs.declared.limits.TheConstants.{TYPE_NODES, TYPE_DEPTH}
use Rattle.px_base.specs.declared.prop.Prop.{Prop}
use Rattle.px_base.specs.declared.head.Head.{Head}
use Rattle.px_base.specs.declared.head.Head.TheVariants.{Def, Wle, Weq, FnVar}
use Rattle.px_base.specs.declared.raw.RawTyKind.{RawTyKind}
use Rattle.px_base.specs.declared.raw.RawTyKind.TheVariants as type_kinds
use Rattle.px_base.specs.declared.raw.RawTy.{RawTy, out-RawTy}
use Rattle.px_base.specs.declared.raw.RawTy.TheOpen.{RawTy-F}
use Rattle.px_base.specs.declared.raw.RawTy.TheFolds.{fold-RawTy}
use Rattle.px_base.specs.declared.raw.RawFun.{RawFun}
use Rattle.px_base.specs.declared.raw.RawKind.{RawKind, out-RawKind}
use Rattle.px_base.specs.declared.raw.RawKind.TheOpen.{RawKind-F}
use Rattle.px_base.specs.declared.raw.RawTerm.{RawTerm}
use Rattle.px_base.specs.declared.raw.RawArm.{RawArm}
use Rattle.px_terms.specs.declared.types.Ty.{Ty}
use Rattle.px_terms.specs.declared.types.Ty.TheVariants as type
use Rattle.px_terms.specs.declared.types.FnType.{FnType}
use Rattle.px_terms.specs.declared.types.Fun.{Fun}
use Rattle.px_terms.specs.declared.term.Term.{Term, out-Term}
use Rattle.px_terms.specs.declared.program.ConDef.{ConDef}
use Rattle.px_terms.specs.declared.program.DataDef.{DataDef}
use Rattle.px_terms.specs.declared.program.Def as definition
use Rattle.px_terms.specs.declared.program.Program.{Program}
use Rattle.px_terms.specs.declared.sequent.Context.{Context}
use Rattle.px_terms.specs.Types.{tys_instance}
use Rattle.px_terms.specs.Programs.{constructor_at}
use Rattle.px_terms.specs.Typing.{Place, IsMet, IsFunction, MayCall, MayPass, IsKnown, IsArgument, HasTypeLayer}
use Rattle.px_terms.specs.TypedPrograms.{AreWritten}
use Rattle.px_types.specs.declared.ends.TypeKind.{TypeKind}
use Rattle.px_types.specs.declared.ends.TypeKind.TheVariants.{Mismatch, Arity, ArmMissing, ArmRepeated, LacksProperty, Oversize}
use Rattle.px_types.specs.Written.{AreTys, IsFun, HasPattern, IsTermLayer}

-- A broken rule, and the first byte of the part that breaks it.
pub record Broken : Type 0 where
  pub kind : TypeKind
  pub at : ℕ

-- this rule is broken at this place
abbrev pub breaks : TypeKind → ℕ → Broken
breaks kind at = record { kind = kind; at = at }

-- Where a part stands: the program so far, the place, and what is in scope.
pub record Env : Type 0 where
  pub program : Program
  pub place : Place
  pub context : Context

-- the nodes of a written type
abbrev pub raw_ty_size_step : RawTy-F ℕ → ℕ
raw_ty_size_step layer = 1 + sum layer.args

abbrev pub raw_ty_size : RawTy → ℕ
raw_ty_size = fold-RawTy ℕ raw_ty_size_step

-- the levels of a written type
abbrev pub raw_ty_depth_step : RawTy-F ℕ → ℕ
raw_ty_depth_step layer = 1 + largest layer.args

abbrev pub raw_ty_depth : RawTy → ℕ
raw_ty_depth = fold-RawTy ℕ raw_ty_depth_step

-- the written type is within the limits of types that are met in checking
pub record IsSmallRaw (raw : RawTy) : Type 0 where
  pub nodes : raw_ty_size raw ≤ TYPE_NODES
  pub depth : raw_ty_depth raw ≤ TYPE_DEPTH

-- a written type of this kind takes so many arguments, where it names what is there
abbrev pub ty_count : Program → ℕ → RawTyKind → Option ℕ
ty_count P tparams type_kinds.Word = Some 0
ty_count P tparams (type_kinds.Var n) = if nat_lt n tparams then Some 0 else None
ty_count P tparams (type_kinds.Con d) = option_map (λ (D : DataDef). D.tparams) (slice_get P.datatypes d)

-- The written types are these, and break no rule.
pub record AreRight (P : Program) (tparams : ℕ) (raws : List RawTy) (types : List Ty) : Type 0 where
  pub are : AreTys raws types
  pub written : AreWritten P tparams types

-- the written type has as many arguments as it takes
abbrev pub HasTyCount : Program → ℕ → RawTy → Type 0
HasTyCount P tparams raw = ty_count P tparams (out-RawTy raw).kind ≡ Some (length (out-RawTy raw).args)

mutual
  -- the first fault of a written type: the number of its arguments, then its size, and then the arguments
  pub data BreaksTy (P : Program) (tparams : ℕ) : RawTy → Broken → Type 0 where
    count : {raw : RawTy} {fault : Broken} → ¬ HasTyCount P tparams raw → fault ≡ breaks Arity (out-RawTy raw).at → BreaksTy P tparams raw fault
    size : {raw : RawTy} {fault : Broken} → HasTyCount P tparams raw → ¬ IsSmallRaw raw → fault ≡ breaks Oversize (out-RawTy raw).at → BreaksTy P tparams raw fault
    argument : {raw : RawTy} {fault : Broken} → HasTyCount P tparams raw → IsSmallRaw raw → BreaksTys P tparams (out-RawTy raw).args fault → BreaksTy P tparams raw fault

  -- the first fault of written types, from left to right
  pub data BreaksTys (P : Program) (tparams : ℕ) : List RawTy → Broken → Type 0 where
    here : {raw : RawTy} {raws : List RawTy} {fault : Broken} → BreaksTy P tparams raw fault → BreaksTys P tparams (raw ∷ raws) fault
    later : {raw : RawTy} {raws : List RawTy} {types : List Ty} {fault : Broken} → AreRight P tparams (raw ∷ []) types → BreaksTys P tparams raws fault → BreaksTys P tparams (raw ∷ raws) fault

-- How many types, functions and values are given.
pub record Counts : Type 0 where
  pub types : ℕ
  pub functions : ℕ
  pub values : ℕ

-- what is called takes so many, where it names what is there
abbrev pub counts_of : Env → Head → Option Counts
counts_of E (Def n) = option_map (λ (D : definition.Def). record { types = D.tparams; functions = length D.funs; values = length D.params }) (slice_get E.program.defs n)
counts_of E Wle = Some (record { types = 0; functions = 0; values = 2 })
counts_of E Weq = Some (record { types = 0; functions = 0; values = 2 })
counts_of E (FnVar i) = option_map (λ (F : FnType). record { types = 0; functions = 0; values = length F.params }) (slice_get E.context.funs i)

-- a constructor takes so many types and fields, where it is there
abbrev pub con_counts : Program → ℕ → ℕ → Option (ℕ × ℕ)
con_counts P d k = option_and_then (λ (D : DataDef). option_map (λ (c : ConDef). (D.tparams, length c.fields)) (slice_get D.cons k)) (slice_get P.datatypes d)

-- the data variable is live
abbrev pub IsLive : Context → ℕ → Type 0
IsLive context n = (T : Ty) × (slice_get context.vars n ≡ Some (Some T))

-- A term has what it takes of types, functions and parts, and names what is there; nothing is written after a variable.
abbrev pub HasCounts : Env → List Ty → RawKind-F RawKind RawArm RawTerm → Type 0
HasCounts E bound (RawKind-F.Free n types) = (types ≡ []) × IsLive E.context n
HasCounts E bound (RawKind-F.Bound n types) = (types ≡ []) × (n < length bound)
HasCounts E bound (RawKind-F.Lit w) = w < 2 ^ 64
HasCounts E bound (RawKind-F.Con d k types fields) = con_counts E.program d k ≡ Some (length types, length fields)
HasCounts E bound (RawKind-F.Call f funs args) = counts_of E f.head ≡ Some (record { types = length f.types; functions = length funs; values = length args })
HasCounts E bound (RawKind-F.Match on arms) = Unit {0}

-- the types that are written in a term itself
abbrev pub written_types : RawKind-F RawKind RawArm RawTerm → List RawTy
written_types (RawKind-F.Free n types) = []
written_types (RawKind-F.Bound n types) = []
written_types (RawKind-F.Lit w) = []
written_types (RawKind-F.Con d k types fields) = types
written_types (RawKind-F.Call f funs args) = f.types
written_types (RawKind-F.Match on arms) = []

-- The term has its counts, and its written types are these, which break no rule.
pub record Begins (E : Env) (bound : List Ty) (layer : RawKind-F RawKind RawArm RawTerm) (types : List Ty) : Type 0 where
  pub counts : HasCounts E bound layer
  pub written : AreRight E.program E.context.tparams (written_types layer) types

-- The layer of a written term is this term, of this type.
pub record IsTyped (E : Env) (bound : List Ty) (layer : RawKind-F RawKind RawArm RawTerm) (t : Term) (T : Ty) : Type 0 where
  pub is : IsTermLayer E.program layer t
  pub has : HasTypeLayer E.program E.place E.context bound (out-Term t) T

-- each written term is typed, and has the type at its place
pub data AreTyped (E : Env) (bound : List Ty) : List RawTerm → List Ty → Type 0 where
  none : AreTyped E bound [] []
  more : {raw : RawTerm} {raws : List RawTerm} {t : Term} {T : Ty} {types : List Ty} → IsTyped E bound (out-RawKind raw.kind) t T → AreTyped E bound raws types → AreTyped E bound (raw ∷ raws) (T ∷ types)

-- the types of a function's parameters and result
abbrev pub types_of_function : List Ty → Ty → List Ty
types_of_function params result = result ∷ params

-- each type of a function type is within the limits that hold at the place
abbrev pub IsFunctionMet : Env → List Ty → Ty → Type 0
IsFunctionMet E params result = All (IsMet E.place) (types_of_function params result)

-- a function may be passed, and has as many types as it takes
abbrev pub HasArgumentCount : Env → RawFun → Type 0
HasArgumentCount E raw = MayPass E.program E.place raw.head × IsSomeAnd (counts_of E raw.head) (λ (c : Counts). c.types ≡ length raw.types)

-- The function argument is this one, whose written types break no rule and which has this type and takes these functions.
pub record IsFunctionOf (E : Env) (raw : RawFun) (f : Fun) (takes : List FnType) (params : List Ty) (T : Ty) : Type 0 where
  pub is : IsFun raw f
  pub written : AreWritten E.program E.context.tparams f.types
  pub function : IsFunction E.program E.context f takes params T

-- The function that is called is this one, which may be called here, takes these functions and values, and gives a value of this type.
pub record IsCalled (E : Env) (raw : RawFun) (f : Fun) (takes : List FnType) (params : List Ty) (T : Ty) : Type 0 where
  pub is : IsFun raw f
  pub function : IsFunction E.program E.context f takes params T
  pub may_call : MayCall E.program E.place f.head f.types

-- the first fault of a function argument where one of this type is wanted: what it should have, its number of types, these types, its
-- own type's size, and then what it is against what is wanted
pub data BreaksArgument (E : Env) (raw : RawFun) (wanted : FnType) : Broken → Type 0 where
  wanted_size : {fault : Broken} → ¬ IsFunctionMet E wanted.params wanted.result → fault ≡ breaks Oversize raw.at → BreaksArgument E raw wanted fault
  count : {fault : Broken} → IsFunctionMet E wanted.params wanted.result → ¬ HasArgumentCount E raw → fault ≡ breaks Arity raw.at → BreaksArgument E raw wanted fault
  types : {fault : Broken} → IsFunctionMet E wanted.params wanted.result → HasArgumentCount E raw → BreaksTys E.program E.context.tparams raw.types fault → BreaksArgument E raw wanted fault
  own_size : {fault : Broken} {f : Fun} {takes : List FnType} {params : List Ty} {T : Ty} → IsFunctionMet E wanted.params wanted.result → HasArgumentCount E raw → IsFunctionOf E raw f takes params T → ¬ IsFunctionMet E params T → fault ≡ breaks Oversize raw.at → BreaksArgument E raw wanted fault
  other : {fault : Broken} {f : Fun} {takes : List FnType} {params : List Ty} {T : Ty} → IsFunctionMet E wanted.params wanted.result → HasArgumentCount E raw → IsFunctionOf E raw f takes params T → IsFunctionMet E params T → ¬ IsFunction E.program E.context f [] wanted.params wanted.result → fault ≡ breaks Mismatch raw.at → BreaksArgument E raw wanted fault
  property : {fault : Broken} {f : Fun} {p : Prop} → IsFunctionMet E wanted.params wanted.result → HasArgumentCount E raw → IsFunctionOf E raw f [] wanted.params wanted.result → HasProp wanted.props p → ¬ IsKnown E.program E.place E.context raw.head p → fault ≡ breaks LacksProperty raw.at → BreaksArgument E raw wanted fault

-- The function argument may stand where one of this type is wanted.
pub record IsRightArgument (E : Env) (raw : RawFun) (wanted : FnType) : Type 0 where
  pub f : Fun
  pub is : IsFun raw f
  pub argument : IsArgument E.program E.place E.context f wanted

-- the first fault of function arguments, from left to right
pub data BreaksArguments (E : Env) : List RawFun → List FnType → Broken → Type 0 where
  here : {raw : RawFun} {raws : List RawFun} {wanted : FnType} {takes : List FnType} {fault : Broken} → BreaksArgument E raw wanted fault → BreaksArguments E (raw ∷ raws) (wanted ∷ takes) fault
  later : {raw : RawFun} {raws : List RawFun} {wanted : FnType} {takes : List FnType} {fault : Broken} → IsRightArgument E raw wanted → BreaksArguments E raws takes fault → BreaksArguments E (raw ∷ raws) (wanted ∷ takes) fault

-- each function argument may stand where one of the type at its place is wanted
pub data AreRightArguments (E : Env) : List RawFun → List FnType → Type 0 where
  none : AreRightArguments E [] []
  more : {raw : RawFun} {raws : List RawFun} {wanted : FnType} {takes : List FnType} → IsRightArgument E raw wanted → AreRightArguments E raws takes → AreRightArguments E (raw ∷ raws) (wanted ∷ takes)

-- the first variable of a pattern whose type is over the limits
pub data BreaksVariables (E : Env) : List ℕ → List Ty → Broken → Type 0 where
  here : {at : ℕ} {vars : List ℕ} {T : Ty} {types : List Ty} {fault : Broken} → ¬ IsMet E.place T → fault ≡ breaks Oversize at → BreaksVariables E (at ∷ vars) (T ∷ types) fault
  later : {at : ℕ} {vars : List ℕ} {T : Ty} {types : List Ty} {fault : Broken} → IsMet E.place T → BreaksVariables E vars types fault → BreaksVariables E (at ∷ vars) (T ∷ types) fault

-- The type is a datatype of the program.
pub record IsDatatype (P : Program) (T : Ty) : Type 0 where
  pub number : ℕ
  pub types : List Ty
  pub datatype : DataDef
  pub stands : slice_get P.datatypes number ≡ Some datatype
  pub same : T ≡ type.Con number types

-- What the arms so far have shown: their constructors, and the type of the first body.
pub record Shown : Type 0 where
  pub cons : List ℕ
  pub T : Option Ty

-- the type is that of the first arm, where there was one
abbrev pub Agrees : Option Ty → Ty → Type 0
Agrees None T = Unit {0}
Agrees (Some first) T = T ≡ first

-- The arm's pattern is right: as many variables as fields, a constructor of the datatype, which has no arm yet, with these fields.
pub record IsPattern (E : Env) (d : ℕ) (types : List Ty) (shown : Shown) (arm : RawArm) (fields : List Ty) : Type 0 where
  pub con : ConDef
  pub count : HasPattern E.program arm
  pub datatype : arm.datatype ≡ d
  pub stands : constructor_at E.program d arm.con ≡ Some con
  pub once : ¬ Contains shown.cons arm.con
  pub are_fields : fields ≡ tys_instance types con.fields

mutual
  -- The first fault of a term's layer, which begins at this byte: its counts, its written types, its parts from left to right, and then
  -- its own type's size.
  pub data Breaks (E : Env) : List Ty → ℕ → RawKind-F RawKind RawArm RawTerm → Broken → Type 0 where
    counts : {bound : List Ty} {at : ℕ} {layer : RawKind-F RawKind RawArm RawTerm} {fault : Broken} → ¬ HasCounts E bound layer → fault ≡ breaks Arity at → Breaks E bound at layer fault
    types : {bound : List Ty} {at : ℕ} {layer : RawKind-F RawKind RawArm RawTerm} {fault : Broken} → HasCounts E bound layer → BreaksTys E.program E.context.tparams (written_types layer) fault → Breaks E bound at layer fault
    free_size : {bound : List Ty} {at n : ℕ} {T : Ty} {fault : Broken} → slice_get E.context.vars n ≡ Some (Some T) → ¬ IsMet E.place T → fault ≡ breaks Oversize at → Breaks E bound at (RawKind-F.Free n []) fault
    bound_size : {bound : List Ty} {at n : ℕ} {T : Ty} {fault : Broken} → slice_get bound n ≡ Some T → ¬ IsMet E.place T → fault ≡ breaks Oversize at → Breaks E bound at (RawKind-F.Bound n []) fault
    among_fields : {bound : List Ty} {at d k : ℕ} {raw_types : List RawTy} {types : List Ty} {fields : List RawTerm} {con : ConDef} {fault : Broken} → Begins E bound (RawKind-F.Con d k raw_types fields) types → constructor_at E.program d k ≡ Some con → BreaksParts E bound fields (tys_instance types con.fields) fault → Breaks E bound at (RawKind-F.Con d k raw_types fields) fault
    con_size : {bound : List Ty} {at d k : ℕ} {raw_types : List RawTy} {types : List Ty} {fields : List RawTerm} {con : ConDef} {fault : Broken} → Begins E bound (RawKind-F.Con d k raw_types fields) types → constructor_at E.program d k ≡ Some con → AreTyped E bound fields (tys_instance types con.fields) → ¬ IsMet E.place (type.Con d types) → fault ≡ breaks Oversize at → Breaks E bound at (RawKind-F.Con d k raw_types fields) fault
    own_types : {bound : List Ty} {at : ℕ} {raw : RawFun} {types : List Ty} {funs : List RawFun} {args : List RawTerm} {fault : Broken} → Begins E bound (RawKind-F.Call raw funs args) types → ¬ MayCall E.program E.place raw.head types → fault ≡ breaks Mismatch at → Breaks E bound at (RawKind-F.Call raw funs args) fault
    among_functions : {bound : List Ty} {at : ℕ} {raw : RawFun} {f : Fun} {funs : List RawFun} {args : List RawTerm} {takes : List FnType} {params : List Ty} {T : Ty} {fault : Broken} → Begins E bound (RawKind-F.Call raw funs args) f.types → IsCalled E raw f takes params T → BreaksArguments E funs takes fault → Breaks E bound at (RawKind-F.Call raw funs args) fault
    among_arguments : {bound : List Ty} {at : ℕ} {raw : RawFun} {f : Fun} {funs : List RawFun} {args : List RawTerm} {takes : List FnType} {params : List Ty} {T : Ty} {fault : Broken} → Begins E bound (RawKind-F.Call raw funs args) f.types → IsCalled E raw f takes params T → AreRightArguments E funs takes → BreaksParts E bound args params fault → Breaks E bound at (RawKind-F.Call raw funs args) fault
    call_size : {bound : List Ty} {at : ℕ} {raw : RawFun} {f : Fun} {funs : List RawFun} {args : List RawTerm} {takes : List FnType} {params : List Ty} {T : Ty} {fault : Broken} → Begins E bound (RawKind-F.Call raw funs args) f.types → IsCalled E raw f takes params T → AreRightArguments E funs takes → AreTyped E bound args params → ¬ IsMet E.place T → fault ≡ breaks Oversize at → Breaks E bound at (RawKind-F.Call raw funs args) fault
    in_scrutinee : {bound : List Ty} {at : ℕ} {on : RawTerm} {arms : List RawArm} {fault : Broken} → Breaks E bound on.at (out-RawKind on.kind) fault → Breaks E bound at (RawKind-F.Match on arms) fault
    no_datatype : {bound : List Ty} {at : ℕ} {on : RawTerm} {t : Term} {U : Ty} {arms : List RawArm} {fault : Broken} → IsTyped E bound (out-RawKind on.kind) t U → ¬ IsDatatype E.program U → fault ≡ breaks Mismatch on.at → Breaks E bound at (RawKind-F.Match on arms) fault
    among_arms : {bound : List Ty} {at d : ℕ} {types : List Ty} {on : RawTerm} {t : Term} {arms : List RawArm} {D : DataDef} {fault : Broken} → IsTyped E bound (out-RawKind on.kind) t (type.Con d types) → slice_get E.program.datatypes d ≡ Some D → BreaksArms E bound at d types (record { cons = []; T = None }) arms fault → Breaks E bound at (RawKind-F.Match on arms) fault

  -- the first fault of parts, from left to right: the size of the type that a part should have, the part, and then its own type
  pub data BreaksParts (E : Env) : List Ty → List RawTerm → List Ty → Broken → Type 0 where
    wanted_size : {bound : List Ty} {raw : RawTerm} {raws : List RawTerm} {T : Ty} {types : List Ty} {fault : Broken} → ¬ IsMet E.place T → fault ≡ breaks Oversize raw.at → BreaksParts E bound (raw ∷ raws) (T ∷ types) fault
    in_part : {bound : List Ty} {raw : RawTerm} {raws : List RawTerm} {T : Ty} {types : List Ty} {fault : Broken} → IsMet E.place T → Breaks E bound raw.at (out-RawKind raw.kind) fault → BreaksParts E bound (raw ∷ raws) (T ∷ types) fault
    other_type : {bound : List Ty} {raw : RawTerm} {raws : List RawTerm} {t : Term} {T U : Ty} {types : List Ty} {fault : Broken} → IsMet E.place T → IsTyped E bound (out-RawKind raw.kind) t U → U ≢ T → fault ≡ breaks Mismatch raw.at → BreaksParts E bound (raw ∷ raws) (T ∷ types) fault
    later_part : {bound : List Ty} {raw : RawTerm} {raws : List RawTerm} {t : Term} {T : Ty} {types : List Ty} {fault : Broken} → IsTyped E bound (out-RawKind raw.kind) t T → BreaksParts E bound raws types fault → BreaksParts E bound (raw ∷ raws) (T ∷ types) fault

  -- The first fault of the arms of a match that begins at this byte, on datatype d at these types: of each arm the pattern, its
  -- variables, the body, and then the body's type; after all arms, that a constructor has none.
  pub data BreaksArms (E : Env) : List Ty → ℕ → ℕ → List Ty → Shown → List RawArm → Broken → Type 0 where
    pattern_count : {bound : List Ty} {at d : ℕ} {types : List Ty} {shown : Shown} {arm : RawArm} {arms : List RawArm} {fault : Broken} → ¬ HasPattern E.program arm → fault ≡ breaks Arity arm.at → BreaksArms E bound at d types shown (arm ∷ arms) fault
    other_datatype : {bound : List Ty} {at d : ℕ} {types : List Ty} {shown : Shown} {arm : RawArm} {arms : List RawArm} {fault : Broken} → HasPattern E.program arm → arm.datatype ≢ d → fault ≡ breaks Mismatch arm.at → BreaksArms E bound at d types shown (arm ∷ arms) fault
    repeated : {bound : List Ty} {at d : ℕ} {types : List Ty} {shown : Shown} {arm : RawArm} {arms : List RawArm} {fault : Broken} → HasPattern E.program arm → arm.datatype ≡ d → Contains shown.cons arm.con → fault ≡ breaks ArmRepeated arm.at → BreaksArms E bound at d types shown (arm ∷ arms) fault
    in_variables : {bound : List Ty} {at d : ℕ} {types fields : List Ty} {shown : Shown} {arm : RawArm} {arms : List RawArm} {fault : Broken} → IsPattern E d types shown arm fields → BreaksVariables E arm.vars fields fault → BreaksArms E bound at d types shown (arm ∷ arms) fault
    in_arm : {bound : List Ty} {at d : ℕ} {types fields : List Ty} {shown : Shown} {arm : RawArm} {arms : List RawArm} {fault : Broken} → IsPattern E d types shown arm fields → All (IsMet E.place) fields → Breaks E (reverse fields ++ bound) arm.body.at (out-RawKind arm.body.kind) fault → BreaksArms E bound at d types shown (arm ∷ arms) fault
    disagrees : {bound : List Ty} {at d : ℕ} {types fields : List Ty} {shown : Shown} {arm : RawArm} {arms : List RawArm} {t : Term} {T : Ty} {fault : Broken} → IsPattern E d types shown arm fields → All (IsMet E.place) fields → IsTyped E (reverse fields ++ bound) (out-RawKind arm.body.kind) t T → ¬ Agrees shown.T T → fault ≡ breaks Mismatch arm.body.at → BreaksArms E bound at d types shown (arm ∷ arms) fault
    later_arm : {bound : List Ty} {at d : ℕ} {types fields : List Ty} {shown : Shown} {arm : RawArm} {arms : List RawArm} {t : Term} {T : Ty} {fault : Broken} → IsPattern E d types shown arm fields → All (IsMet E.place) fields → IsTyped E (reverse fields ++ bound) (out-RawKind arm.body.kind) t T → Agrees shown.T T → BreaksArms E bound at d types (record { cons = arm.con ∷ shown.cons; T = Some T }) arms fault → BreaksArms E bound at d types shown (arm ∷ arms) fault
    missing : {bound : List Ty} {at d k : ℕ} {types : List Ty} {shown : Shown} {D : DataDef} {fault : Broken} → slice_get E.program.datatypes d ≡ Some D → k < length D.cons → ¬ Contains shown.cons k → fault ≡ breaks ArmMissing at → BreaksArms E bound at d types shown [] fault
