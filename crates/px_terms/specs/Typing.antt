-- Typing: what type a term has at its place.
use Rattle.std.specs.Prelude.{◌≡◌, ◌⊎◌, ℕ, ◌<◌, ◌≤◌, ◌^◌, List, [], ◌∷◌, ◌++◌, length, reverse, map, Option, Some, slice_get, All}
use Rattle.std.specs.Option.{IsSomeAnd}
use Rattle.px_base.specs.declared.limits.TheConstants.{TYPE_NODES, TYPE_DEPTH}
use Rattle.px_base.specs.declared.prop.Prop.{Prop}
use Rattle.px_base.specs.declared.head.Head.{Head}
use Rattle.px_base.specs.declared.head.Head.TheVariants.{Def, Wle, Weq, FnVar}
use Rattle.px_base.specs.PropSets.{HasProp}
use Rattle.px_terms.specs.declared.types.Ty.{Ty, out-Ty}
use Rattle.px_terms.specs.declared.types.Ty.TheVariants as type
use Rattle.px_terms.specs.declared.types.Ty.TheOpen.{Ty-F}
use Rattle.px_terms.specs.declared.types.FnType.{FnType}
use Rattle.px_terms.specs.declared.types.Fun.{Fun}
use Rattle.px_terms.specs.declared.term.Term.{Term, out-Term}
use Rattle.px_terms.specs.declared.term.Term.TheOpen.{Term-F}
use Rattle.px_terms.specs.declared.program.ConDef.{ConDef}
use Rattle.px_terms.specs.declared.program.DataDef.{DataDef}
use Rattle.px_terms.specs.declared.program.Def as definition
use Rattle.px_terms.specs.declared.program.Declared.TheVariants as declared
use Rattle.px_terms.specs.declared.program.Program.{Program}
use Rattle.px_terms.specs.declared.sequent.Context.{Context}
use Rattle.px_terms.specs.Types.{ty_size, ty_depth, ty_instance, tys_instance, fn_type_instance, own_types}
use Rattle.px_terms.specs.Programs.{bool_type, constructor_at}
use Rattle.px_terms.specs.Implied.{Closure, HasAtMost, HasEqual}

mutual
  -- a type over this many type parameters: each datatype is declared and has as many arguments as it takes
  pub data IsTypeLayer (P : Program) (tparams : ℕ) : Ty-F Ty → Type 0 where
    word : IsTypeLayer P tparams Ty-F.Word
    var : {n : ℕ} → n < tparams → IsTypeLayer P tparams (Ty-F.Var n)
    con : {d : ℕ} {args : List Ty} {D : DataDef} → slice_get P.datatypes d ≡ Some D → length args ≡ D.tparams → AreTypes P tparams args → IsTypeLayer P tparams (Ty-F.Con d args)

  -- each is a type
  pub data AreTypes (P : Program) (tparams : ℕ) : List Ty → Type 0 where
    none : AreTypes P tparams []
    more : {T : Ty} {types : List Ty} → IsTypeLayer P tparams (out-Ty T) → AreTypes P tparams types → AreTypes P tparams (T ∷ types)

-- a type over this many type parameters
abbrev pub IsType : Program → ℕ → Ty → Type 0
IsType P tparams T = IsTypeLayer P tparams (out-Ty T)

-- Where a term stands: anywhere, as in a sequent, where there is no place in the text; in the body of this definition; or in
-- a lemma or a replica that stands behind so many obligations.
pub data Place : Type 0 where
  anywhere : Place
  in_body : ℕ → Place
  behind : ℕ → Place

-- the type is within the limits of types that are met in checking
pub record IsSmallMet (T : Ty) : Type 0 where
  pub nodes : ty_size T ≤ TYPE_NODES
  pub depth : ty_depth T ≤ TYPE_DEPTH

-- a type that is met in a declaration is within the limits; elsewhere there are none
abbrev pub IsMet : Place → Ty → Type 0
IsMet anywhere T = Unit {0}
IsMet (in_body n) T = IsSmallMet T
IsMet (behind count) T = IsSmallMet T

-- definition n stands behind at most so many obligations
abbrev pub StandsBefore : Program → ℕ → ℕ → Type 0
StandsBefore P n count = IsSomeAnd (slice_get P.defs n) (λ (D : definition.Def). D.seen ≤ count)

-- What can be called or passed: function f takes these functions and these values, and gives a value of this type. A definition
-- has as many types as it takes put in; the two comparisons are of words; a function variable has the type of its number.
pub data IsFunction (P : Program) (context : Context) : Fun → List FnType → List Ty → Ty → Type 0 where
  of_definition : {n : ℕ} {types params : List Ty} {takes : List FnType} {T : Ty} {D : definition.Def} → slice_get P.defs n ≡ Some D → length types ≡ D.tparams → AreTypes P context.tparams types → takes ≡ map (fn_type_instance types) D.funs → params ≡ tys_instance types D.params → T ≡ ty_instance types D.result → IsFunction P context (record { head = Def n; types = types }) takes params T
  at_most : {T : Ty} → T ≡ bool_type → IsFunction P context (record { head = Wle; types = [] }) [] (type.Word ∷ type.Word ∷ []) T
  equal : {T : Ty} → T ≡ bool_type → IsFunction P context (record { head = Weq; types = [] }) [] (type.Word ∷ type.Word ∷ []) T
  of_variable : {n : ℕ} {params : List Ty} {T : Ty} {F : FnType} → slice_get context.funs n ≡ Some F → params ≡ F.params → T ≡ F.result → IsFunction P context (record { head = FnVar n; types = [] }) [] params T

-- the types are a definition's own type parameters
abbrev pub AreOwnTypes : Program → ℕ → List Ty → Type 0
AreOwnTypes P n types = IsSomeAnd (slice_get P.defs n) (λ (D : definition.Def). types ≡ own_types D.tparams)

-- A function may be called at its place: in a body an earlier definition, or the definition itself at its own type parameters; in
-- a lemma or a replica a definition that stands before it; anywhere else each.
abbrev pub MayCall : Program → Place → Head → List Ty → Type 0
MayCall P anywhere (Def m) types = Unit {0}
MayCall P (in_body n) (Def m) types = (m < n) ⊎ ((m ≡ n) × AreOwnTypes P n types)
MayCall P (behind count) (Def m) types = StandsBefore P m count
MayCall P place Wle types = Unit {0}
MayCall P place Weq types = Unit {0}
MayCall P place (FnVar i) types = Unit {0}

-- a function may be passed at its place: as it may be called, but for the definition itself
abbrev pub MayPass : Program → Place → Head → Type 0
MayPass P anywhere (Def m) = Unit {0}
MayPass P (in_body n) (Def m) = m < n
MayPass P (behind count) (Def m) = StandsBefore P m count
MayPass P place Wle = Unit {0}
MayPass P place Weq = Unit {0}
MayPass P place (FnVar i) = Unit {0}

-- obligation i stands before the place
abbrev pub IsEarlier : Program → Place → ℕ → Type 0
IsEarlier P anywhere i = Unit {0}
IsEarlier P (in_body n) i = IsSomeAnd (slice_get P.defs n) (λ (D : definition.Def). i < D.seen)
IsEarlier P (behind count) i = i < count

-- the property is declared of definition n before the place
pub record IsDeclaredBefore (P : Program) (place : Place) (n : ℕ) (p : Prop) : Type 0 where
  pub number : ℕ
  pub earlier : IsEarlier P place number
  pub stands : slice_get P.declared number ≡ Some (declared.Property n p)

-- the property is said of the function at the place: declared of a definition, built in, or assumed of a function variable
abbrev pub IsSaid : Program → Place → Context → Head → Prop → Type 0
IsSaid P place context (Def n) p = IsDeclaredBefore P place n p
IsSaid P place context Wle p = HasAtMost p
IsSaid P place context Weq p = HasEqual p
IsSaid P place context (FnVar i) p = IsSomeAnd (slice_get context.funs i) (λ (F : FnType). HasProp F.props p)

-- the property is known of the function at the place: said, or implied by what is
abbrev pub IsKnown : Program → Place → Context → Head → Prop → Type 0
IsKnown P place context h = Closure (IsSaid P place context h)

-- The function may stand where one of this type is wanted: it takes no functions, has the type, and is known to have each property.
pub record IsArgument (P : Program) (place : Place) (context : Context) (f : Fun) (wanted : FnType) : Type 0 where
  pub function : IsFunction P context f [] wanted.params wanted.result
  pub may_pass : MayPass P place f.head
  pub types_met : All (IsMet place) f.types
  pub params_met : All (IsMet place) wanted.params
  pub result_met : IsMet place wanted.result
  pub properties : (p : Prop) → HasProp wanted.props p → IsKnown P place context f.head p

-- each function may stand where one of the type at its place is wanted
pub data AreArguments (P : Program) (place : Place) (context : Context) : List Fun → List FnType → Type 0 where
  none : AreArguments P place context [] []
  more : {f : Fun} {fs : List Fun} {wanted : FnType} {takes : List FnType} → IsArgument P place context f wanted → AreArguments P place context fs takes → AreArguments P place context (f ∷ fs) (wanted ∷ takes)

mutual
  -- the layer of a term has the type at this place, where the pattern variables around it have the types `bound`
  pub data HasTypeLayer (P : Program) (place : Place) (context : Context) : List Ty → Term-F Term → Ty → Type 0 where
    free : {bound : List Ty} {n : ℕ} {T : Ty} → slice_get context.vars n ≡ Some (Some T) → IsMet place T → HasTypeLayer P place context bound (Term-F.Free n) T
    bound : {bound : List Ty} {n : ℕ} {T : Ty} → slice_get bound n ≡ Some T → IsMet place T → HasTypeLayer P place context bound (Term-F.Bound n) T
    lit : {bound : List Ty} {w : ℕ} {T : Ty} → w < 2 ^ 64 → T ≡ type.Word → HasTypeLayer P place context bound (Term-F.Lit w) T
    con : {bound : List Ty} {d k : ℕ} {types : List Ty} {fields : List Term} {T : Ty} {c : ConDef} → constructor_at P d k ≡ Some c → IsType P context.tparams T → T ≡ type.Con d types → IsMet place T → HaveTypes P place context bound fields (tys_instance types c.fields) → HasTypeLayer P place context bound (Term-F.Con d k types fields) T
    call : {bound : List Ty} {f : Fun} {funs : List Fun} {args : List Term} {takes : List FnType} {params : List Ty} {T : Ty} → IsFunction P context f takes params T → MayCall P place f.head f.types → All (IsMet place) f.types → IsMet place T → AreArguments P place context funs takes → HaveTypes P place context bound args params → HasTypeLayer P place context bound (Term-F.Call f funs args) T
    choose : {bound : List Ty} {on : Term} {d : ℕ} {types : List Ty} {arms : List Term} {T U : Ty} {D : DataDef} → HasTypeLayer P place context bound (out-Term on) U → U ≡ type.Con d types → slice_get P.datatypes d ≡ Some D → HaveTypesInArms P place context bound types D.cons arms T → HasTypeLayer P place context bound (Term-F.Match on d types arms) T

  -- each term has the type at its place
  pub data HaveTypes (P : Program) (place : Place) (context : Context) : List Ty → List Term → List Ty → Type 0 where
    none : {bound : List Ty} → HaveTypes P place context bound [] []
    more : {bound : List Ty} {t : Term} {ts : List Term} {T : Ty} {types : List Ty} → HasTypeLayer P place context bound (out-Term t) T → HaveTypes P place context bound ts types → HaveTypes P place context bound (t ∷ ts) (T ∷ types)

  -- there is an arm for each constructor, in order, which has the type where the fields are bound
  pub data HaveTypesInArms (P : Program) (place : Place) (context : Context) : List Ty → List Ty → List ConDef → List Term → Ty → Type 0 where
    no_arm : {bound types : List Ty} {T : Ty} → HaveTypesInArms P place context bound types [] [] T
    arm : {bound types : List Ty} {c : ConDef} {cs : List ConDef} {body : Term} {arms : List Term} {T : Ty} → All (IsMet place) (tys_instance types c.fields) → HasTypeLayer P place context (reverse (tys_instance types c.fields) ++ bound) (out-Term body) T → HaveTypesInArms P place context bound types cs arms T → HaveTypesInArms P place context bound types (c ∷ cs) (body ∷ arms) T

-- the term has the type at this place, in this context
abbrev pub HasType : Program → Place → Context → Term → Ty → Type 0
HasType P place context t T = HasTypeLayer P place context [] (out-Term t) T

-- all variables of these types, live
abbrev pub live : List Ty → List (Option Ty)
live types = map (λ (T : Ty). Some T) types
