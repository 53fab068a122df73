-- What is found of a written type, function or term: what it is, or its first broken rule, in the order of the rules.
use Rattle.std.specs.Prelude.{ℕ, ◌+◌, ◌^◌, ◌==◌, nat_lt, nat_le, Bool, true, false, not, ◌&&◌, ◌||◌, List, [], ◌∷◌, ◌++◌, length, map, sum, reverse, replicate, take, Option, Some, None, Result, Ok, Err, slice_get, slice_set, if◌then◌else◌}
use Rattle.std.specs.List.{list_all, list_any}
use Rattle.std.specs.Option.{option_map, option_and_then}
use Rattle.px_base.specs.Largest.{largest}
use Rattle.px_base.specs.PropSets.{prop_number, has_prop, all_props}
use Rattle.px_base.specs.declared.limits.TheConstants.{TYPE_NODES, TYPE_DEPTH}
use Rattle.px_base.specs.declared.prop.Prop.{Prop}
use Rattle.px_base.specs.declared.prop.Prop.TheVariants.{Comm, Assoc, Idem, Sel, Refl, Irrefl, Sym, Antisym, Asym, Trans, Conn}
use Rattle.px_base.specs.declared.prop.PropSet.{PropSet}
use Rattle.px_base.specs.declared.head.Head.{Head}
use Rattle.px_base.specs.declared.head.Head.TheVariants.{Def, Wle, Weq, FnVar}
use Rattle.px_base.specs.declared.raw.RawTyKind.{RawTyKind}
use Rattle.px_base.specs.declared.raw.RawTyKind.TheVariants as type_kinds
use Rattle.px_base.specs.declared.raw.RawTy.{RawTy}
use Rattle.px_base.specs.declared.raw.RawTy.TheOpen.{RawTy-F}
use Rattle.px_base.specs.declared.raw.RawTy.TheFolds.{para-RawTy}
use Rattle.px_base.specs.declared.raw.RawFun.{RawFun}
use Rattle.px_base.specs.declared.raw.RawKind.TheOpen.{RawKind-F, RawArm-F, RawTerm-F}
use Rattle.px_base.specs.declared.raw.RawKind.TheFolds.{fold-RawTerm}
use Rattle.px_base.specs.declared.raw.RawTerm.{RawTerm}
use Rattle.px_terms.specs.declared.types.Ty.{Ty, out-Ty}
use Rattle.px_terms.specs.declared.types.Ty.TheVariants as type
use Rattle.px_terms.specs.declared.types.Ty.TheOpen.{Ty-F}
use Rattle.px_terms.specs.declared.types.Ty.TheFolds.{fold-Ty}
use Rattle.px_terms.specs.declared.types.FnType.{FnType}
use Rattle.px_terms.specs.declared.types.Fun.{Fun}
use Rattle.px_terms.specs.declared.term.Term.{Term}
use Rattle.px_terms.specs.declared.term.Term.TheVariants as term
use Rattle.px_terms.specs.declared.program.ConDef.{ConDef}
use Rattle.px_terms.specs.declared.program.DataDef.{DataDef}
use Rattle.px_terms.specs.declared.program.Def as definition
use Rattle.px_terms.specs.declared.program.Declared.{Declared}
use Rattle.px_terms.specs.declared.program.Declared.TheVariants as declared
use Rattle.px_terms.specs.declared.program.Program.{Program}
use Rattle.px_terms.specs.Types.{ty_size, ty_depth, ty_instance, tys_instance, fn_type_instance, own_types}
use Rattle.px_terms.specs.Programs.{bool_type, constructor_at}
use Rattle.px_terms.specs.Typing.{Place, anywhere, in_body, behind}
use Rattle.px_types.specs.declared.ends.TypeKind.TheVariants.{Mismatch, Arity, ArmMissing, ArmRepeated, LacksProperty, Oversize}
use Rattle.px_types.specs.declared.typed.Typed.{Typed}
use Rattle.px_types.specs.declared.typed.Slots.{Slots}
use Rattle.px_types.specs.Faults.{Broken, Env, Counts, counts_of, con_counts, types_of_function, ty_count, raw_ty_size, raw_ty_depth}
use Rattle.px_types.specs.Outcomes.{◌>>=◌, needs, there, each, each_two, along}

-- a type of this kind, with these arguments
abbrev pub ty_of : RawTyKind → List Ty → Ty
ty_of type_kinds.Word args = type.Word
ty_of (type_kinds.Var n) args = type.Var n
ty_of (type_kinds.Con d) args = type.Con d args

-- the count is this one
abbrev pub is_count : Option ℕ → ℕ → Bool
is_count None n = false
is_count (Some m) n = m == n

-- so many nodes and levels are within the limits of types that are met
abbrev pub is_small : ℕ → ℕ → Bool
is_small nodes depth = nat_le nodes TYPE_NODES && nat_le depth TYPE_DEPTH

-- the nodes and levels of a written type with these arguments are within the limits
abbrev pub is_small_over : List RawTy → Bool
is_small_over args = is_small (1 + sum (map raw_ty_size args)) (1 + largest (map raw_ty_depth args))

-- a written type: its number of arguments, its size, and then the arguments
abbrev pub ty_found_step : Program → ℕ → RawTy-F (RawTy × Result Ty Broken) → Result Ty Broken
ty_found_step P tparams layer = do
  _ ← needs (is_count (ty_count P tparams layer.kind) (length layer.args)) Arity layer.at
  _ ← needs (is_small_over (map (λ (a : RawTy × Result Ty Broken). a.0) layer.args)) Oversize layer.at
  args ← each (λ (a : RawTy × Result Ty Broken). a.1) layer.args
  Ok (ty_of layer.kind args)

-- what is found of a written type
unfoldable pub ty_found : Program → ℕ → RawTy → Result Ty Broken
ty_found P tparams raw = para-RawTy (Result Ty Broken) (ty_found_step P tparams) raw

-- what is found of written types
unfoldable pub tys_found : Program → ℕ → List RawTy → Result (List Ty) Broken
tys_found P tparams raws = each (ty_found P tparams) raws

-- each test holds of the item at its place, and there are as many tests as items
abbrev pub pass_all : {X : Type 0} → List (X → Bool) → List X → Bool
pass_all [] [] = true
pass_all [] (x ∷ xs) = false
pass_all (t ∷ ts) [] = false
pass_all (t ∷ ts) (x ∷ xs) = t x && pass_all ts xs

-- the layers of two types are the same, where the arguments of the one test those of the other
abbrev pub same_layer : Ty-F (Ty → Bool) → Ty-F Ty → Bool
same_layer Ty-F.Word Ty-F.Word = true
same_layer Ty-F.Word (Ty-F.Var n) = false
same_layer Ty-F.Word (Ty-F.Con e args) = false
same_layer (Ty-F.Var m) Ty-F.Word = false
same_layer (Ty-F.Var m) (Ty-F.Var n) = m == n
same_layer (Ty-F.Var m) (Ty-F.Con e args) = false
same_layer (Ty-F.Con d tests) Ty-F.Word = false
same_layer (Ty-F.Con d tests) (Ty-F.Var n) = false
same_layer (Ty-F.Con d tests) (Ty-F.Con e args) = d == e && pass_all tests args

-- the type has this layer
abbrev pub same_step : Ty-F (Ty → Bool) → Ty → Bool
same_step layer T = same_layer layer (out-Ty T)

-- the types are one
unfoldable pub same : Ty → Ty → Bool
same T = fold-Ty (Ty → Bool) same_step T

-- the lists have the same types in the same order
unfoldable pub same_all : List Ty → List Ty → Bool
same_all types others = pass_all (map same types) others

-- the type is within the limits that hold at the place
unfoldable pub is_met : Place → Ty → Bool
is_met anywhere T = true
is_met (in_body n) T = is_small (ty_size T) (ty_depth T)
is_met (behind count) T = is_small (ty_size T) (ty_depth T)

-- each type of a function type is within the limits that hold at the place
unfoldable pub is_function_met : Env → List Ty → Ty → Bool
is_function_met E params result = list_all (is_met E.place) (types_of_function params result)

-- The functions and values that a function takes, and the type of what it gives.
pub record Signature : Type 0 where
  pub takes : List FnType
  pub params : List Ty
  pub result : Ty

-- what is called, at these types, where it names what is there
unfoldable pub signature_of : Env → Head → List Ty → Option Signature
signature_of E (Def n) types = option_map (λ (D : definition.Def). record { takes = map (fn_type_instance types) D.funs; params = tys_instance types D.params; result = ty_instance types D.result }) (slice_get E.program.defs n)
signature_of E Wle types = Some (record { takes = []; params = type.Word ∷ type.Word ∷ []; result = bool_type })
signature_of E Weq types = Some (record { takes = []; params = type.Word ∷ type.Word ∷ []; result = bool_type })
signature_of E (FnVar i) types = option_map (λ (F : FnType). record { takes = []; params = F.params; result = F.result }) (slice_get E.context.funs i)

-- a definition that is there passes the test
abbrev pub passes : {X : Type 0} → (X → Bool) → Option X → Bool
passes test None = false
passes test (Some x) = test x

-- definition m stands behind at most so many obligations
abbrev pub stands_before : Program → ℕ → ℕ → Bool
stands_before P m count = passes (λ (D : definition.Def). nat_le D.seen count) (slice_get P.defs m)

-- the types are definition n's own type parameters
abbrev pub are_own : Program → ℕ → List Ty → Bool
are_own P n types = passes (λ (D : definition.Def). same_all types (own_types D.tparams)) (slice_get P.defs n)

-- the function may be called at the place
unfoldable pub may_call : Program → Place → Head → List Ty → Bool
may_call P anywhere (Def m) types = true
may_call P (in_body n) (Def m) types = nat_lt m n || (m == n && are_own P n types)
may_call P (behind count) (Def m) types = stands_before P m count
may_call P place Wle types = true
may_call P place Weq types = true
may_call P place (FnVar i) types = true

-- the function may be passed at the place
unfoldable pub may_pass : Program → Place → Head → Bool
may_pass P anywhere (Def m) = true
may_pass P (in_body n) (Def m) = nat_lt m n
may_pass P (behind count) (Def m) = stands_before P m count
may_pass P place Wle = true
may_pass P place Weq = true
may_pass P place (FnVar i) = true

-- the obligations before the place
abbrev pub obligations_before : Program → Place → List Declared
obligations_before P anywhere = P.declared
obligations_before P (in_body n) = elim (slice_get P.defs n) [ None ↦ [] | Some D ↦ take D.seen P.declared ]
obligations_before P (behind count) = take count P.declared

-- the properties are one
abbrev pub same_prop : Prop → Prop → Bool
same_prop p q = prop_number p == prop_number q

-- the obligation is this property of definition n
abbrev pub is_property_of : ℕ → Prop → Declared → Bool
is_property_of n p (declared.Property m q) = m == n && same_prop q p
is_property_of n p (declared.Lemma m) = false

-- the property is one of these
abbrev pub is_among : List Prop → Prop → Bool
is_among props p = list_any (same_prop p) props

-- the property is said of the function at the place
abbrev pub is_said : Env → Head → Prop → Bool
is_said E (Def n) p = list_any (is_property_of n p) (obligations_before E.program E.place)
is_said E Wle p = is_among (Refl ∷ Antisym ∷ Trans ∷ Conn ∷ []) p
is_said E Weq p = is_among (Refl ∷ Sym ∷ Antisym ∷ Trans ∷ []) p
is_said E (FnVar i) p = passes (λ (F : FnType). has_prop F.props p) (slice_get E.context.funs i)

-- the property is in the closure of these
abbrev pub is_implied : (Prop → Bool) → Prop → Bool
is_implied has Comm = has Comm
is_implied has Assoc = has Assoc
is_implied has Idem = has Idem || has Sel
is_implied has Sel = has Sel
is_implied has Refl = has Refl || has Conn
is_implied has Irrefl = has Irrefl || has Asym
is_implied has Sym = has Sym
is_implied has Antisym = has Antisym || (has Asym || (has Irrefl && has Trans))
is_implied has Asym = has Asym || (has Irrefl && has Trans)
is_implied has Trans = has Trans
is_implied has Conn = has Conn

-- each property of the set is known of the function at the place
unfoldable pub has_wanted : Env → Head → PropSet → Bool
has_wanted E h wanted = list_all (λ (p : Prop). not (has_prop wanted p) || is_implied (is_said E h) p) all_props

-- a function may be passed, and has as many types as it takes
unfoldable pub has_argument_count : Env → RawFun → Bool
has_argument_count E raw = may_pass E.program E.place raw.head && passes (λ (c : Counts). c.types == length raw.types) (counts_of E raw.head)

-- the function takes no functions, and has the wanted type
unfoldable pub is_alike : Signature → FnType → Bool
is_alike own wanted = length own.takes == 0 && (same_all own.params wanted.params && same own.result wanted.result)

-- what is found of a function argument, where one of this type is wanted
unfoldable pub argument_found : Env → RawFun → FnType → Result Fun Broken
argument_found E raw wanted = do
  _ ← needs (is_function_met E wanted.params wanted.result) Oversize raw.at
  _ ← needs (has_argument_count E raw) Arity raw.at
  types ← tys_found E.program E.context.tparams raw.types
  own ← there (signature_of E raw.head types) Arity raw.at
  _ ← needs (is_function_met E own.params own.result) Oversize raw.at
  _ ← needs (is_alike own wanted) Mismatch raw.at
  _ ← needs (has_wanted E raw.head wanted.props) LacksProperty raw.at
  Ok (record { head = raw.head; types = types })

-- what is found of function arguments, where those of these types are wanted
unfoldable pub arguments_found : Env → List RawFun → List FnType → Result (List Fun) Broken
arguments_found E raws takes = each_two (argument_found E) raws takes

-- What is found of a part, by the types of the pattern variables around it, and where it stands.
pub record Part : Type 0 where
  pub at : ℕ
  pub own : List Ty → Result Typed Broken

-- An arm, with what is found of its body.
pub record ArmPart : Type 0 where
  pub at : ℕ
  pub datatype : ℕ
  pub con : ℕ
  pub vars : List ℕ
  pub body : Part

-- a part that should have this type: its size, the part, and then its own type
unfoldable pub part_found : Env → List Ty → Part → Ty → Result Term Broken
part_found E bound part wanted = do
  _ ← needs (is_met E.place wanted) Oversize part.at
  found ← part.own bound
  _ ← needs (same found.ty wanted) Mismatch part.at
  Ok found.term

-- a variable of this type
unfoldable pub variable_found : Env → Term → Option Ty → List RawTy → ℕ → Result Typed Broken
variable_found E t stands types at = do
  _ ← needs (length types == 0) Arity at
  T ← there stands Arity at
  _ ← needs (is_met E.place T) Oversize at
  Ok (record { term = t; ty = T })

-- there are so many types and fields, as the constructor takes
unfoldable pub has_con_counts : Option (ℕ × ℕ) → ℕ → ℕ → Bool
has_con_counts counts types fields = passes (λ (c : ℕ × ℕ). c.0 == types && c.1 == fields) counts

-- there are so many types, functions and values, as what is called takes
unfoldable pub has_counts : Option Counts → ℕ → ℕ → ℕ → Bool
has_counts counts types functions values = passes (λ (c : Counts). c.types == types && (c.functions == functions && c.values == values)) counts

-- a construction: its counts, its types, its fields, and then its own type's size
unfoldable pub con_found : Env → List Ty → ℕ → ℕ → ℕ → List RawTy → List Part → Result Typed Broken
con_found E bound at d k raw_types parts = do
  _ ← needs (has_con_counts (con_counts E.program d k) (length raw_types) (length parts)) Arity at
  types ← tys_found E.program E.context.tparams raw_types
  c ← there (constructor_at E.program d k) Arity at
  fields ← each_two (part_found E bound) parts (tys_instance types c.fields)
  _ ← needs (is_met E.place (type.Con d types)) Oversize at
  Ok (record { term = term.Con d k types fields; ty = type.Con d types })

-- a call: its counts, its types, whether it may stand here, its functions, its values, and then its own type's size
unfoldable pub call_found : Env → List Ty → ℕ → RawFun → List RawFun → List Part → Result Typed Broken
call_found E bound at f raw_funs parts = do
  _ ← needs (has_counts (counts_of E f.head) (length f.types) (length raw_funs) (length parts)) Arity at
  types ← tys_found E.program E.context.tparams f.types
  _ ← needs (may_call E.program E.place f.head types) Mismatch at
  s ← there (signature_of E f.head types) Arity at
  funs ← arguments_found E raw_funs s.takes
  args ← each_two (part_found E bound) parts s.params
  _ ← needs (is_met E.place s.result) Oversize at
  Ok (record { term = term.Call (record { head = f.head; types = types }) funs args; ty = s.result })

-- What a scrutinee is of: a declared datatype, with its number, at these types.
pub record Chosen : Type 0 where
  pub number : ℕ
  pub types : List Ty
  pub datatype : DataDef

-- the datatype of a layer, where it is one that is declared
abbrev pub chosen_of : Program → Ty-F Ty → Option Chosen
chosen_of P Ty-F.Word = None
chosen_of P (Ty-F.Var n) = None
chosen_of P (Ty-F.Con d types) = option_map (λ (D : DataDef). record { number = d; types = types; datatype = D }) (slice_get P.datatypes d)

-- the constructor of the pattern, where it has as many fields as the pattern has variables
unfoldable pub pattern_of : Program → ArmPart → Option ConDef
pattern_of P arm = option_and_then (λ (c : ConDef). if length arm.vars == length c.fields then Some c else None) (constructor_at P arm.datatype arm.con)

-- the constructor has no arm yet
unfoldable pub is_open : Slots → ℕ → Bool
is_open slots k = passes (λ (slot : Option Term). elim slot [ None ↦ true | Some t ↦ false ]) (slice_get slots.bodies k)

-- the type is that of the first arm, where there was one
unfoldable pub agrees : Option Ty → Ty → Bool
agrees None T = true
agrees (Some first) T = same T first

-- a pattern's variable has a type within the limits
unfoldable pub variable_met : Env → ℕ → Ty → Result (Unit {0}) Broken
variable_met E at T = needs (is_met E.place T) Oversize at

-- an arm: its pattern, its variables, its body, and then the body's type
unfoldable pub arm_found : Env → List Ty → Chosen → Slots → ArmPart → Result Slots Broken
arm_found E bound on slots arm = do
  c ← there (pattern_of E.program arm) Arity arm.at
  _ ← needs (arm.datatype == on.number) Mismatch arm.at
  _ ← needs (is_open slots arm.con) ArmRepeated arm.at
  _ ← each_two (variable_met E) arm.vars (tys_instance on.types c.fields)
  found ← arm.body.own (reverse (tys_instance on.types c.fields) ++ bound)
  _ ← needs (agrees slots.ty found.ty) Mismatch arm.body.at
  Ok (record { ty = Some found.ty; bodies = slice_set slots.bodies arm.con (Some found.term) })

-- the bodies, where each constructor has one
unfoldable pub all_filled : List (Option Term) → Option (List Term)
all_filled [] = Some []
all_filled (None ∷ slots) = None
all_filled (Some t ∷ slots) = option_map (λ (ts : List Term). t ∷ ts) (all_filled slots)

-- no constructor has an arm yet
abbrev pub no_arms : DataDef → Slots
no_arms D = record { ty = None; bodies = replicate (length D.cons) None }

-- a match: its scrutinee, its arms in the order of the text, and then whether each constructor has one
unfoldable pub match_found : Env → List Ty → ℕ → Part → List ArmPart → Result Typed Broken
match_found E bound at scrutinee arms = do
  found ← scrutinee.own bound
  on ← there (chosen_of E.program (out-Ty found.ty)) Mismatch scrutinee.at
  slots ← along (arm_found E bound on) (no_arms on.datatype) arms
  bodies ← there (all_filled slots.bodies) ArmMissing at
  T ← there slots.ty ArmMissing at
  Ok (record { term = term.Match found.term on.number on.types bodies; ty = T })

-- a live variable's type
abbrev pub type_of_variable : Env → ℕ → Option Ty
type_of_variable E n = option_and_then (λ (slot : Option Ty). slot) (slice_get E.context.vars n)

-- what is found of a kind of term
abbrev pub kind_found : Env → RawKind-F (ℕ → List Ty → Result Typed Broken) ArmPart Part → ℕ → List Ty → Result Typed Broken
kind_found E (RawKind-F.Free n types) at bound = variable_found E (term.Free n) (type_of_variable E n) types at
kind_found E (RawKind-F.Bound n types) at bound = variable_found E (term.Bound n) (slice_get bound n) types at
kind_found E (RawKind-F.Lit w) at bound = do
  _ ← needs (nat_lt w (2 ^ 64)) Arity at
  Ok (record { term = term.Lit w; ty = type.Word })
kind_found E (RawKind-F.Con d k types fields) at bound = con_found E bound at d k types fields
kind_found E (RawKind-F.Call f funs args) at bound = call_found E bound at f funs args
kind_found E (RawKind-F.Match on arms) at bound = match_found E bound at on arms

-- an arm with what is found of its body
abbrev pub arm_step : RawArm-F (ℕ → List Ty → Result Typed Broken) ArmPart Part → ArmPart
arm_step arm = record { at = arm.at; datatype = arm.datatype; con = arm.con; vars = arm.vars; body = arm.body }

-- a term with its place
abbrev pub term_step : RawTerm-F (ℕ → List Ty → Result Typed Broken) ArmPart Part → Part
term_step t = record { at = t.at; own = t.kind t.at }

-- a written term with what is found of it
unfoldable pub part_of : Env → RawTerm → Part
part_of E raw = fold-RawTerm (ℕ → List Ty → Result Typed Broken) ArmPart Part (kind_found E) arm_step term_step raw

-- what is found of a written term, by the types of the pattern variables around it, the innermost first
unfoldable pub term_found : Env → RawTerm → List Ty → Result Typed Broken
term_found E raw bound = (part_of E raw).own bound

-- what is found of written terms that should have these types
unfoldable pub parts_found : Env → List Ty → List RawTerm → List Ty → Result (List Term) Broken
parts_found E bound raws types = each_two (part_found E bound) (map (part_of E) raws) types
