-- What is found of a declaration: the program with it, or its first broken rule, in the order of the rules. What it says of types and
-- properties comes first, and then its terms.
use Rattle.std.specs.Prelude.{ℕ, ◌+◌, ◌==◌, nat_le, Bool, true, false, ◌&&◌, List, [], ◌∷◌, length, reverse, Option, Some, None, Result, Ok, Err, slice_get, if◌then◌else◌}
use Rattle.std.specs.Option.{option_map}
use Rattle.px_base.specs.PropSets.{set_of}
use Rattle.px_base.specs.declared.limits.TheConstants.{CLAUSE_VARIABLES, PREMISES}
use Rattle.px_base.specs.declared.prop.Prop.{Prop}
use Rattle.px_base.specs.declared.prop.Prop.TheVariants.{Comm, Assoc, Idem, Sel, Refl, Irrefl, Sym, Antisym, Asym, Trans, Conn}
use Rattle.px_base.specs.declared.head.Head.{Head}
use Rattle.px_base.specs.declared.head.Head.TheVariants.{Def, Wle, Weq, FnVar}
use Rattle.px_base.specs.declared.raw.Decl.{Decl}
use Rattle.px_base.specs.declared.raw.Decl.TheVariants as decl
use Rattle.px_base.specs.declared.raw.RawProp.{RawProp}
use Rattle.px_base.specs.declared.raw.RawFnType.{RawFnType}
use Rattle.px_base.specs.declared.raw.RawCon.{RawCon}
use Rattle.px_base.specs.declared.raw.RawData.{RawData}
use Rattle.px_base.specs.declared.raw.RawDef.{RawDef}
use Rattle.px_base.specs.declared.raw.RawClaim.{RawClaim}
use Rattle.px_base.specs.declared.raw.RawEquation.{RawEquation}
use Rattle.px_base.specs.declared.raw.RawLemma.{RawLemma}
use Rattle.px_base.specs.declared.raw.RawReplica.{RawReplica}
use Rattle.px_base.specs.declared.raw.RawProgram.{RawProgram}
use Rattle.px_terms.specs.declared.types.Ty.{Ty}
use Rattle.px_terms.specs.declared.types.Ty.TheVariants as type
use Rattle.px_terms.specs.declared.types.FnType.{FnType}
use Rattle.px_terms.specs.declared.term.Term.TheVariants as term
use Rattle.px_terms.specs.declared.clause.Equation.{Equation}
use Rattle.px_terms.specs.declared.program.ConDef.{ConDef}
use Rattle.px_terms.specs.declared.program.Def as definition
use Rattle.px_terms.specs.declared.program.Program.{Program}
use Rattle.px_terms.specs.Programs.{bool_type}
use Rattle.px_terms.specs.Typing.{behind, live}
use Rattle.px_types.specs.declared.ends.TypeKind.TheVariants.{Arity, PropertyShape, NotJoin, Oversize}
use Rattle.px_types.specs.Written.{props_of}
use Rattle.px_types.specs.Faults.{Broken, Env, Counts, counts_of}
use Rattle.px_types.specs.Declarations.{start, with_datatype, with_definition, with_obligations, with_lemma, with_replica, without_constructors, obligations_of, body_env, replica_env}
use Rattle.px_types.specs.Outcomes.{◌>>=◌, needs, there, each, along}
use Rattle.px_types.specs.Outcome.{Signature, signature_of, ty_found, tys_found, arguments_found, has_wanted, part_of, part_found, term_found, passes, same, same_all}

-- what is found of a written function type
unfoldable pub fn_type_found : Program → ℕ → RawFnType → Result FnType Broken
fn_type_found P tparams raw = do
  params ← tys_found P tparams raw.params
  result ← ty_found P tparams raw.result
  Ok (record { params = params; result = result; props = set_of (props_of raw.props) })

-- what is found of written function types
unfoldable pub fn_types_found : Program → ℕ → List RawFnType → Result (List FnType) Broken
fn_types_found P tparams raws = each (fn_type_found P tparams) raws

-- The type of a function's last two parameters, which is one, and how many stand before them.
pub record Pair : Type 0 where
  pub leading : ℕ
  pub last : Ty

-- the pair of these types, the last one first
abbrev pub reversed_pair : List Ty → Option Pair
reversed_pair [] = None
reversed_pair (T ∷ []) = None
reversed_pair (T ∷ U ∷ leading) = if same U T then Some (record { leading = length leading; last = T }) else None

-- the pair of a function's parameters, where the last two have one type
abbrev pub pair_of : List Ty → Option Pair
pair_of params = reversed_pair (reverse params)

-- how many of x, y and z the property names
abbrev pub named : Prop → ℕ
named Comm = 2
named Assoc = 3
named Idem = 1
named Sel = 2
named Refl = 1
named Irrefl = 1
named Sym = 2
named Antisym = 2
named Asym = 2
named Trans = 3
named Conn = 2

-- the result's type is as the property asks, where the last two parameters have this type
abbrev pub is_asked : Prop → Ty → Ty → Bool
is_asked Comm last result = true
is_asked Assoc last result = same result last
is_asked Idem last result = same result last
is_asked Sel last result = same result last
is_asked Refl last result = same result bool_type
is_asked Irrefl last result = same result bool_type
is_asked Sym last result = same result bool_type
is_asked Antisym last result = same result bool_type
is_asked Asym last result = same result bool_type
is_asked Trans last result = same result bool_type
is_asked Conn last result = same result bool_type

-- the types of the parameters and of the result of what is named, where `funs` are the types of the function variables in scope
abbrev pub shape_of : Program → List FnType → Head → Option (List Ty × Ty)
shape_of P funs (Def n) = option_map (λ (D : definition.Def). (D.params, D.result)) (slice_get P.defs n)
shape_of P funs Wle = Some (type.Word ∷ type.Word ∷ [], bool_type)
shape_of P funs Weq = Some (type.Word ∷ type.Word ∷ [], bool_type)
shape_of P funs (FnVar i) = option_map (λ (F : FnType). (F.params, F.result)) (slice_get funs i)

-- the property fits these last two parameters and this result, and its clause has few enough variables
abbrev pub fits_pair : Prop → Ty → Pair → Bool
fits_pair p result pair = is_asked p pair.last result && nat_le (pair.leading + named p) CLAUSE_VARIABLES

-- the property fits the type of what is named, and its clause has few enough variables
unfoldable pub fits : Program → List FnType → Head → Prop → Bool
fits P funs h p = passes (λ (s : List Ty × Ty). passes (fits_pair p s.1) (pair_of s.0)) (shape_of P funs h)

-- a property of what is named
unfoldable pub prop_found : Program → List FnType → Head → RawProp → Result (Unit {0}) Broken
prop_found P funs h raw = needs (fits P funs h raw.prop) PropertyShape raw.at

-- properties of what is named, from left to right
unfoldable pub props_found : Program → List FnType → Head → List RawProp → Result (Unit {0}) Broken
props_found P funs h [] = Ok tt
props_found P funs h (raw ∷ raws) = do
  _ ← prop_found P funs h raw
  props_found P funs h raws

-- the properties that are assumed of function variables, from number i on
unfoldable pub assumed_found : Program → List FnType → ℕ → List RawFnType → Result (Unit {0}) Broken
assumed_found P funs i [] = Ok tt
assumed_found P funs i (F ∷ rest) = do
  _ ← props_found P funs (FnVar i) F.props
  assumed_found P funs (i + 1) rest

-- what is found of a written constructor
unfoldable pub constructor_found : Program → ℕ → RawCon → Result ConDef Broken
constructor_found P tparams raw = do
  fields ← tys_found P tparams raw.fields
  Ok (record { fields = fields })

-- a datatype: the fields of its constructors, where the datatype itself may be named
unfoldable pub datatype_found : Program → RawData → Result Program Broken
datatype_found P d = do
  cons ← each (constructor_found (with_datatype P (without_constructors d)) d.tparams) d.cons
  Ok (with_datatype P (record { tparams = d.tparams; cons = cons }))

-- the types of a definition's signature; its body is a literal so far
unfoldable pub heading_found : Program → RawDef → Result definition.Def Broken
heading_found P d = do
  funs ← fn_types_found P d.tparams d.funs
  params ← tys_found P d.tparams d.params
  result ← ty_found P d.tparams d.result
  Ok (record { tparams = d.tparams; funs = funs; params = params; result = result; body = term.Lit 0; seen = length P.declared })

-- a definition's signature: its types, the properties that it assumes, and its own
unfoldable pub signature_found : Program → RawDef → Result (Unit {0}) Broken
signature_found P d = do
  D ← heading_found P d
  _ ← assumed_found P D.funs 0 d.funs
  props_found (with_definition P D) [] (Def (length P.defs)) d.props

-- a definition whose signature is right: its body, which should have the result's type
unfoldable pub body_found : Program → RawDef → Result Program Broken
body_found P d = do
  D ← heading_found P d
  body ← part_found (body_env P D) [] (part_of (body_env P D) d.body) D.result
  Ok (with_obligations (with_definition P (record D { body = body })) (obligations_of (length P.defs) d.props))

-- a claim: its properties
unfoldable pub claim_found : Program → RawClaim → Result (Unit {0}) Broken
claim_found P c = props_found P [] (Def c.def) c.props

-- The types of a lemma's function variables and of its data variables.
pub record Heading : Type 0 where
  pub funs : List FnType
  pub vars : List Ty

-- the types that stand before a lemma's equations
unfoldable pub lemma_heading_found : Program → RawLemma → Result Heading Broken
lemma_heading_found P l = do
  funs ← fn_types_found P l.tparams l.funs
  vars ← tys_found P l.tparams l.vars
  Ok (record { funs = funs; vars = vars })

-- a lemma has few enough variables and premises
unfoldable pub is_few : RawLemma → Bool
is_few l = nat_le (length l.vars) CLAUSE_VARIABLES && nat_le (length l.premises) PREMISES

-- what stands before a lemma's equations: the numbers, the types, and the properties that it assumes
unfoldable pub variables_found : Program → RawLemma → Result (Unit {0}) Broken
variables_found P l = do
  _ ← needs (is_few l) Oversize l.at
  heading ← lemma_heading_found P l
  assumed_found P heading.funs 0 l.funs

-- an equation: its left side, and then the right one, which should have the left one's type
unfoldable pub equation_found : Env → RawEquation → Result Equation Broken
equation_found E e = do
  left ← term_found E e.left []
  right ← part_found E [] (part_of E e.right) left.ty
  Ok (record { left = left.term; right = right })

-- where the equations of a lemma with this heading stand
abbrev pub heading_env : Program → ℕ → Heading → Env
heading_env P tparams heading = record { program = P; place = behind (length P.declared); context = record { tparams = tparams; funs = heading.funs; vars = live heading.vars } }

-- a lemma whose heading is right: its premises and its conclusion
unfoldable pub equations_found : Program → RawLemma → Result Program Broken
equations_found P l = do
  heading ← lemma_heading_found P l
  premises ← each (equation_found (heading_env P l.tparams heading)) l.premises
  conclusion ← equation_found (heading_env P l.tparams heading) l.conclusion
  Ok (with_lemma P (record { tparams = l.tparams; funs = heading.funs; vars = heading.vars; premises = premises; conclusion = conclusion }))

-- a replica's state: its type
unfoldable pub state_found : Program → RawReplica → Result Ty Broken
state_found P r = ty_found P 0 r.state

-- the merge is given as many types and functions as it takes
unfoldable pub has_merge_counts : Program → RawReplica → Bool
has_merge_counts P r = passes (λ (c : Counts). c.types == length r.merge.types && c.functions == length r.funs) (counts_of (replica_env P) r.merge.head)

-- the function takes two states and gives one, and is known to be commutative, associative and idempotent
unfoldable pub is_joining : Program → Head → Signature → Ty → Bool
is_joining P h s state = same_all s.params (state ∷ state ∷ []) && same s.result state && has_wanted (replica_env P) h (set_of (Comm ∷ Assoc ∷ Idem ∷ []))

-- a replica whose state is right: its first value, and the merge: its counts, its types, its functions, and that it joins
unfoldable pub merge_found : Program → RawReplica → Result Program Broken
merge_found P r = do
  state ← state_found P r
  from ← part_found (replica_env P) [] (part_of (replica_env P) r.from) state
  _ ← needs (has_merge_counts P r) Arity r.merge.at
  types ← tys_found P 0 r.merge.types
  s ← there (signature_of (replica_env P) r.merge.head types) Arity r.merge.at
  funs ← arguments_found (replica_env P) r.funs s.takes
  _ ← needs (is_joining P r.merge.head s state) NotJoin r.merge.at
  Ok (with_replica P (record { state = state; from = from; merge = record { head = r.merge.head; types = types }; funs = funs; seen = length P.declared }))

-- a value that is not looked at
unfoldable pub checked : {T : Type 0} → Result T Broken → Result (Unit {0}) Broken
checked o = do
  _ ← o
  Ok tt

-- what a declaration says of types and properties; one that isn't there says nothing
unfoldable pub types_found : RawProgram → Program → Decl → Result (Unit {0}) Broken
types_found raw P (decl.Datatype n) = elim (slice_get raw.datatypes n) [ None ↦ Ok tt | Some d ↦ checked (datatype_found P d) ]
types_found raw P (decl.Definition n) = elim (slice_get raw.defs n) [ None ↦ Ok tt | Some d ↦ signature_found P d ]
types_found raw P (decl.Claim n) = elim (slice_get raw.claims n) [ None ↦ Ok tt | Some c ↦ claim_found P c ]
types_found raw P (decl.Lemma n) = elim (slice_get raw.lemmas n) [ None ↦ Ok tt | Some l ↦ variables_found P l ]
types_found raw P (decl.Replica n) = elim (slice_get raw.replicas n) [ None ↦ Ok tt | Some r ↦ checked (state_found P r) ]

-- the program with a declaration whose types and properties are right: its terms; one that isn't there adds nothing
unfoldable pub terms_found : RawProgram → Program → Decl → Result Program Broken
terms_found raw P (decl.Datatype n) = elim (slice_get raw.datatypes n) [ None ↦ Ok P | Some d ↦ datatype_found P d ]
terms_found raw P (decl.Definition n) = elim (slice_get raw.defs n) [ None ↦ Ok P | Some d ↦ body_found P d ]
terms_found raw P (decl.Claim n) = elim (slice_get raw.claims n) [ None ↦ Ok P | Some c ↦ Ok (with_obligations P (obligations_of c.def c.props)) ]
terms_found raw P (decl.Lemma n) = elim (slice_get raw.lemmas n) [ None ↦ Ok P | Some l ↦ equations_found P l ]
terms_found raw P (decl.Replica n) = elim (slice_get raw.replicas n) [ None ↦ Ok P | Some r ↦ merge_found P r ]

-- the program with one declaration more
unfoldable pub next_found : RawProgram → Program → Decl → Result Program Broken
next_found raw P d = do
  _ ← types_found raw P d
  terms_found raw P d

-- the program of a written one
unfoldable pub program_found : RawProgram → Result Program Broken
program_found raw = do
  P ← along (next_found raw) start raw.order
  Ok (record P { names = raw.names })
