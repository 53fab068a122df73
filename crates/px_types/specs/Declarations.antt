-- Which program a written one is, declaration by declaration, and its first fault.
use Rattle.std.specs.Prelude.{◌≡◌, ℕ, ◌+◌, ◌≤◌, List, [], ◌∷◌, ◌++◌, length, map, Some, slice_get, All}
use Rattle.std.specs.List.{flat_map}
use Rattle.std.specs.Option.{IsSomeAnd}
use Rattle.px_base.specs.declared.limits.TheConstants.{CLAUSE_VARIABLES, PREMISES}
use Rattle.px_base.specs.declared.prop.Prop.{Prop}
use Rattle.px_base.specs.declared.prop.Prop.TheVariants.{Comm, Assoc, Idem}
use Rattle.px_base.specs.declared.head.Head.{Head}
use Rattle.px_base.specs.declared.head.Head.TheVariants as head
use Rattle.px_base.specs.declared.raw.Decl.{Decl}
use Rattle.px_base.specs.declared.raw.Decl.TheVariants as decl
use Rattle.px_base.specs.declared.raw.RawTy.{RawTy}
use Rattle.px_base.specs.declared.raw.RawProp.{RawProp}
use Rattle.px_base.specs.declared.raw.RawFnType.{RawFnType}
use Rattle.px_base.specs.declared.raw.RawKind.{out-RawKind}
use Rattle.px_base.specs.declared.raw.RawCon.{RawCon}
use Rattle.px_base.specs.declared.raw.RawData.{RawData}
use Rattle.px_base.specs.declared.raw.RawDef.{RawDef}
use Rattle.px_base.specs.declared.raw.RawClaim.{RawClaim}
use Rattle.px_base.specs.declared.raw.RawEquation.{RawEquation}
use Rattle.px_base.specs.declared.raw.RawLemma.{RawLemma}
use Rattle.px_base.specs.declared.raw.RawReplica.{RawReplica}
use Rattle.px_base.specs.declared.raw.RawProgram.{RawProgram}
use Rattle.px_base.specs.declared.names.Names.{Names}
use Rattle.px_terms.specs.declared.types.Ty.{Ty}
use Rattle.px_terms.specs.declared.types.FnType.{FnType}
use Rattle.px_terms.specs.declared.types.Fun.{Fun}
use Rattle.px_terms.specs.declared.term.Term.{Term}
use Rattle.px_terms.specs.declared.term.Term.TheVariants as term
use Rattle.px_terms.specs.declared.clause.Equation.{Equation}
use Rattle.px_terms.specs.declared.program.ConDef.{ConDef}
use Rattle.px_terms.specs.declared.program.DataDef.{DataDef}
use Rattle.px_terms.specs.declared.program.Def.{Def}
use Rattle.px_terms.specs.declared.program.Lemma.{Lemma}
use Rattle.px_terms.specs.declared.program.ReplicaDef.{ReplicaDef}
use Rattle.px_terms.specs.declared.program.Declared.{Declared}
use Rattle.px_terms.specs.declared.program.Declared.TheVariants as declared
use Rattle.px_terms.specs.declared.program.Program.{Program}
use Rattle.px_terms.specs.Programs.{bool_data}
use Rattle.px_terms.specs.Typing.{in_body, behind, IsFunction, IsKnown}
use Rattle.px_terms.specs.Clauses.{functions_alone}
use Rattle.px_terms.specs.TypedPrograms.{Fits, AreWrittenFnTypes, IsTypedData, HasSignature, IsTypedDef, IsTypedLemma, IsTypedReplica, own_context, lemma_context}
use Rattle.px_types.specs.declared.ends.TypeKind.TheVariants.{Arity, PropertyShape, NotJoin, Oversize}
use Rattle.px_types.specs.Written.{IsTy, AreTys, IsFun, AreFuns, props_of, AreFnTys, IsTerm}
use Rattle.px_types.specs.Faults.{Broken, breaks, Env, Counts, counts_of, AreRight, BreaksTys, AreRightArguments, BreaksArguments, IsTyped, AreTyped, Breaks, BreaksParts}

-- each written constructor is the one at its place
pub data AreCons : List RawCon → List ConDef → Type 0 where
  none : AreCons [] []
  more : {raw : RawCon} {raws : List RawCon} {con : ConDef} {cons : List ConDef} → AreTys raw.fields con.fields → AreCons raws cons → AreCons (raw ∷ raws) (con ∷ cons)

-- The written datatype is this one.
pub record IsData (raw : RawData) (D : DataDef) : Type 0 where
  pub tparams : D.tparams ≡ raw.tparams
  pub cons : AreCons raw.cons D.cons

-- The written definition has this one's signature; so many obligations stand before it.
pub record IsSignature (seen : ℕ) (raw : RawDef) (D : Def) : Type 0 where
  pub tparams : D.tparams ≡ raw.tparams
  pub funs : AreFnTys raw.funs D.funs
  pub params : AreTys raw.params D.params
  pub result : IsTy raw.result D.result
  pub stands : D.seen ≡ seen

-- the written equation is this one
pub record IsEquation (P : Program) (raw : RawEquation) (e : Equation) : Type 0 where
  pub left : IsTerm P raw.left e.left
  pub right : IsTerm P raw.right e.right

-- each written equation is the one at its place
pub data AreEquations (P : Program) : List RawEquation → List Equation → Type 0 where
  none : AreEquations P [] []
  more : {raw : RawEquation} {raws : List RawEquation} {e : Equation} {es : List Equation} → IsEquation P raw e → AreEquations P raws es → AreEquations P (raw ∷ raws) (e ∷ es)

-- The written lemma is this one.
pub record IsLemma (P : Program) (raw : RawLemma) (l : Lemma) : Type 0 where
  pub tparams : l.tparams ≡ raw.tparams
  pub funs : AreFnTys raw.funs l.funs
  pub vars : AreTys raw.vars l.vars
  pub premises : AreEquations P raw.premises l.premises
  pub conclusion : IsEquation P raw.conclusion l.conclusion

-- The written replica is this one; so many obligations stand before it.
pub record IsReplica (P : Program) (seen : ℕ) (raw : RawReplica) (r : ReplicaDef) : Type 0 where
  pub state : IsTy raw.state r.state
  pub from : IsTerm P raw.from r.from
  pub merge : IsFun raw.merge r.merge
  pub funs : AreFuns raw.funs r.funs
  pub stands : r.seen ≡ seen

-- the obligations of these properties of definition n
abbrev pub obligations_of : ℕ → List RawProp → List Declared
obligations_of n props = map (λ (p : Prop). declared.Property n p) (props_of props)

-- each property fits the definition
abbrev pub AllFit : Program → ℕ → List RawProp → Type 0
AllFit P n props = All (λ (raw : RawProp). Fits P [] (head.Def n) raw.prop) props

-- the program with one more datatype
abbrev pub with_datatype : Program → DataDef → Program
with_datatype P D = record P { datatypes = P.datatypes ++ D ∷ [] }

-- the program with one more definition
abbrev pub with_definition : Program → Def → Program
with_definition P D = record P { defs = P.defs ++ D ∷ [] }

-- the program with these obligations more
abbrev pub with_obligations : Program → List Declared → Program
with_obligations P obligations = record P { declared = P.declared ++ obligations }

-- the program with one more lemma, which is the next obligation
abbrev pub with_lemma : Program → Lemma → Program
with_lemma P l = record P { lemmas = P.lemmas ++ l ∷ []; declared = P.declared ++ declared.Lemma (length P.lemmas) ∷ [] }

-- the program with one more replica
abbrev pub with_replica : Program → ReplicaDef → Program
with_replica P r = record P { replicas = P.replicas ++ r ∷ [] }

-- One declaration more: it is typed at its place, and stands in the list of its kind.
pub data IsNext (raw : RawProgram) (P : Program) : Decl → Program → Type 0 where
  datatype : {n : ℕ} {d : RawData} {D : DataDef} {Q : Program} → slice_get raw.datatypes n ≡ Some d → IsData d D → IsTypedData (with_datatype P D) D → Q ≡ with_datatype P D → IsNext raw P (decl.Datatype n) Q
  definition : {n : ℕ} {d : RawDef} {D : Def} {Q : Program} → slice_get raw.defs n ≡ Some d → IsSignature (length P.declared) d D → IsTerm (with_definition P D) d.body D.body → IsTypedDef (with_definition P D) n D → AllFit (with_definition P D) n d.props → Q ≡ with_obligations (with_definition P D) (obligations_of n d.props) → IsNext raw P (decl.Definition n) Q
  claim : {n : ℕ} {c : RawClaim} {Q : Program} → slice_get raw.claims n ≡ Some c → AllFit P c.def c.props → Q ≡ with_obligations P (obligations_of c.def c.props) → IsNext raw P (decl.Claim n) Q
  lemma : {n : ℕ} {l : RawLemma} {L : Lemma} {Q : Program} → slice_get raw.lemmas n ≡ Some l → IsLemma P l L → IsTypedLemma P (length P.declared) L → Q ≡ with_lemma P L → IsNext raw P (decl.Lemma n) Q
  replica : {n : ℕ} {r : RawReplica} {R : ReplicaDef} {Q : Program} → slice_get raw.replicas n ≡ Some r → IsReplica P (length P.declared) r R → IsTypedReplica P R → Q ≡ with_replica P R → IsNext raw P (decl.Replica n) Q

-- the declarations, each typed after those before it, make this program of that one
pub data AreNext (raw : RawProgram) : Program → List Decl → Program → Type 0 where
  none : {P : Program} → AreNext raw P [] P
  more : {P Q R : Program} {d : Decl} {rest : List Decl} → IsNext raw P d Q → AreNext raw Q rest R → AreNext raw P (d ∷ rest) R

-- no names
abbrev pub no_names : Names
no_names = record { datatypes = []; cons = []; defs = []; lemmas = []; replicas = [] }

-- the program of no declarations: `Bool` alone, and no name yet
abbrev pub start : Program
start = record { datatypes = bool_data ∷ []; defs = []; lemmas = []; declared = []; replicas = []; names = no_names }

-- The written program is typed, and is this one: the declarations in turn make it, but for its names.
pub record IsProgramOf (raw : RawProgram) (P : Program) : Type 0 where
  pub nameless : Program
  pub typed : AreNext raw start raw.order nameless
  pub named : P ≡ record nameless { names = raw.names }

-- the types that are written in function types, from left to right
abbrev pub fn_types_written : List RawFnType → List RawTy
fn_types_written funs = flat_map (λ (F : RawFnType). F.params ++ F.result ∷ []) funs

-- The written types break no rule.
pub record HasWritten (P : Program) (tparams : ℕ) (raws : List RawTy) : Type 0 where
  pub types : List Ty
  pub right : AreRight P tparams raws types

-- the first property of a list that does not fit what is named
pub data BreaksProps (P : Program) (funs : List FnType) (h : Head) : List RawProp → Broken → Type 0 where
  here : {p : RawProp} {props : List RawProp} {fault : Broken} → ¬ Fits P funs h p.prop → fault ≡ breaks PropertyShape p.at → BreaksProps P funs h (p ∷ props) fault
  later : {p : RawProp} {props : List RawProp} {fault : Broken} → Fits P funs h p.prop → BreaksProps P funs h props fault → BreaksProps P funs h (p ∷ props) fault

-- the first property that is assumed of a function variable, from number i on, and does not fit its type
pub data BreaksAssumed (P : Program) (funs : List FnType) : ℕ → List RawFnType → Broken → Type 0 where
  here : {i : ℕ} {F : RawFnType} {rest : List RawFnType} {fault : Broken} → BreaksProps P funs (head.FnVar i) F.props fault → BreaksAssumed P funs i (F ∷ rest) fault
  later : {i : ℕ} {F : RawFnType} {rest : List RawFnType} {fault : Broken} → All (λ (p : RawProp). Fits P funs (head.FnVar i) p.prop) F.props → BreaksAssumed P funs (i + 1) rest fault → BreaksAssumed P funs i (F ∷ rest) fault

-- the definition so far: its signature stands, and its body isn't looked at yet
abbrev pub without_body : Def → Def
without_body D = record D { body = term.Lit 0 }

-- the types that are written in a signature, from left to right
abbrev pub signature_written : RawDef → List RawTy
signature_written d = fn_types_written d.funs ++ (d.params ++ d.result ∷ [])

-- where the body of a definition stands, which is the next
abbrev pub body_env : Program → Def → Env
body_env P D = record { program = with_definition P (without_body D); place = in_body (length P.defs); context = own_context D }

-- the first fault of a definition: of its types, then of its properties, those that it assumes and its own, and then of its body
pub data BreaksDef (P : Program) (d : RawDef) : Broken → Type 0 where
  types : {fault : Broken} → BreaksTys P d.tparams (signature_written d) fault → BreaksDef P d fault
  assumed : {fault : Broken} {D : Def} → IsSignature (length P.declared) d D → HasWritten P d.tparams (signature_written d) → BreaksAssumed P D.funs 0 d.funs fault → BreaksDef P d fault
  properties : {fault : Broken} {D : Def} → IsSignature (length P.declared) d D → HasSignature P D → BreaksProps (with_definition P (without_body D)) [] (head.Def (length P.defs)) d.props fault → BreaksDef P d fault
  body : {fault : Broken} {D : Def} → IsSignature (length P.declared) d D → HasSignature P D → AllFit (with_definition P (without_body D)) (length P.defs) d.props → BreaksParts (body_env P D) [] (d.body ∷ []) (D.result ∷ []) fault → BreaksDef P d fault

-- where the equations of a lemma stand, which is the next obligation
abbrev pub lemma_env : Program → Lemma → Env
lemma_env P L = record { program = P; place = behind (length P.declared); context = lemma_context L }

-- Both sides are typed, and have one type.
pub record IsEven (E : Env) (e : RawEquation) : Type 0 where
  pub left : Term
  pub right : Term
  pub T : Ty
  pub left_typed : IsTyped E [] (out-RawKind e.left.kind) left T
  pub right_typed : IsTyped E [] (out-RawKind e.right.kind) right T

-- the first fault of an equation: of the left side, and then of the right one, which should have the left one's type
pub data BreaksEquation (E : Env) (e : RawEquation) : Broken → Type 0 where
  left : {fault : Broken} → Breaks E [] e.left.at (out-RawKind e.left.kind) fault → BreaksEquation E e fault
  right : {fault : Broken} {t : Term} {T : Ty} → IsTyped E [] (out-RawKind e.left.kind) t T → BreaksParts E [] (e.right ∷ []) (T ∷ []) fault → BreaksEquation E e fault

-- the first fault of equations, from left to right
pub data BreaksEquations (E : Env) : List RawEquation → Broken → Type 0 where
  here : {e : RawEquation} {es : List RawEquation} {fault : Broken} → BreaksEquation E e fault → BreaksEquations E (e ∷ es) fault
  later : {e : RawEquation} {es : List RawEquation} {fault : Broken} → IsEven E e → BreaksEquations E es fault → BreaksEquations E (e ∷ es) fault

-- a lemma has few enough variables and premises
pub record IsFew (l : RawLemma) : Type 0 where
  pub vars : length l.vars ≤ CLAUSE_VARIABLES
  pub premises : length l.premises ≤ PREMISES

-- What stands before a lemma's equations is this lemma's.
pub record IsLemmaHead (l : RawLemma) (L : Lemma) : Type 0 where
  pub tparams : L.tparams ≡ l.tparams
  pub funs : AreFnTys l.funs L.funs
  pub vars : AreTys l.vars L.vars

-- the first fault of a lemma: its numbers, its types, the properties that it assumes, and then its equations
pub data BreaksLemma (P : Program) (l : RawLemma) : Broken → Type 0 where
  many : {fault : Broken} → ¬ IsFew l → fault ≡ breaks Oversize l.at → BreaksLemma P l fault
  types : {fault : Broken} → IsFew l → BreaksTys P l.tparams (fn_types_written l.funs ++ l.vars) fault → BreaksLemma P l fault
  assumed : {fault : Broken} {L : Lemma} → IsFew l → IsLemmaHead l L → HasWritten P l.tparams (fn_types_written l.funs ++ l.vars) → BreaksAssumed P L.funs 0 l.funs fault → BreaksLemma P l fault
  equations : {fault : Broken} {L : Lemma} → IsFew l → IsLemmaHead l L → HasWritten P l.tparams (fn_types_written l.funs ++ l.vars) → AreWrittenFnTypes P l.tparams L.funs → BreaksEquations (lemma_env P L) (l.premises ++ l.conclusion ∷ []) fault → BreaksLemma P l fault

-- where the parts of a replica stand, which is behind all obligations so far
abbrev pub replica_env : Program → Env
replica_env P = record { program = P; place = behind (length P.declared); context = functions_alone 0 [] }

-- the merge is given as many types and functions as it takes
abbrev pub HasMergeCounts : Program → RawReplica → Type 0
HasMergeCounts P r = IsSomeAnd (counts_of (replica_env P) r.merge.head) (λ (c : Counts). (c.types ≡ length r.merge.types) × (c.functions ≡ length r.funs))

-- The merge of states of this type joins them: it takes two and gives one, and is known to be commutative, associative and idempotent.
pub record IsJoining (P : Program) (merge : Fun) (state : Ty) : Type 0 where
  pub takes : List FnType
  pub function : IsFunction P (functions_alone 0 []) merge takes (state ∷ state ∷ []) state
  pub comm : IsKnown P (behind (length P.declared)) (functions_alone 0 []) merge.head Comm
  pub assoc : IsKnown P (behind (length P.declared)) (functions_alone 0 []) merge.head Assoc
  pub idem : IsKnown P (behind (length P.declared)) (functions_alone 0 []) merge.head Idem

-- The merge is this function, whose written types break no rule and which takes these functions.
pub record IsMerge (P : Program) (r : RawReplica) (merge : Fun) (takes : List FnType) : Type 0 where
  pub params : List Ty
  pub result : Ty
  pub is : IsFun r.merge merge
  pub right : AreRight P 0 r.merge.types merge.types
  pub function : IsFunction P (functions_alone 0 []) merge takes params result

-- the first fault of a replica: its type, its first value, and the merge: its counts, its types, its functions, and that it joins
pub data BreaksReplica (P : Program) (r : RawReplica) : Broken → Type 0 where
  state : {fault : Broken} → BreaksTys P 0 (r.state ∷ []) fault → BreaksReplica P r fault
  from : {fault : Broken} {T : Ty} → AreRight P 0 (r.state ∷ []) (T ∷ []) → BreaksParts (replica_env P) [] (r.from ∷ []) (T ∷ []) fault → BreaksReplica P r fault
  counts : {fault : Broken} {T : Ty} → AreRight P 0 (r.state ∷ []) (T ∷ []) → AreTyped (replica_env P) [] (r.from ∷ []) (T ∷ []) → ¬ HasMergeCounts P r → fault ≡ breaks Arity r.merge.at → BreaksReplica P r fault
  types : {fault : Broken} {T : Ty} → AreRight P 0 (r.state ∷ []) (T ∷ []) → AreTyped (replica_env P) [] (r.from ∷ []) (T ∷ []) → HasMergeCounts P r → BreaksTys P 0 r.merge.types fault → BreaksReplica P r fault
  functions : {fault : Broken} {T : Ty} {merge : Fun} {takes : List FnType} → AreRight P 0 (r.state ∷ []) (T ∷ []) → AreTyped (replica_env P) [] (r.from ∷ []) (T ∷ []) → HasMergeCounts P r → IsMerge P r merge takes → BreaksArguments (replica_env P) r.funs takes fault → BreaksReplica P r fault
  not_join : {fault : Broken} {T : Ty} {merge : Fun} {takes : List FnType} → AreRight P 0 (r.state ∷ []) (T ∷ []) → AreTyped (replica_env P) [] (r.from ∷ []) (T ∷ []) → HasMergeCounts P r → IsMerge P r merge takes → AreRightArguments (replica_env P) r.funs takes → ¬ IsJoining P merge T → fault ≡ breaks NotJoin r.merge.at → BreaksReplica P r fault

-- the datatype so far: its constructors' fields aren't looked at yet
abbrev pub without_constructors : RawData → DataDef
without_constructors d = record { tparams = d.tparams; cons = [] }

-- the first fault of the next declaration
pub data BreaksNext (raw : RawProgram) (P : Program) : Decl → Broken → Type 0 where
  datatype : {n : ℕ} {d : RawData} {fault : Broken} → slice_get raw.datatypes n ≡ Some d → BreaksTys (with_datatype P (without_constructors d)) d.tparams (flat_map (λ (c : RawCon). c.fields) d.cons) fault → BreaksNext raw P (decl.Datatype n) fault
  definition : {n : ℕ} {d : RawDef} {fault : Broken} → slice_get raw.defs n ≡ Some d → BreaksDef P d fault → BreaksNext raw P (decl.Definition n) fault
  claim : {n : ℕ} {c : RawClaim} {fault : Broken} → slice_get raw.claims n ≡ Some c → BreaksProps P [] (head.Def c.def) c.props fault → BreaksNext raw P (decl.Claim n) fault
  lemma : {n : ℕ} {l : RawLemma} {fault : Broken} → slice_get raw.lemmas n ≡ Some l → BreaksLemma P l fault → BreaksNext raw P (decl.Lemma n) fault
  replica : {n : ℕ} {r : RawReplica} {fault : Broken} → slice_get raw.replicas n ≡ Some r → BreaksReplica P r fault → BreaksNext raw P (decl.Replica n) fault

-- The first fault of a written program: that of a declaration, where those before it are typed.
pub record IsFault (raw : RawProgram) (fault : Broken) : Type 0 where
  pub before : List Decl
  pub next : Decl
  pub after : List Decl
  pub P : Program
  pub order : raw.order ≡ before ++ next ∷ after
  pub typed : AreNext raw start before P
  pub broken : BreaksNext raw P next fault
