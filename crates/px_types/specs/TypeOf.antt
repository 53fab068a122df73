-- What is found of a term at no place of the text: its type where these variables are in scope, where it has one.
use Rattle.std.specs.Prelude.{◌≡◌, ◌↔◌, ℕ, ◌<◌, ◌^◌, ◌==◌, nat_lt, Bool, true, false, ◌&&◌, List, [], ◌∷◌, ◌++◌, length, reverse, Option, Some, None, Result}
use Rattle.std.specs.Prelude.{Ok, Err, slice_get}
use Rattle.std.specs.List.{list_all}
use Rattle.px_terms.specs.declared.types.Ty.{Ty}
use Rattle.px_terms.specs.declared.types.Ty.TheVariants as type
use Rattle.px_terms.specs.declared.types.Ty.TheOpen.{Ty-F}
use Rattle.px_terms.specs.declared.types.Ty.TheFolds.{fold-Ty}
use Rattle.px_terms.specs.declared.types.FnType.{FnType}
use Rattle.px_terms.specs.declared.types.Fun.{Fun}
use Rattle.px_terms.specs.declared.term.Term.{Term, out-Term}
use Rattle.px_terms.specs.declared.term.Term.TheOpen.{Term-F}
use Rattle.px_terms.specs.declared.term.Term.TheFolds.{fold-Term}
use Rattle.px_terms.specs.declared.program.ConDef.{ConDef}
use Rattle.px_terms.specs.declared.program.DataDef.{DataDef}
use Rattle.px_terms.specs.declared.program.Program.{Program}
use Rattle.px_terms.specs.declared.sequent.Context.{Context}
use Rattle.px_terms.specs.Types.{tys_instance}
use Rattle.px_terms.specs.Programs.{constructor_at}
use Rattle.px_terms.specs.Typing.{anywhere, HasTypeLayer}
use Rattle.px_terms.specs.TypedPrograms.{IsTyped}
use Rattle.px_types.specs.Faults.{Env, Counts, counts_of}
use Rattle.px_types.specs.Outcome.{passes, same, agrees, type_of_variable, Signature, signature_of, is_alike, has_wanted}
use Rattle.px_types.specs.declared.typings.NotTyped.{NotTyped}
use Rattle.px_types.specs.declared.typings.NotTyped.TheVariants.{IllTyped, NoMemory}

-- each datatype of the program has a constructor, as in each typed program
abbrev pub HasConstructors : Program → Type 0
HasConstructors P = (d : ℕ) (D : DataDef) → slice_get P.datatypes d ≡ Some D → 0 < length D.cons

-- typed programs are such
abbrev pub TypedHaveConstructors : Type 0
TypedHaveConstructors = (P : Program) → IsTyped P → HasConstructors P

-- this program and these variables, at no place of the text
abbrev pub at_no_place : Program → Context → Env
at_no_place P context = record { program = P; place = anywhere; context = context }

-- there is nothing to find, or memory ran out
abbrev pub EndsWithout : {T : Type 0} → Option T → NotTyped → Type 0
EndsWithout found IllTyped = found ≡ None
EndsWithout found NoMemory = Unit {0}

-- the answer is what is found, or memory ran out
abbrev pub Finds : {T : Type 0} → Option T → Result T NotTyped → Type 0
Finds found (Ok x) = found ≡ Some x
Finds found (Err end) = EndsWithout found end

-- first the one, and then what follows it
unfoldable pub followed : {S T : Type 0} → Option S → (S → Option T) → Option T
followed None f = None
followed (Some x) f = f x

infixl 10 ◌>>=◌
abbrev pub ◌>>=◌ : {S T : Type 0} → Option S → (S → Option T) → Option T
o >>= f = followed o f

-- nothing more is needed where the test holds
unfoldable pub when : Bool → Option (Unit {0})
when true = Some tt
when false = None

-- the datatype is there, and takes so many types
unfoldable pub takes : Program → ℕ → ℕ → Bool
takes P d count = passes (λ (D : DataDef). D.tparams == count) (slice_get P.datatypes d)

-- a type's layer names what is there, and has as many arguments as it takes, each a type
abbrev pub is_type_step : Program → ℕ → Ty-F Bool → Bool
is_type_step P tparams Ty-F.Word = true
is_type_step P tparams (Ty-F.Var n) = nat_lt n tparams
is_type_step P tparams (Ty-F.Con d args) = takes P d (length args) && list_all (λ (b : Bool). b) args

-- it is a type over so many type parameters
unfoldable pub is_type : Program → ℕ → Ty → Bool
is_type P tparams T = fold-Ty Bool (is_type_step P tparams) T

-- each is a type over so many type parameters
unfoldable pub are_types : Program → ℕ → List Ty → Bool
are_types P tparams types = list_all (is_type P tparams) types

-- the datatype is there, takes so many types, and these are types
unfoldable pub is_datatype : Program → ℕ → ℕ → List Ty → Bool
is_datatype P tparams d types = takes P d (length types) && are_types P tparams types

-- as many types are given as what is named takes
unfoldable pub has_type_count : Env → Fun → Bool
has_type_count E f = passes (λ (c : Counts). c.types == length f.types) (counts_of E f.head)

-- as many types are given as what is named takes, and they are types
unfoldable pub has_types : Env → Fun → Bool
has_types E f = has_type_count E f && are_types E.program E.context.tparams f.types

-- what a function takes and gives
unfoldable pub callee_found : Env → Fun → Option Signature
callee_found E f = do
  _ ← when (has_types E f)
  signature_of E f.head f.types

-- the function may stand where one of this type is wanted
unfoldable pub argument_fits : Env → Fun → FnType → Option (Unit {0})
argument_fits E f wanted = do
  own ← callee_found E f
  _ ← when (is_alike own wanted)
  when (has_wanted E f.head wanted.props)

-- each function may stand where one of the type at its place is wanted, and there are as many of both
unfoldable pub arguments_fit : Env → List Fun → List FnType → Option (Unit {0})
arguments_fit E [] [] = Some tt
arguments_fit E [] (wanted ∷ takes) = None
arguments_fit E (f ∷ fs) [] = None
arguments_fit E (f ∷ fs) (wanted ∷ takes) = do
  _ ← argument_fits E f wanted
  arguments_fit E fs takes

-- What is found of a part, by the types of the pattern variables around it, the innermost first.
abbrev pub Found : Type 0
Found = List Ty → Option Ty

-- each part has the type at its place, and there are as many of both
unfoldable pub parts_have : List Ty → List Found → List Ty → Option (Unit {0})
parts_have bound [] [] = Some tt
parts_have bound [] (T ∷ types) = None
parts_have bound (part ∷ parts) [] = None
parts_have bound (part ∷ parts) (T ∷ types) = do
  U ← part bound
  _ ← when (same U T)
  parts_have bound parts types

-- the one type of the arms, where the arms before them had this one: an arm for each constructor, whose fields are bound in it
unfoldable pub arms_have : List Ty → List Ty → Option Ty → List ConDef → List Found → Option Ty
arms_have bound types before [] [] = before
arms_have bound types before [] (arm ∷ arms) = None
arms_have bound types before (c ∷ cons) [] = None
arms_have bound types before (c ∷ cons) (arm ∷ arms) = do
  T ← arm (reverse (tys_instance types c.fields) ++ bound)
  _ ← when (agrees before T)
  arms_have bound types (Some T) cons arms

-- a literal is a word
unfoldable pub literal_type : ℕ → Option Ty
literal_type w = do
  _ ← when (nat_lt w (2 ^ 64))
  Some type.Word

-- the types of the fields of a constructor at these types
unfoldable pub fields_found : Env → ℕ → ℕ → List Ty → Option (List Ty)
fields_found E d k types = do
  _ ← when (is_datatype E.program E.context.tparams d types)
  c ← constructor_at E.program d k
  Some (tys_instance types c.fields)

-- a construction: its types, its constructor, and the types of its fields
unfoldable pub con_type : Env → ℕ → ℕ → List Ty → List Found → List Ty → Option Ty
con_type E d k types fields bound = do
  wanted ← fields_found E d k types
  _ ← parts_have bound fields wanted
  Some (type.Con d types)

-- a call: what is called, its functions, and the types of its values
unfoldable pub call_type : Env → Fun → List Fun → List Found → List Ty → Option Ty
call_type E f funs args bound = do
  s ← callee_found E f
  _ ← arguments_fit E funs s.takes
  _ ← parts_have bound args s.params
  Some s.result

-- the constructors of the datatype that a match says it is on, where it is on that
unfoldable pub constructors_found : Env → Ty → ℕ → List Ty → Option (List ConDef)
constructors_found E T d types = do
  _ ← when (same T (type.Con d types))
  D ← slice_get E.program.datatypes d
  Some D.cons

-- a match: the type of what it is on, and the one type of its arms
unfoldable pub match_type : Env → Found → ℕ → List Ty → List Found → List Ty → Option Ty
match_type E on d types arms bound = do
  T ← on bound
  cons ← constructors_found E T d types
  arms_have bound types None cons arms

-- what is found of a term's layer
abbrev pub type_step : Env → Term-F Found → Found
type_step E (Term-F.Free n) bound = type_of_variable E n
type_step E (Term-F.Bound n) bound = slice_get bound n
type_step E (Term-F.Lit w) bound = literal_type w
type_step E (Term-F.Con d k types fields) bound = con_type E d k types fields bound
type_step E (Term-F.Call f funs args) bound = call_type E f funs args bound
type_step E (Term-F.Match on d types arms) bound = match_type E on d types arms bound

-- the type that is found of a term, by the types of the pattern variables around it, the innermost first
unfoldable pub type_found : Env → Term → Found
type_found E t = fold-Term Found (type_step E) t

-- the type of a term is found exactly where it has one
abbrev pub TypesAreExact : Type 0
TypesAreExact = (P : Program) (context : Context) (t : Term) (bound : List Ty) (T : Ty) → HasConstructors P →
    (type_found (at_no_place P context) t bound ≡ Some T) ↔ HasTypeLayer P anywhere context bound (out-Term t) T
