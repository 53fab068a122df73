-- What is called, by what it takes and gives.
use Rattle.std.specs.Prelude.{◌≡◌, ◌+◌, ◌<◌, ◌^◌, ℕ, List, [], ◌∷◌, ◌++◌, length, Option, Some, slice_get}
use Rattle.std.specs.Option.{option_map}
use Rattle.px_terms.specs.Head.{Head}
use Rattle.px_terms.specs.Head.TheVariants.{Def, Wle, Weq, FnVar}
use Rattle.px_terms.specs.Fitting.{IsShort}
use Rattle.px_terms.specs.declared.types.Ty.{Ty}
use Rattle.px_terms.specs.declared.types.Ty.TheVariants as type
use Rattle.px_terms.specs.declared.types.FnType.{FnType}
use Rattle.px_terms.specs.declared.program.Def as definition
use Rattle.px_terms.specs.declared.program.Program.{Program}
use Rattle.px_terms.specs.Types.{own_types, own_functions}
use Rattle.px_terms.specs.Programs.{bool_type}
use Rattle.px_terms.specs.Clauses.{Subject}
use Rattle.px_props.specs.declared.functions.Function.{Function}

-- What a function takes and gives: its own type variables and function variables, its parameters and its result.
pub record Signature : Type 0 where
  pub tparams : ℕ
  pub funs : List FnType
  pub params : List Ty
  pub result : Ty

-- a comparison of two words
abbrev pub comparison : Signature
comparison = record { tparams = 0; funs = []; params = type.Word ∷ type.Word ∷ []; result = bool_type }

-- what a definition takes and gives
abbrev pub of_definition : definition.Def → Signature
of_definition D = record { tparams = D.tparams; funs = D.funs; params = D.params; result = D.result }

-- what a function variable takes and gives, which has no variables of its own
abbrev pub of_variable : FnType → Signature
of_variable F = record { tparams = 0; funs = []; params = F.params; result = F.result }

-- the signature of what is called, where there is one; `funs` are the types of the function variables in scope
abbrev pub signature_at : Program → List FnType → Head → Option Signature
signature_at P funs (Def n) = option_map of_definition (slice_get P.defs n)
signature_at P funs Wle = Some comparison
signature_at P funs Weq = Some comparison
signature_at P funs (FnVar i) = option_map of_variable (slice_get funs i)

-- what is called takes no more than words of 32 bits count
abbrev pub IsCounted : Program → List FnType → Head → Type 0
IsCounted P funs (Def n) = (D : definition.Def) → slice_get P.defs n ≡ Some D → IsShort D.params × IsShort D.funs
IsCounted P funs Wle = Unit {0}
IsCounted P funs Weq = Unit {0}
IsCounted P funs (FnVar i) = (F : FnType) → slice_get funs i ≡ Some F → IsShort F.params

-- the signature of a function whose last two parameters have one type
abbrev pub signature_of : Function → Signature
signature_of f = record { tparams = f.tparams; funs = f.funs.now; params = f.leading.now ++ f.last.now ∷ f.last.now ∷ []; result = f.gives.now }

-- the function with its own type and function variables put in, as a property speaks of it
abbrev pub subject_of : Function → Subject
subject_of f = record { function = record { head = f.head; types = own_types f.tparams }; given = own_functions (length f.funs.now); leading = f.leading.now; last = f.last.now; result = f.gives.now }

-- a comparison of two words, as a property speaks of it
abbrev pub compared : Head → Subject
compared h = record { function = record { head = h; types = [] }; given = []; leading = []; last = type.Word; result = bool_type }

-- the variables x, y and z of the function, and its function variables, have numbers
pub record IsNumbered (f : Function) : Type 0 where
  pub variables : length f.leading.now + 2 < 2 ^ 32
  pub functions : length f.funs.now < 2 ^ 32

-- the function is the one that is called by the head, which has this signature
pub record IsCalled (taken : Option Signature) (h : Head) (f : Function) : Type 0 where
  pub head : f.head ≡ h
  pub signature : taken ≡ Some (signature_of f)

-- there is no signature, or its last two parameters are not of one type
pub record HasNoPair (taken : Option Signature) : Type 0 where
  pub none : (signature : Signature) → taken ≡ Some signature → (leading : List Ty) (last : Ty) → ¬ (signature.params ≡ leading ++ last ∷ last ∷ [])
