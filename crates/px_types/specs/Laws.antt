-- Laws of typing: what is found of a written type, function or term is exactly what the rules say.
use Rattle.std.specs.Prelude.{◌≡◌, ◌↔◌, ℕ, ◌<◌, List, length, Some, Ok, Err, slice_get}
use Rattle.px_base.specs.declared.raw.RawTy.{RawTy}
use Rattle.px_base.specs.declared.raw.RawFun.{RawFun}
use Rattle.px_base.specs.declared.raw.RawKind.{out-RawKind}
use Rattle.px_base.specs.declared.raw.RawTerm.{RawTerm}
use Rattle.px_terms.specs.declared.types.Ty.{Ty}
use Rattle.px_terms.specs.declared.types.FnType.{FnType}
use Rattle.px_terms.specs.declared.types.Fun.{Fun}
use Rattle.px_terms.specs.declared.term.Term.{Term}
use Rattle.px_terms.specs.declared.program.DataDef.{DataDef}
use Rattle.px_terms.specs.declared.program.Program.{Program}
use Rattle.px_terms.specs.Typing.{Place, anywhere, in_body, behind, HaveTypes, AreArguments}
use Rattle.px_types.specs.Written.{AreFuns, AreTerms}
use Rattle.px_types.specs.Faults.{Broken, Env, AreRight, BreaksTys, BreaksArguments, IsTyped, Breaks, BreaksParts}
use Rattle.px_types.specs.Outcome.{tys_found, arguments_found, term_found, parts_found}

-- the place is one in the text
abbrev pub IsPlaced : Place → Type 0
IsPlaced anywhere = ⊥
IsPlaced (in_body n) = Unit {0}
IsPlaced (behind count) = Unit {0}

-- A declaration is looked at: its place is one in the text, and each datatype so far has a constructor.
pub record IsDeclaring (E : Env) : Type 0 where
  pub placed : IsPlaced E.place
  pub some : (d : ℕ) (D : DataDef) → slice_get E.program.datatypes d ≡ Some D → 0 < length D.cons

-- written types are found exactly as the rules say
abbrev pub TypesAreFound : Type 0
TypesAreFound = (P : Program) (tparams : ℕ) (raws : List RawTy) (types : List Ty) → (tys_found P tparams raws ≡ Ok types) ↔ AreRight P tparams raws types

-- written types have exactly the first broken rule that is found
abbrev pub TypesBreakAsFound : Type 0
TypesBreakAsFound = (P : Program) (tparams : ℕ) (raws : List RawTy) (fault : Broken) → (tys_found P tparams raws ≡ Err fault) ↔ BreaksTys P tparams raws fault

-- function arguments are found exactly as the rules say
abbrev pub ArgumentsAreFound : Type 0
ArgumentsAreFound = (E : Env) (raws : List RawFun) (takes : List FnType) (fs : List Fun) → IsDeclaring E → length raws ≡ length takes → (arguments_found E raws takes ≡ Ok fs) ↔ (AreFuns raws fs × AreArguments E.program E.place E.context fs takes)

-- function arguments have exactly the first broken rule that is found
abbrev pub ArgumentsBreakAsFound : Type 0
ArgumentsBreakAsFound = (E : Env) (raws : List RawFun) (takes : List FnType) (fault : Broken) → IsDeclaring E → length raws ≡ length takes → (arguments_found E raws takes ≡ Err fault) ↔ BreaksArguments E raws takes fault

-- a written term is found exactly as the rules say
abbrev pub TermsAreFound : Type 0
TermsAreFound = (E : Env) (raw : RawTerm) (bound : List Ty) (t : Term) (T : Ty) → IsDeclaring E → (term_found E raw bound ≡ Ok (record { term = t; ty = T })) ↔ IsTyped E bound (out-RawKind raw.kind) t T

-- a written term has exactly the first broken rule that is found
abbrev pub TermsBreakAsFound : Type 0
TermsBreakAsFound = (E : Env) (raw : RawTerm) (bound : List Ty) (fault : Broken) → IsDeclaring E → (term_found E raw bound ≡ Err fault) ↔ Breaks E bound raw.at (out-RawKind raw.kind) fault

-- written terms that should have these types are found exactly as the rules say
abbrev pub PartsAreFound : Type 0
PartsAreFound = (E : Env) (bound : List Ty) (raws : List RawTerm) (types : List Ty) (ts : List Term) → IsDeclaring E → length raws ≡ length types → (parts_found E bound raws types ≡ Ok ts) ↔ (AreTerms E.program raws ts × HaveTypes E.program E.place E.context bound ts types)

-- and have exactly the first broken rule that is found
abbrev pub PartsBreakAsFound : Type 0
PartsBreakAsFound = (E : Env) (bound : List Ty) (raws : List RawTerm) (types : List Ty) (fault : Broken) → IsDeclaring E → length raws ≡ length types → (parts_found E bound raws types ≡ Err fault) ↔ BreaksParts E bound raws types fault

-- a written term is at most one term, of at most one type
abbrev pub OneTyping : Type 0
OneTyping = (E : Env) (raw : RawTerm) (bound : List Ty) (t u : Term) (T U : Ty) → IsDeclaring E → IsTyped E bound (out-RawKind raw.kind) t T → IsTyped E bound (out-RawKind raw.kind) u U → (t ≡ u) × (T ≡ U)

-- a written term has at most one first fault
abbrev pub OneFault : Type 0
OneFault = (E : Env) (raw : RawTerm) (bound : List Ty) (a b : Broken) → IsDeclaring E → Breaks E bound raw.at (out-RawKind raw.kind) a → Breaks E bound raw.at (out-RawKind raw.kind) b → a ≡ b

-- no written term is typed and has a fault
abbrev pub NeverBoth : Type 0
NeverBoth = (E : Env) (raw : RawTerm) (bound : List Ty) (t : Term) (T : Ty) (fault : Broken) → IsDeclaring E → IsTyped E bound (out-RawKind raw.kind) t T → ¬ Breaks E bound raw.at (out-RawKind raw.kind) fault

-- A term with its type, or a first fault.
pub data IsJudged (E : Env) (raw : RawTerm) (bound : List Ty) : Type 0 where
  typed : (t : Term) (T : Ty) → IsTyped E bound (out-RawKind raw.kind) t T → IsJudged E raw bound
  broken : (fault : Broken) → Breaks E bound raw.at (out-RawKind raw.kind) fault → IsJudged E raw bound

-- each written term is typed or has a fault
abbrev pub AlwaysOne : Type 0
AlwaysOne = (E : Env) (raw : RawTerm) (bound : List Ty) → IsDeclaring E → IsJudged E raw bound
