-- What is said of properties is true: those of the built-ins, and what properties imply.
use Rattle.std.specs.Prelude.{◌≡◌, ℕ, List, [], ◌∷◌, length, Some, slice_get}
use Rattle.px_terms.specs.Head.TheVariants as head
use Rattle.px_terms.specs.Prop.{Prop}
use Rattle.px_terms.specs.Prop.TheVariants.{Comm, Idem, Refl, Trans}
use Rattle.px_terms.specs.PropSets.{set_of}
use Rattle.px_terms.specs.declared.types.Ty.{Ty}
use Rattle.px_terms.specs.declared.types.Ty.TheVariants as type
use Rattle.px_terms.specs.declared.types.FnType.{FnType}
use Rattle.px_terms.specs.declared.types.Fun.{Fun}
use Rattle.px_terms.specs.declared.clause.Clause.{Clause}
use Rattle.px_terms.specs.declared.program.Def as definition
use Rattle.px_terms.specs.declared.program.Program.{Program}
use Rattle.px_terms.specs.Implied.{Closure, HasAtMost, HasEqual}
use Rattle.px_terms.specs.declared.sequent.Context.{Context}
use Rattle.px_terms.specs.Programs.{bool_type}
use Rattle.px_terms.specs.Meaning.{FunsMean}
use Rattle.px_terms.specs.Typing.{Place, AreTypes, IsEarlier, AreArguments}
use Rattle.px_terms.specs.Clauses.{IsClauseOf}
use Rattle.px_terms.specs.Obligations.{IsObligation}
use Rattle.px_terms.specs.Extending.{IsWellFounded, FunctionsFit, HasInProgram, HoldsInProgram}

-- the comparison `wle`
abbrev pub at_most : Fun
at_most = record { head = head.Wle; types = [] }

-- the comparison `weq`
abbrev pub equal : Fun
equal = record { head = head.Weq; types = [] }

-- what properties that a function has imply, it has
abbrev pub ImpliedIsTrue : Type 0
ImpliedIsTrue = (Q : Program) → IsWellFounded Q → (f : Fun) (p : Prop) → Closure (HasInProgram Q f) p → HasInProgram Q f p

-- the built-ins have the properties that are said of them
pub record BuiltInsHave : Type 0 where
  pub of_at_most : (Q : Program) → IsWellFounded Q → (p : Prop) → HasAtMost p → HasInProgram Q at_most p
  pub of_equal : (Q : Program) → IsWellFounded Q → (p : Prop) → HasEqual p → HasInProgram Q equal p

-- `wle` lacks a property that its values break, and one that does not fit its type
pub record BuiltInsLack : Type 0 where
  pub broken : (Q : Program) → IsWellFounded Q → HasInProgram Q at_most Comm → ⊥
  pub unfit : (Q : Program) → IsWellFounded Q → HasInProgram Q at_most Idem → ⊥

-- (Word, Word) -> Bool, reflexive and transitive
abbrev pub order_type : FnType
order_type = record { params = type.Word ∷ type.Word ∷ []; result = bool_type; props = set_of (Refl ∷ Trans ∷ []) }

-- where a reflexive and transitive function of two words is wanted, `wle` fits
abbrev pub AtMostFits : Type 0
AtMostFits = (Q : Program) → IsWellFounded Q → FunctionsFit Q [] (order_type ∷ []) (at_most ∷ [])

-- a definition without function parameters has, at all ground types, each property whose clause holds in the program
abbrev pub DeclaredIsHad : Type 0
DeclaredIsHad =
    (Q : Program) → IsWellFounded Q → (n : ℕ) (D : definition.Def) → slice_get Q.defs n ≡ Some D → D.funs ≡ [] →
    (p : Prop) (clause : Clause) → IsClauseOf Q [] (head.Def n) p clause → HoldsInProgram Q clause →
    (types : List Ty) → length types ≡ D.tparams → AreTypes Q 0 types → HasInProgram Q (record { head = head.Def n; types = types }) p

-- Each obligation that stands before the place holds in the program.
pub record EarlierHold (Q : Program) (place : Place) : Type 0 where
  pub each : (i : ℕ) (clause : Clause) → IsEarlier Q place i → IsObligation Q i clause → HoldsInProgram Q clause

-- What functions that are passed stand for fits their types, with the properties that these assume.
pub record PassedFit (Q : Program) (types : List Ty) (funs fs : List Fun) (takes : List FnType) : Type 0 where
  pub hs : List Fun
  pub mean : FunsMean types funs fs hs
  pub fit : FunctionsFit Q types takes hs

-- where each earlier obligation holds, functions that are typed as arguments stand for functions that fit, with their properties
abbrev pub ArgumentsFit : Type 0
ArgumentsFit =
    (Q : Program) → IsWellFounded Q → (place : Place) (context : Context) → EarlierHold Q place →
    (types : List Ty) → length types ≡ context.tparams → AreTypes Q 0 types → (funs : List Fun) → FunctionsFit Q types context.funs funs →
    (fs : List Fun) (takes : List FnType) → AreArguments Q place context fs takes → PassedFit Q types funs fs takes
