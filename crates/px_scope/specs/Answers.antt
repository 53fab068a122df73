-- What the functions of this crate answer.
use Rattle.std.specs.Prelude.{◌≡◌, ◌⊎◌, ℕ, List, Option, Some, None, Result, Ok, Err}
use Rattle.px_base.specs.declared.raw.RawProgram.{RawProgram}
use Rattle.px_parser.specs.declared.surface.Surface.{Surface}
use Rattle.px_scope.specs.declared.ends.ScopeKind.{ScopeKind}
use Rattle.px_scope.specs.declared.ends.ScopeEnd.{ScopeEnd}
use Rattle.px_scope.specs.declared.ends.ScopeEnd.TheVariants.{Fault, NoMemory}
use Rattle.px_scope.specs.declared.globals.Globals.{Globals}
use Rattle.px_scope.specs.declared.globals.Meaning.TheVariants as meaning
use Rattle.px_scope.specs.declared.locals.Local.TheVariants as local
use Rattle.px_scope.specs.declared.locals.Locals.{Locals}
use Rattle.px_scope.specs.declared.lookups.Variable.{Variable}
use Rattle.px_scope.specs.declared.lookups.Variable.TheVariants.{Value, Pattern}
use Rattle.px_scope.specs.declared.lookups.Called.{Called}
use Rattle.px_scope.specs.declared.parameters.Parameters.{Parameters}
use Rattle.px_scope.specs.declared.declarations.Heading.{Heading}
use Rattle.px_scope.specs.declared.locals.TypeLocals.{TypeLocals}
use Rattle.px_parser.specs.declared.surface.Name.{Name}
use Rattle.px_parser.specs.declared.surface.SParam.{SParam}
use Rattle.px_scope.specs.Standing.{meaning_of, local_of, head_of, function_places}
use Rattle.px_scope.specs.Uses.{Use, Broken, first_broken, broken_or}
use Rattle.px_scope.specs.Declaring.{type_locals, parameter_locals}
use Rattle.px_scope.specs.Programs.{AreParameters, IsFault}

-- the end is this fault, or want of memory
abbrev pub Fails : Option Broken → ScopeEnd → Type 0
Fails broken (Fault kind at) = broken ≡ Some (record { kind = kind; at = at })
Fails broken NoMemory = Unit {0}

-- No name of these breaks a rule, and of the value this is said.
abbrev pub Fine : {T : Type 0} → List Use → (T → Type 0) → T → Type 0
Fine uses Is value = (first_broken uses ≡ None) × Is value

-- The names break no rule, and of the value this is said; or the answer is their first fault, or want of memory.
abbrev pub Resolves : {T : Type 0} → List Use → (T → Type 0) → Result T ScopeEnd → Type 0
Resolves uses Is (Ok value) = Fine uses Is value
Resolves uses Is (Err end) = Fails (first_broken uses) end

-- the same of one name
abbrev pub Finds : {T : Type 0} → ℕ → Option ScopeKind → (T → Type 0) → Result T ScopeEnd → Type 0
Finds at fault Is (Ok value) = (fault ≡ None) × Is value
Finds at fault Is (Err end) = Fails (broken_or at fault None) end

-- the answer is this one, or memory ran out
abbrev pub IsUnlessNoMemory : Result RawProgram ScopeEnd → Result RawProgram ScopeEnd → Type 0
IsUnlessNoMemory answer result = (result ≡ answer) ⊎ (result ≡ Err NoMemory)

-- what an end says: of a fault what it is; of want of memory nothing
abbrev pub IsEnd : Surface → ScopeEnd → Type 0
IsEnd surface (Fault kind at) = IsFault surface (record { kind = kind; at = at })
IsEnd surface NoMemory = Unit {0}

-- the name stands for this data variable
abbrev pub IsVariable : Locals → List ℕ → Variable → Type 0
IsVariable L name (Value n) = local_of L name ≡ Some (local.Value n)
IsVariable L name (Pattern n) = local_of L name ≡ Some (local.Pattern n)

-- The name stands for this function, so many of whose first arguments are functions.
pub record IsCalled (G : Globals) (L : Locals) (name : List ℕ) (called : Called) : Type 0 where
  pub stands : head_of G L name ≡ Some called.head
  pub places : function_places G L name ≡ called.functions

-- the name stands for the definition of this number
pub record IsClaimed (G : Globals) (name : List ℕ) (number : ℕ) : Type 0 where
  pub functions : ℕ
  pub stands : meaning_of G name ≡ Some (meaning.Definition number functions)

-- the parameters are these functions and these values
abbrev pub AreBoth : Globals → TypeLocals → List SParam → Parameters → Type 0
AreBoth G T params both = AreParameters G T params both.funs both.values

-- What is local after type parameters and parameters, and the types of these.
pub record IsHeading (G : Globals) (tparams : List Name) (params : List SParam) (heading : Heading) : Type 0 where
  pub locals : heading.locals ≡ parameter_locals tparams params
  pub are_both : AreBoth G (type_locals tparams) params heading.params
