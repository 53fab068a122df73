-- When code stands for a program, and when a call fits it.
use Rattle.std.specs.Prelude.{◌≡◌, ◌↔◌, ℕ, ◌<◌, List, [], ◌∷◌, length, map, Some, slice_get}
use Rattle.std.specs.List.{AllByRecursion}
use Rattle.px_base.specs.declared.head.Head.{Head}
use Rattle.px_base.specs.declared.head.Head.TheVariants as head
use Rattle.px_terms.specs.declared.types.Ty.{Ty}
use Rattle.px_terms.specs.declared.types.Fun.{Fun}
use Rattle.px_terms.specs.declared.term.Value.{Value}
use Rattle.px_terms.specs.declared.program.Def as definition
use Rattle.px_terms.specs.declared.program.Program.{Program}
use Rattle.px_terms.specs.Types.{tys_instance}
use Rattle.px_terms.specs.Values.{AreIn}
use Rattle.px_terms.specs.Meaning.{Gives}
use Rattle.px_terms.specs.Typing.{AreTypes}
use Rattle.px_terms.specs.Extending.{IsWellFounded, FitTypes}
use Rattle.px_machine.specs.declared.code.CallTarget.{CallTarget}
use Rattle.px_machine.specs.declared.code.CallTarget.TheVariants.{Def, Wle, Weq, Param}
use Rattle.px_machine.specs.declared.code.Instr.{Instr}
use Rattle.px_machine.specs.declared.code.Instr.TheVariants.{Local, Lit, Make, Call, Branch, Forget, Jump, Return}
use Rattle.px_machine.specs.declared.code.Code.{Code}
use Rattle.px_machine.specs.Machine.{instruction_at, RunGives}

-- the target that stands for a function
abbrev pub head_target : Head → CallTarget
head_target (head.Def n) = Def n
head_target head.Wle = Wle
head_target head.Weq = Weq
head_target (head.FnVar n) = Param n

-- the targets that stand for functions, in order; their types are nothing to the machine
abbrev pub targets_of : List Fun → List CallTarget
targets_of = map (λ (f : Fun). head_target f.head)

-- the places that an instruction names
abbrev pub named_places : Instr → List ℕ
named_places (Local n) = []
named_places (Lit w) = []
named_places (Make d k n) = []
named_places (Call t ts n) = []
named_places (Branch places) = places
named_places (Forget n) = []
named_places (Jump place) = place ∷ []
named_places Return = []

-- Each place that an instruction names lies behind the instruction, so that a frame runs to its end.
pub record IsForward (code : Code) : Type 0 where
  pub behind : (d place : ℕ) (i : Instr) → instruction_at code d place ≡ Some i → AllByRecursion (λ (named : ℕ). place < named) (named_places i)

-- In the program the types, functions and values fit the parameters of its definition n.
pub record FitsDefinition (P : Program) (n : ℕ) (types : List Ty) (funs : List Fun) (values : List Value) : Type 0 where
  pub def : definition.Def
  pub is_def : slice_get P.defs n ≡ Some def
  pub as_many : length types ≡ def.tparams
  pub types_are : AreTypes P 0 types
  pub funs_fit : FitTypes P types def.funs funs
  pub values_fit : AreIn P (tys_instance types def.params) values

-- The code stands for the program: it leads forward, and a run of a definition on what fits it gives exactly the value and the
-- number of calls that the call has by its meaning.
pub record Stands (code : Code) (P : Program) : Type 0 where
  pub forward : IsForward code
  pub gives : (n : ℕ) (types : List Ty) (funs : List Fun) (values : List Value) → FitsDefinition P n types funs values →
      (v : Value) (calls : ℕ) → RunGives code n (targets_of funs) values v calls ↔ Gives P (record { head = head.Def n; types = types }) funs values v calls

-- There is a program, typed and well-founded, that the code stands for, and in which the functions and values fit definition n.
pub record FitsCode (code : Code) (n : ℕ) (targets : List CallTarget) (values : List Value) : Type 0 where
  pub program : Program
  pub founded : IsWellFounded program
  pub stands : Stands code program
  pub types : List Ty
  pub funs : List Fun
  pub are_targets : targets ≡ targets_of funs
  pub fits : FitsDefinition program n types funs values
