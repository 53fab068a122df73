-- What is in scope at a part of a declaration, as plain data, and what is found in the stages of a part.
use Rattle.std.specs.Prelude.{ℕ, ◌==◌, List, [], ◌∷◌, length, map, Option, Some, Result, Ok, slice_set}
use Rattle.px_base.specs.declared.raw.RawTy.{RawTy}
use Rattle.px_base.specs.declared.raw.RawArm.{RawArm}
use Rattle.px_terms.specs.declared.types.Ty.{Ty}
use Rattle.px_terms.specs.declared.types.Ty.TheVariants as type
use Rattle.px_terms.specs.declared.types.FnType.{FnType}
use Rattle.px_terms.specs.declared.program.ConDef.{ConDef}
use Rattle.px_terms.specs.Types.{ty_instance, tys_instance, fn_type_instance}
use Rattle.px_terms.specs.Programs.{bool_type}
use Rattle.px_terms.specs.Typing.{live}
use Rattle.px_types.specs.declared.ends.TypeKind.TheVariants.{Mismatch, Arity, ArmRepeated, Oversize}
use Rattle.px_types.specs.declared.typed.Typed.{Typed}
use Rattle.px_types.specs.declared.typed.Slots.{Slots}
use Rattle.px_types.specs.declared.env.Env as scope
use Rattle.px_types.specs.declared.env.Wanted.{Wanted}
use Rattle.px_types.specs.declared.env.Instances.{Instances}
use Rattle.px_types.specs.declared.heads.Taken.{Taken}
use Rattle.px_types.specs.declared.heads.BuiltIn.{BuiltIn}
use Rattle.px_types.specs.declared.heads.Called.{Called}
use Rattle.px_types.specs.declared.arms.Chosen as matched
use Rattle.px_types.specs.declared.arms.Scrutinee.{Scrutinee}
use Rattle.px_types.specs.Scopes.{place_of}
use Rattle.px_types.specs.Faults.{Broken, Env, Counts}
use Rattle.px_types.specs.Outcomes.{◌>>=◌, needs, there, each_two}
use Rattle.px_types.specs.Outcome.{is_met, Signature, Part, ArmPart, part_of, Chosen, pattern_of, is_open, agrees, variable_met}

-- the program, the place, and what is in scope
abbrev pub env_of : scope.Env → Env
env_of e = record { program = e.program.now; place = place_of e.place; context = record { tparams = e.tparams; funs = e.funs.now; vars = live e.vars.now } }

-- the function type that is wanted
abbrev pub wanted_of : Wanted → FnType
wanted_of w = fn_type_instance w.types.now w.fun.now

-- the types with those put in
abbrev pub tys_of : Instances → List Ty
tys_of i = tys_instance i.types.now i.tys.now

-- how many are taken
abbrev pub counts_in : Taken → Counts
counts_in t = record { types = t.types; functions = t.functions; values = t.values }

-- what a built-in takes and gives: it compares two words
abbrev pub comparing : BuiltIn
comparing = record { takes = []; params = type.Word ∷ type.Word ∷ []; result = bool_type; types = [] }

-- what is called, at its types
abbrev pub called_in : Called → Signature
called_in c = record {
  takes = map (fn_type_instance c.types.now) c.takes.now;
  params = tys_instance c.types.now c.params.now;
  result = ty_instance c.types.now c.result.now;
}

-- what a scrutinee is of
abbrev pub chosen_in : matched.Chosen → Chosen
chosen_in on = record { number = on.number; types = on.types.now; datatype = on.datatype.now }

-- an arm with what is found of its body
unfoldable pub arm_of : Env → RawArm → ArmPart
arm_of E arm = record { at = arm.at; datatype = arm.datatype; con = arm.con; vars = arm.vars; body = part_of E arm.body }

-- a scrutinee that is typed already
abbrev pub scrutinee_part : Scrutinee → Part
scrutinee_part s = record { at = s.on_at; own = λ (bound : List Ty). Ok s.found }

-- the type of a variable, after which nothing is written
unfoldable pub variable_type_found : Env → Option Ty → List RawTy → ℕ → Result Ty Broken
variable_type_found E stands types at = do
  _ ← needs (length types == 0) Arity at
  T ← there stands Arity at
  _ ← needs (is_met E.place T) Oversize at
  Ok T

-- an arm's constructor: the pattern, and then its variables
unfoldable pub pattern_found : Env → Chosen → Slots → ArmPart → Result ConDef Broken
pattern_found E on slots arm = do
  c ← there (pattern_of E.program arm) Arity arm.at
  _ ← needs (arm.datatype == on.number) Mismatch arm.at
  _ ← needs (is_open slots arm.con) ArmRepeated arm.at
  _ ← each_two (variable_met E) arm.vars (tys_instance on.types c.fields)
  Ok c

-- the arms with one more, of this constructor, whose body begins here and is typed
unfoldable pub filled_found : Slots → ℕ → ℕ → Typed → Result Slots Broken
filled_found slots at con found = do
  _ ← needs (agrees slots.ty found.ty) Mismatch at
  Ok (record { ty = Some found.ty; bodies = slice_set slots.bodies con (Some found.term) })
