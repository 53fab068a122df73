-- What the calls answer that check the declarations of a program in turn, and what they know of the program so far.
use Rattle.std.specs.Prelude.{◌≡◌, ◌⊎◌, ◌<◌, ◌^◌, ℕ, Bool, List, length, Result, Ok, Err, slice_get}
use Rattle.std.specs.List.{list_any}
use Rattle.px_base.specs.PropSets.{has_prop}
use Rattle.px_base.specs.declared.prop.Prop.{Prop}
use Rattle.px_base.specs.declared.prop.PropSet.{PropSet}
use Rattle.px_base.specs.declared.raw.RawDef.{RawDef}
use Rattle.px_base.specs.declared.raw.RawReplica.{RawReplica}
use Rattle.px_base.specs.declared.raw.RawProgram.{RawProgram}
use Rattle.px_terms.specs.declared.types.Ty.{Ty}
use Rattle.px_terms.specs.declared.term.Term.{Term}
use Rattle.px_terms.specs.declared.program.Def.{Def}
use Rattle.px_terms.specs.declared.program.Declared.{Declared}
use Rattle.px_terms.specs.declared.program.Program.{Program}
use Rattle.px_terms.specs.Typing.{in_body}
use Rattle.px_terms.specs.TypedPrograms.{own_context}
use Rattle.px_types.specs.declared.ends.TypeEnd.{TypeEnd}
use Rattle.px_types.specs.declared.ends.TypeEnd.TheVariants.{Fault, NoMemory}
use Rattle.px_types.specs.declared.ends.TypeKind.TheVariants.{Arity, NotJoin}
use Rattle.px_types.specs.declared.lemmas.Variables.{Variables}
use Rattle.px_types.specs.Faults.{Broken, breaks, Env}
use Rattle.px_types.specs.Answers.{EndsAs}
use Rattle.px_types.specs.Declarations.{with_definition, with_obligations, obligations_of, with_replica, replica_env, IsFault}
use Rattle.px_types.specs.Outcomes.{◌>>=◌, needs, there}
use Rattle.px_types.specs.Outcome.{passes, is_property_of, tys_found, signature_of, arguments_found}
use Rattle.px_types.specs.NextOutcome.{Heading, has_merge_counts, is_joining}

-- The obligations of the program, its definitions and its lemmas can be numbered below 2^32.
pub record AreFew (P : Program) : Type 0 where
  pub declared : length P.declared < 2 ^ 32
  pub defs : length P.defs < 2 ^ 32
  pub lemmas : length P.lemmas < 2 ^ 32

-- the answer stands for the outcome, by what it is read as, or memory ran out
abbrev pub AnswersAs : {S T : Type 0} → (S → T) → Result T Broken → Result S TypeEnd → Type 0
AnswersAs read out (Ok x) = out ≡ Ok (read x)
AnswersAs read out (Err end) = EndsAs out end

-- the program is the one that is found, or the answer is the fault, or memory ran out
abbrev pub Takes : Result Program Broken → Program → Result (Unit {0}) TypeEnd → Type 0
Takes out new result = AnswersAs (λ (_ : Unit {0}). new) out result

-- the property is in the set that stands for definition n
abbrev pub is_noted : List PropSet → ℕ → Prop → Bool
is_noted notes n p = passes (λ (set : PropSet). has_prop set p) (slice_get notes n)

-- The sets are those of the properties that are among these obligations, definition by definition.
pub record AreNotes (declared : List Declared) (notes : List PropSet) : Type 0 where
  pub are : (n : ℕ) (p : Prop) → is_noted notes n p ≡ list_any (is_property_of n p) declared

-- where the body of definition n of the program stands
abbrev pub own_env : Program → ℕ → Def → Env
own_env P n D = record { program = P; place = in_body n; context = own_context D }

-- the program with the next definition and its own properties
abbrev pub with_whole : Program → RawDef → Def → Program
with_whole P raw D = with_obligations (with_definition P D) (obligations_of (length P.defs) raw.props)

-- the types that stand before a lemma's equations
abbrev pub heading_of : Variables → Heading
heading_of v = record { funs = v.funs; vars = v.vars }

-- a replica with this state and first value: the merge's counts, its types, its functions, and that it joins
abbrev pub merge_rest : Program → RawReplica → Ty → Term → Result Program Broken
merge_rest P r state from = do
  _ ← needs (has_merge_counts P r) Arity r.merge.at
  types ← tys_found P 0 r.merge.types
  s ← there (signature_of (replica_env P) r.merge.head types) Arity r.merge.at
  funs ← arguments_found (replica_env P) r.funs s.takes
  _ ← needs (is_joining P r.merge.head s state) NotJoin r.merge.at
  Ok (with_replica P (record { state = state; from = from; merge = record { head = r.merge.head; types = types }; funs = funs; seen = length P.declared }))

-- what an end says of a written program: of a fault that it is the first; of want of memory nothing
abbrev pub IsEnd : RawProgram → TypeEnd → Type 0
IsEnd raw (Fault kind at) = IsFault raw (breaks kind at)
IsEnd raw NoMemory = Unit {0}

-- the answer is this one, or memory ran out
abbrev pub IsUnlessNoMemory : Result Program TypeEnd → Result Program TypeEnd → Type 0
IsUnlessNoMemory answer result = (result ≡ answer) ⊎ (result ≡ Err NoMemory)
