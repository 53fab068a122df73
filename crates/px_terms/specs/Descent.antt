-- Descent: each self-call of a definition passes something smaller, at positions that no self-call raises.
use Rattle.std.specs.Prelude.{◌≡◌, ◌⊎◌, ℕ, ◌+◌, ◌<◌, ◌==◌, List, [], ◌∷◌, ◌++◌, length, map, replicate, Option, Some, None, slice_get, get_or, unwrap_or, if◌then◌else◌, All}
use Rattle.std.specs.List.{flat_map}
use Rattle.std.specs.Option.{option_map}
use Rattle.px_base.specs.declared.head.Head.{Head}
use Rattle.px_base.specs.declared.head.Head.TheVariants.{Def, Wle, Weq, FnVar}
use Rattle.px_terms.specs.declared.types.Ty.{Ty}
use Rattle.px_terms.specs.declared.term.Term.{Term}
use Rattle.px_terms.specs.declared.term.Term.TheOpen.{Term-F}
use Rattle.px_terms.specs.declared.term.Term.TheFolds.{fold-Term}
use Rattle.px_terms.specs.declared.program.ConDef.{ConDef}
use Rattle.px_terms.specs.declared.program.Def as definition
use Rattle.px_terms.specs.declared.program.Program.{Program}
use Rattle.px_terms.specs.Programs.{constructor_at}

-- What a term is to a definition's parameters: the parameter of this position itself, a variable below it, or neither.
pub data Standing : Type 0 where
  itself : ℕ → Standing
  below : ℕ → Standing
  elsewhere : Standing

-- a variable of a pattern is below what the match is on
abbrev pub under : Standing → Standing
under (itself p) = below p
under (below p) = below p
under elsewhere = elsewhere

-- What is seen of a term: what it is to the parameters, and the self-calls in it in preorder, each by what its arguments are.
pub record Walk : Type 0 where
  pub stands : Standing
  pub calls : List (List Standing)

-- what is seen of a term, by what the pattern variables around it are
abbrev pub Seen : Type 0
Seen = List Standing → Walk

-- a term that is no variable, with these self-calls in it
abbrev pub no_variable : List (List Standing) → Walk
no_variable calls = record { stands = elsewhere; calls = calls }

-- how many fields constructor k of datatype d has
abbrev pub field_count : Program → ℕ → ℕ → ℕ
field_count P d k = unwrap_or (option_map (λ (c : ConDef). length c.fields) (constructor_at P d k)) 0

-- the self-calls in the parts, where these pattern variables are around them
abbrev pub calls_in : List Seen → List Standing → List (List Standing)
calls_in parts bound = flat_map (λ (part : Seen). (part bound).calls) parts

-- the self-calls in the arms of a match, from constructor k on: as many variables more are around an arm as its constructor has fields
abbrev pub calls_in_arms : Program → ℕ → ℕ → List Seen → Standing → List Standing → List (List Standing)
calls_in_arms P d k [] on bound = []
calls_in_arms P d k (arm ∷ arms) on bound = (arm (replicate (field_count P d k) (under on) ++ bound)).calls ++ calls_in_arms P d (k + 1) arms on bound

-- a call of definition n is a self-call; here by what the arguments are
abbrev pub self_call : ℕ → Head → List Standing → List (List Standing)
self_call n (Def m) args = if m == n then args ∷ [] else []
self_call n Wle args = []
self_call n Weq args = []
self_call n (FnVar i) args = []

-- what is seen of a term in the body of definition n, by what is seen of its parts
abbrev pub walk_step : Program → ℕ → Term-F Seen → Seen
walk_step P n (Term-F.Free p) bound = record { stands = itself p; calls = [] }
walk_step P n (Term-F.Bound i) bound = record { stands = get_or bound i elsewhere; calls = [] }
walk_step P n (Term-F.Lit w) bound = no_variable []
walk_step P n (Term-F.Con d k types fields) bound = no_variable (calls_in fields bound)
walk_step P n (Term-F.Call f funs args) bound = no_variable (self_call n f.head (map (λ (arg : Seen). (arg bound).stands) args) ++ calls_in args bound)
walk_step P n (Term-F.Match on d types arms) bound = no_variable ((on bound).calls ++ calls_in_arms P d 0 arms (on bound).stands bound)

-- what is seen of a term in the body of definition n
abbrev pub walk : Program → ℕ → Term → Seen
walk P n = fold-Term Seen (walk_step P n)

-- the self-calls of definition n in preorder, each by what its arguments are
abbrev pub self_calls : Program → ℕ → definition.Def → List (List Standing)
self_calls P n D = (walk P n D.body []).calls

-- the call passes at this position what is below its parameter
abbrev pub Lowers : List Standing → ℕ → Type 0
Lowers args p = slice_get args p ≡ Some (below p)

-- the call passes at this position its parameter, or what is below it
abbrev pub Keeps : List Standing → ℕ → Type 0
Keeps args p = (slice_get args p ≡ Some (itself p)) ⊎ Lowers args p

-- The call raises none of the positions, and lowers one.
pub record Falls (positions : List ℕ) (args : List Standing) : Type 0 where
  pub never_raised : All (Keeps args) positions
  pub lowered : (i p : ℕ) × (slice_get positions i ≡ Some p) × Lowers args p

-- A definition descends: at some of its data positions each of its self-calls falls.
pub record Descends (P : Program) (n : ℕ) (D : definition.Def) : Type 0 where
  pub positions : List ℕ
  pub within : All (λ (p : ℕ). p < length D.params) positions
  pub falls : All (Falls positions) (self_calls P n D)

-- every definition descends
pub record AllDescend (P : Program) : Type 0 where
  pub each : (n : ℕ) (D : definition.Def) → slice_get P.defs n ≡ Some D → Descends P n D

-- Position p is kept by each self-call of the definition: the set of these positions is the largest that no self-call raises.
pub record IsKept (P : Program) (n : ℕ) (D : definition.Def) (p : ℕ) : Type 0 where
  pub within : p < length D.params
  pub kept : All (λ (args : List Standing). Keeps args p) (self_calls P n D)

-- The self-call of this number lowers no position that each self-call keeps.
pub record IsStuck (P : Program) (n : ℕ) (D : definition.Def) (call : ℕ) : Type 0 where
  pub args : List Standing
  pub stands : slice_get (self_calls P n D) call ≡ Some args
  pub stuck : (p : ℕ) → IsKept P n D p → ¬ Lowers args p

-- The first definition that does not descend, and its first self-call that lowers no position of the largest set.
pub record IsFirstStuck (P : Program) (n call : ℕ) : Type 0 where
  pub D : definition.Def
  pub stands : slice_get P.defs n ≡ Some D
  pub stuck : IsStuck P n D call
  pub earlier_calls : (c : ℕ) → c < call → ¬ IsStuck P n D c
  pub earlier_defs : (m : ℕ) (E : definition.Def) → m < n → slice_get P.defs m ≡ Some E → Descends P m E
