-- What the code's trees of stops and of steps stand for, and what each of its functions that finds what is done gives. This file is for proofs.
use Rattle.std.specs.Prelude.{◌≡◌, ◌≢◌, ℕ, ◌≤◌, ◌<◌, List, [], ◌∷◌, map, Bool, true, ◌&&◌, nat_le, ◌==◌, false, Option, Some, None, slice_get}
use Rattle.std.specs.List.{flat_map}
use Rattle.std.specs.Option.{option_map}
use Rattle.px_base.specs.declared.limits.TheConstants.{SEQUENT_NODES, SEQUENT_DEPTH}
use Rattle.px_terms.specs.declared.term.Term.{Term, out-Term}
use Rattle.px_terms.specs.declared.clause.Equation.{Equation}
use Rattle.px_terms.specs.declared.clause.Sigma.{Sigma}
use Rattle.px_terms.specs.declared.program.Program.{Program}
use Rattle.px_terms.specs.declared.row.Kind.{Kind}
use Rattle.px_terms.specs.declared.row.Kind.TheVariants as kind
use Rattle.px_terms.specs.Terms.{term_size, term_depth, term_instance}
use Rattle.px_terms.specs.Programs.{body_of}
use Rattle.px_terms.specs.Rows.{HaveOneHead}
use Rattle.px_terms.specs.Steps.{Turns}
use Rattle.px_prover.specs.declared.deeds.Setting.{Setting}
use Rattle.px_prover.specs.declared.deeds.Deed.{Deed as Done}
use Rattle.px_prover.specs.declared.deeds.Deed.TheVariants as done
use Rattle.px_prover.specs.declared.stages.Room.{Room as Limits}
use Rattle.px_prover.specs.declared.stages.Stage.{Stage}
use Rattle.px_prover.specs.declared.stages.Stage.TheOpen.{Stage-F}
use Rattle.px_prover.specs.declared.stages.Stage.TheFolds.{fold-Stage}
use Rattle.px_prover.specs.declared.stages.StopTree.{StopTree}
use Rattle.px_prover.specs.declared.stages.StopTree.TheOpen.{StopTree-F}
use Rattle.px_prover.specs.declared.stages.StopTree.TheFolds.{fold-StopTree}
use Rattle.px_prover.specs.Rooms.{Room}
use Rattle.px_prover.specs.Deeds.{FirstRewrite, Deed, takes, leads, rests, own_deed, deed_at, permitted}
use Rattle.px_prover.specs.Norms.{Stops, stops_with}
use Rattle.px_prover.specs.Moves.{Move}
use Rattle.px_prover.specs.Settling.{facts_used}

-- what a tree of stops says of the part at a path, from what the trees below it say
abbrev pub stops_step : StopTree-F Stops → Stops
stops_step layer = stops_with layer.own layer.parts

-- what a tree of stops says of the part at a path
abbrev pub stops_in : StopTree → Stops
stops_in = fold-StopTree Stops stops_step

-- what trees of stops say of the parts at a path, as of the parts of one term that is not blocked itself
abbrev pub stops_of : List StopTree → Stops
stops_of trees = stops_with None (map stops_in trees)

-- moves below a child
abbrev pub moves_below : ℕ → List Move → List Move
moves_below child = map (λ (m : Move). record { path = child ∷ m.path; kind = m.kind })

-- the moves of a stage, from those of the stages below it
abbrev pub moves_step : Stage-F (List Move) → List Move
moves_step (Stage-F.Here kind) = record { path = []; kind = kind } ∷ []
moves_step (Stage-F.Below child stages) = moves_below child (flat_map (λ (moves : List Move). moves) stages)

-- the moves of a stage
abbrev pub moves_in : Stage → List Move
moves_in = fold-Stage (List Move) moves_step

-- the moves of stages, one after the other
abbrev pub moves_of : List Stage → List Move
moves_of = flat_map moves_in

-- The room is for terms of at most so many nodes and levels.
pub record IsRoom (room : Room) (nodes levels : ℕ) : Type 0 where
  pub is : (t : Term) → room t ≡ (nat_le (term_size t) nodes && nat_le (term_depth t) levels)

-- the used facts that terms are normalised with
abbrev pub live : Setting → List Equation
live setting = facts_used setting.used.now setting.facts.now

-- The facts that are used stand in both lists at the same places.
pub record KeepsUsed (used : List Bool) (facts all : List Equation) : Type 0 where
  pub keeps : (i : ℕ) (e : Equation) → slice_get used i ≡ Some true → slice_get facts i ≡ Some e → slice_get all i ≡ Some e

-- the deed that is done
abbrev pub deed_of : Done → Deed
deed_of (done.Takes k t) = takes t
deed_of (done.Leads body) = leads body
deed_of done.Rests = rests

-- what is done is a step, for a unit, within the limits
abbrev pub IsStep : Setting → Term → Limits → Done → Type 0
IsStep setting t limits (done.Takes k u) =
    (0 < limits.units) × (term_size u ≤ limits.nodes) × (term_depth u ≤ limits.levels) ×
    ((all : List Equation) → KeepsUsed setting.used.now setting.facts.now all → Turns setting.program.now all k t u)
IsStep setting t limits (done.Leads u) =
    (0 < limits.units) × (term_size u ≤ limits.nodes) × (term_depth u ≤ limits.levels) ×
    ((all : List Equation) → KeepsUsed setting.used.now setting.facts.now all → Turns setting.program.now all kind.Unfold t u)
IsStep setting t limits done.Rests = Unit {0}

-- This is what is done at t, in each room of this measure.
pub record IsDone (setting : Setting) (t : Term) (limits : Limits) (d : Done) : Type 0 where
  pub rewritten : Option Term
  pub first : FirstRewrite (live setting) t rewritten
  pub is : (room : Room) → IsRoom room limits.nodes limits.levels → deed_of d ≡ permitted room limits.units (deed_at setting.program.now rewritten t)
  pub step : IsStep setting t limits d

-- The fact of this number is the lowest used one that rewrites the term.
pub record IsRewriting (setting : Setting) (t : Term) (number : ℕ) : Type 0 where
  pub fact : Equation
  pub stands : slice_get setting.facts.now number ≡ Some fact
  pub is_used : slice_get setting.used.now number ≡ Some true
  pub left : t ≡ fact.left
  pub first : FirstRewrite (live setting) t (Some fact.right)

-- The fact of this number is used, the term is its left side, and its right side is another one.
pub record UsesToRewrite (setting : Setting) (t : Term) (number : ℕ) : Type 0 where
  pub fact : Equation
  pub stands : slice_get setting.facts.now number ≡ Some fact
  pub is_used : slice_get setting.used.now number ≡ Some true
  pub left : fact.left ≡ t
  pub differ : t ≢ fact.right

-- what becomes of a term by a step of this kind, if anything
abbrev pub step_if : Kind → Option Term → Done
step_if k None = done.Rests
step_if k (Some t) = done.Takes k t

-- what a call is led on from, if anything
abbrev pub body_if : Option Term → Done
body_if None = done.Rests
body_if (Some t) = done.Leads t

-- by order, or by equality
abbrev pub comparison : Bool → ℕ → ℕ → Bool
comparison true x y = nat_le x y
comparison false x y = x == y

-- what is done needs no more levels than these
abbrev pub HasLevels : ℕ → Done → Type 0
HasLevels levels (done.Takes k t) = term_depth t ≤ levels
HasLevels levels (done.Leads t) = term_depth t ≤ levels
HasLevels levels done.Rests = Unit {0}

-- The fact of this number takes what it rewrites to its right side.
pub record IsFactDeed (facts : List Equation) (number most : ℕ) (k : Kind) (t : Term) : Type 0 where
  pub fact : Equation
  pub stands : slice_get facts number ≡ Some fact
  pub kind_is : k ≡ kind.Fact number true
  pub is : t ≡ fact.right
  pub nodes : term_size t ≤ most

-- this is what the fact of this number does, unless it has more nodes than these
abbrev pub IsFactDone : List Equation → ℕ → ℕ → Done → Type 0
IsFactDone facts number nodes (done.Takes k t) = IsFactDeed facts number nodes k t
IsFactDone facts number nodes (done.Leads t) = ⊥
IsFactDone facts number nodes done.Rests = (e : Equation) → slice_get facts number ≡ Some e → nodes < term_size e.right

-- the deed makes more nodes than these
abbrev pub IsTooLarge : ℕ → Deed → Type 0
IsTooLarge nodes (takes t) = nodes < term_size t
IsTooLarge nodes (leads t) = nodes < term_size t
IsTooLarge nodes rests = Unit {0}

-- The deed is what is done at the term by itself, a step of this kind.
pub record IsOwnDeed (P : Program) (t : Term) (most : ℕ) (deed : Deed) (k : Kind) (u : Term) : Type 0 where
  pub is : own_deed P (out-Term t) ≡ deed
  pub nodes : term_size u ≤ most
  pub turns : (facts : List Equation) → Turns P facts k t u

-- this is what is done at the term by itself, unless it has more nodes than these
abbrev pub IsOwnDone : Program → Term → ℕ → Done → Type 0
IsOwnDone P t nodes (done.Takes k u) = IsOwnDeed P t nodes (takes u) k u
IsOwnDone P t nodes (done.Leads u) = IsOwnDeed P t nodes (leads u) kind.Unfold u
IsOwnDone P t nodes done.Rests = IsTooLarge nodes (own_deed P (out-Term t))

-- this is the body of the definition of this number, with this put in, unless it has more nodes than these
abbrev pub CalledUpTo : ℕ → Program → ℕ → Sigma → Option Term → Type 0
CalledUpTo nodes P number sigma (Some t) = (option_map (term_instance sigma) (body_of P number) ≡ Some t) × (term_size t ≤ nodes)
CalledUpTo nodes P number sigma None = (t : Term) → option_map (term_instance sigma) (body_of P number) ≡ Some t → nodes < term_size t

-- this is what becomes of the deed, unless it has more nodes than these
abbrev pub TakesUpTo : ℕ → Deed → Option Term → Type 0
TakesUpTo nodes deed (Some t) = (deed ≡ takes t) × (term_size t ≤ nodes)
TakesUpTo nodes deed None = (t : Term) → deed ≡ takes t → nodes < term_size t

-- Both terms are one constructor.
pub record HasOneHead (s t : Term) : Type 0 where
  pub fields : List Term
  pub parts : List Term
  pub one : HaveOneHead s t fields parts

-- The room is within the limits of a sequent.
pub record IsLimited (limits : Limits) : Type 0 where
  pub nodes : limits.nodes ≤ SEQUENT_NODES
  pub levels : limits.levels ≤ SEQUENT_DEPTH

-- this is the deed, a step at t, unless it makes more nodes than these
abbrev pub IsUpTo : Setting → Term → ℕ → Deed → Done → Type 0
IsUpTo setting t nodes deed (done.Takes k u) =
    (deed ≡ takes u) × (term_size u ≤ nodes) × ((all : List Equation) → KeepsUsed setting.used.now setting.facts.now all → Turns setting.program.now all k t u)
IsUpTo setting t nodes deed (done.Leads u) =
    (deed ≡ leads u) × (term_size u ≤ nodes) × ((all : List Equation) → KeepsUsed setting.used.now setting.facts.now all → Turns setting.program.now all kind.Unfold t u)
IsUpTo setting t nodes deed done.Rests = IsTooLarge nodes deed

-- The first that is to be done at t, unless it makes more nodes than these.
pub record IsFirst (setting : Setting) (t : Term) (nodes : ℕ) (d : Done) : Type 0 where
  pub rewritten : Option Term
  pub first : FirstRewrite (live setting) t rewritten
  pub done : IsUpTo setting t nodes (deed_at setting.program.now rewritten t) d

-- nothing is done where no unit is left, or where that needs more levels than there are
pub data IsPermitted (limits : Limits) (first d : Done) : Type 0 where
  whole : 0 < limits.units → HasLevels limits.levels first → d ≡ first → IsPermitted limits first d
  no_unit : limits.units ≡ 0 → d ≡ done.Rests → IsPermitted limits first d
  too_deep : ¬ HasLevels limits.levels first → d ≡ done.Rests → IsPermitted limits first d
