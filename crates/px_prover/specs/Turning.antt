-- What each of the functions that normalise gives. This file is for proofs.
use Rattle.std.specs.Prelude.{◌≡◌, ℕ, ◌+◌, ◌≤◌, ◌<◌, List, [], ◌∷◌, ◌++◌, map, length, Option, Some, None, slice_set, max}
use Rattle.px_base.specs.declared.limits.TheConstants.{SEQUENT_NODES, SEQUENT_DEPTH, FACTS}
use Rattle.px_terms.specs.declared.types.Ty.{Ty}
use Rattle.px_terms.specs.declared.term.Term.{Term, out-Term}
use Rattle.px_terms.specs.declared.term.Term.TheOpen.{Term-F}
use Rattle.px_terms.specs.declared.clause.Equation.{Equation}
use Rattle.px_terms.specs.declared.program.Program.{Program}
use Rattle.px_terms.specs.declared.row.Kind.TheVariants as kind
use Rattle.px_terms.specs.Terms.{term_size, terms_size, term_depth, terms_depth, children, with_child}
use Rattle.px_prover.specs.declared.deeds.Setting.{Setting}
use Rattle.px_prover.specs.declared.norm.Turn.{Turn}
use Rattle.px_prover.specs.declared.norm.Turn.TheVariants as turn
use Rattle.px_prover.specs.declared.norm.LeadEnd.{LeadEnd as Ended}
use Rattle.px_prover.specs.declared.norm.LeadEnd.TheVariants as ended
use Rattle.px_prover.specs.declared.stages.Left.{Left}
use Rattle.px_prover.specs.declared.stages.Room.{Room as Limits}
use Rattle.px_prover.specs.declared.stages.Normal.{Normal as Found}
use Rattle.px_prover.specs.declared.stages.Parted.{Parted as FoundParts}
use Rattle.px_prover.specs.declared.stages.Parts.{Parts as FoundList}
use Rattle.px_prover.specs.declared.stages.Stage.{Stage}
use Rattle.px_prover.specs.declared.stages.Stage.TheVariants as stage
use Rattle.px_prover.specs.Rooms.{Room}
use Rattle.px_prover.specs.Deeds.{FirstRewrite, Deed, takes, deed_at, permitted}
use Rattle.px_prover.specs.Norms.{Normal, Parted, left_at, freed, blocked, Norm, NormParts, NormAt, Lead}
use Rattle.px_prover.specs.Moves.{Move, Moves}
use Rattle.px_prover.specs.Normalising.{stops_in, moves_below, moves_of, IsRoom, live, KeepsUsed}

-- the moves lead from one term to another, each of them among all facts that have the used ones at their places
pub data StepsLead (setting : Setting) (room : Room) : Term → List Move → Term → Type 0 where
  no_step : {t : Term} → StepsLead setting room t [] t
  steps_on : {t u v : Term} {move : Move} {moves : List Move} →
      ((all : List Equation) → KeepsUsed setting.used.now setting.facts.now all → Moves setting.program.now all room t move u) → StepsLead setting room u moves v →
      StepsLead setting room t (move ∷ moves) v

-- The stages lead from t to u.
pub record StagesLead (setting : Setting) (room : Room) (t : Term) (stages : List Stage) (u : Term) : Type 0 where
  pub lead : StepsLead setting room t (moves_of stages) u

-- There are few facts, and with what is left the term is within the limits.
pub record HasRoom (setting : Setting) (t : Term) (left : Left) (most : ℕ) : Type 0 where
  pub few : length setting.facts.now ≤ FACTS
  pub nodes : left.spare + term_size t ≤ SEQUENT_NODES
  pub levels : term_depth t ≤ most
  pub deep : most ≤ SEQUENT_DEPTH

-- the same of several terms, parts of one
pub record HaveRoom (setting : Setting) (ts : List Term) (left : Left) (most : ℕ) : Type 0 where
  pub few : length setting.facts.now ≤ FACTS
  pub nodes : left.spare + terms_size ts ≤ SEQUENT_NODES
  pub levels : terms_depth ts ≤ most
  pub deep : most ≤ SEQUENT_DEPTH

-- What u takes of what was left for t is no longer left.
pub record IsLeft (t : Term) (left : Left) (most : ℕ) (after : Left) (u : Term) : Type 0 where
  pub units : after.units ≤ left.units
  pub nodes : after.spare + term_size u ≡ left.spare + term_size t
  pub levels : term_depth u ≤ most

-- the normal term that was found
abbrev pub normal_of : Found → Normal
normal_of n = record { units = n.left.units; term = n.term; stops = stops_in n.stops }

-- the term with normal parts that was found
abbrev pub parted_of : FoundParts → Parted
parted_of p = record { units = p.left.units; term = p.term; parts = map stops_in p.parts }

-- This is the normal form of t, in each room of this measure, and the stages lead there.
pub record IsNormalised (setting : Setting) (t : Term) (had : Left) (levels : ℕ) (n : Found) : Type 0 where
  pub norm : (room : Room) → IsRoom room (had.spare + term_size t) levels → Norm setting.program.now (live setting) room had.units t (normal_of n)
  pub lead : (room : Room) → IsRoom room (had.spare + term_size t) levels → StagesLead setting room t n.stages n.term
  pub left : IsLeft t had levels n.left n.term

-- This is t with its parts normalised, and the stages lead there.
pub record IsParted (setting : Setting) (t : Term) (had : Left) (levels : ℕ) (p : FoundParts) : Type 0 where
  pub parts : (room : Room) → IsRoom room (had.spare + term_size t) levels → NormParts setting.program.now (live setting) room had.units t 0 (parted_of p)
  pub lead : (room : Room) → IsRoom room (had.spare + term_size t) levels → StagesLead setting room t p.stages p.term
  pub left : IsLeft t had levels p.left p.term

-- A term on its parts: its nodes and levels are those of its parts and some more.
pub record IsFrame (layer : List Term → Term) (size deep : ℕ) : Type 0 where
  pub children : (ts : List Term) → children (layer ts) ≡ ts
  pub put : (ts : List Term) (i : ℕ) (t : Term) → with_child (layer ts) i t ≡ layer (slice_set ts i t)
  pub nodes : (ts : List Term) → term_size (layer ts) ≡ size + terms_size ts
  pub levels : (ts : List Term) → term_depth (layer ts) ≡ 1 + max deep (terms_depth ts)

-- These are the parts of a term on them, normalised, and the stages lead there.
pub record AreNormalised (setting : Setting) (layer : List Term → Term) (ts : List Term) (left : Left) (levels : ℕ) (all : FoundList) : Type 0 where
  pub parts : (room : Room) → IsRoom room (left.spare + term_size (layer ts)) (1 + levels) → NormParts setting.program.now (live setting) room left.units (layer ts) 0
      (record { units = all.left.units; term = layer all.terms; parts = map stops_in all.stops })
  pub lead : (room : Room) → IsRoom room (left.spare + term_size (layer ts)) (1 + levels) → StagesLead setting room (layer ts) all.stages (layer all.terms)

-- What the terms take of what was left for others is no longer left.
pub record AreLeft (ts : List Term) (left : Left) (most : ℕ) (after : Left) (us : List Term) : Type 0 where
  pub units : after.units ≤ left.units
  pub nodes : after.spare + terms_size us ≡ left.spare + terms_size ts
  pub levels : terms_depth us ≤ most

-- At a term with normal parts the first that is to be done is done, and this is its normal form.
pub record NormFrom (P : Program) (facts : List Equation) (room : Room) (p : Parted) (n : Normal) : Type 0 where
  pub rewritten : Option Term
  pub deed : Deed
  pub first : FirstRewrite facts p.term rewritten
  pub is : deed ≡ permitted room p.units (deed_at P rewritten p.term)
  pub at : NormAt P facts room p deed n

-- What is normal after a term with normal parts has become this one, is its normal form.
pub record Goes (setting : Setting) (t : Term) (had : Left) (levels : ℕ) (after : Left) (u : Term) (stages : List Stage) : Type 0 where
  pub norm : (room : Room) → IsRoom room (had.spare + term_size t) levels → (p : Parted) → p.units ≡ had.units → p.term ≡ t → (n : Normal) →
      Norm setting.program.now (live setting) room after.units u n → NormFrom setting.program.now (live setting) room p n
  pub lead : (room : Room) → IsRoom room (had.spare + term_size t) levels → StagesLead setting room t stages u
  pub left : IsLeft t had levels after u
  pub fewer : after.units < had.units

-- A term with normal parts stays, and this blocked its lead.
pub record Stays (setting : Setting) (t : Term) (left : Left) (levels : ℕ) (stop : Option Term) : Type 0 where
  pub norm : (room : Room) → IsRoom room (left.spare + term_size t) levels → (p : Parted) → p.units ≡ left.units → p.term ≡ t →
      NormFrom setting.program.now (live setting) room p (left_at p stop)

-- this is what becomes of a term with normal parts
abbrev pub IsTurn : Setting → Term → Left → ℕ → Turn → Type 0
IsTurn setting t left levels (turn.Goes after u stages) = Goes setting t left levels after u stages
IsTurn setting t left levels (turn.Rests stop) = Stays setting t left levels stop

-- The lead from t ends at this term, and the stages lead there.
pub record IsFreed (setting : Setting) (t : Term) (had : Left) (levels : ℕ) (after : Left) (u : Term) (by : List Stage) : Type 0 where
  pub lead : (room : Room) → IsRoom room (had.spare + term_size t) levels → Lead setting.program.now (live setting) room had.units t (freed u after.units)
  pub stages : (room : Room) → IsRoom room (had.spare + term_size t) levels → StagesLead setting room t by u
  pub left : IsLeft t had levels after u

-- The lead from t is blocked at this.
pub record IsBlocked (setting : Setting) (t : Term) (left : Left) (levels : ℕ) (stop : Option Term) : Type 0 where
  pub lead : (room : Room) → IsRoom room (left.spare + term_size t) levels → Lead setting.program.now (live setting) room left.units t (blocked stop)

-- the lead from t ends so
abbrev pub IsLed : Setting → Term → Left → ℕ → Ended → Type 0
IsLed setting t left levels (ended.Freed after u stages) = IsFreed setting t left levels after u stages
IsLed setting t left levels (ended.Blocked stop) = IsBlocked setting t left levels stop

-- The term, with its steps behind those before it.
pub record IsBehind (before steps : List Stage) (next p : FoundParts) : Type 0 where
  pub left : p.left ≡ next.left
  pub term : p.term ≡ next.term
  pub parts : p.parts ≡ next.parts
  pub stages : p.stages ≡ before ++ steps ++ next.stages

-- A term without parts.
pub record IsUnparted (had : Left) (t : Term) (p : FoundParts) : Type 0 where
  pub left : p.left ≡ had
  pub term : p.term ≡ t
  pub parts : p.parts ≡ []
  pub stages : p.stages ≡ []

-- A unit is left, and the term is within the limits.
pub record HasLimits (limits : Limits) (t : Term) : Type 0 where
  pub units : 0 < limits.units
  pub nodes : term_size t ≤ limits.nodes
  pub most : limits.nodes ≤ SEQUENT_NODES

-- What is left where the term stands there.
pub record IsAfter (limits : Limits) (t : Term) (after : Left) : Type 0 where
  pub units : after.units + 1 ≡ limits.units
  pub nodes : after.spare + term_size t ≡ limits.nodes

-- The term is a match.
pub record IsMatch (t : Term) : Type 0 where
  pub on : Term
  pub datatype : ℕ
  pub types : List Ty
  pub arms : List Term
  pub is : out-Term t ≡ Term-F.Match on datatype types arms

-- this is what is taken, if it is permitted
abbrev pub IsChosen : Limits → Deed → Option Term → Type 0
IsChosen limits deed (Some t) = (deed ≡ takes t) × (0 < limits.units) × (term_size t ≤ limits.nodes) × (term_depth t ≤ limits.levels)
IsChosen limits deed None = (room : Room) → IsRoom room limits.nodes limits.levels → (t : Term) → permitted room limits.units deed ≡ takes t → ⊥

-- the end of a lead, behind the steps of a scrutinee and the selection of an arm
abbrev pub IsAfterSelect : List Stage → Ended → Ended → Type 0
IsAfterSelect scrutinee (ended.Freed after u stages) end = (all : List Stage) × (end ≡ ended.Freed after u all) × (moves_of all ≡ moves_below 0 (moves_of scrutinee) ++ moves_of (stage.Here kind.Select ∷ stages))
IsAfterSelect scrutinee (ended.Blocked stop) end = end ≡ ended.Blocked stop

-- A term at which nothing is done, with what blocked its lead.
pub record IsLeftAt (p : FoundParts) (led : Option Term) (n : Found) : Type 0 where
  pub left : n.left ≡ p.left
  pub term : n.term ≡ p.term
  pub stops : stops_in n.stops ≡ (left_at (parted_of p) led).stops
  pub stages : n.stages ≡ p.stages
