-- Normalising: what is done at a term with normal parts, over and over, and how a lead goes on.
use Rattle.std.proofs.Common.{◌≡◌, ◌≤◌, ◌<◌, ◌+◌, ◌-◌, ℕ, zero, suc, List, [], ◌∷◌, ◌++◌, map, length, Bool, true, false, ◌&&◌, if◌then◌else◌, nat_lt, Option, Some, None, IsTrue, refl, sym, ap, ◌∙◌, subst, arith}
use Rattle.std.proofs.lemmas.Grind.{flat_map-append}
use Rattle.std.proofs.lemmas.List.{append_assoc, append-nil}
use Rattle.px_base.specs.declared.limits.TheConstants.{SEQUENT_NODES, FACTS}
use Rattle.px_terms.specs.declared.term.Term.{Term, out-Term}
use Rattle.px_terms.specs.declared.term.Term.TheVariants as term
use Rattle.px_terms.specs.declared.term.Term.TheOpen.{Term-F}
use Rattle.px_terms.specs.declared.clause.Equation.{Equation}
use Rattle.px_terms.specs.declared.program.Program.{Program}
use Rattle.px_terms.specs.declared.row.Kind.{Kind}
use Rattle.px_terms.specs.declared.row.Kind.TheVariants as kind
use Rattle.px_terms.specs.Terms.{term_size, term_depth, children, with_child_of, with_child}
use Rattle.px_terms.specs.Steps.{Turns}
use Rattle.px_prover.specs.declared.deeds.Setting.{Setting}
use Rattle.px_prover.specs.declared.deeds.Deed.TheVariants as done
use Rattle.px_prover.specs.declared.stages.Left.{Left}
use Rattle.px_prover.specs.declared.stages.Room.{Room as Limits}
use Rattle.px_prover.specs.declared.stages.Normal.{Normal as Found}
use Rattle.px_prover.specs.declared.stages.Parted.{Parted as FoundParts}
use Rattle.px_prover.specs.declared.stages.Stage.{Stage}
use Rattle.px_prover.specs.declared.stages.Stage.TheVariants as stage
use Rattle.px_prover.specs.declared.stages.Stage.TheOpen.{Stage-F}
use Rattle.px_prover.specs.declared.stages.Stage.TheFolds.{map-Stage, fold_out-Stage}
use Rattle.px_prover.specs.Rooms.{Room, room_in}
use Rattle.px_prover.specs.Deeds.{FirstRewrite, Deed, takes, leads, rests, selected, deed_at, may, permitted}
use Rattle.px_prover.specs.Norms.{Normal, Parted, inner, left_at, LeadEnd, freed, blocked, match_of, Norm, NormParts, NormAt, Lead, normal, taken, led, stuck, rested, no_match, goes_on, waits}
use Rattle.px_prover.specs.Moves.{Move}
use Rattle.px_prover.specs.Normalising.{stops_in, moves_step, moves_below, moves_in, moves_of, IsRoom, live, KeepsUsed, IsDone}
use Rattle.px_prover.specs.Turning.{StepsLead, no_step, steps_on, StagesLead, HasRoom, IsLeft, normal_of, parted_of, IsNormalised, IsParted, NormFrom, Goes, Stays, IsFreed, IsBlocked, IsBehind, HasLimits, IsAfter, IsMatch, IsChosen, IsLeftAt}
use Rattle.px_prover.proofs.RoomLemmas.{has_room}
use Rattle.px_prover.proofs.PartLemmas.{match_left, match_lead, scrutinee_room}
use Rattle.px_prover.proofs.StageLemmas.{moves_first}
use Rattle.px_prover.proofs.StepLemmas.{steps_joined}
use Rattle.px_prover.proofs.DeedLemmas.{permitted_take}
use Rattle.px_prover.proofs.DeedMoves.{match_selects, match_does_not_lead, permitted_leads}

-- a step at a term leads on
pub step_leads : (setting : Setting) (room : Room) (t u v : Term) (k : Kind) (stages : List Stage) → ((all : List Equation) → KeepsUsed setting.used.now setting.facts.now all → Turns setting.program.now all k t u) →
    IsTrue (room u) → StepsLead setting room u (moves_of stages) v → StepsLead setting room t (moves_of (stage.Here k ∷ stages)) v
step_leads setting room t u v k stages turns fits lead =
    subst (λ (ms : List Move). StepsLead setting room t ms v) (sym (moves_first k stages))
    (steps_on (λ all keeps. record { part = t; becomes = u; at = refl; turns = turns all keeps; whole = refl; fits = fits }) lead)

-- one measure for another that is equal
pub measured : {room : Room} {a b levels : ℕ} → a ≡ b → IsRoom room a levels → IsRoom room b levels
measured {room} {a} {b} {levels} same is = subst (λ (m : ℕ). IsRoom room m levels) same is

-- The term has become this one with normal parts, and is normalised on from there.
pub record NormSoFar (setting : Setting) (t : Term) (had : Left) (levels : ℕ) (p : FoundParts) : Type 0 where
  pub norm : (room : Room) → IsRoom room (had.spare + term_size t) levels → (n : Normal) → NormFrom setting.program.now (live setting) room (parted_of p) n → Norm setting.program.now (live setting) room had.units t n
  pub lead : (room : Room) → IsRoom room (had.spare + term_size t) levels → StagesLead setting room t p.stages p.term
  pub left : IsLeft t had levels p.left p.term

pub norm_start : (setting : Setting) (t : Term) (left : Left) (levels : ℕ) (p : FoundParts) → IsParted setting t left levels p → NormSoFar setting t left levels p
norm_start setting t left levels p is = record {
  norm = λ room measure n from. normal (is.parts room measure) from.first from.is from.at;
  lead = is.lead;
  left = is.left;
}

-- it fits
pub fits_so_far : (setting : Setting) (t : Term) (left : Left) (levels : ℕ) (p : FoundParts) → HasRoom setting t left levels → NormSoFar setting t left levels p → HasRoom setting p.term p.left levels
fits_so_far setting t left levels p fits so_far = record { few = fits.few; nodes = omega (arith, fits.nodes, so_far.left.nodes); levels = so_far.left.levels; deep = fits.deep }

-- what a term becomes fits
pub fits_then : (setting : Setting) (t : Term) (left : Left) (levels : ℕ) (after : Left) (u : Term) → HasRoom setting t left levels → IsLeft t left levels after u → HasRoom setting u after levels
fits_then setting t left levels after u fits is = record { few = fits.few; nodes = omega (arith, fits.nodes, is.nodes); levels = is.levels; deep = fits.deep }

module _ (setting : Setting) (t : Term) (left : Left) (levels : ℕ) (p : FoundParts) (so_far : NormSoFar setting t left levels p) where
  here : (room : Room) → IsRoom room (left.spare + term_size t) levels → IsRoom room (p.left.spare + term_size p.term) levels
  here room is = measured (sym so_far.left.nodes) is

  -- it becomes another one
  pub norm_next : (after : Left) (u : Term) (steps : List Stage) (next q : FoundParts) → Goes setting p.term p.left levels after u steps → IsParted setting u after levels next → IsBehind p.stages steps next q →
      NormSoFar setting t left levels q
  norm_next after u steps next q goes is behind =
      let there : (room : Room) → IsRoom room (left.spare + term_size t) levels → IsRoom room (after.spare + term_size u) levels =
      λ room m. measured (sym goes.left.nodes) (here room m) in
      let same : parted_of q ≡ parted_of next = λ k. record { units = (behind.left k).units; term = behind.term k; parts = map stops_in (behind.parts k) } in
      let moves : moves_of q.stages ≡ moves_of p.stages ++ (moves_of steps ++ moves_of next.stages) =
      ap moves_of behind.stages ∙ flat_map-append moves_in (p.stages ++ steps) next.stages ∙ ap (λ (ms : List Move). ms ++ moves_of next.stages) (flat_map-append moves_in p.stages steps) ∙
      append_assoc (moves_of p.stages) (moves_of steps) (moves_of next.stages) in
      record {
        norm = λ room m n from.
            let on_next = subst (λ (x : Parted). NormFrom setting.program.now (live setting) room x n) same from in
            let of_u : Norm setting.program.now (live setting) room after.units u n = normal (is.parts room (there room m)) on_next.first on_next.is on_next.at in
            so_far.norm room m n (goes.norm room (here room m) (parted_of p) refl refl n of_u);
        lead = λ room m. record {
          lead =
              let first = (so_far.lead room m).lead in
              let second = (goes.lead room (here room m)).lead in
              let third = (is.lead room (there room m)).lead in
              let whole = steps_joined first (steps_joined second third) in
              subst (λ (x : Term). StepsLead setting room t (moves_of q.stages) x) (sym behind.term)
              (subst (λ (ms : List Move). StepsLead setting room t ms next.term) (sym moves) whole);
        };
        left =
            let units = ap (λ (l : Left). l.units) behind.left in
            let spare = ap (λ (l : Left). l.spare) behind.left in
            let size = ap term_size behind.term in
            let depth = ap term_depth behind.term in
            let few = is.left.levels in
            record {
              units = omega (arith, units, is.left.units, goes.left.units, so_far.left.units);
              nodes = omega (arith, spare, size, is.left.nodes, goes.left.nodes, so_far.left.nodes);
              levels = omega (arith, depth, few);
            };
      }

  -- it stays
  pub norm_end : (stop : Option Term) (n : Found) → Stays setting p.term p.left levels stop → IsLeftAt p stop n → IsNormalised setting t left levels n
  norm_end stop n stays at =
      let same : left_at (parted_of p) stop ≡ normal_of n = λ k. record { units = (sym at.left k).units; term = sym at.term k; stops = sym at.stops k } in
      record {
        norm = λ room m. so_far.norm room m (normal_of n) (subst (λ (x : Normal). NormFrom setting.program.now (live setting) room (parted_of p) x) same (stays.norm room (here room m) (parted_of p) refl refl));
        lead = λ room m. record {
          lead =
              subst (λ (x : Term). StepsLead setting room t (moves_of n.stages) x) (sym at.term)
              (subst (λ (l : List Stage). StepsLead setting room t (moves_of l) p.term) (sym at.stages) ((so_far.lead room m).lead));
        };
        left =
            let units = ap (λ (l : Left). l.units) at.left in
            let spare = ap (λ (l : Left). l.spare) at.left in
            let size = ap term_size at.term in
            let depth = ap term_depth at.term in
            let few = so_far.left.levels in
            record { units = omega (arith, units, so_far.left.units); nodes = omega (arith, spare, size, so_far.left.nodes); levels = omega (arith, depth, few) };
      }

module _ (setting : Setting) (t : Term) (left : Left) (levels : ℕ) (limits : Limits) (units_are : limits.units ≡ left.units) (nodes_are : limits.nodes ≡ left.spare + term_size t) (levels_are : limits.levels ≡ levels) where
  here_limits : (room : Room) → IsRoom room (left.spare + term_size t) levels → IsRoom room limits.nodes limits.levels
  here_limits room is = subst (λ (l : ℕ). IsRoom room limits.nodes l) (sym levels_are) (measured (sym nodes_are) is)

  module _ (d : _) (is : IsDone setting t limits d) (room : Room) (m : IsRoom room (left.spare + term_size t) levels) (p : Parted) (units : p.units ≡ left.units) (same : p.term ≡ t) where
    first_here : FirstRewrite (live setting) p.term is.rewritten
    first_here = subst (λ (x : Term). FirstRewrite (live setting) x is.rewritten) (sym same) is.first

    deed_here : (deed : Deed) → deed ≡ permitted room limits.units (deed_at setting.program.now is.rewritten t) → deed ≡ permitted room p.units (deed_at setting.program.now is.rewritten p.term)
    deed_here deed e = e ∙ (λ k. permitted room ((units_are ∙ sym units) k) (deed_at setting.program.now is.rewritten (sym same k)))

  -- nothing is done
  pub turn_rests : IsDone setting t limits done.Rests → Stays setting t left levels None
  turn_rests is = record {
    norm = λ room m p units same. record {
      rewritten = is.rewritten;
      deed = rests;
      first = first_here done.Rests is room m p units same;
      is = deed_here done.Rests is room m p units same rests (is.is room (here_limits room m));
      at = rested refl refl;
    };
  }

  -- what is left after a step
  step_left : (u : Term) (after : Left) → term_depth u ≤ limits.levels → IsAfter limits u after → IsLeft t left levels after u
  step_left u after shallow is = record {
    units = omega (arith, is.units, units_are);
    nodes = omega (arith, is.nodes, nodes_are);
    levels = omega (arith, shallow, levels_are);
  }

  -- a step is taken
  pub turn_takes : (k : Kind) (u : Term) (after : Left) (stages : List Stage) → IsDone setting t limits (done.Takes k u) → IsAfter limits u after → stages ≡ stage.Here k ∷ [] → Goes setting t left levels after u stages
  turn_takes k u after stages is left_is one = record {
    norm = λ room m p units same n norm. record {
      rewritten = is.rewritten;
      deed = takes u;
      first = first_here (done.Takes k u) is room m p units same;
      is = deed_here (done.Takes k u) is room m p units same (takes u) (is.is room (here_limits room m));
      at =
          let fewer : after.units ≡ p.units - 1 = omega (arith, left_is.units, units_are, units) in
          taken refl (subst (λ (x : ℕ). Norm setting.program.now (live setting) room x u n) fewer norm);
    };
    lead = λ room m. record {
      lead =
          subst (λ (l : List Stage). StepsLead setting room t (moves_of l) u) (sym one)
          (step_leads setting room t u u k [] (is.step.3) (has_room (here_limits room m) u is.step.1 is.step.2) no_step);
    };
    left = step_left u after is.step.2 left_is;
    fewer = omega (arith, left_is.units, units_are);
  }

  module _ (body : Term) (mid : Left) (is : IsDone setting t limits (done.Leads body)) (mid_is : IsAfter limits body mid) where
    mid_room : (room : Room) → IsRoom room (left.spare + term_size t) levels → IsRoom room (mid.spare + term_size body) levels
    mid_room room m = measured (sym nodes_are ∙ sym mid_is.nodes) m

    -- the body fits
    pub body_fits : HasRoom setting t left levels → HasRoom setting body mid levels
    body_fits fits = record { few = fits.few; nodes = omega (arith, mid_is.nodes, nodes_are, fits.nodes); levels = let shallow = is.step.2 in omega (arith, shallow, levels_are); deep = fits.deep }

    fewer_here : (p : Parted) → p.units ≡ left.units → mid.units ≡ p.units - 1
    fewer_here p units = omega (arith, mid_is.units, units_are, units)

    -- a lead that is blocked
    pub turn_stuck : (stop : Option Term) → IsBlocked setting body mid levels stop → Stays setting t left levels stop
    turn_stuck stop lead = record {
      norm = λ room m p units same. record {
        rewritten = is.rewritten;
        deed = leads body;
        first = first_here (done.Leads body) is room m p units same;
        is = deed_here (done.Leads body) is room m p units same (leads body) (is.is room (here_limits room m));
        at = stuck refl (subst (λ (x : ℕ). Lead setting.program.now (live setting) room x body (blocked stop)) (fewer_here p units) (lead.lead room (mid_room room m))) refl refl;
      };
    }

    -- a lead that is freed
    pub turn_led : (u : Term) (after : Left) (stages all : List Stage) → IsFreed setting body mid levels after u stages → all ≡ stage.Here kind.Unfold ∷ stages → Goes setting t left levels after u all
    turn_led u after stages whole lead whole_is = record {
      norm = λ room m p units same n norm. record {
        rewritten = is.rewritten;
        deed = leads body;
        first = first_here (done.Leads body) is room m p units same;
        is = deed_here (done.Leads body) is room m p units same (leads body) (is.is room (here_limits room m));
        at = led refl (subst (λ (x : ℕ). Lead setting.program.now (live setting) room x body (freed u after.units)) (fewer_here p units) (lead.lead room (mid_room room m))) refl norm;
      };
      lead = λ room m. record {
        lead =
            subst (λ (l : List Stage). StepsLead setting room t (moves_of l) u) (sym whole_is)
            (step_leads setting room t body u kind.Unfold stages (is.step.3) (has_room (here_limits room m) body is.step.1 is.step.2) ((lead.stages room (mid_room room m)).lead));
      };
      left = record {
        units = omega (arith, lead.left.units, mid_is.units, units_are);
        nodes = omega (arith, lead.left.nodes, mid_is.nodes, nodes_are);
        levels = lead.left.levels;
      };
      fewer = omega (arith, lead.left.units, mid_is.units, units_are);
    }

-- a lead from a term that is no match
pub lead_free : (setting : Setting) (t : Term) (left : Left) (levels : ℕ) → match_of (out-Term t) ≡ None → term_depth t ≤ levels → IsFreed setting t left levels left t []
lead_free setting t left levels none shallow = record {
  lead = λ room m. no_match none refl;
  stages = λ room m. record { lead = no_step };
  left = record { units = omega arith; nodes = refl; levels = shallow };
}

-- nothing is permitted that is not taken and not led
permitted_nothing : (room : Room) (units : ℕ) (deed : Deed) → ((t : Term) → permitted room units deed ≡ takes t → ⊥) → ((t : Term) → permitted room units deed ≡ leads t → ⊥) → permitted room units deed ≡ rests
permitted_nothing room units deed no_take no_lead = one_of (permitted room units deed) no_take no_lead
  where
    one_of : (d : Deed) → ((t : Term) → d ≡ takes t → ⊥) → ((t : Term) → d ≡ leads t → ⊥) → d ≡ rests
    one_of (takes t) no_take no_lead = absurd (no_take t refl)
    one_of (leads t) no_take no_lead = absurd (no_lead t refl)
    one_of rests no_take no_lead = refl

module _ (setting : Setting) (t : Term) (left : Left) (levels : ℕ) (is_match : IsMatch t) (fits : HasRoom setting t left levels) (n : Found) (normal_is : IsNormalised setting is_match.on left (levels - 1) n)
    (limits : Limits) (units_are : limits.units ≡ n.left.units) (nodes_are : limits.nodes ≡ left.spare + term_size t) (levels_are : limits.levels ≡ levels) where
  two_parts : match_of (out-Term t) ≡ Some (is_match.on, is_match.arms)
  two_parts = ap match_of is_match.is

  in_limits : (room : Room) → IsRoom room (left.spare + term_size t) levels → IsRoom room limits.nodes limits.levels
  in_limits room is = subst (λ (l : ℕ). IsRoom room limits.nodes l) (sym levels_are) (measured (sym nodes_are) is)

  -- nothing is selected
  pub lead_waits : (stop : Option Term) → IsChosen limits (selected setting.program.now is_match.arms (out-Term n.term)) None → stop ≡ inner n.term (stops_in n.stops) → IsBlocked setting t left levels stop
  lead_waits stop chosen stop_is = record {
    lead = λ room m.
        let P = setting.program.now in
        let deed = selected P is_match.arms (out-Term n.term) in
        let no_lead : (u : Term) → permitted room n.left.units deed ≡ leads u → ⊥ =
        λ u e. match_does_not_lead P [] t u (out-Term n.term) is_match.arms (permitted_leads room n.left.units deed e).same in
        let no_take : (u : Term) → permitted room n.left.units deed ≡ takes u → ⊥ =
        λ u e. chosen room (in_limits room m) u (ap (λ (units : ℕ). permitted room units deed) units_are ∙ e) in
        waits two_parts (normal_is.norm (room_in room t 0) (scrutinee_room setting t left levels is_match fits room m)) (permitted_nothing room n.left.units deed no_take no_lead) (ap blocked stop_is);
  }

  module _ (next : Term) (chosen : IsChosen limits (selected setting.program.now is_match.arms (out-Term n.term)) (Some next)) (mid : Left) (mid_is : IsAfter limits next mid) where
    -- what is selected fits
    pub next_fits : HasRoom setting next mid levels
    next_fits = record { few = fits.few; nodes = omega (arith, mid_is.nodes, nodes_are, fits.nodes); levels = let shallow = chosen.3 in omega (arith, shallow, levels_are); deep = fits.deep }

    next_room : (room : Room) → IsRoom room (left.spare + term_size t) levels → IsRoom room (mid.spare + term_size next) levels
    next_room room m = measured (sym nodes_are ∙ sym mid_is.nodes) m

    goes_with : (room : Room) → IsRoom room (left.spare + term_size t) levels → (end : LeadEnd) → Lead setting.program.now (live setting) room mid.units next end → Lead setting.program.now (live setting) room left.units t end
    goes_with room m end lead =
        let P = setting.program.now in
        let room_is = has_room (in_limits room m) next chosen.2 chosen.3 in
        let some : 0 < n.left.units = subst (λ (x : ℕ). 0 < x) units_are chosen.1 in
        let taken_is : permitted room n.left.units (selected P is_match.arms (out-Term n.term)) ≡ takes next = ap (permitted room n.left.units) chosen.0 ∙ permitted_take room n.left.units next some room_is in
        let fewer : mid.units ≡ n.left.units - 1 = omega (arith, mid_is.units, units_are) in
        goes_on two_parts (normal_is.norm (room_in room t 0) (scrutinee_room setting t left levels is_match fits room m)) taken_is (subst (λ (x : ℕ). Lead P (live setting) room x next end) fewer lead)

    -- the lead goes on, and is blocked
    pub lead_stuck : (stop : Option Term) → IsBlocked setting next mid levels stop → IsBlocked setting t left levels stop
    lead_stuck stop lead = record { lead = λ room m. goes_with room m (blocked stop) (lead.lead room (next_room room m)) }

    -- the lead goes on, and is freed
    pub lead_freed : (after : Left) (u : Term) (stages whole : List Stage) → IsFreed setting next mid levels after u stages →
        moves_of whole ≡ moves_below 0 (moves_of n.stages) ++ moves_of (stage.Here kind.Select ∷ stages) → IsFreed setting t left levels after u whole
    lead_freed after u stages whole lead whole_is = record {
      lead = λ room m. goes_with room m (freed u after.units) (lead.lead room (next_room room m));
      stages = λ room m. record {
        lead =
            let P = setting.program.now in
            let below = match_lead setting t left levels is_match fits n normal_is room m in
            let now : out-Term (with_child t 0 n.term) ≡ Term-F.Match n.term is_match.datatype is_match.types is_match.arms =
            ap (λ (y : Term-F Term). out-Term (with_child_of y t 0 n.term)) is_match.is ∙ term.outs-Match n.term is_match.datatype is_match.types is_match.arms in
            let turns = λ (all : List Equation) (keeps : KeepsUsed setting.used.now setting.facts.now all). match_selects P all (with_child t 0 n.term) next (out-Term n.term) n.term is_match.datatype is_match.types is_match.arms refl now chosen.0 in
            let here = step_leads setting room (with_child t 0 n.term) next u kind.Select stages turns (has_room (in_limits room m) next chosen.2 chosen.3) ((lead.stages room (next_room room m)).lead) in
            subst (λ (ms : List Move). StepsLead setting room t ms u) (sym whole_is) (steps_joined below here);
      };
      left = record {
        units = omega (arith, lead.left.units, mid_is.units, units_are, normal_is.left.units);
        nodes = omega (arith, lead.left.nodes, mid_is.nodes, nodes_are);
        levels = lead.left.levels;
      };
    }
