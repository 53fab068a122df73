-- What becomes of a term with normal parts, as it is found.
use Rattle.std.proofs.Common.{◌≡◌, ◌+◌, ◌-◌, ◌^◌, ℕ, min, List, [], ◌∷◌, Option, None, refl, subst}
use Rattle.px_terms.specs.declared.term.Term.{Term}
use Rattle.px_terms.specs.declared.row.Kind.{Kind}
use Rattle.px_terms.specs.declared.row.Kind.TheVariants as kind
use Rattle.px_terms.specs.Terms.{term_size}
use Rattle.px_prover.specs.declared.deeds.Setting.{Setting}
use Rattle.px_prover.specs.declared.deeds.Deed.{Deed as Done}
use Rattle.px_prover.specs.declared.deeds.Deed.TheVariants as done
use Rattle.px_prover.specs.declared.norm.LeadEnd.{LeadEnd as Ended}
use Rattle.px_prover.specs.declared.norm.LeadEnd.TheVariants as ended
use Rattle.px_prover.specs.declared.stages.Left.{Left}
use Rattle.px_prover.specs.declared.stages.Room.{Room as Limits}
use Rattle.px_prover.specs.declared.stages.Stage.{Stage}
use Rattle.px_prover.specs.declared.stages.Stage.TheVariants as stage
use Rattle.px_prover.specs.Normalising.{IsDone}
use Rattle.px_prover.specs.Turning.{HasRoom, Goes, Stays, IsLed, IsAfter}
use Rattle.px_prover.proofs.LayerLemmas.{nodes_are}
use Rattle.px_prover.proofs.TurnLemmas.{turn_rests, turn_takes, turn_stuck, turn_led}

module _ (setting : Setting) (t : Term) (left : Left) (levels count : ℕ) (d : Done) (fits : HasRoom setting t left levels) (counted : count ≡ min (term_size t) (2 ^ 64 - 1))
    (made : IsDone setting t (record { units = left.units; nodes = left.spare + count; levels = levels }) d) where
  -- the room that there is
  abbrev room_now : Limits
  room_now = record { units = left.units; nodes = left.spare + count; levels = levels }

  same : left.spare + count ≡ left.spare + term_size t
  same = nodes_are setting t left levels count fits counted

  made_as : (e : Done) → d ≡ e → IsDone setting t room_now e
  made_as e is = subst (IsDone setting t room_now) is made

  -- nothing is done
  pub turned_rests : d ≡ done.Rests → Stays setting t left levels None
  turned_rests is = turn_rests setting t left levels room_now refl same refl (made_as done.Rests is)

  -- a step is taken
  pub turned_takes : (k : Kind) (u : Term) (after : Left) (stages : List Stage) → d ≡ done.Takes k u → IsAfter room_now u after → stages ≡ stage.Here k ∷ [] → Goes setting t left levels after u stages
  turned_takes k u after stages is left_is one = turn_takes setting t left levels room_now refl same refl k u after stages (made_as (done.Takes k u) is) left_is one

  module _ (body : Term) (mid : Left) (end : Ended) (is : d ≡ done.Leads body) (mid_is : IsAfter room_now body mid) (led : IsLed setting body mid levels end) where
    -- the lead is blocked
    pub turned_blocked : (stop : Option Term) → end ≡ ended.Blocked stop → Stays setting t left levels stop
    turned_blocked stop end_is = turn_stuck setting t left levels room_now refl same refl body mid (made_as (done.Leads body) is) mid_is stop (subst (IsLed setting body mid levels) end_is led)

    -- the lead is freed
    pub turned_freed : (after : Left) (u : Term) (stages all : List Stage) → end ≡ ended.Freed after u stages → all ≡ stage.Here kind.Unfold ∷ stages → Goes setting t left levels after u all
    turned_freed after u stages all end_is all_is = turn_led setting t left levels room_now refl same refl body mid (made_as (done.Leads body) is) mid_is u after stages all (subst (IsLed setting body mid levels) end_is led) all_is
