-- How a lead goes on from a match, as it is found.
use Rattle.std.proofs.Common.{◌≡◌, ◌+◌, ◌-◌, ◌^◌, ℕ, min, List, Option, Some, None, Bool, true, false, refl, sym, ap, ◌∙◌, subst}
use Rattle.std.specs.Option.{is_some}
use Rattle.px_terms.specs.declared.types.Ty.{Ty}
use Rattle.px_terms.specs.declared.term.Term.{Term, out-Term}
use Rattle.px_terms.specs.declared.term.Term.TheVariants as term
use Rattle.px_terms.specs.declared.term.Term.TheOpen.{Term-F}
use Rattle.px_terms.specs.Terms.{term_size}
use Rattle.px_prover.specs.declared.deeds.Setting.{Setting}
use Rattle.px_prover.specs.declared.norm.LeadEnd.{LeadEnd as Ended}
use Rattle.px_prover.specs.declared.norm.LeadEnd.TheVariants as ended
use Rattle.px_prover.specs.declared.stages.Left.{Left}
use Rattle.px_prover.specs.declared.stages.Room.{Room as Limits}
use Rattle.px_prover.specs.declared.stages.Normal.{Normal as Found}
use Rattle.px_prover.specs.Deeds.{selected}
use Rattle.px_prover.specs.Norms.{inner, match_of}
use Rattle.px_prover.specs.Normalising.{stops_in}
use Rattle.px_prover.specs.Turning.{HasRoom, IsNormalised, IsMatch, IsChosen, IsBlocked, IsLed, IsAfter, IsAfterSelect}
use Rattle.px_prover.proofs.LayerLemmas.{match_is, nodes_are}
use Rattle.px_prover.proofs.TurnLemmas.{lead_waits, lead_stuck, lead_freed}

-- a term that is a match by its layer
pub some_match : (t : Term) → is_some (match_of (out-Term t)) ≡ true → IsMatch t
some_match t told = by_layer (out-Term t) refl told
  where
    by_layer : (y : Term-F Term) → out-Term t ≡ y → is_some (match_of y) ≡ true → IsMatch t
    by_layer (Term-F.Free n) is e = cc
    by_layer (Term-F.Bound n) is e = cc
    by_layer (Term-F.Lit w) is e = cc
    by_layer (Term-F.Con d k types fields) is e = cc
    by_layer (Term-F.Call f funs args) is e = cc
    by_layer (Term-F.Match on d types arms) is e = record { on = on; datatype = d; types = types; arms = arms; is = is }

-- a term that is none
pub no_match_of : (o : Option (Term × List Term)) → is_some o ≡ false → o ≡ None
no_match_of None told = refl
no_match_of (Some m) told = cc

module _ (setting : Setting) (t : Term) (left : Left) (levels : ℕ) (on by : Term) (d : ℕ) (types : List Ty) (arms bs : List Term) (count : ℕ) (n : Found) (found : Option Term)
    (is : t ≡ term.Match on d types arms) (by_is : by ≡ on) (bs_are : bs ≡ arms) (fits : HasRoom setting t left levels) (counted : count ≡ min (term_size t) (2 ^ 64 - 1))
    (normal_is : IsNormalised setting by left (levels - 1) n) (chosen : IsChosen (record { units = n.left.units; nodes = left.spare + count; levels = levels }) (selected setting.program.now bs (out-Term n.term)) found) where
  -- the room that there is
  abbrev room_now : Limits
  room_now = record { units = n.left.units; nodes = left.spare + count; levels = levels }

  abbrev layer : IsMatch t
  layer = match_is t on d types arms is

  normal_on : IsNormalised setting on left (levels - 1) n
  normal_on = subst (λ (x : Term). IsNormalised setting x left (levels - 1) n) by_is normal_is

  chosen_of : (o : Option Term) → found ≡ o → IsChosen room_now (selected setting.program.now arms (out-Term n.term)) o
  chosen_of o same = subst (IsChosen room_now (selected setting.program.now arms (out-Term n.term))) same (subst (λ (l : List Term). IsChosen room_now (selected setting.program.now l (out-Term n.term)) found) bs_are chosen)

  -- nothing is selected
  pub match_waits : (stop : Option Term) → found ≡ None → stop ≡ inner n.term (stops_in n.stops) → IsBlocked setting t left levels stop
  match_waits stop none stop_is = lead_waits setting t left levels layer fits n normal_on room_now refl (nodes_are setting t left levels count fits counted) refl stop (chosen_of None none) stop_is

  -- an arm is selected
  pub match_goes : (next : Term) (mid : Left) (end made : Ended) → found ≡ Some next → IsAfter room_now next mid → IsLed setting next mid levels end → IsAfterSelect n.stages end made → IsLed setting t left levels made
  match_goes next mid (ended.Freed after u stages) made some mid_is led after_is =
      subst (IsLed setting t left levels) (sym after_is.1)
      (lead_freed setting t left levels layer fits n normal_on room_now refl (nodes_are setting t left levels count fits counted) refl next (chosen_of (Some next) some) mid mid_is after u stages after_is.0 led after_is.2)
  match_goes next mid (ended.Blocked stop) made some mid_is led after_is =
      subst (IsLed setting t left levels) (sym after_is)
      (lead_stuck setting t left levels layer fits n normal_on room_now refl (nodes_are setting t left levels count fits counted) refl next (chosen_of (Some next) some) mid mid_is stop led)
