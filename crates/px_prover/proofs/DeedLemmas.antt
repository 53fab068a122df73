-- What is done at a term: the first used fact that rewrites it, or what is done at it by itself.
use Rattle.std.proofs.Common.{◌≡◌, ◌≢◌, ◌≤◌, ◌<◌, ◌+◌, ℕ, zero, suc, List, [], ◌∷◌, length, drop, Bool, true, false, ◌&&◌, if◌then◌else◌, nat_lt, nat_le, Option, Some, None, IsTrue, slice_get, refl, sym, ap, ◌∙◌, subst, arith}
use Rattle.std.specs.Option.{option_map}
use Rattle.std.proofs.lemmas.Bool.{le-leb, leb-true, lt-ltb}
use Rattle.px_base.specs.declared.head.Head.{Head}
use Rattle.px_base.specs.declared.head.Head.TheVariants.{Def, Wle, Weq, FnVar}
use Rattle.px_terms.specs.declared.types.Ty.{Ty}
use Rattle.px_terms.specs.declared.types.Fun.{Fun}
use Rattle.px_terms.specs.declared.term.Term.{Term, out-Term}
use Rattle.px_terms.specs.declared.term.Term.TheOpen.{Term-F}
use Rattle.px_terms.specs.declared.clause.Equation.{Equation}
use Rattle.px_terms.specs.declared.clause.Sigma.{Sigma}
use Rattle.px_terms.specs.declared.program.Program.{Program}
use Rattle.px_terms.specs.declared.row.Kind.{Kind}
use Rattle.px_terms.specs.declared.row.Kind.TheVariants as kind
use Rattle.px_terms.specs.Terms.{term_size, term_depth, term_instance}
use Rattle.px_terms.specs.Programs.{body_of}
use Rattle.px_terms.specs.Steps.{Turns}
use Rattle.px_terms.specs.Steps as steps
use Rattle.px_prover.specs.declared.deeds.Setting.{Setting}
use Rattle.px_prover.specs.declared.deeds.Deed.{Deed as Done}
use Rattle.px_prover.specs.declared.deeds.Deed.TheVariants as done
use Rattle.px_prover.specs.declared.stages.Room.{Room as Limits}
use Rattle.px_prover.specs.Rooms.{Room}
use Rattle.px_prover.specs.Deeds.{HasNoValueHead, Rewrites, FirstRewrite, no_fact, this_fact, next_fact, Deed, takes, leads, rests, leads_if, selected, called, own_deed, deed_at, may, permitted}
use Rattle.px_prover.specs.Settling.{facts_used}
use Rattle.px_prover.specs.Normalising.{IsRoom, live, KeepsUsed, deed_of, IsStep, IsDone, IsRewriting, HasLevels, IsFactDeed, IsFactDone, IsTooLarge, IsOwnDeed, IsOwnDone, CalledUpTo, TakesUpTo, IsUpTo, IsFirst, IsPermitted, whole, no_unit, too_deep}
use Rattle.px_prover.proofs.RoomLemmas.{has_room, within_room}
use Rattle.px_prover.proofs.DeedMoves.{match_selects, match_does_not_lead, call_compares, call_leads}

-- nothing stands behind nothing
none_behind : (i : ℕ) → drop {A = Equation} i [] ≡ []
none_behind zero = refl
none_behind (suc i) = refl

-- of no facts none is used
none_used : (used : List Bool) → facts_used used [] ≡ []
none_used [] = refl
none_used (true ∷ us) = refl
none_used (false ∷ us) = refl

module _ (t : Term) where
  -- no fact rewrites the term
  none_rewrites : (facts : List Equation) → ((e : Equation) → Rewrites e t → ⊥) → FirstRewrite facts t None
  none_rewrites [] none = no_fact
  none_rewrites (e ∷ facts) none = next_fact (none e) (none_rewrites facts none)

  -- the used facts behind one that does not rewrite
  skipped : (facts : List Equation) (used : List Bool) (i : ℕ) (e : Equation) (r : Option Term) → slice_get facts i ≡ Some e → (slice_get used i ≡ Some true → Rewrites e t → ⊥) →
      FirstRewrite (facts_used (drop (suc i) used) (drop (suc i) facts)) t r → FirstRewrite (facts_used (drop i used) (drop i facts)) t r
  skipped [] used i e r here none rest = cc
  skipped (f ∷ fs) [] zero e r here none rest = rest
  skipped (f ∷ fs) (true ∷ us) zero e r here none rest = let same : e ≡ f = cc in next_fact (subst (λ (x : Equation). Rewrites x t → ⊥) same (none refl)) rest
  skipped (f ∷ fs) (false ∷ us) zero e r here none rest = rest
  skipped (f ∷ fs) [] (suc i) e r here none rest = rest
  skipped (f ∷ fs) (u ∷ us) (suc i) e r here none rest = skipped fs us i e r here none rest

  -- the used facts from one that rewrites
  reached : (facts : List Equation) (used : List Bool) (i : ℕ) (e : Equation) → slice_get facts i ≡ Some e → slice_get used i ≡ Some true → Rewrites e t →
      FirstRewrite (facts_used (drop i used) (drop i facts)) t (Some e.right)
  reached [] used i e here there by = cc
  reached (f ∷ fs) [] i e here there by = cc
  reached (f ∷ fs) (true ∷ us) zero e here there by = let same : e ≡ f = cc in this_fact (subst (λ (x : Equation). Rewrites x t) same by) (ap (λ (x : Equation). Some x.right) same)
  reached (f ∷ fs) (false ∷ us) zero e here there by = cc
  reached (f ∷ fs) (u ∷ us) (suc i) e here there by = reached fs us i e here there by

  -- there is no fact behind the last
  past : (facts : List Equation) (used : List Bool) (i : ℕ) → length facts ≤ i → FirstRewrite (facts_used (drop i used) (drop i facts)) t None
  past [] used i most = subst (λ (es : List Equation). FirstRewrite es t None) (sym (ap (facts_used (drop i used)) (none_behind i) ∙ none_used (drop i used))) no_fact
  past (f ∷ fs) us zero most = absurd (omega arith)
  past (f ∷ fs) [] (suc i) most = no_fact
  past (f ∷ fs) (u ∷ us) (suc i) most = past fs us i (omega arith)

-- No used fact before this one rewrites the term.
pub record NoneSoFar (setting : Setting) (t : Term) (i : ℕ) : Type 0 where
  pub rest : (r : Option Term) → FirstRewrite (facts_used (drop i setting.used.now) (drop i setting.facts.now)) t r → FirstRewrite (live setting) t r

pub none_start : (setting : Setting) (t : Term) → NoneSoFar setting t 0
none_start setting t = record { rest = λ r first. first }

-- no term that is a constructor or a literal is rewritten
pub value_stays : (setting : Setting) (t : Term) → (HasNoValueHead (out-Term t) → ⊥) → FirstRewrite (live setting) t None
value_stays setting t value = none_rewrites t (live setting) (λ e by. value by.head)

module _ (setting : Setting) (t : Term) (i : ℕ) (so_far : NoneSoFar setting t i) where
  pub none_next : (e : Equation) → slice_get setting.facts.now i ≡ Some e → ((slice_get setting.used.now i ≡ Some true) × (e.left ≡ t) × (t ≢ e.right) → ⊥) → NoneSoFar setting t (i + 1)
  none_next e here none = record {
    rest = λ r first.
        let one : i + 1 ≡ suc i = omega arith in
        let there = subst (λ (k : ℕ). FirstRewrite (facts_used (drop k setting.used.now) (drop k setting.facts.now)) t r) one first in
        so_far.rest r (skipped t setting.facts.now setting.used.now i e r here (λ used by. none (used, by.left, by.differ)) there);
  }

  pub none_end : length setting.facts.now ≤ i → FirstRewrite (live setting) t None
  none_end most = so_far.rest None (past t setting.facts.now setting.used.now i most)

  pub one_found : (e : Equation) → slice_get setting.facts.now i ≡ Some e → slice_get setting.used.now i ≡ Some true → HasNoValueHead (out-Term t) → e.left ≡ t → t ≢ e.right → IsRewriting setting t i
  one_found e here used head left differ = record {
    fact = e;
    stands = here;
    is_used = used;
    left = sym left;
    first = so_far.rest (Some e.right) (reached t setting.facts.now setting.used.now i e here used (record { left = left; head = head; differ = differ }));
  }

-- a fact that rewrites is the first that is done
pub fact_first : (setting : Setting) (t : Term) (i nodes : ℕ) (d : Done) → IsRewriting setting t i → IsFactDone setting.facts.now i nodes d → IsFirst setting t nodes d
fact_first setting t i nodes (done.Takes k u) by is =
    let same : is.fact ≡ by.fact = cc in
    record {
      rewritten = Some by.fact.right;
      first = by.first;
      done =
          let u_is : u ≡ by.fact.right = is.is ∙ ap (λ (e : Equation). e.right) same in (
            ap takes (sym u_is),
            is.nodes,
            λ all keeps. subst (λ (x : Kind). Turns setting.program.now all x t u) (sym is.kind_is) (steps.rewrites (keeps.keeps i by.fact by.is_used by.stands) by.left u_is),
          );
    }
fact_first setting t i nodes (done.Leads u) by is = absurd is
fact_first setting t i nodes done.Rests by is = record { rewritten = Some by.fact.right; first = by.first; done = is by.fact by.stands }

-- where no fact rewrites, what is done by itself is the first that is done
pub own_first : (setting : Setting) (t : Term) (nodes : ℕ) (d : Done) → FirstRewrite (live setting) t None → IsOwnDone setting.program.now t nodes d → IsFirst setting t nodes d
own_first setting t nodes (done.Takes k u) first is = record { rewritten = None; first = first; done = (is.is, is.nodes, λ all keeps. is.turns all) }
own_first setting t nodes (done.Leads u) first is = record { rewritten = None; first = first; done = (is.is, is.nodes, λ all keeps. is.turns all) }
own_first setting t nodes done.Rests first is = record { rewritten = None; first = first; done = is }

-- what is false of a truth value that would be true
not_true : (b : Bool) → (b ≡ true → ⊥) → b ≡ false
not_true true never = absurd (never refl)
not_true false never = refl

not_both : (a b : Bool) → b ≡ false → (a && b) ≡ false
not_both true b e = e
not_both false b e = refl

-- what has no room is not permitted
no_room_takes : (room : Room) (units : ℕ) (t : Term) → (IsTrue (room t) → ⊥) → permitted room units (takes t) ≡ rests
no_room_takes room units t never = ap (λ (b : Bool). if b then takes t else rests) (not_both (nat_lt 0 units) (room t) (not_true (room t) never))

no_room_leads : (room : Room) (units : ℕ) (t : Term) → (IsTrue (room t) → ⊥) → permitted room units (leads t) ≡ rests
no_room_leads room units t never = ap (λ (b : Bool). if b then leads t else rests) (not_both (nat_lt 0 units) (room t) (not_true (room t) never))

too_large : {room : Room} {nodes levels : ℕ} → IsRoom room nodes levels → (units : ℕ) (deed : Deed) → IsTooLarge nodes deed → permitted room units deed ≡ rests
too_large {room} {nodes} is units (takes t) large = no_room_takes room units t (λ fits. let few = (within_room is t fits).0 in omega arith)
too_large {room} {nodes} is units (leads t) large = no_room_leads room units t (λ fits. let few = (within_room is t fits).0 in omega arith)
too_large is units rests large = refl

no_units : (room : Room) (deed : Deed) → permitted room 0 deed ≡ rests
no_units room (takes t) = refl
no_units room (leads t) = refl
no_units room rests = refl

pub permitted_take : (room : Room) (units : ℕ) (t : Term) → 0 < units → IsTrue (room t) → permitted room units (takes t) ≡ takes t
permitted_take room units t some fits = ap (λ (b : Bool). if b then takes t else rests) (λ k. lt-ltb 0 units some k && fits k)

pub permitted_lead : (room : Room) (units : ℕ) (t : Term) → 0 < units → IsTrue (room t) → permitted room units (leads t) ≡ leads t
permitted_lead room units t some fits = ap (λ (b : Bool). if b then leads t else rests) (λ k. lt-ltb 0 units some k && fits k)

-- the first that is done, too deep
deep_rests : {room : Room} (limits : Limits) (setting : Setting) (t : Term) (nodes : ℕ) (d : Done) (deed : Deed) → IsRoom room limits.nodes limits.levels → IsUpTo setting t nodes deed d → ¬ HasLevels limits.levels d →
    permitted room limits.units deed ≡ rests
deep_rests {room} limits setting t nodes (done.Takes k u) deed is up deep =
    ap (permitted room limits.units) up.0 ∙ no_room_takes room limits.units u (λ fits. deep (within_room is u fits).1)
deep_rests {room} limits setting t nodes (done.Leads u) deed is up deep =
    ap (permitted room limits.units) up.0 ∙ no_room_leads room limits.units u (λ fits. deep (within_room is u fits).1)
deep_rests limits setting t nodes done.Rests deed is up deep = absurd (deep tt)

-- what is done is the first that is to be done, where it is permitted
pub done_is : (setting : Setting) (t : Term) (limits : Limits) (first d : Done) → IsFirst setting t (if nat_lt 0 limits.units then limits.nodes else 0) first → IsPermitted limits first d → IsDone setting t limits d
done_is setting t limits first d is (no_unit none same) = record {
  rewritten = is.rewritten;
  first = is.first;
  is = λ room m. let made : deed_of d ≡ rests = ap deed_of same in made ∙ sym (ap (λ (units : ℕ). permitted room units (deed_at setting.program.now is.rewritten t)) none ∙ no_units room (deed_at setting.program.now is.rewritten t));
  step = subst (IsStep setting t limits) (sym same) tt;
}
done_is setting t limits first d is (too_deep deep same) = record {
  rewritten = is.rewritten;
  first = is.first;
  is = λ room m. let made : deed_of d ≡ rests = ap deed_of same in made ∙ sym (deep_rests limits setting t _ first (deed_at setting.program.now is.rewritten t) m is.done deep);
  step = subst (IsStep setting t limits) (sym same) tt;
}
done_is setting t limits first d is (whole some shallow same) =
    let nodes : (if nat_lt 0 limits.units then limits.nodes else 0) ≡ limits.nodes = ap (λ (b : Bool). if b then limits.nodes else 0) (lt-ltb 0 limits.units some) in
    let up = subst (λ (m : ℕ). IsUpTo setting t m (deed_at setting.program.now is.rewritten t) first) nodes is.done in
    subst (IsDone setting t limits) (sym same) (whole_is first up shallow)
  where
    whole_is : (f : Done) → IsUpTo setting t limits.nodes (deed_at setting.program.now is.rewritten t) f → HasLevels limits.levels f → IsDone setting t limits f
    whole_is (done.Takes k u) up shallow = record {
      rewritten = is.rewritten;
      first = is.first;
      is = λ room m. sym (ap (permitted room limits.units) up.0 ∙ permitted_take room limits.units u some (has_room m u up.1 shallow));
      step = (some, up.1, shallow, up.2);
    }
    whole_is (done.Leads u) up shallow = record {
      rewritten = is.rewritten;
      first = is.first;
      is = λ room m. sym (ap (permitted room limits.units) up.0 ∙ permitted_lead room limits.units u some (has_room m u up.1 shallow));
      step = (some, up.1, shallow, up.2);
    }
    whole_is done.Rests up shallow = record {
      rewritten = is.rewritten;
      first = is.first;
      is = λ room m. sym (too_large m limits.units (deed_at setting.program.now is.rewritten t) up);
      step = tt;
    }
