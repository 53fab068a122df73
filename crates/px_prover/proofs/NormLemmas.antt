-- Normalising: the parts of a term one after the other, and then the term itself, over and over.
use Rattle.std.proofs.Common.{◌≡◌, ◌≤◌, ◌<◌, ◌+◌, ◌-◌, ℕ, zero, suc, max, List, [], ◌∷◌, ◌++◌, map, length, drop, take, Bool, true, false, Option, Some, None, IsTrue, slice_get, slice_set, refl, sym, ap, ◌∙◌, subst, arith}
use Rattle.std.proofs.lemmas.List.{append_assoc, append-nil, map-append, length-append}
use Rattle.px_base.specs.declared.limits.TheConstants.{SEQUENT_NODES, FACTS}
use Rattle.std.proofs.lemmas.Grind.{flat_map-append}
use Rattle.std.proofs.lemmas.Option.{slice_get_past}
use Rattle.px_terms.specs.declared.types.Ty.{Ty}
use Rattle.px_terms.specs.declared.types.Fun.{Fun}
use Rattle.px_terms.specs.declared.term.Term.{Term, out-Term}
use Rattle.px_terms.specs.declared.term.Term.TheVariants as term
use Rattle.px_terms.specs.declared.term.Term.TheOpen.{Term-F}
use Rattle.px_terms.specs.declared.clause.Equation.{Equation}
use Rattle.px_terms.specs.declared.program.Program.{Program}
use Rattle.px_terms.specs.Terms.{term_size, terms_size, term_depth, terms_depth, children_of, children, with_child_of, with_child}
use Rattle.px_prover.specs.declared.deeds.Setting.{Setting}
use Rattle.px_prover.specs.declared.stages.Left.{Left}
use Rattle.px_prover.specs.declared.stages.Normal.{Normal as Found}
use Rattle.px_prover.specs.declared.stages.Parted.{Parted as FoundParts}
use Rattle.px_prover.specs.declared.stages.Stage.{Stage}
use Rattle.px_prover.specs.declared.stages.StopTree.{StopTree}
use Rattle.px_prover.specs.Rooms.{Room, room_in}
use Rattle.px_prover.specs.Norms.{Stops, Normal, Parted, Norm, NormParts, normal, no_part, part}
use Rattle.px_prover.specs.Moves.{Move}
use Rattle.px_prover.specs.Normalising.{stops_in, moves_below, moves_of, IsRoom, live, KeepsUsed}
use Rattle.px_prover.specs.Turning.{StepsLead, no_step, StagesLead, HasRoom, HaveRoom, IsLeft, AreLeft, IsFrame, normal_of, parted_of, IsNormalised, IsParted, AreNormalised, NormFrom, Goes, Stays, IsBehind, IsUnparted, IsLeftAt}
use Rattle.px_rewrite.proofs.PartSizes.{Exchanged}
use Rattle.px_prover.proofs.FrameLemmas.{in_list, levels_in_list, child_room, exchanged, child_levels}
use Rattle.px_prover.proofs.MixedLists.{mixed, mixed_all}
use Rattle.px_prover.proofs.ChildMoves.{child_same}
use Rattle.px_prover.proofs.StepLemmas.{steps_joined, steps_below}

-- The parts of a term up to number i are normalised.
pub record EachSoFar (setting : Setting) (ts : List Term) (had : Left) (levels i : ℕ) (now : Left) (terms : List Term) (stops : List StopTree) (stages : List Stage) : Type 0 where
  pub count : length terms ≡ i
  pub left : AreLeft ts had levels now (terms ++ drop i ts)
  pub goes : (layer : List Term → Term) (nodes deep : ℕ) → IsFrame layer nodes deep → deep ≤ levels → (room : Room) → IsRoom room (had.spare + term_size (layer ts)) (1 + levels) → (q : Parted) →
      NormParts setting.program.now (live setting) room now.units (layer (terms ++ drop i ts)) i q →
      NormParts setting.program.now (live setting) room had.units (layer ts) 0 (record q { parts = map stops_in stops ++ q.parts })
  pub lead : (layer : List Term → Term) (nodes deep : ℕ) → IsFrame layer nodes deep → deep ≤ levels → (room : Room) → IsRoom room (had.spare + term_size (layer ts)) (1 + levels) →
      StagesLead setting room (layer ts) stages (layer (terms ++ drop i ts))

-- before the first part
pub each_start : (setting : Setting) (ts : List Term) (left : Left) (levels : ℕ) → terms_depth ts ≤ levels → EachSoFar setting ts left levels 0 left [] [] []
each_start setting ts left levels few = record {
  count = refl;
  left = record { units = omega arith; nodes = refl; levels = few };
  goes = λ layer nodes deep frame most room is q parts. parts;
  lead = λ layer nodes deep frame most room is. record { lead = no_step };
}

module _ (setting : Setting) (ts : List Term) (left : Left) (levels i : ℕ) (now : Left) (terms : List Term) (stops : List StopTree) (stages : List Stage)
    (so_far : EachSoFar setting ts left levels i now terms stops stages) (c : Term) (here : slice_get ts i ≡ Some c) where
  -- the terms at hand
  abbrev at_hand : List Term
  at_hand = terms ++ drop i ts

  here_too : slice_get at_hand i ≡ Some c
  here_too = (mixed terms ts i c c so_far.count here).found

  -- the next part fits
  pub part_fits : HaveRoom setting ts left levels → HasRoom setting c now levels
  part_fits fit =
      let whole = in_list at_hand i c c here_too in
      record {
        few = fit.few;
        nodes = omega (arith, whole.within, so_far.left.nodes, fit.nodes);
        levels = (levels_in_list at_hand i levels c c here_too so_far.left.levels).was;
        deep = fit.deep;
      }

  module _ (n : Found) (normal_is : IsNormalised setting c now levels n) (more : List Stage) (moves : moves_of more ≡ moves_of stages ++ moves_below i (moves_of n.stages)) where
    -- the terms after it
    abbrev then_at_hand : List Term
    then_at_hand = (terms ++ n.term ∷ []) ++ drop (i + 1) ts

    put_is : slice_set at_hand i n.term ≡ then_at_hand
    put_is =
        let one : suc i ≡ i + 1 = omega arith in
        (mixed terms ts i c n.term so_far.count here).put ∙ ap (λ (k : ℕ). (terms ++ n.term ∷ []) ++ drop k ts) one

    left_next : AreLeft ts left levels n.left then_at_hand
    left_next =
        let whole = in_list at_hand i c n.term here_too in
        let after : terms_size (slice_set at_hand i n.term) ≡ terms_size then_at_hand = ap terms_size put_is in
        let shallow = (levels_in_list at_hand i levels c n.term here_too so_far.left.levels).there normal_is.left.levels in
        record {
          units = omega (arith, normal_is.left.units, so_far.left.units);
          nodes = omega (arith, whole.same, whole.within, after, normal_is.left.nodes, so_far.left.nodes);
          levels = subst (λ (us : List Term). terms_depth us ≤ levels) put_is shallow;
        }

    module _ (layer : List Term → Term) (nodes deep : ℕ) (frame : IsFrame layer nodes deep) (most : deep ≤ levels) (room : Room) (is : IsRoom room (left.spare + term_size (layer ts)) (1 + levels)) where
      child_is : slice_get (children (layer at_hand)) i ≡ Some c
      child_is = ap (λ (us : List Term). slice_get us i) (frame.children at_hand) ∙ here_too

      shallow : term_depth (layer at_hand) ≤ 1 + levels
      shallow = let is = frame.levels at_hand in let few = so_far.left.levels in omega arith

      room_now : IsRoom room (now.spare + term_size (layer at_hand)) (1 + levels)
      room_now =
          let before = frame.nodes ts in
          let after = frame.nodes at_hand in
          let same : left.spare + term_size (layer ts) ≡ now.spare + term_size (layer at_hand) = omega (arith, before, after, so_far.left.nodes) in
          subst (λ (m : ℕ). IsRoom room m (1 + levels)) same is

      child_has_room : IsRoom (room_in room (layer at_hand) i) (now.spare + term_size c) levels
      child_has_room = child_room now.spare (layer at_hand) c i child_is shallow room_now

      becomes : with_child (layer at_hand) i n.term ≡ layer then_at_hand
      becomes = frame.put at_hand i n.term ∙ ap layer put_is

      goes_next : (q : Parted) → NormParts setting.program.now (live setting) room n.left.units (layer then_at_hand) (i + 1) q →
          NormParts setting.program.now (live setting) room left.units (layer ts) 0 (record q { parts = map stops_in (stops ++ n.stops ∷ []) ++ q.parts })
      goes_next q rest =
          let there = subst (λ (t : Term). NormParts setting.program.now (live setting) room n.left.units t (i + 1) q) (sym becomes) rest in
          let whole : NormParts setting.program.now (live setting) room now.units (layer at_hand) i (record q { parts = stops_in n.stops ∷ q.parts }) =
          part child_is (normal_is.norm (room_in room (layer at_hand) i) child_has_room) there refl in
          let before = so_far.goes layer nodes deep frame most room is (record q { parts = stops_in n.stops ∷ q.parts }) whole in
          let same : map stops_in stops ++ (stops_in n.stops ∷ q.parts) ≡ map stops_in (stops ++ n.stops ∷ []) ++ q.parts =
          sym (append_assoc (map stops_in stops) (stops_in n.stops ∷ []) q.parts) ∙ ap (λ (l : List Stops). l ++ q.parts) (sym (map-append stops_in stops (n.stops ∷ []))) in
          subst (λ (l : List Stops). NormParts setting.program.now (live setting) room left.units (layer ts) 0 (record { units = q.units; term = q.term; parts = l })) same before

      lead_next : StagesLead setting room (layer ts) more (layer then_at_hand)
      lead_next = record {
        lead =
            let before = (so_far.lead layer nodes deep frame most room is).lead in
            let below = (normal_is.lead (room_in room (layer at_hand) i) child_has_room).lead in
            let moved = steps_below setting room (layer at_hand) c i child_is below in
            let from_here = subst (λ (t : Term). StepsLead setting room t (moves_below i (moves_of n.stages)) (with_child (layer at_hand) i n.term)) (child_same (layer at_hand) i c child_is) moved in
            let to_there = subst (λ (t : Term). StepsLead setting room (layer at_hand) (moves_below i (moves_of n.stages)) t) becomes from_here in
            subst (λ (ms : List Move). StepsLead setting room (layer ts) ms (layer then_at_hand)) (sym moves) (steps_joined before to_there);
      }

    -- one part more
    pub each_next : EachSoFar setting ts left levels (i + 1) n.left (terms ++ n.term ∷ []) (stops ++ n.stops ∷ []) more
    each_next = record {
      count = let before = so_far.count in let after = length-append terms (n.term ∷ []) in omega arith;
      left = left_next;
      goes = λ layer nodes deep frame most room is q rest. goes_next layer nodes deep frame most room is q rest;
      lead = λ layer nodes deep frame most room is. lead_next layer nodes deep frame most room is;
    }

module _ (setting : Setting) (ts : List Term) (left : Left) (levels : ℕ) (now : Left) (terms : List Term) (stops : List StopTree) (stages : List Stage)
    (so_far : EachSoFar setting ts left levels (length ts) now terms stops stages) where
  all_done : terms ++ drop (length ts) ts ≡ terms
  all_done = mixed_all terms ts (length ts) (omega arith)

  -- all parts
  pub each_end : (layer : List Term → Term) (nodes deep : ℕ) → IsFrame layer nodes deep → deep ≤ levels →
      AreNormalised setting layer ts left levels (record { left = now; terms = terms; stops = stops; stages = stages })
  each_end layer nodes deep frame most = record {
    parts = λ room is.
        let none : slice_get (children (layer terms)) (length ts) ≡ None =
        ap (λ (us : List Term). slice_get us (length ts)) (frame.children terms) ∙ slice_get_past terms (length ts) (omega (arith, so_far.count)) in
        let last : NormParts setting.program.now (live setting) room now.units (layer terms) (length ts) (record { units = now.units; term = layer terms; parts = [] }) = no_part none refl in
        let there = subst (λ (us : List Term). NormParts setting.program.now (live setting) room now.units (layer us) (length ts) (record { units = now.units; term = layer terms; parts = [] })) (sym all_done) last in
        let whole = so_far.goes layer nodes deep frame most room is (record { units = now.units; term = layer terms; parts = [] }) there in
        subst (λ (l : List Stops). NormParts setting.program.now (live setting) room left.units (layer ts) 0 (record { units = now.units; term = layer terms; parts = l })) (append-nil (map stops_in stops)) whole;
    lead = λ room is. subst (λ (us : List Term). StagesLead setting room (layer ts) stages (layer us)) all_done (so_far.lead layer nodes deep frame most room is);
  }

  pub each_left : AreLeft ts left levels now terms
  each_left = subst (λ (us : List Term). AreLeft ts left levels now us) all_done so_far.left

-- before the first part, with empty lists
pub each_begins : (setting : Setting) (ts : List Term) (left : Left) (levels : ℕ) (terms : List Term) (stops : List StopTree) (stages : List Stage) → terms ≡ [] → stops ≡ [] → stages ≡ [] → terms_depth ts ≤ levels →
    EachSoFar setting ts left levels 0 left terms stops stages
each_begins setting ts left levels terms stops stages no_terms no_stops no_stages few =
    subst (λ (l : List Term). EachSoFar setting ts left levels 0 left l stops stages) (sym no_terms)
    (subst (λ (l : List StopTree). EachSoFar setting ts left levels 0 left [] l stages) (sym no_stops)
    (subst (λ (l : List Stage). EachSoFar setting ts left levels 0 left [] [] l) (sym no_stages) (each_start setting ts left levels few)))

-- one part more, with the lists that are pushed to
pub each_goes : (setting : Setting) (ts : List Term) (left : Left) (levels i : ℕ) (now : Left) (terms : List Term) (stops : List StopTree) (stages : List Stage) → EachSoFar setting ts left levels i now terms stops stages → (c : Term) →
    slice_get ts i ≡ Some c → (n : Found) → IsNormalised setting c now levels n → (us : List Term) (more_stops : List StopTree) (more : List Stage) → us ≡ terms ++ n.term ∷ [] → more_stops ≡ stops ++ n.stops ∷ [] →
    moves_of more ≡ moves_of stages ++ moves_below i (moves_of n.stages) → EachSoFar setting ts left levels (i + 1) n.left us more_stops more
each_goes setting ts left levels i now terms stops stages so_far c here n normal_is us more_stops more us_are stops_are moves =
    subst (λ (l : List Term). EachSoFar setting ts left levels (i + 1) n.left l more_stops more) (sym us_are)
    (subst (λ (l : List StopTree). EachSoFar setting ts left levels (i + 1) n.left (terms ++ n.term ∷ []) l more) (sym stops_are)
    (each_next setting ts left levels i now terms stops stages so_far c here n normal_is more moves))

-- all parts, at the end
pub each_ends : (setting : Setting) (ts : List Term) (left : Left) (levels i : ℕ) (now : Left) (terms : List Term) (stops : List StopTree) (stages : List Stage) → EachSoFar setting ts left levels i now terms stops stages → i ≤ length ts →
    length ts ≤ i → (layer : List Term → Term) (nodes deep : ℕ) → IsFrame layer nodes deep → deep ≤ levels → AreNormalised setting layer ts left levels (record { left = now; terms = terms; stops = stops; stages = stages })
each_ends setting ts left levels i now terms stops stages so_far most least =
    let same : i ≡ length ts = omega arith in
    each_end setting ts left levels now terms stops stages (subst (λ (k : ℕ). EachSoFar setting ts left levels k now terms stops stages) same so_far)
