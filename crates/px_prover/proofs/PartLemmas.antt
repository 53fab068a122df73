-- A term with its parts normalised, by its layer.
use Rattle.std.proofs.Common.{◌≡◌, ◌≤◌, ◌<◌, ◌+◌, ◌-◌, ℕ, zero, suc, max, List, [], ◌∷◌, ◌++◌, map, length, Option, Some, None, slice_get, refl, sym, ap, ◌∙◌, subst, arith}
use Rattle.px_base.specs.declared.limits.TheConstants.{SEQUENT_NODES, FACTS}
use Rattle.px_base.specs.Largest.{largest}
use Rattle.px_terms.specs.declared.types.Ty.{Ty}
use Rattle.px_terms.specs.declared.types.Fun.{Fun}
use Rattle.px_terms.specs.declared.term.Term.{Term, out-Term}
use Rattle.px_terms.specs.declared.term.Term.TheVariants as term
use Rattle.px_terms.specs.declared.term.Term.TheOpen.{Term-F}
use Rattle.px_terms.specs.Types.{tys_size, tys_depth, fun_size, fun_depth}
use Rattle.px_terms.specs.Terms.{term_size, terms_size, term_depth, terms_depth, children_of, children, with_child_of, with_child}
use Rattle.px_terms.specs.TreeEquations.{term_size-Con, term_size-Call, term_size-Match, term_depth-Con, term_depth-Call, term_depth-Match}
use Rattle.px_prover.specs.declared.deeds.Setting.{Setting}
use Rattle.px_prover.specs.declared.stages.Left.{Left}
use Rattle.px_prover.specs.declared.stages.Normal.{Normal as Found}
use Rattle.px_prover.specs.declared.stages.Parted.{Parted as FoundParts}
use Rattle.px_prover.specs.declared.stages.Parts.{Parts as FoundList}
use Rattle.px_prover.specs.declared.stages.Stage.{Stage}
use Rattle.px_prover.specs.declared.stages.StopTree.{StopTree}
use Rattle.px_prover.specs.Rooms.{Room, room_in}
use Rattle.px_prover.specs.Norms.{Stops, Normal, Parted, Norm, NormParts, normal, no_part, part}
use Rattle.px_prover.specs.Moves.{Move}
use Rattle.px_prover.specs.Normalising.{stops_in, moves_below, moves_of, IsRoom, live, KeepsUsed}
use Rattle.px_prover.specs.Turning.{StepsLead, no_step, StagesLead, HasRoom, HaveRoom, IsLeft, AreLeft, IsFrame, normal_of, parted_of, IsNormalised, IsParted, AreNormalised, IsUnparted, IsMatch}
use Rattle.px_rewrite.proofs.PartSizes.{Exchanged}
use Rattle.px_prover.proofs.FrameLemmas.{child_room, exchanged, child_levels, con_frame, call_frame, has_level}
use Rattle.px_prover.proofs.ChildMoves.{child_same}
use Rattle.px_prover.proofs.StepLemmas.{steps_below}

-- a term without parts
pub unparted : (setting : Setting) (t : Term) (left : Left) (levels : ℕ) (u : Term) (p : FoundParts) → u ≡ t → children_of (out-Term u) ≡ [] → term_depth t ≤ levels → IsUnparted left u p → IsParted setting t left levels p
unparted setting t left levels u p same none shallow is =
    let leaf : children t ≡ [] = ap (λ (x : Term). children x) (sym same) ∙ none in
    let term_is : p.term ≡ t = is.term ∙ same in
    let parts_is : parted_of p ≡ record { units = left.units; term = t; parts = [] } =
    λ k. record { units = (is.left k).units; term = term_is k; parts = map stops_in (is.parts k) } in
    record {
      parts = λ room measured. no_part (ap (λ (ts : List Term). slice_get ts 0) leaf) parts_is;
      lead = λ room measured. record {
        lead =
            subst (λ (x : Term). StepsLead setting room t (moves_of p.stages) x) (sym term_is)
            (subst (λ (l : List Stage). StepsLead setting room t (moves_of l) t) (sym is.stages) no_step);
      };
      left = record {
        units = let e = ap (λ (l : Left). l.units) is.left in omega (arith, e);
        nodes = let e = ap (λ (l : Left). l.spare) is.left in let size = ap term_size term_is in omega (arith, e, size);
        levels = let depth = ap term_depth term_is in omega (arith, depth, shallow);
      };
    }

module _ (setting : Setting) (layer : List Term → Term) (nodes deep : ℕ) (frame : IsFrame layer nodes deep) (ts : List Term) (left : Left) (levels : ℕ) where
  -- the parts of a term on them fit
  pub parts_fit : (t : Term) → t ≡ layer ts → HasRoom setting t left levels → HaveRoom setting ts left (levels - 1)
  parts_fit t same fits =
      let size = ap term_size same ∙ frame.nodes ts in
      let depth = ap term_depth same ∙ frame.levels ts in
      let most = fits.levels in
      record { few = fits.few; nodes = omega (arith, size, fits.nodes); levels = omega (arith, depth, most); deep = let deep = fits.deep in omega arith }

  -- the types of a term fit too
  pub layer_fits : (t : Term) → t ≡ layer ts → HasRoom setting t left levels → deep ≤ levels - 1
  layer_fits t same fits =
      let depth = ap term_depth same ∙ frame.levels ts in
      let most = fits.levels in
      omega (arith, depth, most)

  -- a term on its parts, normalised
  pub parted : (t : Term) (all : FoundList) (u : Term) → t ≡ layer ts → HasRoom setting t left levels → AreNormalised setting layer ts left (levels - 1) all → AreLeft ts left (levels - 1) all.left all.terms →
      u ≡ layer all.terms → IsParted setting t left levels (record { left = all.left; term = u; parts = all.stops; stages = all.stages })
  parted t all u same fits are kept u_is =
      let depth = ap term_depth same ∙ frame.levels ts in
      let most = fits.levels in
      let levels_is : levels ≡ 1 + (levels - 1) = omega (arith, depth, most) in
      let measure : (room : Room) → IsRoom room (left.spare + term_size t) levels → IsRoom room (left.spare + term_size (layer ts)) (1 + (levels - 1)) =
      λ room is. subst (λ (l : ℕ). IsRoom room (left.spare + term_size (layer ts)) l) levels_is (subst (λ (x : Term). IsRoom room (left.spare + term_size x) levels) same is) in
      let before = frame.nodes ts in
      let after = frame.nodes all.terms in
      let deeper = frame.levels all.terms in
      let few = kept.levels in
      let sized : all.left.spare + term_size (layer all.terms) ≡ left.spare + term_size (layer ts) = omega (arith, kept.nodes, before, after) in
      let shallow : term_depth (layer all.terms) ≤ levels = omega (arith, deeper, few, depth, most) in
      record {
        parts = λ room is.
            subst (λ (x : Term). NormParts setting.program.now (live setting) room left.units x 0 (record { units = all.left.units; term = u; parts = map stops_in all.stops })) (sym same)
            (subst (λ (x : Term). NormParts setting.program.now (live setting) room left.units (layer ts) 0 (record { units = all.left.units; term = x; parts = map stops_in all.stops })) (sym u_is)
            (are.parts room (measure room is)));
        lead = λ room is.
            subst (λ (x : Term). StagesLead setting room x all.stages u) (sym same)
            (subst (λ (x : Term). StagesLead setting room (layer ts) all.stages x) (sym u_is) (are.lead room (measure room is)));
        left = record {
          units = kept.units;
          nodes = ap (λ (x : Term). all.left.spare + term_size x) u_is ∙ sized ∙ ap (λ (x : Term). left.spare + term_size x) (sym same);
          levels = subst (λ (x : Term). term_depth x ≤ levels) (sym u_is) shallow;
        };
      }

module _ (setting : Setting) (t : Term) (left : Left) (levels : ℕ) (is_match : IsMatch t) (fits : HasRoom setting t left levels) where
  -- the scrutinee is the child
  pub scrutinee_is : slice_get (children t) 0 ≡ Some is_match.on
  scrutinee_is = ap (λ (y : Term-F Term). slice_get (children_of y) 0) is_match.is

  -- a term with a child has two levels
  pub has_two_levels : 1 ≤ levels
  has_two_levels = let one = has_level t in let most = fits.levels in omega arith

  levels_are : levels ≡ 1 + (levels - 1)
  levels_are = let two = has_two_levels in omega arith

  shallow : term_depth t ≤ 1 + (levels - 1)
  shallow = subst (λ (l : ℕ). term_depth t ≤ l) levels_are fits.levels

  -- the scrutinee fits
  pub scrutinee_fits : HasRoom setting is_match.on left (levels - 1)
  scrutinee_fits =
      let whole = exchanged t is_match.on is_match.on 0 scrutinee_is in
      record {
        few = fits.few;
        nodes = omega (arith, whole.within, fits.nodes);
        levels = (child_levels t is_match.on is_match.on 0 (levels - 1) scrutinee_is shallow).was;
        deep = let deep = fits.deep in omega arith;
      }

  -- the room of the scrutinee
  pub scrutinee_room : (room : Room) → IsRoom room (left.spare + term_size t) levels → IsRoom (room_in room t 0) (left.spare + term_size is_match.on) (levels - 1)
  scrutinee_room room is =
      child_room left.spare t is_match.on 0 scrutinee_is shallow (subst (λ (l : ℕ). IsRoom room (left.spare + term_size t) l) levels_are is)

  module _ (n : Found) (normal_is : IsNormalised setting is_match.on left (levels - 1) n) where
    -- the match with its scrutinee normalised
    pub match_left : IsLeft t left levels n.left (with_child t 0 n.term)
    match_left =
        let whole = exchanged t is_match.on n.term 0 scrutinee_is in
        let there = (child_levels t is_match.on n.term 0 (levels - 1) scrutinee_is shallow).there normal_is.left.levels in
        record {
          units = normal_is.left.units;
          nodes = omega (arith, whole.same, whole.within, normal_is.left.nodes);
          levels = subst (λ (l : ℕ). term_depth (with_child t 0 n.term) ≤ l) (sym levels_are) there;
        }

    -- the steps below the scrutinee
    pub match_lead : (room : Room) → IsRoom room (left.spare + term_size t) levels →
        StepsLead setting room t (moves_below 0 (moves_of n.stages)) (with_child t 0 n.term)
    match_lead room is =
        let below = (normal_is.lead (room_in room t 0) (scrutinee_room room is)).lead in
        let moved = steps_below setting room t is_match.on 0 scrutinee_is below in
        subst (λ (x : Term). StepsLead setting room x (moves_below 0 (moves_of n.stages)) (with_child t 0 n.term)) (child_same t 0 is_match.on scrutinee_is) moved

    -- a match with its scrutinee normalised
    pub match_parted : (u : Term) (parts : List StopTree) (stages : List Stage) → u ≡ with_child t 0 n.term → parts ≡ n.stops ∷ [] → moves_of stages ≡ moves_below 0 (moves_of n.stages) →
        IsParted setting t left levels (record { left = n.left; term = u; parts = parts; stages = stages })
    match_parted u parts stages u_is parts_is moves = record {
      parts = λ room is.
          let none : slice_get (children (with_child t 0 n.term)) 1 ≡ None =
          ap (λ (y : Term-F Term). slice_get (children (with_child_of y t 0 n.term)) 1) is_match.is
          ∙ ap (λ (y : Term-F Term). slice_get (children_of y) 1) (term.outs-Match n.term is_match.datatype is_match.types is_match.arms) in
          let last : NormParts setting.program.now (live setting) room n.left.units (with_child t 0 n.term) (0 + 1) (record { units = n.left.units; term = u; parts = [] }) =
          no_part none (λ k. record { units = n.left.units; term = u_is k; parts = [] }) in
          part scrutinee_is (normal_is.norm (room_in room t 0) (scrutinee_room room is)) last (λ k. record { units = n.left.units; term = u; parts = map stops_in (parts_is k) });
      lead = λ room is. record {
        lead =
            subst (λ (x : Term). StepsLead setting room t (moves_of stages) x) (sym u_is)
            (subst (λ (ms : List Move). StepsLead setting room t ms (with_child t 0 n.term)) (sym moves) (match_lead room is));
      };
      left = subst (λ (x : Term). IsLeft t left levels n.left x) (sym u_is) match_left;
    }
