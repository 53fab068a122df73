-- How a lead ends behind a selection, and how a term is left at which nothing is done.
use Rattle.std.proofs.Common.{◌≡◌, ◌≤◌, ◌<◌, ◌+◌, ◌-◌, ℕ, List, [], ◌∷◌, ◌++◌, map, Option, Some, None, slice_get, refl, sym, ap, ◌∙◌, subst, arith}
use Rattle.std.proofs.lemmas.Grind.{flat_map-append}
use Rattle.std.proofs.lemmas.List.{append_assoc}
use Rattle.px_terms.specs.declared.types.Ty.{Ty}
use Rattle.px_terms.specs.declared.term.Term.{Term, out-Term}
use Rattle.px_terms.specs.declared.term.Term.TheVariants as term
use Rattle.px_terms.specs.declared.term.Term.TheOpen.{Term-F}
use Rattle.px_terms.specs.declared.row.Kind.{Kind}
use Rattle.px_terms.specs.declared.row.Kind.TheVariants as kind
use Rattle.px_prover.specs.declared.norm.LeadEnd.{LeadEnd as Ended}
use Rattle.px_prover.specs.declared.norm.LeadEnd.TheVariants as ended
use Rattle.px_prover.specs.declared.stages.Left.{Left}
use Rattle.px_prover.specs.declared.stages.Parted.{Parted as FoundParts}
use Rattle.px_prover.specs.declared.stages.Stage.{Stage}
use Rattle.px_prover.specs.declared.stages.Stage.TheVariants as stage
use Rattle.px_prover.specs.declared.stages.StopTree.{StopTree, out-StopTree}
use Rattle.px_prover.specs.Norms.{Stops, no_stop, inner, stops_of_part, stops_with, stop_of}
use Rattle.px_prover.specs.Moves.{Move}
use Rattle.px_prover.specs.Normalising.{stops_in, moves_in, moves_below, moves_of}
use Rattle.px_prover.specs.Turning.{IsAfterSelect}
use Rattle.px_prover.proofs.StopLemmas.{tree_is, part_of, part_of_none}

-- the steps of a scrutinee, the selection, and those behind it
pub select_moves : (below first second all stages : List Stage) → moves_of first ≡ moves_below 0 (moves_of below) → second ≡ first ++ stage.Here kind.Select ∷ [] → all ≡ second ++ stages →
    moves_of all ≡ moves_below 0 (moves_of below) ++ moves_of (stage.Here kind.Select ∷ stages)
select_moves below first second all stages first_is second_is all_is =
    let step : List Stage = stage.Here kind.Select ∷ [] in
    ap moves_of (all_is ∙ ap (λ (l : List Stage). l ++ stages) second_is ∙ append_assoc first step stages) ∙ flat_map-append moves_in first (stage.Here kind.Select ∷ stages)
    ∙ ap (λ (ms : List Move). ms ++ moves_of (stage.Here kind.Select ∷ stages)) first_is

-- the end of a lead behind them
pub select_freed : (below : List Stage) (end made : Ended) (after : Left) (u : Term) (stages all : List Stage) → end ≡ ended.Freed after u stages → made ≡ ended.Freed after u all →
    moves_of all ≡ moves_below 0 (moves_of below) ++ moves_of (stage.Here kind.Select ∷ stages) → IsAfterSelect below end made
select_freed below end made after u stages all is made_is moves = subst (λ (e : Ended). IsAfterSelect below e made) (sym is) (all, made_is, moves)

pub select_blocked : (below : List Stage) (end made : Ended) (stop : Option Term) → end ≡ ended.Blocked stop → made ≡ ended.Blocked stop → IsAfterSelect below end made
select_blocked below end made stop is made_is = subst (λ (e : Ended). IsAfterSelect below e made) (sym is) made_is

-- what a match is blocked at, by its scrutinee
pub match_stop : (t on other : Term) (d : ℕ) (types : List Ty) (arms : List Term) (parts : List StopTree) (stops : StopTree) (led : Option Term) → t ≡ term.Match on d types arms → other ≡ on → Some stops ≡ slice_get parts 0 →
    inner other (stops_in stops) ≡ stop_of (out-Term t) (map stops_in parts) led
match_stop t on other d types arms parts stops led is same found =
    let layer : out-Term t ≡ Term-F.Match on d types arms = ap out-Term is ∙ term.outs-Match on d types arms in
    (λ k. inner (same k) (sym (part_of parts 0 stops (sym found)) k)) ∙ sym (ap (λ (y : Term-F Term). stop_of y (map stops_in parts) led) layer)

-- and where nothing is said of its scrutinee
pub match_no_stop : (t on other : Term) (d : ℕ) (types : List Ty) (arms : List Term) (parts : List StopTree) (stops : StopTree) (led : Option Term) → t ≡ term.Match on d types arms → other ≡ on → None ≡ slice_get parts 0 →
    stops_in stops ≡ no_stop → inner other (stops_in stops) ≡ stop_of (out-Term t) (map stops_in parts) led
match_no_stop t on other d types arms parts stops led is same found nothing =
    let layer : out-Term t ≡ Term-F.Match on d types arms = ap out-Term is ∙ term.outs-Match on d types arms in
    (λ k. inner (same k) ((nothing ∙ sym (part_of_none parts 0 (sym found))) k)) ∙ sym (ap (λ (y : Term-F Term). stop_of y (map stops_in parts) led) layer)

-- what a term that is left is blocked at
pub left_stops : (tree : StopTree) (own : Option Term) (parts : List StopTree) (told : Option Term) → (out-StopTree tree).own ≡ own → (out-StopTree tree).parts ≡ parts → own ≡ told → stops_in tree ≡ stops_with told (map stops_in parts)
left_stops tree own parts told own_is parts_are told_is = tree_is tree ∙ (λ k. stops_with ((own_is ∙ told_is) k) (map stops_in (parts_are k)))
