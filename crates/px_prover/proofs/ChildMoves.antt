-- Moves in a child are moves of the term, and moves are joined.
use Rattle.std.proofs.Common.{◌≡◌, ℕ, zero, suc, List, [], ◌∷◌, ◌++◌, Option, Some, IsTrue, slice_get, slice_set, option_and_then, refl, sym, ap, ◌∙◌}
use Rattle.std.specs.Option.{option_map}
use Rattle.px_terms.specs.declared.term.Term.{Term, out-Term}
use Rattle.px_terms.specs.declared.term.Term.TheVariants as term
use Rattle.px_terms.specs.declared.term.Term.TheViews.{roll-Term, roll-out-Term}
use Rattle.px_terms.specs.declared.term.Term.TheOpen.{Term-F}
use Rattle.px_terms.specs.declared.clause.Equation.{Equation}
use Rattle.px_terms.specs.declared.program.Program.{Program}
use Rattle.px_terms.specs.Terms.{children_of, children, with_child_of, with_child, subterm, replaced}
use Rattle.px_prover.specs.Rooms.{Room, room_in}
use Rattle.px_prover.specs.Normalising.{moves_below}
use Rattle.px_prover.specs.Moves.{Move, Moves, MovesLead, no_move, moves_on, Reaches}

get_after_set : (ts : List Term) (i : ℕ) (c by : Term) → slice_get ts i ≡ Some c → slice_get (slice_set ts i by) i ≡ Some by
get_after_set [] i c by found = cc
get_after_set (t ∷ ts) zero c by found = refl
get_after_set (t ∷ ts) (suc i) c by found = get_after_set ts i c by found

set_twice : (ts : List Term) (i : ℕ) (c by : Term) → slice_set (slice_set ts i c) i by ≡ slice_set ts i by
set_twice [] i c by = refl
set_twice (t ∷ ts) zero c by = refl
set_twice (t ∷ ts) (suc i) c by = ap (λ (us : List Term). t ∷ us) (set_twice ts i c by)

set_same : (ts : List Term) (i : ℕ) (c : Term) → slice_get ts i ≡ Some c → slice_set ts i c ≡ ts
set_same [] i c found = refl
set_same (t ∷ ts) zero c found = let is : t ≡ c = cc in ap (λ (u : Term). u ∷ ts) (sym is)
set_same (t ∷ ts) (suc i) c found = ap (λ (us : List Term). t ∷ us) (set_same ts i c found)

child_by_layer : (y : Term-F Term) (t : Term) (i : ℕ) (c by : Term) → slice_get (children_of y) i ≡ Some c → slice_get (children (with_child_of y t i by)) i ≡ Some by
child_by_layer (Term-F.Free n) t i c by found = cc
child_by_layer (Term-F.Bound n) t i c by found = cc
child_by_layer (Term-F.Lit w) t i c by found = cc
child_by_layer (Term-F.Con d k types fields) t i c by found =
    ap (λ (y : Term-F Term). slice_get (children_of y) i) (term.outs-Con d k types (slice_set fields i by)) ∙ get_after_set fields i c by found
child_by_layer (Term-F.Call f funs args) t i c by found =
    ap (λ (y : Term-F Term). slice_get (children_of y) i) (term.outs-Call f funs (slice_set args i by)) ∙ get_after_set args i c by found
child_by_layer (Term-F.Match on d types arms) t zero c by found = ap (λ (y : Term-F Term). slice_get (children_of y) 0) (term.outs-Match by d types arms)
child_by_layer (Term-F.Match on d types arms) t (suc i) c by found = cc

-- the child that was put in
pub child_put : (t : Term) (i : ℕ) (c by : Term) → slice_get (children t) i ≡ Some c → slice_get (children (with_child t i by)) i ≡ Some by
child_put t i c by found = child_by_layer (out-Term t) t i c by found

twice_by_layer : (y : Term-F Term) (t : Term) (i : ℕ) (c by put : Term) → slice_get (children_of y) i ≡ Some c → with_child (with_child_of y t i by) i put ≡ with_child_of y t i put
twice_by_layer (Term-F.Free n) t i c by put found = cc
twice_by_layer (Term-F.Bound n) t i c by put found = cc
twice_by_layer (Term-F.Lit w) t i c by put found = cc
twice_by_layer (Term-F.Con d k types fields) t i c by put found =
    ap (λ (y : Term-F Term). with_child_of y (term.Con d k types (slice_set fields i by)) i put) (term.outs-Con d k types (slice_set fields i by)) ∙
    ap (term.Con d k types) (set_twice fields i by put)
twice_by_layer (Term-F.Call f funs args) t i c by put found =
    ap (λ (y : Term-F Term). with_child_of y (term.Call f funs (slice_set args i by)) i put) (term.outs-Call f funs (slice_set args i by)) ∙
    ap (term.Call f funs) (set_twice args i by put)
twice_by_layer (Term-F.Match on d types arms) t i c by put found =
    ap (λ (y : Term-F Term). with_child_of y (term.Match by d types arms) i put) (term.outs-Match by d types arms)

-- the last child that is put in stays
pub put_twice : (t : Term) (i : ℕ) (c by put : Term) → slice_get (children t) i ≡ Some c → with_child (with_child t i by) i put ≡ with_child t i put
put_twice t i c by put found = twice_by_layer (out-Term t) t i c by put found

same_by_layer : (y : Term-F Term) (t : Term) (i : ℕ) (c : Term) → roll-Term y ≡ t → slice_get (children_of y) i ≡ Some c → with_child_of y t i c ≡ t
same_by_layer (Term-F.Free n) t i c is found = refl
same_by_layer (Term-F.Bound n) t i c is found = refl
same_by_layer (Term-F.Lit w) t i c is found = refl
same_by_layer (Term-F.Con d k types fields) t i c is found = ap (term.Con d k types) (set_same fields i c found) ∙ sym (term.rolls-Con d k types fields) ∙ is
same_by_layer (Term-F.Call f funs args) t i c is found = ap (term.Call f funs) (set_same args i c found) ∙ sym (term.rolls-Call f funs args) ∙ is
same_by_layer (Term-F.Match on d types arms) t zero c is found =
    let same : on ≡ c = cc in
    ap (λ (u : Term). term.Match u d types arms) (sym same) ∙ sym (term.rolls-Match on d types arms) ∙ is
same_by_layer (Term-F.Match on d types arms) t (suc i) c is found = cc

-- a term with its own child put in is itself
pub child_same : (t : Term) (i : ℕ) (c : Term) → slice_get (children t) i ≡ Some c → with_child t i c ≡ t
child_same t i c found = same_by_layer (out-Term t) t i c (roll-out-Term t) found

module _ {P : Program} {facts : List Equation} where
  -- moves one after the other
  pub joined_lead : {room : Room} {t u v : Term} {moves more : List Move} → MovesLead P facts room t moves u → MovesLead P facts room u more v →
      MovesLead P facts room t (moves ++ more) v
  joined_lead no_move rest = rest
  joined_lead (moves_on m lead) rest = moves_on m (joined_lead lead rest)

  pub joined : {room : Room} {t u v : Term} → Reaches P facts room t u → Reaches P facts room u v → Reaches P facts room t v
  joined a b = record { moves = a.moves ++ b.moves; lead = joined_lead a.lead b.lead; fits = b.fits }

  pub stays : {room : Room} {t : Term} → IsTrue (room t) → Reaches P facts room t t
  stays fits = record { moves = []; lead = no_move; fits = fits }

  pub one_move : {room : Room} {t u : Term} (m : Move) → Moves P facts room t m u → Reaches P facts room t u
  one_move m move = record { moves = m ∷ []; lead = moves_on move no_move; fits = move.fits }

-- the move below a child
abbrev below : ℕ → Move → Move
below i m = record { path = i ∷ m.path; kind = m.kind }

module _ (P : Program) (facts : List Equation) (room : Room) (t old : Term) (i : ℕ) (found : slice_get (children t) i ≡ Some old) where
  pub child_move : {c u : Term} {m : Move} → Moves P facts (room_in room t i) c m u → Moves P facts room (with_child t i c) (below i m) (with_child t i u)
  child_move {c} {u} {m} move =
      let child = child_put t i old c found in
      record {
        part = move.part;
        becomes = move.becomes;
        at = ap (λ (o : Option Term). option_and_then (λ (child : Term). subterm child m.path) o) child ∙ move.at;
        turns = move.turns;
        whole =
            ap (λ (o : Option Term). option_and_then (λ (child : Term). option_map (with_child (with_child t i c) i) (replaced child m.path move.becomes)) o) child ∙
            ap (option_map (with_child (with_child t i c) i)) move.whole ∙ ap Some (put_twice t i old c u found);
        fits = move.fits;
      }

  child_lead : {c u : Term} {moves : List Move} → MovesLead P facts (room_in room t i) c moves u → MovesLead P facts room (with_child t i c) (moves_below i moves) (with_child t i u)
  child_lead no_move = no_move
  child_lead (moves_on m lead) = moves_on (child_move m) (child_lead lead)

  -- what a child reaches, the term reaches
  pub child_reaches : {c u : Term} → Reaches P facts (room_in room t i) c u → Reaches P facts room (with_child t i c) (with_child t i u)
  child_reaches r = record { moves = moves_below i r.moves; lead = child_lead r.lead; fits = r.fits }
