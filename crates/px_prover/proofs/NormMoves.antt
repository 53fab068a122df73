-- A normal form is reached by moves, each within the room.
use Rattle.std.proofs.Common.{◌≡◌, ℕ, List, [], Option, Some, IsTrue, slice_get, refl, sym, ap, ◌∙◌, subst}
use Rattle.px_terms.specs.declared.term.Term.{Term, out-Term}
use Rattle.px_terms.specs.declared.term.Term.TheVariants as term
use Rattle.px_terms.specs.declared.term.Term.TheOpen.{Term-F}
use Rattle.px_terms.specs.declared.types.Ty.{Ty}
use Rattle.px_terms.specs.declared.clause.Equation.{Equation}
use Rattle.px_terms.specs.declared.program.Program.{Program}
use Rattle.px_terms.specs.declared.row.Kind.TheVariants as kind
use Rattle.px_terms.specs.Terms.{children_of, children, with_child_of, with_child}
use Rattle.px_prover.specs.Rooms.{Room, room_in}
use Rattle.px_prover.specs.Deeds.{FirstRewrite, Deed, takes, selected, deed_at, permitted}
use Rattle.px_prover.specs.Norms.{Normal, Parted, LeadEnd, freed, match_of, Norm, NormParts, NormAt, Lead, normal, no_part, part, taken, led, stuck, rested, no_match, goes_on, waits}
use Rattle.px_prover.specs.Moves.{Reaches, AreAmong}
use Rattle.px_prover.proofs.OneNorm.{some_one, none_is_not_some, freed_term, freed_is_not_blocked}
use Rattle.px_prover.proofs.ChildMoves.{child_same, joined, stays, one_move, child_reaches}
use Rattle.px_prover.proofs.DeedMoves.{SomeTurn, own_takes, deed_takes, deed_leads, permitted_takes, permitted_leads}

-- The layer of a match, with its scrutinee and its arms.
record IsMatchLayer (y : Term-F Term) (m : Term × List Term) : Type 0 where
  d : ℕ
  types : List Ty
  is : y ≡ Term-F.Match m.0 d types m.1

match_layer : (y : Term-F Term) {m : Term × List Term} → match_of y ≡ Some m → IsMatchLayer y m
match_layer (Term-F.Match on d types arms) e =
    let same = some_one e in
    record { d = d; types = types; is = λ k. Term-F.Match ((same k).0) d types ((same k).1) }
match_layer (Term-F.Free n) e = absurd (none_is_not_some e)
match_layer (Term-F.Bound n) e = absurd (none_is_not_some e)
match_layer (Term-F.Lit w) e = absurd (none_is_not_some e)
match_layer (Term-F.Con d k types fields) e = absurd (none_is_not_some e)
match_layer (Term-F.Call f funs args) e = absurd (none_is_not_some e)

module _ (P : Program) (facts all : List Equation) (among : AreAmong facts all) where
  -- a step at a whole term
  turn_here : (room : Room) (t r : Term) → SomeTurn P all t r → IsTrue (room r) → Reaches P all room t r
  turn_here room t r turn fits = one_move (record { path = []; kind = turn.kind }) (record { part = t; becomes = r; at = refl; turns = turn.turns; whole = refl; fits = fits })

  -- a child at its place reaches what it is normalised to
  child_there : (room : Room) (t c u : Term) (i : ℕ) → slice_get (children t) i ≡ Some c → (IsTrue (room_in room t i c) → Reaches P all (room_in room t i) c u) → IsTrue (room t) →
      Reaches P all room t (with_child t i u)
  child_there room t c u i found goes fits =
      let same = child_same t i c found in
      let there = child_reaches P all room t c i found (goes (subst (λ (x : Term). IsTrue (room x)) (sym same) fits)) in
      subst (λ (x : Term). Reaches P all room x (with_child t i u)) same there

  -- a match whose scrutinee is this reaches what is selected
  select_here : (room : Room) (t u r : Term) (m : Term × List Term) (units : ℕ) → match_of (out-Term t) ≡ Some m → permitted room units (selected P m.1 (out-Term u)) ≡ takes r →
      Reaches P all room (with_child t 0 u) r
  select_here room t u r m units is e =
      let layer = match_layer (out-Term t) is in
      let now : out-Term (with_child t 0 u) ≡ Term-F.Match u layer.d layer.types m.1 =
      ap (λ (y : Term-F Term). out-Term (with_child_of y t 0 u)) layer.is ∙ term.outs-Match u layer.d layer.types m.1 in
      let may_be = permitted_takes room units (selected P m.1 (out-Term u)) e in
      turn_here room (with_child t 0 u) r (own_takes P all (with_child t 0 u) r (Term-F.Match u layer.d layer.types m.1) now may_be.same) may_be.fits

  scrutinee_is : (t : Term) (m : Term × List Term) → match_of (out-Term t) ≡ Some m → slice_get (children t) 0 ≡ Some m.0
  scrutinee_is t m is = ap (λ (y : Term-F Term). slice_get (children_of y) 0) ((match_layer (out-Term t) is).is)

  mutual
    pub norm_moves : {room : Room} {units : ℕ} {t : Term} {n : Normal} → Norm P facts room units t n → IsTrue (room t) → Reaches P all room t n.term
    norm_moves {room} (normal {p = p} {rewritten = o} {deed = deed} parts first is at) fits =
        let there = parts_move parts fits in
        joined there (at_moves o first is at there.fits)

    parts_move : {room : Room} {units i : ℕ} {t : Term} {p : Parted} → NormParts P facts room units t i p → IsTrue (room t) → Reaches P all room t p.term
    parts_move {room} {units} {i} {t} (no_part none is) fits = subst (λ (q : Parted). Reaches P all room t q.term) (sym is) (stays fits)
    parts_move {room} {units} {i} {t} (part {c = c} {n = n} found norm rest is) fits =
        let there = child_there room t c n.term i found (norm_moves norm) fits in
        subst (λ (q : Parted). Reaches P all room t q.term) (sym is) (joined there (parts_move rest there.fits))

    at_moves : {room : Room} {p : Parted} {deed : Deed} {n : Normal} (o : Option Term) → FirstRewrite facts p.term o → deed ≡ permitted room p.units (deed_at P o p.term) →
        NormAt P facts room p deed n → IsTrue (room p.term) → Reaches P all room p.term n.term
    at_moves {room} {p} o first is (taken {r = r} takes_it norm) fits =
        let may_be = permitted_takes room p.units (deed_at P o p.term) (sym is ∙ takes_it) in
        joined (turn_here room p.term r (deed_takes P facts all among o first may_be.same) may_be.fits) (norm_moves norm may_be.fits)
    at_moves {room} {p} o first is (led {body = body} {r = r} leads_it lead ends norm) fits =
        let may_be = permitted_leads room p.units (deed_at P o p.term) (sym is ∙ leads_it) in
        let there = turn_here room p.term body (record { kind = kind.Unfold; turns = deed_leads P all o may_be.same }) may_be.fits in
        let after = lead_moves lead r ends may_be.fits in
        joined there (joined after (norm_moves norm after.fits))
    at_moves {room} {p} o first is (stuck leads_it lead ends left) fits = subst (λ (q : Normal). Reaches P all room p.term q.term) (sym left) (stays fits)
    at_moves {room} {p} o first is (rested rests_it left) fits = subst (λ (q : Normal). Reaches P all room p.term q.term) (sym left) (stays fits)

    lead_moves : {room : Room} {units us : ℕ} {t : Term} {end : LeadEnd} → Lead P facts room units t end → (r : Term) → end ≡ freed r us → IsTrue (room t) → Reaches P all room t r
    lead_moves {room} {units} {us} {t} (no_match none is) r ends fits =
        subst (λ (x : Term). Reaches P all room t x) (freed_term (sym is ∙ ends)) (stays fits)
    lead_moves {room} {units} {us} {t} (goes_on {r = q} {m = m} {on = on} is norm takes_it lead) r ends fits =
        let there = child_there room t m.0 on.term 0 (scrutinee_is t m is) (norm_moves norm) fits in
        let after = select_here room t on.term q m on.units is takes_it in
        joined there (joined after (lead_moves lead r ends after.fits))
    lead_moves (waits is norm rests_it stops) r ends fits = absurd (freed_is_not_blocked (sym ends ∙ stops))
