-- Normalising a term has one result.
use Rattle.std.proofs.Common.{◌≡◌, ℕ, ◌+◌, ◌-◌, List, [], ◌∷◌, Option, Some, None, slice_get, refl, sym, ap, ◌∙◌, subst}
use Rattle.std.specs.Prelude.{unwrap_or}
use Rattle.px_terms.specs.declared.term.Term.{Term, out-Term}
use Rattle.px_terms.specs.declared.clause.Equation.{Equation}
use Rattle.px_terms.specs.declared.program.Program.{Program}
use Rattle.px_terms.specs.Terms.{children, with_child}
use Rattle.px_prover.specs.Rooms.{Room, room_in}
use Rattle.px_prover.specs.Deeds.{Rewrites, FirstRewrite, no_fact, this_fact, next_fact, Deed, takes, leads, rests, selected, deed_at, permitted}
use Rattle.px_prover.specs.Norms.{Stops, inner, Normal, Parted, left_at, LeadEnd, freed, blocked, match_of, Norm, NormParts, NormAt, Lead, normal, no_part, part, taken, led, stuck, rested, no_match, goes_on, waits, HasNorm}

-- what stands in an option is one
pub some_one : {A : Type 0} {x y : A} → Some x ≡ Some y → x ≡ y
some_one {A} {x} e = ap (λ (o : Option A). unwrap_or o x) e

-- nothing is not something
pub none_is_not_some : {A : Type 0} {x : A} → None ≡ Some x → ⊥
none_is_not_some e = cc

-- the term of a deed
abbrev term_of_deed : Term → Deed → Term
term_of_deed t (takes r) = r
term_of_deed t (leads r) = r
term_of_deed t rests = t

takes_one : {r s : Term} → takes r ≡ takes s → r ≡ s
takes_one {r} e = ap (term_of_deed r) e

leads_one : {r s : Term} → leads r ≡ leads s → r ≡ s
leads_one {r} e = ap (term_of_deed r) e

takes_is_not_leads : {r s : Term} → takes r ≡ leads s → ⊥
takes_is_not_leads e = cc

takes_is_not_rests : {r : Term} → takes r ≡ rests → ⊥
takes_is_not_rests e = cc

leads_is_not_rests : {r : Term} → leads r ≡ rests → ⊥
leads_is_not_rests e = cc

-- the term that a lead is freed at
abbrev term_freed : Term → LeadEnd → Term
term_freed t (freed r units) = r
term_freed t (blocked stop) = t

-- the units that a lead leaves
abbrev units_freed : LeadEnd → ℕ
units_freed (freed r units) = units
units_freed (blocked stop) = 0

-- what a lead is blocked at
abbrev stop_blocked : LeadEnd → Option Term
stop_blocked (freed r units) = None
stop_blocked (blocked stop) = stop

pub freed_term : {r s : Term} {units us : ℕ} → freed r units ≡ freed s us → r ≡ s
freed_term {r} e = ap (term_freed r) e

freed_units : {r s : Term} {units us : ℕ} → freed r units ≡ freed s us → units ≡ us
freed_units e = ap units_freed e

blocked_one : {stop other : Option Term} → blocked stop ≡ blocked other → stop ≡ other
blocked_one e = ap stop_blocked e

pub freed_is_not_blocked : {r : Term} {units : ℕ} {stop : Option Term} → freed r units ≡ blocked stop → ⊥
freed_is_not_blocked e = cc

-- a fact rewrites a term to one other
pub first_one : {facts : List Equation} {t s : Term} {r q : Option Term} → FirstRewrite facts t r → FirstRewrite facts s q → t ≡ s → r ≡ q
first_one no_fact no_fact e = refl
first_one (this_fact a p) (this_fact b q) e = p ∙ sym q
first_one (this_fact {e = f} a p) (next_fact b rest) e = absurd (b (subst (Rewrites f) e a))
first_one (next_fact {e = f} a rest) (this_fact b q) e = absurd (a (subst (Rewrites f) (sym e) b))
first_one (next_fact a rest) (next_fact b others) e = first_one rest others e

-- a term before any of its parts is normalised
abbrev unparted : ℕ → Term → Parted
unparted units t = record { units = units; term = t; parts = [] }

-- one part more
abbrev with_part : Stops → Parted → Parted
with_part stops p = record { units = p.units; term = p.term; parts = stops ∷ p.parts }

same_unparted : {units us : ℕ} {t s : Term} → units ≡ us → t ≡ s → unparted units t ≡ unparted us s
same_unparted eu et = λ k. unparted (eu k) (et k)

same_with_part : {n m : Normal} {p q : Parted} → n ≡ m → p ≡ q → with_part n.stops p ≡ with_part m.stops q
same_with_part en ep = λ k. with_part ((en k).stops) (ep k)

same_left : {p q : Parted} {stop other : Option Term} → p ≡ q → stop ≡ other → left_at p stop ≡ left_at q other
same_left ep es = λ k. left_at (ep k) (es k)

same_end : {units us : ℕ} {t s : Term} → units ≡ us → t ≡ s → freed t units ≡ freed s us
same_end eu et = λ k. freed (et k) (eu k)

same_stop : {n m : Normal} → n ≡ m → blocked (inner n.term n.stops) ≡ blocked (inner m.term m.stops)
same_stop en = λ k. blocked (inner ((en k).term) ((en k).stops))

same_child : {t s : Term} {i j : ℕ} → t ≡ s → i ≡ j → slice_get (children t) i ≡ slice_get (children s) j
same_child et ei = λ k. slice_get (children (et k)) (ei k)

same_match : {t s : Term} → t ≡ s → match_of (out-Term t) ≡ match_of (out-Term s)
same_match et = λ k. match_of (out-Term (et k))

same_room : {room so : Room} {t s : Term} {i j : ℕ} → room ≡ so → t ≡ s → i ≡ j → room_in room t i ≡ room_in so s j
same_room er et ei = λ k. room_in (er k) (et k) (ei k)

same_units : {n m : Normal} → n ≡ m → n.units ≡ m.units
same_units en = λ k. (en k).units

same_replaced : {t s : Term} {i j : ℕ} {n m : Normal} → t ≡ s → i ≡ j → n ≡ m → with_child t i n.term ≡ with_child s j m.term
same_replaced et ei en = λ k. with_child (et k) (ei k) ((en k).term)

one_unit_less : {units us : ℕ} → units ≡ us → units - 1 ≡ us - 1
one_unit_less eu = λ k. eu k - 1

one_number_more : {i j : ℕ} → i ≡ j → i + 1 ≡ j + 1
one_number_more ei = λ k. ei k + 1

same_deed : (P : Program) {room so : Room} {p q : Parted} {r s : Option Term} → room ≡ so → p ≡ q → r ≡ s →
    permitted room p.units (deed_at P r p.term) ≡ permitted so q.units (deed_at P s q.term)
same_deed P er ep es = λ k. permitted (er k) ((ep k).units) (deed_at P (es k) ((ep k).term))

same_selected : (P : Program) {room so : Room} {n m : Normal} {a b : Term × List Term} → room ≡ so → n ≡ m → a ≡ b →
    permitted room n.units (selected P a.1 (out-Term n.term)) ≡ permitted so m.units (selected P b.1 (out-Term m.term))
same_selected P er en ea = λ k. permitted (er k) ((en k).units) (selected P ((ea k).1) (out-Term ((en k).term)))

same_term_of : {p q : Parted} → p ≡ q → p.term ≡ q.term
same_term_of ep = λ k. (ep k).term

same_units_of : {p q : Parted} → p ≡ q → p.units ≡ q.units
same_units_of ep = λ k. (ep k).units

same_scrutinee : {a b : Term × List Term} → a ≡ b → a.0 ≡ b.0
same_scrutinee ea = λ k. (ea k).0

module _ (P : Program) (facts : List Equation) where
  mutual
    -- one normal form, where rooms, units and terms are the same
    pub norm_one : {room so : Room} {units us : ℕ} {t s : Term} {n m : Normal} → Norm P facts room units t n → Norm P facts so us s m →
        room ≡ so → units ≡ us → t ≡ s → n ≡ m
    norm_one (normal ps f d at) (normal qs g e bt) er eu et =
        let same = parts_one ps qs er eu et refl in
        at_one at bt er same (d ∙ same_deed P er same (first_one f g (same_term_of same)) ∙ sym e)

    parts_one : {room so : Room} {units us i j : ℕ} {t s : Term} {p q : Parted} → NormParts P facts room units t i p → NormParts P facts so us s j q →
        room ≡ so → units ≡ us → t ≡ s → i ≡ j → p ≡ q
    parts_one (no_part a d) (no_part b e) er eu et ei = d ∙ same_unparted eu et ∙ sym e
    parts_one (no_part a d) (part b norm rest e) er eu et ei = absurd (none_is_not_some (sym a ∙ same_child et ei ∙ b))
    parts_one (part a norm rest d) (no_part b e) er eu et ei = absurd (none_is_not_some (sym b ∙ sym (same_child et ei) ∙ a))
    parts_one (part a norm rest d) (part b other others e) er eu et ei =
        let same = norm_one norm other (same_room er et ei) eu (some_one (sym a ∙ same_child et ei ∙ b)) in
        let after = parts_one rest others er (same_units same) (same_replaced et ei same) (one_number_more ei) in
        d ∙ same_with_part same after ∙ sym e

    at_one : {room so : Room} {p q : Parted} {deed other : Deed} {n m : Normal} → NormAt P facts room p deed n → NormAt P facts so q other m →
        room ≡ so → p ≡ q → deed ≡ other → n ≡ m
    at_one (taken a norm) (taken b other) er ep ed = norm_one norm other er (one_unit_less (same_units_of ep)) (takes_one (sym a ∙ ed ∙ b))
    at_one (taken a norm) (led b lead f other) er ep ed = absurd (takes_is_not_leads (sym a ∙ ed ∙ b))
    at_one (taken a norm) (stuck b lead f e) er ep ed = absurd (takes_is_not_leads (sym a ∙ ed ∙ b))
    at_one (taken a norm) (rested b e) er ep ed = absurd (takes_is_not_rests (sym a ∙ ed ∙ b))
    at_one (led a lead f norm) (taken b other) er ep ed = absurd (takes_is_not_leads (sym b ∙ sym ed ∙ a))
    at_one (led a lead f norm) (led b last g other) er ep ed =
        let ends = sym f ∙ lead_one lead last er (one_unit_less (same_units_of ep)) (leads_one (sym a ∙ ed ∙ b)) ∙ g in
        norm_one norm other er (freed_units ends) (freed_term ends)
    at_one (led a lead f norm) (stuck b last g e) er ep ed =
        absurd (freed_is_not_blocked (sym f ∙ lead_one lead last er (one_unit_less (same_units_of ep)) (leads_one (sym a ∙ ed ∙ b)) ∙ g))
    at_one (led a lead f norm) (rested b e) er ep ed = absurd (leads_is_not_rests (sym a ∙ ed ∙ b))
    at_one (stuck a lead f d) (taken b other) er ep ed = absurd (takes_is_not_leads (sym b ∙ sym ed ∙ a))
    at_one (stuck a lead f d) (led b last g other) er ep ed =
        absurd (freed_is_not_blocked (sym g ∙ sym (lead_one lead last er (one_unit_less (same_units_of ep)) (leads_one (sym a ∙ ed ∙ b))) ∙ f))
    at_one (stuck a lead f d) (stuck b last g e) er ep ed =
        let ends = sym f ∙ lead_one lead last er (one_unit_less (same_units_of ep)) (leads_one (sym a ∙ ed ∙ b)) ∙ g in
        d ∙ same_left ep (blocked_one ends) ∙ sym e
    at_one (stuck a lead f d) (rested b e) er ep ed = absurd (leads_is_not_rests (sym a ∙ ed ∙ b))
    at_one (rested a d) (taken b other) er ep ed = absurd (takes_is_not_rests (sym b ∙ sym ed ∙ a))
    at_one (rested a d) (led b last g other) er ep ed = absurd (leads_is_not_rests (sym b ∙ sym ed ∙ a))
    at_one (rested a d) (stuck b last g e) er ep ed = absurd (leads_is_not_rests (sym b ∙ sym ed ∙ a))
    at_one (rested a d) (rested b e) er ep ed = d ∙ same_left ep refl ∙ sym e

    lead_one : {room so : Room} {units us : ℕ} {t s : Term} {end last : LeadEnd} → Lead P facts room units t end → Lead P facts so us s last →
        room ≡ so → units ≡ us → t ≡ s → end ≡ last
    lead_one (no_match a d) (no_match b e) er eu et = d ∙ same_end eu et ∙ sym e
    lead_one (no_match a d) (goes_on b norm p lead) er eu et = absurd (none_is_not_some (sym a ∙ same_match et ∙ b))
    lead_one (no_match a d) (waits b norm p e) er eu et = absurd (none_is_not_some (sym a ∙ same_match et ∙ b))
    lead_one (goes_on a norm p lead) (no_match b e) er eu et = absurd (none_is_not_some (sym b ∙ sym (same_match et) ∙ a))
    lead_one (goes_on a norm p lead) (goes_on b other q last) er eu et =
        let split = some_one (sym a ∙ same_match et ∙ b) in
        let on = norm_one norm other (same_room er et refl) eu (same_scrutinee split) in
        lead_one lead last er (one_unit_less (same_units on)) (takes_one (sym p ∙ same_selected P er on split ∙ q))
    lead_one (goes_on a norm p lead) (waits b other q e) er eu et =
        let split = some_one (sym a ∙ same_match et ∙ b) in
        let on = norm_one norm other (same_room er et refl) eu (same_scrutinee split) in
        absurd (takes_is_not_rests (sym p ∙ same_selected P er on split ∙ q))
    lead_one (waits a norm p d) (no_match b e) er eu et = absurd (none_is_not_some (sym b ∙ sym (same_match et) ∙ a))
    lead_one (waits a norm p d) (goes_on b other q last) er eu et =
        let split = some_one (sym a ∙ same_match et ∙ b) in
        let on = norm_one norm other (same_room er et refl) eu (same_scrutinee split) in
        absurd (takes_is_not_rests (sym q ∙ sym (same_selected P er on split) ∙ p))
    lead_one (waits a norm p d) (waits b other q e) er eu et =
        let split = some_one (sym a ∙ same_match et ∙ b) in
        let on = norm_one norm other (same_room er et refl) eu (same_scrutinee split) in
        d ∙ same_stop on ∙ sym e

-- one normal form within all units, where the terms are the same
pub has_one : {P : Program} {facts : List Equation} {room : Room} {t r s : Term} → HasNorm P facts room t r → HasNorm P facts room t s → r ≡ s
has_one {P} {facts} a b = a.is ∙ ap (λ (n : Normal). n.term) (norm_one P facts a.norm b.norm refl refl refl) ∙ sym b.is
