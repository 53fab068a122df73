-- The normal form of a term under facts, within units and room, and where it is blocked.
use Rattle.std.specs.Prelude.{◌≡◌, ℕ, zero, suc, ◌+◌, ◌-◌, List, [], ◌∷◌, length, get_or, Bool, true, false, if◌then◌else◌, Option, Some, None, slice_get}
use Rattle.std.specs.List.{list_all}
use Rattle.std.specs.Option.{option_or}
use Rattle.px_base.specs.declared.head.Head.{Head}
use Rattle.px_base.specs.declared.head.Head.TheVariants.{Def}
use Rattle.px_terms.specs.declared.term.Term.{Term, out-Term}
use Rattle.px_terms.specs.declared.term.Term.TheOpen.{Term-F}
use Rattle.px_terms.specs.declared.term.Term.TheFolds.{fold-Term}
use Rattle.px_terms.specs.declared.clause.Equation.{Equation}
use Rattle.px_terms.specs.declared.program.Program.{Program}
use Rattle.px_terms.specs.Terms.{children, with_child}
use Rattle.px_prover.specs.declared.limits.TheConstants.{UNITS}
use Rattle.px_prover.specs.Rooms.{Room, room_in}
use Rattle.px_prover.specs.Deeds.{FirstRewrite, Deed, takes, leads, rests, selected, deed_at, permitted}

-- what the part of a normal term at a path is blocked at, if it is
abbrev pub Stops : Type 0
Stops = List ℕ → Option Term

-- a term without a match, by its parts
abbrev pub match_free_step : Term-F Bool → Bool
match_free_step (Term-F.Con d k types fields) = list_all (λ (part : Bool). part) fields
match_free_step (Term-F.Call f funs args) = list_all (λ (part : Bool). part) args
match_free_step (Term-F.Match on d types arms) = false
match_free_step layer = true

-- the term holds no match
abbrev pub is_match_free : Term → Bool
is_match_free = fold-Term Bool match_free_step

-- none of the terms holds a match
abbrev pub are_match_free : List Term → Bool
are_match_free terms = list_all is_match_free terms

-- nothing is blocked
abbrev pub no_stop : Stops
no_stop = λ (path : List ℕ). None

-- the first stop of so many arguments, from this one on
abbrev pub first_stop : Stops → ℕ → ℕ → Option Term
first_stop stops i zero = None
first_stop stops i (suc count) = option_or (stops (i ∷ [])) (first_stop stops (i + 1) count)

-- a call that something is blocked at blocks by what a definition is blocked at itself; of another function by its first argument
-- that is blocked, or as it is where it holds no match
abbrev pub blocked_by_call : Head → Term → List Term → Stops → Option Term
blocked_by_call (Def n) u args stops = stops []
blocked_by_call head u args stops = option_or (first_stop stops 0 (length args)) (if is_match_free u then Some u else None)

-- what blocks where something is blocked at a term of this layer: a variable itself; a match by what it is blocked at
abbrev pub blocked_by : Term-F Term → Term → Stops → Option Term
blocked_by (Term-F.Free n) u stops = Some u
blocked_by (Term-F.Match on d types arms) u stops = stops []
blocked_by (Term-F.Call f funs args) u stops = blocked_by_call f.head u args stops
blocked_by layer u stops = None

-- what blocks where something is blocked at this normal term
abbrev pub inner : Term → Stops → Option Term
inner u = blocked_by (out-Term u) u

-- A normal term: the units that are left, the term, and what it and its parts are blocked at.
pub record Normal : Type 0 where
  pub units : ℕ
  pub term : Term
  pub stops : Stops

-- A term with normal parts: the units that are left, the term, and what each part is blocked at.
pub record Parted : Type 0 where
  pub units : ℕ
  pub term : Term
  pub parts : List Stops

-- what a part is blocked at
abbrev pub stops_of_part : List Stops → ℕ → Stops
stops_of_part parts i = get_or parts i no_stop

-- what a term at which nothing is done is blocked at: a match by its scrutinee, a call at what blocked its lead
abbrev pub stop_of : Term-F Term → List Stops → Option Term → Option Term
stop_of (Term-F.Match on d types arms) parts led = inner on (stops_of_part parts 0)
stop_of layer parts led = led

-- what a term is blocked at, and below it its parts
abbrev pub stops_with : Option Term → List Stops → Stops
stops_with own parts [] = own
stops_with own parts (i ∷ path) = stops_of_part parts i path

-- a term at which nothing is done, with what blocked its lead
abbrev pub left_at : Parted → Option Term → Normal
left_at p led = record { units = p.units; term = p.term; stops = stops_with (stop_of (out-Term p.term) p.parts led) p.parts }

-- How a lead ends: at a term that is no match, with the units that are left; or blocked.
pub data LeadEnd : Type 0 where
  freed : Term → ℕ → LeadEnd
  blocked : Option Term → LeadEnd

-- the scrutinee and the arms of a match
abbrev pub match_of : Term-F Term → Option (Term × List Term)
match_of (Term-F.Match on d types arms) = Some (on, arms)
match_of layer = None

mutual
  -- The normal form: the parts are normalised from left to right, and then the first that is to be done at the term is done.
  pub data Norm (P : Program) (facts : List Equation) : Room → ℕ → Term → Normal → Type 0 where
    normal : {room : Room} {units : ℕ} {t : Term} {p : Parted} {rewritten : Option Term} {deed : Deed} {n : Normal} → NormParts P facts room units t 0 p →
        FirstRewrite facts p.term rewritten → deed ≡ permitted room p.units (deed_at P rewritten p.term) → NormAt P facts room p deed n →
        Norm P facts room units t n

  -- the parts from number i on are normalised, each in the room that the ones before it leave
  pub data NormParts (P : Program) (facts : List Equation) : Room → ℕ → Term → ℕ → Parted → Type 0 where
    no_part : {room : Room} {units i : ℕ} {t : Term} {p : Parted} → slice_get (children t) i ≡ None → p ≡ record { units = units; term = t; parts = [] } →
        NormParts P facts room units t i p
    part : {room : Room} {units i : ℕ} {t c : Term} {n : Normal} {p q : Parted} → slice_get (children t) i ≡ Some c → Norm P facts (room_in room t i) units c n →
        NormParts P facts room n.units (with_child t i n.term) (i + 1) q → p ≡ record q { parts = n.stops ∷ q.parts } → NormParts P facts room units t i p

  -- what is done is done, for a unit, and the result is normalised again; a lead that is blocked gives its units back
  pub data NormAt (P : Program) (facts : List Equation) : Room → Parted → Deed → Normal → Type 0 where
    taken : {room : Room} {p : Parted} {deed : Deed} {r : Term} {n : Normal} → deed ≡ takes r → Norm P facts room (p.units - 1) r n → NormAt P facts room p deed n
    led : {room : Room} {p : Parted} {deed : Deed} {body r : Term} {units : ℕ} {end : LeadEnd} {n : Normal} → deed ≡ leads body → Lead P facts room (p.units - 1) body end →
        end ≡ freed r units → Norm P facts room units r n → NormAt P facts room p deed n
    stuck : {room : Room} {p : Parted} {deed : Deed} {body : Term} {stop : Option Term} {end : LeadEnd} {n : Normal} → deed ≡ leads body → Lead P facts room (p.units - 1) body end →
        end ≡ blocked stop → n ≡ left_at p stop → NormAt P facts room p deed n
    rested : {room : Room} {p : Parted} {deed : Deed} {n : Normal} → deed ≡ rests → n ≡ left_at p None → NormAt P facts room p deed n

  -- the lead goes on while it is a match: its scrutinee is normalised, and where that is a constructor, its arm is selected for a unit
  pub data Lead (P : Program) (facts : List Equation) : Room → ℕ → Term → LeadEnd → Type 0 where
    no_match : {room : Room} {units : ℕ} {t : Term} {end : LeadEnd} → match_of (out-Term t) ≡ None → end ≡ freed t units → Lead P facts room units t end
    goes_on : {room : Room} {units : ℕ} {t r : Term} {m : Term × List Term} {on : Normal} {end : LeadEnd} → match_of (out-Term t) ≡ Some m →
        Norm P facts (room_in room t 0) units m.0 on → permitted room on.units (selected P m.1 (out-Term on.term)) ≡ takes r →
        Lead P facts room (on.units - 1) r end → Lead P facts room units t end
    waits : {room : Room} {units : ℕ} {t : Term} {m : Term × List Term} {on : Normal} {end : LeadEnd} → match_of (out-Term t) ≡ Some m →
        Norm P facts (room_in room t 0) units m.0 on → permitted room on.units (selected P m.1 (out-Term on.term)) ≡ rests →
        end ≡ blocked (inner on.term on.stops) → Lead P facts room units t end

-- The term has this normal form, within all units.
pub record HasNorm (P : Program) (facts : List Equation) (room : Room) (t r : Term) : Type 0 where
  pub normal : Normal
  pub norm : Norm P facts room UNITS t normal
  pub is : r ≡ normal.term
