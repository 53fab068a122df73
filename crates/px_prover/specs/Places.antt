-- The places of a term that a path reaches, and what stands in one of some types. For proofs.
use Rattle.std.specs.Prelude.{◌≡◌, ◌↔◌, ℕ, List, ◌++◌, map, Contains, Some}
use Rattle.px_terms.specs.declared.term.Term.{Term}
use Rattle.px_terms.specs.declared.types.Ty.{Ty}
use Rattle.px_terms.specs.Terms.{subterm}
use Rattle.px_prover.specs.Uses.{TypeStandsIn}
use Rattle.px_prover.specs.declared.spots.Spot.{Spot}

-- A part of a term, and the path to it from where the term stands.
pub record Placed : Type 0 where
  pub path : List ℕ
  pub part : Term

-- the place that is found
abbrev pub seen_spot : Spot → Placed
seen_spot spot = record { path = spot.path; part = spot.part.now }

-- The part stands in t, which is itself at this path.
pub record IsPlaceIn (path : List ℕ) (t : Term) (p : Placed) : Type 0 where
  pub way : List ℕ
  pub path_is : p.path ≡ path ++ way
  pub part_is : subterm t way ≡ Some p.part

-- these are the places of t, which is itself at this path
abbrev pub ArePlaces : List ℕ → Term → List Spot → Type 0
ArePlaces path t found = (p : Placed) → Contains (map seen_spot found) p ↔ IsPlaceIn path t p

-- The type stands in one of these.
pub record TypeStandsThere (types : List Ty) (T : Ty) : Type 0 where
  pub whole : Ty
  pub is_whole : Contains types whole
  pub part : TypeStandsIn T whole
