use Rattle.std.proofs.Common.{◌↔◌, ℕ, Contains, List, map, take}
use Rattle.px_prover.specs.Places.{seen_spot}
use Rattle.px_prover.proofs.spots.paths_of.Given as goal

abbrev pub invariant-loop-place : goal.invariant-loop-place
invariant-loop-place l = (path : List ℕ) → Contains l.paths path ↔ Contains (map seen_spot (take l.place-index l.places)) (record { path = path; part = l.part })
