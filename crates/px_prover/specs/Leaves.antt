-- What the search for leaf pairs answers. For proofs.
use Rattle.std.specs.Prelude.{ℕ, ◌≤◌, ◌<◌, List, length, map, Option, MatchOption}
use Rattle.px_terms.specs.declared.term.Term.{Term}
use Rattle.px_prover.specs.declared.leaf_pairs.Leaf.{Leaf}
use Rattle.px_prover.specs.Closing.{LeafPair, AreLeafPairs, AreLeafPairsOfFields}

-- the leaf pair that is found
abbrev pub seen_leaf : Leaf → LeafPair
seen_leaf leaf = record { path = leaf.path; left = leaf.left.now; right = leaf.right.now }

-- these are the leaf pairs, at most so many; or there are more
abbrev pub TellsLeafPairs : List ℕ → Term → Term → ℕ → Option (List Leaf) → Type 0
TellsLeafPairs path s t most found = MatchOption found ((leaves : List LeafPair) → AreLeafPairs path s t leaves → most < length leaves)
    (λ (leaves : List Leaf). AreLeafPairs path s t (map seen_leaf leaves) × (length leaves ≤ most))

-- the same of the pairs of fields, from the first on
abbrev pub TellsLeafPairsOfFields : List ℕ → List Term → List Term → ℕ → Option (List Leaf) → Type 0
TellsLeafPairsOfFields path ss ts most found = MatchOption found ((leaves : List LeafPair) → AreLeafPairsOfFields path 0 ss ts leaves → most < length leaves)
    (λ (leaves : List Leaf). AreLeafPairsOfFields path 0 ss ts (map seen_leaf leaves) × (length leaves ≤ most))
