-- The largest of some numbers.
use Rattle.std.specs.Prelude.{ℕ, max, List, [], ◌∷◌}

-- the largest of the numbers, 0 where there are none
abbrev pub largest : List ℕ → ℕ
largest [] = 0
largest (n ∷ ns) = max n (largest ns)
