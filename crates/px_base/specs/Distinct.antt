-- Lists in which nothing stands twice.
use Rattle.std.specs.Prelude.{List, [], ◌∷◌, Contains}

-- no two items of the list are equal
pub data AreDistinct {A : Type 0} : List A → Type 0 where
  none : AreDistinct []
  more : {x : A} {xs : List A} → ¬ Contains xs x → AreDistinct xs → AreDistinct (x ∷ xs)
