-- What is found is one thing.
use Rattle.std.proofs.Common.{◌≡◌, Option, Some, None, sym, ◌∙◌}

pub some_is : {A : Type 0} (a b : A) (o : Option A) → o ≡ Some a → o ≡ Some b → a ≡ b
some_is a b o one two = let same : Some a ≡ Some b = sym one ∙ two in cc

pub nothing_is_some : {A : Type 0} (a : A) (o : Option A) → o ≡ None → o ≡ Some a → ⊥
nothing_is_some a o none some = let same : None ≡ Some a = sym none ∙ some in cc
