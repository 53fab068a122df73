-- Outcomes of typing: a value, or the first broken rule; and how outcomes are joined.
use Rattle.std.specs.Prelude.{ℕ, Bool, true, false, List, [], ◌∷◌, Option, Some, None, Result, Ok, Err}
use Rattle.px_types.specs.declared.ends.TypeKind.{TypeKind}
use Rattle.px_types.specs.Faults.{Broken, breaks}

-- a value, or the first broken rule
abbrev pub Outcome : Type 0 → Type 0
Outcome T = Result T Broken

-- what comes after an outcome, where it is no broken rule
unfoldable pub onward : {S T : Type 0} → Result S Broken → (S → Result T Broken) → Result T Broken
onward (Ok x) f = f x
onward (Err fault) f = Err fault

infixl 10 ◌>>=◌
-- first the one, and then what follows its value
abbrev pub ◌>>=◌ : {S T : Type 0} → Result S Broken → (S → Result T Broken) → Result T Broken
o >>= f = onward o f

-- nothing, where the test holds; else this rule is broken here
unfoldable pub needs : Bool → TypeKind → ℕ → Result (Unit {0}) Broken
needs true kind at = Ok tt
needs false kind at = Err (breaks kind at)

-- the value, where there is one; else this rule is broken here
unfoldable pub there : {T : Type 0} → Option T → TypeKind → ℕ → Result T Broken
there (Some x) kind at = Ok x
there None kind at = Err (breaks kind at)

-- what is found of each item, from left to right
unfoldable pub each : {X T : Type 0} → (X → Result T Broken) → List X → Result (List T) Broken
each found [] = Ok []
each found (x ∷ xs) = do
  y ← found x
  ys ← each found xs
  Ok (y ∷ ys)

-- what is found of each item with the one at its place in the other list, from left to right
unfoldable pub each_two : {X Y T : Type 0} → (X → Y → Result T Broken) → List X → List Y → Result (List T) Broken
each_two found [] zs = Ok []
each_two found (x ∷ xs) [] = Ok []
each_two found (x ∷ xs) (z ∷ zs) = do
  y ← found x z
  ys ← each_two found xs zs
  Ok (y ∷ ys)

-- the state after each item in turn
unfoldable pub along : {S X : Type 0} → (S → X → Result S Broken) → S → List X → Result S Broken
along found s [] = Ok s
along found s (x ∷ xs) = do
  t ← found s x
  along found t xs
