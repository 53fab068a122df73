-- The rows that a text can hold: their numbers are below 2^32.
use Rattle.std.specs.Prelude.{ℕ, ◌<◌, ◌^◌, List}
use Rattle.std.specs.List.{AllByRecursion}
use Rattle.px_terms.specs.declared.row.Kind.{Kind}
use Rattle.px_terms.specs.declared.row.Kind.TheVariants as kind
use Rattle.px_terms.specs.declared.row.Target.{Target}
use Rattle.px_terms.specs.declared.row.Target.TheVariants as target

-- each number is below 2^32
abbrev pub AreSmall : List ℕ → Type 0
AreSmall ns = AllByRecursion (λ (n : ℕ). n < 2 ^ 32) ns

-- the number of an alternative or a fact is below 2^32
abbrev pub IsReadableTarget : Target → Type 0
IsReadableTarget (target.Alternative n side) = n < 2 ^ 32
IsReadableTarget (target.Fact n side) = n < 2 ^ 32

-- the number of a fact is below 2^32
abbrev pub IsReadableKind : Kind → Type 0
IsReadableKind kind.Unfold = Unit {0}
IsReadableKind kind.Select = Unit {0}
IsReadableKind kind.Compare = Unit {0}
IsReadableKind (kind.Fact n left_to_right) = n < 2 ^ 32
