-- The words of a row's numbers: those parts of a line in which no names stand.
use Rattle.std.specs.Prelude.{ℕ, List, [], ◌∷◌, ◌++◌, if◌then◌else◌, codes}
use Rattle.std.specs.List.{flat_map}
use Rattle.std.specs.Fmt.{decimal}
use Rattle.px_terms.specs.declared.row.Side.{Side}
use Rattle.px_terms.specs.declared.row.Side.TheVariants.{Left, Right}
use Rattle.px_terms.specs.declared.row.Kind.{Kind}
use Rattle.px_terms.specs.declared.row.Kind.TheVariants as kind
use Rattle.px_terms.specs.declared.row.Target.{Target}
use Rattle.px_terms.specs.declared.row.Target.TheVariants as target

-- `l` or `r`
abbrev pub side_letter : Side → List ℕ
side_letter Left = codes "l"
side_letter Right = codes "r"

-- an alternative or a fact, with its side, as `a0l`
abbrev pub target_word : Target → List ℕ
target_word (target.Alternative n side) = codes "a" ++ (decimal n ++ side_letter side)
target_word (target.Fact n side) = codes "f" ++ (decimal n ++ side_letter side)

-- `/` for the whole term, else a slash before each child number
abbrev pub path_word : List ℕ → List ℕ
path_word [] = codes "/"
path_word (n ∷ path) = flat_map (λ (i : ℕ). codes "/" ++ decimal i) (n ∷ path)

-- what a step does, in words
abbrev pub kind_words : Kind → List ℕ
kind_words kind.Unfold = codes "unfold"
kind_words kind.Select = codes "select"
kind_words kind.Compare = codes "compare"
kind_words (kind.Fact n left_to_right) = codes "fact " ++ (decimal n ++ (if left_to_right then codes " lr" else codes " rl"))

-- the variables of a header: none, or ` on` and each after a space
abbrev pub on_words : List ℕ → List ℕ
on_words [] = []
on_words (v ∷ vars) = codes " on" ++ flat_map (λ (i : ℕ). codes " " ++ decimal i) (v ∷ vars)
