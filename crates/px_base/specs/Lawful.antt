-- The names of a program are lawful.
use Rattle.std.specs.Prelude.{◌≡◌, ℕ, List, [], ◌∷◌, ◌++◌, Some, codes, All, flat_map}
use Rattle.std.specs.List.{slice_get}
use Rattle.px_base.specs.declared.names.Names.{Names}
use Rattle.px_base.specs.Distinct.{AreDistinct}
use Rattle.px_base.specs.NameForms.{IsUpperName, IsLowerName}

-- each name has the form of its kind
pub record HaveForms (names : Names) : Type 0 where
  pub datatypes : All IsUpperName names.datatypes
  pub cons : All (All IsUpperName) names.cons
  pub defs : All IsLowerName names.defs
  pub lemmas : All IsLowerName names.lemmas
  pub replicas : All IsLowerName names.replicas

-- the names of types
abbrev pub type_names : Names → List (List ℕ)
type_names names = codes "Word" ∷ names.datatypes

-- the names of all constructors
abbrev pub con_names : Names → List (List ℕ)
con_names names = flat_map (λ (own : List (List ℕ)). own) names.cons

-- the names of definitions, lemmas and replicas, and of the two comparisons of words
abbrev pub lower_names : Names → List (List ℕ)
lower_names names = codes "wle" ∷ codes "weq" ∷ (names.defs ++ (names.lemmas ++ names.replicas))

-- the first datatype is `Bool`, and its constructors are `False` and `True`
pub record HasBool (names : Names) : Type 0 where
  pub datatype : slice_get names.datatypes 0 ≡ Some (codes "Bool")
  pub cons : slice_get names.cons 0 ≡ Some (codes "False" ∷ codes "True" ∷ [])

-- The names of a program: `Bool` comes first, no two of a kind are equal, and each has the form of its kind.
pub record IsLawful (names : Names) : Type 0 where
  pub bool : HasBool names
  pub types : AreDistinct (type_names names)
  pub constructors : AreDistinct (con_names names)
  pub lowers : AreDistinct (lower_names names)
  pub forms : HaveForms names
