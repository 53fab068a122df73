-- Sets of properties.
use Rattle.std.specs.Prelude.{ℕ, ◌==◌, Bool, false, List, [], ◌∷◌, map, get_or, IsTrue}
use Rattle.std.specs.List.{list_any}
use Rattle.px_base.specs.declared.prop.Prop.{Prop}
use Rattle.px_base.specs.declared.prop.Prop.TheVariants.{Comm, Assoc, Idem, Sel, Refl, Irrefl, Sym, Antisym, Asym, Trans, Conn}
use Rattle.px_base.specs.declared.prop.PropSet.{PropSet}

-- each property's own number
abbrev pub prop_number : Prop → ℕ
prop_number Comm = 0
prop_number Assoc = 1
prop_number Idem = 2
prop_number Sel = 3
prop_number Refl = 4
prop_number Irrefl = 5
prop_number Sym = 6
prop_number Antisym = 7
prop_number Asym = 8
prop_number Trans = 9
prop_number Conn = 10

-- whether the property is in the set
abbrev pub has_prop : PropSet → Prop → Bool
has_prop set p = get_or set.has (prop_number p) false

-- the property is in the set
abbrev pub HasProp : PropSet → Prop → Type 0
HasProp set p = IsTrue (has_prop set p)

-- the properties, in the order of their numbers
abbrev pub all_props : List Prop
all_props = Comm ∷ Assoc ∷ Idem ∷ Sel ∷ Refl ∷ Irrefl ∷ Sym ∷ Antisym ∷ Asym ∷ Trans ∷ Conn ∷ []

-- the set of the properties of a list
abbrev pub set_of : List Prop → PropSet
set_of props = record { has = map (λ (q : Prop). list_any (λ (p : Prop). prop_number p == prop_number q) props) all_props }
