-- Sets of properties, by what is in them.
use Rattle.std.specs.Prelude.{◌↔◌}
use Rattle.px_terms.specs.Prop.{Prop}
use Rattle.px_terms.specs.PropSet.{PropSet}
use Rattle.px_terms.specs.PropSets.{HasProp}
use Rattle.px_terms.specs.Implied.{Closure}

-- exactly these properties are in the set
abbrev pub IsSetOf : PropSet → (Prop → Type 0) → Type 0
IsSetOf set Has = (p : Prop) → (HasProp set p ↔ Has p)

-- the second set is the closure of the first
abbrev pub IsClosure : PropSet → PropSet → Type 0
IsClosure set closed = IsSetOf closed (Closure (HasProp set))
