-- Where a declaration stands, and what is known there of each definition.
use Rattle.std.specs.Prelude.{◌≡◌, ℕ, List, slice_get}
use Rattle.std.specs.List.{list_any}
use Rattle.px_base.specs.PropSets.{has_prop}
use Rattle.px_base.specs.declared.prop.Prop.{Prop}
use Rattle.px_base.specs.declared.prop.PropSet.{PropSet}
use Rattle.px_terms.specs.declared.program.Program.{Program}
use Rattle.px_terms.specs.Typing.{Place, in_body, behind}
use Rattle.px_types.specs.declared.env.Stand.{Stand}
use Rattle.px_types.specs.declared.env.Stand.TheVariants.{Body, Behind}
use Rattle.px_types.specs.Outcome.{passes, is_property_of, obligations_before}

-- the place of a declaration
abbrev pub place_of : Stand → Place
place_of (Body n) = in_body n
place_of (Behind count) = behind count

-- the sets are those of the properties that are declared of each definition before the place
abbrev pub Knows : Program → Place → List PropSet → Type 0
Knows P place known = (n : ℕ) (p : Prop) → passes (λ (set : PropSet). has_prop set p) (slice_get known n)
    ≡ list_any (is_property_of n p) (obligations_before P place)
