use Rattle.std.proofs.Common.{◌≡◌, map, take}
use Rattle.px_terms.specs.RawProp.{RawProp}
use Rattle.px_terms.specs.PropSets.{set_of}
use Rattle.px_props.proofs.sets.set_of_written.Given as goal

abbrev pub invariant-loop-written : goal.invariant-loop-written
invariant-loop-written l = l.set ≡ set_of (map (λ (raw : RawProp). raw.prop) (take l.written-index l.props))
