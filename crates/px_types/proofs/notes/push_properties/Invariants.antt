use Rattle.std.proofs.Common.{◌≡◌, ◌++◌, take}
use Rattle.px_types.specs.Declarations.{obligations_of}
use Rattle.px_types.proofs.notes.push_properties.Given as goal

abbrev pub invariant-loop-written : goal.invariant-loop-written
invariant-loop-written l = l.declared ≡ l.initial.declared ++ obligations_of l.def (take l.written-index l.props)
