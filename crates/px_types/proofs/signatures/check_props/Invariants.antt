use Rattle.std.proofs.Common.{◌≡◌, drop}
use Rattle.px_types.specs.NextOutcome.{props_found}
use Rattle.px_types.proofs.signatures.check_props.Given as goal

abbrev pub invariant-loop-written : goal.invariant-loop-written
invariant-loop-written l = props_found l.program l.funs l.head (drop l.written-index l.props) ≡ props_found l.program l.funs l.head l.props
