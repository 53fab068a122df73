use Rattle.std.proofs.Common.{◌≡◌, map, take}
use Rattle.px_props.specs.Table.{equation_of}
use Rattle.px_props.specs.Signatures.{subject_of}
use Rattle.px_props.proofs.terms.equations.Given as goal

abbrev pub invariant-loop-sides : goal.invariant-loop-sides
invariant-loop-sides l = l.made ≡ map (equation_of (subject_of l.function)) (take l.sides-index l.written)
