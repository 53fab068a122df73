use Rattle.std.proofs.Common.{take}
use Rattle.px_equations.specs.Index.{IsIndex}
use Rattle.px_equations.proofs.index.index_of.Given as goal

abbrev pub invariant-loop-number : goal.invariant-loop-number
invariant-loop-number l = IsIndex (take l.number l.declared) l.index
