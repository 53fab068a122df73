use Rattle.std.proofs.Common.{take, All}
use Rattle.px_terms.specs.Sequents.{IsSmallEquation}
use Rattle.px_replay.proofs.limits.are_small_equations.Given as goal

abbrev pub invariant-loop-equation : goal.invariant-loop-equation
invariant-loop-equation l = All (IsSmallEquation) (take l.equation-index l.equations)
