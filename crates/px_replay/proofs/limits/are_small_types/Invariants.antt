use Rattle.std.proofs.Common.{take, All, IfSome, Option}
use Rattle.px_terms.specs.declared.types.Ty.{Ty}
use Rattle.px_terms.specs.Sequents.{IsSmallType}
use Rattle.px_replay.proofs.limits.are_small_types.Given as goal

abbrev pub invariant-loop-var : goal.invariant-loop-var
invariant-loop-var l = All (λ (v : Option Ty). IfSome v IsSmallType) (take l.var-index l.vars)
