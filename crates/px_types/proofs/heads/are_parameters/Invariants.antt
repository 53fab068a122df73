use Rattle.std.proofs.Common.{◌≡◌, take}
use Rattle.px_terms.specs.Types.{own_types}
use Rattle.px_types.proofs.heads.are_parameters.Given as goal

abbrev pub invariant-loop-number : goal.invariant-loop-number
invariant-loop-number l = take l.number l.ty-items ≡ own_types l.number
