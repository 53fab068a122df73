use Rattle.std.proofs.Common.{◌≡◌, take}
use Rattle.px_terms.specs.Types.{tys_instance}
use Rattle.px_equations.proofs.alike.+meets.Given as goal

abbrev pub invariant-all_meet-loop-i : goal.invariant-all_meet-loop-i
invariant-all_meet-loop-i l = take l.i (tys_instance l.types l.tys) ≡ take l.i (tys_instance l.others l.wanted)
