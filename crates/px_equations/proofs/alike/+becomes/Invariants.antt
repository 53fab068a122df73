use Rattle.std.proofs.Common.{◌≡◌, take}
use Rattle.px_terms.specs.Types.{tys_instance}
use Rattle.px_equations.proofs.alike.+becomes.Given as goal

abbrev pub invariant-all_become-loop-i : goal.invariant-all_become-loop-i
invariant-all_become-loop-i l = take l.i l.tys ≡ take l.i (tys_instance l.types l.others)
