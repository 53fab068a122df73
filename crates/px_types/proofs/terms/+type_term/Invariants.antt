use Rattle.std.proofs.Common.{◌≡◌, drop, reverse}
use Rattle.px_types.specs.Envs.{env_of, tys_of, chosen_in}
use Rattle.px_types.specs.Outcomes.{each_two, along}
use Rattle.px_types.specs.Outcome.{no_arms}
use Rattle.px_types.proofs.Loops.{after}
use Rattle.px_types.proofs.ArmSteps.{arm_here}
use Rattle.px_types.proofs.TermSteps.{part_here}
use Rattle.px_types.proofs.terms.+type_term.Given as goal

abbrev pub invariant-type_arms-loop-arm : goal.invariant-type_arms-loop-arm
invariant-type_arms-loop-arm l = record {
  rest : along (arm_here (env_of l.env) (reverse l.fn.bound) (chosen_in l.on)) l.slots (drop l.arm-index l.arms) ≡ along
      (arm_here (env_of l.env) (reverse l.fn.bound) (chosen_in l.on)) (no_arms l.on.datatype.now) l.arms;
  kept : l.bound ≡ l.fn.bound;
}

abbrev pub invariant-type_parts-loop-number : goal.invariant-type_parts-loop-number
invariant-type_parts-loop-number l = record {
  rest : after l.terms (each_two (part_here (env_of l.env) (reverse l.fn.bound)) (drop l.number l.raws) (drop l.number (tys_of l.wanted))) ≡ each_two
      (part_here (env_of l.env) (reverse l.fn.bound)) l.raws (tys_of l.wanted);
  kept : l.bound ≡ l.fn.bound;
}
