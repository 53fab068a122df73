use Rattle.std.proofs.Common.{◌≡◌, take}
use Rattle.px_terms.specs.Typing.{live}
use Rattle.px_prover.proofs.frames.live_variables.Given as goal

abbrev pub invariant-loop-ty : goal.invariant-loop-ty
invariant-loop-ty l = l.vars ≡ live (take l.ty-index l.types)
