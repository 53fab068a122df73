use Rattle.std.proofs.Common.{◌≡◌, true, take}
use Rattle.std.specs.List.{list_all}
use Rattle.px_types.specs.Envs.{env_of}
use Rattle.px_types.proofs.MetSteps.{param_met}
use Rattle.px_types.proofs.met.function_met.Given as goal

abbrev pub invariant-loop-ty : goal.invariant-loop-ty
invariant-loop-ty l = list_all (param_met (env_of l.env) l.types) (take l.ty-index l.ty-items) ≡ true
