use Rattle.std.specs.List.{flat_map}
use Rattle.std.proofs.Common.{take}
use Rattle.px_scope.specs.Uses.{function_uses}
use Rattle.px_scope.specs.Numbers.{AreFunctions}
use Rattle.px_scope.specs.Answers.{Fine}
use Rattle.px_scope.proofs.functions.resolve_functions.Given as goal

abbrev pub invariant-loop-fun : goal.invariant-loop-fun
invariant-loop-fun l = Fine (flat_map (function_uses l.text l.globals l.locals) (take l.fun-index l.funs)) (AreFunctions l.globals l.locals (take l.fun-index l.funs)) l.functions
