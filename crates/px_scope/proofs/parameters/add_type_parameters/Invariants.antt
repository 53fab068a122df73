use Rattle.std.proofs.Common.{take}
use Rattle.px_scope.specs.Declaring.{with_type_parameter}
use Rattle.px_scope.proofs.StateSteps.{Reached}
use Rattle.px_scope.proofs.ParameterSteps.{type_parameter_use}
use Rattle.px_scope.proofs.parameters.add_type_parameters.Given as goal

abbrev pub invariant-loop-name : goal.invariant-loop-name
invariant-loop-name l = Reached with_type_parameter (type_parameter_use l.globals) l.fn.types (take l.name-index l.names) l.types
