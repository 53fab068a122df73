use Rattle.std.specs.List.{flat_map}
use Rattle.std.proofs.Common.{take}
use Rattle.px_parser.specs.declared.surface.SExpr.{SExpr}
use Rattle.px_scope.specs.Uses.{expr_uses, Function}
use Rattle.px_scope.specs.Numbers.{AreArguments}
use Rattle.px_scope.specs.Answers.{Fine}
use Rattle.px_scope.proofs.functions.resolve_arguments.Given as goal

abbrev pub invariant-loop-arg : goal.invariant-loop-arg
invariant-loop-arg l = Fine (flat_map (λ (e : SExpr). expr_uses l.text l.globals e Function l.locals) (take l.arg-index l.arg-items)) (AreArguments l.globals l.locals (take l.arg-index l.arg-items)) l.functions
