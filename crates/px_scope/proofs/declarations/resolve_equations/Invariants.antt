use Rattle.std.proofs.Common.{◌≡◌, take}
use Rattle.std.specs.List.{flat_map}
use Rattle.px_scope.specs.ItemUses.{equation_uses}
use Rattle.px_scope.specs.Programs.{AreEquations}
use Rattle.px_scope.specs.Answers.{Fine}
use Rattle.px_scope.proofs.declarations.resolve_equations.Given as goal

abbrev pub invariant-loop-equation : goal.invariant-loop-equation
invariant-loop-equation l = record {
  resolved : Fine (flat_map (equation_uses l.text l.globals l.fn.locals) (take l.equation-index l.equations)) (AreEquations l.globals l.fn.locals (take l.equation-index l.equations)) l.resolved;
  locals : l.locals ≡ l.fn.locals;
}
