use Rattle.std.specs.List.{flat_map}
use Rattle.std.proofs.Common.{◌≡◌, take}
use Rattle.px_parser.specs.declared.surface.SExpr.{SExpr}
use Rattle.px_parser.specs.declared.surface.SArm.{SArm}
use Rattle.px_scope.specs.Uses.{expr_uses, arm_uses, Data}
use Rattle.px_scope.specs.Numbers.{AreTerms, AreArms}
use Rattle.px_scope.specs.Answers.{Fine}
use Rattle.px_scope.proofs.expressions.+terms.Given as goal

abbrev pub invariant-resolve_arms-loop-arm : goal.invariant-resolve_arms-loop-arm
invariant-resolve_arms-loop-arm l = record {
  fine : Fine (flat_map (λ (a : SArm). arm_uses l.text l.globals a l.fn.locals) (take l.arm-index l.arms)) (AreArms l.globals l.fn.locals (take l.arm-index l.arms)) l.resolved;
  kept : l.locals ≡ l.fn.locals;
}

abbrev pub invariant-resolve_terms-loop-expr : goal.invariant-resolve_terms-loop-expr
invariant-resolve_terms-loop-expr l = record {
  fine : Fine (flat_map (λ (e : SExpr). expr_uses l.text l.globals e Data l.fn.locals) (take l.expr-index l.expr-items)) (AreTerms l.globals l.fn.locals (take l.expr-index l.expr-items)) l.terms;
  kept : l.locals ≡ l.fn.locals;
}
