use Rattle.std.specs.List.{flat_map}
use Rattle.std.proofs.Common.{take}
use Rattle.px_parser.specs.declared.surface.SExpr.{SExpr}
use Rattle.px_scope.specs.Uses.{expr_uses, From}
use Rattle.px_scope.specs.Numbers.{AreTerms}
use Rattle.px_scope.specs.Answers.{Fine}
use Rattle.px_scope.proofs.expressions.+parts.Given as goal

abbrev pub invariant-resolve_parts-loop-expr : goal.invariant-resolve_parts-loop-expr
invariant-resolve_parts-loop-expr l = Fine (flat_map (λ (e : SExpr). expr_uses l.text l.globals e From l.locals) (take l.expr-index l.exprs)) (AreTerms l.globals l.locals (take l.expr-index l.exprs)) l.terms
