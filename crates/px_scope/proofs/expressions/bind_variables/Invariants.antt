use Rattle.std.proofs.Common.{◌≡◌, map, take, None}
use Rattle.std.specs.List.{fold}
use Rattle.px_parser.specs.declared.surface.Name.{Name}
use Rattle.px_scope.specs.Uses.{first_broken, variables_uses, bind_one}
use Rattle.px_scope.proofs.expressions.bind_variables.Given as goal

abbrev pub invariant-loop-var : goal.invariant-loop-var
invariant-loop-var l = record {
  fine : first_broken (variables_uses l.fn.locals (take l.var-index l.vars)) ≡ None;
  places : l.places ≡ map (λ (v : Name). v.at) (take l.var-index l.vars);
  bound : l.locals ≡ fold bind_one l.fn.locals (take l.var-index l.vars);
}
