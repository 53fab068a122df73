use Rattle.std.proofs.Common.{◌≡◌, drop, map, reverse}
use Rattle.px_compile.specs.Layout.{in_order, term_code}
use Rattle.px_compile.proofs.CodeSteps.{ArmsStand}
use Rattle.px_compile.proofs.emit.+emit.Given as goal

abbrev pub invariant-emit_arms-loop-con : goal.invariant-emit_arms-loop-con
invariant-emit_arms-loop-con l =
    ArmsStand l.scope.program.now l.datatype l.con l.arms l.scope.locals l.fn.code.items l.code.items l.places.items

abbrev pub invariant-emit_terms-loop-index : goal.invariant-emit_terms-loop-index
invariant-emit_terms-loop-index l =
    reverse l.code.items ≡ in_order (map (term_code l.scope.program.now) (drop l.index l.terms)) l.scope.locals (reverse l.fn.code.items)
