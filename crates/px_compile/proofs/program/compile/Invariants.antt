use Rattle.std.proofs.Common.{◌≡◌, map, take}
use Rattle.px_compile.specs.Layout.{definition_code}
use Rattle.px_compile.proofs.program.compile.Given as goal

abbrev pub invariant-loop-definition : goal.invariant-loop-definition
invariant-loop-definition l = l.defs ≡ map (definition_code l.program) (take l.definition-index l.definition-items)
