use Rattle.px_compile.proofs.CodeSteps.{one_compiled, all_compiled}
use Rattle.px_compile.proofs.Standing.{code_stands}
use Rattle.px_compile.proofs.program.compile.Goals as goal

pub loop-definition-preserved : goal.loop-definition-preserved
loop-definition-preserved c =
    one_compiled c.program-program.result.now c.as_slice-definition-items.result.now c.loop-definition.defs c.push.new.self c.in_ok-compile_definition.field-0
    c.loop-definition.definition-index c.definition-item.result c.loop-definition-test.true c.definition-item.is c.loop-definition.invariant
    c.in_ok-compile_definition.ensures c.in_ok-push.ensures.ok

pub returns : goal.returns
returns c =
    let P = c.args.checked.now in
    let compiled =
    all_compiled P c.program-program.result.now c.as_slice-definition-items.result.now c.loop-definition.defs c.loop-definition.definition-index
    c.program-program.ensures.same c.as_slice-definition-items.ensures c.loop-definition.invariant c.loop-definition-test.false in
    code_stands P (record { defs = c.loop-definition.defs }) compiled c.program-program.ensures.checked c.runs_have_one_end.ensures
