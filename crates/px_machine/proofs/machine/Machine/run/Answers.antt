use Rattle.std.proofs.Common.{subst}
use Rattle.px_machine.specs.Running.{parts_of, state_of, StepsTo}
use Rattle.px_machine.proofs.RunSteps.{run_starts, next_there, can_do, run_more, run_falls, run_ends, run_spends, spent_on}
use Rattle.px_machine.proofs.machine.Machine.run.Goals as goal

pub loop-number-init : goal.loop-number-init
loop-number-init c = run_starts c.args.code.now c.args.budget (parts_of c.args.self.now) c.requires.run c.requires.within c.requires.ends

pub instruction-instr-requires : goal.instruction-instr-requires
instruction-instr-requires c = next_there c.args.code.now (state_of (parts_of c.args.self.now)) c.args.budget (parts_of c.loop-number.self) c.loop-number.invariant

pub step-requires-clause-can : goal.step-requires-clause-can
step-requires-clause-can c =
    can_do c.args.code.now (state_of (parts_of c.args.self.now)) c.args.budget (parts_of c.loop-number.self) c.instruction-instr.result.now c.loop-number.invariant c.instruction-instr.ensures.at

pub returns-in_err-number-clause-spent : goal.returns-in_err-number-clause-spent
returns-in_err-number-clause-spent c =
    spent_on c.from_residual.result c.in_err-number.field-0.0 _ c.from_residual.ensures.1
    (λ is. run_spends c.args.code.now (state_of (parts_of c.args.self.now)) c.args.budget (parts_of c.loop-number.self) c.instruction-instr.result.now c.loop-number.invariant c.instruction-instr.ensures.at (c.in_err-number.ensures.spent is))

pub returns-in-Some-clause-ended : goal.returns-in-Some-clause-ended
returns-in-Some-clause-ended c =
    run_ends c.args.code.now (state_of (parts_of c.args.self.now)) c.args.budget (parts_of c.loop-number.self) c.instruction-instr.result.now c.loop-number.invariant c.instruction-instr.ensures.at (parts_of c.step.new.self) c.in-Some.number
    (subst (StepsTo c.instruction-instr.result.now (parts_of c.loop-number.self) (parts_of c.step.new.self)) c.in-Some.is c.in_ok-number.ensures.steps)

pub loop-number-smaller : goal.loop-number-smaller
loop-number-smaller c =
    run_falls c.args.code.now (state_of (parts_of c.args.self.now)) c.args.budget (parts_of c.loop-number.self) c.instruction-instr.result.now c.loop-number.invariant c.instruction-instr.ensures.at (parts_of c.step.new.self)
    c.requires.forward
    (subst (StepsTo c.instruction-instr.result.now (parts_of c.loop-number.self) (parts_of c.step.new.self)) c.in_default.is c.in_ok-number.ensures.steps) (c.in_ok-number.ensures.within c.loop-number.invariant.within)

pub loop-number-preserved : goal.loop-number-preserved
loop-number-preserved c =
    run_more c.args.code.now (state_of (parts_of c.args.self.now)) c.args.budget (parts_of c.loop-number.self) c.instruction-instr.result.now c.loop-number.invariant c.instruction-instr.ensures.at (parts_of c.step.new.self)
    (subst (StepsTo c.instruction-instr.result.now (parts_of c.loop-number.self) (parts_of c.step.new.self)) c.in_default.is c.in_ok-number.ensures.steps) (c.in_ok-number.ensures.within c.loop-number.invariant.within)
