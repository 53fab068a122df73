use Rattle.px_machine.specs.Running.{parts_of, state_of}
use Rattle.px_machine.proofs.RunSteps.{RunSoFar}
use Rattle.px_machine.proofs.StepsLeft.{steps_left}
use Rattle.px_machine.proofs.machine.Machine.run.Given as goal

abbrev pub invariant-loop-number : goal.invariant-loop-number
invariant-loop-number l = RunSoFar l.code (state_of (parts_of l.initial.self)) l.budget (parts_of l.self)

abbrev pub decreases-loop-number : goal.decreases-loop-number
decreases-loop-number l = steps_left l.code l.budget (state_of (parts_of l.self))
