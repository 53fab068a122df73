use Rattle.std.proofs.Common.{refl, ◌∙◌, ◌+◌, sym, ap, drop, List}
use Rattle.px_machine.specs.declared.code.CallTarget.{CallTarget}
use Rattle.px_machine.proofs.TargetLemmas.{with_rest, next_meant, step_meant}
use Rattle.px_machine.proofs.machine.all_meant.Goals as goal

pub meant-requires : goal.meant-requires
meant-requires c = next_meant c.args.funs.now c.args.targets.now c.loop-target.all c.requires.0 c.loop-target.target-index _ _ c.loop-target-test.true refl (c.loop-target.invariant ∙ c.requires.1)

pub loop-target-preserved : goal.loop-target-preserved
loop-target-preserved c =
    ap (λ (xs : List CallTarget). with_rest c.args.funs.now xs (drop (c.loop-target.target-index + 1) c.args.targets.now)) c.in_ok-push.ensures.ok
    ∙ step_meant c.args.funs.now c.args.targets.now c.loop-target.all c.requires.0 c.loop-target.target-index _ c.meant.result _ c.loop-target-test.true refl c.meant.ensures (c.loop-target.invariant ∙ c.requires.1)
    ∙ sym c.requires.1
