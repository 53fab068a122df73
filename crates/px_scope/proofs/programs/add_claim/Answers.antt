use Rattle.px_scope.proofs.ProgramSteps.{claim_next}
use Rattle.px_scope.proofs.programs.add_claim.Goals as goal

pub returns : goal.returns
returns c =
    claim_next c.args.text.now c.args.globals.now c.resolve_claim.new.globals c.args.program.now c.args.claim.now c.in_ok-raw.raw c.len-number.result c.push.new.self c.push-2.new.self c.len-number.ensures c.in_ok-push.ensures.ok c.in_ok-push-2.ensures.ok c.in_ok-raw.ensures
