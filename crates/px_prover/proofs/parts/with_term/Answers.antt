use Rattle.px_prover.proofs.Gathering.{is_there, is_put}
use Rattle.px_prover.proofs.parts.with_term.Goals as goal

pub returns-then-is_among : goal.returns-then-is_among
returns-then-is_among c = is_there c.as_slice.result.now c.args.kept c.args.t.now c.as_slice.ensures (c.is_among.ensures.0 c.if-is_among.true)

pub returns : goal.returns
returns c = is_put c.args.kept c.push.new.self c.args.t.now c.in_ok-copy.field-0 c.in_ok-copy.ensures c.in_ok-push.ensures.ok
