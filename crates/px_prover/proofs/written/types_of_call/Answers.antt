use Rattle.std.proofs.Common.{◌∙◌}
use Rattle.px_terms.specs.declared.types.Fun.{Fun}
use Rattle.px_prover.proofs.TypeLemmas.{listed_next}
use Rattle.px_prover.proofs.written.types_of_call.Goals as goal

pub loop-g-preserved : goal.loop-g-preserved
loop-g-preserved c = listed_next (λ (g : Fun). g.types) c.args.funs.now c.loop-g.g-index c.g-item.result c.args.fun.now.types c.loop-g.types c.in_ok-more.more c.append.new.self c.loop-g-test.true c.g-item.is c.loop-g.invariant (c.in_ok-more.ensures ∙ c.as_slice-in-loop-g.ensures) c.in_ok-append.ensures
