use Rattle.std.proofs.Common.{[]}
use Rattle.px_terms.specs.declared.term.Term.{Term, out-Term}
use Rattle.px_prover.specs.Uses.{types_written}
use Rattle.px_prover.proofs.TypeLemmas.{listed_next}
use Rattle.px_prover.proofs.written.types_written_at.Goals as goal

pub loop-t-preserved : goal.loop-t-preserved
loop-t-preserved c = listed_next (λ (t : Term). types_written (out-Term t)) c.args.terms.now c.loop-t.t-index c.t-item.result [] c.loop-t.types c.in_ok-more.more c.append.new.self c.loop-t-test.true c.t-item.is c.loop-t.invariant c.in_ok-more.ensures c.in_ok-append.ensures
