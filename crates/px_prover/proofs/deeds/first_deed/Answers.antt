use Rattle.std.proofs.lemmas.Result.{IfOk-weaker}
use Rattle.px_prover.specs.Normalising.{IsFactDone, IsFirst}
use Rattle.px_prover.proofs.DeedLemmas.{fact_first}
use Rattle.px_prover.proofs.deeds.first_deed.Goals as goal

pub returns-in-Some : goal.returns-in-Some
returns-in-Some c =
    IfOk-weaker c.rewrite.result (IsFactDone c.args.setting.now.facts.now c.in-Some.number c.args.nodes) (IsFirst c.args.setting.now c.args.t.now c.args.nodes)
    (λ d is. fact_first c.args.setting.now c.args.t.now c.in-Some.number c.args.nodes d c.in-Some.ensures is) c.rewrite.ensures
