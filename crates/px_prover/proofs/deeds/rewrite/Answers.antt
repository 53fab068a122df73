use Rattle.px_prover.proofs.OwnDeeds.{fact_deed}
use Rattle.px_prover.proofs.deeds.rewrite.Goals as goal

pub returns : goal.returns
returns c =
    fact_deed c.args.setting.now.facts.now c.args.number c.args.nodes c.size.result c.index-setting-number.result c.in_ok-copy.field-0 c.requires.within c.index-setting-number.is c.in_ok-copy.ensures
    c.size.ensures c.requires.limited c.if-size-nodes.false
