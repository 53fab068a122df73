use Rattle.std.proofs.Common.{refl}
use Rattle.px_base.specs.declared.head.Head.TheVariants.{Wle, Weq}
use Rattle.std.proofs.Common.{true, false}
use Rattle.px_prover.specs.Normalising.{comparison}
use Rattle.px_prover.proofs.OwnDeeds.{own_match, own_call, own_compare}
use Rattle.px_prover.proofs.deeds.own_deed.Goals as goal

pub returns-in_ok-selected-in-Match : goal.returns-in_ok-selected-in-Match
returns-in_ok-selected-in-Match c =
    own_match c.args.program.now c.args.t.now c.in-Match.on c.get.result.now c.in-Match.datatype c.args.nodes c.in-Match.types c.in-Match.arms c.as_slice.result.now c.in_ok-selected-in-Match.field-0 c.takes_if.result
    c.in-Match.is c.get.ensures c.as_slice.ensures c.in_ok-selected-in-Match.ensures c.takes_if.ensures

pub returns-in_ok-unfolded-in-Def : goal.returns-in_ok-unfolded-in-Def
returns-in_ok-unfolded-in-Def c =
    own_call c.args.program.now c.args.t.now c.in-Call.fun c.in-Def.number c.args.nodes c.in-Call.funs c.as_slice-in-Def.result.now c.in-Call.args c.as_slice-in-Def-2.result.now c.in_ok-sigma-in-Def.sigma
    c.in_ok-unfolded-in-Def.field-0 c.leads_if.result c.in-Call.is c.in-Def.is c.in_ok-sigma-in-Def.ensures c.as_slice-in-Def.ensures c.as_slice-in-Def-2.ensures c.in_ok-unfolded-in-Def.ensures c.leads_if.ensures

pub returns-in-Wle : goal.returns-in-Wle
returns-in-Wle c =
    own_compare c.args.program.now c.args.t.now c.in-Call.fun Wle c.args.nodes c.in-Call.funs c.in-Call.args c.as_slice-in-Wle.result.now (comparison true) c.compared.result c.takes_if-in-Wle.result
    c.in-Call.is c.in-Wle.is refl c.as_slice-in-Wle.ensures c.compared.ensures c.takes_if-in-Wle.ensures

pub returns-in-Weq : goal.returns-in-Weq
returns-in-Weq c =
    own_compare c.args.program.now c.args.t.now c.in-Call.fun Weq c.args.nodes c.in-Call.funs c.in-Call.args c.as_slice-in-Weq.result.now (comparison false) c.compared-in-Weq.result c.takes_if-in-Weq.result
    c.in-Call.is c.in-Weq.is refl c.as_slice-in-Weq.ensures c.compared-in-Weq.ensures c.takes_if-in-Weq.ensures
