use Rattle.std.proofs.Common.{List, [], ◌∷◌, ◌++◌, Some, None, arith, refl, sym, subst, ap, ◌∙◌, ◌≡◌}
use Rattle.std.proofs.lemmas.Result.{IfOk-weaker}
use Rattle.px_terms.specs.declared.term.Term.{Term, out-Term}
use Rattle.px_terms.specs.declared.term.Term.TheVariants as term
use Rattle.px_terms.specs.declared.term.Term.TheOpen.{Term-F}
use Rattle.px_prover.specs.Norms.{match_of}
use Rattle.px_prover.specs.declared.stages.Stage.{Stage}
use Rattle.px_prover.specs.declared.norm.LeadEnd.{LeadEnd as Ended}
use Rattle.px_prover.specs.Turning.{IsNormalised, IsTurn, IsFreed, IsLed, IsAfterSelect, IsLeftAt}
use Rattle.px_prover.proofs.TurnLemmas.{norm_start, norm_next, norm_end, lead_free}
use Rattle.px_prover.specs.declared.stages.StopTree.{StopTree}
use Rattle.px_prover.specs.Normalising.{moves_of, moves_below}
use Rattle.px_prover.proofs.FrameLemmas.{has_node}
use Rattle.px_prover.proofs.OwnDeeds.{item_there}
use Rattle.px_prover.proofs.NormLemmas.{part_fits, each_begins, each_goes, each_ends}
use Rattle.px_prover.proofs.TurnedLemmas.{turned_rests, turned_takes, turned_blocked, turned_freed}
use Rattle.px_prover.proofs.LayerLemmas.{leaf_parted, con_parted, call_parted, on_parted}
use Rattle.px_prover.proofs.MatchLemmas.{no_match_of, match_waits, match_goes}
use Rattle.px_prover.proofs.norm.+norm.Goals as goal

pub lead-returns : goal.lead-returns
lead-returns t c =
    subst (λ (l : List Stage). IsFreed c.args.setting.now c.args.t c.args.left c.args.levels c.args.left c.args.t l) (sym c.new.ensures)
    (lead_free c.args.setting.now c.args.t c.args.left c.args.levels (no_match_of (match_of (out-Term c.args.t)) (sym c.is_match.ensures ∙ c.if-is_match.false)) c.requires.fits.levels)

pub lead_match-returns-in_ok-stop-in-None : goal.lead_match-returns-in_ok-stop-in-None
lead_match-returns-in_ok-stop-in-None t c =
    match_waits c.args.setting.now c.args.t.now c.args.left c.args.levels c.in-Match.on c.get.result.now c.in-Match.datatype c.in-Match.types c.in-Match.arms c.as_slice.result.now c.size.result c.in_ok-normal.normal c.in_ok-chosen.field-0
    c.in-Match.is c.get.ensures c.as_slice.ensures c.requires.fits c.size.ensures c.in_ok-normal.ensures c.in_ok-chosen.ensures c.in_ok-stop-in-None.stop c.in-None.is (c.in_ok-stop-in-None.ensures ∙ c.inner.ensures)

pub lead_match-returns-in_ok-end-in-Some : goal.lead_match-returns-in_ok-end-in-Some
lead_match-returns-in_ok-end-in-Some t c =
    IfOk-weaker c.after_select.result (IsAfterSelect c.in_ok-normal.normal.stages c.in_ok-end-in-Some.end) (IsLed c.args.setting.now c.args.t.now c.args.left c.args.levels)
    (λ made after. match_goes c.args.setting.now c.args.t.now c.args.left c.args.levels c.in-Match.on c.get.result.now c.in-Match.datatype c.in-Match.types c.in-Match.arms c.as_slice.result.now c.size.result c.in_ok-normal.normal c.in_ok-chosen.field-0
    c.in-Match.is c.get.ensures c.as_slice.ensures c.requires.fits c.size.ensures c.in_ok-normal.ensures c.in_ok-chosen.ensures c.in-Some.next c.left_after-left.result c.in_ok-end-in-Some.end made c.in-Some.is c.left_after-left.ensures c.in_ok-end-in-Some.ensures after) c.after_select.ensures

pub norm-turns-init : goal.norm-turns-init
norm-turns-init t c =
    norm_start c.args.setting.now c.args.t.now c.args.left c.args.levels c.in_ok-parted.parted c.in_ok-parted.ensures

pub norm-returns-in-Rests : goal.norm-returns-in-Rests
norm-returns-in-Rests t c =
    IfOk-weaker c.left_at.result (IsLeftAt c.turns.parted c.in-Rests.stop) (IsNormalised c.args.setting.now c.args.t.now c.args.left c.args.levels)
    (λ n at. norm_end c.args.setting.now c.args.t.now c.args.left c.args.levels c.turns.parted c.turns.invariant c.in-Rests.stop n (subst (IsTurn c.args.setting.now c.turns.parted.term c.turns.parted.left c.args.levels) c.in-Rests.is c.in_ok-stop.ensures) at) c.left_at.ensures

pub norm-turns-preserved-in_ok-parted-in-Goes : goal.norm-turns-preserved-in_ok-parted-in-Goes
norm-turns-preserved-in_ok-parted-in-Goes t c =
    norm_next c.args.setting.now c.args.t.now c.args.left c.args.levels c.turns.parted c.turns.invariant c.in-Goes.left c.in-Goes.term c.in-Goes.stages c.in_ok-next-in-Goes.next c.in_ok-parted-in-Goes.parted
    (subst (IsTurn c.args.setting.now c.turns.parted.term c.turns.parted.left c.args.levels) c.in-Goes.is c.in_ok-stop.ensures) c.in_ok-next-in-Goes.ensures c.in_ok-parted-in-Goes.ensures

pub norm-turns-preserved-in_ok-parted-in-Goes-2 : goal.norm-turns-preserved-in_ok-parted-in-Goes-2
norm-turns-preserved-in_ok-parted-in-Goes-2 t c =
    norm_next c.args.setting.now c.args.t.now c.args.left c.args.levels c.turns.parted c.turns.invariant c.in-Goes.left c.in-Goes.term c.in-Goes.stages c.in_ok-next-in-Goes.next c.in_ok-parted-in-Goes.parted
    (subst (IsTurn c.args.setting.now c.turns.parted.term c.turns.parted.left c.args.levels) c.in-Goes.is c.in_ok-stop.ensures) c.in_ok-next-in-Goes.ensures c.in_ok-parted-in-Goes.ensures

pub norm-turns-preserved-in_ok-parted-in-Goes-3 : goal.norm-turns-preserved-in_ok-parted-in-Goes-3
norm-turns-preserved-in_ok-parted-in-Goes-3 t c =
    norm_next c.args.setting.now c.args.t.now c.args.left c.args.levels c.turns.parted c.turns.invariant c.in-Goes.left c.in-Goes.term c.in-Goes.stages c.in_ok-next-in-Goes.next c.in_ok-parted-in-Goes.parted
    (subst (IsTurn c.args.setting.now c.turns.parted.term c.turns.parted.left c.args.levels) c.in-Goes.is c.in_ok-stop.ensures) c.in_ok-next-in-Goes.ensures c.in_ok-parted-in-Goes.ensures

pub norm-turns-preserved : goal.norm-turns-preserved
norm-turns-preserved t c =
    norm_next c.args.setting.now c.args.t.now c.args.left c.args.levels c.turns.parted c.turns.invariant c.in-Goes.left c.in-Goes.term c.in-Goes.stages c.in_ok-next-in-Goes.next c.in_ok-parted-in-Goes.parted
    (subst (IsTurn c.args.setting.now c.turns.parted.term c.turns.parted.left c.args.levels) c.in-Goes.is c.in_ok-stop.ensures) c.in_ok-next-in-Goes.ensures c.in_ok-parted-in-Goes.ensures

pub norm_parts-returns-in-Free : goal.norm_parts-returns-in-Free
norm_parts-returns-in-Free t c =
    leaf_parted c.args.setting.now c.args.t.now c.args.left c.args.levels (Term-F.Free c.in-Free.number) (term.Free c.in-Free.number) c.unparted.result c.in-Free.is (term.outs-Free c.in-Free.number) refl c.requires.fits c.unparted.ensures

pub norm_parts-returns-in-Bound : goal.norm_parts-returns-in-Bound
norm_parts-returns-in-Bound t c =
    leaf_parted c.args.setting.now c.args.t.now c.args.left c.args.levels (Term-F.Bound c.in-Bound.number) (term.Bound c.in-Bound.number) c.unparted-in-Bound.result c.in-Bound.is (term.outs-Bound c.in-Bound.number) refl c.requires.fits c.unparted-in-Bound.ensures

pub norm_parts-returns-in-Lit : goal.norm_parts-returns-in-Lit
norm_parts-returns-in-Lit t c =
    leaf_parted c.args.setting.now c.args.t.now c.args.left c.args.levels (Term-F.Lit c.in-Lit.word) (term.Lit c.in-Lit.word) c.unparted-in-Lit.result c.in-Lit.is (term.outs-Lit c.in-Lit.word) refl c.requires.fits c.unparted-in-Lit.ensures

pub norm_each-loop-number-init : goal.norm_each-loop-number-init
norm_each-loop-number-init t c =
    each_begins c.args.setting.now c.args.parts.now c.args.left c.args.levels c.new-terms.result c.new-stops.result c.new-stages.result c.new-terms.ensures c.new-stops.ensures c.new-stages.ensures c.requires.fit.levels

pub norm_each-norm-requires : goal.norm_each-norm-requires
norm_each-norm-requires t c =
    let units = c.loop-number.invariant.left.units in let at_most = c.decreases in (omega (arith, units, at_most), part_fits c.args.setting.now c.args.parts.now c.args.left c.args.levels c.loop-number.number c.loop-number.left c.loop-number.terms c.loop-number.stops c.loop-number.stages c.loop-number.invariant c.index-parts-number.result (item_there c.args.parts.now c.loop-number.number c.index-parts-number.result c.loop-number-test.true c.index-parts-number.is) c.requires.fit)

pub norm_each-overflow_cast-number : goal.norm_each-overflow_cast-number
norm_each-overflow_cast-number t c =
    let few = has_node c.args.parts.now in let nodes = c.requires.fit.nodes in let within = c.loop-number-test.true in omega (arith, few, nodes, within)

pub norm_each-loop-number-preserved : goal.norm_each-loop-number-preserved
norm_each-loop-number-preserved t c =
    each_goes c.args.setting.now c.args.parts.now c.args.left c.args.levels c.loop-number.number c.loop-number.left c.loop-number.terms c.loop-number.stops c.loop-number.stages c.loop-number.invariant c.index-parts-number.result (item_there c.args.parts.now c.loop-number.number c.index-parts-number.result c.loop-number-test.true c.index-parts-number.is) c.in_ok-normal.normal c.in_ok-normal.ensures c.push.new.self c.push-in-loop-number.new.self c.push_below.new.stages
    c.in_ok-push.ensures.ok c.in_ok-push-2.ensures.ok c.in_ok-push_below.ensures

pub norm_each-returns-clause-are : goal.norm_each-returns-clause-are
norm_each-returns-clause-are t c =
    each_ends c.args.setting.now c.args.parts.now c.args.left c.args.levels c.loop-number.number c.loop-number.left c.loop-number.terms c.loop-number.stops c.loop-number.stages c.loop-number.invariant c.loop-number.auto.number-end c.loop-number-test.false

pub norm_parts-returns-in_ok-parts-in-Con : goal.norm_parts-returns-in_ok-parts-in-Con
norm_parts-returns-in_ok-parts-in-Con t c =
    con_parted c.args.setting.now c.args.t.now c.args.left c.args.levels c.in-Con.datatype c.in-Con.con c.in-Con.types c.in_ok-types-in-Con.types c.in-Con.fields c.as_slice-in-Con.result.now c.in_ok-parts-in-Con.parts c.in-Con.is
    (c.in_ok-types-in-Con.ensures ∙ c.as_slice.ensures) c.as_slice-in-Con.ensures c.requires.fits c.in_ok-parts-in-Con.ensures.are c.in_ok-parts-in-Con.ensures.left

pub norm_parts-returns-in_ok-parts-in-Call : goal.norm_parts-returns-in_ok-parts-in-Call
norm_parts-returns-in_ok-parts-in-Call t c =
    call_parted c.args.setting.now c.args.t.now c.args.left c.args.levels c.in-Call.fun c.in_ok-fun-in-Call.fun c.in-Call.funs c.in_ok-funs-in-Call.funs c.in-Call.args c.as_slice-in-Call-2.result.now c.in_ok-parts-in-Call.parts c.in-Call.is c.in_ok-fun-in-Call.ensures
    (c.in_ok-funs-in-Call.ensures ∙ c.as_slice-in-Call.ensures) c.as_slice-in-Call-2.ensures c.requires.fits c.in_ok-parts-in-Call.ensures.are c.in_ok-parts-in-Call.ensures.left

pub norm_parts-returns-in_ok-on-in-Match : goal.norm_parts-returns-in_ok-on-in-Match
norm_parts-returns-in_ok-on-in-Match t c =
    on_parted c.args.setting.now c.args.t.now c.args.left c.args.levels c.in-Match.on c.get.result.now c.in_ok-on-in-Match.on c.in-Match.datatype c.in-Match.types c.in_ok-types-in-Match.types c.in-Match.arms c.in_ok-arms-in-Match.arms c.in_ok-normal-in-Match.normal c.push.new.self
    c.push_below.new.stages c.in-Match.is (c.in_ok-types-in-Match.ensures ∙ c.as_slice-in-Match.ensures) (c.in_ok-arms-in-Match.ensures ∙ c.as_slice-in-Match-2.ensures) c.get.ensures c.in_ok-on-in-Match.ensures c.requires.fits c.in_ok-normal-in-Match.ensures
    (c.in_ok-push-in-Match.ensures.ok ∙ ap (λ (l : List StopTree). l ++ c.in_ok-normal-in-Match.normal.stops ∷ []) c.new-parts.ensures)
    (c.in_ok-push_below-in-Match.ensures ∙ ap (λ (l : List Stage). moves_of l ++ moves_below 0 (moves_of c.in_ok-normal-in-Match.normal.stages)) c.new-all.ensures)

pub turned-returns-in-Rests : goal.turned-returns-in-Rests
turned-returns-in-Rests t c =
    turned_rests c.args.setting.now c.args.t.now c.args.left c.args.levels c.size.result c.in_ok-deed_at.field-0 c.requires.fits c.size.ensures c.in_ok-deed_at.ensures c.in-Rests.is

pub turned-returns-in_ok-one_stage-in-Takes : goal.turned-returns-in_ok-one_stage-in-Takes
turned-returns-in_ok-one_stage-in-Takes t c =
    turned_takes c.args.setting.now c.args.t.now c.args.left c.args.levels c.size.result c.in_ok-deed_at.field-0 c.requires.fits c.size.ensures c.in_ok-deed_at.ensures c.in-Takes.kind c.in-Takes.term c.left_after.result c.in_ok-one_stage-in-Takes.field-0 c.in-Takes.is c.left_after.ensures c.in_ok-one_stage-in-Takes.ensures

pub turned-returns-in-Blocked : goal.turned-returns-in-Blocked
turned-returns-in-Blocked t c =
    turned_blocked c.args.setting.now c.args.t.now c.args.left c.args.levels c.size.result c.in_ok-deed_at.field-0 c.requires.fits c.size.ensures c.in_ok-deed_at.ensures c.in-Leads.body c.left_after-left.result c.in_ok-stop-in-Leads.field-0 c.in-Leads.is c.left_after-left.ensures c.in_ok-stop-in-Leads.ensures c.in-Blocked.stop c.in-Blocked.is

pub turned-returns-in_ok-append-in-Freed : goal.turned-returns-in_ok-append-in-Freed
turned-returns-in_ok-append-in-Freed t c =
    turned_freed c.args.setting.now c.args.t.now c.args.left c.args.levels c.size.result c.in_ok-deed_at.field-0 c.requires.fits c.size.ensures c.in_ok-deed_at.ensures c.in-Leads.body c.left_after-left.result c.in_ok-stop-in-Leads.field-0 c.in-Leads.is c.left_after-left.ensures c.in_ok-stop-in-Leads.ensures c.in-Freed.left c.in-Freed.term c.in-Freed.stages c.append.new.self c.in-Freed.is
    (c.in_ok-append-in-Freed.ensures ∙ ap (λ (l : List Stage). l ++ c.in-Freed.stages) c.in_ok-all-in-Freed.ensures)
