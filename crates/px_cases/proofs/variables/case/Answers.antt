use Rattle.std.proofs.Common.{◌≡◌, sym, subst, ap, ◌∙◌, List}
use Rattle.px_terms.specs.declared.clause.Equation.{Equation}
use Rattle.px_terms.specs.TreeEdits.{equations_put}
use Rattle.px_terms.specs.Sequents.{IsWithinLimits}
use Rattle.px_terms.specs.Rows.{fresh_constructor}
use Rattle.px_cases.proofs.Lists.{both_false}
use Rattle.px_cases.proofs.CaseLemmas.{by_made, room_needed, put_needed, case_fits, case_made}
use Rattle.px_cases.proofs.variables.case.Goals as goal

pub returns-in_default-clause-end : goal.returns-in_default-clause-end
returns-in_default-clause-end c = λ within. c.in_default.ensures (room_needed c.args.sequent.now c.args.variable c.args.shape.now.datatype c.args.shape.now.args.now c.args.shape.now.con c.args.shape.now.constructor.now within)

pub returns-then-not-is_small_put-clause-end : goal.returns-then-not-is_small_put-clause-end
returns-then-not-is_small_put-clause-end c = λ within.
    let by = by_made c.args.sequent.now c.args.shape.now.datatype c.args.shape.now.args.now c.args.shape.now.con c.args.shape.now.constructor.now c.in-Some.fresh c.in_ok-by.by c.in-Some.ensures.0 c.in_ok-by.ensures in
    both_false _ c.if-not-is_small_put.true (c.is_small_put.ensures.1 (put_needed c.args.sequent.now c.args.variable c.args.shape.now.datatype c.args.shape.now.args.now c.args.shape.now.con c.args.shape.now.constructor.now c.in_ok-by.by by within))

pub returns-clause-small : goal.returns-clause-small
returns-clause-small c =
    let by = by_made c.args.sequent.now c.args.shape.now.datatype c.args.shape.now.args.now c.args.shape.now.con c.args.shape.now.constructor.now c.in-Some.fresh c.in_ok-by.by c.in-Some.ensures.0 c.in_ok-by.ensures in
    let vars = rw c.as_slice.ensures at c.in_ok-vars.ensures in
    let made = case_made c.args.sequent.now c.args.variable c.args.shape.now.datatype c.args.shape.now.args.now c.args.shape.now.con c.args.shape.now.constructor.now c.in-Some.fresh c.in_ok-by.by c.in_ok-funs.funs c.in_ok-vars.vars c.in_ok-frame.frame c.in_ok-facts.facts c.in_ok-alternatives.alternatives c.in-Some.ensures.0 by (c.in_ok-funs.ensures ∙ c.as_slice-3.ensures) vars c.in_ok-frame.ensures (c.in_ok-facts.ensures ∙ ap (λ (es : List Equation). equations_put c.args.variable c.in_ok-by.by es) c.as_slice-4.ensures) (c.in_ok-alternatives.ensures ∙ ap (λ (es : List Equation). equations_put c.args.variable c.in_ok-by.by es) c.as_slice-5.ensures) in
    let small = rw c.as_slice-2.ensures at (c.are_small_types.ensures.0 c.if-not-are_small_types.false) in
    subst IsWithinLimits (sym made) (case_fits c.args.sequent.now c.args.variable c.args.shape.now.datatype c.args.shape.now.args.now c.args.shape.now.con c.args.shape.now.constructor.now c.in_ok-vars.vars c.in_ok-by.by vars by c.in-Some.ensures.1 small (c.is_small_put.ensures.0 c.if-not-is_small_put.false))
