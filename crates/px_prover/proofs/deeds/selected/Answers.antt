use Rattle.px_terms.specs.Steps.{with_fields}
use Rattle.px_terms.specs.Terms.{term_size}
use Rattle.std.proofs.Common.{refl, sym, subst, ◌∙◌, ◌≤◌}
use Rattle.px_prover.specs.Deeds.{selected}
use Rattle.px_terms.specs.declared.term.Term.{Term, out-Term}
use Rattle.px_prover.proofs.Counting.{few_counted, more_counted}
use Rattle.px_prover.proofs.OwnDeeds.{arm_selected, one_taken}
use Rattle.px_prover.proofs.deeds.selected.Goals as goal

pub returns-then-size_of_arm-nodes : goal.returns-then-size_of_arm-nodes
returns-then-size_of_arm-nodes c =
    let P = c.args.program.now in
    let made = with_fields P c.as_slice.result.now c.in-Some.arm.now in
    let is = arm_selected P c.args.on.now c.in-Some.arm.now made c.in-Con.datatype c.in-Con.con c.in-Con.types c.in-Con.fields c.as_slice.result.now c.args.arms.now c.in-Con.is c.in-Some.ensures c.as_slice.ensures refl in
    one_taken (selected P c.args.arms.now (out-Term c.args.on.now)) made c.args.nodes is (more_counted (term_size made) c.args.nodes c.size_of_arm.result c.size_of_arm.ensures c.if-size_of_arm-nodes.true)

pub returns : goal.returns
returns c =
    let P = c.args.program.now in
    let made = with_fields P c.as_slice.result.now c.in-Some.arm.now in
    let small = few_counted (term_size made) c.args.nodes c.size_of_arm.result c.size_of_arm.ensures c.requires.limited c.if-size_of_arm-nodes.false in (
      arm_selected P c.args.on.now c.in-Some.arm.now c.in_ok-open_arm.field-0 c.in-Con.datatype c.in-Con.con c.in-Con.types c.in-Con.fields c.as_slice-2.result.now c.args.arms.now c.in-Con.is c.in-Some.ensures c.as_slice-2.ensures c.in_ok-open_arm.ensures,
      subst (λ (t : Term). term_size t ≤ c.args.nodes) (sym c.in_ok-open_arm.ensures) (subst (λ (fs : _). term_size (with_fields P fs c.in-Some.arm.now) ≤ c.args.nodes) (c.as_slice.ensures ∙ sym c.as_slice-2.ensures) small),
    )
