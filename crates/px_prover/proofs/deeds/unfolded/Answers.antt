use Rattle.std.proofs.Common.{sym, subst, ◌≤◌}
use Rattle.px_terms.specs.Terms.{term_size, term_instance}
use Rattle.px_terms.specs.declared.term.Term.{Term}
use Rattle.px_prover.proofs.Counting.{few_counted}
use Rattle.px_prover.proofs.OwnDeeds.{body_instance}
use Rattle.px_prover.proofs.deeds.unfolded.Goals as goal

pub returns : goal.returns
returns c =
    let sigma = c.args.sigma.now in
    let small = few_counted (term_size (term_instance sigma c.in-Some.def.now.body)) c.args.nodes c.size_of_instance.result c.size_of_instance.ensures c.requires.limited c.if-size_of_instance-nodes.false in (
      body_instance c.args.program.now c.args.number sigma c.in-Some.def.now c.as_slice.result.now c.in_ok-instance.field-0 c.in-Some.ensures c.as_slice.ensures c.in_ok-instance.ensures,
      subst (λ (t : Term). term_size t ≤ c.args.nodes) (sym c.in_ok-instance.ensures) small,
    )
