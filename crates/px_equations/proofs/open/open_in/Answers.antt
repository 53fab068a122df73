use Rattle.std.proofs.Common.{subst, sym}
use Rattle.px_terms.specs.declared.row.Ref.{Ref}
use Rattle.px_equations.specs.Open.{TellsFor}
use Rattle.px_equations.proofs.Opening.{is_hypothesis}
use Rattle.px_equations.proofs.open.open_in.Goals as goal

pub returns-in-Hypothesis-clause-open : goal.returns-in-Hypothesis-clause-open
returns-in-Hypothesis-clause-open c = is_hypothesis c.in-Hypothesis.is

pub returns-in-Lemma-clause-open : goal.returns-in-Lemma-clause-open
returns-in-Lemma-clause-open c =
    subst (λ (ref : Ref). TellsFor c.args.all.now c.args.number c.args.own.now ref c.lemma_in.result) (sym c.in-Lemma.is)
    (c.lemma_in.ensures.open c.args.own.now)
