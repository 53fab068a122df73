use Rattle.std.proofs.Common.{subst}
use Rattle.px_terms.specs.declared.program.Program.{Program}
use Rattle.px_terms.specs.declared.program.Declared.TheVariants as declared
use Rattle.px_equations.specs.Index.{IsIndex}
use Rattle.px_equations.proofs.IndexUse.{first_stands, tells_below, not_below}
use Rattle.px_equations.proofs.obligations.Obligations.lemma_below.Goals as goal

pub returns-then-first-number : goal.returns-then-first-number
returns-then-first-number c = (
  c.if-first-number.true,
  first_stands c.args.self.now.declared c.self.inside.index (declared.Lemma c.args.lemma) c.first_lemma-first.result c.args.number
      (subst (λ (P : Program). IsIndex P.declared c.self.inside.index) c.self.view_is c.self.invariant.indexed) c.first_lemma-first.ensures
      c.ranges.number.fits c.if-first-number.true,
)

pub returns-else-first-number : goal.returns-else-first-number
returns-else-first-number c = λ below. not_below c.first_lemma-first.result c.args.number c.if-first-number.false
    ((tells_below c.args.self.now.declared c.self.inside.index (declared.Lemma c.args.lemma) c.first_lemma-first.result c.args.number
    (subst (λ (P : Program). IsIndex P.declared c.self.inside.index) c.self.view_is c.self.invariant.indexed) c.first_lemma-first.ensures
    c.ranges.number.fits).1 below)
