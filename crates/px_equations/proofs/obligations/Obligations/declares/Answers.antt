use Rattle.std.proofs.Common.{subst}
use Rattle.px_terms.specs.declared.program.Program.{Program}
use Rattle.px_terms.specs.declared.program.Declared.TheVariants as declared
use Rattle.px_equations.specs.Index.{IsIndex}
use Rattle.px_equations.proofs.IndexUse.{test_below}
use Rattle.px_equations.proofs.obligations.Obligations.declares.Goals as goal

pub returns : goal.returns
returns c = test_below c.args.self.now.declared c.self.inside.index (declared.Property c.args.def c.args.prop) c.first_property.result c.args.number
    (subst (λ (P : Program). IsIndex P.declared c.self.inside.index) c.self.view_is c.self.invariant.indexed) c.first_property.ensures c.ranges.number.fits
