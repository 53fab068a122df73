use Rattle.px_equations.proofs.KnownSteps.{set_by}
use Rattle.px_equations.proofs.known.declared_of.Goals as goal

pub returns : goal.returns
returns c =
    set_by _ c.declares.result c.declares-2.result c.declares-3.result c.declares-4.result c.declares-5.result c.declares-6.result c.declares-7.result
    c.declares-8.result c.declares-9.result c.declares-10.result c.declares-11.result c.declares.ensures c.declares-2.ensures c.declares-3.ensures
    c.declares-4.ensures c.declares-5.ensures c.declares-6.ensures c.declares-7.ensures c.declares-8.ensures c.declares-9.ensures c.declares-10.ensures
    c.declares-11.ensures
