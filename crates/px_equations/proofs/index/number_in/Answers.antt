use Rattle.px_equations.proofs.Lists.{none_found}
use Rattle.px_equations.proofs.index.number_in.Goals as goal

pub returns-in-None : goal.returns-in-None
returns-in-None c = none_found c.args.numbers.now c.as_slice.result.now c.args.place _ c.as_slice.ensures c.in-None.ensures
