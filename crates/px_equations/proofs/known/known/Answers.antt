use Rattle.px_terms.specs.Typing.{IsSaid, behind}
use Rattle.px_equations.proofs.KnownSteps.{known_is}
use Rattle.px_equations.proofs.known.known.Goals as goal

pub returns : goal.returns
returns c = λ context same. known_is (IsSaid c.args.all.now (behind c.args.number) context c.args.head) c.said.result c.implied.result
    (c.said.ensures context same) c.implied.ensures
