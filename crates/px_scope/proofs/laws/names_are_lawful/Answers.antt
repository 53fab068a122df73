use Rattle.px_scope.proofs.LawfulNames.{lawful_program}
use Rattle.px_scope.proofs.laws.names_are_lawful.Goals as goal

pub returns : goal.returns
returns c = lawful_program
