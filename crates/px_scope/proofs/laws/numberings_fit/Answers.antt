use Rattle.px_scope.proofs.FittingPrograms.{fitting_program}
use Rattle.px_scope.proofs.laws.numberings_fit.Goals as goal

pub returns : goal.returns
returns c = fitting_program
