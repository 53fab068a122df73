use Rattle.px_scope.proofs.SmallSteps.{small_surface}
use Rattle.px_scope.proofs.ProgramSteps.{each_program_is}
use Rattle.px_scope.proofs.LawfulNames.{lawful_answer}
use Rattle.px_scope.proofs.FittingPrograms.{fitting_is}
use Rattle.px_scope.proofs.programs.resolve.Goals as goal

pub resolve_items-requires : goal.resolve_items-requires
resolve_items-requires c = rw c.as_slice.ensures (small_surface c.args.surface.now c.requires.small c.requires.filled)

pub returns-clause-each_program : goal.returns-clause-each_program
returns-clause-each_program c = each_program_is c.args.surface.now c.as_slice.result.now c.resolve_items.result c.as_slice.ensures c.resolve_items.ensures

pub returns-clause-lawful : goal.returns-clause-lawful
returns-clause-lawful c = lawful_answer c.args.surface.now c.as_slice.result.now c.resolve_items.result c.as_slice.ensures c.requires.named c.resolve_items.ensures

pub returns-clause-fitting : goal.returns-clause-fitting
returns-clause-fitting c = fitting_is c.args.surface.now c.as_slice.result.now c.resolve_items.result c.as_slice.ensures c.resolve_items.ensures c.requires.small c.requires.nests c.requires.filled
