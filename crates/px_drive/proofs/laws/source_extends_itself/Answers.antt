use Rattle.px_drive.proofs.Sources as sources
use Rattle.px_drive.proofs.laws.source_extends_itself.Goals as goal

pub returns : goal.returns
returns c = sources.source_extends_itself_law c.trees_are_fine.ensures c.numberings_fit.ensures c.programs_are_typed.ensures c.extensions_compose.ensures
