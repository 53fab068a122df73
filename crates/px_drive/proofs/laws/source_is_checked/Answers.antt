use Rattle.px_drive.proofs.Sources as sources
use Rattle.px_drive.proofs.laws.source_is_checked.Goals as goal

pub returns : goal.returns
returns c = sources.source_is_checked_law c.trees_are_fine.ensures c.numberings_fit.ensures c.programs_are_typed.ensures c.names_are_lawful.ensures c.programs_have_numbers.ensures c.each_call_has_value.ensures c.each_function_has_value.ensures c.each_term_has_value.ensures
