use Rattle.px_drive.proofs.Sources as sources
use Rattle.px_drive.proofs.laws.scope_fault_is_first.Goals as goal

pub returns : goal.returns
returns c = sources.scope_fault_is_first_law c.names_rise.ensures c.fault_is_first.ensures c.each_name_is_listed.ensures
