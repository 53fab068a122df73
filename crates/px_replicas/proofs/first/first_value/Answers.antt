use Rattle.std.proofs.Common.{◌∙◌}
use Rattle.px_replicas.proofs.FirstSteps.{is_first, shows_first}
use Rattle.px_replicas.proofs.first.first_value.Goals as goal

pub from_cells-requires : goal.from_cells-requires
from_cells-requires c = is_first c.args.term.now c.new-cells.result c.push_cells.new.cells c.new-cells.ensures c.in_ok-push_cells.ensures

pub returns : goal.returns
returns c = c.from_cells.ensures ∙ shows_first c.args.term.now c.new-cells.result c.push_cells.new.cells c.new-cells.ensures c.in_ok-push_cells.ensures
