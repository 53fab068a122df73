use Rattle.px_machine.specs.declared.cells.Cell.TheVariants as cell
use Rattle.px_machine.proofs.FlatSteps.{word_first, fields_behind, constructor_first, no_cells}
use Rattle.px_machine.proofs.flat_value.FlatValue.branch.Goals as goal

pub returns-in-Lit : goal.returns-in-Lit
returns-in-Lit c = word_first c.args.self.now c.cells.result.now _ c.cells.ensures c.in-len1-up.len_at_least c.in-Lit.field-0 c.in-Lit.is

pub values_of-requires : goal.values_of-requires
values_of-requires c = fields_behind c.args.self.now c.cells.result.now (cell.Lit 0) c.cells.ensures c.in-len1-up.len_at_least

pub returns-in_default : goal.returns-in_default
returns-in_default c = absurd (no_cells c.args.self.now c.cells.result.now c.cells.ensures c.in_default.len_below)

pub returns-in_ok-values_of-in-Con : goal.returns-in_ok-values_of-in-Con
returns-in_ok-values_of-in-Con c =
    constructor_first c.args.self.now c.cells.result.now _ c.cells.ensures c.in-len1-up.len_at_least c.in-Con.datatype c.in-Con.con c.in-Con.fields c.in_ok-values_of-in-Con.field-0 c.in-Con.is c.in_ok-values_of-in-Con.ensures
