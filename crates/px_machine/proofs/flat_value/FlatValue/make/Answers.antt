use Rattle.std.proofs.Common.{◌≡◌, refl}
use Rattle.px_terms.specs.declared.term.Value.TheVariants as value
use Rattle.px_machine.specs.Cells.{preorder}
use Rattle.px_machine.proofs.FlatSteps.{made, is_one, shows}
use Rattle.px_machine.proofs.flat_value.FlatValue.make.Goals as goal

all_cells : (c : goal.After-from_vec) → c.from_vec.result ≡ preorder (value.Con c.args.datatype c.args.con c.args.fields.now)
all_cells c = made c.args.datatype c.args.con _ c.new-cells.result.items c.push.new.self.items c.loop-field.cells.items c.from_vec.result c.args.fields.now c.loop-field.field-index c.new-cells.ensures.items c.in_ok-push.ensures.items refl c.loop-field-test.false c.loop-field.invariant c.from_vec.ensures

pub invariant_of-result : goal.invariant_of-result
invariant_of-result c = is_one c.from_vec.result (value.Con c.args.datatype c.args.con c.args.fields.now) (all_cells c)

pub returns : goal.returns
returns c = shows c.from_vec.result (value.Con c.args.datatype c.args.con c.args.fields.now) (all_cells c)
