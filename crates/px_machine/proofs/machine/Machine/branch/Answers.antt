use Rattle.px_machine.specs.Running.{parts_of}
use Rattle.px_machine.proofs.FrameLemmas.{no_word, branch_in_code, fields_below, place_within}
use Rattle.px_machine.proofs.machine.Machine.branch.Goals as goal

pub unreachable-requires : goal.unreachable-requires
unreachable-requires c = no_word (parts_of c.args.self.now) c.args.places.now c.take_last-number.new.numbers.items c.take_last-number.result c.in_default.field-0 c.requires.can c.take_last-number.ensures c.in_default.ensures

pub fields_at-fields-requires : goal.fields_at-fields-requires
fields_at-fields-requires c = fields_below c.args.self.now.heap c.take_last-number.result c.in-Con.datatype c.in-Con.con c.in-Con.first c.in-Con.count c.requires.can.run.heap c.in-Con.ensures

pub bounds-places-con : goal.bounds-places-con
bounds-places-con c = place_within (parts_of c.args.self.now) c.args.places.now c.take_last-number.new.numbers.items c.take_last-number.result c.in-Con.datatype c.in-Con.con c.in-Con.first c.in-Con.count c.requires.can c.take_last-number.ensures c.in-Con.ensures

pub returns : goal.returns
returns c = branch_in_code (parts_of c.args.self.now) c.args.places.now c.take_last-number.new.numbers.items _ c.fields_at-fields.result.now c.take_last-number.result c.in-Con.datatype c.in-Con.con c.in-Con.first c.in-Con.count c.requires.can c.take_last-number.ensures c.in-Con.ensures c.in_ok-extend_from_slice.ensures.items c.fields_at-fields.ensures
