use Rattle.px_cases.proofs.Lists.{both_false}
use Rattle.px_cases.proofs.shapes.room_for_fields.Goals as goal

pub returns-else-are_small_instances : goal.returns-else-are_small_instances
returns-else-are_small_instances c = λ room. both_false _ c.if-are_small_instances.false ((rw (c.as_slice.ensures, c.as_slice-fields.ensures) at c.are_small_instances.ensures).1 room.small)
