use Rattle.std.proofs.Common.{refl}
use Rattle.px_schedule.proofs.FieldFacts.{in_table}
use Rattle.px_schedule.proofs.lower_names.is_reserved.Goals as goal

pub returns : goal.returns
returns c = in_table _ _ _ _ c.is_one_of.ensures refl
