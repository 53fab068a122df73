use Rattle.px_types.proofs.Reached.{program_is_reached}
use Rattle.px_types.proofs.Numbers.{has_numbers}
use Rattle.px_types.proofs.typed_laws.programs_have_numbers.Goals as goal

pub returns : goal.returns
returns c raw P fits is = let taken = program_is_reached raw P fits is in has_numbers raw taken.counts P taken.reached fits
