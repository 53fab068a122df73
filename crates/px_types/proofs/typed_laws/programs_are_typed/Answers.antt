use Rattle.px_types.proofs.Reached.{program_is_reached}
use Rattle.px_types.proofs.typed_laws.programs_are_typed.Goals as goal

pub returns : goal.returns
returns c raw P fits is = let taken = program_is_reached raw P fits is in taken.reached.typed
