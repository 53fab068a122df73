use Rattle.px_types.proofs.Exact.{breaks_of}
use Rattle.px_types.proofs.TypesExact.{exact_types}
use Rattle.px_types.proofs.laws.types_break_as_found.Goals as goal

pub returns : goal.returns
returns c P tparams raws fault = (breaks_of (exact_types P tparams raws) fault, (exact_types P tparams raws).err fault)
