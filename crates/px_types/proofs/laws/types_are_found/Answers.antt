use Rattle.px_types.proofs.Exact.{is_of}
use Rattle.px_types.proofs.TypesExact.{exact_types}
use Rattle.px_types.proofs.laws.types_are_found.Goals as goal

pub returns : goal.returns
returns c P tparams raws types = (is_of (exact_types P tparams raws) types, (exact_types P tparams raws).ok types)
