use Rattle.px_totality.proofs.Kept.{extensions_keep}
use Rattle.px_totality.proofs.laws.extensions_keep.Goals as goal

pub returns : goal.returns
returns c = extensions_keep
