use Rattle.px_totality.proofs.Extensions.{extensions_compose}
use Rattle.px_totality.proofs.laws.extensions_compose.Goals as goal

pub returns : goal.returns
returns c = extensions_compose
