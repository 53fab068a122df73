use Rattle.px_prover.proofs.NormMoves.{norm_moves}
use Rattle.px_prover.proofs.laws.norms_are_moves.Goals as goal

pub returns : goal.returns
returns c P facts all room units t n among fits norm = norm_moves P facts all among norm fits
