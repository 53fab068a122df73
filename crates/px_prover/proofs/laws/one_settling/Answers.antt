use Rattle.std.proofs.Common.{refl}
use Rattle.px_prover.proofs.OneSettling.{settles_one}
use Rattle.px_prover.proofs.laws.one_settling.Goals as goal

pub returns : goal.returns
returns c P b end last one other = settles_one 0 one other refl refl
