use Rattle.std.proofs.Common.{refl}
use Rattle.px_prover.proofs.OneBlocker.{leaves_one}
use Rattle.px_prover.proofs.laws.one_list_of_leaf_pairs.Goals as goal

pub returns : goal.returns
returns c path s t leaves others one other = leaves_one path one other refl refl
