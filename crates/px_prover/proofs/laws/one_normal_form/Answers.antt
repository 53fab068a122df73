use Rattle.std.proofs.Common.{refl}
use Rattle.px_prover.proofs.OneNorm.{norm_one}
use Rattle.px_prover.proofs.laws.one_normal_form.Goals as goal

pub returns : goal.returns
returns c P facts room units t n m a b = norm_one P facts a b refl refl refl
