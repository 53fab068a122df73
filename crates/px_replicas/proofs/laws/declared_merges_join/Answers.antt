use Rattle.px_replicas.proofs.DeclaredMerges.{typed_merge_joins}
use Rattle.px_replicas.proofs.DeclaredReplicas.{founded_of, typed_of}
use Rattle.px_replicas.proofs.laws.declared_merges_join.Goals as goal

pub returns : goal.returns
returns c = λ P R declaration checked hold at. typed_merge_joins P R (founded_of checked) (typed_of declaration checked at) hold
