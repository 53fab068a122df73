use Rattle.px_replicas.proofs.OneOutput.{one_shown, one_text, same_numbers}
use Rattle.std.proofs.Common.{refl}
use Rattle.px_replicas.proofs.laws.one_output.Goals as goal

pub returns : goal.returns
returns c = record {
  shown = λ P R events i ones others. one_shown P R events i i ones others refl;
  lines = one_text;
  same_numbers = same_numbers;
}
