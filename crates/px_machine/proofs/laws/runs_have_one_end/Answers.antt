use Rattle.std.proofs.Common.{refl}
use Rattle.px_machine.proofs.OneEnd.{one_end}
use Rattle.px_machine.proofs.laws.runs_have_one_end.Goals as goal

pub returns : goal.returns
returns c = λ code d funs values v w a b l m. one_end code _ _ _ v w a b refl refl l m
