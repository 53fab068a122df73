use Rattle.px_derive.proofs.TypesRead.{lawful_names}
use Rattle.px_derive.proofs.OneText.{one_list}
use Rattle.px_derive.proofs.laws.one_list.Goals as goal

pub returns : goal.returns
returns c = λ names rs ss lawful one other e. one_list names (lawful_names names lawful) rs ss one other e
