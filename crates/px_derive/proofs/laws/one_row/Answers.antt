use Rattle.px_derive.proofs.TypesRead.{lawful_names}
use Rattle.px_derive.proofs.OneText.{one_row}
use Rattle.px_derive.proofs.laws.one_row.Goals as goal

-- the line is read as the one row and as the other
pub returns : goal.returns
returns c = λ names r s lawful one other e. one_row names (lawful_names names lawful) r s one other e
