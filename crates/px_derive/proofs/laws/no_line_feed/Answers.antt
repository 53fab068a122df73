use Rattle.px_derive.proofs.TypesRead.{lawful_names}
use Rattle.px_derive.proofs.NoFeeds.{no_feed}
use Rattle.px_derive.proofs.laws.no_line_feed.Goals as goal

pub returns : goal.returns
returns c = λ names r lawful is. no_feed names (lawful_names names lawful) r is
