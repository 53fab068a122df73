use Rattle.std.proofs.lemmas.Bool.Decides.{Decides-eqb}
use Rattle.std.proofs.lemmas.Slice.Eq.{strip_prefix_is}
use Rattle.px_derive.proofs.Fronts.{stripped_some, stripped_none}
use Rattle.px_derive.proofs.rest.Rest.past.Goals as goal

pub returns-in-Some : goal.returns-in-Some
returns-in-Some c = stripped_some c.args.word.now c.args.self.bytes.now c.strip_prefix.result c.in-Some.bytes (strip_prefix_is Decides-eqb c.args.self.bytes.now c.args.word.now c.strip_prefix.result c.strip_prefix.ensures.cases) c.in-Some.is

pub returns-in-None : goal.returns-in-None
returns-in-None c = stripped_none c.args.word.now c.args.self.bytes.now c.strip_prefix.result (strip_prefix_is Decides-eqb c.args.self.bytes.now c.args.word.now c.strip_prefix.result c.strip_prefix.ensures.cases) c.in-None.is
