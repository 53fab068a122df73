use Rattle.px_base.specs.NameForms.{is_name_part}
use Rattle.px_derive.proofs.NumberFacts.{run_split}
use Rattle.px_derive.proofs.rest.Rest.word.Goals as goal

pub returns : goal.returns
returns c = run_split is_name_part c.args.self.bytes.now c.split_at.result.0.now c.split_at.result.1.now c.run-end.result c.run-end.ensures.long c.split_at.ensures.front c.split_at.ensures.back
