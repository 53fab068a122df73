use Rattle.std.proofs.Common.{◌≡◌, true, rules}
use Rattle.px_parser.specs.Words.{word_of}
use Rattle.px_parser.specs.Kinds.{is_mark}
use Rattle.px_parser.specs.Gives.{words}
use Rattle.px_parser.specs.Reading.{mark_value}
use Rattle.px_parser.proofs.Fronts.{some_at, where_holds}
use Rattle.px_parser.proofs.rest.Rest.past.Goals as goal

pub returns-clause-rest : goal.returns-clause-rest
returns-clause-rest c =
    let t : is_mark c.args.mark c.in_ok-first.first.kind ≡ true = search rules in
    some_at (mark_value c.args.mark) (words c.args.self) (words c.in_ok-first.rest) (word_of c.args.self.text.now c.in_ok-first.first) tt c.in_ok-first.ensures.words (where_holds _ _ t)
