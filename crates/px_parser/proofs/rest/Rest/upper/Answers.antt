use Rattle.std.proofs.Common.{◌≡◌, true, false, rules}
use Rattle.px_parser.specs.Words.{word_of}
use Rattle.px_parser.specs.Kinds.{is_upper}
use Rattle.px_parser.specs.Gives.{words}
use Rattle.px_parser.specs.Reading.{upper_value}
use Rattle.px_parser.proofs.Fronts.{fails_at, none_at, other_at, some_at, where_holds, where_fails}
use Rattle.px_parser.proofs.rest.Rest.upper.Goals as goal

pub returns-in_default : goal.returns-in_default
returns-in_default c = fails_at c.fault.result (words c.args.self) _ c.fault.ensures (none_at upper_value (words c.args.self) (let e = c.in_default.ensures.words in e))

pub returns-then-ne : goal.returns-then-ne
returns-then-ne c =
    let t : is_upper c.in-Some.first.kind ≡ false = search rules in
    fails_at c.fault-then-ne.result (words c.args.self) _ c.fault-then-ne.ensures (other_at upper_value (words c.args.self) (words c.in-Some.rest) (word_of c.args.self.text.now c.in-Some.first) c.in-Some.ensures.words (where_fails _ _ t))

pub returns : goal.returns
returns c =
    let t : is_upper c.in-Some.first.kind ≡ true = search rules in
    some_at upper_value (words c.args.self) (words c.in-Some.rest) (word_of c.args.self.text.now c.in-Some.first) _ c.in-Some.ensures.words (rw c.in_ok-name_of.ensures.name (where_holds _ _ t))
