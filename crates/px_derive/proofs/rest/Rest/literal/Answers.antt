use Rattle.std.proofs.Common.{◌^◌, sym, ◌∙◌}
use Rattle.std.specs.Char.{is_ascii_digit}
use Rattle.px_derive.proofs.NumberFacts.{run_split, digits_front, number_some, number_none}
use Rattle.px_derive.proofs.rest.Rest.literal.Goals as goal

pub number_of-requires : goal.number_of-requires
number_of-requires c = digits_front c.args.self.bytes.now c.split_at.result.0.now c.run-end.result c.run-end.ensures.long c.split_at.ensures.front

pub returns-in-Some : goal.returns-in-Some
returns-in-Some c =
    let run = run_split is_ascii_digit c.args.self.bytes.now c.split_at.result.0.now c.split_at.result.1.now c.run-end.result c.run-end.ensures.long c.split_at.ensures.front c.split_at.ensures.back in
    number_some (2 ^ 64) c.args.self.bytes.now c.split_at.result.0.now c.split_at.result.1.now c.in-Some.number run (sym c.number_of.ensures ∙ c.in-Some.is)

pub returns-in-None : goal.returns-in-None
returns-in-None c =
    let run = run_split is_ascii_digit c.args.self.bytes.now c.split_at.result.0.now c.split_at.result.1.now c.run-end.result c.run-end.ensures.long c.split_at.ensures.front c.split_at.ensures.back in
    number_none (2 ^ 64) c.args.self.bytes.now c.split_at.result.0.now c.split_at.result.1.now run (sym c.number_of.ensures ∙ c.in-None.is)
