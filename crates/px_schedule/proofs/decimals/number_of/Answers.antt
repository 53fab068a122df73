use Rattle.std.proofs.Common.{◌≡◌, ◌<◌, length, sym, ◌∙◌, rules}
use Rattle.px_schedule.specs.Runs.{left}
use Rattle.px_schedule.proofs.FieldFacts.{not_digits, all_digits, not_numeral, spelled}
use Rattle.px_schedule.proofs.decimals.number_of.Goals as goal

pub returns-then-not-is_empty : goal.returns-then-not-is_empty
returns-then-not-is_empty c =
    let some : 0 < length (left c.split_run.result.1) = search rules in
    not_digits c.args.word.now c.split_run.result.0.now (left c.split_run.result.1) c.split_run.ensures some

pub returns-then-not-is_numeral : goal.returns-then-not-is_numeral
returns-then-not-is_numeral c =
    let none : length (left c.split_run.result.1) ≡ 0 = search rules in
    let whole : c.args.word.now ≡ c.split_run.result.0.now = all_digits c.args.word.now c.split_run.result.0.now (left c.split_run.result.1) c.split_run.ensures none in
    λ n small e. not_numeral c.split_run.result.0.now (sym c.is_numeral.ensures ∙ c.if-not-is_numeral.true) n small (sym whole ∙ e)

pub returns : goal.returns
returns c =
    let none : length (left c.split_run.result.1) ≡ 0 = search rules in
    let whole : c.args.word.now ≡ c.split_run.result.0.now = all_digits c.args.word.now c.split_run.result.0.now (left c.split_run.result.1) c.split_run.ensures none in
    spelled c.args.word.now c.split_run.result.0.now whole c.split_run.ensures.each (sym c.is_numeral.ensures ∙ c.if-not-is_numeral.false) c.value_of.result c.value_of.ensures
