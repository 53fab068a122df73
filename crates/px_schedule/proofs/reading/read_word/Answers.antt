use Rattle.std.proofs.Common.{◌≡◌, ◌<◌, ◌≤◌, ◌^◌, length, refl, rules}
use Rattle.std.specs.Str.Parse.{digits_value}
use Rattle.px_schedule.specs.Runs.{left}
use Rattle.px_schedule.proofs.WordSteps.{word_step, word_stuck, large_stuck}
use Rattle.px_schedule.proofs.reading.read_word.Goals as goal

pub returns-then-is_empty-clause-stuck : goal.returns-then-is_empty-clause-stuck
returns-then-is_empty-clause-stuck c =
    let none : length c.split_run.result.0.now ≡ 0 = search rules in
    word_stuck c.args.program.now c.args.ty.now c.requires.word _ c.requires.wants (left c.args.text) c.split_run.result.0.now (left c.split_run.result.1) c.requires.no_space c.split_run.ensures none c.args.reading.now.cells

pub returns-in_default-clause-stuck : goal.returns-in_default-clause-stuck
returns-in_default-clause-stuck c =
    let large : 2 ^ 64 ≤ digits_value 10 c.split_run.result.0.now = c.in_default.ensures in
    large_stuck c.args.program.now c.args.ty.now c.requires.word _ c.requires.wants (left c.args.text) c.split_run.result.0.now (left c.split_run.result.1) c.requires.no_space c.split_run.ensures large c.args.reading.now.cells

pub returns-clause-step : goal.returns-clause-step
returns-clause-step c =
    let some : 0 < length c.split_run.result.0.now = search rules in
    word_step c.args.program.now c.args.ty.now c.requires.word c.args.reading.now _ c.requires.wants c.requires.room (left c.args.text) c.split_run.result.0.now (left c.split_run.result.1) c.requires.no_space c.split_run.ensures some c.in-Some.word c.in-Some.ensures.0 c.in-Some.ensures.1 refl refl c.in_ok-push.ensures.ok
