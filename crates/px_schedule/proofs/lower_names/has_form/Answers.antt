use Rattle.std.proofs.Common.{◌≡◌, true, rules}
use Rattle.std.specs.Prelude.{slice_index}
use Rattle.std.specs.Char.{is_ascii_lowercase}
use Rattle.px_schedule.proofs.FieldFacts.{form_is}
use Rattle.px_schedule.proofs.lower_names.has_form.Goals as goal

pub returns-then-is_ascii_lowercase : goal.returns-then-is_ascii_lowercase
returns-then-is_ascii_lowercase c =
    let first : is_ascii_lowercase (slice_index c.args.word.now 0) ≡ true = search rules in
    form_is c.args.word.now c.run.result first c.run.ensures.long
