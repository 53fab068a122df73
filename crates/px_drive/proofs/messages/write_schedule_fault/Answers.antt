use Rattle.std.proofs.Common.{◌≡◌, sym, ◌∙◌}
use Rattle.std.specs.Fmt.{decimal}
use Rattle.px_drive.specs.Messages.{schedule_words}
use Rattle.px_drive.proofs.messages.write_schedule_fault.Goals as goal

pub returns-clause-writes : goal.returns-clause-writes
returns-clause-writes g c =
    let number : decimal c.args.line ≡ c.as_bytes.result.now = sym (c.as_bytes.ensures.value ∙ c.format.ensures.text) in
    let words : schedule_words c.args.kind ≡ c.as_bytes-2.result.now = sym (c.as_bytes-2.ensures.value ∙ c.rule_of_schedule.ensures) in
    rw (number, words) c.write_pieces.ensures.writes
