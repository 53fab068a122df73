use Rattle.std.proofs.Common.{◌≡◌, sym, ◌∙◌}
use Rattle.std.specs.Fmt.{decimal}
use Rattle.px_drive.specs.Messages.{why_words}
use Rattle.px_drive.proofs.messages.write_rejected.Goals as goal

pub returns-clause-writes : goal.returns-clause-writes
returns-clause-writes g c =
    let number : decimal c.args.line ≡ c.as_bytes.result.now = sym (c.as_bytes.ensures.value ∙ c.format.ensures.text) in
    let words : why_words c.args.why ≡ c.as_bytes-2.result.now = sym (c.as_bytes-2.ensures.value ∙ c.words_of.ensures) in
    rw (number, words) c.write_pieces.ensures.writes
