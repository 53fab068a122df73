use Rattle.std.proofs.Common.{◌≡◌, sym, ◌∙◌}
use Rattle.std.specs.Fmt.{decimal}
use Rattle.px_drive.specs.Messages.{argument_words}
use Rattle.px_drive.proofs.messages.write_arguments.Goals as goal

pub returns-clause-writes : goal.returns-clause-writes
returns-clause-writes g c =
    let words : argument_words c.args.kind ≡ c.as_bytes.result.now = sym (c.as_bytes.ensures.value ∙ c.cause_of.ensures) in
    let number : decimal c.args.word ≡ c.as_bytes-2.result.now = sym (c.as_bytes-2.ensures.value ∙ c.format.ensures.text) in
    rw (words, number) c.write_pieces.ensures.writes
