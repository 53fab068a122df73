use Rattle.std.proofs.Common.{◌≡◌, sym, ◌∙◌}
use Rattle.std.specs.Fmt.{decimal}
use Rattle.px_drive.proofs.messages.write_descent.Goals as goal

pub returns-clause-writes : goal.returns-clause-writes
returns-clause-writes g c =
    let definition : decimal c.args.def ≡ c.as_bytes.result.now = sym (c.as_bytes.ensures.value ∙ c.format.ensures.text) in
    let call : decimal c.args.call ≡ c.as_bytes-2.result.now = sym (c.as_bytes-2.ensures.value ∙ c.format-2.ensures.text) in
    rw (definition, call) c.write_pieces.ensures.writes
