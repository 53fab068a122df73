use Rattle.std.proofs.Common.{◌≡◌, sym, ◌∙◌}
use Rattle.std.specs.Fmt.{decimal}
use Rattle.px_drive.proofs.messages.write_rule.Goals as goal

pub returns-clause-writes : goal.returns-clause-writes
returns-clause-writes g c =
    let rule : c.args.rule.now ≡ c.as_bytes.result.now = sym c.as_bytes.ensures.value in
    let place : decimal c.args.at ≡ c.as_bytes-2.result.now = sym (c.as_bytes-2.ensures.value ∙ c.format.ensures.text) in
    rw (rule, place) c.write_pieces.ensures.writes
