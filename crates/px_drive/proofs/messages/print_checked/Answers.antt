use Rattle.std.proofs.Common.{◌≡◌, ◌-◌, ℕ, length, sym, ap, ◌∙◌}
use Rattle.std.specs.Fmt.{decimal}
use Rattle.px_drive.proofs.messages.print_checked.Goals as goal

pub returns-clause-writes : goal.returns-clause-writes
returns-clause-writes g c =
    let datatypes : decimal (length c.args.program.now.datatypes - 1) ≡ c.as_bytes.result.now = sym (c.as_bytes.ensures.value ∙ (c.format.ensures.text ∙ ap decimal (c.saturating_sub.ensures ∙ ap (λ (n : ℕ). n - 1) c.len.ensures))) in
    let definitions : decimal (length c.args.program.now.defs) ≡ c.as_bytes-2.result.now = sym (c.as_bytes-2.ensures.value ∙ (c.format-2.ensures.text ∙ ap decimal c.len-2.ensures)) in
    let obligations : decimal (length c.args.program.now.declared) ≡ c.as_bytes-3.result.now = sym (c.as_bytes-3.ensures.value ∙ (c.format-3.ensures.text ∙ ap decimal c.len-3.ensures)) in
    rw (datatypes, definitions, obligations) c.write_pieces.ensures.writes
