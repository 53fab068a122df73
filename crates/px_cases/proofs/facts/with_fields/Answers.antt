use Rattle.px_cases.proofs.facts.with_fields.Goals as goal

pub returns-in_default-clause-end : goal.returns-in_default-clause-end
returns-in_default-clause-end c = λ child added. c.in_default.ensures added.fields added.parts added.one_head
