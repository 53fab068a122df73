use Rattle.std.proofs.Common.{sym, ◌∙◌}
use Rattle.px_derive.proofs.NumberFacts.{valued, no_number}
use Rattle.px_derive.proofs.numbers.number_of.Goals as goal

pub returns-then-not-is_numeral : goal.returns-then-not-is_numeral
returns-then-not-is_numeral c = sym (no_number c.args.digits.now (sym c.is_numeral.ensures ∙ c.if-not-is_numeral.true))

pub returns : goal.returns
returns c = valued c.args.digits.now c.value_of.result (sym c.is_numeral.ensures ∙ c.if-not-is_numeral.false) c.value_of.ensures
