use Rattle.std.proofs.Common.{sym, ◌∙◌}
use Rattle.px_schedule.proofs.CommandFacts.{no_space, opening_word, opening_space, opening_name, opening_number}
use Rattle.px_schedule.proofs.FieldFacts.{not_true}
use Rattle.std.specs.Prelude.{None}
use Rattle.px_schedule.proofs.commands.read_opening.Goals as goal

pub returns-in_err-words : goal.returns-in_err-words
returns-in_err-words c = rw c.from_residual.ensures (no_space c.args.line.now c.in_err-words.ensures None)

pub returns-then-not-is_word : goal.returns-then-not-is_word
returns-then-not-is_word c = opening_word _ _ _ c.in_ok-words.ensures (sym c.is_word.ensures ∙ c.if-not-is_word.true)

pub returns-in_err-fields : goal.returns-in_err-fields
returns-in_err-fields c = rw c.from_residual-in_err-fields.ensures (opening_space _ _ _ c.in_ok-words.ensures c.in_err-fields.ensures)

pub returns-then-not-is_lower_name : goal.returns-then-not-is_lower_name
returns-then-not-is_lower_name c = opening_name _ _ _ _ _ c.in_ok-words.ensures c.in_ok-fields.ensures (not_true _ c.is_lower_name.result c.is_lower_name.ensures c.if-not-is_lower_name.true)

pub returns-in_err-number_of : goal.returns-in_err-number_of
returns-in_err-number_of c = rw c.from_residual-in_err-number_of.ensures (opening_number _ _ _ _ _ c.in_ok-words.ensures c.in_ok-fields.ensures c.in_err-number_of.ensures)
