use Rattle.std.proofs.Common.{reverse}
use Rattle.std.proofs.lemmas.Result.{on_ok_weaker}
use Rattle.px_machine.proofs.PrintSteps.{word_printed, name_printed, opening_printed}
use Rattle.px_machine.proofs.printing.print_cell.Goals as goal

pub returns-in_ok-print_word-in-Lit : goal.returns-in_ok-print_word-in-Lit
returns-in_ok-print_word-in-Lit c =
    on_ok_weaker c.close.result
    (word_printed c.args.names.now c.args.cell c.in-Lit.word c.args.text.now (reverse c.args.levels.now) c.print_word.new.text c.close.new.text _ c.in-Lit.is c.in_ok-print_word-in-Lit.ensures)
    c.close.ensures

pub returns-then-fields-eq0 : goal.returns-then-fields-eq0
returns-then-fields-eq0 c =
    on_ok_weaker c.close-then-fields-eq0.result
    (name_printed c.args.names.now c.args.cell c.in-Con.datatype c.in-Con.con c.in-Con.fields c.args.text.now (reverse c.args.levels.now) c.print_constructor.new.text c.close-then-fields-eq0.new.text _ c.in-Con.is c.if-fields-eq0.true c.in_ok-print_constructor-in-Con.ensures)
    c.close-then-fields-eq0.ensures

pub returns-in_ok-push-in-Con-2 : goal.returns-in_ok-push-in-Con-2
returns-in_ok-push-in-Con-2 c =
    opening_printed c.args.names.now c.args.cell c.in-Con.datatype c.in-Con.con c.in-Con.fields c.args.text.now c.args.levels.now c.print_constructor.new.text c.push.new.self c.push-else-fields-eq0.new.self
    c.in-Con.is c.if-fields-eq0.false c.in_ok-print_constructor-in-Con.ensures c.in_ok-push-in-Con.ensures.ok c.in_ok-push-in-Con-2.ensures.ok
