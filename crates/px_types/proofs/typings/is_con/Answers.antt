use Rattle.px_types.proofs.TypeOfSteps.{same_con, other_con, word_no_con, var_no_con}
use Rattle.px_types.proofs.typings.is_con.Goals as goal

pub returns-then-number-datatype : goal.returns-then-number-datatype
returns-then-number-datatype c =
    same_con c.args.found.now c.in-Con.number c.args.datatype c.in-Con.args c.args.types.now c.same_tys.result c.in-Con.is c.if-number-datatype.true
    (rw (c.as_slice.ensures, c.as_slice-then-number-datatype.ensures) at c.same_tys.ensures)

pub returns-else-number-datatype : goal.returns-else-number-datatype
returns-else-number-datatype c =
    other_con c.args.found.now c.in-Con.number c.args.datatype c.in-Con.args c.args.types.now c.in-Con.is c.if-number-datatype.false

pub returns-in-Word : goal.returns-in-Word
returns-in-Word c = word_no_con c.args.found.now c.args.datatype c.args.types.now c.in-Word.is

pub returns-in-Var : goal.returns-in-Var
returns-in-Var c = var_no_con c.args.found.now c.in-Var._number c.args.datatype c.args.types.now c.in-Var.is
