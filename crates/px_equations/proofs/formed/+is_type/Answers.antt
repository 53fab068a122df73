use Rattle.std.proofs.lemmas.Bool.Decides.{Decides-ltb}
use Rattle.px_equations.proofs.Loops.{not_of}
use Rattle.px_equations.proofs.FormedSteps.{types_next, types_fail, types_end, word_is_type, var_is_type, con_is_type, con_is_no_type}
use Rattle.px_equations.proofs.formed.+is_type.Goals as goal

pub is_type-returns-in-Word : goal.is_type-returns-in-Word
is_type-returns-in-Word t c = word_is_type c.args.program.now c.args.tparams c.args.ty.now c.in-Word.is

pub is_type-returns-in-Var : goal.is_type-returns-in-Var
is_type-returns-in-Var t c =
    var_is_type c.args.program.now c.args.tparams c.args.ty.now c.in-Var.number _ c.in-Var.is (Decides-ltb c.in-Var.number c.args.tparams)

pub is_type-returns-then-takes : goal.is_type-returns-then-takes
is_type-returns-then-takes t c =
    con_is_type c.args.program.now c.args.tparams c.args.ty.now c.in-Con.datatype c.in-Con.args c.len.result c.takes.result c.are_types.result c.in-Con.is
    c.len.ensures c.takes.ensures c.if-takes.true c.are_types.ensures

pub is_type-returns-else-takes : goal.is_type-returns-else-takes
is_type-returns-else-takes t c =
    rw c.if-takes.false
    (con_is_no_type c.args.program.now c.args.tparams c.args.ty.now c.in-Con.datatype c.in-Con.args c.len.result c.takes.result c.in-Con.is c.len.ensures
    c.takes.ensures c.if-takes.false)

pub are_types-loop-ty-init : goal.are_types-loop-ty-init
are_types-loop-ty-init t c = (λ e. e, λ e. e)

pub are_types-returns-then-not-is_type : goal.are_types-returns-then-not-is_type
are_types-returns-then-not-is_type t c =
    types_fail c.args.program.now c.args.tparams c.args.types.now c.as_slice-ty-items.result.now c.as_slice-ty-items.ensures c.loop-ty.ty-index
    c.ty-item.result c.loop-ty-test.true c.ty-item.is (not_of c.is_type.result c.is_type.ensures c.if-not-is_type.true) c.loop-ty.invariant

pub are_types-loop-ty-preserved : goal.are_types-loop-ty-preserved
are_types-loop-ty-preserved t c =
    types_next c.args.program.now c.args.tparams c.args.types.now c.as_slice-ty-items.result.now c.as_slice-ty-items.ensures c.loop-ty.ty-index
    c.ty-item.result c.loop-ty-test.true c.ty-item.is (c.is_type.ensures.0 c.if-not-is_type.false) c.loop-ty.invariant

pub are_types-returns : goal.are_types-returns
are_types-returns t c =
    types_end c.args.program.now c.args.tparams c.args.types.now c.as_slice-ty-items.result.now c.as_slice-ty-items.ensures c.loop-ty.ty-index
    c.loop-ty-test.false c.loop-ty.invariant
