use Rattle.std.proofs.Common.{refl, sym, ◌∙◌}
use Rattle.px_types.specs.TypeOf.{is_type, are_types}
use Rattle.px_types.proofs.TypeOfSteps.{all_next, all_fails, all_end, word_is_type, var_is_type, con_is_type, con_is_no_type}
use Rattle.px_types.proofs.formed.+is_type.Goals as goal

pub is_type-returns-in-Word : goal.is_type-returns-in-Word
is_type-returns-in-Word t c = word_is_type c.args.program.now c.args.tparams c.args.ty.now c.in-Word.is

pub is_type-returns-in-Var : goal.is_type-returns-in-Var
is_type-returns-in-Var t c = var_is_type c.args.program.now c.args.tparams c.args.ty.now c.in-Var.number c.in-Var.is

pub is_type-returns-then-takes : goal.is_type-returns-then-takes
is_type-returns-then-takes t c =
    con_is_type c.args.program.now c.args.tparams c.args.ty.now c.in-Con.datatype c.in-Con.args c.are_types.result c.in-Con.is
    (rw c.len.ensures at (sym c.takes.ensures ∙ c.if-takes.true)) c.are_types.ensures

pub is_type-returns-else-takes : goal.is_type-returns-else-takes
is_type-returns-else-takes t c =
    c.if-takes.false ∙ con_is_no_type c.args.program.now c.args.tparams c.args.ty.now c.in-Con.datatype c.in-Con.args c.in-Con.is
    (rw c.len.ensures at (sym c.takes.ensures ∙ c.if-takes.false))

pub are_types-loop-ty-init : goal.are_types-loop-ty-init
are_types-loop-ty-init t c = refl

pub are_types-returns-then-not-is_type : goal.are_types-returns-then-not-is_type
unfolding are_types
are_types-returns-then-not-is_type t c =
    all_fails (is_type c.args.program.now c.args.tparams) c.args.types.now c.as_slice-ty-items.result.now c.as_slice-ty-items.ensures c.loop-ty.ty-index
    c.ty-item.result c.loop-ty-test.true c.ty-item.is (sym c.is_type.ensures ∙ c.if-not-is_type.true) c.loop-ty.invariant

pub are_types-loop-ty-preserved : goal.are_types-loop-ty-preserved
are_types-loop-ty-preserved t c =
    all_next (is_type c.args.program.now c.args.tparams) c.args.types.now c.as_slice-ty-items.result.now c.as_slice-ty-items.ensures c.loop-ty.ty-index
    c.ty-item.result c.loop-ty-test.true c.ty-item.is (sym c.is_type.ensures ∙ c.if-not-is_type.false) c.loop-ty.invariant

pub are_types-returns : goal.are_types-returns
unfolding are_types
are_types-returns t c = all_end (is_type c.args.program.now c.args.tparams) c.args.types.now c.as_slice-ty-items.result.now c.as_slice-ty-items.ensures
    c.loop-ty.ty-index c.loop-ty-test.false c.loop-ty.invariant
