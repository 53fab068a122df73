use Rattle.std.proofs.Common.{refl, sym, subst, List, []}
use Rattle.px_terms.specs.declared.term.Value.{Value}
use Rattle.px_machine.specs.Standing.{FitsCode}
use Rattle.px_drive.proofs.CallFacts.{fits_code, run_is_value}
use Rattle.px_drive.proofs.eval.evaluate.Goals as goal

pub run-requires : goal.run-requires
run-requires c =
    subst (λ (values : List Value). FitsCode c.in_ok-code.code c.args.call.now.def [] values) (sym c.as_slice.ensures)
    (fits_code c.in_ok-code.code c.args.checked.now c.args.call.now c.in_ok-code.ensures c.requires)

pub returns-in-Ok : goal.returns-in-Ok
returns-in-Ok c =
    let gives = rw c.as_slice.ensures at c.in-Ok.ensures.gives.0 in
    (run_is_value c.in_ok-code.code c.args.checked.now c.args.call.now c.in-Ok.done.value c.in-Ok.done.calls c.in_ok-code.ensures c.requires gives, c.in-Ok.ensures.gives.1)

pub returns-in-Err-Spent : goal.returns-in-Err-Spent
returns-in-Err-Spent c =
    let spent = c.in-Err-Spent.ensures.spent c.in-Err-Spent.field-0-is in
    let gives = rw c.as_slice.ensures at spent.2 in
    (refl, (spent.0, spent.1, run_is_value c.in_ok-code.code c.args.checked.now c.args.call.now spent.0 spent.1 c.in_ok-code.ensures c.requires gives, spent.3))
