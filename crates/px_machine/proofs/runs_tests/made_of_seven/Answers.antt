use Rattle.std.proofs.Common.{◌≡◌, List, [], ◌∷◌, ◌∙◌, sym, ap, subst}
use Rattle.px_terms.specs.declared.term.Value.{Value}
use Rattle.px_terms.specs.declared.term.Value.TheVariants as value
use Rattle.px_machine.specs.declared.code.CallTarget.TheVariants.{Def}
use Rattle.px_machine.specs.declared.code.Code.{Code}
use Rattle.px_machine.specs.Machine.{State, runs, entry}
use Rattle.px_machine.specs.Standing.{IsForward}
use Rattle.px_machine.specs.Running.{parts_of, state_of, HasEnd}
use Rattle.px_machine.specs.Examples.{greater_and_made}
use Rattle.px_machine.proofs.runs_tests.made_of_seven.Goals as goal

pub run-requires-clause-forward : goal.run-requires-clause-forward
run-requires-clause-forward c = subst IsForward (sym c.in_ok-code.ensures) c.runs_by_hand.ensures.forward

pub run-requires-clause-ends : goal.run-requires-clause-ends
run-requires-clause-ends c =
    let end : HasEnd greater_and_made (runs (entry 1 (Def 0 ∷ []) (value.Lit 7 ∷ [])) [] 1) = record { value = value.Con 3 2 (value.Lit 7 ∷ value.Lit 7 ∷ []); calls = 2; leads = c.runs_by_hand.ensures.calls_a_definition } in
    subst (λ (code : Code). HasEnd code (state_of (parts_of c.in_ok-machine.machine))) (sym c.in_ok-code.ensures)
    (subst (HasEnd greater_and_made) (sym (c.in_ok-machine.ensures.state ∙ ap (λ (v : Value). runs (entry 1 (Def 0 ∷ []) (v ∷ [])) [] 1) c.in_ok-literal.ensures)) end)
