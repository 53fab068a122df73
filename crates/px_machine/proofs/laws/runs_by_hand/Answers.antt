use Rattle.std.proofs.Common.{ℕ, zero, suc, ◌<◌, subst, arith, ◌≡◌, List, [], ◌∷◌, ◌++◌, Bool, Some, refl, true, false, nat_le, if◌then◌else◌}
use Rattle.px_terms.specs.declared.term.Value.{Value}
use Rattle.px_terms.specs.declared.term.Value.TheVariants as value
use Rattle.px_terms.specs.Meaning.{truth}
use Rattle.std.specs.List.{AllByRecursion}
use Rattle.px_machine.specs.declared.code.CallTarget.{CallTarget}
use Rattle.px_machine.specs.declared.code.Instr.{Instr}
use Rattle.px_machine.specs.declared.code.CallTarget.TheVariants.{Weq}
use Rattle.px_machine.specs.Machine.{Frame, runs, here, step, next, instruction_at}
use Rattle.px_machine.specs.Standing.{named_places}
use Rattle.px_machine.specs.Examples.{greater_and_made}
use Rattle.px_machine.proofs.laws.runs_by_hand.Goals as goal

-- a frame of the small code
abbrev frame : ℕ → ℕ → List CallTarget → List Value → List Value → Frame
frame d place funs locals stack = record { def = d; place = place; funs = funs; locals = locals; stack = stack }

-- the comparison of the two locals
compares : (x y : ℕ) (callers : List Frame) (calls : ℕ) (funs : List CallTarget) → next greater_and_made (runs (frame 0 2 funs (value.Lit x ∷ value.Lit y ∷ []) (value.Lit y ∷ value.Lit x ∷ [])) callers calls) ≡ Some (runs (frame 0 3 funs (value.Lit x ∷ value.Lit y ∷ []) (truth (nat_le x y) ∷ [])) callers calls)
compares x y callers calls funs = simp value.outs-Lit

-- the branch on it
branches : (b : Bool) (callers : List Frame) (calls : ℕ) (funs : List CallTarget) (locals : List Value) → next greater_and_made (runs (frame 0 3 funs locals (truth b ∷ [])) callers calls) ≡ Some (runs (frame 0 (if b then 6 else 4) funs (locals ++ []) []) callers calls)
branches true callers calls funs locals = simp value.outs-Con
branches false callers calls funs locals = simp value.outs-Con

-- the call of what is passed
passes : next greater_and_made (runs (frame 1 2 (Weq ∷ []) (value.Lit 5 ∷ []) (value.Lit 5 ∷ value.Lit 5 ∷ [])) [] 1) ≡ Some (runs (frame 1 3 (Weq ∷ []) (value.Lit 5 ∷ []) (truth true ∷ [])) [] 1)
passes = simp value.outs-Lit

same_some : (i j : Instr) → Some i ≡ Some j → i ≡ j
same_some i j e = cc

-- where an instruction leads
leads_to : (place : ℕ) (i j : Instr) → Some i ≡ Some j → AllByRecursion (λ (named : ℕ). place < named) (named_places i) → AllByRecursion (λ (named : ℕ). place < named) (named_places j)
leads_to place i j e all = subst (λ (k : Instr). AllByRecursion (λ (named : ℕ). place < named) (named_places k)) (same_some i j e) all

-- each place that is named lies behind
goes_forward : (d place : ℕ) (i : Instr) → instruction_at greater_and_made d place ≡ Some i → AllByRecursion (λ (named : ℕ). place < named) (named_places i)
goes_forward zero zero i e = leads_to _ _ i e tt
goes_forward zero (suc zero) i e = leads_to _ _ i e tt
goes_forward zero (suc (suc zero)) i e = leads_to _ _ i e tt
goes_forward zero (suc (suc (suc zero))) i e = leads_to _ _ i e (omega arith, (omega arith, tt))
goes_forward zero (suc (suc (suc (suc zero)))) i e = leads_to _ _ i e tt
goes_forward zero (suc (suc (suc (suc (suc zero))))) i e = leads_to _ _ i e (omega arith, tt)
goes_forward zero (suc (suc (suc (suc (suc (suc zero)))))) i e = leads_to _ _ i e tt
goes_forward zero (suc (suc (suc (suc (suc (suc (suc zero))))))) i e = leads_to _ _ i e tt
goes_forward zero (suc (suc (suc (suc (suc (suc (suc (suc place)))))))) i e = absurd (cc)
goes_forward (suc zero) zero i e = leads_to _ _ i e tt
goes_forward (suc zero) (suc zero) i e = leads_to _ _ i e tt
goes_forward (suc zero) (suc (suc zero)) i e = leads_to _ _ i e tt
goes_forward (suc zero) (suc (suc (suc zero))) i e = leads_to _ _ i e tt
goes_forward (suc zero) (suc (suc (suc (suc zero)))) i e = leads_to _ _ i e tt
goes_forward (suc zero) (suc (suc (suc (suc (suc zero))))) i e = leads_to _ _ i e tt
goes_forward (suc zero) (suc (suc (suc (suc (suc (suc place)))))) i e = absurd (cc)
goes_forward (suc (suc d)) place i e = absurd (cc)

pub returns : goal.returns
returns c = record {
  forward = record { behind = goes_forward };
  first_is_greater = step refl (step refl (step (compares 9 3 [] 1 []) (step (branches false [] 1 [] _) (step refl (step refl (step refl here))))));
  second_is_greater = step refl (step refl (step (compares 3 9 [] 1 []) (step (branches true [] 1 [] _) (step refl (step refl here)))));
  calls_a_definition =
      step refl (step refl (step refl (step refl (step refl (step (compares 7 5 _ 2 []) (step (branches false _ 2 [] _) (step refl (step refl (step refl (step refl (step refl (step refl here))))))))))));
  calls_a_built_in = step refl (step refl (step passes (step refl (step refl (step refl here)))));
}
