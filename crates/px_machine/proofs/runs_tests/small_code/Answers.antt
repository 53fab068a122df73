use Rattle.std.proofs.Common.{◌≡◌, List, [], ◌∷◌, ◌∙◌}
use Rattle.px_machine.specs.declared.code.CallTarget.TheVariants.{Wle, Param}
use Rattle.px_machine.specs.declared.code.Instr.{Instr}
use Rattle.px_machine.specs.declared.code.Instr.TheVariants.{Local, Lit, Make, Call, Branch, Jump, Return}
use Rattle.px_machine.proofs.runs_tests.small_code.Goals as goal

pub returns : goal.returns
returns c =
    let greater : c.from_vec-greater.result ≡ (Local 0 ∷ Local 1 ∷ Call Wle [] 2 ∷ Branch (4 ∷ 6 ∷ []) ∷ Local 0 ∷ Jump 7 ∷ Local 1 ∷ Return ∷ []) =
    c.from_vec-greater.ensures ∙ c.in_ok-from_array.ensures.items ∙ (λ i. Local 0 ∷ Local 1 ∷ c.call.ensures i ∷ Branch (c.in_ok-places.ensures i) ∷ Local 0 ∷ Jump 7 ∷ Local 1 ∷ Return ∷ []) in
    let made : c.from_vec-made.result ≡ (Local 0 ∷ Lit 5 ∷ Call (Param 0) [] 2 ∷ Local 0 ∷ Make 3 2 2 ∷ Return ∷ []) =
    c.from_vec-made.ensures ∙ c.in_ok-from_array-2.ensures.items ∙ (λ i. Local 0 ∷ Lit 5 ∷ c.call-2.ensures i ∷ Local 0 ∷ Make 3 2 2 ∷ Return ∷ []) in
    let defs = c.from_vec.ensures ∙ c.in_ok-from_array-3.ensures.items ∙ (λ i. greater i ∷ made i ∷ []) in
    λ i. record { defs = defs i }
