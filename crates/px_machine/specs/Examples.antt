-- A small code that is run by hand: the greater of two words, and a definition that calls a function.
use Rattle.std.specs.Prelude.{[], ◌∷◌}
use Rattle.px_terms.specs.declared.term.Value.TheVariants as value
use Rattle.px_machine.specs.declared.code.CallTarget.TheVariants.{Def, Wle, Weq, Param}
use Rattle.px_machine.specs.declared.code.Instr.TheVariants.{Local, Lit, Make, Call, Branch, Jump, Return}
use Rattle.px_machine.specs.declared.code.Code.{Code}
use Rattle.px_machine.specs.Machine.{RunGives}
use Rattle.px_machine.specs.Standing.{IsForward}

-- definition 0 is the greater of two words; definition 1 puts what a function gives on two words under constructor 2 of datatype 3
abbrev pub greater_and_made : Code
greater_and_made = record {
  defs =
      (Local 0 ∷ Local 1 ∷ Call Wle [] 2 ∷ Branch (4 ∷ 6 ∷ []) ∷ Local 0 ∷ Jump 7 ∷ Local 1 ∷ Return ∷ [])
      ∷ (Local 0 ∷ Lit 5 ∷ Call (Param 0) [] 2 ∷ Local 0 ∷ Make 3 2 2 ∷ Return ∷ [])
      ∷ [];
}

-- The code leads forward; words compared, branches and calls give what they should, and each call of a definition counts.
pub record RunsByHand : Type 0 where
  pub forward : IsForward greater_and_made
  pub first_is_greater : RunGives greater_and_made 0 [] (value.Lit 9 ∷ value.Lit 3 ∷ []) (value.Lit 9) 1
  pub second_is_greater : RunGives greater_and_made 0 [] (value.Lit 3 ∷ value.Lit 9 ∷ []) (value.Lit 9) 1
  pub calls_a_definition : RunGives greater_and_made 1 (Def 0 ∷ []) (value.Lit 7 ∷ []) (value.Con 3 2 (value.Lit 7 ∷ value.Lit 7 ∷ [])) 2
  pub calls_a_built_in : RunGives greater_and_made 1 (Weq ∷ []) (value.Lit 5 ∷ []) (value.Con 3 2 (value.Con 0 1 [] ∷ value.Lit 5 ∷ [])) 1
