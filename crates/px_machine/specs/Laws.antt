-- What is said of every run.
use Rattle.std.specs.Prelude.{◌≡◌, ℕ, List}
use Rattle.px_terms.specs.declared.term.Value.{Value}
use Rattle.px_machine.specs.declared.code.CallTarget.{CallTarget}
use Rattle.px_machine.specs.declared.code.Code.{Code}
use Rattle.px_machine.specs.Machine.{RunGives}

-- a run has at most one end: one value with one number of calls
abbrev pub RunsHaveOneEnd : Type 0
RunsHaveOneEnd =
    (code : Code) (d : ℕ) (funs : List CallTarget) (values : List Value) (v w : Value) (a b : ℕ) →
    RunGives code d funs values v a → RunGives code d funs values w b → (v ≡ w) × (a ≡ b)
