-- Ends that are passed on by calls whose answer stands for something else.
use Rattle.std.proofs.Common.{◌≡◌, Result, Ok, Err, sym, subst}
use Rattle.std.specs.Result.{IsErrAnd}
use Rattle.px_types.specs.declared.ends.TypeEnd.{TypeEnd}
use Rattle.px_types.specs.Faults.{Broken}
use Rattle.px_types.specs.Answers.{EndsAs}
use Rattle.px_types.specs.Checkings.{AnswersAs}

-- an end is passed on
pub ends_as : {S T : Type 0} (read : S → T) (out : Result T Broken) (r : Result S TypeEnd) (end : TypeEnd) → IsErrAnd r (λ (e : TypeEnd). e ≡ end) →
    EndsAs out end → AnswersAs read out r
ends_as read out (Ok x) end same h = absurd same
ends_as read out (Err e) end same h = subst (EndsAs out) (sym same) h
