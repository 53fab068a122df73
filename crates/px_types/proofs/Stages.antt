-- Stages of an outcome, and the answers of calls that stand for it.
use Rattle.std.proofs.Common.{◌≡◌, Result, Ok, Err, refl, sym, ◌∙◌, ap, subst}
use Rattle.std.specs.Result.{IsErrAnd}
use Rattle.px_types.specs.declared.ends.TypeEnd.{TypeEnd}
use Rattle.px_types.specs.declared.ends.TypeEnd.TheVariants.{Fault, NoMemory}
use Rattle.px_types.specs.Faults.{Broken, breaks}
use Rattle.px_types.specs.Answers.{EndsAs, Answers}
use Rattle.px_types.specs.Outcomes.{onward}

-- a stage is passed
pub stage : {S T : Type 0} (out : Result S Broken) (f : S → Result T Broken) {whole : Result T Broken} → whole ≡ onward out f → (x : S) → out ≡ Ok x → whole ≡ f x
unfolding onward
stage out f e x is = e ∙ ap (λ (o : Result _ Broken). onward o f) is

-- an end is passed on
pub end_is : {T : Type 0} (out : Result T Broken) (r : Result T TypeEnd) (end : TypeEnd) → IsErrAnd r (λ (e : TypeEnd). e ≡ end) → EndsAs out end → Answers out r
end_is out (Ok x) end same h = absurd same
end_is out (Err e) end same h = subst (EndsAs out) (sym same) h

-- a stage fails
pub stage_fails : {S T : Type 0} (out : Result S Broken) (f : S → Result T Broken) (whole : Result T Broken) → whole ≡ onward out f → (end : TypeEnd) → EndsAs out end → EndsAs whole end
unfolding onward
stage_fails out f whole e (Fault kind at) h = e ∙ ap (λ (o : Result _ Broken). onward o f) h
stage_fails out f whole e NoMemory h = tt

-- a stage fails, and its end is passed on
pub passed_on : {S T : Type 0} (out : Result S Broken) (f : S → Result T Broken) (whole : Result T Broken) → whole ≡ onward out f → (r : Result T TypeEnd) (end : TypeEnd) → IsErrAnd r (λ (e : TypeEnd). e ≡ end) → EndsAs out end → Answers whole r
passed_on out f whole e r end same h = end_is whole r end same (stage_fails out f whole e end h)
