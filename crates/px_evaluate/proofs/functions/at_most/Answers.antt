use Rattle.std.proofs.Common.{None, refl, sym, subst}
use Rattle.px_evaluate.specs.Finding.{Finds, IsGiven}
use Rattle.px_evaluate.proofs.Rules.{wle_absent, wle_found}
use Rattle.px_evaluate.proofs.functions.at_most.Goals as goal

pub returns-in_err-left : goal.returns-in_err-left
returns-in_err-left c = λ n P f is. subst (λ x. Finds x (IsGiven n P f c.args.inputs.now)) (sym c.from_residual.ensures) (wle_absent n P f c.args.inputs.now None c.in_err-left.ensures is refl)

pub returns : goal.returns
returns c = λ n P f is. wle_found n P f c.args.inputs.now c.two_words.result c.two_words.ensures is (c.in_ok-left.left, c.in_ok-left.right) c.in_ok-left.was c.truth.result c.truth.ensures.value c.truth.ensures.calls
