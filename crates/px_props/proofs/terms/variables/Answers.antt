use Rattle.std.proofs.Common.{◌∙◌, ap, ◌++◌, ◌∷◌, [], List, ℕ}
use Rattle.px_terms.specs.declared.term.Term.{Term}
use Rattle.px_terms.specs.declared.term.Term.TheVariants as terms
use Rattle.px_props.proofs.Numbers.{numbered-last}
use Rattle.px_props.proofs.terms.variables.Goals as goal

pub loop-number-preserved : goal.loop-number-preserved
loop-number-preserved c = c.in_ok-push.ensures.ok ∙ (ap (λ (made : List Term). made ++ terms.Free c.loop-number.number ∷ []) c.loop-number.invariant ∙ numbered-last (λ (i : ℕ). terms.Free i) c.loop-number.number)
