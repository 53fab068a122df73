use Rattle.std.proofs.Common.{◌∙◌, ap, ◌++◌, ◌+◌, ◌∷◌, [], List, ℕ}
use Rattle.px_terms.specs.declared.term.Term.{Term}
use Rattle.px_terms.specs.declared.term.Term.TheVariants as terms
use Rattle.px_cases.proofs.Numbers.{numbered_from-last}
use Rattle.px_cases.proofs.shapes.on_fresh_variables.Goals as goal

pub loop-place-preserved : goal.loop-place-preserved
loop-place-preserved c = c.in_ok-push.ensures.ok ∙ (ap (λ (made : List Term). made ++ terms.Free (c.args.next + c.loop-place.place) ∷ []) c.loop-place.invariant ∙ numbered_from-last (λ (i : ℕ). terms.Free i) c.args.next c.loop-place.place)
