use Rattle.std.proofs.Common.{◌∙◌, ap, ◌++◌, ◌∷◌, [], List, ℕ}
use Rattle.px_terms.specs.declared.types.Ty.{Ty}
use Rattle.px_terms.specs.declared.types.Ty.TheVariants as types
use Rattle.px_props.proofs.Numbers.{numbered-last}
use Rattle.px_props.proofs.terms.own_types.Goals as goal

pub loop-number-preserved : goal.loop-number-preserved
loop-number-preserved c = c.in_ok-push.ensures.ok ∙ (ap (λ (made : List Ty). made ++ types.Var c.loop-number.number ∷ []) c.loop-number.invariant ∙ numbered-last (λ (i : ℕ). types.Var i) c.loop-number.number)
