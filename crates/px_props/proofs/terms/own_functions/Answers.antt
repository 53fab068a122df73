use Rattle.std.proofs.Common.{◌∙◌, ap, ◌++◌, ◌∷◌, [], List, ℕ}
use Rattle.px_terms.specs.declared.types.Ty.{Ty}
use Rattle.px_terms.specs.declared.types.Fun.{Fun}
use Rattle.px_terms.specs.Head.TheVariants as heads
use Rattle.px_terms.specs.Types.{own_functions}
use Rattle.px_props.proofs.Numbers.{numbered-last}
use Rattle.px_props.proofs.terms.own_functions.Goals as goal

pub loop-number-preserved : goal.loop-number-preserved
loop-number-preserved c =
    let last = numbered-last {A = Fun} (λ (i : ℕ). record { head = heads.FnVar i; types = [] }) c.loop-number.number in
    let new = ap (λ (types : List Ty). own_functions c.loop-number.number ++ record { head = heads.FnVar c.loop-number.number; types = types } ∷ []) c.new.ensures in
    c.in_ok-push.ensures.ok ∙ (ap (λ (made : List Fun). made ++ record { head = heads.FnVar c.loop-number.number; types = c.new.result } ∷ []) c.loop-number.invariant ∙ (new ∙ last))
