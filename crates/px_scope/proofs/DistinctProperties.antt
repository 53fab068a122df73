-- Properties that break no rule: no property is written twice.
use Rattle.std.proofs.Common.{◌≡◌, ◌==◌, true, false, List, [], ◌∷◌, ◌++◌, None, sym, ap, subst, append-nil, append_assoc}
use Rattle.std.specs.Prelude.{Contains}
use Rattle.std.proofs.lemmas.Bool.{eq-eqb}
use Rattle.std.proofs.lemmas.List.Folds.{list_any_at}
use Rattle.px_base.specs.Distinct.{AreDistinct}
use Rattle.px_base.specs.declared.prop.Prop.{Prop}
use Rattle.px_base.specs.declared.raw.RawProp.{RawProp}
use Rattle.px_scope.specs.Rules.{prop_number, has_prop}
use Rattle.px_scope.specs.Uses.{first_broken, properties_uses}
use Rattle.px_scope.specs.Declaring.{props_of}
use Rattle.px_scope.proofs.PropertySteps.{with_claim, claim_use}
use Rattle.px_scope.proofs.FineParts.{fine_front, fine_back, rule_kept}
use Rattle.px_scope.proofs.DistinctNames.{distinct_push}

-- a property that the test does not find is not in the list
prop_not_among : (props : List Prop) (p : Prop) → has_prop props p ≡ false → Contains props p → ⊥
prop_not_among props p e c =
    let yes : has_prop props p ≡ true = list_any_at (λ q. prop_number q == prop_number p) props c.0 p c.1 (eq-eqb _ _ (ap prop_number c.2)) in
    absurd cc

-- properties that are claimed one after the other, after others
pub distinct_properties : (claimed : List Prop) (props : List RawProp) → first_broken (properties_uses claimed props) ≡ None → AreDistinct claimed →
    AreDistinct (claimed ++ props_of props)
distinct_properties claimed [] fine distinct = subst AreDistinct (sym (append-nil claimed)) distinct
distinct_properties claimed (p ∷ props) fine distinct =
    let here = claim_use claimed p in
    let others = properties_uses (with_claim claimed p) props in
    let new : has_prop claimed p.prop ≡ false = rule_kept p.at (has_prop claimed p.prop) None (fine_front here others fine) in
    subst AreDistinct (append_assoc claimed (p.prop ∷ []) (props_of props))
    (distinct_properties (with_claim claimed p) props (fine_back here others fine)
    (distinct_push claimed p.prop distinct (prop_not_among claimed p.prop new)))
