-- Properties that are claimed, one after the other.
use Rattle.std.proofs.Common.{◌≡◌, ℕ, ◌+◌, ◌<◌, ◌≤◌, Bool, true, false, ◌==◌, List, [], ◌∷◌, ◌++◌, length, take, get_or, refl, sym, ap, ◌∙◌, append_assoc}
use Rattle.std.specs.List.{fold}
use Rattle.std.proofs.lemmas.Bool.{eq-eqb, ne_eqb}
use Rattle.std.proofs.lemmas.List.{take_all, append-nil, get_or_default}
use Rattle.std.proofs.lemmas.List.Folds.{list_any_more, list_any_at}
use Rattle.px_base.specs.declared.prop.Prop.{Prop}
use Rattle.px_base.specs.declared.raw.RawProp.{RawProp}
use Rattle.px_scope.specs.declared.ends.ScopeKind.TheVariants.{Repeated}
use Rattle.px_scope.specs.declared.ends.ScopeEnd.{ScopeEnd}
use Rattle.px_scope.specs.declared.ends.ScopeEnd.TheVariants.{Fault}
use Rattle.px_scope.specs.Rules.{prop_number, has_prop, property_fault}
use Rattle.px_scope.specs.Uses.{Use, first_broken, properties_uses}
use Rattle.px_scope.specs.Declaring.{props_of}
use Rattle.px_scope.specs.Answers.{Fails, Fine}
use Rattle.px_scope.proofs.StateSteps.{Reached, reached_next, reached_broken, reached_all}

module _ (claimed : List Prop) (p d : Prop) (i n wanted : ℕ) (within : i < length claimed) (number : n ≡ prop_number (get_or claimed i d)) (sought : wanted ≡ prop_number p) where
  -- one more property is another one
  pub not_claimed_next : has_prop (take i claimed) p ≡ false → (n ≡ wanted → ⊥) → has_prop (take (i + 1) claimed) p ≡ false
  not_claimed_next before other =
      let here : (prop_number (get_or claimed i d) == prop_number p) ≡ false = ne_eqb _ _ (λ same. other (number ∙ same ∙ sym sought)) in
      list_any_more (λ q. prop_number q == prop_number p) claimed i d within ∙ (rw (before, here) refl)

  -- the property is claimed
  pub claimed_here : n ≡ wanted → has_prop claimed p ≡ true
  claimed_here same = list_any_at (λ q. prop_number q == prop_number p) claimed i d within (eq-eqb _ _ (sym number ∙ same ∙ sought))

-- all were seen, and none is the property
pub not_claimed_all : (claimed : List Prop) (p : Prop) (i : ℕ) → length claimed ≤ i → has_prop (take i claimed) p ≡ false → has_prop claimed p ≡ false
not_claimed_all claimed p i ends before = ap (λ ps. has_prop ps p) (sym (take_all i claimed ends)) ∙ before

-- what is claimed with one property more
abbrev pub with_claim : List Prop → RawProp → List Prop
with_claim seen p = seen ++ p.prop ∷ []

-- the use of one property more
abbrev pub claim_use : List Prop → RawProp → List Use
claim_use seen p = record { at = p.at; fault = property_fault seen p.prop } ∷ []

-- the claimed properties, and then those of the list
pub claims_are : (claimed : List Prop) (props : List RawProp) → fold with_claim claimed props ≡ claimed ++ props_of props
claims_are claimed [] = rw append-nil refl
claims_are claimed (p ∷ props) = claims_are (claimed ++ p.prop ∷ []) props ∙ append_assoc claimed (p.prop ∷ []) (props_of props)

module _ (claimed : List Prop) (props : List RawProp) (i : ℕ) (d : RawProp) (now : List Prop) where
  -- one property more is a new one
  pub claims_next : (later seen : List Prop) (known : Bool) → i < length props → Reached with_claim claim_use claimed (take i props) now → seen ≡ now → known ≡ has_prop seen (get_or props i d).prop → known ≡ false → later ≡ now ++ (get_or props i d).prop ∷ [] → Reached with_claim claim_use claimed (take (i + 1) props) later
  claims_next later seen known within reached same is new more =
      let absent : has_prop now (get_or props i d).prop ≡ false = ap (λ ps. has_prop ps (get_or props i d).prop) (sym same) ∙ sym is ∙ new in
      reached_next with_claim claim_use claimed props i now (get_or props i d) later within (get_or_default props i d _ within) reached (rw absent refl) more

  -- the next property is claimed already
  pub claims_repeat : (seen : List Prop) (known : Bool) (end : ScopeEnd) → i < length props → Reached with_claim claim_use claimed (take i props) now → seen ≡ now → known ≡ has_prop seen (get_or props i d).prop → known ≡ true → end ≡ Fault Repeated (get_or props i d).at → Fails (first_broken (properties_uses claimed props)) end
  claims_repeat seen known end within reached same is old fault =
      let present : has_prop now (get_or props i d).prop ≡ true = ap (λ ps. has_prop ps (get_or props i d).prop) (sym same) ∙ sym is ∙ old in
      reached_broken with_claim claim_use claimed props i now (get_or props i d) end within (get_or_default props i d _ within) reached (rw (fault, present) refl)

-- all properties of the list were claimed
pub claims_all : (claimed : List Prop) (props : List RawProp) (i : ℕ) (now : List Prop) → length props ≤ i → Reached with_claim claim_use claimed (take i props) now → Fine (properties_uses claimed props) (λ (u : Unit {0}). now ≡ claimed ++ props_of props) tt
claims_all claimed props i now ends reached =
    let all = reached_all with_claim claim_use claimed props i now ends reached in
    (all.fine, all.is ∙ claims_are claimed props)
