-- What is found, and what is so.
use Rattle.std.proofs.Common.{◌≡◌, ◌↔◌, ℕ, Option, None, Some, IfSome, Result, Ok, Err, IfOk, refl, sym, ap, ◌∙◌, subst}
use Rattle.px_evaluate.specs.declared.values.Evaluated.{Evaluated}
use Rattle.px_evaluate.specs.Finding.{Finds, Adds}

-- what is true of the item, where there is one
pub at_some : {X : Type 0} (P : X → Type 0) (o : Option X) (x : X) → o ≡ Some x → IfSome o P → P x
at_some P o x is h = subst (λ o. IfSome o P) is h

pub some_is : {X : Type 0} (x y : X) → Some x ≡ Some y → x ≡ y
some_is x y h = cc

some_same : {X : Type 0} (o : Option X) (x y : X) → o ≡ Some x → o ≡ Some y → x ≡ y
some_same o x y p q = let h : Some x ≡ Some y = sym p ∙ q in cc

not_none : {X : Type 0} (o : Option X) (x : X) → o ≡ None → o ≡ Some x → ⊥
not_none o x p q = let h : None ≡ Some x = sym p ∙ q in cc

-- nothing is found where nothing is so
pub finds_none : {X : Type 0} (Is : X → Type 0) → ((x : X) → Is x → ⊥) → Finds None Is
finds_none Is f = record { right = tt; only = λ x is. absurd (f x is) }

-- this is found, where it is so and nothing else is
pub finds_some : {X : Type 0} (Is : X → Type 0) (x : X) → Is x → ((y : X) → Is y → y ≡ x) → Finds (Some x) Is
finds_some Is x is same = record { right = is; only = λ y h. ap Some (sym (same y h)) }

-- what is found is so
pub found_is : {X : Type 0} (Is : X → Type 0) (o : Option X) (x : X) → Finds o Is → o ≡ Some x → Is x
found_is Is o x finds is = at_some Is o x is finds.right

-- what is so is what is found
pub found_same : {X : Type 0} (Is : X → Type 0) (o : Option X) (x y : X) → Finds o Is → o ≡ Some x → Is y → y ≡ x
found_same Is o x y finds is h = some_same o y x (finds.only y h) is

-- where nothing is found, nothing is so
pub found_absent : {X : Type 0} (Is : X → Type 0) (o : Option X) (x : X) → Finds o Is → o ≡ None → Is x → ⊥
found_absent Is o x finds is h = not_none o x is (finds.only x h)

-- the same is found of what says the same
pub finds_alike : {X : Type 0} (A B : X → Type 0) (o : Option X) → ((x : X) → A x → B x) → ((x : X) → B x → A x) → Finds o A → Finds o B
finds_alike A B None to from finds = record { right = tt; only = λ x h. finds.only x (from x h) }
finds_alike A B (Some y) to from finds = record { right = to y finds.right; only = λ x h. finds.only x (from x h) }

-- what is found is what is so, both ways
pub finds_exactly : {X : Type 0} (Is : X → Type 0) (o : Option X) → Finds o Is → (x : X) → ((o ≡ Some x) ↔ Is x)
finds_exactly Is o finds x = ((λ is. found_is Is o x finds is), (λ h. finds.only x h))

-- nothing is found exactly where nothing is so
pub finds_nothing : {X : Type 0} (Is : X → Type 0) (o : Option X) → Finds o Is → ((o ≡ None) ↔ ((x : X) → ¬ Is x))
finds_nothing Is None finds = ((λ is x h. found_absent Is None x finds is h), (λ h. refl))
finds_nothing Is (Some y) finds = ((λ is x h. found_absent Is (Some y) x finds is h), (λ h. absurd (h y finds.right)))

-- What a whole is made of: what a part is found to be, with more calls.
pub record OfPart (Is : Evaluated → Type 0) (add : ℕ) (e : Evaluated) : Type 0 where
  pub found : Evaluated
  pub is : Is found
  pub adds : Adds found add e

module _ (Is Whole : Evaluated → Type 0) (add : ℕ) (o : Option Evaluated) (of_part : (e : Evaluated) → Whole e → OfPart Is add e) (finds : Finds o Is) where
  -- where the part has no value, the whole has none
  pub part_absent : o ≡ None → Finds None Whole
  part_absent is = finds_none Whole (λ e h. found_absent Is o (of_part e h).found finds is (of_part e h).is)

  -- where the part has one, the whole has it with more calls
  pub part_found : ((found e : Evaluated) → Is found → Adds found add e → Whole e) → (found : Evaluated) → o ≡ Some found → (r : Option Evaluated) → Finds r (Adds found add) →
      Finds r Whole
  part_found whole found is r adds =
      finds_alike (Adds found add) Whole r (λ e h. whole found e (found_is Is o found finds is) h)
      (λ e h. subst (λ x. Adds x add e) (found_same Is o found (of_part e h).found finds is (of_part e h).is) (of_part e h).adds) adds

-- what follows from what is true of the result, where it is Ok
pub ok_alike : {X E : Type 0} (A B : X → Type 0) (r : Result X E) → ((x : X) → A x → B x) → IfOk r A → IfOk r B
ok_alike A B (Ok x) to h = to x h
ok_alike A B (Err e) to h = tt
