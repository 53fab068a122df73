-- Functions without variables: their types stay as they are, they stand for themselves, and each is one subject.
use Rattle.std.proofs.Common.{◌≡◌, ℕ, List, [], ◌∷◌, ◌++◌, Some, slice_get, refl, sym, ap, ◌∙◌, subst, arith}
use Rattle.px_terms.specs.declared.types.Ty.{Ty, roll-Ty}
use Rattle.px_terms.specs.declared.types.Ty.TheVariants as type
use Rattle.px_terms.specs.declared.types.Ty.TheViews.{roll-out-Ty}
use Rattle.px_terms.specs.declared.types.Ty.TheOpen.{Ty-F}
use Rattle.px_terms.specs.declared.types.FnType.{FnType}
use Rattle.px_terms.specs.declared.types.Fun.{Fun}
use Rattle.px_terms.specs.Head.{Head}
use Rattle.px_terms.specs.Head.TheVariants.{Def, Wle, Weq, FnVar}
use Rattle.px_terms.specs.declared.program.Def as definition
use Rattle.px_terms.specs.declared.program.Program.{Program}
use Rattle.px_terms.specs.Types.{ty_instance, tys_instance}
use Rattle.px_terms.specs.TreeEquations.{ty_instance-Word, ty_instance-Con}
use Rattle.px_terms.specs.Programs.{bool_type}
use Rattle.px_terms.specs.Meaning.{FunMeans}
use Rattle.px_terms.specs.Typing.{IsTypeLayer, IsType, AreTypes, IsFunction}
use Rattle.px_terms.specs.Typing as typing
use Rattle.px_terms.specs.Clauses.{Subject, IsSubject, functions_alone}
use Rattle.px_totality.proofs.Instances.{nothing_is_some, one_item}

-- a type that stays as it is
abbrev Stays : List Ty → Ty → Type 0
Stays us T = ty_instance us T ≡ T

module _ (Q : Program) (us : List Ty) where
  mutual
    layer_stays : {y : Ty-F Ty} → IsTypeLayer Q 0 y → Stays us (roll-Ty y)
    layer_stays typing.word = subst (Stays us) (sym type.rolls-Word) (ty_instance-Word us)
    layer_stays (typing.var none) = let wrong : ⊥ = omega (arith, none) in absurd wrong
    layer_stays (typing.con {d = d} {args = args} found count are) =
        subst (Stays us) (sym (type.rolls-Con d args)) (ty_instance-Con us d args ∙ ap (type.Con d) (all_stay are))

    all_stay : {types : List Ty} → AreTypes Q 0 types → tys_instance us types ≡ types
    all_stay typing.none = refl
    all_stay (typing.more {T = T} {types = types} is are) =
        let first : ty_instance us T ≡ T = subst (Stays us) (roll-out-Ty T) (layer_stays is) in
        let others : tys_instance us types ≡ types = all_stay are in
        λ i. first i ∷ others i

  -- ground types stay as they are
  pub types_stay : (types : List Ty) → AreTypes Q 0 types → tys_instance us types ≡ types
  types_stay types are = all_stay are

  pub type_stays : (T : Ty) → IsType Q 0 T → ty_instance us T ≡ T
  type_stays T is = subst (Stays us) (roll-out-Ty T) (layer_stays is)

  -- a function without variables stands for itself
  pub means_itself : (funs : List Fun) {f : Fun} {takes : List FnType} {params : List Ty} {T : Ty} → IsFunction Q (functions_alone 0 []) f takes params T →
      FunMeans us funs f f
  means_itself funs (typing.of_definition {n = n} {types = types} found count are takes_are params_are result_is) =
      let same : tys_instance us types ≡ types = all_stay are in
      λ i. Some (record { head = Def n; types = same i })
  means_itself funs (typing.at_most is) = refl
  means_itself funs (typing.equal is) = refl
  means_itself funs (typing.of_variable {F = F} found params_are result_is) = absurd (nothing_is_some F found)

not_none : {A : Type 0} (ys : List A) (b : A) → [] ≡ ys ++ b ∷ b ∷ [] → ⊥
not_none [] b e = cc
not_none (y ∷ ys) b e = cc

not_one : {A : Type 0} (ys : List A) (a b : A) → a ∷ [] ≡ ys ++ b ∷ b ∷ [] → ⊥
not_one [] a b e = cc
not_one (y ∷ ys) a b e =
    let h : a ∷ [] ≡ y ∷ (ys ++ b ∷ b ∷ []) = e in
    let none : [] ≡ ys ++ b ∷ b ∷ [] = cc in
    not_none ys b none

not_two : {A : Type 0} (ys : List A) (a b y : A) → a ∷ a ∷ [] ≡ (y ∷ ys) ++ b ∷ b ∷ [] → ⊥
not_two ys a b y e =
    let h : a ∷ a ∷ [] ≡ y ∷ (ys ++ b ∷ b ∷ []) = e in
    let one : a ∷ [] ≡ ys ++ b ∷ b ∷ [] = cc in
    not_one ys a b one

-- a list that ends in the same item twice has one front and one such item
pub same_ends : {A : Type 0} (xs ys : List A) (a b : A) → xs ++ a ∷ a ∷ [] ≡ ys ++ b ∷ b ∷ [] → (xs ≡ ys) × (a ≡ b)
same_ends [] [] a b e = let h : a ∷ a ∷ [] ≡ b ∷ b ∷ [] = e in (refl, cc)
same_ends [] (y ∷ ys) a b e = absurd (not_two ys a b y e)
same_ends (x ∷ xs) [] a b e = absurd (not_two xs b a x (sym e))
same_ends (x ∷ xs) (y ∷ ys) a b e =
    let h : x ∷ (xs ++ a ∷ a ∷ []) ≡ y ∷ (ys ++ b ∷ b ∷ []) = e in
    let first : x ≡ y = cc in
    let others : xs ++ a ∷ a ∷ [] ≡ ys ++ b ∷ b ∷ [] = cc in
    let ends = same_ends xs ys a b others in
    (ap (λ z. z ∷ xs) first ∙ ap (λ zs. y ∷ zs) ends.0, ends.1)

-- What is taken and given by a definition, at these types.
record OfDefinition (Q : Program) (n : ℕ) (types params : List Ty) (T : Ty) : Type 0 where
  D : definition.Def
  found : slice_get Q.defs n ≡ Some D
  params_are : params ≡ tys_instance types D.params
  result_is : T ≡ ty_instance types D.result

-- what is taken and given, by the head
abbrev TakenBy : Program → Head → List Ty → List Ty → Ty → Type 0
TakenBy Q (Def n) types params T = OfDefinition Q n types params T
TakenBy Q Wle types params T = (params ≡ type.Word ∷ type.Word ∷ []) × (T ≡ bool_type)
TakenBy Q Weq types params T = (params ≡ type.Word ∷ type.Word ∷ []) × (T ≡ bool_type)
TakenBy Q (FnVar n) types params T = ⊥

taken_by : (Q : Program) {f : Fun} {takes : List FnType} {params : List Ty} {T : Ty} → IsFunction Q (functions_alone 0 []) f takes params T →
    TakenBy Q f.head f.types params T
taken_by Q (typing.of_definition {D = D} found count are takes_are params_are result_is) = record {
  D = D;
  found = found;
  params_are = params_are;
  result_is = result_is;
}
taken_by Q (typing.at_most is) = (refl, is)
taken_by Q (typing.equal is) = (refl, is)
taken_by Q (typing.of_variable {F = F} found params_are result_is) = absurd (nothing_is_some F found)

one_taken : (Q : Program) (h : Head) (types a b : List Ty) (T U : Ty) → TakenBy Q h types a T → TakenBy Q h types b U → (a ≡ b) × (T ≡ U)
one_taken Q (Def n) types a b T U x y =
    let same : x.D ≡ y.D = one_item x.D y.D (sym x.found ∙ y.found) in (
      x.params_are ∙ ap (λ (D : definition.Def). tys_instance types D.params) same ∙ sym y.params_are,
      x.result_is ∙ ap
          (λ (D : definition.Def). ty_instance types D.result) same ∙ sym y.result_is,
    )
one_taken Q Wle types a b T U x y = (x.0 ∙ sym y.0, x.1 ∙ sym y.1)
one_taken Q Weq types a b T U x y = (x.0 ∙ sym y.0, x.1 ∙ sym y.1)
one_taken Q (FnVar n) types a b T U x y = absurd x

-- a function without variables takes one list of parameters, and gives one type
pub one_type : (Q : Program) (f : Fun) (takes others : List FnType) (a b : List Ty) (T U : Ty) → IsFunction Q (functions_alone 0 []) f takes a T →
    IsFunction Q (functions_alone 0 []) f others b U → (a ≡ b) × (T ≡ U)
one_type Q f takes others a b T U x y = one_taken Q f.head f.types a b T U (taken_by Q x) (taken_by Q y)

-- a function without variables is one subject
pub one_subject : (Q : Program) (f : Fun) (s t : Subject) → IsSubject Q (functions_alone 0 []) f [] s → IsSubject Q (functions_alone 0 []) f [] t → s ≡ t
one_subject Q f s t x y =
    let same : (x.params ≡ y.params) × (s.result ≡ t.result) = one_type Q f x.takes y.takes x.params y.params s.result t.result x.function y.function in
    let ends : (s.leading ≡ t.leading) × (s.last ≡ t.last) = same_ends s.leading t.leading s.last t.last (sym x.shape ∙ same.0 ∙ y.shape) in
    let function : s.function ≡ t.function = x.is_function ∙ sym y.is_function in
    let given : s.given ≡ t.given = x.is_given ∙ sym y.is_given in
    let leading : s.leading ≡ t.leading = ends.0 in
    let last : s.last ≡ t.last = ends.1 in
    let result : s.result ≡ t.result = same.1 in
    λ i. record { function = function i; given = given i; leading = leading i; last = last i; result = result i }
