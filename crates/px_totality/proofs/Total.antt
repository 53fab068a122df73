-- Total functions: those that give a value on all values of their types.
use Rattle.std.proofs.Common.{◌≡◌, ℕ, zero, suc, List, [], ◌∷◌, Some, slice_get, nat_le, ◌==◌, Bool, true, false, refl, sym, ap, ◌∙◌, subst}
use Rattle.std.specs.Prelude.{if◌then◌else◌}
use Rattle.px_terms.specs.declared.types.Ty.{Ty, out-Ty}
use Rattle.px_terms.specs.declared.types.Ty.TheVariants as type
use Rattle.px_terms.specs.declared.types.Ty.TheOpen.{Ty-F}
use Rattle.px_terms.specs.declared.types.FnType.{FnType}
use Rattle.px_terms.specs.declared.types.Fun.{Fun}
use Rattle.px_terms.specs.Head.TheVariants.{Wle, Weq}
use Rattle.px_terms.specs.declared.term.Value.{Value, out-Value}
use Rattle.px_terms.specs.declared.term.Value.TheVariants as value
use Rattle.px_terms.specs.declared.term.Value.TheOpen.{Value-F}
use Rattle.px_terms.specs.declared.program.ConDef.{ConDef}
use Rattle.px_terms.specs.declared.program.Program.{Program}
use Rattle.px_terms.specs.Types.{ty_instance, tys_instance}
use Rattle.px_terms.specs.Programs.{bool_type, bool_data, constructor_at}
use Rattle.px_terms.specs.Values.{IsInLayer, IsIn, AreIn}
use Rattle.px_terms.specs.Values as values
use Rattle.px_terms.specs.Meaning.{truth, Gives, at_most, equal}
use Rattle.px_terms.specs.TypedPrograms.{IsTyped}
use Rattle.px_totality.proofs.Instances.{nothing_is_some, one_item}
use Rattle.px_totality.proofs.TypesOfTerms.{constructor_of}

-- The function gives a value of the type, with some count.
pub record GivesIn (Q : Program) (f : Fun) (funs : List Fun) (vs : List Value) (T : Ty) : Type 0 where
  pub value : Value
  pub count : ℕ
  pub gives : Gives Q f funs vs value count
  pub in_type : IsIn Q T value

-- The function, without functions given, gives a value of the result's type on all values of its parameters' types.
pub record IsTotal (Q : Program) (f : Fun) (params : List Ty) (T : Ty) : Type 0 where
  pub at : (vs : List Value) → AreIn Q params vs → GivesIn Q f [] vs T

-- each function is total at the function type at its place
pub data AreTotal (Q : Program) (types : List Ty) : List FnType → List Fun → Type 0 where
  no_function : AreTotal Q types [] []
  function : {F : FnType} {Fs : List FnType} {f : Fun} {fs : List Fun} → IsTotal Q f (tys_instance types F.params) (ty_instance types F.result) →
      AreTotal Q types Fs fs → AreTotal Q types (F ∷ Fs) (f ∷ fs)

-- where no function is taken, none is given
pub none_given : (Q : Program) (types : List Ty) (Fs : List FnType) (fs : List Fun) → AreTotal Q types Fs fs → Fs ≡ [] → fs ≡ []
none_given Q types _ _ no_function e = refl
none_given Q types _ _ (function first others) e = let wrong : ⊥ = cc in absurd wrong

-- The function of this number is total.
pub record TotalAt (Q : Program) (types : List Ty) (F : FnType) (fs : List Fun) (n : ℕ) : Type 0 where
  pub f : Fun
  pub at : slice_get fs n ≡ Some f
  pub total : IsTotal Q f (tys_instance types F.params) (ty_instance types F.result)

pub total_at : (Q : Program) (types : List Ty) (Fs : List FnType) (fs : List Fun) (n : ℕ) (F : FnType) → AreTotal Q types Fs fs → slice_get Fs n ≡ Some F →
    TotalAt Q types F fs n
total_at Q types _ _ n F no_function at = absurd (nothing_is_some F at)
total_at Q types _ _ zero F (function {F = G} {f = f} first others) at =
    let same : G ≡ F = one_item G F at in
    record { f = f; at = refl; total = subst (λ (F : FnType). IsTotal Q f (tys_instance types F.params) (ty_instance types F.result)) same first }
total_at Q types _ _ (suc n) F (function {Fs = Fs} {fs = fs} first others) at =
    let there : TotalAt Q types F fs n = total_at Q types Fs fs n F others at in record { f = there.f; at = there.at; total = there.total }

-- The value is a word.
pub record IsWord (v : Value) : Type 0 where
  pub word : ℕ
  pub is : out-Value v ≡ Value-F.Lit word

word_layer : (Q : Program) (v : Value) {y : Ty-F Ty} {z : Value-F Value} → IsInLayer Q y z → y ≡ Ty-F.Word → out-Value v ≡ z → IsWord v
word_layer Q v (values.word {w = w} small) e at = record { word = w; is = at }
word_layer Q v (values.con found are) e at = let wrong : ⊥ = cc in absurd wrong

pub word_of : (Q : Program) (v : Value) (T : Ty) → T ≡ type.Word → IsIn Q T v → IsWord v
word_of Q v T e is = word_layer Q v is (ap out-Ty e ∙ type.outs-Word) refl

-- Two words, in order.
pub record AreTwoWords (vs : List Value) : Type 0 where
  pub left : Value
  pub right : Value
  pub are : vs ≡ left ∷ right ∷ []
  pub left_word : IsWord left
  pub right_word : IsWord right

-- values of two words' types are two words
pub two_words : (Q : Program) (types : List Ty) (vs : List Value) → AreIn Q types vs → types ≡ type.Word ∷ type.Word ∷ [] → AreTwoWords vs
two_words Q _ _ values.none e = let wrong : ⊥ = cc in absurd wrong
two_words Q _ _ (values.more first values.none) e = let wrong : ⊥ = cc in absurd wrong
two_words Q _ _ (values.more {T = S} {v = v} first (values.more {T = T} {v = w} second values.none)) e =
    record {
      left = v;
      right = w;
      are = refl;
      left_word = word_of Q v S (let h : S ≡ type.Word = cc in h) first;
      right_word = word_of Q w T (let h : T ≡ type.Word = cc in h) second;
    }
two_words Q _ _ (values.more first (values.more second (values.more third others))) e = let wrong : ⊥ = cc in absurd wrong

module _ (Q : Program) (typed : IsTyped Q) where
  truth_layer : (b : Bool) (k : ℕ) (c : ConDef) → (if b then 1 else 0) ≡ k → slice_get bool_data.cons k ≡ Some c → AreIn Q (tys_instance [] c.fields) [] →
      IsIn Q bool_type (truth b)
  truth_layer b k c is stands are =
      let there : constructor_at Q 0 (if b then 1 else 0) ≡ Some c =
      constructor_of Q 0 (if b then 1 else 0) bool_data typed.bool ∙ ap (slice_get bool_data.cons) is ∙ stands in
      subst (λ (y : Ty-F Ty). IsInLayer Q y (out-Value (truth b))) (sym (type.outs-Con 0 []))
      (subst (IsInLayer Q (Ty-F.Con 0 [])) (sym (value.outs-Con 0 (if b then 1 else 0) [])) (values.con {c = c} there are))

  -- a truth value is in `Bool`
  pub truth_is_in : (b : Bool) → IsIn Q bool_type (truth b)
  truth_is_in false = truth_layer false 0 (record { fields = [] }) refl refl values.none
  truth_is_in true = truth_layer true 1 (record { fields = [] }) refl refl values.none

  -- the comparisons give truth values on two words
  pub at_most_gives : (types : List Ty) (funs : List Fun) (vs : List Value) → AreTwoWords vs →
      GivesIn Q (record { head = Wle; types = types }) funs vs bool_type
  at_most_gives types funs vs two =
      let b : Bool = nat_le two.left_word.word two.right_word.word in
      record {
        value = truth b;
        count = 0;
        gives =
            subst (λ (vs : List Value). Gives Q (record { head = Wle; types = types }) funs vs (truth b) 0) (sym two.are)
            (at_most two.left_word.is two.right_word.is refl);
        in_type = truth_is_in b;
      }

  pub equal_gives : (types : List Ty) (funs : List Fun) (vs : List Value) → AreTwoWords vs → GivesIn Q (record { head = Weq; types = types }) funs vs bool_type
  equal_gives types funs vs two =
      let b : Bool = two.left_word.word == two.right_word.word in
      record {
        value = truth b;
        count = 0;
        gives =
            subst (λ (vs : List Value). Gives Q (record { head = Weq; types = types }) funs vs (truth b) 0) (sym two.are)
            (equal two.left_word.is two.right_word.is refl);
        in_type = truth_is_in b;
      }
