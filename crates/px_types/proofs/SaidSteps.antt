-- The properties that are known of a function, as the code tells them.
use Rattle.std.proofs.Common.{◌≡◌, ◌↔◌, ℕ, zero, suc, ◌+◌, ◌<◌, ◌≤◌, Bool, true, false, not, ◌&&◌, ◌||◌, IsTrue, List, [], ◌∷◌, length, get_or, take, Option}
use Rattle.std.proofs.Common.{refl, sym, ◌∙◌, ap, arith}
use Rattle.std.specs.Prelude.{slice_get}
use Rattle.std.specs.List.{list_all}
use Rattle.std.proofs.lemmas.Bool.Decides.{same_from_decides}
use Rattle.px_base.specs.PropSets.{has_prop, HasProp, all_props}
use Rattle.px_base.specs.declared.head.Head.{Head}
use Rattle.px_base.specs.declared.head.Head.TheVariants.{Def, Wle, Weq}
use Rattle.px_base.specs.declared.prop.Prop.{Prop}
use Rattle.px_base.specs.declared.prop.Prop.TheVariants.{Comm, Assoc, Idem, Sel, Refl, Irrefl, Sym, Antisym, Asym, Trans, Conn}
use Rattle.px_base.specs.declared.prop.PropSet.{PropSet}
use Rattle.px_terms.specs.Implied.{HasAtMost, HasEqual}
use Rattle.px_types.specs.Faults.{Env}
use Rattle.px_types.specs.Scopes.{Knows}
use Rattle.px_types.specs.Outcome.{passes, is_said, is_implied, has_wanted}
use Rattle.px_types.proofs.Known.{decides_said, decides_implied}
use Rattle.px_types.proofs.MetSteps.{all_fails, all_next, all_end}
use Rattle.px_props.specs.Sets.{IsSetOf, IsClosure}
use Rattle.px_types.specs.declared.said.TheConstants.{NONE}

-- no property is in the empty set
pub none_has : (p : Prop) → has_prop NONE p ≡ false
none_has Comm = refl
none_has Assoc = refl
none_has Idem = refl
none_has Sel = refl
none_has Refl = refl
none_has Irrefl = refl
none_has Sym = refl
none_has Antisym = refl
none_has Asym = refl
none_has Trans = refl
none_has Conn = refl

-- the sets of the built-ins
pub at_most_said : (E : Env) (set : PropSet) → IsSetOf set HasAtMost → (p : Prop) → has_prop set p ≡ is_said E Wle p
at_most_said E set h p = same_from_decides (has_prop set p) (is_said E Wle p) (h p) (decides_said E Wle p)

pub equal_said : (E : Env) (set : PropSet) → IsSetOf set HasEqual → (p : Prop) → has_prop set p ≡ is_said E Weq p
equal_said E set h p = same_from_decides (has_prop set p) (is_said E Weq p) (h p) (decides_said E Weq p)

-- the sets of definitions
pub def_said : (E : Env) (known looked : List PropSet) (n : ℕ) (h : Head) (o : Option PropSet) → Knows E.program E.place known → looked ≡ known → h ≡ Def n →
    o ≡ slice_get looked n → (p : Prop) → passes (λ (set : PropSet). has_prop set p) o ≡ is_said E h p
def_said E known looked n h o knows same head stands p =
    ap (passes (λ (set : PropSet). has_prop set p)) (stands ∙ ap (λ (sets : List PropSet). slice_get sets n) same)
    ∙ knows n p
    ∙ ap (λ (g : Head). is_said E g p) (sym head)

-- the closure of what is said
pub implied_is : (E : Env) (h : Head) (said known : PropSet) → ((p : Prop) → has_prop said p ≡ is_said E h p) → IsClosure said known → (p : Prop) →
    has_prop known p ≡ is_implied (is_said E h) p
implied_is E h said known is closes p =
    same_from_decides (has_prop known p) (is_implied (is_said E h) p) (closes p)
    (decides_implied (is_said E h) (HasProp said) (λ q. (λ e. is q ∙ e, λ e. sym (is q) ∙ e)) p)

-- one test for another
same_tests : (f g : Prop → Bool) → ((p : Prop) → f p ≡ g p) → (props : List Prop) → list_all f props ≡ list_all g props
same_tests f g same [] = refl
same_tests f g same (p ∷ props) = λ i. same p i && same_tests f g same props i

pub wanted_is : (E : Env) (h : Head) (wanted known : PropSet) (r : Bool) → ((p : Prop) → has_prop known p ≡ is_implied (is_said E h) p) →
    r ≡ list_all (λ (p : Prop). not (has_prop wanted p) || has_prop known p) all_props → r ≡ has_wanted E h wanted
unfolding has_wanted
wanted_is E h wanted known r is e = e ∙ same_tests _ _ (λ p. ap (λ (b : Bool). not (has_prop wanted p) || b) (is p)) all_props

-- a test of membership is the entry itself
pub has_is : (set : PropSet) (p : Prop) (b : Bool) → (IsTrue b ↔ HasProp set p) → b ≡ has_prop set p
has_is set p b h = same_from_decides b (has_prop set p) h (λ e. e, λ e. e)

pub lacks_is : (x y : Bool) → (x && not y) ≡ not (not x || y)
lacks_is true true = refl
lacks_is true false = refl
lacks_is false y = refl

false_of : (b r : Bool) → r ≡ not b → r ≡ true → b ≡ false
false_of true r e f = cc
false_of false r e f = refl

true_of : (b r : Bool) → r ≡ not b → r ≡ false → b ≡ true
true_of true r e f = refl
true_of false r e f = cc

same_item : {X : Type 0} (xs : List X) (i : ℕ) (d e : X) → i < length xs → get_or xs i d ≡ get_or xs i e
same_item [] i d e h = absurd (omega arith)
same_item (x ∷ xs) zero d e h = refl
same_item (x ∷ xs) (suc i) d e h = same_item xs i d e (omega arith)

module _ (wanted known : PropSet) where
  abbrev pub within_at : Prop → Bool
  within_at p = not (has_prop wanted p) || has_prop known p

  pub within_fails : (i : ℕ) (d : Prop) (r : Bool) → i < length all_props →
      r ≡ (has_prop wanted (get_or all_props i d) && not (has_prop known (get_or all_props i d))) → r ≡ true → false ≡ list_all within_at all_props
  within_fails i d r h e t = sym (all_fails within_at all_props i (get_or all_props i d) h (same_item all_props i d _ h) (false_of _ r (e ∙ lacks_is _ _) t))

  pub within_next : (i : ℕ) (d : Prop) (r : Bool) → i < length all_props →
      r ≡ (has_prop wanted (get_or all_props i d) && not (has_prop known (get_or all_props i d))) → r ≡ false → list_all within_at (take i all_props) ≡ true →
      list_all within_at (take (i + 1) all_props) ≡ true
  within_next i d r h e f before =
      all_next within_at all_props i (get_or all_props i d) h (same_item all_props i d _ h) (true_of _ r (e ∙ lacks_is _ _) f) before

  pub within_end : (i : ℕ) → length all_props ≤ i → list_all within_at (take i all_props) ≡ true → true ≡ list_all within_at all_props
  within_end i h before = sym (all_end within_at all_props i h before)
