-- A property's sides, at the values of its variables: what a function of two last parameters gives is its term's value.
use Rattle.std.proofs.Common.{◌≡◌, ℕ, zero, suc, ◌+◌, List, [], ◌∷◌, ◌++◌, map, length, Some, slice_get, refl, sym, ap, ◌∙◌}
use Rattle.std.proofs.Common.{subst, arith}
use Rattle.std.proofs.lemmas.List.{nil_from_length}
use Rattle.px_terms.specs.declared.types.Ty.{Ty}
use Rattle.px_terms.specs.declared.types.Ty.TheVariants as type
use Rattle.px_terms.specs.declared.types.Ty.TheViews.{roll-Ty}
use Rattle.px_terms.specs.declared.types.Ty.TheOpen.{Ty-F}
use Rattle.px_terms.specs.declared.types.Ty.TheFolds.{ind-Ty, map-Ty, fold-roll-Ty}
use Rattle.px_terms.specs.declared.types.Fun.{Fun}
use Rattle.px_terms.specs.declared.term.Term.{Term}
use Rattle.px_terms.specs.declared.term.Term.TheOpen.{Term-F}
use Rattle.px_terms.specs.declared.term.Term.TheVariants as term
use Rattle.px_terms.specs.declared.term.Value.{Value}
use Rattle.px_terms.specs.declared.program.Program.{Program}
use Rattle.px_terms.specs.Types.{numbers_from, ty_instance_step, ty_instance, tys_instance}
use Rattle.px_terms.specs.Values.{IsIn, AreIn}
use Rattle.px_terms.specs.Values as values
use Rattle.px_terms.specs.Meaning.{FunMeans, FunsMean, MeanAll, Means, Gives, call, none, more}
use Rattle.px_terms.specs.Clauses.{Subject, IsSubject, functions_alone, applied, equals}
use Rattle.px_terms.specs.Holding.{IsTrueAt}
use Rattle.px_terms.specs.Extending.{IsWellFounded}
use Rattle.px_totality.proofs.Instances.{nothing_is_some}
use Rattle.px_totality.proofs.Total.{GivesIn, IsTotal}
use Rattle.px_totality.proofs.Valued.{are_in_append, as_many}
use Rattle.px_totality.proofs.EachIsTotal.{function_is_total}
use Rattle.px_totality.proofs.Closed.{means_itself}
use Rattle.px_totality.proofs.Examples.{of_layer_means, variable_means, same_values}
use Rattle.px_totality.proofs.Unique.{unique_gift}

-- the type stays as it is
abbrev Stays : Ty → Type 0
Stays T = ty_instance [] T ≡ T

all_stay : (ts : List ((T : Ty) × Stays T)) → tys_instance [] (map (λ (e : (T : Ty) × Stays T). e.0) ts) ≡ map (λ (e : (T : Ty) × Stays T). e.0) ts
all_stay [] = refl
all_stay (t ∷ ts) = let here : ty_instance [] t.0 ≡ t.0 = t.1 in let rest = all_stay ts in cc

layer_stays : (y : Ty-F ((T : Ty) × Stays T)) →
    ty_instance_step [] (map-Ty Ty Ty (ty_instance []) (map-Ty ((T : Ty) × Stays T) Ty (λ (e : (T : Ty) × Stays T). e.0) y))
    ≡ roll-Ty (map-Ty ((T : Ty) × Stays T) Ty (λ (e : (T : Ty) × Stays T). e.0) y)
layer_stays Ty-F.Word = sym type.rolls-Word
layer_stays (Ty-F.Var n) = sym (type.rolls-Var n)
layer_stays (Ty-F.Con d args) = ap (type.Con d) (all_stay args) ∙ sym (type.rolls-Con d (map (λ (e : (T : Ty) × Stays T). e.0) args))

-- where nothing is put in, a type stays as it is
stays : (T : Ty) → Stays T
stays = ind-Ty Stays (λ x y is.
    subst (λ (z : Ty-F Ty). ty_instance [] (roll-Ty z) ≡ roll-Ty z) is
    (fold-roll-Ty Ty (ty_instance_step []) (map-Ty ((T : Ty) × Stays T) Ty (λ (e : (T : Ty) × Stays T). e.0) y) ∙ layer_stays y))

-- and so do types
pub nothing_put_in : (types : List Ty) → tys_instance [] types ≡ types
nothing_put_in [] = refl
nothing_put_in (T ∷ types) =
    let first : ty_instance [] T ≡ T = stays T in
    let others : tys_instance [] types ≡ types = nothing_put_in types in
    λ i. first i ∷ others i

-- The values are those of the front types, and then those of the others.
pub record Split (Q : Program) (front others : List Ty) (rho : List Value) : Type 0 where
  pub ls : List Value
  pub xs : List Value
  pub is : rho ≡ ls ++ xs
  pub in_front : AreIn Q front ls
  pub in_others : AreIn Q others xs

split_first : (Q : Program) (T : Ty) (front others types : List Ty) (rho : List Value) → AreIn Q types rho → types ≡ T ∷ (front ++ others) →
    ((vs : List Value) → AreIn Q (front ++ others) vs → Split Q front others vs) → Split Q (T ∷ front) others rho
split_first Q T front others _ _ values.none e rest_of = let wrong : ⊥ = cc in absurd wrong
split_first Q T front others _ _ (values.more {T = S} {types = types} {v = v} {values = vs} first rest) e rest_of =
    let same : S ≡ T = cc in
    let end : types ≡ front ++ others = cc in
    let there : Split Q front others vs = rest_of vs (subst (λ (types : List Ty). AreIn Q types vs) end rest) in
    record {
      ls = v ∷ there.ls;
      xs = there.xs;
      is = ap (λ (vs : List Value). v ∷ vs) there.is;
      in_front = values.more (subst (λ (T : Ty). IsIn Q T v) same first) there.in_front;
      in_others = there.in_others;
    }

pub split : (Q : Program) (front others : List Ty) (rho : List Value) → AreIn Q (front ++ others) rho → Split Q front others rho
split Q [] others rho are = record { ls = []; xs = rho; is = refl; in_front = values.none; in_others = are }
split Q (T ∷ front) others rho are = split_first Q T front others (T ∷ (front ++ others)) rho are refl (λ vs are. split Q front others vs are)

-- The terms have the values, with some count.
record AllMean (Q : Program) (rho : List Value) (ts : List Term) (vs : List Value) : Type 0 where
  count : ℕ
  mean : MeanAll Q [] [] rho [] ts vs count

-- the variables from a number on mean the values from it on
variables_mean : (Q : Program) (rho vs : List Value) (start : ℕ) (others : List Term) (ws : List Value) →
    ((i : ℕ) (v : Value) → slice_get vs i ≡ Some v → slice_get rho (start + i) ≡ Some v) → AllMean Q rho others ws →
    AllMean Q rho (map (λ (i : ℕ). term.Free i) (numbers_from start (length vs)) ++ others) (vs ++ ws)
variables_mean Q rho [] start others ws at rest = rest
variables_mean Q rho (v ∷ vs) start others ws at rest =
    let zeroth : start + 0 ≡ start = omega arith in
    let here : slice_get rho start ≡ Some v = ap (slice_get rho) (sym zeroth) ∙ at 0 v refl in
    let later : AllMean Q rho (map (λ (i : ℕ). term.Free i) (numbers_from (start + 1) (length vs)) ++ others) (vs ++ ws) =
    variables_mean Q rho vs (start + 1) others ws
    (λ i w there. let next : (start + 1) + i ≡ start + suc i = omega arith in ap (slice_get rho) next ∙ at (suc i) w there) rest in
    record { count = 0 + later.count; mean = more (variable_means Q [] [] rho start v here) later.mean refl }

-- what stands in the first list stands in both
in_first : {A : Type 0} (xs ys : List A) (i : ℕ) (x : A) → slice_get xs i ≡ Some x → slice_get (xs ++ ys) i ≡ Some x
in_first [] ys i x at = absurd (nothing_is_some x at)
in_first (y ∷ xs) ys zero x at = at
in_first (y ∷ xs) ys (suc i) x at = in_first xs ys i x at

-- what stands in the second list stands behind the first
pub in_second : {A : Type 0} (xs ys : List A) (n i : ℕ) (x : A) → length xs ≡ n → slice_get ys i ≡ Some x → slice_get (xs ++ ys) (n + i) ≡ Some x
in_second [] ys n i x long at = let same : n + i ≡ i = omega (arith, long) in ap (slice_get ys) same ∙ at
in_second (y ∷ xs) ys zero i x long at = let wrong : ⊥ = omega (arith, long) in absurd wrong
in_second (y ∷ xs) ys (suc n) i x long at =
    let rest : length xs ≡ n = omega (arith, long) in
    let next : suc n + i ≡ suc (n + i) = omega arith in
    ap (slice_get (y ∷ xs ++ ys)) next ∙ in_second xs ys n i x rest at

module _ (Q : Program) (founded : IsWellFounded Q) (f : Fun) (s : Subject) (subject : IsSubject Q (functions_alone 0 []) f [] s) where
  is_total : IsTotal Q f subject.params s.result
  is_total = function_is_total Q founded.typed founded.descends subject.function (nil_from_length subject.takes (sym subject.taken))

  -- The function gives this value on the leading values and the last two.
  pub record Ap (ls : List Value) (a b v : Value) : Type 0 where
    pub count : ℕ
    pub gives : Gives Q f [] (ls ++ a ∷ b ∷ []) v count

  -- What the function gives on values of its parameters' types.
  pub record Result (ls : List Value) (a b : Value) : Type 0 where
    pub v : Value
    pub is : Ap ls a b v
    pub in_type : IsIn Q s.result v

  pub result_of : (ls : List Value) (a b : Value) → AreIn Q s.leading ls → IsIn Q s.last a → IsIn Q s.last b → Result ls a b
  result_of ls a b leading first second =
      let are : AreIn Q subject.params (ls ++ a ∷ b ∷ []) =
      subst (λ (types : List Ty). AreIn Q types (ls ++ a ∷ b ∷ [])) (sym subject.shape)
      (are_in_append Q leading (values.more first (values.more second values.none))) in
      let it : GivesIn Q f [] (ls ++ a ∷ b ∷ []) s.result = is_total.at (ls ++ a ∷ b ∷ []) are in
      record { v = it.value; is = record { count = it.count; gives = it.gives }; in_type = it.in_type }

  -- the function gives one value
  pub one_result : (ls : List Value) (a b v w : Value) → Ap ls a b v → Ap ls a b w → v ≡ w
  one_result ls a b v w one other = (unique_gift Q f [] (ls ++ a ∷ b ∷ []) v w one.count other.count one.gives other.gives).0

  module _ (ls xs : List Value) (leading : AreIn Q s.leading ls) where
    abbrev rho : List Value
    rho = ls ++ xs

    long : length ls ≡ length s.leading
    long = sym (as_many Q leading)

    -- The term has the value.
    pub record Has (t : Term) (v : Value) : Type 0 where
      pub count : ℕ
      pub means : Means Q [] [] (ls ++ xs) t v count

    pub variable_has : (i : ℕ) (v : Value) → slice_get xs i ≡ Some v → Has (term.Free (length s.leading + i)) v
    variable_has i v at = record { count = 0; means = variable_means Q [] [] rho (length s.leading + i) v (in_second ls xs (length s.leading) i v long at) }

    pub first_has : (v : Value) → slice_get xs 0 ≡ Some v → Has (term.Free (length s.leading)) v
    first_has v at = let zeroth : length s.leading + 0 ≡ length s.leading = omega arith in subst (λ (i : ℕ). Has (term.Free i) v) zeroth (variable_has 0 v at)

    -- the function on terms means what it gives on their values
    pub applied_has : (ta tb : Term) (a b v : Value) → Has ta a → Has tb b → Ap ls a b v → Has (applied s ta tb) v
    applied_has ta tb a b v one two given =
        let lasts : AllMean Q rho (ta ∷ tb ∷ []) (a ∷ b ∷ []) = record {
          count = one.count + (two.count + 0);
          mean = more one.means (more two.means none refl) refl;
        } in
        let at : (i : ℕ) (v : Value) → slice_get ls i ≡ Some v → slice_get rho (0 + i) ≡ Some v =
        λ i v there. let same : 0 + i ≡ i = omega arith in ap (slice_get rho) same ∙ in_first ls xs i v there in
        let all : AllMean Q rho (map (λ (i : ℕ). term.Free i) (numbers_from 0 (length ls)) ++ ta ∷ tb ∷ []) (ls ++ a ∷ b ∷ []) =
        variables_mean Q rho ls 0 (ta ∷ tb ∷ []) (a ∷ b ∷ []) at lasts in
        let args : List Term = map (λ (i : ℕ). term.Free i) (numbers_from 0 (length s.leading)) ++ ta ∷ tb ∷ [] in
        let mean : MeanAll Q [] [] rho [] args (ls ++ a ∷ b ∷ []) all.count =
        subst (λ (n : ℕ). MeanAll Q [] [] rho [] (map (λ (i : ℕ). term.Free i) (numbers_from 0 n) ++ ta ∷ tb ∷ [])
        (ls ++ a ∷ b ∷ []) all.count) long all.mean in
        let stands : FunMeans [] [] s.function f = subst (λ (g : Fun). FunMeans [] [] g f) (sym subject.is_function) (means_itself Q [] [] subject.function) in
        let no_functions : FunsMean [] [] s.given [] = subst (λ (given : List Fun). FunsMean [] [] given []) (sym subject.is_given) tt in
        record {
          count = all.count + given.count;
          means =
              of_layer_means Q [] [] rho (applied s ta tb) (Term-F.Call s.function s.given args) v (all.count + given.count)
              (term.outs-Call s.function s.given args) (call mean stands no_functions given.gives refl);
        }

    -- sides of one value make a true equation
    pub true_if : (l r : Term) (v w : Value) → Has l v → Has r w → v ≡ w → IsTrueAt Q [] [] (ls ++ xs) (equals l r)
    true_if l r v w one two same = let here : Has r v = subst (Has r) (sym same) two in (v, one.count, here.count, one.means, here.means)

    -- the sides of a true equation have one value
    pub true_then : (l r : Term) (v w : Value) → Has l v → Has r w → IsTrueAt Q [] [] (ls ++ xs) (equals l r) → v ≡ w
    true_then l r v w one two is = same_values Q [] [] rho l r v w one.count two.count one.means two.means is
