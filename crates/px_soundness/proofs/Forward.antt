-- What a term means stays under more pattern variables, and when a term is put in for a variable that means the same.
use Rattle.std.proofs.Common.{◌≡◌, ℕ, zero, suc, ◌+◌, List, [], ◌∷◌, ◌++◌, Bool, true, false, ◌==◌, Option, Some, None, map, slice_get, option_map, if◌then◌else◌, refl, sym, ap, ◌∙◌, subst, reverse, append_assoc, eqb-true}
use Rattle.std.proofs.lemmas.Option.{none-some, same_Some, slice_get-map}
use Rattle.px_terms.specs.declared.types.Ty.{Ty}
use Rattle.px_terms.specs.declared.types.Fun.{Fun}
use Rattle.px_terms.specs.declared.term.Term.{Term, out-Term}
use Rattle.px_terms.specs.declared.term.Term.TheViews.{roll-out-Term}
use Rattle.px_terms.specs.declared.term.Term.TheVariants.{Free, Bound, Lit, Con, Call, Match, outs-Free, outs-Bound, outs-Lit, outs-Con, outs-Call, outs-Match}
use Rattle.px_terms.specs.declared.term.Term.TheOpen.{Term-F}
use Rattle.px_terms.specs.declared.term.Term.TheFolds.{map-Term, fold-roll-Term}
use Rattle.px_terms.specs.declared.term.Value.{Value, out-Value}
use Rattle.px_terms.specs.declared.term.Value.TheOpen.{Value-F}
use Rattle.px_terms.specs.declared.program.Program.{Program}
use Rattle.px_terms.specs.Terms.{put_step, term_put}
use Rattle.px_terms.specs.Meaning.{MeansOf, free, bound, lit, con, choose, call, MeanAll, none, more, chosen, bind}

-- an item of a list is the same item of a longer one
pub slice_get_longer : {A : Type 0} (xs ys : List A) (n : ℕ) (x : A) → slice_get xs n ≡ Some x → slice_get (xs ++ ys) n ≡ Some x
slice_get_longer [] ys n x e = absurd (none-some x e)
slice_get_longer (y ∷ xs) ys zero x e = e
slice_get_longer (y ∷ xs) ys (suc n) x e = slice_get_longer xs ys n x e

module _ (P : Program) (types : List Ty) (funs : List Fun) (rho : List Value) (extra : List Value) where
  -- pattern variables at the end stay there inside an arm
  bind_more : (fields inside : List Value) (y : Term-F Term) (v : Value) (c : ℕ) → MeansOf P types funs rho (bind fields inside ++ extra) y v c → MeansOf P types funs rho (bind fields (inside ++ extra)) y v c
  bind_more fields inside y v c = subst (λ values. MeansOf P types funs rho values y v c) (append_assoc (reverse fields) inside extra)

  mutual
    -- a meaning stays under further pattern variables at the end
    pub more_bound : (inside : List Value) (y : Term-F Term) (v : Value) (c : ℕ) → MeansOf P types funs rho inside y v c → MeansOf P types funs rho (inside ++ extra) y v c
    more_bound inside _ v _ (free e) = free e
    more_bound inside _ v _ (bound {n = n} e) = bound (slice_get_longer inside extra n v e)
    more_bound inside _ v _ (lit e) = lit e
    more_bound inside _ v c (con {fields = fields} {vs = vs} all e) = con (more_bound_all inside fields vs c all) e
    more_bound inside _ v c (choose {on = on} {u = u} {arm = arm} {vs = vs} {a = a} {b = b} scrutinee chosen_is means e) = choose (more_bound inside (out-Term on) u a scrutinee) chosen_is (bind_more vs inside (out-Term arm) v b (more_bound (bind vs inside) (out-Term arm) v b means)) e
    more_bound inside _ v c (call {args = args} {vs = vs} {a = a} all function functions gives e) = call (more_bound_all inside args vs a all) function functions gives e

    -- the same of each term of a list
    pub more_bound_all : (inside : List Value) (ts : List Term) (vs : List Value) (c : ℕ) → MeanAll P types funs rho inside ts vs c → MeanAll P types funs rho (inside ++ extra) ts vs c
    more_bound_all inside _ _ _ none = none
    more_bound_all inside _ _ c (more {t = t} {ts = ts} {v = v} {vs = vs} {a = a} {b = b} means all e) = more (more_bound inside (out-Term t) v a means) (more_bound_all inside ts vs b all) e

-- what a term means under no pattern variables it means under any
pub under_any : (P : Program) (types : List Ty) (funs : List Fun) (rho inside : List Value) (y : Term-F Term) (v : Value) (c : ℕ) → MeansOf P types funs rho [] y v c → MeansOf P types funs rho inside y v c
under_any P types funs rho inside y v c means = more_bound P types funs rho inside [] y v c means

-- the arm that is chosen of mapped arms
pub chosen_map : (f : Term → Term) (arms : List Term) (layer : Value-F Value) (arm : Term) (vs : List Value) → chosen arms layer ≡ Some (arm, vs) → chosen (map f arms) layer ≡ Some (f arm, vs)
chosen_map f arms (Value-F.Lit w) arm vs e = absurd (none-some (arm, vs) e)
chosen_map f arms (Value-F.Con d k fields) arm vs e =
    ap (λ (o : Option Term). option_map {U = Term × List Value} (λ (t : Term). (t, fields)) o) (slice_get-map f arms k)
    ∙ together (slice_get arms k)
    ∙ ap (λ (o : Option (Term × List Value)). option_map {U = Term × List Value} (λ (p : Term × List Value). (f p.0, p.1)) o) e
  where
    together : (o : Option Term) → option_map {U = Term × List Value} (λ (t : Term). (t, fields)) (option_map f o) ≡ option_map {U = Term × List Value} (λ (p : Term × List Value). (f p.0, p.1)) (option_map {U = Term × List Value} (λ (t : Term). (t, fields)) o)
    together None = refl
    together (Some t) = refl

-- a term that means v, with some number of calls
abbrev pub HasMeaning : Program → List Ty → List Fun → List Value → List Value → Term → Value → Type 0
HasMeaning P types funs rho inside t v = (e : ℕ) × MeansOf P types funs rho inside (out-Term t) v e

-- terms that mean vs, with some number of calls
abbrev pub HaveMeanings : Program → List Ty → List Fun → List Value → List Value → List Term → List Value → Type 0
HaveMeanings P types funs rho inside ts vs = (e : ℕ) × MeanAll P types funs rho inside ts vs e

module _ (P : Program) (types : List Ty) (funs : List Fun) (rho inside : List Value) where
  -- a constructor, a call and a match mean what their layers mean
  pub layer_means : (t : Term) (y : Term-F Term) (v : Value) (c : ℕ) → out-Term t ≡ y → MeansOf P types funs rho inside y v c → HasMeaning P types funs rho inside t v
  layer_means t y v c e means = (c, subst (λ z. MeansOf P types funs rho inside z v c) (sym e) means)

  pub same_term : (s t : Term) (v : Value) → s ≡ t → HasMeaning P types funs rho inside s v → HasMeaning P types funs rho inside t v
  same_term s t v e m = (m.0, subst (λ x. MeansOf P types funs rho inside (out-Term x) v m.0) e m.1)

module _ (P : Program) (types : List Ty) (funs : List Fun) (rho later : List Value) (variable : ℕ) (by : Term) (u : Value) (at : slice_get rho variable ≡ Some u) (means_u : (inside : List Value) → HasMeaning P types funs (rho ++ later) inside by u) where
  -- a layer with the term put in
  abbrev put_of : Term-F Term → Term
  put_of y = put_step variable by (map-Term Term Term (term_put variable by) y)

  put_of_out : (t : Term) → put_of (out-Term t) ≡ term_put variable by t
  put_of_out t = sym (fold-roll-Term Term (put_step variable by) (out-Term t)) ∙ ap (term_put variable by) (roll-out-Term t)

  put_variable : (inside : List Value) (n : ℕ) (v : Value) → slice_get rho n ≡ Some v → HasMeaning P types funs (rho ++ later) inside (if n == variable then by else Free n) v
  put_variable inside n v e = by_test (n == variable) refl
    where
      by_test : (b : Bool) → (n == variable) ≡ b → HasMeaning P types funs (rho ++ later) inside (if b then by else Free n) v
      by_test true same =
          let is : n ≡ variable = eqb-true n variable same in
          let there : slice_get rho variable ≡ Some v = subst (λ m. slice_get rho m ≡ Some v) is e in
          let values : u ≡ v = same_Some u v (sym at ∙ there) in
          subst (λ w. HasMeaning P types funs (rho ++ later) inside by w) values (means_u inside)
      by_test false other = layer_means P types funs (rho ++ later) inside (Free n) (Term-F.Free n) v 0 (outs-Free n) (free (slice_get_longer rho later n v e))

  moved : (inside : List Value) (t : Term) (v : Value) → HasMeaning P types funs (rho ++ later) inside (put_of (out-Term t)) v → HasMeaning P types funs (rho ++ later) inside (term_put variable by t) v
  moved inside t v m = same_term P types funs (rho ++ later) inside (put_of (out-Term t)) (term_put variable by t) v (put_of_out t) m

  mutual
    putting : (inside : List Value) (y : Term-F Term) (v : Value) (c : ℕ) → MeansOf P types funs rho inside y v c → HasMeaning P types funs (rho ++ later) inside (put_of y) v
    putting inside _ v _ (free {n = n} e) = put_variable inside n v e
    putting inside _ v _ (bound {n = n} e) = layer_means P types funs (rho ++ later) inside (Bound n) (Term-F.Bound n) v 0 (outs-Bound n) (bound e)
    putting inside _ v _ (lit {w = w} e) = layer_means P types funs (rho ++ later) inside (Lit w) (Term-F.Lit w) v 0 (outs-Lit w) (lit e)
    putting inside _ v c (con {d = d} {k = k} {ts = ts} {fields = fields} {vs = vs} all e) =
        let m = putting_all inside fields vs c all in
        layer_means P types funs (rho ++ later) inside (Con d k ts (map (term_put variable by) fields)) (Term-F.Con d k ts (map (term_put variable by) fields)) v m.0 (outs-Con d k ts (map (term_put variable by) fields)) (con m.1 e)
    putting inside _ v c (choose {on = on} {d = d} {ts = ts} {arms = arms} {u = w} {arm = arm} {vs = vs} {a = a} {b = b} scrutinee chosen_is means e) =
        let m = moved inside on w (putting inside (out-Term on) w a scrutinee) in
        let n = moved (bind vs inside) arm v (putting (bind vs inside) (out-Term arm) v b means) in
        layer_means P types funs (rho ++ later) inside (Match (term_put variable by on) d ts (map (term_put variable by) arms)) (Term-F.Match (term_put variable by on) d ts (map (term_put variable by) arms)) v (m.0 + n.0) (outs-Match (term_put variable by on) d ts (map (term_put variable by) arms)) (choose m.1 (chosen_map (term_put variable by) arms (out-Value w) arm vs chosen_is) n.1 refl)
    putting inside _ v c (call {f = f} {fs = fs} {args = args} {vs = vs} {a = a} {b = b} all function functions gives e) =
        let m = putting_all inside args vs a all in
        layer_means P types funs (rho ++ later) inside (Call f fs (map (term_put variable by) args)) (Term-F.Call f fs (map (term_put variable by) args)) v (m.0 + b) (outs-Call f fs (map (term_put variable by) args)) (call m.1 function functions gives refl)

    putting_all : (inside : List Value) (ts : List Term) (vs : List Value) (c : ℕ) → MeanAll P types funs rho inside ts vs c → HaveMeanings P types funs (rho ++ later) inside (map (term_put variable by) ts) vs
    putting_all inside _ _ _ none = (0, none)
    putting_all inside _ _ c (more {t = t} {ts = ts} {v = v} {vs = vs} {a = a} {b = b} means all e) =
        let m = moved inside t v (putting inside (out-Term t) v a means) in
        let n = putting_all inside ts vs b all in
        (m.0 + n.0, more m.1 n.1 refl)

-- where a variable and a term have one value, each term keeps its value when the term is put in for the variable
pub put_keeps : (P : Program) (types : List Ty) (funs : List Fun) (rho later : List Value) (variable : ℕ) (by : Term) (u : Value) → slice_get rho variable ≡ Some u → ((inside : List Value) → (e : ℕ) × MeansOf P types funs (rho ++ later) inside (out-Term by) u e) → (inside : List Value) (t : Term) (v : Value) (c : ℕ) → MeansOf P types funs rho inside (out-Term t) v c → (e : ℕ) × MeansOf P types funs (rho ++ later) inside (out-Term (term_put variable by t)) v e
put_keeps P types funs rho later variable by u at means_u inside t v c means = moved P types funs rho later variable by u at means_u inside t v (putting P types funs rho later variable by u at means_u inside (out-Term t) v c means)
