-- The meaning of an instance is the meaning under the types, functions and values that are put in.
use Rattle.std.proofs.Common.{◌≡◌, ℕ, zero, suc, ◌+◌, List, [], ◌∷◌, map, length, Option, Some, None, slice_get, option_map, unwrap_or, refl, sym, ap, ◌∙◌}
use Rattle.std.proofs.Common.{subst}
use Rattle.std.proofs.lemmas.Option.{none-some, same_Some}
use Rattle.px_terms.specs.declared.types.Ty.{Ty}
use Rattle.px_terms.specs.declared.types.FnType.{FnType}
use Rattle.px_terms.specs.declared.types.Fun.{Fun}
use Rattle.px_terms.specs.Head.TheVariants.{Def, FnVar}
use Rattle.px_terms.specs.declared.term.Term.{Term, out-Term}
use Rattle.px_terms.specs.declared.term.Term.TheViews.{roll-out-Term}
use Rattle.px_terms.specs.declared.term.Term.TheVariants.{Free, Bound, Lit, Con, Call, Match, outs-Bound, outs-Lit, outs-Con, outs-Call, outs-Match}
use Rattle.px_terms.specs.declared.term.Term.TheOpen.{Term-F}
use Rattle.px_terms.specs.declared.term.Term.TheFolds.{map-Term, fold-roll-Term}
use Rattle.px_terms.specs.declared.term.Value.{Value, out-Value}
use Rattle.px_terms.specs.declared.term.Value.TheOpen.{Value-F}
use Rattle.px_terms.specs.declared.clause.Sigma.{Sigma}
use Rattle.px_terms.specs.declared.program.ConDef.{ConDef}
use Rattle.px_terms.specs.declared.program.Program.{Program}
use Rattle.px_terms.specs.declared.sequent.Context.{Context}
use Rattle.px_terms.specs.Types.{tys_instance, fun_instance, fun_with_types}
use Rattle.px_terms.specs.Terms.{instance_step, term_instance}
use Rattle.px_terms.specs.Meaning.{FunMeans, FunsMean, MeansOf, MeanAll, bound, lit, con, choose, call, none, more, chosen, bind}
use Rattle.px_terms.specs.Typing.{Place, AreTypes, IsFunction, AreArguments, HasTypeLayer, HaveTypes, HaveTypesInArms}
use Rattle.px_terms.specs.Typing as typing
use Rattle.px_totality.proofs.Instances.{instances_twice}
use Rattle.px_totality.proofs.Unique.{rests_on, all_rest_on, OfCon, OfMatch, OfCall, OfMore}
use Rattle.px_soundness.proofs.Forward.{HasMeaning, HaveMeanings, layer_means, same_term, under_any, chosen_map}

-- the function at the place of what it stands for
function_at_value : (types : List Ty) (funs fs gs : List Fun) (n : ℕ) (g : Fun) → FunsMean types funs fs gs → slice_get gs n ≡ Some g →
    (f : Fun) × (slice_get fs n ≡ Some f) × FunMeans types funs f g
function_at_value types funs [] [] n g mean at = absurd (none-some g at)
function_at_value types funs [] (h ∷ gs) n g mean at = absurd mean
function_at_value types funs (f ∷ fs) [] n g mean at = absurd mean
function_at_value types funs (f ∷ fs) (h ∷ gs) zero g mean at = (f, refl, subst (FunMeans types funs f) (same_Some h g at) mean.0)
function_at_value types funs (f ∷ fs) (h ∷ gs) (suc n) g mean at = function_at_value types funs fs gs n g mean.1 at

-- the term at the place of a value has that value
pub value_at : (P : Program) (types : List Ty) (funs : List Fun) (rho inside : List Value) (ts : List Term) (vs : List Value) (c n : ℕ) (v : Value) →
    MeanAll P types funs rho inside ts vs c → slice_get vs n ≡ Some v → (t : Term) × (slice_get ts n ≡ Some t) × HasMeaning P types funs rho inside t v
value_at P types funs rho inside _ _ _ n v none e = absurd (none-some v e)
value_at P types funs rho inside _ _ c zero v (more {t = t} {v = w} {a = a} means all sum) e =
    (t, refl, (a, subst (λ x. MeansOf P types funs rho inside (out-Term t) x a) (same_Some w v e) means))
value_at P types funs rho inside _ _ c (suc n) v (more {ts = ts} {vs = vs} {b = b} means all sum) e =
    value_at P types funs rho inside ts vs b n v all e

-- What is chosen of a match's arms: an arm by its number.
pub record IsArm (arms : List Term) (arm : Term) : Type 0 where
  pub number : ℕ
  pub at : slice_get arms number ≡ Some arm

pub chosen_is_arm : (arms : List Term) (layer : Value-F Value) (arm : Term) (vs : List Value) → chosen arms layer ≡ Some (arm, vs) → IsArm arms arm
chosen_is_arm arms (Value-F.Lit w) arm vs e = absurd (none-some (arm, vs) e)
chosen_is_arm arms (Value-F.Con d k fields) arm vs e = by_item (slice_get arms k) refl e
  where
    by_item : (o : Option Term) → slice_get arms k ≡ o → option_map {U = Term × List Value} (λ (t : Term). (t, fields)) o ≡ Some (arm, vs) → IsArm arms arm
    by_item None is e = absurd (none-some (arm, vs) e)
    by_item (Some t) is e =
        let pair : (t, fields) ≡ (arm, vs) = same_Some (t, fields) (arm, vs) e in
        let same : t ≡ arm = ap (λ (p : Term × List Value). p.0) pair in
        record { number = k; at = is ∙ ap (λ (x : Term). Some x) same }

-- What a function of this context stands for inside, its instance stands for outside.
pub record FunctionsStand (Q : Program) (context : Context) (types inner : List Ty) (funs gs : List Fun) (sigma : Sigma) : Type 0 where
  pub at : (f : Fun) (takes : List FnType) (params : List Ty) (T : Ty) → IsFunction Q context f takes params T → (g : Fun) → FunMeans inner gs f g →
      FunMeans types funs (fun_instance sigma.types sigma.funs f) g

-- what was put in: types and functions, as they stand inside and outside, and terms with their values
module _ (Q : Program) (place : Place) (context : Context) (types : List Ty) (funs : List Fun) (rho : List Value) (sigma : Sigma) (inner : List Ty)
    (gs : List Fun) (stand : FunctionsStand Q context types inner funs gs sigma) (vs : List Value) (a : ℕ)
    (all : MeanAll Q types funs rho [] sigma.terms vs a) where
  funs_kept : {fs : List Fun} {takes : List FnType} → AreArguments Q place context fs takes → (hs : List Fun) → FunsMean inner gs fs hs →
      FunsMean types funs (map (fun_instance sigma.types sigma.funs) fs) hs
  funs_kept typing.none [] mean = tt
  funs_kept typing.none (h ∷ hs) mean = absurd mean
  funs_kept (typing.more is are) [] mean = absurd mean
  funs_kept (typing.more {f = f} {wanted = wanted} is are) (h ∷ hs) mean =
      (stand.at f [] wanted.params wanted.result is.function h mean.0, funs_kept are hs mean.1)

  -- a layer with the terms put in
  abbrev instance_of : Term-F Term → Term
  instance_of y = instance_step sigma (map-Term Term Term (term_instance sigma) y)

  instance_of_out : (t : Term) → instance_of (out-Term t) ≡ term_instance sigma t
  instance_of_out t = sym (fold-roll-Term Term (instance_step sigma) (out-Term t)) ∙ ap (term_instance sigma) (roll-out-Term t)

  moved : (inside : List Value) (t : Term) (v : Value) → HasMeaning Q types funs rho inside (instance_of (out-Term t)) v →
      HasMeaning Q types funs rho inside (term_instance sigma t) v
  moved inside t v m = same_term Q types funs rho inside (instance_of (out-Term t)) (term_instance sigma t) v (instance_of_out t) m

  variable_kept : (inside : List Value) (n : ℕ) (v : Value) → slice_get vs n ≡ Some v →
      HasMeaning Q types funs rho inside (unwrap_or (slice_get sigma.terms n) (Free n)) v
  variable_kept inside n v e =
      let found = value_at Q types funs rho [] sigma.terms vs a n v all e in
      let is : found.0 ≡ unwrap_or (slice_get sigma.terms n) (Free n) = sym (ap (λ o. unwrap_or o (Free n)) found.1) in
      same_term Q types funs rho inside found.0 (unwrap_or (slice_get sigma.terms n) (Free n)) v is
      (found.2.0, under_any Q types funs rho inside (out-Term found.0) v found.2.0 found.2.1)

  mutual
    kept : {around : List Ty} {y : Term-F Term} {T : Ty} → HasTypeLayer Q place context around y T → (inside : List Value) (v : Value) (c : ℕ) →
        MeansOf Q inner gs vs inside y v c → HasMeaning Q types funs rho inside (instance_of y) v
    kept (typing.free {n = n} at met) inside v c means =
        let on = rests_on Q inner gs vs inside (Term-F.Free n) v c means in
        variable_kept inside n v on.0
    kept (typing.bound {n = n} at met) inside v c means =
        let on = rests_on Q inner gs vs inside (Term-F.Bound n) v c means in
        layer_means Q types funs rho inside (Bound n) (Term-F.Bound n) v 0 (outs-Bound n) (bound on.0)
    kept (typing.lit {w = w} small e) inside v c means =
        let on = rests_on Q inner gs vs inside (Term-F.Lit w) v c means in
        layer_means Q types funs rho inside (Lit w) (Term-F.Lit w) v 0 (outs-Lit w) (lit on.0)
    kept (typing.con {d = d} {k = k} {types = ts} {fields = fields} found is e met have) inside v c means =
        let on : OfCon Q inner gs vs inside d k fields v c = rests_on Q inner gs vs inside (Term-F.Con d k ts fields) v c means in
        let there : HaveMeanings Q types funs rho inside (map (term_instance sigma) fields) on.vs = all_kept have inside on.vs c on.all in
        layer_means Q types funs rho inside (Con d k (tys_instance sigma.types ts) (map (term_instance sigma) fields))
        (Term-F.Con d k (tys_instance sigma.types ts) (map (term_instance sigma) fields)) v there.0
        (outs-Con d k (tys_instance sigma.types ts) (map (term_instance sigma) fields)) (con there.1 on.is)
    kept (typing.call {f = f} {funs = fs} {args = args} {takes = takes} {params = params} {T = T} function may small met passed have) inside v c means =
        let on : OfCall Q inner gs vs inside f fs args v c = rests_on Q inner gs vs inside (Term-F.Call f fs args) v c means in
        let there : HaveMeanings Q types funs rho inside (map (term_instance sigma) args) on.vs = all_kept have inside on.vs on.a on.all in
        let g : Fun = fun_instance sigma.types sigma.funs f in
        let hs : List Fun = map (fun_instance sigma.types sigma.funs) fs in
        layer_means Q types funs rho inside (Call g hs (map (term_instance sigma) args)) (Term-F.Call g hs (map (term_instance sigma) args)) v
        (there.0 + on.b)
        (outs-Call g hs (map (term_instance sigma) args))
        (call there.1 (stand.at f takes params T function on.g on.fun_means) (funs_kept passed on.gs on.funs_mean) on.gives refl)
    kept (typing.choose {on = on} {d = d} {types = ts} {arms = arms} scrutinee is found arms_typed) inside v c means =
        let rest : OfMatch Q inner gs vs inside on arms v c = rests_on Q inner gs vs inside (Term-F.Match on d ts arms) v c means in
        let m : HasMeaning Q types funs rho inside (term_instance sigma on) rest.u =
        moved inside on rest.u (kept scrutinee inside rest.u rest.a rest.on_means) in
        let arm : IsArm arms rest.arm = chosen_is_arm arms (out-Value rest.u) rest.arm rest.vs rest.chooses in
        let n : HasMeaning Q types funs rho (bind rest.vs inside) (term_instance sigma rest.arm) v =
        arm_kept arms_typed arm.number rest.arm arm.at (bind rest.vs inside) v rest.b rest.arm_means in
        layer_means Q types funs rho inside (Match (term_instance sigma on) d (tys_instance sigma.types ts) (map (term_instance sigma) arms))
        (Term-F.Match (term_instance sigma on) d (tys_instance sigma.types ts) (map (term_instance sigma) arms)) v (m.0 + n.0)
        (outs-Match (term_instance sigma on) d (tys_instance sigma.types ts) (map (term_instance sigma) arms))
        (choose m.1 (chosen_map (term_instance sigma) arms (out-Value rest.u) rest.arm rest.vs rest.chooses) n.1 refl)

    all_kept : {around : List Ty} {ts : List Term} {Ts : List Ty} → HaveTypes Q place context around ts Ts → (inside ws : List Value) (c : ℕ) →
        MeanAll Q inner gs vs inside ts ws c → HaveMeanings Q types funs rho inside (map (term_instance sigma) ts) ws
    all_kept typing.none inside ws c mean =
        let on = all_rest_on Q inner gs vs inside [] ws c mean in
        (0, subst (λ (ws : List Value). MeanAll Q types funs rho inside [] ws 0) (sym on.0) none)
    all_kept (typing.more {t = t} {ts = ts} has have) inside ws c mean =
        let on : OfMore Q inner gs vs inside t ts ws c = all_rest_on Q inner gs vs inside (t ∷ ts) ws c mean in
        let first : HasMeaning Q types funs rho inside (term_instance sigma t) on.v = moved inside t on.v (kept has inside on.v on.a on.means) in
        let others : HaveMeanings Q types funs rho inside (map (term_instance sigma) ts) on.vs = all_kept have inside on.vs on.b on.mean in (
          first.0 + others.0,
          subst (λ (ws : List Value). MeanAll Q types funs rho inside (map (term_instance sigma) (t ∷ ts)) ws (first.0 + others.0)) (sym on.is)
              (more first.1 others.1 refl),
        )

    arm_kept : {around ts : List Ty} {cs : List ConDef} {arms : List Term} {T : Ty} → HaveTypesInArms Q place context around ts cs arms T → (n : ℕ)
        (arm : Term) → slice_get arms n ≡ Some arm → (inside : List Value) (v : Value) (c : ℕ) → MeansOf Q inner gs vs inside (out-Term arm) v c →
        HasMeaning Q types funs rho inside (term_instance sigma arm) v
    arm_kept typing.no_arm n arm at inside v c means = absurd (none-some arm at)
    arm_kept (typing.arm {body = body} met has have) zero arm at inside v c means =
        let same : body ≡ arm = same_Some body arm at in
        let here : MeansOf Q inner gs vs inside (out-Term body) v c =
        subst (λ (t : Term). MeansOf Q inner gs vs inside (out-Term t) v c) (sym same) means in
        same_term Q types funs rho inside (term_instance sigma body) (term_instance sigma arm) v (ap (term_instance sigma) same)
        (moved inside body v (kept has inside v c here))
    arm_kept (typing.arm met has have) (suc n) arm at inside v c means = arm_kept have n arm at inside v c means

  -- the instance of a typed term has the value that the term has under what is put in
  pub put_in_keeps : (t : Term) (T : Ty) → HasTypeLayer Q place context [] (out-Term t) T → (v : Value) (c : ℕ) →
      MeansOf Q inner gs vs [] (out-Term t) v c → HasMeaning Q types funs rho [] (term_instance sigma t) v
  put_in_keeps t T has v c means = moved [] t v (kept has [] v c means)

-- types and functions that are put in for all type and function variables of the context
module _ (Q : Program) (context : Context) (types : List Ty) (funs : List Fun) (sigma : Sigma) (long : length sigma.types ≡ context.tparams)
    (gs : List Fun) (mean : FunsMean types funs sigma.funs gs) where
  -- types put in twice are put in once
  twice : {ts : List Ty} → AreTypes Q context.tparams ts →
      tys_instance types (tys_instance sigma.types ts) ≡ tys_instance (tys_instance types sigma.types) ts
  twice {ts} are = instances_twice Q types sigma.types (subst (λ (k : ℕ). AreTypes Q k ts) (sym long) are)

  fun_kept : {f : Fun} {takes : List FnType} {params : List Ty} {T : Ty} → IsFunction Q context f takes params T → (g : Fun) →
      FunMeans (tys_instance types sigma.types) gs f g → FunMeans types funs (fun_instance sigma.types sigma.funs f) g
  fun_kept (typing.of_definition {n = n} {types = ts} found many are takes_are params_are result_is) g means =
      (λ i. Some (record { head = Def n; types = twice are i })) ∙ means
  fun_kept (typing.at_most is) g means = means
  fun_kept (typing.equal is) g means = means
  fun_kept (typing.of_variable {n = n} found params_are result_is) g means =
      let there = function_at_value types funs sigma.funs gs n g mean means in
      let other : Fun = fun_with_types sigma.types (record { head = FnVar n; types = [] }) in
      let is : there.0 ≡ unwrap_or (slice_get sigma.funs n) other = sym (ap (λ o. unwrap_or o other) there.1) in
      subst (λ (f : Fun). FunMeans types funs f g) is there.2

  -- what a function stands for inside is what its instance stands for outside
  pub functions_stand : FunctionsStand Q context types (tys_instance types sigma.types) funs gs sigma
  functions_stand = record { at = λ f takes params T function g means. fun_kept function g means }

-- the instance of a typed term has the value that the term has under the types and functions that are put in for all variables
pub instance_keeps : (Q : Program) (place : Place) (context : Context) (types : List Ty) (funs : List Fun) (rho : List Value) (sigma : Sigma) →
    length sigma.types ≡ context.tparams → (gs : List Fun) → FunsMean types funs sigma.funs gs → (vs : List Value) (a : ℕ) →
    MeanAll Q types funs rho [] sigma.terms vs a → (t : Term) (T : Ty) → HasTypeLayer Q place context [] (out-Term t) T → (v : Value) (c : ℕ) →
    MeansOf Q (tys_instance types sigma.types) gs vs [] (out-Term t) v c → HasMeaning Q types funs rho [] (term_instance sigma t) v
instance_keeps Q place context types funs rho sigma long gs mean vs a all t T has v c means =
    put_in_keeps Q place context types funs rho sigma (tys_instance types sigma.types) gs (functions_stand Q context types funs sigma long gs mean) vs a all
    t T has v c means
