-- What a clause's variables stand for when what is put in for them is read at types and functions.
use Rattle.std.proofs.Common.{◌≡◌, ℕ, suc, List, [], ◌∷◌, map, length, Some, slice_get, refl, sym, ap, ◌∙◌, subst, subst₂}
use Rattle.std.proofs.lemmas.List.{length-map}
use Rattle.px_terms.specs.Head.TheVariants.{Def}
use Rattle.px_terms.specs.declared.types.Ty.{Ty}
use Rattle.px_terms.specs.declared.types.FnType.{FnType}
use Rattle.px_terms.specs.declared.types.Fun.{Fun}
use Rattle.px_terms.specs.declared.term.Value.{Value}
use Rattle.px_terms.specs.declared.clause.Clause.{Clause}
use Rattle.px_terms.specs.declared.clause.Sigma.{Sigma}
use Rattle.px_terms.specs.declared.program.Program.{Program}
use Rattle.px_terms.specs.declared.sequent.Context.{Context}
use Rattle.px_terms.specs.Types.{ty_instance, tys_instance, fn_type_instance, fun_instance}
use Rattle.px_terms.specs.Values.{AreIn}
use Rattle.px_terms.specs.Values as values
use Rattle.px_terms.specs.Meaning.{FunMeans, FunsMean}
use Rattle.px_terms.specs.Typing.{IsType, AreTypes, IsFunction, live}
use Rattle.px_terms.specs.Typing as typing
use Rattle.px_terms.specs.Clauses.{functions_alone}
use Rattle.px_terms.specs.TypedSequents.{IsTypedContext}
use Rattle.px_terms.specs.Extending.{FitsFully, FunctionsFit, FitValues}
use Rattle.px_terms.specs.Extending as extending
use Rattle.px_totality.proofs.Instances.{instances_are_types, instances_twice, instance_twice}
use Rattle.px_totality.proofs.Applied.{nothing_put_in}
use Rattle.px_soundness.proofs.ValuesPutIn.{FunctionsStand, functions_stand}

-- the variables of a clause, over so many type variables and these function variables
abbrev pub around : ℕ → List FnType → Clause → Context
around tparams funs clause = record { tparams = tparams; funs = funs; vars = live clause.vars }

-- These inner types and functions stand for the variables around a clause, where what is put in is read at the outer ones.
pub record Reading (Q : Program) (types : List Ty) (funs : List Fun) (sigma : Sigma) (tparams : ℕ) (Fs : List FnType) (clause : Clause) (inner : List Ty)
    (gs : List Fun) : Type 0 where
  pub long : length inner ≡ tparams
  pub ground : AreTypes Q 0 inner
  pub fit : FunctionsFit Q inner Fs gs
  pub vars : tys_instance types (tys_instance sigma.types clause.vars) ≡ tys_instance inner clause.vars
  pub stand : FunctionsStand Q (around tparams Fs clause) types inner funs gs sigma

-- live variables' types are types
pub live_types : (Q : Program) (k : ℕ) (Ts : List Ty) → ((n : ℕ) (T : Ty) → slice_get (live Ts) n ≡ Some (Some T) → IsType Q k T) → AreTypes Q k Ts
live_types Q k [] are = typing.none
live_types Q k (T ∷ Ts) are = typing.more (are 0 T refl) (live_types Q k Ts (λ n U at. are (suc n) U at))

-- values of types fit live variables
pub live_fit : (Q : Program) (ts Ts : List Ty) (vs : List Value) → AreIn Q (tys_instance ts Ts) vs → FitValues Q ts (live Ts) vs
live_fit Q ts [] _ values.none = extending.none
live_fit Q ts (T ∷ Ts) _ (values.more {values = vs} first others) = extending.live first (live_fit Q ts Ts vs others)

-- and values that fit live variables are of their types
pub live_are_in : (Q : Program) (ts Ts : List Ty) (vs : List Value) → FitValues Q ts (live Ts) vs → AreIn Q (tys_instance ts Ts) vs
live_are_in Q ts [] _ extending.none = values.none
live_are_in Q ts (T ∷ Ts) _ (extending.live {rho = vs} first others) = values.more first (live_are_in Q ts Ts vs others)

-- functions that fit function types with types put in fit these at the types that are put in then
pub fit_instances : (Q : Program) (types ts : List Ty) (Fs : List FnType) (hs : List Fun) →
    ((i : ℕ) (F : FnType) → slice_get Fs i ≡ Some F → AreTypes Q (length ts) F.params × IsType Q (length ts) F.result) →
    FunctionsFit Q types (map (fn_type_instance ts) Fs) hs → FunctionsFit Q (tys_instance types ts) Fs hs
fit_instances Q types ts [] _ are extending.none = extending.none
fit_instances Q types ts (F ∷ Fs) _ are (extending.more {f = f} {fs = fs} first others) =
    let here : AreTypes Q (length ts) F.params × IsType Q (length ts) F.result = are 0 F refl in
    let inner : List Ty = tys_instance types ts in
    let fully : FitsFully Q inner F f = record {
      fits = record {
        function =
            subst₂ (IsFunction Q (functions_alone 0 []) f []) (instances_twice Q types ts here.0) (instance_twice Q types ts F.result here.1)
            first.fits.function;
      };
      has = first.has;
    } in
    extending.more fully (fit_instances Q types ts Fs fs (λ i G at. are (suc i) G at) others)

module _ (Q : Program) (types : List Ty) (ground : AreTypes Q 0 types) (funs : List Fun) (sigma : Sigma) where
  module _ (clause : Clause) (context : Context) (long : length types ≡ context.tparams) (are : AreTypes Q context.tparams sigma.types)
      (count : length sigma.types ≡ clause.tparams) (typed : IsTypedContext Q (around clause.tparams clause.funs clause)) where
    over : {Ts : List Ty} → AreTypes Q clause.tparams Ts → AreTypes Q (length sigma.types) Ts
    over {Ts} all = subst (λ (k : ℕ). AreTypes Q k Ts) (sym count) all

    -- functions that fit what the clause's function types become fit these
    pub clause_functions : (hs : List Fun) → FunctionsFit Q types (map (fn_type_instance sigma.types) clause.funs) hs →
        FunctionsFit Q (tys_instance types sigma.types) clause.funs hs
    clause_functions hs fit =
        fit_instances Q types sigma.types clause.funs hs
        (λ i F at. (over (typed.params i F at), subst (λ (k : ℕ). IsType Q k F.result) (sym count) (typed.results i F at))) fit

    -- a clause over variables of its own, for which types and functions are put in
    pub own_reading : (gs : List Fun) → FunsMean types funs sigma.funs gs → FunctionsFit Q (tys_instance types sigma.types) clause.funs gs →
        Reading Q types funs sigma clause.tparams clause.funs clause (tys_instance types sigma.types) gs
    own_reading gs mean fit = record {
      long = length-map sigma.types (ty_instance types) ∙ count;
      ground = instances_are_types Q 0 types ground (subst (λ (k : ℕ). AreTypes Q k sigma.types) (sym long) are);
      fit = fit;
      vars = instances_twice Q types sigma.types (over (live_types Q clause.tparams clause.vars typed.vars));
      stand = functions_stand Q (around clause.tparams clause.funs clause) types funs sigma count gs mean;
    }

  module _ (clause : Clause) (tparams : ℕ) (Fs : List FnType) (long : length types ≡ tparams) (fit : FunctionsFit Q types Fs funs)
      (no_types : sigma.types ≡ []) (no_funs : sigma.funs ≡ []) where
    same_stand : {f : Fun} {takes : List FnType} {params : List Ty} {T : Ty} → IsFunction Q (around tparams Fs clause) f takes params T → (g : Fun) →
        FunMeans types funs f g → FunMeans types funs (fun_instance [] [] f) g
    same_stand (typing.of_definition {n = n} {types = ts} found many are_types takes_are params_are result_is) g means =
        (λ i. Some (record { head = Def n; types = tys_instance types (nothing_put_in ts i) })) ∙ means
    same_stand (typing.at_most is) g means = means
    same_stand (typing.equal is) g means = means
    same_stand (typing.of_variable found params_are result_is) g means = means

    -- a clause that names the variables of the obligation at hand, for which nothing is put in
    pub outer_reading : Reading Q types funs sigma tparams Fs clause types funs
    outer_reading = record {
      long = long;
      ground = ground;
      fit = fit;
      vars = ap (λ (ts : List Ty). tys_instance types (tys_instance ts clause.vars)) no_types ∙ ap (tys_instance types) (nothing_put_in clause.vars);
      stand =
          record {
            at = λ f takes params T function g means.
                subst₂ (λ (ts : List Ty) (fs : List Fun). FunMeans types funs (fun_instance ts fs f) g) (sym no_types) (sym no_funs)
                (same_stand function g means);
          };
    }
