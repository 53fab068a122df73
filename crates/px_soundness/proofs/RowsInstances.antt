-- What is put in keeps types: more variables, a term for one variable, and an instance of a clause.
use Rattle.std.proofs.Common.{◌≡◌, ◌≢◌, ℕ, zero, suc, ◌+◌, List, [], ◌∷◌, ◌++◌, map, length, Option, Some, slice_get, unwrap_or, Bool, true, false, ◌==◌}
use Rattle.std.proofs.Common.{refl, sym, ap, ◌∙◌, subst, subst₂, eqb-true, eq-eqb, true≢false, arith}
use Rattle.std.specs.Prelude.{if◌then◌else◌}
use Rattle.std.specs.Option.{IsSomeAnd, option_map}
use Rattle.std.proofs.lemmas.Option.{slice_get-map}
use Rattle.px_terms.specs.PropSets.{HasProp}
use Rattle.px_terms.specs.Head.{Head}
use Rattle.px_terms.specs.Head.TheVariants.{Def, Wle, Weq, FnVar}
use Rattle.px_terms.specs.declared.types.Ty.{Ty}
use Rattle.px_terms.specs.declared.types.FnType.{FnType}
use Rattle.px_terms.specs.declared.types.Fun.{Fun}
use Rattle.px_terms.specs.declared.term.Term.{Term, out-Term}
use Rattle.px_terms.specs.declared.term.Term.TheVariants as term
use Rattle.px_terms.specs.declared.term.Term.TheOpen.{Term-F}
use Rattle.px_terms.specs.declared.clause.Equation.{Equation}
use Rattle.px_terms.specs.declared.clause.Clause.{Clause}
use Rattle.px_terms.specs.declared.clause.Sigma.{Sigma}
use Rattle.px_terms.specs.declared.program.Program.{Program}
use Rattle.px_terms.specs.declared.sequent.Context.{Context}
use Rattle.px_terms.specs.Types.{numbers_from, ty_instance, tys_instance, fn_type_instance, fun_instance}
use Rattle.px_terms.specs.Terms.{term_instance, term_put}
use Rattle.px_terms.specs.TreeEquations.{term_instance-Free, term_instance-Bound, term_instance-Lit, term_instance-Con, term_instance-Call, term_instance-Match}
use Rattle.px_terms.specs.TreeEquations.{term_put-Free, term_put-Bound, term_put-Lit, term_put-Con, term_put-Call, term_put-Match}
use Rattle.px_terms.specs.Implied as implied
use Rattle.px_terms.specs.Typing.{Place, anywhere, behind, AreTypes, IsFunction, IsKnown, HasTypeLayer, HaveTypes, HasType, live}
use Rattle.px_terms.specs.Typing as typing
use Rattle.px_terms.specs.TypedPrograms.{IsTyped}
use Rattle.px_terms.specs.TypedSequents.{IsTypedContext, IsTypedEquation}
use Rattle.px_terms.specs.Noting.{IsOpenArgument, AreOpenArguments, FitsClause, equation_instance}
use Rattle.px_terms.specs.Noting as noting
use Rattle.px_totality.proofs.Instances.{nothing_is_some, one_item, instances_are_types}
use Rattle.px_totality.proofs.Applied.{nothing_put_in}
use Rattle.px_soundness.proofs.RowsChanges.{in_front, known_anywhere, put_function, IsChange, IsPut, PutsIn, term_changed}

-- a live variable has the type of its number
pub live_at : (types : List Ty) (n : ℕ) (T : Ty) → slice_get (live types) n ≡ Some (Some T) → slice_get types n ≡ Some T
live_at [] n T at = absurd (nothing_is_some (Some T) at)
live_at (S ∷ types) zero T at = one_item (Some S) (Some T) at
live_at (S ∷ types) (suc n) T at = live_at types n T at

pub live_there : (types : List Ty) (n : ℕ) (T : Ty) → slice_get types n ≡ Some T → slice_get (live types) n ≡ Some (Some T)
live_there types n T at = slice_get-map (λ (T : Ty). Some T) types n ∙ ap (option_map (λ (T : Ty). Some T)) at

-- a variable of the context has its type
pub free_has : (Q : Program) (context : Context) (n : ℕ) (T : Ty) → slice_get context.vars n ≡ Some (Some T) → HasType Q anywhere context (term.Free n) T
free_has Q context n T at = subst (λ (y : Term-F Term). HasTypeLayer Q anywhere context [] y T) (sym (term.outs-Free n)) (typing.free at tt)

-- behind the front stand the others
pub behind_front : {A : Type 0} (xs ys : List A) (n : ℕ) → slice_get (xs ++ ys) (length xs + n) ≡ slice_get ys n
behind_front [] ys n = let e : 0 + n ≡ n = omega arith in ap (slice_get ys) e
behind_front (x ∷ xs) ys n = let e : suc (length xs) + n ≡ suc (length xs + n) = omega arith in ap (slice_get (x ∷ xs ++ ys)) e ∙ behind_front xs ys n

-- the variables from a number on have their types, in front of terms that have theirs
pub frees_have : (Q : Program) (context : Context) (start : ℕ) (types : List Ty) (terms : List Term) (others : List Ty) →
    ((i : ℕ) (T : Ty) → slice_get types i ≡ Some T → slice_get context.vars (start + i) ≡ Some (Some T)) →
    HaveTypes Q anywhere context [] terms others →
    HaveTypes Q anywhere context [] (map (λ (i : ℕ). term.Free i) (numbers_from start (length types)) ++ terms) (types ++ others)
frees_have Q context start [] terms others stand have = have
frees_have Q context start (T ∷ types) terms others stand have =
    let none : start + 0 ≡ start = omega arith in
    let first : HasType Q anywhere context (term.Free start) T = free_has Q context start T (ap (slice_get context.vars) (sym none) ∙ stand 0 T refl) in
    typing.more first (frees_have Q context (start + 1) types terms others
    (λ i S at. let one : (start + 1) + i ≡ start + suc i = omega arith in ap (slice_get context.vars) one ∙ stand (suc i) S at) have)

-- where nothing is put in, a type stays as it is
pub type_stays : (T : Ty) → ty_instance [] T ≡ T
type_stays T = let e : ty_instance [] T ∷ [] ≡ T ∷ [] = nothing_put_in (T ∷ []) in cc

fun_stays_at : (h : Head) (types : List Ty) → fun_instance [] [] (record { head = h; types = types }) ≡ record { head = h; types = types }
fun_stays_at (Def n) types = let e : tys_instance [] types ≡ types = nothing_put_in types in λ i. record { head = Def n; types = e i }
fun_stays_at Wle types = let e : tys_instance [] types ≡ types = nothing_put_in types in λ i. record { head = Wle; types = e i }
fun_stays_at Weq types = let e : tys_instance [] types ≡ types = nothing_put_in types in λ i. record { head = Weq; types = e i }
fun_stays_at (FnVar m) types = let e : tys_instance [] types ≡ types = nothing_put_in types in λ i. record { head = FnVar m; types = e i }

-- so does a function
pub fun_stays : (f : Fun) → fun_instance [] [] f ≡ f
fun_stays f = fun_stays_at f.head f.types

pub funs_stay : (fs : List Fun) → map (fun_instance [] []) fs ≡ fs
funs_stay [] = refl
funs_stay (f ∷ fs) = let first : fun_instance [] [] f ≡ f = fun_stays f in let others = funs_stay fs in λ i. first i ∷ others i

same_terms : (ts : List Term) → map (λ (t : Term). t) ts ≡ ts
same_terms [] = refl
same_terms (t ∷ ts) = ap (λ (us : List Term). t ∷ us) (same_terms ts)

-- no change is one
nothing_changed : IsChange [] [] (λ (t : Term). t)
nothing_changed = record {
  on_bound = λ n. refl;
  on_lit = λ w. refl;
  on_con = λ d k types fields. λ i. term.Con d k (sym (nothing_put_in types) i) (sym (same_terms fields) i);
  on_call = λ f funs args. λ i. term.Call (sym (fun_stays f) i) (sym (funs_stay funs) i) (sym (same_terms args) i);
  on_match = λ on d types arms. λ i. term.Match on d (sym (nothing_put_in types) i) (sym (same_terms arms) i);
}

-- to put in a term for one variable is one
variable_changed : (v : ℕ) (by : Term) → IsChange [] [] (term_put v by)
variable_changed v by = record {
  on_bound = λ n. term_put-Bound v by n;
  on_lit = λ w. term_put-Lit v by w;
  on_con = λ d k types fields. term_put-Con v by d k types fields
      ∙ ap (λ (types : List Ty). term.Con d k types (map (term_put v by) fields)) (sym (nothing_put_in types));
  on_call = λ f funs args. term_put-Call v by f funs args
      ∙ (λ i. term.Call (sym (fun_stays f) i) (sym (funs_stay funs) i) (map (term_put v by) args));
  on_match = λ on d types arms. term_put-Match v by on d types arms
      ∙ ap (λ (types : List Ty). term.Match (term_put v by on) d types (map (term_put v by) arms)) (sym (nothing_put_in types));
}

-- an instance is one
instance_changed : (sigma : Sigma) → IsChange sigma.types sigma.funs (term_instance sigma)
instance_changed sigma = record {
  on_bound = λ n. term_instance-Bound sigma n;
  on_lit = λ w. term_instance-Lit sigma w;
  on_con = λ d k types fields. term_instance-Con sigma d k types fields;
  on_call = λ f funs args. term_instance-Call sigma f funs args;
  on_match = λ on d types arms. term_instance-Match sigma on d types arms;
}

-- where the contexts have the same type and function variables, these stand for themselves
puts_no_types : (Q : Program) (old new : Context) (op : Term → Term) → IsChange [] [] op → new.tparams ≡ old.tparams → new.funs ≡ old.funs →
    ((n : ℕ) (T : Ty) → slice_get old.vars n ≡ Some (Some T) → HasType Q anywhere new (op (term.Free n)) T) → PutsIn Q old new [] [] op
puts_no_types Q old new op change tparams funs frees = record {
  change = change;
  types = λ types are. subst₂ (AreTypes Q) (sym tparams) (sym (nothing_put_in types)) are;
  funs = function;
  frees = λ n T at. subst (HasType Q anywhere new (op (term.Free n))) (sym (type_stays T)) (frees n T at);
}
  where
    function : (i : ℕ) (F : FnType) → slice_get old.funs i ≡ Some F → IsPut Q new [] (put_function [] i) F
    function i F found =
        let there : slice_get new.funs i ≡ Some F = ap (λ (Fs : List FnType). slice_get Fs i) funs ∙ found in
        record {
          function = typing.of_variable {F = F} there (nothing_put_in F.params) (type_stays F.result);
          known = λ p has. implied.known (subst (λ (o : Option FnType). IsSomeAnd o (λ (F : FnType). HasProp F.props p)) (sym there) has);
        }

-- a change that puts in no types keeps the types of terms
pub kept_by : (Q : Program) → IsTyped Q → (place : Place) (old new : Context) → IsTypedContext Q old → (op : Term → Term) → IsChange [] [] op →
    new.tparams ≡ old.tparams → new.funs ≡ old.funs →
    ((n : ℕ) (T : Ty) → slice_get old.vars n ≡ Some (Some T) → HasType Q anywhere new (op (term.Free n)) T) → (t : Term) (T : Ty) →
    HasType Q place old t T → HasType Q anywhere new (op t) T
kept_by Q typed place old new is_context op change tparams funs frees t T has =
    subst (HasType Q anywhere new (op t)) (type_stays T)
    (term_changed Q typed place old new is_context [] [] op (puts_no_types Q old new op change tparams funs frees) t T has)

-- what is typed at a place is typed anywhere
pub typed_anywhere : (Q : Program) → IsTyped Q → (place : Place) (context : Context) → IsTypedContext Q context → (t : Term) (T : Ty) →
    HasType Q place context t T → HasType Q anywhere context t T
typed_anywhere Q typed place context is_context t T has =
    kept_by Q typed place context context is_context (λ (t : Term). t) nothing_changed refl refl (free_has Q context) t T has

-- the context with more variables
abbrev pub with_more : Context → List (Option Ty) → Context
with_more context more = record { tparams = context.tparams; funs = context.funs; vars = context.vars ++ more }

-- more variables keep the types of terms
pub weakened : (Q : Program) → IsTyped Q → (context : Context) → IsTypedContext Q context → (more : List (Option Ty)) (t : Term) (T : Ty) →
    HasType Q anywhere context t T → HasType Q anywhere (with_more context more) t T
weakened Q typed context is_context more t T has =
    kept_by Q typed anywhere context (with_more context more) is_context (λ (t : Term). t) nothing_changed refl refl
    (λ n T at. free_has Q (with_more context more) n T (in_front context.vars more n (Some T) at)) t T has

-- a term of its type put in for a variable keeps the types of terms; the other variables keep theirs
pub put_keeps : (Q : Program) → IsTyped Q → (old new : Context) → IsTypedContext Q old → new.tparams ≡ old.tparams → new.funs ≡ old.funs →
    (v : ℕ) (by : Term) → ((T : Ty) → slice_get old.vars v ≡ Some (Some T) → HasType Q anywhere new by T) →
    ((n : ℕ) (T : Ty) → n ≢ v → slice_get old.vars n ≡ Some (Some T) → slice_get new.vars n ≡ Some (Some T)) →
    (t : Term) (T : Ty) → HasType Q anywhere old t T → HasType Q anywhere new (term_put v by t) T
put_keeps Q typed old new is_context tparams funs v by is others t T has =
    kept_by Q typed anywhere old new is_context (term_put v by) (variable_changed v by) tparams funs variable t T has
  where
    variable : (n : ℕ) (T : Ty) → slice_get old.vars n ≡ Some (Some T) → HasType Q anywhere new (term_put v by (term.Free n)) T
    variable n T at = go (n == v) refl
      where
        go : (b : Bool) → (n == v) ≡ b → HasType Q anywhere new (term_put v by (term.Free n)) T
        go true e =
            let same : n ≡ v = eqb-true n v e in
            let put : term_put v by (term.Free n) ≡ by = term_put-Free v by n ∙ ap (λ (b : Bool). if b then by else term.Free n) e in
            subst (λ (t : Term). HasType Q anywhere new t T) (sym put) (is T (ap (slice_get old.vars) (sym same) ∙ at))
        go false e =
            let put : term_put v by (term.Free n) ≡ term.Free n = term_put-Free v by n ∙ ap (λ (b : Bool). if b then by else term.Free n) e in
            subst (λ (t : Term). HasType Q anywhere new t T) (sym put)
            (free_has Q new n T (others n T (λ same. let wrong : (n == v) ≡ true = eq-eqb n v same in absurd (true≢false (sym wrong ∙ e))) at))

-- A term of this number, of this type.
record TermAt (Q : Program) (context : Context) (bound : List Ty) (terms : List Term) (n : ℕ) (T : Ty) : Type 0 where
  t : Term
  at : slice_get terms n ≡ Some t
  has : HasTypeLayer Q anywhere context bound (out-Term t) T

term_at : (Q : Program) (context : Context) {bound : List Ty} {terms : List Term} {types : List Ty} → (n : ℕ) (T : Ty) →
    HaveTypes Q anywhere context bound terms types → slice_get types n ≡ Some T → TermAt Q context bound terms n T
term_at Q context n T typing.none at = absurd (nothing_is_some T at)
term_at Q context {bound} zero T (typing.more {t = t} {T = S} first others) at =
    record { t = t; at = refl; has = subst (HasTypeLayer Q anywhere context bound (out-Term t)) (one_item S T at) first }
term_at Q context {bound} (suc n) T (typing.more {ts = ts} first others) at =
    let it : TermAt Q context bound ts n T = term_at Q context n T others at in
    record { t = it.t; at = it.at; has = it.has }

-- A function of this number, that may stand for a function variable of this type.
record OpenAt (Q : Program) (n : ℕ) (context : Context) (gs : List Fun) (i : ℕ) (F : FnType) : Type 0 where
  g : Fun
  at : slice_get gs i ≡ Some g
  is : IsOpenArgument Q n context g F

open_at : (Q : Program) (n : ℕ) (context : Context) {gs : List Fun} {Fs : List FnType} → (i : ℕ) (F : FnType) → AreOpenArguments Q n context gs Fs →
    slice_get Fs i ≡ Some F → OpenAt Q n context gs i F
open_at Q n context i F noting.none at = absurd (nothing_is_some F at)
open_at Q n context zero F (noting.more {f = g} {wanted = G} first others) at =
    record { g = g; at = refl; is = subst (IsOpenArgument Q n context g) (one_item G F at) first }
open_at Q n context (suc i) F (noting.more {fs = gs} first others) at =
    let it : OpenAt Q n context gs i F = open_at Q n context i F others at in
    record { g = it.g; at = it.at; is = it.is }

-- the context of a clause that is closed but for its own variables
abbrev pub clause_alone : Clause → Context
clause_alone clause = record { tparams = clause.tparams; funs = clause.funs; vars = live clause.vars }

-- What is put in fits a clause.
module _ (Q : Program) (n : ℕ) (context : Context) (clause : Clause) (sigma : Sigma) (fits : FitsClause Q n context clause sigma) where
  -- what is put in for a variable of the clause has the variable's type
  variable_put : (i : ℕ) (T : Ty) → slice_get (live clause.vars) i ≡ Some (Some T) →
      HasType Q anywhere context (term_instance sigma (term.Free i)) (ty_instance sigma.types T)
  variable_put i T at =
      let there : slice_get (tys_instance sigma.types clause.vars) i ≡ Some (ty_instance sigma.types T) =
      slice_get-map (ty_instance sigma.types) clause.vars i ∙ ap (option_map (ty_instance sigma.types)) (live_at clause.vars i T at) in
      let it : TermAt Q context [] sigma.terms i (ty_instance sigma.types T) = term_at Q context i (ty_instance sigma.types T) fits.terms there in
      let put : term_instance sigma (term.Free i) ≡ it.t = term_instance-Free sigma i ∙ ap (λ (o : Option Term). unwrap_or o (term.Free i)) it.at in
      subst (λ (t : Term). HasType Q anywhere context t (ty_instance sigma.types T)) (sym put) it.has

  function_put : (i : ℕ) (F : FnType) → slice_get clause.funs i ≡ Some F → IsPut Q context sigma.types (put_function sigma.funs i) F
  function_put i F found =
      let there : slice_get (map (fn_type_instance sigma.types) clause.funs) i ≡ Some (fn_type_instance sigma.types F) =
      slice_get-map (fn_type_instance sigma.types) clause.funs i ∙ ap (option_map (fn_type_instance sigma.types)) found in
      let it : OpenAt Q n context sigma.funs i (fn_type_instance sigma.types F) = open_at Q n context i (fn_type_instance sigma.types F) fits.funs there in
      let put : put_function sigma.funs i ≡ it.g = ap (λ (o : Option Fun). unwrap_or o (record { head = FnVar i; types = [] })) it.at in
      subst (λ (g : Fun). IsPut Q context sigma.types g F) (sym put)
      (record { function = it.is.function; known = λ p has. known_anywhere Q (behind n) context it.g.head (it.is.properties p has) })

  -- into a clause with type and function variables of its own
  pub puts_own : PutsIn Q (clause_alone clause) context sigma.types sigma.funs (term_instance sigma)
  puts_own = record {
    change = instance_changed sigma;
    types = λ types are. instances_are_types Q context.tparams sigma.types fits.types (subst (λ (k : ℕ). AreTypes Q k types) (sym fits.count) are);
    funs = function_put;
    frees = variable_put;
  }

  -- into a clause that has none and names those of the context
  module _ (no_types : clause.tparams ≡ 0) (no_funs : clause.funs ≡ []) where
    none_long : (ts : List Ty) → length ts ≡ 0 → ts ≡ []
    none_long [] e = refl
    none_long (T ∷ ts) e = let wrong : ⊥ = cc in absurd wrong

    types_are : sigma.types ≡ []
    types_are = none_long sigma.types (fits.count ∙ no_types)

    none_open : {gs : List Fun} {Fs : List FnType} → AreOpenArguments Q n context gs Fs → Fs ≡ [] → gs ≡ []
    none_open noting.none e = refl
    none_open (noting.more first others) e = let wrong : ⊥ = cc in absurd wrong

    funs_are : sigma.funs ≡ []
    funs_are = none_open fits.funs (ap (map (fn_type_instance sigma.types)) no_funs)

    pub puts_nothing : (old : Context) → context.tparams ≡ old.tparams → context.funs ≡ old.funs → old.vars ≡ live clause.vars →
        PutsIn Q old context [] [] (term_instance sigma)
    puts_nothing old tparams funs vars =
        puts_no_types Q old context (term_instance sigma) (subst₂ (λ ts gs. IsChange ts gs (term_instance sigma)) types_are funs_are (instance_changed sigma))
        tparams funs (λ i T at. subst (HasType Q anywhere context (term_instance sigma (term.Free i)))
        (ap (λ (ts : List Ty). ty_instance ts T) types_are ∙ type_stays T) (variable_put i T (ap (λ vars. slice_get vars i) (sym vars) ∙ at)))

-- an instance of a typed equation is typed
pub equation_put_in : (Q : Program) → IsTyped Q → (old new : Context) → IsTypedContext Q old → (ts : List Ty) (gs : List Fun) (sigma : Sigma) →
    PutsIn Q old new ts gs (term_instance sigma) → (e : Equation) → IsTypedEquation Q old e → IsTypedEquation Q new (equation_instance sigma e)
equation_put_in Q typed old new is_context ts gs sigma puts e is = record {
  T = ty_instance ts is.T;
  left = term_changed Q typed anywhere old new is_context ts gs (term_instance sigma) puts e.left is.T is.left;
  right = term_changed Q typed anywhere old new is_context ts gs (term_instance sigma) puts e.right is.T is.right;
}
