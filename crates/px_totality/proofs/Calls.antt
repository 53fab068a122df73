-- What calls give, and what functions that are passed stand for, under what is known of definitions.
use Rattle.std.proofs.Common.{◌≡◌, ℕ, ◌==◌, List, [], ◌∷◌, map, length, Some, slice_get, Bool, true, refl, sym, ap, ◌∙◌, subst}
use Rattle.std.proofs.Common.{subst₂, eq-eqb}
use Rattle.std.specs.Prelude.{if◌then◌else◌}
use Rattle.std.specs.List.{All}
use Rattle.std.proofs.lemmas.List.Elements.{All-head, All-tail}
use Rattle.px_terms.specs.declared.types.Ty.{Ty}
use Rattle.px_terms.specs.declared.types.Ty.TheVariants as type
use Rattle.px_terms.specs.declared.types.FnType.{FnType}
use Rattle.px_terms.specs.declared.types.Fun.{Fun}
use Rattle.px_terms.specs.Head.TheVariants.{Def, Wle, Weq}
use Rattle.px_terms.specs.declared.term.Value.{Value}
use Rattle.px_terms.specs.declared.program.Def as definition
use Rattle.px_terms.specs.declared.program.Program.{Program}
use Rattle.px_terms.specs.declared.sequent.Context.{Context}
use Rattle.px_terms.specs.Types.{ty_instance, tys_instance, fn_type_instance}
use Rattle.px_terms.specs.TreeEquations.{ty_instance-Word, ty_instance-Con}
use Rattle.px_terms.specs.Programs.{bool_type}
use Rattle.px_terms.specs.Values.{AreIn}
use Rattle.px_terms.specs.Meaning.{FunMeans, FunsMean}
use Rattle.px_terms.specs.Typing.{Place, AreTypes, IsFunction, MayCall, MayPass, IsArgument, AreArguments}
use Rattle.px_terms.specs.Typing as typing
use Rattle.px_terms.specs.TypedPrograms.{IsTyped, HasSignature, IsWrittenFnType}
use Rattle.px_terms.specs.Descent.{Standing, self_call}
use Rattle.px_totality.proofs.Instances.{written_types, instances_are_types, instances_twice, instance_twice}
use Rattle.px_totality.proofs.Sizes.{AllStand}
use Rattle.px_totality.proofs.Total.{GivesIn, IsTotal, AreTotal, TotalAt, total_at, none_given, two_words, at_most_gives, equal_gives}
use Rattle.px_totality.proofs.Total as total

-- What is known of definitions where a term stands, at these types put in and these values of the parameters: a call gives a value of
-- the result's type, where the calls of definition n are such as are looked for; and one that may be passed is total.
pub record CallsGive (Q : Program) (place : Place) (ts : List Ty) (rho : List Value) (n : ℕ) (Fits : List Standing → Type 0) : Type 0 where
  pub called : (m : ℕ) (D : definition.Def) (types : List Ty) (hs : List Fun) (args : List Standing) (vs : List Value) → slice_get Q.defs m ≡ Some D →
      MayCall Q place (Def m) types → length types ≡ D.tparams → AreTypes Q 0 (tys_instance ts types) → AreTotal Q (tys_instance ts types) D.funs hs →
      AllStand rho args vs → (m ≡ n → Fits args) → AreIn Q (tys_instance (tys_instance ts types) D.params) vs →
      GivesIn Q (record { head = Def m; types = tys_instance ts types }) hs vs (ty_instance (tys_instance ts types) D.result)
  pub passed : (m : ℕ) (D : definition.Def) (types : List Ty) → slice_get Q.defs m ≡ Some D → MayPass Q place (Def m) → length types ≡ D.tparams →
      AreTypes Q 0 (tys_instance ts types) → D.funs ≡ [] →
      IsTotal Q (record { head = Def m; types = tys_instance ts types }) (tys_instance (tys_instance ts types) D.params)
      (ty_instance (tys_instance ts types) D.result)

-- What a function that is passed stands for is total.
pub record Meant (Q : Program) (ts : List Ty) (gs : List Fun) (f : Fun) (params : List Ty) (T : Ty) : Type 0 where
  pub g : Fun
  pub means : FunMeans ts gs f g
  pub is_total : IsTotal Q g (tys_instance ts params) (ty_instance ts T)

-- What functions that are passed stand for is total.
pub record AllMeant (Q : Program) (ts : List Ty) (gs fs : List Fun) (takes : List FnType) : Type 0 where
  pub hs : List Fun
  pub mean : FunsMean ts gs fs hs
  pub are_total : AreTotal Q ts takes hs

-- What a function that is called stands for gives a value.
pub record Called (Q : Program) (ts : List Ty) (gs : List Fun) (f : Fun) (hs : List Fun) (vs : List Value) (T : Ty) : Type 0 where
  pub g : Fun
  pub means : FunMeans ts gs f g
  pub given : GivesIn Q g hs vs (ty_instance ts T)

pub nothing_mapped : {A B : Type 0} (f : A → B) (xs : List A) → map f xs ≡ [] → xs ≡ []
nothing_mapped f [] e = refl
nothing_mapped f (x ∷ xs) e = let wrong : ⊥ = cc in absurd wrong

-- a call of the definition itself is such as each self-call is
self_fits : (n m : ℕ) (Fits : List Standing → Type 0) (args : List Standing) → All Fits (self_call n (Def m) args) → m ≡ n → Fits args
self_fits n m Fits args all same =
    let is_self : (m == n) ≡ true = eq-eqb m n same in
    let one : self_call n (Def m) args ≡ args ∷ [] = ap (λ (b : Bool). if b then args ∷ [] else []) is_self in
    All-head Fits args [] (subst (All Fits) one all)

module _ (Q : Program) (typed : IsTyped Q) (place : Place) (context : Context) (ts : List Ty) (long : length ts ≡ context.tparams) (ground : AreTypes Q 0 ts)
    (gs : List Fun) (given : AreTotal Q ts context.funs gs) (rho : List Value) (n : ℕ) (Fits : List Standing → Type 0)
    (calls : CallsGive Q place ts rho n Fits) where
  -- types over the context's variables are types over those that are put in
  pub over_types : {types : List Ty} → AreTypes Q context.tparams types → AreTypes Q (length ts) types
  over_types {types} are = subst (λ (k : ℕ). AreTypes Q k types) (sym long) are

  -- types over the context's variables, with ground ones put in, are ground
  pub grounded : {types : List Ty} → AreTypes Q context.tparams types → AreTypes Q 0 (tys_instance ts types)
  grounded are = instances_are_types Q 0 ts ground (over_types are)

  two_words_are : tys_instance ts (type.Word ∷ type.Word ∷ []) ≡ type.Word ∷ type.Word ∷ []
  two_words_are = let word : ty_instance ts type.Word ≡ type.Word = ty_instance-Word ts in λ i. word i ∷ word i ∷ []

  bool_is : (T : Ty) → T ≡ bool_type → ty_instance ts T ≡ bool_type
  bool_is T e = ap (ty_instance ts) e ∙ ty_instance-Con ts 0 []

  module _ (D : definition.Def) (signature : HasSignature Q D) (types : List Ty) (many : length types ≡ D.tparams) where
    -- a definition's types over its own variables are types over those of the call
    own_types_over : {own : List Ty} → AreTypes Q D.tparams own → AreTypes Q (length types) own
    own_types_over {own} are = subst (λ (k : ℕ). AreTypes Q k own) (sym many) are

    params_twice : tys_instance ts (tys_instance types D.params) ≡ tys_instance (tys_instance ts types) D.params
    params_twice = instances_twice Q ts types (own_types_over (written_types Q D.tparams D.params signature.params))

    result_twice : ty_instance ts (ty_instance types D.result) ≡ ty_instance (tys_instance ts types) D.result
    result_twice = instance_twice Q ts types D.result (subst (λ (k : ℕ). typing.IsType Q k D.result) (sym many) signature.result.is_type)

    -- functions that are total at a definition's function types with types put in are so at these
    functions_twice : (Fs : List FnType) (hs : List Fun) → All (IsWrittenFnType Q D.tparams) Fs → AreTotal Q ts (map (fn_type_instance types) Fs) hs →
        AreTotal Q (tys_instance ts types) Fs hs
    functions_twice Fs hs written totals = go Fs (map (fn_type_instance types) Fs) hs refl written totals
      where
        one : (F : FnType) (h : Fun) → IsWrittenFnType Q D.tparams F →
            IsTotal Q h (tys_instance ts (tys_instance types F.params)) (ty_instance ts (ty_instance types F.result)) →
            IsTotal Q h (tys_instance (tys_instance ts types) F.params) (ty_instance (tys_instance ts types) F.result)
        one F h w is =
            let params : tys_instance ts (tys_instance types F.params) ≡ tys_instance (tys_instance ts types) F.params =
            instances_twice Q ts types (own_types_over (written_types Q D.tparams F.params w.params)) in
            let result : ty_instance ts (ty_instance types F.result) ≡ ty_instance (tys_instance ts types) F.result =
            instance_twice Q ts types F.result (subst (λ (k : ℕ). typing.IsType Q k F.result) (sym many) w.result.is_type) in
            subst (λ (params : List Ty). IsTotal Q h params (ty_instance (tys_instance ts types) F.result)) params
            (subst (λ (T : Ty). IsTotal Q h (tys_instance ts (tys_instance types F.params)) T) result is)

        go : (Fs Gs : List FnType) (hs : List Fun) → Gs ≡ map (fn_type_instance types) Fs → All (IsWrittenFnType Q D.tparams) Fs → AreTotal Q ts Gs hs →
            AreTotal Q (tys_instance ts types) Fs hs
        go [] _ _ e w total.no_function = total.no_function
        go [] _ _ e w (total.function first others) = let wrong : ⊥ = cc in absurd wrong
        go (F ∷ Fs) _ _ e w total.no_function = let wrong : ⊥ = cc in absurd wrong
        go (F ∷ Fs) _ _ e w (total.function {F = G} {Fs = Gs} {f = h} {fs = hs} first others) =
            let same : G ≡ fn_type_instance types F = cc in
            let rest : Gs ≡ map (fn_type_instance types) Fs = cc in
            total.function (one F h (All-head (IsWrittenFnType Q D.tparams) F Fs w)
            (subst (λ (G : FnType). IsTotal Q h (tys_instance ts G.params) (ty_instance ts G.result)) same first))
            (go Fs Gs hs rest (All-tail (IsWrittenFnType Q D.tparams) F Fs w) others)

  -- a function without functions that may be passed stands for a total one
  argument_meant : {f : Fun} {takes : List FnType} {params : List Ty} {T : Ty} → IsFunction Q context f takes params T → takes ≡ [] → MayPass Q place f.head →
      Meant Q ts gs f params T
  argument_meant (typing.of_definition {n = m} {types = types} {params = params} {T = T} {D = D} found many are takes_is params_is result_is) none may =
      let signature : HasSignature Q D = (typed.defs m D found).signature in
      let no_funs : D.funs ≡ [] = nothing_mapped (fn_type_instance types) D.funs (sym takes_is ∙ none) in
      let h : Fun = record { head = Def m; types = tys_instance ts types } in
      let own : IsTotal Q h (tys_instance (tys_instance ts types) D.params) (ty_instance (tys_instance ts types) D.result) =
      calls.passed m D types found may many (grounded are) no_funs in
      record {
        g = h;
        means = refl;
        is_total =
            subst₂ (IsTotal Q h) (sym (ap (tys_instance ts) params_is ∙ params_twice D signature types many))
            (sym (ap (ty_instance ts) result_is ∙ result_twice D signature types many)) own;
      }
  argument_meant (typing.at_most {T = T} is) none may = record {
    g = record { head = Wle; types = [] };
    means = refl;
    is_total =
        record {
          at = λ vs are. subst (GivesIn Q (record { head = Wle; types = [] }) [] vs) (sym (bool_is T is))
              (at_most_gives Q typed [] [] vs (two_words Q _ vs are two_words_are));
        };
  }
  argument_meant (typing.equal {T = T} is) none may = record {
    g = record { head = Weq; types = [] };
    means = refl;
    is_total =
        record {
          at = λ vs are. subst (GivesIn Q (record { head = Weq; types = [] }) [] vs) (sym (bool_is T is))
              (equal_gives Q typed [] [] vs (two_words Q _ vs are two_words_are));
        };
  }
  argument_meant (typing.of_variable {n = m} {params = params} {T = T} {F = F} found params_is result_is) none may =
      let there : TotalAt Q ts F gs m = total_at Q ts context.funs gs m F given found in
      record {
        g = there.f;
        means = there.at;
        is_total = subst₂ (IsTotal Q there.f) (sym (ap (tys_instance ts) params_is)) (sym (ap (ty_instance ts) result_is)) there.total;
      }

  -- functions that are passed stand for total ones
  pub arguments_meant : {fs : List Fun} {takes : List FnType} → AreArguments Q place context fs takes → AllMeant Q ts gs fs takes
  arguments_meant typing.none = record { hs = []; mean = tt; are_total = total.no_function }
  arguments_meant (typing.more {f = f} {fs = fs} {wanted = wanted} {takes = takes} is are) =
      let first : Meant Q ts gs f wanted.params wanted.result = argument_meant is.function refl is.may_pass in
      let others : AllMeant Q ts gs fs takes = arguments_meant are in
      record { hs = first.g ∷ others.hs; mean = (first.means, others.mean); are_total = total.function first.is_total others.are_total }

  -- what is called stands for a function that gives a value
  pub call_gives : {f : Fun} {takes : List FnType} {params : List Ty} {T : Ty} → IsFunction Q context f takes params T → MayCall Q place f.head f.types →
      (hs : List Fun) → AreTotal Q ts takes hs → (args : List Standing) (vs : List Value) → AllStand rho args vs → All Fits (self_call n f.head args) →
      AreIn Q (tys_instance ts params) vs → Called Q ts gs f hs vs T
  call_gives (typing.of_definition {n = m} {types = types} {D = D} found many are takes_is params_is result_is) may hs totals args vs stand self in_types =
      let signature : HasSignature Q D = (typed.defs m D found).signature in
      let h : Fun = record { head = Def m; types = tys_instance ts types } in
      let totals_there : AreTotal Q (tys_instance ts types) D.funs hs =
      functions_twice D signature types many D.funs hs signature.funs.types (subst (λ (takes : List FnType). AreTotal Q ts takes hs) takes_is totals) in
      let vs_there : AreIn Q (tys_instance (tys_instance ts types) D.params) vs =
      subst (λ (types : List Ty). AreIn Q types vs) (ap (tys_instance ts) params_is ∙ params_twice D signature types many) in_types in
      let own : GivesIn Q h hs vs (ty_instance (tys_instance ts types) D.result) =
      calls.called m D types hs args vs found may many (grounded are) totals_there stand (self_fits n m Fits args self) vs_there in
      record { g = h; means = refl; given = subst (GivesIn Q h hs vs) (sym (ap (ty_instance ts) result_is ∙ result_twice D signature types many)) own }
  call_gives (typing.at_most {T = T} is) may hs totals args vs stand self in_types = record {
    g = record { head = Wle; types = [] };
    means = refl;
    given =
        subst (GivesIn Q (record { head = Wle; types = [] }) hs vs) (sym (bool_is T is))
        (at_most_gives Q typed [] hs vs (two_words Q _ vs in_types two_words_are));
  }
  call_gives (typing.equal {T = T} is) may hs totals args vs stand self in_types = record {
    g = record { head = Weq; types = [] };
    means = refl;
    given =
        subst (GivesIn Q (record { head = Weq; types = [] }) hs vs) (sym (bool_is T is))
        (equal_gives Q typed [] hs vs (two_words Q _ vs in_types two_words_are));
  }
  call_gives (typing.of_variable {n = m} {params = params} {T = T} {F = F} found params_is result_is) may hs totals args vs stand self in_types =
      let there : TotalAt Q ts F gs m = total_at Q ts context.funs gs m F given found in
      let none : hs ≡ [] = none_given Q ts [] hs totals refl in
      let own : GivesIn Q there.f [] vs (ty_instance ts F.result) =
      there.total.at vs (subst (λ (types : List Ty). AreIn Q types vs) (ap (tys_instance ts) params_is) in_types) in
      record {
        g = there.f;
        means = there.at;
        given = subst₂ (λ (hs : List Fun) (T : Ty). GivesIn Q there.f hs vs T) (sym none) (sym (ap (ty_instance ts) result_is)) own;
      }
