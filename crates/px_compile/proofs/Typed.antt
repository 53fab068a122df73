-- What typing says of values and of calls where a term runs.
use Rattle.std.proofs.Common.{◌≡◌, ℕ, zero, suc, ◌<◌, ◌^◌, List, [], ◌∷◌, ◌++◌, length, map, reverse, Option, Some, None, slice_get, unwrap_or, refl, sym, ap, ◌∙◌, subst, subst₂}
use Rattle.std.specs.List.{All}
use Rattle.std.specs.Option.{option_map}
use Rattle.std.proofs.lemmas.Option.{slice_get-map}
use Rattle.std.proofs.lemmas.List.{length-map, map-append, reverse-append}
use Rattle.std.proofs.lemmas.List.Elements.{All-head, All-tail}
use Rattle.px_terms.specs.declared.types.Ty.{Ty}
use Rattle.px_terms.specs.declared.types.Ty.TheVariants as type
use Rattle.px_terms.specs.declared.types.Ty.TheOpen.{Ty-F}
use Rattle.px_terms.specs.declared.types.FnType.{FnType}
use Rattle.px_terms.specs.declared.types.Fun.{Fun}
use Rattle.px_terms.specs.Head.{Head}
use Rattle.px_terms.specs.Head.TheVariants.{Def, Wle, Weq, FnVar}
use Rattle.px_terms.specs.declared.term.Term.{Term, out-Term}
use Rattle.px_terms.specs.declared.term.Value.{Value, out-Value}
use Rattle.px_terms.specs.declared.term.Value.TheVariants as value
use Rattle.px_terms.specs.declared.term.Value.TheOpen.{Value-F}
use Rattle.px_terms.specs.declared.program.ConDef.{ConDef}
use Rattle.px_terms.specs.declared.program.Def as definition
use Rattle.px_terms.specs.declared.program.Program.{Program}
use Rattle.px_terms.specs.declared.sequent.Context.{Context}
use Rattle.px_terms.specs.Types.{ty_instance, tys_instance, fn_type_instance}
use Rattle.px_terms.specs.TreeEquations.{ty_instance-Word, ty_instance-Con}
use Rattle.px_terms.specs.Programs.{bool_type, constructor_at}
use Rattle.px_terms.specs.Values.{IsInLayer, IsIn, AreIn}
use Rattle.px_terms.specs.Values as values
use Rattle.px_terms.specs.Meaning.{FunMeans, FunsMean, Gives, chosen, bind}
use Rattle.px_terms.specs.Typing.{Place, IsType, AreTypes, IsFunction, IsArgument, AreArguments, HasTypeLayer, HaveTypesInArms, live}
use Rattle.px_terms.specs.Typing as typing
use Rattle.px_terms.specs.Clauses.{functions_alone}
use Rattle.px_terms.specs.TypedPrograms.{IsTyped, IsTypedData, IsTypedCon, IsTypedDef, HasSignature, IsWrittenFnType, own_context}
use Rattle.px_terms.specs.Descent.{field_count}
use Rattle.px_terms.specs.Extending.{IsWellFounded, FitsType, FitTypes}
use Rattle.px_terms.specs.Extending as fitting
use Rattle.px_totality.specs.Laws.{ExactlyOne, IsContext}
use Rattle.px_totality.proofs.Instances.{nothing_is_some, one_item, written_types, type_at, instances_are_types, instances_twice, instance_twice}
use Rattle.px_totality.proofs.TypesOfTerms.{all_at, stands_in, StandsIn, are_types_append, are_types_reversed, DataType, data_type, data_is_typed, fields_are_types}
use Rattle.px_totality.proofs.Total.{truth_is_in}
use Rattle.px_totality.proofs.Calls.{nothing_mapped}
use Rattle.px_totality.proofs.Valued.{are_in_append, as_many, IsVariable, FitVariables}
use Rattle.px_totality.proofs.Unique.{OfWords, gift_rests_on}
use Rattle.px_totality.proofs.EachHasValue.{each_call, each_function}
use Rattle.px_machine.specs.Standing.{FitsDefinition}

-- The types, functions and values that a term runs on fit its context.
pub record Setting (P : Program) (context : Context) (ts : List Ty) (gs : List Fun) (rho : List Value) : Type 0 where
  pub is_context : IsContext P context
  pub long : length ts ≡ context.tparams
  pub ground : AreTypes P 0 ts
  pub fit : FitTypes P ts context.funs gs
  pub values : FitVariables P ts context.vars rho

-- The pattern variables around a term have types, and their values are in them.
pub record Around (P : Program) (context : Context) (ts types : List Ty) (inner : List Value) : Type 0 where
  pub are_types : AreTypes P context.tparams types
  pub are_in : AreIn P (tys_instance ts types) inner

-- what a call asks of functions and values, by what is called
abbrev pub FitsCall : Program → Head → List Ty → List Fun → List Value → Type 0
FitsCall P (Def n) types funs vs = FitsDefinition P n types funs vs
FitsCall P Wle types funs vs = Unit {0}
FitsCall P Weq types funs vs = Unit {0}
FitsCall P (FnVar n) types funs vs = Unit {0}

in_at : (P : Program) {types : List Ty} {vs : List Value} (i : ℕ) (T : Ty) (v : Value) → AreIn P types vs → slice_get types i ≡ Some T → slice_get vs i ≡ Some v → IsIn P T v
in_at P i T v values.none at is = absurd (nothing_is_some T at)
in_at P zero T v (values.more {T = S} {v = w} first others) at is =
    subst₂ (IsIn P) (one_item S T at) (one_item w v is) first
in_at P (suc i) T v (values.more first others) at is = in_at P i T v others at is

are_in_reversed : (P : Program) {types : List Ty} {vs : List Value} → AreIn P types vs → AreIn P (reverse types) (reverse vs)
are_in_reversed P values.none = values.none
are_in_reversed P (values.more {T = T} {types = types} {v = v} {values = vs} first others) =
    subst (λ (types : List Ty). AreIn P types (reverse (v ∷ vs))) (sym (reverse-append (T ∷ []) types))
    (subst (AreIn P (reverse types ++ T ∷ [])) (sym (reverse-append (v ∷ []) vs)) (are_in_append P (are_in_reversed P others) (values.more first values.none)))

map_reversed : {A B : Type 0} (f : A → B) (xs : List A) → map f (reverse xs) ≡ reverse (map f xs)
map_reversed f [] = refl
map_reversed f (x ∷ xs) =
    ap (map f) (reverse-append (x ∷ []) xs) ∙ map-append f (reverse xs) (x ∷ []) ∙ ap (λ ys. ys ++ f x ∷ []) (map_reversed f xs)
    ∙ sym (reverse-append (f x ∷ []) (map f xs))

-- The function of this number fits.
fits_at : (P : Program) (ts : List Ty) {Fs : List FnType} {gs : List Fun} (i : ℕ) (F : FnType) (g : Fun) → FitTypes P ts Fs gs → slice_get Fs i ≡ Some F →
    slice_get gs i ≡ Some g → FitsType P ts F g
fits_at P ts i F g fitting.none at is = absurd (nothing_is_some F at)
fits_at P ts zero F g (fitting.more {F = G} {f = h} first others) at is = subst₂ (FitsType P ts) (one_item G F at) (one_item h g is) first
fits_at P ts (suc i) F g (fitting.more first others) at is = fits_at P ts i F g others at is

-- The arm of this number is typed.
pub record ArmTyped (P : Program) (place : Place) (context : Context) (bound types : List Ty) (c : ConDef) (arms : List Term) (k : ℕ) (T : Ty) : Type 0 where
  pub body : Term
  pub stands : slice_get arms k ≡ Some body
  pub typed : HasTypeLayer P place context (reverse (tys_instance types c.fields) ++ bound) (out-Term body) T

pub arm_typed : (P : Program) (place : Place) (context : Context) {bound types : List Ty} {cs : List ConDef} {arms : List Term} {T : Ty} (k : ℕ) (c : ConDef) →
    HaveTypesInArms P place context bound types cs arms T → slice_get cs k ≡ Some c → ArmTyped P place context bound types c arms k T
arm_typed P place context k c typing.no_arm at = absurd (nothing_is_some c at)
arm_typed P place context zero c (typing.arm {bound = bound} {types = types} {c = e} {body = body} {T = T} met has have) at = record {
  body = body;
  stands = refl;
  typed = subst (λ (c : ConDef). HasTypeLayer P place context (reverse (tys_instance types c.fields) ++ bound) (out-Term body) T) (one_item e c at) has;
}
arm_typed P place context (suc k) c (typing.arm {arms = arms} met has have) at =
    let there = arm_typed P place context k c have at in record { body = there.body; stands = there.stands; typed = there.typed }

-- what a match chooses of a constructor
pub chosen_is : (arms : List Term) (u : Value-F Value) (d k : ℕ) (fields vs : List Value) (arm : Term) → u ≡ Value-F.Con d k fields → chosen arms u ≡ Some (arm, vs) →
    (slice_get arms k ≡ Some arm) × (vs ≡ fields)
chosen_is arms u d k fields vs arm is e = go (slice_get arms k) (ap (chosen arms) (sym is) ∙ e)
  where
    go : (o : Option Term) → option_map {U = Term × List Value} (λ (t : Term). (t, fields)) o ≡ Some (arm, vs) → (o ≡ Some arm) × (vs ≡ fields)
    go None e = absurd (cc)
    go (Some t) e = let pair : (t, fields) ≡ (arm, vs) = one_item (t, fields) (arm, vs) e in
        (ap (λ (p : Term × List Value). Some p.0) pair, sym (ap (λ (p : Term × List Value). p.1) pair))

live_at : (types : List Ty) (i : ℕ) (T : Ty) → slice_get (live types) i ≡ Some (Some T) → slice_get types i ≡ Some T
live_at [] i T at = absurd (nothing_is_some (Some T) at)
live_at (S ∷ types) zero T at = one_item (Some S) (Some T) at
live_at (S ∷ types) (suc i) T at = live_at types i T at

live_fit : (P : Program) (us types : List Ty) (vs : List Value) → AreIn P (tys_instance us types) vs → FitVariables P us (live types) vs
live_fit P us [] vs are i T at = absurd (nothing_is_some (Some T) at)
live_fit P us (S ∷ types) _ (values.more {v = v} first others) zero T at =
    let same : S ≡ T = one_item S T (one_item (Some S) (Some T) at) in
    record { v = v; at = refl; is_in = subst (λ (T : Ty). IsIn P (ty_instance us T) v) same first }
live_fit P us (S ∷ types) _ (values.more {values = vs} first others) (suc i) T at =
    let there : IsVariable P us vs i T = live_fit P us types vs others i T at in record { v = there.v; at = there.at; is_in = there.is_in }

module _ (P : Program) (founded : IsWellFounded P) where
  typed : IsTyped P
  typed = founded.typed

  own_is_context : (n : ℕ) (D : definition.Def) → IsTypedDef P n D → IsContext P (own_context D)
  own_is_context n D def = record {
    vars = λ i T at. type_at P D.tparams D.params i T (written_types P D.tparams D.params def.signature.params) (live_at D.params i T at);
    results = λ i F at. (all_at (IsWrittenFnType P D.tparams) D.funs i F def.signature.funs.types at).result.is_type;
  }

  -- the body of a definition runs in its own setting
  pub own_setting : (n : ℕ) (types : List Ty) (funs : List Fun) (vs : List Value) (fits : FitsDefinition P n types funs vs) →
      Setting P (own_context fits.def) types funs vs
  own_setting n types funs vs fits = record {
    is_context = own_is_context n fits.def (typed.defs n fits.def fits.is_def);
    long = fits.as_many;
    ground = fits.types_are;
    fit = fits.funs_fit;
    values = live_fit P types fits.def.params vs fits.values_fit;
  }

  module _ (context : Context) (ts : List Ty) (gs : List Fun) (rho : List Value) (setting : Setting P context ts gs rho) where
    pub free_in : (i : ℕ) (T : Ty) (v : Value) → slice_get context.vars i ≡ Some (Some T) → slice_get rho i ≡ Some v → IsIn P (ty_instance ts T) v
    free_in i T v at is =
        let there = setting.values i T at in
        subst (IsIn P (ty_instance ts T)) (one_item there.v v (sym there.at ∙ is)) there.is_in

    pub bound_in : (types : List Ty) (inner : List Value) (i : ℕ) (T : Ty) (v : Value) → Around P context ts types inner → slice_get types i ≡ Some T →
        slice_get inner i ≡ Some v → IsIn P (ty_instance ts T) v
    bound_in types inner i T v around at is =
        in_at P i (ty_instance ts T) v around.are_in (slice_get-map (ty_instance ts) types i ∙ ap (option_map (ty_instance ts)) at) is

    pub lit_in : (w : ℕ) (T : Ty) (v : Value) → w < 2 ^ 64 → T ≡ type.Word → v ≡ value.Lit w → IsIn P (ty_instance ts T) v
    lit_in w T v small e is =
        let word : ty_instance ts T ≡ type.Word = ap (ty_instance ts) e ∙ ty_instance-Word ts in
        let in_word : IsIn P type.Word (value.Lit w) =
        subst (λ (y : Ty-F Ty). IsInLayer P y (out-Value (value.Lit w))) (sym type.outs-Word)
        (subst (IsInLayer P Ty-F.Word) (sym (value.outs-Lit w)) (values.word small)) in
        subst₂ (IsIn P) (sym word) (sym is) in_word

    -- the fields of a constructor, with types put in twice
    fields_twice : (d k : ℕ) (types : List Ty) (T : Ty) (c : ConDef) → constructor_at P d k ≡ Some c → IsType P context.tparams T → T ≡ type.Con d types →
        (AreTypes P context.tparams types) × (AreTypes P (length types) c.fields)
    fields_twice d k types T c found is e =
        let there : StandsIn P d k c = stands_in P d k c found in
        let of_type : DataType P context.tparams there.datatype types = data_type P context.tparams d there.datatype types T is e there.found in
        let of_data : IsTypedData P there.datatype = data_is_typed P typed d there.datatype there.found in
        let is_con : IsTypedCon P there.datatype.tparams c = all_at (IsTypedCon P there.datatype.tparams) there.datatype.cons k c of_data.cons there.stands in
        (of_type.are, fields_are_types P there.datatype types c of_type.long is_con)

    pub con_in : (d k : ℕ) (types : List Ty) (T : Ty) (c : ConDef) (vs : List Value) (v : Value) → constructor_at P d k ≡ Some c → IsType P context.tparams T →
        T ≡ type.Con d types → AreIn P (tys_instance ts (tys_instance types c.fields)) vs → v ≡ value.Con d k vs → IsIn P (ty_instance ts T) v
    con_in d k types T c vs v found is e are v_is =
        let own = fields_twice d k types T c found is e in
        let in_fields : AreIn P (tys_instance (tys_instance ts types) c.fields) vs =
        subst (λ (types : List Ty). AreIn P types vs) (instances_twice P ts types own.1) are in
        let T_is : ty_instance ts T ≡ type.Con d (tys_instance ts types) = ap (ty_instance ts) e ∙ ty_instance-Con ts d types in
        let in_con : IsIn P (type.Con d (tys_instance ts types)) (value.Con d k vs) =
        subst (λ (y : Ty-F Ty). IsInLayer P y (out-Value (value.Con d k vs))) (sym (type.outs-Con d (tys_instance ts types)))
        (subst (IsInLayer P (Ty-F.Con d (tys_instance ts types))) (sym (value.outs-Con d k vs)) (values.con found in_fields)) in
        subst₂ (IsIn P) (sym T_is) (sym v_is) in_con

    -- how many fields the value has
    pub fields_are_many : (d k : ℕ) (us : List Ty) (c : ConDef) (fields : List Value) → constructor_at P d k ≡ Some c → AreIn P (tys_instance us c.fields) fields →
        length fields ≡ field_count P d k
    fields_are_many d k us c fields found are =
        sym (ap (λ (o : Option ConDef). unwrap_or (option_map (λ (c : ConDef). length c.fields) o) 0) found
        ∙ sym (length-map c.fields (ty_instance us)) ∙ as_many P are)

    -- what is around an arm
    pub around_arm : (d k : ℕ) (types outer : List Ty) (U : Ty) (c : ConDef) (fields inner : List Value) → constructor_at P d k ≡ Some c →
        IsType P context.tparams U → U ≡ type.Con d types → AreIn P (tys_instance (tys_instance ts types) c.fields) fields → Around P context ts outer inner →
        Around P context ts (reverse (tys_instance types c.fields) ++ outer) (bind fields inner)
    around_arm d k types outer U c fields inner found is e in_fields around =
        let both = fields_twice d k types U c found is e in
        let own : List Ty = tys_instance types c.fields in
        let twice : tys_instance ts own ≡ tys_instance (tys_instance ts types) c.fields = instances_twice P ts types both.1 in
        let here : AreIn P (tys_instance ts own) fields = subst (λ (types : List Ty). AreIn P types fields) (sym twice) in_fields in
        let split : tys_instance ts (reverse own ++ outer) ≡ reverse (tys_instance ts own) ++ tys_instance ts outer =
        map-append (ty_instance ts) (reverse own) outer ∙ ap (λ (types : List Ty). types ++ tys_instance ts outer) (map_reversed (ty_instance ts) own) in
        record {
          are_types =
              are_types_append P context.tparams
              (are_types_reversed P context.tparams (instances_are_types P context.tparams types both.0 both.1)) around.are_types;
          are_in = subst (λ (types : List Ty). AreIn P types (bind fields inner)) (sym split) (are_in_append P (are_in_reversed P here) around.are_in);
        }

    grounded : {types : List Ty} → AreTypes P context.tparams types → AreTypes P 0 (tys_instance ts types)
    grounded {types} are = instances_are_types P 0 ts setting.ground (subst (λ (k : ℕ). AreTypes P k types) (sym setting.long) are)

    words_are : tys_instance ts (type.Word ∷ type.Word ∷ []) ≡ type.Word ∷ type.Word ∷ []
    words_are = let word : ty_instance ts type.Word ≡ type.Word = ty_instance-Word ts in λ i. word i ∷ word i ∷ []

    bool_is : (T : Ty) → T ≡ bool_type → ty_instance ts T ≡ bool_type
    bool_is T e = ap (ty_instance ts) e ∙ ty_instance-Con ts 0 []

    module _ (D : definition.Def) (signature : HasSignature P D) (types : List Ty) (many : length types ≡ D.tparams) where
      own_over : {own : List Ty} → AreTypes P D.tparams own → AreTypes P (length types) own
      own_over {own} are = subst (λ (k : ℕ). AreTypes P k own) (sym many) are

      params_twice : (params : List Ty) → AreTypes P D.tparams params → tys_instance ts (tys_instance types params) ≡ tys_instance (tys_instance ts types) params
      params_twice params are = instances_twice P ts types (own_over are)

      result_twice : (T : Ty) → IsType P D.tparams T → ty_instance ts (ty_instance types T) ≡ ty_instance (tys_instance ts types) T
      result_twice T is = instance_twice P ts types T (subst (λ (k : ℕ). IsType P k T) (sym many) is)

      -- functions that fit function types with types put in fit these at the types
      fit_twice : (Fs Gs : List FnType) (hs : List Fun) → Gs ≡ map (fn_type_instance types) Fs → All (IsWrittenFnType P D.tparams) Fs → FitTypes P ts Gs hs →
          FitTypes P (tys_instance ts types) Fs hs
      fit_twice [] _ _ e w fitting.none = fitting.none
      fit_twice [] _ _ e w (fitting.more first others) = let wrong : ⊥ = cc in absurd wrong
      fit_twice (F ∷ Fs) _ _ e w fitting.none = let wrong : ⊥ = cc in absurd wrong
      fit_twice (F ∷ Fs) _ _ e w (fitting.more {F = G} {Fs = Gs} {f = h} {fs = hs} first others) =
          let same : G ≡ fn_type_instance types F = cc in
          let rest : Gs ≡ map (fn_type_instance types) Fs = cc in
          let own : IsWrittenFnType P D.tparams F = All-head (IsWrittenFnType P D.tparams) F Fs w in
          let is : FitsType P ts (fn_type_instance types F) h = subst (λ (G : FnType). FitsType P ts G h) same first in
          fitting.more (record {
            function = subst₂ (IsFunction P (functions_alone 0 []) h []) (params_twice F.params (written_types P D.tparams F.params own.params))
                (result_twice F.result own.result.is_type) is.function;
          }) (fit_twice Fs Gs hs rest (All-tail (IsWrittenFnType P D.tparams) F Fs w) others)

    -- what a function that is passed stands for fits
    passed_fits : {f g : Fun} {takes : List FnType} {params : List Ty} {T : Ty} (wanted : FnType) → IsFunction P context f takes params T → takes ≡ [] →
        params ≡ wanted.params → T ≡ wanted.result → FunMeans ts gs f g → FitsType P ts wanted g
    passed_fits {f} {g} wanted (typing.of_definition {n = n} {types = types} {params = params} {T = T} {D = D} found many are takes_is params_is result_is) none p r means =
        let signature : HasSignature P D = (typed.defs n D found).signature in
        let us : List Ty = tys_instance ts types in
        let no_funs : D.funs ≡ [] = nothing_mapped (fn_type_instance types) D.funs (sym takes_is ∙ none) in
        let is : record { head = Def n; types = us } ≡ g = one_item (record { head = Def n; types = us }) g means in
        subst (FitsType P ts wanted) is (record {
          function =
              typing.of_definition {D = D} found (length-map types (ty_instance ts) ∙ many) (grounded are) (sym (ap (map (fn_type_instance us)) no_funs))
              (ap (tys_instance ts) (sym p ∙ params_is) ∙ params_twice D signature types many D.params (written_types P D.tparams D.params signature.params))
              (ap (ty_instance ts) (sym r ∙ result_is) ∙ result_twice D signature types many D.result signature.result.is_type);
        })
    passed_fits {f} {g} wanted (typing.at_most {T = T} is) none p r means =
        let same : record { head = Wle; types = [] } ≡ g = one_item (record { head = Wle; types = [] }) g means in
        subst (FitsType P ts wanted) same (record {
          function = subst₂ (IsFunction P (functions_alone 0 []) (record { head = Wle; types = [] }) []) (sym (ap (tys_instance ts) (sym p) ∙ words_are))
              (sym (ap (ty_instance ts) (sym r) ∙ bool_is T is)) (typing.at_most refl);
        })
    passed_fits {f} {g} wanted (typing.equal {T = T} is) none p r means =
        let same : record { head = Weq; types = [] } ≡ g = one_item (record { head = Weq; types = [] }) g means in
        subst (FitsType P ts wanted) same (record {
          function = subst₂ (IsFunction P (functions_alone 0 []) (record { head = Weq; types = [] }) []) (sym (ap (tys_instance ts) (sym p) ∙ words_are))
              (sym (ap (ty_instance ts) (sym r) ∙ bool_is T is)) (typing.equal refl);
        })
    passed_fits {f} {g} wanted (typing.of_variable {n = i} {params = params} {T = T} {F = F} found params_is result_is) none p r means =
        let there : FitsType P ts F g = fits_at P ts i F g setting.fit found means in
        record {
          function = subst₂ (IsFunction P (functions_alone 0 []) g []) (ap (tys_instance ts) (sym params_is ∙ p))
              (ap (ty_instance ts) (sym result_is ∙ r)) there.function;
        }

    pub all_passed_fit : (place : Place) {fs : List Fun} {takes : List FnType} (hs : List Fun) → AreArguments P place context fs takes → FunsMean ts gs fs hs →
        FitTypes P ts takes hs
    all_passed_fit place [] typing.none mean = fitting.none
    all_passed_fit place (h ∷ hs) typing.none mean = absurd mean
    all_passed_fit place [] (typing.more is are) mean = absurd mean
    all_passed_fit place (h ∷ hs) (typing.more {wanted = wanted} is are) mean =
        fitting.more (passed_fits wanted is.function refl refl refl mean.0) (all_passed_fit place hs are mean.1)

    -- The call fits what is called, and its value is in the type.
    pub record CallFits (g : Fun) (hs : List Fun) (vs : List Value) (T : Ty) : Type 0 where
      pub fits : FitsCall P g.head g.types hs vs
      pub in_type : (v : Value) (c : ℕ) → Gives P g hs vs v c → IsIn P (ty_instance ts T) v

    only_value : (T : Ty) (Given : Value → ℕ → Type 0) → ExactlyOne P T Given → (v : Value) (c : ℕ) → Given v c → IsIn P T v
    only_value T Given one v c given = subst (IsIn P T) (sym (one.no_other v c given).0) one.in_type

    no_passed : {takes : List FnType} (hs : List Fun) → FitTypes P ts takes hs → takes ≡ [] → hs ≡ []
    no_passed _ fitting.none e = refl
    no_passed _ (fitting.more first others) e = let wrong : ⊥ = cc in absurd wrong

    fit_none : (us : List Ty) (Fs : List FnType) → Fs ≡ [] → FitTypes P us Fs []
    fit_none us Fs e = subst (λ (Fs : List FnType). FitTypes P us Fs []) (sym e) fitting.none

    -- a ground function without functions
    ground_call_fits : {g : Fun} {takes : List FnType} {params : List Ty} {T : Ty} (vs : List Value) → IsFunction P (functions_alone 0 []) g takes params T →
        takes ≡ [] → AreIn P params vs → FitsCall P g.head g.types [] vs
    ground_call_fits vs (typing.of_definition {n = n} {types = types} {D = D} found many are takes_is params_is result_is) none in_params =
        let no_funs : D.funs ≡ [] = nothing_mapped (fn_type_instance types) D.funs (sym takes_is ∙ none) in
        record {
          def = D;
          is_def = found;
          as_many = many;
          types_are = are;
          funs_fit = fit_none types D.funs no_funs;
          values_fit = subst (λ (types : List Ty). AreIn P types vs) params_is in_params;
        }
    ground_call_fits vs (typing.at_most is) none in_params = tt
    ground_call_fits vs (typing.equal is) none in_params = tt
    ground_call_fits vs (typing.of_variable is p r) none in_params = tt

    built_in : (test : ℕ → ℕ → Value) (is_in : (x y : ℕ) → IsIn P bool_type (test x y)) (T : Ty) → T ≡ bool_type → (vs : List Value) (v : Value) (c : ℕ) →
        OfWords test vs v c → IsIn P (ty_instance ts T) v
    built_in test is_in T e vs v c of_words = subst₂ (IsIn P) (sym (bool_is T e)) (sym of_words.is) (is_in of_words.x of_words.y)

    pub call_fits : {f g : Fun} {takes : List FnType} {params : List Ty} {T : Ty} (hs : List Fun) (vs : List Value) → IsFunction P context f takes params T →
        FunMeans ts gs f g → FitTypes P ts takes hs → AreIn P (tys_instance ts params) vs → CallFits g hs vs T
    call_fits {f} {g} hs vs (typing.of_definition {n = n} {types = types} {T = T} {D = D} found many are takes_is params_is result_is) means fit in_params =
        let signature : HasSignature P D = (typed.defs n D found).signature in
        let us : List Ty = tys_instance ts types in
        let us_long : length us ≡ D.tparams = length-map types (ty_instance ts) ∙ many in
        let h : Fun = record { head = Def n; types = us } in
        let is : h ≡ g = one_item h g means in
        let own_fit : FitTypes P us D.funs hs = fit_twice D signature types many D.funs _ hs takes_is signature.funs.types fit in
        let own_values : AreIn P (tys_instance us D.params) vs =
        subst (λ (types : List Ty). AreIn P types vs)
        (ap (tys_instance ts) params_is ∙ params_twice D signature types many D.params (written_types P D.tparams D.params signature.params)) in_params in
        let T_is : ty_instance us D.result ≡ ty_instance ts T =
        sym (ap (ty_instance ts) result_is ∙ result_twice D signature types many D.result signature.result.is_type) in
        let fits : FitsDefinition P n us hs vs =
        record { def = D; is_def = found; as_many = us_long; types_are = grounded are; funs_fit = own_fit; values_fit = own_values } in
        subst (λ (g : Fun). CallFits g hs vs T) is (record {
          fits = fits;
          in_type = λ v c given. subst (λ (T : Ty). IsIn P T v) T_is
              (only_value (ty_instance us D.result) (Gives P h hs vs) (each_call P founded n D found us us_long (grounded are) hs own_fit vs own_values) v c given);
        })
    call_fits {f} {g} hs vs (typing.at_most {T = T} is) means fit in_params =
        let h : Fun = record { head = Wle; types = [] } in
        subst (λ (g : Fun). CallFits g hs vs T) (one_item h g means) (record {
          fits = tt;
          in_type = λ v c given. built_in _ (λ x y. truth_is_in P typed _) T is vs v c (gift_rests_on P h hs vs v c given);
        })
    call_fits {f} {g} hs vs (typing.equal {T = T} is) means fit in_params =
        let h : Fun = record { head = Weq; types = [] } in
        subst (λ (g : Fun). CallFits g hs vs T) (one_item h g means) (record {
          fits = tt;
          in_type = λ v c given. built_in _ (λ x y. truth_is_in P typed _) T is vs v c (gift_rests_on P h hs vs v c given);
        })
    call_fits {f} {g} hs vs (typing.of_variable {n = i} {params = params} {T = T} {F = F} found params_is result_is) means fit in_params =
        let there : FitsType P ts F g = fits_at P ts i F g setting.fit found means in
        let none : hs ≡ [] = no_passed hs fit refl in
        let own : AreIn P (tys_instance ts F.params) vs = subst (λ (types : List Ty). AreIn P types vs) (ap (tys_instance ts) params_is) in_params in
        subst (λ (hs : List Fun). CallFits g hs vs T) (sym none) (record {
          fits = ground_call_fits vs there.function refl own;
          in_type = λ v c given. subst (λ (T : Ty). IsIn P T v) (sym (ap (ty_instance ts) result_is))
              (only_value (ty_instance ts F.result) (Gives P g [] vs) (each_function P founded ts F g there vs own) v c given);
        })
