-- A typed term with types, functions and terms put in for its variables is typed anywhere.
use Rattle.std.proofs.Common.{◌≡◌, ℕ, zero, suc, List, [], ◌∷◌, ◌++◌, map, reverse, length, Option, Some}
use Rattle.std.proofs.Common.{slice_get, unwrap_or, refl, sym, ap, ◌∙◌, subst, subst₂}
use Rattle.std.specs.List.{All}
use Rattle.std.specs.Option.{IsSomeAnd}
use Rattle.std.proofs.lemmas.List.{length-map, map-append, reverse-append}
use Rattle.std.proofs.lemmas.List.Elements.{All-head, All-tail}
use Rattle.px_terms.specs.Prop.{Prop}
use Rattle.px_terms.specs.PropSets.{HasProp}
use Rattle.px_terms.specs.Head.{Head}
use Rattle.px_terms.specs.Head.TheVariants.{Def, Wle, Weq, FnVar}
use Rattle.px_terms.specs.declared.types.Ty.{Ty}
use Rattle.px_terms.specs.declared.types.Ty.TheVariants as type
use Rattle.px_terms.specs.declared.types.FnType.{FnType}
use Rattle.px_terms.specs.declared.types.Fun.{Fun}
use Rattle.px_terms.specs.declared.term.Term.{Term, out-Term}
use Rattle.px_terms.specs.declared.term.Term.TheVariants as term
use Rattle.px_terms.specs.declared.term.Term.TheViews.{roll-Term, roll-out-Term}
use Rattle.px_terms.specs.declared.term.Term.TheOpen.{Term-F}
use Rattle.px_terms.specs.declared.clause.Sigma.{Sigma}
use Rattle.px_terms.specs.declared.program.ConDef.{ConDef}
use Rattle.px_terms.specs.declared.program.DataDef.{DataDef}
use Rattle.px_terms.specs.declared.program.Program.{Program}
use Rattle.px_terms.specs.declared.sequent.Context.{Context}
use Rattle.px_terms.specs.Types.{ty_instance, tys_instance, fn_type_instance, fun_instance}
use Rattle.px_terms.specs.Terms.{term_instance}
use Rattle.px_terms.specs.TreeEquations.{ty_instance-Word, ty_instance-Con, term_instance-Free, term_instance-Bound, term_instance-Lit}
use Rattle.px_terms.specs.TreeEquations.{term_instance-Con, term_instance-Call, term_instance-Match}
use Rattle.px_terms.specs.Programs.{bool_type, constructor_at}
use Rattle.px_terms.specs.Typing.{Place, anywhere, IsType, AreTypes, IsFunction, MayCall}
use Rattle.px_terms.specs.Typing.{MayPass, IsDeclaredBefore, IsSaid, IsKnown, IsArgument, AreArguments}
use Rattle.px_terms.specs.Typing.{HasTypeLayer, HaveTypes, HaveTypesInArms}
use Rattle.px_terms.specs.Typing as typing
use Rattle.px_terms.specs.TypedPrograms.{IsTyped, IsTypedData, IsTypedCon, HasSignature, IsWrittenFnType}
use Rattle.px_terms.specs.Implied.{Closure}
use Rattle.px_terms.specs.Implied as implied
use Rattle.px_totality.specs.Laws.{IsContext}
use Rattle.px_totality.proofs.Instances.{nothing_is_some, one_item, written_types}
use Rattle.px_totality.proofs.Instances.{instances_are_types, instance_is_type, instances_twice, instance_twice}
use Rattle.px_totality.proofs.TypesOfTerms.{all_at, StandsIn, stands_in, fields_are_types, are_types_append}
use Rattle.px_totality.proofs.TypesOfTerms.{are_types_reversed, DataType, data_type, data_is_typed, type_of}
use Rattle.px_totality.proofs.ArgumentsFit.{closure_weaker}
use Rattle.px_soundness.proofs.TypesOfLists.{mapped_at, of_layer, weaker}

-- what holds of the value that is there holds of it
some_holds : {A : Type 0} (o : Option A) (Holds : A → Type 0) (x : A) → o ≡ Some x → IsSomeAnd o Holds → Holds x
some_holds o Holds x e h = let here : IsSomeAnd (Some x) Holds = subst (λ (o : Option _). IsSomeAnd o Holds) e h in here

-- anywhere each function may be called
pub may_call_anywhere : (Q : Program) (h : Head) (types : List Ty) → MayCall Q anywhere h types
may_call_anywhere Q (Def m) types = tt
may_call_anywhere Q Wle types = tt
may_call_anywhere Q Weq types = tt
may_call_anywhere Q (FnVar i) types = tt

-- and be passed
pub may_pass_anywhere : (Q : Program) (h : Head) → MayPass Q anywhere h
may_pass_anywhere Q (Def m) = tt
may_pass_anywhere Q Wle = tt
may_pass_anywhere Q Weq = tt
may_pass_anywhere Q (FnVar i) = tt

-- what is implied by what is known is known
pub closure_closed : (Less More : Prop → Type 0) → ((p : Prop) → Less p → Closure More p) → {p : Prop} → Closure Less p → Closure More p
closure_closed Less More closed (implied.known {p = p} k) = closed p k
closure_closed Less More closed (implied.sel_gives_idem k) = implied.sel_gives_idem (closure_closed Less More closed k)
closure_closed Less More closed (implied.conn_gives_refl k) = implied.conn_gives_refl (closure_closed Less More closed k)
closure_closed Less More closed (implied.asym_gives_irrefl k) = implied.asym_gives_irrefl (closure_closed Less More closed k)
closure_closed Less More closed (implied.asym_gives_antisym k) = implied.asym_gives_antisym (closure_closed Less More closed k)
closure_closed Less More closed (implied.irrefl_and_trans_give_asym k l) =
    implied.irrefl_and_trans_give_asym (closure_closed Less More closed k) (closure_closed Less More closed l)

-- The function of this number may stand where one of this type is wanted.
pub record ArgumentAt (Q : Program) (place : Place) (context : Context) (gs : List Fun) (i : ℕ) (F : FnType) : Type 0 where
  pub g : Fun
  pub at : slice_get gs i ≡ Some g
  pub is : IsArgument Q place context g F

pub argument_at : (Q : Program) (place : Place) (context : Context) {gs : List Fun} {takes : List FnType} (i : ℕ) (F : FnType) →
    AreArguments Q place context gs takes → slice_get takes i ≡ Some F → ArgumentAt Q place context gs i F
argument_at Q place context i F typing.none at = absurd (nothing_is_some F at)
argument_at Q place context zero F (typing.more {f = g} {wanted = G} first others) at = record {
  g = g;
  at = refl;
  is = subst (IsArgument Q place context g) (one_item G F at) first;
}
argument_at Q place context (suc i) F (typing.more {fs = gs} first others) at =
    let there : ArgumentAt Q place context gs i F = argument_at Q place context i F others at in
    record { g = there.g; at = there.at; is = there.is }

-- The term of this number is typed anywhere.
pub record PutIn (Q : Program) (context : Context) (terms : List Term) (i : ℕ) (T : Ty) : Type 0 where
  pub t : Term
  pub at : slice_get terms i ≡ Some t
  pub is : HasTypeLayer Q anywhere context [] (out-Term t) T

-- instances of types in reverse order
pub map_reversed : {A B : Type 0} (f : A → B) (xs : List A) → map f (reverse xs) ≡ reverse (map f xs)
map_reversed f [] = refl
map_reversed f (x ∷ xs) =
    ap (map f) (reverse-append (x ∷ []) xs) ∙ map-append f (reverse xs) (x ∷ []) ∙ ap (λ ys. ys ++ f x ∷ []) (map_reversed f xs)
    ∙ sym (reverse-append (f x ∷ []) (map f xs))

module _ (Q : Program) (typed : IsTyped Q) where
  -- the fields of a constructor of a datatype have types over as many variables as its type has arguments
  fields_over : (k d n : ℕ) (c : ConDef) (types : List Ty) (T : Ty) → constructor_at Q d n ≡ Some c → IsType Q k T → T ≡ type.Con d types →
      AreTypes Q (length types) c.fields
  fields_over k d n c types T found is e =
      let there : StandsIn Q d n c = stands_in Q d n c found in
      let D : DataDef = there.datatype in
      let of_data : IsTypedData Q D = data_is_typed Q typed d D there.found in
      let written : IsTypedCon Q D.tparams c = all_at (IsTypedCon Q D.tparams) D.cons n c of_data.cons there.stands in
      fields_are_types Q D types c (data_type Q k d D types T is e there.found).long written

  -- a function type's types are over as many variables as are put in: put in twice is put in once
  fn_types_twice : (ts us : List Ty) (m : ℕ) → length us ≡ m → (Fs : List FnType) → All (IsWrittenFnType Q m) Fs →
      map (fn_type_instance ts) (map (fn_type_instance us) Fs) ≡ map (fn_type_instance (tys_instance ts us)) Fs
  fn_types_twice ts us m long [] all = refl
  fn_types_twice ts us m long (F ∷ Fs) all =
      let is : IsWrittenFnType Q m F = All-head (IsWrittenFnType Q m) F Fs all in
      let params_over : AreTypes Q (length us) F.params = subst (λ (k : ℕ). AreTypes Q k F.params) (sym long) (written_types Q m F.params is.params) in
      let result_over : IsType Q (length us) F.result = subst (λ (k : ℕ). IsType Q k F.result) (sym long) is.result.is_type in
      let params : tys_instance ts (tys_instance us F.params) ≡ tys_instance (tys_instance ts us) F.params = instances_twice Q ts us params_over in
      let result : ty_instance ts (ty_instance us F.result) ≡ ty_instance (tys_instance ts us) F.result = instance_twice Q ts us F.result result_over in
      let others : map (fn_type_instance ts) (map (fn_type_instance us) Fs) ≡ map (fn_type_instance (tys_instance ts us)) Fs =
      fn_types_twice ts us m long Fs (All-tail (IsWrittenFnType Q m) F Fs all) in
      λ i. record { params = params i; result = result i; props = F.props } ∷ others i

  module _ (place : Place) (inner outer : Context) (is_context : IsContext Q inner) (ts : List Ty) (long : length ts ≡ inner.tparams)
      (are : AreTypes Q outer.tparams ts) (gs : List Fun) (fit : AreArguments Q anywhere outer gs (map (fn_type_instance ts) inner.funs)) where
    over : {types : List Ty} → AreTypes Q inner.tparams types → AreTypes Q (length ts) types
    over {types} are_types = subst (λ (k : ℕ). AreTypes Q k types) (sym long) are_types

    -- a type is one with the types put in
    put_in_type : (T : Ty) → IsType Q inner.tparams T → IsType Q outer.tparams (ty_instance ts T)
    put_in_type T is = instance_is_type Q outer.tparams ts are T (subst (λ (k : ℕ). IsType Q k T) (sym long) is)

    words_are : type.Word ∷ type.Word ∷ [] ≡ tys_instance ts (type.Word ∷ type.Word ∷ [])
    words_are = let word : type.Word ≡ ty_instance ts type.Word = sym (ty_instance-Word ts) in λ i. word i ∷ word i ∷ []

    bool_is : (T : Ty) → T ≡ bool_type → ty_instance ts T ≡ bool_type
    bool_is T e = ap (ty_instance ts) e ∙ ty_instance-Con ts 0 []

    variable_at : (i : ℕ) (F : FnType) → slice_get inner.funs i ≡ Some F → ArgumentAt Q anywhere outer gs i (fn_type_instance ts F)
    variable_at i F found = argument_at Q anywhere outer i (fn_type_instance ts F) fit (mapped_at (fn_type_instance ts) inner.funs i F found)

    -- a function with types and functions put in takes and gives what is put in for its types
    pub function_instance : {f : Fun} {takes : List FnType} {params : List Ty} {T : Ty} → IsFunction Q inner f takes params T →
        IsFunction Q outer (fun_instance ts gs f) (map (fn_type_instance ts) takes) (tys_instance ts params) (ty_instance ts T)
    function_instance (typing.of_definition {n = n} {types = us} {D = D} found many us_are takes_is params_is result_is) =
        let signature : HasSignature Q D = (typed.defs n D found).signature in
        let params_over : AreTypes Q (length us) D.params =
        subst (λ (k : ℕ). AreTypes Q k D.params) (sym many) (written_types Q D.tparams D.params signature.params) in
        let result_over : IsType Q (length us) D.result = subst (λ (k : ℕ). IsType Q k D.result) (sym many) signature.result.is_type in
        typing.of_definition {D = D} found (length-map us (ty_instance ts) ∙ many) (instances_are_types Q outer.tparams ts are (over us_are))
        (ap (map (fn_type_instance ts)) takes_is ∙ fn_types_twice ts us D.tparams many D.funs signature.funs.types)
        (ap (tys_instance ts) params_is ∙ instances_twice Q ts us params_over)
        (ap (ty_instance ts) result_is ∙ instance_twice Q ts us D.result result_over)
    function_instance (typing.at_most {T = T} is) =
        subst (λ (params : List Ty). IsFunction Q outer (record { head = Wle; types = [] }) [] params (ty_instance ts T)) words_are
        (typing.at_most (bool_is T is))
    function_instance (typing.equal {T = T} is) =
        subst (λ (params : List Ty). IsFunction Q outer (record { head = Weq; types = [] }) [] params (ty_instance ts T)) words_are
        (typing.equal (bool_is T is))
    function_instance (typing.of_variable {n = i} {params = params} {T = T} {F = F} found params_is result_is) =
        let there : ArgumentAt Q anywhere outer gs i (fn_type_instance ts F) = variable_at i F found in
        let same : there.g ≡ unwrap_or (slice_get gs i) (record { head = FnVar i; types = [] }) =
        sym (ap (λ (o : Option Fun). unwrap_or o (record { head = FnVar i; types = [] })) there.at) in
        subst (λ (g : Fun). IsFunction Q outer g [] (tys_instance ts params) (ty_instance ts T)) same
        (subst₂ (IsFunction Q outer there.g []) (sym (ap (tys_instance ts) params_is)) (sym (ap (ty_instance ts) result_is)) there.is.function)

    -- what is declared before a place is declared
    declared_anywhere : (n : ℕ) (p : Prop) → IsDeclaredBefore Q place n p → IsDeclaredBefore Q anywhere n p
    declared_anywhere n p d = record { number = d.number; earlier = tt; stands = d.stands }

    -- what is known of a function is known of it with types and functions put in
    pub known_instance : {f : Fun} {takes : List FnType} {params : List Ty} {T : Ty} → IsFunction Q inner f takes params T → (p : Prop) →
        IsKnown Q place inner f.head p → IsKnown Q anywhere outer (fun_instance ts gs f).head p
    known_instance (typing.of_definition {n = n} found many us_are takes_is params_is result_is) p before =
        closure_weaker (IsDeclaredBefore Q place n) (IsDeclaredBefore Q anywhere n) (declared_anywhere n) before
    known_instance (typing.at_most is) p before = before
    known_instance (typing.equal is) p before = before
    known_instance (typing.of_variable {n = i} {F = F} found params_is result_is) p before =
        let there : ArgumentAt Q anywhere outer gs i (fn_type_instance ts F) = variable_at i F found in
        let same : there.g ≡ unwrap_or (slice_get gs i) (record { head = FnVar i; types = [] }) =
        sym (ap (λ (o : Option Fun). unwrap_or o (record { head = FnVar i; types = [] })) there.at) in
        let Assumed : Prop → Type 0 = λ (p : Prop). IsSomeAnd (slice_get inner.funs i) (λ (F : FnType). HasProp F.props p) in
        subst (λ (g : Fun). IsKnown Q anywhere outer g.head p) same
        (closure_closed Assumed (IsSaid Q anywhere outer there.g.head)
        (λ q said. there.is.properties q (some_holds (slice_get inner.funs i) (λ (F : FnType). HasProp F.props q) F found said)) before)

    -- a function that may stand for a type may do so with types and functions put in
    pub argument_instance : (f : Fun) (wanted : FnType) → IsArgument Q place inner f wanted →
        IsArgument Q anywhere outer (fun_instance ts gs f) (fn_type_instance ts wanted)
    argument_instance f wanted is = record {
      function = function_instance is.function;
      may_pass = may_pass_anywhere Q (fun_instance ts gs f).head;
      types_met = λ i x below. tt;
      params_met = λ i x below. tt;
      result_met = tt;
      properties = λ p has. known_instance is.function p (is.properties p has);
    }

    pub arguments_instance : {fs : List Fun} {takes : List FnType} → AreArguments Q place inner fs takes →
        AreArguments Q anywhere outer (map (fun_instance ts gs) fs) (map (fn_type_instance ts) takes)
    arguments_instance typing.none = typing.none
    arguments_instance (typing.more {f = f} {wanted = wanted} is others) = typing.more (argument_instance f wanted is) (arguments_instance others)

    module _ (terms : List Term) (put_in : (i : ℕ) (T : Ty) → slice_get inner.vars i ≡ Some (Some T) → PutIn Q outer terms i (ty_instance ts T)) where
      abbrev sigma : Sigma
      sigma = record { types = ts; funs = gs; terms = terms }

      -- the instance of a term of this layer has the type
      abbrev Keeps : List Ty → Term → Ty → Type 0
      Keeps bound t T = HasTypeLayer Q anywhere outer (tys_instance ts bound) (out-Term (term_instance sigma t)) (ty_instance ts T)

      free_keeps : (bound : List Ty) (n : ℕ) (T : Ty) → slice_get inner.vars n ≡ Some (Some T) → Keeps bound (term.Free n) T
      free_keeps bound n T found =
          let there : PutIn Q outer terms n (ty_instance ts T) = put_in n T found in
          let same : there.t ≡ term_instance sigma (term.Free n) =
          sym (term_instance-Free sigma n ∙ ap (λ (o : Option Term). unwrap_or o (term.Free n)) there.at) in
          subst (λ (t : Term). HasTypeLayer Q anywhere outer (tys_instance ts bound) (out-Term t) (ty_instance ts T)) same
          (weaker Q anywhere outer there.is (tys_instance ts bound))

      -- what is typed under the fields of a constructor
      arm_bound : (us bound fields : List Ty) → AreTypes Q (length us) fields →
          tys_instance ts (reverse (tys_instance us fields) ++ bound) ≡ reverse (tys_instance (tys_instance ts us) fields) ++ tys_instance ts bound
      arm_bound us bound fields fields_are =
          map-append (ty_instance ts) (reverse (tys_instance us fields)) bound
          ∙ ap (λ (front : List Ty). front ++ tys_instance ts bound)
          (map_reversed (ty_instance ts) (tys_instance us fields) ∙ ap reverse (instances_twice Q ts us fields_are))

      mutual
        layer_keeps : {bound : List Ty} {y : Term-F Term} {T : Ty} → HasTypeLayer Q place inner bound y T → AreTypes Q inner.tparams bound →
            Keeps bound (roll-Term y) T
        layer_keeps {bound} (typing.free {n = n} {T = T} found met) around =
            subst (λ (t : Term). Keeps bound t T) (sym (term.rolls-Free n)) (free_keeps bound n T found)
        layer_keeps {bound} (typing.bound {n = n} {T = T} found met) around =
            subst (λ (t : Term). Keeps bound t T) (sym (term.rolls-Bound n))
            (of_layer Q anywhere outer (term_instance sigma (term.Bound n)) (ap out-Term (term_instance-Bound sigma n) ∙ term.outs-Bound n)
            (typing.bound (mapped_at (ty_instance ts) bound n T found) tt))
        layer_keeps {bound} (typing.lit {w = w} {T = T} small e) around =
            subst (λ (t : Term). Keeps bound t T) (sym (term.rolls-Lit w))
            (of_layer Q anywhere outer (term_instance sigma (term.Lit w)) (ap out-Term (term_instance-Lit sigma w) ∙ term.outs-Lit w)
            (typing.lit small (ap (ty_instance ts) e ∙ ty_instance-Word ts)))
        layer_keeps {bound} (typing.con {d = d} {k = k} {types = us} {fields = fields} {T = T} {c = c} found is e met have) around =
            let new : List Term = map (term_instance sigma) fields in
            let twice : tys_instance ts (tys_instance us c.fields) ≡ tys_instance (tys_instance ts us) c.fields =
            instances_twice Q ts us (fields_over inner.tparams d k c us T found is e) in
            subst (λ (t : Term). Keeps bound t T) (sym (term.rolls-Con d k us fields))
            (of_layer Q anywhere outer (term_instance sigma (term.Con d k us fields))
            (ap out-Term (term_instance-Con sigma d k us fields) ∙ term.outs-Con d k (tys_instance ts us) new)
            (typing.con found (put_in_type T is) (ap (ty_instance ts) e ∙ ty_instance-Con ts d us) tt
            (subst (HaveTypes Q anywhere outer (tys_instance ts bound) new) twice (all_keep have around))))
        layer_keeps {bound} (typing.call {f = f} {funs = funs} {args = args} {T = T} function may types_met met arguments have) around =
            subst (λ (t : Term). Keeps bound t T) (sym (term.rolls-Call f funs args))
            (of_layer Q anywhere outer (term_instance sigma (term.Call f funs args))
            (ap out-Term (term_instance-Call sigma f funs args)
            ∙ term.outs-Call (fun_instance ts gs f) (map (fun_instance ts gs) funs) (map (term_instance sigma) args))
            (typing.call (function_instance function) (may_call_anywhere Q (fun_instance ts gs f).head (fun_instance ts gs f).types) (λ i x below. tt) tt
            (arguments_instance arguments) (all_keep have around)))
        layer_keeps {bound} (typing.choose {on = on} {d = d} {types = us} {arms = arms} {T = T} {U = U} {D = D} is U_is found have) around =
            let of_data : IsTypedData Q D = data_is_typed Q typed d D found in
            let data_is : DataType Q inner.tparams D us = data_type Q inner.tparams d D us U (type_of Q typed place inner is_context is around) U_is found in
            subst (λ (t : Term). Keeps bound t T) (sym (term.rolls-Match on d us arms))
            (of_layer Q anywhere outer (term_instance sigma (term.Match on d us arms))
            (ap out-Term (term_instance-Match sigma on d us arms)
            ∙ term.outs-Match (term_instance sigma on) d (tys_instance ts us) (map (term_instance sigma) arms))
            (typing.choose (subst (λ (t : Term). Keeps bound t U) (roll-out-Term on) (layer_keeps is around))
            (ap (ty_instance ts) U_is ∙ ty_instance-Con ts d us) found
            (arms_keep have D.tparams of_data.cons data_is.long data_is.are around)))

        all_keep : {bound : List Ty} {parts : List Term} {types : List Ty} → HaveTypes Q place inner bound parts types → AreTypes Q inner.tparams bound →
            HaveTypes Q anywhere outer (tys_instance ts bound) (map (term_instance sigma) parts) (tys_instance ts types)
        all_keep typing.none around = typing.none
        all_keep {bound} (typing.more {t = t} {T = T} is others) around =
            typing.more (subst (λ (t : Term). Keeps bound t T) (roll-out-Term t) (layer_keeps is around)) (all_keep others around)

        arms_keep : {bound us : List Ty} {cs : List ConDef} {arms : List Term} {T : Ty} → HaveTypesInArms Q place inner bound us cs arms T → (m : ℕ) →
            All (IsTypedCon Q m) cs → length us ≡ m → AreTypes Q inner.tparams us → AreTypes Q inner.tparams bound →
            HaveTypesInArms Q anywhere outer (tys_instance ts bound) (tys_instance ts us) cs (map (term_instance sigma) arms) (ty_instance ts T)
        arms_keep typing.no_arm m cons many us_are around = typing.no_arm
        arms_keep {bound} (typing.arm {types = us} {c = c} {cs = cs} {body = body} {T = T} met is others) m cons many us_are around =
            let fields_are : AreTypes Q (length us) c.fields =
            subst (λ (n : ℕ). AreTypes Q n c.fields) (sym many) (written_types Q m c.fields (All-head (IsTypedCon Q m) c cs cons)) in
            let under : List Ty = reverse (tys_instance us c.fields) ++ bound in
            let under_are : AreTypes Q inner.tparams under =
            are_types_append Q inner.tparams (are_types_reversed Q inner.tparams (instances_are_types Q inner.tparams us us_are fields_are)) around in
            let kept : Keeps under body T = subst (λ (t : Term). Keeps under t T) (roll-out-Term body) (layer_keeps is under_are) in
            typing.arm (λ i x below. tt)
            (subst (λ (bound : List Ty). HasTypeLayer Q anywhere outer bound (out-Term (term_instance sigma body)) (ty_instance ts T))
            (arm_bound us bound c.fields fields_are) kept)
            (arms_keep others m (All-tail (IsTypedCon Q m) c cs cons) many us_are around)

      -- the instance of a typed term is typed
      pub instance_keeps : (t : Term) (T : Ty) → HasTypeLayer Q place inner [] (out-Term t) T →
          HasTypeLayer Q anywhere outer [] (out-Term (term_instance sigma t)) (ty_instance ts T)
      instance_keeps t T is = subst (λ (t : Term). Keeps [] t T) (roll-out-Term t) (layer_keeps is typing.none)
