-- A term that is changed part by part keeps its type: where types, functions and terms are put in for variables, where a term is put in
-- for one variable, and where there are more variables.
use Rattle.std.proofs.Common.{◌≡◌, ℕ, zero, suc, List, [], ◌∷◌, ◌++◌, map, reverse, length, Option, Some, slice_get, unwrap_or}
use Rattle.std.proofs.Common.{refl, sym, ap, ◌∙◌, subst, subst₂}
use Rattle.std.specs.List.{All}
use Rattle.std.specs.Option.{IsSomeAnd, option_map}
use Rattle.std.proofs.lemmas.List.{length-map, map-append, reverse-append, append_assoc}
use Rattle.std.proofs.lemmas.List.Elements.{All-head, All-tail}
use Rattle.std.proofs.lemmas.Option.{slice_get-map}
use Rattle.px_terms.specs.Prop.{Prop}
use Rattle.px_terms.specs.PropSets.{HasProp}
use Rattle.px_terms.specs.Head.{Head}
use Rattle.px_terms.specs.Head.TheVariants.{Def, Wle, Weq, FnVar}
use Rattle.px_terms.specs.declared.types.Ty.{Ty}
use Rattle.px_terms.specs.declared.types.Ty.TheVariants as type
use Rattle.px_terms.specs.declared.types.FnType.{FnType}
use Rattle.px_terms.specs.declared.types.Fun.{Fun}
use Rattle.px_terms.specs.declared.term.Term.{Term, out-Term, roll-Term}
use Rattle.px_terms.specs.declared.term.Term.TheVariants as term
use Rattle.px_terms.specs.declared.term.Term.TheViews.{roll-out-Term}
use Rattle.px_terms.specs.declared.term.Term.TheOpen.{Term-F}
use Rattle.px_terms.specs.declared.program.ConDef.{ConDef}
use Rattle.px_terms.specs.declared.program.Program.{Program}
use Rattle.px_terms.specs.declared.sequent.Context.{Context}
use Rattle.px_terms.specs.Types.{ty_instance, tys_instance, fn_type_instance, fun_instance}
use Rattle.px_terms.specs.TreeEquations.{ty_instance-Word, ty_instance-Con}
use Rattle.px_terms.specs.Programs.{bool_type}
use Rattle.px_terms.specs.Implied.{Closure}
use Rattle.px_terms.specs.Implied as implied
use Rattle.px_terms.specs.Typing.{Place, anywhere, IsType, AreTypes, IsFunction, IsMet, MayCall, MayPass, IsSaid, IsKnown}
use Rattle.px_terms.specs.Typing.{IsArgument, AreArguments, HasTypeLayer, HaveTypes, HaveTypesInArms, HasType}
use Rattle.px_terms.specs.Typing as typing
use Rattle.px_terms.specs.TypedPrograms.{IsTyped, IsTypedCon, IsWrittenFnType, HasSignature}
use Rattle.px_terms.specs.TypedSequents.{IsTypedContext}
use Rattle.px_totality.specs.Laws.{IsContext}
use Rattle.px_totality.proofs.Instances.{nothing_is_some, written_types, instances_twice, instance_twice}
use Rattle.px_totality.proofs.TypesOfTerms.{all_at, StandsIn, stands_in, DataType, data_type, data_is_typed, type_of, are_types_append, are_types_reversed}
use Rattle.px_totality.proofs.Instances.{instances_are_types}
use Rattle.px_totality.proofs.ArgumentsFit.{closure_weaker}

-- an item of the front is one of the whole
pub in_front : {A : Type 0} (xs ys : List A) (n : ℕ) (x : A) → slice_get xs n ≡ Some x → slice_get (xs ++ ys) n ≡ Some x
in_front [] ys n x at = absurd (nothing_is_some x at)
in_front (y ∷ xs) ys zero x at = at
in_front (y ∷ xs) ys (suc n) x at = in_front xs ys n x at

pub map-reverse : {A B : Type 0} (f : A → B) (xs : List A) → map f (reverse xs) ≡ reverse (map f xs)
map-reverse f [] = refl
map-reverse f (x ∷ xs) =
    ap (map f) (reverse-append (x ∷ []) xs)
    ∙ map-append f (reverse xs) (x ∷ [])
    ∙ ap (λ ys. ys ++ f x ∷ []) (map-reverse f xs)
    ∙ sym (reverse-append (f x ∷ []) (map f xs))

-- what is implied by what is implied is implied
pub closure_joined : (Knows : Prop → Type 0) → {p : Prop} → Closure (Closure Knows) p → Closure Knows p
closure_joined Knows (implied.known k) = k
closure_joined Knows (implied.sel_gives_idem k) = implied.sel_gives_idem (closure_joined Knows k)
closure_joined Knows (implied.conn_gives_refl k) = implied.conn_gives_refl (closure_joined Knows k)
closure_joined Knows (implied.asym_gives_irrefl k) = implied.asym_gives_irrefl (closure_joined Knows k)
closure_joined Knows (implied.asym_gives_antisym k) = implied.asym_gives_antisym (closure_joined Knows k)
closure_joined Knows (implied.irrefl_and_trans_give_asym k l) = implied.irrefl_and_trans_give_asym (closure_joined Knows k) (closure_joined Knows l)

pub some_holds : {A : Type 0} (o : Option A) (Holds : A → Type 0) (x : A) → o ≡ Some x → IsSomeAnd o Holds → Holds x
some_holds o Holds x e h = let here : IsSomeAnd (Some x) Holds = subst (λ (o : Option _). IsSomeAnd o Holds) e h in here

pub may_call_anywhere : (Q : Program) (h : Head) (types : List Ty) → MayCall Q anywhere h types
may_call_anywhere Q (Def m) types = tt
may_call_anywhere Q Wle types = tt
may_call_anywhere Q Weq types = tt
may_call_anywhere Q (FnVar i) types = tt

pub may_pass_anywhere : (Q : Program) (h : Head) → MayPass Q anywhere h
may_pass_anywhere Q (Def m) = tt
may_pass_anywhere Q Wle = tt
may_pass_anywhere Q Weq = tt
may_pass_anywhere Q (FnVar i) = tt

pub all_met : (types : List Ty) → All (IsMet anywhere) types
all_met types = λ i d within. tt

-- what is known at a place is known anywhere
pub known_anywhere : (Q : Program) (place : Place) (context : Context) (h : Head) {p : Prop} → IsKnown Q place context h p → IsKnown Q anywhere context h p
known_anywhere Q place context h k = closure_weaker (IsSaid Q place context h) (IsSaid Q anywhere context h) (said h) k
  where
    said : (h : Head) (p : Prop) → IsSaid Q place context h p → IsSaid Q anywhere context h p
    said (Def n) p d = record { number = d.number; earlier = tt; stands = d.stands }
    said Wle p s = s
    said Weq p s = s
    said (FnVar i) p s = s

-- Under more pattern variables a term has its type.
module _ {Q : Program} {place : Place} {context : Context} (outer : List Ty) where
  mutual
    pub widened : {bound : List Ty} {y : Term-F Term} {T : Ty} → HasTypeLayer Q place context bound y T → HasTypeLayer Q place context (bound ++ outer) y T
    widened (typing.free at met) = typing.free at met
    widened (typing.bound {bound = bound} {n = n} {T = T} at met) = typing.bound (in_front bound outer n T at) met
    widened (typing.lit small e) = typing.lit small e
    widened (typing.con found is e met have) = typing.con found is e met (all_widened have)
    widened (typing.call function may types_met met arguments have) = typing.call function may types_met met arguments (all_widened have)
    widened (typing.choose on e found arms) = typing.choose (widened on) e found (arms_widened arms)

    all_widened : {bound : List Ty} {ts : List Term} {types : List Ty} → HaveTypes Q place context bound ts types →
        HaveTypes Q place context (bound ++ outer) ts types
    all_widened typing.none = typing.none
    all_widened (typing.more has have) = typing.more (widened has) (all_widened have)

    arms_widened : {bound types : List Ty} {cs : List ConDef} {arms : List Term} {T : Ty} → HaveTypesInArms Q place context bound types cs arms T →
        HaveTypesInArms Q place context (bound ++ outer) types cs arms T
    arms_widened typing.no_arm = typing.no_arm
    arms_widened (typing.arm {bound = bound} {types = types} {c = c} {body = body} {T = T} met has arms) =
        typing.arm met (subst (λ (around : List Ty). HasTypeLayer Q place context around (out-Term body) T)
        (append_assoc (reverse (tys_instance types c.fields)) bound outer) (widened has)) (arms_widened arms)

-- the function that is put in for the function variable of this number: the variable itself, where there is none
abbrev pub put_function : List Fun → ℕ → Fun
put_function gs i = unwrap_or (slice_get gs i) (record { head = FnVar i; types = [] })

-- A change of terms that puts these types and functions in: it goes through to the parts.
pub record IsChange (ts : List Ty) (gs : List Fun) (op : Term → Term) : Type 0 where
  pub on_bound : (n : ℕ) → op (term.Bound n) ≡ term.Bound n
  pub on_lit : (w : ℕ) → op (term.Lit w) ≡ term.Lit w
  pub on_con : (d k : ℕ) (types : List Ty) (fields : List Term) → op (term.Con d k types fields) ≡ term.Con d k (tys_instance ts types) (map op fields)
  pub on_call : (f : Fun) (funs : List Fun) (args : List Term) →
      op (term.Call f funs args) ≡ term.Call (fun_instance ts gs f) (map (fun_instance ts gs) funs) (map op args)
  pub on_match : (on : Term) (d : ℕ) (types : List Ty) (arms : List Term) →
      op (term.Match on d types arms) ≡ term.Match (op on) d (tys_instance ts types) (map op arms)

-- What is put in for a function variable of this type has the type, and each property that is assumed.
pub record IsPut (Q : Program) (context : Context) (ts : List Ty) (g : Fun) (F : FnType) : Type 0 where
  pub function : IsFunction Q context g [] (tys_instance ts F.params) (ty_instance ts F.result)
  pub known : (p : Prop) → HasProp F.props p → IsKnown Q anywhere context g.head p

-- What is put in fits: types for types, functions for the old context's function variables, terms for its variables.
pub record PutsIn (Q : Program) (old new : Context) (ts : List Ty) (gs : List Fun) (op : Term → Term) : Type 0 where
  pub change : IsChange ts gs op
  pub types : (types : List Ty) → AreTypes Q old.tparams types → AreTypes Q new.tparams (tys_instance ts types)
  pub funs : (i : ℕ) (F : FnType) → slice_get old.funs i ≡ Some F → IsPut Q new ts (put_function gs i) F
  pub frees : (n : ℕ) (T : Ty) → slice_get old.vars n ≡ Some (Some T) → HasType Q anywhere new (op (term.Free n)) (ty_instance ts T)

module _ (Q : Program) (typed : IsTyped Q) (place : Place) (old new : Context) (is_context : IsTypedContext Q old) (ts : List Ty) (gs : List Fun)
    (op : Term → Term) (puts : PutsIn Q old new ts gs op) where
  type_put : (T : Ty) → IsType Q old.tparams T → IsType Q new.tparams (ty_instance ts T)
  type_put T is = go (puts.types (T ∷ []) (typing.more is typing.none))
    where
      go : AreTypes Q new.tparams (ty_instance ts T ∷ []) → IsType Q new.tparams (ty_instance ts T)
      go (typing.more first others) = first

  words_are : tys_instance ts (type.Word ∷ type.Word ∷ []) ≡ type.Word ∷ type.Word ∷ []
  words_are = let word : ty_instance ts type.Word ≡ type.Word = ty_instance-Word ts in λ i. word i ∷ word i ∷ []

  bool_is : (T : Ty) → T ≡ bool_type → ty_instance ts T ≡ bool_type
  bool_is T e = ap (ty_instance ts) e ∙ ty_instance-Con ts 0 []

  module _ (types : List Ty) where
    fn_type_twice : (F : FnType) → IsWrittenFnType Q (length types) F →
        fn_type_instance ts (fn_type_instance types F) ≡ fn_type_instance (tys_instance ts types) F
    fn_type_twice F is =
        let params : tys_instance ts (tys_instance types F.params) ≡ tys_instance (tys_instance ts types) F.params =
        instances_twice Q ts types (written_types Q (length types) F.params is.params) in
        let result : ty_instance ts (ty_instance types F.result) ≡ ty_instance (tys_instance ts types) F.result =
        instance_twice Q ts types F.result is.result.is_type in
        λ i. record { params = params i; result = result i; props = F.props }

    fn_types_twice : (Fs : List FnType) → All (IsWrittenFnType Q (length types)) Fs →
        map (fn_type_instance ts) (map (fn_type_instance types) Fs) ≡ map (fn_type_instance (tys_instance ts types)) Fs
    fn_types_twice [] all = refl
    fn_types_twice (F ∷ Fs) all =
        let first = fn_type_twice F (All-head (IsWrittenFnType Q (length types)) F Fs all) in
        let others = fn_types_twice Fs (All-tail (IsWrittenFnType Q (length types)) F Fs all) in
        λ i. first i ∷ others i

  -- a function with types and functions put in takes and gives what it did, with these types put in
  pub function_put : {f : Fun} {takes : List FnType} {params : List Ty} {T : Ty} → IsFunction Q old f takes params T →
      IsFunction Q new (fun_instance ts gs f) (map (fn_type_instance ts) takes) (tys_instance ts params) (ty_instance ts T)
  function_put (typing.of_definition {n = n} {types = types} {params = params} {takes = takes} {T = T} {D = D} found many are takes_is params_is result_is) =
      let signature : HasSignature Q D = (typed.defs n D found).signature in
      let funs : All (IsWrittenFnType Q (length types)) D.funs =
      subst (λ (k : ℕ). All (IsWrittenFnType Q k) D.funs) (sym many) signature.funs.types in
      let params_over : AreTypes Q (length types) D.params =
      subst (λ (k : ℕ). AreTypes Q k D.params) (sym many) (written_types Q D.tparams D.params signature.params) in
      let result_over : IsType Q (length types) D.result = subst (λ (k : ℕ). IsType Q k D.result) (sym many) signature.result.is_type in
      typing.of_definition {D = D} found (length-map types (ty_instance ts) ∙ many) (puts.types types are)
      (ap (map (fn_type_instance ts)) takes_is ∙ fn_types_twice types D.funs funs)
      (ap (tys_instance ts) params_is ∙ instances_twice Q ts types params_over)
      (ap (ty_instance ts) result_is ∙ instance_twice Q ts types D.result result_over)
  function_put (typing.at_most {T = T} is) =
      subst (λ (params : List Ty). IsFunction Q new (record { head = Wle; types = [] }) [] params (ty_instance ts T)) (sym words_are)
      (typing.at_most (bool_is T is))
  function_put (typing.equal {T = T} is) =
      subst (λ (params : List Ty). IsFunction Q new (record { head = Weq; types = [] }) [] params (ty_instance ts T)) (sym words_are)
      (typing.equal (bool_is T is))
  function_put (typing.of_variable {n = i} {params = params} {T = T} {F = F} found params_is result_is) =
      subst₂ (IsFunction Q new (put_function gs i) []) (sym (ap (tys_instance ts) params_is)) (sym (ap (ty_instance ts) result_is))
      (puts.funs i F found).function

  -- what is known of a function is known of it with types and functions put in
  known_put : {f : Fun} {takes : List FnType} {params : List Ty} {T : Ty} → IsFunction Q old f takes params T → (p : Prop) → IsKnown Q place old f.head p →
      IsKnown Q anywhere new (fun_instance ts gs f).head p
  known_put (typing.of_definition {n = n} {D = D} found many are takes_is params_is result_is) p k =
      closure_weaker (IsSaid Q place old (Def n)) (IsSaid Q anywhere new (Def n))
      (λ q d. record { number = d.number; earlier = tt; stands = d.stands }) k
  known_put (typing.at_most is) p k = closure_weaker (IsSaid Q place old Wle) (IsSaid Q anywhere new Wle) (λ q s. s) k
  known_put (typing.equal is) p k = closure_weaker (IsSaid Q place old Weq) (IsSaid Q anywhere new Weq) (λ q s. s) k
  known_put (typing.of_variable {n = i} {F = F} found params_is result_is) p k =
      let put : IsPut Q new ts (put_function gs i) F = puts.funs i F found in
      let g : Fun = put_function gs i in
      closure_joined (IsSaid Q anywhere new g.head)
      (closure_weaker (IsSaid Q place old (FnVar i)) (IsKnown Q anywhere new g.head)
      (λ q s. put.known q (some_holds (slice_get old.funs i) (λ (F : FnType). HasProp F.props q) F found s)) k)

  argument_put : {f : Fun} {wanted : FnType} → IsArgument Q place old f wanted → IsArgument Q anywhere new (fun_instance ts gs f) (fn_type_instance ts wanted)
  argument_put {f} {wanted} a = record {
    function = function_put a.function;
    may_pass = may_pass_anywhere Q (fun_instance ts gs f).head;
    types_met = all_met (fun_instance ts gs f).types;
    params_met = all_met (tys_instance ts wanted.params);
    result_met = tt;
    properties = λ p has. known_put a.function p (a.properties p has);
  }

  arguments_put : {fs : List Fun} {takes : List FnType} → AreArguments Q place old fs takes →
      AreArguments Q anywhere new (map (fun_instance ts gs) fs) (map (fn_type_instance ts) takes)
  arguments_put typing.none = typing.none
  arguments_put (typing.more is are) = typing.more (argument_put is) (arguments_put are)

  -- the fields of a constructor have the types with these put in
  fields_twice : (types : List Ty) (c : ConDef) (m : ℕ) → length types ≡ m → IsTypedCon Q m c →
      tys_instance ts (tys_instance types c.fields) ≡ tys_instance (tys_instance ts types) c.fields
  fields_twice types c m long is =
      instances_twice Q ts types (subst (λ (k : ℕ). AreTypes Q k c.fields) (sym long) (written_types Q m c.fields is))

  -- by what a layer becomes
  becomes : (bound : List Ty) (y z : Term-F Term) (t u : Term) (T : Ty) → roll-Term y ≡ t → op t ≡ u → out-Term u ≡ z →
      HasTypeLayer Q anywhere new bound z T → HasTypeLayer Q anywhere new bound (out-Term (op (roll-Term y))) T
  becomes bound y z t u T rolls is outs has =
      subst (λ (z : Term-F Term). HasTypeLayer Q anywhere new bound z T) (sym (ap (λ (t : Term). out-Term (op t)) rolls ∙ ap out-Term is ∙ outs)) has

  of_term : (bound : List Ty) (t : Term) (T : Ty) → HasTypeLayer Q anywhere new bound (out-Term (op (roll-Term (out-Term t)))) T →
      HasTypeLayer Q anywhere new bound (out-Term (op t)) T
  of_term bound t T has = subst (λ (t : Term). HasTypeLayer Q anywhere new bound (out-Term (op t)) T) (roll-out-Term t) has

  context_is : IsContext Q old
  context_is = record { vars = is_context.vars; results = is_context.results }

  mutual
    layer_put : {bound : List Ty} {y : Term-F Term} {T : Ty} → HasTypeLayer Q place old bound y T → AreTypes Q old.tparams bound →
        HasTypeLayer Q anywhere new (tys_instance ts bound) (out-Term (op (roll-Term y))) (ty_instance ts T)
    layer_put {bound} (typing.free {n = n} {T = T} at met) around =
        subst (λ (t : Term). HasTypeLayer Q anywhere new (tys_instance ts bound) (out-Term (op t)) (ty_instance ts T)) (sym (term.rolls-Free n))
        (widened (tys_instance ts bound) (puts.frees n T at))
    layer_put {bound} (typing.bound {n = n} {T = T} at met) around =
        let there : slice_get (tys_instance ts bound) n ≡ Some (ty_instance ts T) =
        slice_get-map (ty_instance ts) bound n ∙ ap (option_map (ty_instance ts)) at in
        becomes (tys_instance ts bound) (Term-F.Bound n) (Term-F.Bound n) (term.Bound n) (term.Bound n) (ty_instance ts T) (term.rolls-Bound n)
        (puts.change.on_bound n) (term.outs-Bound n) (typing.bound there tt)
    layer_put {bound} (typing.lit {w = w} {T = T} small e) around =
        becomes (tys_instance ts bound) (Term-F.Lit w) (Term-F.Lit w) (term.Lit w) (term.Lit w) (ty_instance ts T) (term.rolls-Lit w)
        (puts.change.on_lit w) (term.outs-Lit w) (typing.lit small (ap (ty_instance ts) e ∙ ty_instance-Word ts))
    layer_put {bound} (typing.con {d = d} {k = k} {types = types} {fields = fields} {T = T} {c = c} found is e met have) around =
        let stands : StandsIn Q d k c = stands_in Q d k c found in
        let long : length types ≡ stands.datatype.tparams = (data_type Q old.tparams d stands.datatype types T is e stands.found).long in
        let con_typed : IsTypedCon Q stands.datatype.tparams c =
        all_at (IsTypedCon Q stands.datatype.tparams) stands.datatype.cons k c (data_is_typed Q typed d stands.datatype stands.found).cons stands.stands in
        becomes (tys_instance ts bound) (Term-F.Con d k types fields) (Term-F.Con d k (tys_instance ts types) (map op fields)) (term.Con d k types fields)
        (term.Con d k (tys_instance ts types) (map op fields)) (ty_instance ts T) (term.rolls-Con d k types fields) (puts.change.on_con d k types fields)
        (term.outs-Con d k (tys_instance ts types) (map op fields))
        (typing.con {c = c} found (type_put T is) (ap (ty_instance ts) e ∙ ty_instance-Con ts d types) tt
        (subst (HaveTypes Q anywhere new (tys_instance ts bound) (map op fields)) (fields_twice types c stands.datatype.tparams long con_typed)
        (terms_put have around)))
    layer_put {bound} (typing.call {f = f} {funs = funs} {args = args} {T = T} function may types_met met arguments have) around =
        becomes (tys_instance ts bound) (Term-F.Call f funs args) (Term-F.Call (fun_instance ts gs f) (map (fun_instance ts gs) funs) (map op args))
        (term.Call f funs args) (term.Call (fun_instance ts gs f) (map (fun_instance ts gs) funs) (map op args)) (ty_instance ts T)
        (term.rolls-Call f funs args) (puts.change.on_call f funs args)
        (term.outs-Call (fun_instance ts gs f) (map (fun_instance ts gs) funs) (map op args))
        (typing.call (function_put function) (may_call_anywhere Q (fun_instance ts gs f).head (fun_instance ts gs f).types)
        (all_met (fun_instance ts gs f).types) tt (arguments_put arguments) (terms_put have around))
    layer_put {bound} (typing.choose {on = on} {d = d} {types = types} {arms = arms} {T = T} {U = U} {D = D} on_is e found have) around =
        let of_data : DataType Q old.tparams D types =
        data_type Q old.tparams d D types U (type_of Q typed place old context_is on_is around) e found in
        becomes (tys_instance ts bound) (Term-F.Match on d types arms) (Term-F.Match (op on) d (tys_instance ts types) (map op arms))
        (term.Match on d types arms) (term.Match (op on) d (tys_instance ts types) (map op arms)) (ty_instance ts T)
        (term.rolls-Match on d types arms) (puts.change.on_match on d types arms) (term.outs-Match (op on) d (tys_instance ts types) (map op arms))
        (typing.choose {D = D} (of_term (tys_instance ts bound) on (ty_instance ts U) (layer_put on_is around))
        (ap (ty_instance ts) e ∙ ty_instance-Con ts d types) found
        (arms_put have D.tparams (data_is_typed Q typed d D found).cons of_data.long of_data.are around))

    terms_put : {bound : List Ty} {terms : List Term} {types : List Ty} → HaveTypes Q place old bound terms types → AreTypes Q old.tparams bound →
        HaveTypes Q anywhere new (tys_instance ts bound) (map op terms) (tys_instance ts types)
    terms_put typing.none around = typing.none
    terms_put {bound} (typing.more {t = t} {T = T} has have) around =
        typing.more (of_term (tys_instance ts bound) t (ty_instance ts T) (layer_put has around)) (terms_put have around)

    arms_put : {bound types : List Ty} {cs : List ConDef} {arms : List Term} {T : Ty} → HaveTypesInArms Q place old bound types cs arms T → (m : ℕ) →
        All (IsTypedCon Q m) cs → length types ≡ m → AreTypes Q old.tparams types → AreTypes Q old.tparams bound →
        HaveTypesInArms Q anywhere new (tys_instance ts bound) (tys_instance ts types) cs (map op arms) (ty_instance ts T)
    arms_put typing.no_arm m cons long are around = typing.no_arm
    arms_put {bound} (typing.arm {types = types} {c = c} {cs = cs} {body = body} {T = T} met has arms) m cons long are around =
        let con_typed : IsTypedCon Q m c = All-head (IsTypedCon Q m) c cs cons in
        let fields : AreTypes Q (length types) c.fields = subst (λ (n : ℕ). AreTypes Q n c.fields) (sym long) (written_types Q m c.fields con_typed) in
        let are_fields : AreTypes Q old.tparams (tys_instance types c.fields) = instances_are_types Q old.tparams types are fields in
        let inner : AreTypes Q old.tparams (reverse (tys_instance types c.fields) ++ bound) =
        are_types_append Q old.tparams (are_types_reversed Q old.tparams are_fields) around in
        let same : tys_instance ts (reverse (tys_instance types c.fields) ++ bound)
        ≡ reverse (tys_instance (tys_instance ts types) c.fields) ++ tys_instance ts bound =
        map-append (ty_instance ts) (reverse (tys_instance types c.fields)) bound
        ∙ ap (λ (front : List Ty). front ++ tys_instance ts bound) (map-reverse (ty_instance ts) (tys_instance types c.fields))
        ∙ ap (λ (front : List Ty). reverse front ++ tys_instance ts bound) (fields_twice types c m long con_typed) in
        typing.arm (all_met (tys_instance (tys_instance ts types) c.fields))
        (subst (λ (around : List Ty). HasTypeLayer Q anywhere new around (out-Term (op body)) (ty_instance ts T)) same
        (of_term (tys_instance ts (reverse (tys_instance types c.fields) ++ bound)) body (ty_instance ts T) (layer_put has inner)))
        (arms_put arms m (All-tail (IsTypedCon Q m) c cs cons) long are around)

  -- a changed term has its type, with these types put in
  pub term_changed : (t : Term) (T : Ty) → HasType Q place old t T → HasType Q anywhere new (op t) (ty_instance ts T)
  term_changed t T has = of_term [] t (ty_instance ts T) (layer_put has typing.none)
