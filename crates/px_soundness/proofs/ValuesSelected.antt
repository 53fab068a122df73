-- An arm with the fields of its constructor put in for its pattern variables has the value that it has where the fields' values are bound.
use Rattle.std.proofs.Common.{◌≡◌, ℕ, zero, suc, ◌+◌, List, [], ◌∷◌, ◌++◌, map, reverse, length, Option, Some, slice_get, option_map, unwrap_or, refl, sym}
use Rattle.std.proofs.Common.{ap}
use Rattle.std.proofs.Common.{◌∙◌, ◌<◌, ◌^◌, subst, append_assoc, arith}
use Rattle.std.proofs.lemmas.Option.{none-some, same_Some, slice_get-map}
use Rattle.std.proofs.lemmas.List.{append-nil, length-append, length-map, length-reverse, map-append, reverse-append}
use Rattle.px_terms.specs.declared.types.Ty.{Ty}
use Rattle.px_terms.specs.declared.types.Ty.TheVariants as type
use Rattle.px_terms.specs.declared.types.Ty.TheOpen.{Ty-F}
use Rattle.px_terms.specs.declared.types.FnType.{FnType}
use Rattle.px_terms.specs.declared.types.Fun.{Fun}
use Rattle.px_terms.specs.declared.term.Term.{Term, out-Term}
use Rattle.px_terms.specs.declared.term.Term.TheVariants.{Free, Bound, Lit, Con, Call, Match, outs-Free, outs-Bound, outs-Lit, outs-Con, outs-Call}
use Rattle.px_terms.specs.declared.term.Term.TheVariants.{outs-Match}
use Rattle.px_terms.specs.declared.term.Term.TheOpen.{Term-F}
use Rattle.px_terms.specs.declared.term.Term.TheFolds.{fold-Term, map-Term, fold_out-Term}
use Rattle.px_terms.specs.declared.term.Value.{Value, out-Value}
use Rattle.px_terms.specs.declared.term.Value.TheVariants as value
use Rattle.px_terms.specs.declared.program.ConDef.{ConDef}
use Rattle.px_terms.specs.declared.program.DataDef.{DataDef}
use Rattle.px_terms.specs.declared.program.Program.{Program}
use Rattle.px_terms.specs.declared.sequent.Context.{Context}
use Rattle.px_terms.specs.Types.{numbers_from, ty_instance, tys_instance}
use Rattle.px_terms.specs.TreeEquations.{ty_instance-Word, ty_instance-Con}
use Rattle.px_terms.specs.Programs.{constructor_at}
use Rattle.px_terms.specs.Steps.{around_part, arms_with, fields_step, with_fields}
use Rattle.px_terms.specs.Values.{IsInLayer, IsIn, AreIn}
use Rattle.px_terms.specs.Values as values
use Rattle.px_terms.specs.Meaning.{chosen, bind, MeansOf, MeanAll, free, bound, lit, con, choose, call, none, more}
use Rattle.px_terms.specs.Typing.{Place, IsType, AreTypes, HasTypeLayer, HaveTypes, HaveTypesInArms}
use Rattle.px_terms.specs.Typing as typing
use Rattle.px_terms.specs.TypedPrograms.{IsTypedData, IsTypedCon}
use Rattle.px_terms.specs.Descent.{Standing, elsewhere, field_count}
use Rattle.px_terms.specs.Extending.{IsWellFounded}
use Rattle.px_totality.specs.Laws.{IsContext}
use Rattle.px_totality.proofs.Instances.{nothing_is_some, one_item, instances_are_types, instances_twice}
use Rattle.px_totality.proofs.Sizes.{AllStand, none_stands, more_stand}
use Rattle.px_totality.proofs.TypesOfTerms.{all_at, stands_in, StandsIn, constructor_of, are_types_append, are_types_reversed, DataType, data_type}
use Rattle.px_totality.proofs.TypesOfTerms.{data_is_typed, fields_are_types, type_of}
use Rattle.px_totality.proofs.Total.{AreTotal}
use Rattle.px_totality.proofs.Calls.{CallsGive, AllMeant, Called, arguments_meant, call_gives}
use Rattle.px_totality.proofs.EachIsTotal.{each_gives, passed_total}
use Rattle.px_totality.proofs.Unique.{unique}
use Rattle.px_totality.proofs.Valued.{IsBuilt, built, FitVariables, are_in_append, as_many}
use Rattle.px_soundness.proofs.Forward.{HasMeaning, HaveMeanings, layer_means, same_term, more_bound_all}
use Rattle.px_soundness.proofs.ValuesPutIn.{value_at}

-- The value at this place is in its type.
record IsInAt (Q : Program) (T : Ty) (vs : List Value) (i : ℕ) : Type 0 where
  v : Value
  at : slice_get vs i ≡ Some v
  is_in : IsIn Q T v

in_at : (Q : Program) {types : List Ty} {vs : List Value} (i : ℕ) (T : Ty) → AreIn Q types vs → slice_get types i ≡ Some T → IsInAt Q T vs i
in_at Q i T values.none at = absurd (nothing_is_some T at)
in_at Q zero T (values.more {T = S} {v = v} first others) at = record { v = v; at = refl; is_in = subst (λ (T : Ty). IsIn Q T v) (one_item S T at) first }
in_at Q (suc i) T (values.more {values = vs} first others) at =
    let there : IsInAt Q T vs i = in_at Q i T others at in
    record { v = there.v; at = there.at; is_in = there.is_in }

pub are_in_reversed : (Q : Program) {types : List Ty} {vs : List Value} → AreIn Q types vs → AreIn Q (reverse types) (reverse vs)
are_in_reversed Q values.none = values.none
are_in_reversed Q (values.more {T = T} {types = types} {v = v} {values = vs} first others) =
    subst (λ (types : List Ty). AreIn Q types (reverse (v ∷ vs))) (sym (reverse-append (T ∷ []) types))
    (subst (AreIn Q (reverse types ++ T ∷ [])) (sym (reverse-append (v ∷ []) vs))
    (are_in_append Q (are_in_reversed Q others) (values.more first values.none)))

pub map_reversed : {A B : Type 0} (f : A → B) (xs : List A) → map f (reverse xs) ≡ reverse (map f xs)
map_reversed f [] = refl
map_reversed f (x ∷ xs) =
    ap (map f) (reverse-append (x ∷ []) xs) ∙ map-append f (reverse xs) (x ∷ []) ∙ ap (λ ys. ys ++ f x ∷ []) (map_reversed f xs)
    ∙ sym (reverse-append (f x ∷ []) (map f xs))

-- values are something to parameters
all_elsewhere : (rho vs : List Value) → (args : List Standing) × AllStand rho args vs
all_elsewhere rho [] = ([], none_stands)
all_elsewhere rho (v ∷ vs) =
    let others = all_elsewhere rho vs in
    (elsewhere ∷ others.0, more_stand {s = elsewhere} tt others.1)

-- anything that is called or passed gives a value, wherever it stands
pub all_give : (Q : Program) (founded : IsWellFounded Q) (place : Place) (types : List Ty) (rho : List Value) →
    CallsGive Q place types rho 0 (λ (args : List Standing). Unit {0})
all_give Q founded place types rho = record {
  called = λ m D ts hs args vs found may many ground totals stand self are.
      (each_gives Q founded.typed founded.descends m).at D found (tys_instance types ts) (length-map ts (ty_instance types) ∙ many) ground hs totals vs are;
  passed = λ m D ts found may many ground none.
      passed_total Q founded.typed m D (tys_instance types ts) (each_gives Q founded.typed founded.descends m) found
      (length-map ts (ty_instance types) ∙ many) ground none;
}

-- how many fields a constructor has is how many values are in their types
pub field_count_is : (Q : Program) (d k : ℕ) (c : ConDef) (types : List Ty) (vs : List Value) → constructor_at Q d k ≡ Some c →
    AreIn Q (tys_instance types c.fields) vs → field_count Q d k ≡ length vs
field_count_is Q d k c types vs found are =
    ap (λ (o : Option ConDef). unwrap_or (option_map (λ (c : ConDef). length c.fields) o) 0) found
    ∙ sym (length-map c.fields (ty_instance types)) ∙ as_many Q are

module _ (P : Program) (types : List Ty) (funs : List Fun) (rho inside : List Value) where
  pub mean_append : {ts us : List Term} {vs ws : List Value} → HaveMeanings P types funs rho inside ts vs → HaveMeanings P types funs rho inside us ws →
      HaveMeanings P types funs rho inside (ts ++ us) (vs ++ ws)
  mean_append {us = us} {ws = ws} first others = go first.1
    where
      go : {ts : List Term} {vs : List Value} {c : ℕ} → MeanAll P types funs rho inside ts vs c → HaveMeanings P types funs rho inside (ts ++ us) (vs ++ ws)
      go none = others
      go (more {a = a} means mean total) = let there = go mean in (a + there.0, more means there.1 refl)

  mean_reversed : {ts : List Term} {vs : List Value} {c : ℕ} → MeanAll P types funs rho inside ts vs c →
      HaveMeanings P types funs rho inside (reverse ts) (reverse vs)
  mean_reversed none = (0, none)
  mean_reversed (more {t = t} {ts = ts} {v = v} {vs = vs} {a = a} means mean total) =
      let joined : HaveMeanings P types funs rho inside (reverse ts ++ t ∷ []) (reverse vs ++ v ∷ []) =
      mean_append {us = t ∷ []} {ws = v ∷ []} (mean_reversed mean) (a + 0, more means none refl) in
      subst (λ (ts : List Term). HaveMeanings P types funs rho inside ts (reverse (v ∷ vs))) (sym (reverse-append (t ∷ []) ts))
      (subst (HaveMeanings P types funs rho inside (reverse ts ++ t ∷ [])) (sym (reverse-append (v ∷ []) vs)) joined)

  -- pattern variables mean their values
  own_mean : (rest : List Value) (start : ℕ) → ((i : ℕ) → slice_get inside (start + i) ≡ slice_get rest i) →
      HaveMeanings P types funs rho inside (map (λ (i : ℕ). Bound i) (numbers_from start (length rest))) rest
  own_mean [] start same = (0, none)
  own_mean (v ∷ rest) start same =
      let zeroth : start + 0 ≡ start = omega arith in
      let here : slice_get inside start ≡ Some v = ap (slice_get inside) (sym zeroth) ∙ same 0 in
      let first : HasMeaning P types funs rho inside (Bound start) v =
      layer_means P types funs rho inside (Bound start) (Term-F.Bound start) v 0 (outs-Bound start) (bound here) in
      let others : HaveMeanings P types funs rho inside (map (λ (i : ℕ). Bound i) (numbers_from (start + 1) (length rest))) rest =
      own_mean rest (start + 1) (λ i. let one : (start + 1) + i ≡ start + suc i = omega arith in ap (slice_get inside) one ∙ same (suc i)) in
      (first.0 + others.0, more first.1 others.1 refl)

module _ (P : Program) (fields : List Term) where
  -- a term with the fields put in, under so many pattern variables of inner arms
  abbrev pub put_in : Term → ℕ → Term
  put_in = fold-Term (ℕ → Term) (fields_step P fields)

  -- the same of a layer
  abbrev pub put_of : Term-F Term → ℕ → Term
  put_of y = fields_step P fields (map-Term Term (ℕ → Term) put_in y)

  pub put_is : (t : Term) (level : ℕ) → put_of (out-Term t) level ≡ put_in t level
  put_is t level = ap (λ (f : ℕ → Term). f level) (sym (fold_out-Term (ℕ → Term) (fields_step P fields) t))

  -- the arm of this number, with the fields put in
  pub arm_with : (d j i : ℕ) (arms : List Term) (arm : Term) (level : ℕ) → slice_get arms i ≡ Some arm →
      slice_get (arms_with P d j (map put_in arms) level) i ≡ Some (put_in arm (field_count P d (j + i) + level))
  arm_with d j i [] arm level at = absurd (none-some arm at)
  arm_with d j zero (t ∷ arms) arm level at =
      let same : t ≡ arm = same_Some t arm at in
      let zeroth : j ≡ j + 0 = omega arith in
      ap (λ (t : Term). Some (put_in t (field_count P d j + level))) same ∙ ap (λ (k : ℕ). Some (put_in arm (field_count P d k + level))) zeroth
  arm_with d j (suc i) (t ∷ arms) arm level at =
      let one : (j + 1) + i ≡ j + suc i = omega arith in
      arm_with d (j + 1) i arms arm level at ∙ ap (λ (k : ℕ). Some (put_in arm (field_count P d k + level))) one

module _ (Q : Program) (founded : IsWellFounded Q) (place : Place) (context : Context) (is_context : IsContext Q context) (ts : List Ty)
    (long : length ts ≡ context.tparams) (ground : AreTypes Q 0 ts) (gs : List Fun) (given : AreTotal Q ts context.funs gs) (rho : List Value)
    (fit : FitVariables Q ts context.vars rho) (fields : List Term) (us : List Value) (a : ℕ) (fields_mean : MeanAll Q ts gs rho [] fields us a) where
  over : {types : List Ty} → AreTypes Q context.tparams types → AreTypes Q (length ts) types
  over {types} are = subst (λ (k : ℕ). AreTypes Q k types) (sym long) are

  -- What is around the pattern variables' terms: their types and values, those of inner arms and then the fields'.
  pub record Around (types : List Ty) (mids : List Value) : Type 0 where
    pub are_types : AreTypes Q context.tparams types
    pub are_in : AreIn Q (tys_instance ts types) (mids ++ reverse us)

  -- The layer has a value of the type, and keeps it with the fields put in.
  pub record Both (mids : List Value) (y : Term-F Term) (T : Ty) : Type 0 where
    pub v : Value
    pub count : ℕ
    pub means : MeansOf Q ts gs rho (mids ++ reverse us) y v count
    pub put : HasMeaning Q ts gs rho mids (put_of Q fields y (length mids)) v
    pub in_type : IsIn Q (ty_instance ts T) v

  -- The terms have values of the types, and keep them with the fields put in.
  record AllBoth (mids : List Value) (terms : List Term) (types : List Ty) : Type 0 where
    vs : List Value
    count : ℕ
    mean : MeanAll Q ts gs rho (mids ++ reverse us) terms vs count
    put : HaveMeanings Q ts gs rho mids (map (λ (part : ℕ → Term). part (length mids)) (map (put_in Q fields) terms)) vs
    in_types : AreIn Q (tys_instance ts types) vs

  -- The arm of this number has a value of the type, and keeps it with the fields put in.
  record ArmBoth (d j i : ℕ) (mids : List Value) (arms : List Term) (ws : List Value) (T : Ty) : Type 0 where
    body : Term
    at : slice_get arms i ≡ Some body
    v : Value
    count : ℕ
    means : MeansOf Q ts gs rho (bind ws (mids ++ reverse us)) (out-Term body) v count
    put : HasMeaning Q ts gs rho (bind ws mids) (put_in Q fields body (field_count Q d (j + i) + length mids)) v
    in_type : IsIn Q (ty_instance ts T) v

  -- a pattern variable's part has its value
  part_has : (mids : List Value) (i : ℕ) (v : Value) → slice_get (mids ++ reverse us) i ≡ Some v →
      HasMeaning Q ts gs rho mids (unwrap_or (slice_get (around_part (length mids) fields) i) (Bound i)) v
  part_has mids i v at =
      let own : HaveMeanings Q ts gs rho mids (map (λ (i : ℕ). Bound i) (numbers_from 0 (length mids))) mids =
      own_mean Q ts gs rho mids mids 0 (λ i. let same : 0 + i ≡ i = omega arith in ap (slice_get mids) same) in
      let outer : HaveMeanings Q ts gs rho mids (reverse fields) (reverse us) =
      mean_reversed Q ts gs rho mids (more_bound_all Q ts gs rho mids [] fields us a fields_mean) in
      let whole : HaveMeanings Q ts gs rho mids (around_part (length mids) fields) (mids ++ reverse us) =
      mean_append Q ts gs rho mids {us = reverse fields} {ws = reverse us} own outer in
      let there = value_at Q ts gs rho mids (around_part (length mids) fields) (mids ++ reverse us) whole.0 i v whole.1 at in
      let is : there.0 ≡ unwrap_or (slice_get (around_part (length mids) fields) i) (Bound i) = sym (ap (λ o. unwrap_or o (Bound i)) there.1) in
      same_term Q ts gs rho mids there.0 (unwrap_or (slice_get (around_part (length mids) fields) i) (Bound i)) v is there.2

  -- What is asked of the constructor that chooses an arm: the one of this number, from constructor j on.
  pub record Chosen (d j i : ℕ) (types : List Ty) (cs : List ConDef) (ws : List Value) : Type 0 where
    pub c : ConDef
    pub at : slice_get cs i ≡ Some c
    pub found : constructor_at Q d (j + i) ≡ Some c
    pub are : AreTypes Q context.tparams types
    pub field_types : AreTypes Q (length types) c.fields
    pub in_fields : AreIn Q (tys_instance (tys_instance ts types) c.fields) ws

  later_chosen : (d j i : ℕ) (types : List Ty) (c : ConDef) (cs : List ConDef) (ws : List Value) → Chosen d j (suc i) types (c ∷ cs) ws →
      Chosen d (j + 1) i types cs ws
  later_chosen d j i types c cs ws it =
      let place : j + suc i ≡ (j + 1) + i = omega arith in
      record {
        c = it.c;
        at = it.at;
        found = ap (constructor_at Q d) (sym place) ∙ it.found;
        are = it.are;
        field_types = it.field_types;
        in_fields = it.in_fields;
      }

  -- what is around an arm
  around_arm : (types outer : List Ty) (c : ConDef) (ws mids : List Value) → AreTypes Q context.tparams types → AreTypes Q (length types) c.fields →
      AreIn Q (tys_instance (tys_instance ts types) c.fields) ws → Around outer mids → Around (reverse (tys_instance types c.fields) ++ outer) (bind ws mids)
  around_arm types outer c ws mids are field_types in_fields around =
      let own : List Ty = tys_instance types c.fields in
      let twice : tys_instance ts own ≡ tys_instance (tys_instance ts types) c.fields = instances_twice Q ts types field_types in
      let here : AreIn Q (tys_instance ts own) ws = subst (λ (types : List Ty). AreIn Q types ws) (sym twice) in_fields in
      let split : tys_instance ts (reverse own ++ outer) ≡ reverse (tys_instance ts own) ++ tys_instance ts outer =
      map-append (ty_instance ts) (reverse own) outer ∙ ap (λ (types : List Ty). types ++ tys_instance ts outer) (map_reversed (ty_instance ts) own) in
      let joined : AreIn Q (tys_instance ts (reverse own ++ outer)) (reverse ws ++ (mids ++ reverse us)) =
      subst (λ (types : List Ty). AreIn Q types (reverse ws ++ (mids ++ reverse us))) (sym split)
      (are_in_append Q (are_in_reversed Q here) around.are_in) in
      record {
        are_types =
            are_types_append Q context.tparams
            (are_types_reversed Q context.tparams (instances_are_types Q context.tparams types are field_types)) around.are_types;
        are_in = subst (AreIn Q (tys_instance ts (reverse own ++ outer))) (sym (append_assoc (reverse ws) mids (reverse us))) joined;
      }

  around_first : (d j : ℕ) (types outer : List Ty) (c : ConDef) (cs : List ConDef) (ws mids : List Value) → Chosen d j 0 types (c ∷ cs) ws →
      Around outer mids → Around (reverse (tys_instance types c.fields) ++ outer) (bind ws mids)
  around_first d j types outer c cs ws mids it around =
      let same : it.c ≡ c = one_item it.c c (sym it.at) in
      subst (λ (c : ConDef). Around (reverse (tys_instance types c.fields) ++ outer) (bind ws mids)) same
      (around_arm types outer it.c ws mids it.are it.field_types it.in_fields around)

  -- what is chosen of a match's arms by the value that it is on
  pub chosen_of : (d : ℕ) (types : List Ty) (U : Ty) (D : DataDef) (u : Value) (b : IsBuilt Q u d (tys_instance ts types)) →
      IsType Q context.tparams U → U ≡ type.Con d types → slice_get Q.datatypes d ≡ Some D → Chosen d 0 b.k types D.cons b.fields
  chosen_of d types U D u b is e found =
      let of_type : DataType Q context.tparams D types = data_type Q context.tparams d D types U is e found in
      let at : slice_get D.cons b.k ≡ Some b.c = sym (constructor_of Q d b.k D found) ∙ b.found in
      let is_con : IsTypedCon Q D.tparams b.c = all_at (IsTypedCon Q D.tparams) D.cons b.k b.c (data_is_typed Q founded.typed d D found).cons at in
      let place : 0 + b.k ≡ b.k = omega arith in
      record {
        c = b.c;
        at = at;
        found = ap (constructor_at Q d) place ∙ b.found;
        are = of_type.are;
        field_types = fields_are_types Q D types b.c of_type.long is_con;
        in_fields = b.are_in;
      }

  con_both : (d k : ℕ) (types : List Ty) (parts : List Term) (T : Ty) (c : ConDef) (mids : List Value) → constructor_at Q d k ≡ Some c →
      IsType Q context.tparams T → T ≡ type.Con d types → AllBoth mids parts (tys_instance types c.fields) → Both mids (Term-F.Con d k types parts) T
  con_both d k types parts T c mids found is e all =
      let there : StandsIn Q d k c = stands_in Q d k c found in
      let of_type : DataType Q context.tparams there.datatype types = data_type Q context.tparams d there.datatype types T is e there.found in
      let of_data : IsTypedData Q there.datatype = data_is_typed Q founded.typed d there.datatype there.found in
      let is_con : IsTypedCon Q there.datatype.tparams c = all_at (IsTypedCon Q there.datatype.tparams) there.datatype.cons k c of_data.cons there.stands in
      let twice : tys_instance ts (tys_instance types c.fields) ≡ tys_instance (tys_instance ts types) c.fields =
      instances_twice Q ts types (fields_are_types Q there.datatype types c of_type.long is_con) in
      let in_fields : AreIn Q (tys_instance (tys_instance ts types) c.fields) all.vs = subst (λ (types : List Ty). AreIn Q types all.vs) twice all.in_types in
      let T_is : ty_instance ts T ≡ type.Con d (tys_instance ts types) = ap (ty_instance ts) e ∙ ty_instance-Con ts d types in
      let in_con : IsIn Q (type.Con d (tys_instance ts types)) (value.Con d k all.vs) =
      subst (λ (y : Ty-F Ty). IsInLayer Q y (out-Value (value.Con d k all.vs))) (sym (type.outs-Con d (tys_instance ts types)))
      (subst (IsInLayer Q (Ty-F.Con d (tys_instance ts types))) (sym (value.outs-Con d k all.vs)) (values.con found in_fields)) in
      let new : List Term = map (λ (part : ℕ → Term). part (length mids)) (map (put_in Q fields) parts) in
      record {
        v = value.Con d k all.vs;
        count = all.count;
        means = con all.mean refl;
        put =
            layer_means Q ts gs rho mids (Con d k types new) (Term-F.Con d k types new) (value.Con d k all.vs) all.put.0 (outs-Con d k types new)
            (con all.put.1 refl);
        in_type = subst (λ (T : Ty). IsIn Q T (value.Con d k all.vs)) (sym T_is) in_con;
      }

  lit_both : (w : ℕ) (T : Ty) (mids : List Value) → w < 2 ^ 64 → T ≡ type.Word → Both mids (Term-F.Lit w) T
  lit_both w T mids small e =
      let word : ty_instance ts T ≡ type.Word = ap (ty_instance ts) e ∙ ty_instance-Word ts in
      let in_word : IsIn Q type.Word (value.Lit w) =
      subst (λ (y : Ty-F Ty). IsInLayer Q y (out-Value (value.Lit w))) (sym type.outs-Word)
      (subst (IsInLayer Q Ty-F.Word) (sym (value.outs-Lit w)) (values.word small)) in
      record {
        v = value.Lit w;
        count = 0;
        means = lit refl;
        put = layer_means Q ts gs rho mids (Lit w) (Term-F.Lit w) (value.Lit w) 0 (outs-Lit w) (lit refl);
        in_type = subst (λ (T : Ty). IsIn Q T (value.Lit w)) (sym word) in_word;
      }

  call_both : (f : Fun) (funs : List Fun) (args : List Term) (takes : List FnType) (params : List Ty) (T : Ty) (mids : List Value) →
      (meant : AllMeant Q ts gs funs takes) (all : AllBoth mids args params) → Called Q ts gs f meant.hs all.vs T → Both mids (Term-F.Call f funs args) T
  call_both f funs args takes params T mids meant all called =
      let new : List Term = map (λ (part : ℕ → Term). part (length mids)) (map (put_in Q fields) args) in
      record {
        v = called.given.value;
        count = all.count + called.given.count;
        means = call all.mean called.means meant.mean called.given.gives refl;
        put =
            layer_means Q ts gs rho mids (Call f funs new) (Term-F.Call f funs new) called.given.value (all.put.0 + called.given.count)
            (outs-Call f funs new) (call all.put.1 called.means meant.mean called.given.gives refl);
        in_type = called.given.in_type;
      }

  match_both : (on : Term) (d : ℕ) (types : List Ty) (arms : List Term) (U T : Ty) (mids : List Value) (on_both : Both mids (out-Term on) U)
      (b : IsBuilt Q on_both.v d (tys_instance ts types)) → ArmBoth d 0 b.k mids arms b.fields T → Both mids (Term-F.Match on d types arms) T
  match_both on d types arms U T mids on_both b arm =
      let level : ℕ = length mids in
      let new : List Term = arms_with Q d 0 (map (put_in Q fields) arms) level in
      let at : slice_get new b.k ≡ Some (put_in Q fields arm.body (field_count Q d (0 + b.k) + level)) =
      arm_with Q fields d 0 b.k arms arm.body level arm.at in
      let scrutinee : HasMeaning Q ts gs rho mids (put_in Q fields on level) on_both.v =
      same_term Q ts gs rho mids (put_of Q fields (out-Term on) level) (put_in Q fields on level) on_both.v (put_is Q fields on level) on_both.put in
      record {
        v = arm.v;
        count = on_both.count + arm.count;
        means = choose on_both.means (ap (chosen arms) b.is ∙ ap (option_map (λ (t : Term). (t, b.fields))) arm.at) arm.means refl;
        put =
            layer_means Q ts gs rho mids (Match (put_in Q fields on level) d types new) (Term-F.Match (put_in Q fields on level) d types new) arm.v
            (scrutinee.0 + arm.put.0) (outs-Match (put_in Q fields on level) d types new)
            (choose scrutinee.1 (ap (chosen new) b.is ∙ ap (option_map (λ (t : Term). (t, b.fields))) at) arm.put.1 refl);
        in_type = arm.in_type;
      }

  arm_both : (d j : ℕ) (body : Term) (arms : List Term) (T : Ty) (ws mids : List Value) → field_count Q d (j + 0) ≡ length ws →
      Both (bind ws mids) (out-Term body) T → ArmBoth d j 0 mids (body ∷ arms) ws T
  arm_both d j body arms T ws mids many both =
      let level : length (bind ws mids) ≡ field_count Q d (j + 0) + length mids =
      length-append (reverse ws) mids ∙ ap (λ (n : ℕ). n + length mids) (length-reverse ws ∙ sym many) in
      let here : put_of Q fields (out-Term body) (length (bind ws mids)) ≡ put_in Q fields body (field_count Q d (j + 0) + length mids) =
      put_is Q fields body (length (bind ws mids)) ∙ ap (put_in Q fields body) level in
      record {
        body = body;
        at = refl;
        v = both.v;
        count = both.count;
        means =
            subst (λ (inner : List Value). MeansOf Q ts gs rho inner (out-Term body) both.v both.count)
            (append_assoc (reverse ws) mids (reverse us)) both.means;
        put =
            same_term Q ts gs rho (bind ws mids) (put_of Q fields (out-Term body) (length (bind ws mids)))
            (put_in Q fields body (field_count Q d (j + 0) + length mids)) both.v here both.put;
        in_type = both.in_type;
      }

  later_arm : (d j i : ℕ) (first : Term) (arms : List Term) (T : Ty) (ws mids : List Value) → ArmBoth d (j + 1) i mids arms ws T →
      ArmBoth d j (suc i) mids (first ∷ arms) ws T
  later_arm d j i first arms T ws mids arm =
      let place : (j + 1) + i ≡ j + suc i = omega arith in
      record {
        body = arm.body;
        at = arm.at;
        v = arm.v;
        count = arm.count;
        means = arm.means;
        put =
            subst (λ (k : ℕ). HasMeaning Q ts gs rho (bind ws mids) (put_in Q fields arm.body (field_count Q d k + length mids)) arm.v) place arm.put;
        in_type = arm.in_type;
      }

  more_both : (t : Term) (terms : List Term) (T : Ty) (types : List Ty) (mids : List Value) → Both mids (out-Term t) T → AllBoth mids terms types →
      AllBoth mids (t ∷ terms) (T ∷ types)
  more_both t terms T types mids first others =
      let here : HasMeaning Q ts gs rho mids (put_in Q fields t (length mids)) first.v =
      same_term Q ts gs rho mids (put_of Q fields (out-Term t) (length mids)) (put_in Q fields t (length mids)) first.v (put_is Q fields t (length mids))
      first.put in
      record {
        vs = first.v ∷ others.vs;
        count = first.count + others.count;
        mean = more first.means others.mean refl;
        put = (here.0 + others.put.0, more here.1 others.put.1 refl);
        in_types = values.more first.in_type others.in_types;
      }

  mutual
    -- a layer has a value of its type, and keeps it with the fields put in
    pub both : {types : List Ty} {y : Term-F Term} {T : Ty} → HasTypeLayer Q place context types y T → (mids : List Value) → Around types mids → Both mids y T
    both (typing.free {n = i} {T = T} at met) mids around =
        let there = fit i T at in
        record {
          v = there.v;
          count = 0;
          means = free there.at;
          put = layer_means Q ts gs rho mids (Free i) (Term-F.Free i) there.v 0 (outs-Free i) (free there.at);
          in_type = there.is_in;
        }
    both (typing.bound {bound = types} {n = i} {T = T} at met) mids around =
        let there : IsInAt Q (ty_instance ts T) (mids ++ reverse us) i =
        in_at Q i (ty_instance ts T) around.are_in (slice_get-map (ty_instance ts) types i ∙ ap (option_map (ty_instance ts)) at) in
        record { v = there.v; count = 0; means = bound there.at; put = part_has mids i there.v there.at; in_type = there.is_in }
    both (typing.lit {w = w} {T = T} small e) mids around = lit_both w T mids small e
    both (typing.con {d = d} {k = k} {types = types} {fields = parts} {T = T} {c = c} found is e met have) mids around =
        con_both d k types parts T c mids found is e (all_both have mids around)
    both (typing.call {f = f} {funs = funs} {args = args} {takes = takes} {params = params} {T = T} function may small met passed have) mids around =
        let calls = all_give Q founded place ts rho in
        let meant : AllMeant Q ts gs funs takes =
        arguments_meant Q founded.typed place context ts long ground gs given rho 0 (λ (args : List Standing). Unit {0}) calls passed in
        let values_of : AllBoth mids args params = all_both have mids around in
        let stand = all_elsewhere rho values_of.vs in
        call_both f funs args takes params T mids meant values_of
        (call_gives Q founded.typed place context ts long ground gs given rho 0 (λ (args : List Standing). Unit {0}) calls function may meant.hs
        meant.are_total stand.0 values_of.vs stand.1 (λ i d within. tt) values_of.in_types)
    both (typing.choose {on = on} {d = d} {types = types} {arms = arms} {T = T} {U = U} {D = D} on_typed U_is found arms_typed) mids around =
        let on_both : Both mids (out-Term on) U = both on_typed mids around in
        let b : IsBuilt Q on_both.v d (tys_instance ts types) =
        built Q on_both.v d (tys_instance ts types) (ty_instance ts U) (ap (ty_instance ts) U_is ∙ ty_instance-Con ts d types) on_both.in_type in
        let U_type : IsType Q context.tparams U = type_of Q founded.typed place context is_context on_typed around.are_types in
        match_both on d types arms U T mids on_both b
        (arms_both arms_typed d 0 b.k b.fields mids (chosen_of d types U D on_both.v b U_type U_is found) around)

    all_both : {around_types : List Ty} {terms : List Term} {types : List Ty} → HaveTypes Q place context around_types terms types → (mids : List Value) →
        Around around_types mids → AllBoth mids terms types
    all_both typing.none mids around = record { vs = []; count = 0; mean = none; put = (0, none); in_types = values.none }
    all_both (typing.more {t = t} {ts = terms} {T = T} {types = types} has have) mids around =
        more_both t terms T types mids (both has mids around) (all_both have mids around)

    arms_both : {around_types types : List Ty} {cs : List ConDef} {arms : List Term} {T : Ty} →
        HaveTypesInArms Q place context around_types types cs arms T → (d j i : ℕ) (ws mids : List Value) → Chosen d j i types cs ws →
        Around around_types mids → ArmBoth d j i mids arms ws T
    arms_both typing.no_arm d j i ws mids it around = absurd (nothing_is_some it.c it.at)
    arms_both (typing.arm {bound = outer} {types = types} {c = c} {cs = cs} {body = body} {arms = arms} {T = T} met has have) d j zero ws mids it around =
        arm_both d j body arms T ws mids (field_count_is Q d (j + 0) it.c (tys_instance ts types) ws it.found it.in_fields)
        (both has (bind ws mids) (around_first d j types outer c cs ws mids it around))
    arms_both (typing.arm {types = types} {c = c} {cs = cs} {body = body} {arms = arms} {T = T} met has have) d j (suc i) ws mids it around =
        later_arm d j i body arms T ws mids (arms_both have d (j + 1) i ws mids (later_chosen d j i types c cs ws it) around)

  -- an arm keeps its value with the fields put in, where these have the values that are bound
  pub arm_keeps : (types : List Ty) (c : ConDef) (arm : Term) (T : Ty) → AreTypes Q context.tparams types → AreTypes Q (length types) c.fields →
      AreIn Q (tys_instance (tys_instance ts types) c.fields) us →
      HasTypeLayer Q place context (reverse (tys_instance types c.fields) ++ []) (out-Term arm) T →
      (v : Value) (n : ℕ) → MeansOf Q ts gs rho (bind us []) (out-Term arm) v n → HasMeaning Q ts gs rho [] (with_fields Q fields arm) v
  arm_keeps types c arm T are field_types in_fields has v n means =
      let own : List Ty = tys_instance types c.fields in
      let twice : tys_instance ts own ≡ tys_instance (tys_instance ts types) c.fields = instances_twice Q ts types field_types in
      let here : AreIn Q (tys_instance ts own) us = subst (λ (types : List Ty). AreIn Q types us) (sym twice) in_fields in
      let around : Around (reverse own) [] = record {
        are_types = are_types_reversed Q context.tparams (instances_are_types Q context.tparams types are field_types);
        are_in = subst (λ (types : List Ty). AreIn Q types (reverse us)) (sym (map_reversed (ty_instance ts) own)) (are_in_reversed Q here);
      } in
      let has_here : HasTypeLayer Q place context (reverse own) (out-Term arm) T =
      subst (λ (types : List Ty). HasTypeLayer Q place context types (out-Term arm) T) (append-nil (reverse own)) has in
      let it : Both [] (out-Term arm) T = both has_here [] around in
      let means_here : MeansOf Q ts gs rho (reverse us) (out-Term arm) v n =
      subst (λ (inner : List Value). MeansOf Q ts gs rho inner (out-Term arm) v n) (append-nil (reverse us)) means in
      let same : it.v ≡ v = (unique Q ts gs rho (reverse us) (out-Term arm) it.v v it.count n it.means means_here).0 in
      subst (HasMeaning Q ts gs rho [] (with_fields Q fields arm)) same
      (same_term Q ts gs rho [] (put_of Q fields (out-Term arm) 0) (put_in Q fields arm 0) it.v (put_is Q fields arm 0) it.put)
