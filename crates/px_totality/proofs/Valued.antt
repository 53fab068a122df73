-- A typed term has a value of its type: one induction on typing, over whatever is looked for in self-calls and what is known of calls.
use Rattle.std.proofs.Common.{◌≡◌, ℕ, zero, suc, ◌+◌, ◌<◌, ◌^◌, List, [], ◌∷◌, ◌++◌, map, reverse, replicate, length, get_or, Option, Some, slice_get}
use Rattle.std.proofs.Common.{unwrap_or, refl, sym, ap, ◌∙◌, subst, arith}
use Rattle.std.specs.List.{All}
use Rattle.std.specs.Option.{option_map}
use Rattle.std.proofs.lemmas.Option.{slice_get-map}
use Rattle.std.proofs.lemmas.List.{get_or_append_left, get_or-append-add, length-append, length-map, map-append, reverse-append}
use Rattle.px_terms.specs.declared.types.Ty.{Ty, out-Ty}
use Rattle.px_terms.specs.declared.types.Ty.TheVariants as type
use Rattle.px_terms.specs.declared.types.Ty.TheOpen.{Ty-F}
use Rattle.px_terms.specs.declared.types.FnType.{FnType}
use Rattle.px_terms.specs.declared.types.Fun.{Fun}
use Rattle.px_terms.specs.declared.term.Term.{Term, out-Term}
use Rattle.px_terms.specs.declared.term.Term.TheOpen.{Term-F}
use Rattle.px_terms.specs.declared.term.Term.TheFolds.{map-Term, fold_out-Term}
use Rattle.px_terms.specs.declared.term.Value.{Value, out-Value}
use Rattle.px_terms.specs.declared.term.Value.TheVariants as value
use Rattle.px_terms.specs.declared.term.Value.TheOpen.{Value-F}
use Rattle.px_terms.specs.declared.program.ConDef.{ConDef}
use Rattle.px_terms.specs.declared.program.DataDef.{DataDef}
use Rattle.px_terms.specs.declared.program.Program.{Program}
use Rattle.px_terms.specs.declared.sequent.Context.{Context}
use Rattle.px_terms.specs.Types.{ty_instance, tys_instance}
use Rattle.px_terms.specs.TreeEquations.{ty_instance-Word, ty_instance-Con}
use Rattle.px_terms.specs.Programs.{constructor_at}
use Rattle.px_terms.specs.Values.{IsInLayer, IsIn, AreIn}
use Rattle.px_terms.specs.Values as values
use Rattle.px_terms.specs.Meaning.{chosen, bind, MeansOf, MeanAll, free, bound, lit, con, choose, call, none, more}
use Rattle.px_terms.specs.Typing.{Place, IsType, AreTypes, HasTypeLayer, HaveTypes, HaveTypesInArms}
use Rattle.px_terms.specs.Typing as typing
use Rattle.px_terms.specs.TypedPrograms.{IsTyped, IsTypedData, IsTypedCon}
use Rattle.px_terms.specs.Descent.{Standing, itself, elsewhere, under, Seen, walk, walk_step, calls_in, calls_in_arms, field_count, self_call}
use Rattle.px_totality.specs.Laws.{IsContext}
use Rattle.px_totality.proofs.Instances.{nothing_is_some, one_item, instances_are_types, instances_twice}
use Rattle.px_totality.proofs.Sizes.{AreSmaller, StandsAt, AllStand, none_stands, more_stand, stands_of, fields_are_smaller, fields_stand}
use Rattle.px_totality.proofs.TypesOfTerms.{all_at, stands_in, StandsIn, constructor_of, are_types_append, are_types_reversed, DataType, data_type}
use Rattle.px_totality.proofs.TypesOfTerms.{data_is_typed, fields_are_types, type_of}
use Rattle.px_totality.proofs.Total.{AreTotal}
use Rattle.px_totality.proofs.Calls.{CallsGive, AllMeant, Called, arguments_meant, call_gives}

-- what is seen of a layer, by what is seen of its parts
abbrev pub seen_of : Program → ℕ → Term-F Term → Seen
seen_of Q n y = walk_step Q n (map-Term Term Seen (walk Q n) y)

-- what is seen of a term is what is seen of its layer
pub seen_is : (Q : Program) (n : ℕ) (t : Term) → walk Q n t ≡ seen_of Q n (out-Term t)
seen_is Q n t = fold_out-Term Seen (walk_step Q n) t

module _ {X : Type 0} (P : X → Type 0) (xs ys : List X) (all : All P (xs ++ ys)) where
  -- of both lists, so of the first
  front_all : All P xs
  front_all k d within = subst P (get_or_append_left xs ys d k within) (all k d (omega (arith, length-append xs ys)))

  -- and of the second
  back_all : All P ys
  back_all k d within = subst P (get_or-append-add xs ys k d) (all (length xs + k) d (omega (arith, length-append xs ys)))

-- The value at this place is in its type.
record IsInAt (Q : Program) (T : Ty) (vs : List Value) (i : ℕ) : Type 0 where
  v : Value
  at : slice_get vs i ≡ Some v
  is_in : IsIn Q T v

in_at : (Q : Program) {types : List Ty} {vs : List Value} (i : ℕ) (T : Ty) → AreIn Q types vs → slice_get types i ≡ Some T → IsInAt Q T vs i
in_at Q i T values.none at = absurd (nothing_is_some T at)
in_at Q zero T (values.more {T = S} {v = v} first others) at = record { v = v; at = refl; is_in = subst (λ (T : Ty). IsIn Q T v) (one_item S T at) first }
in_at Q (suc i) T (values.more {values = vs} first others) at =
    let there : IsInAt Q T vs i = in_at Q i T others at in
    record { v = there.v; at = there.at; is_in = there.is_in }

pub are_in_append : (Q : Program) {types others : List Ty} {vs ws : List Value} → AreIn Q types vs → AreIn Q others ws → AreIn Q (types ++ others) (vs ++ ws)
are_in_append Q values.none rest = rest
are_in_append Q (values.more first others) rest = values.more first (are_in_append Q others rest)

are_in_reversed : (Q : Program) {types : List Ty} {vs : List Value} → AreIn Q types vs → AreIn Q (reverse types) (reverse vs)
are_in_reversed Q values.none = values.none
are_in_reversed Q (values.more {T = T} {types = types} {v = v} {values = vs} first others) =
    subst (λ (types : List Ty). AreIn Q types (reverse (v ∷ vs))) (sym (reverse-append (T ∷ []) types))
    (subst (AreIn Q (reverse types ++ T ∷ [])) (sym (reverse-append (v ∷ []) vs)) (are_in_append Q (are_in_reversed Q others) (values.more first values.none)))

pub as_many : (Q : Program) {types : List Ty} {vs : List Value} → AreIn Q types vs → length types ≡ length vs
as_many Q values.none = refl
as_many Q (values.more first others) = ap suc (as_many Q others)

map_reversed : {A B : Type 0} (f : A → B) (xs : List A) → map f (reverse xs) ≡ reverse (map f xs)
map_reversed f [] = refl
map_reversed f (x ∷ xs) =
    ap (map f) (reverse-append (x ∷ []) xs) ∙ map-append f (reverse xs) (x ∷ []) ∙ ap (λ ys. ys ++ f x ∷ []) (map_reversed f xs)
    ∙ sym (reverse-append (f x ∷ []) (map f xs))

-- What a value of a datatype is.
pub record IsBuilt (Q : Program) (u : Value) (d : ℕ) (types : List Ty) : Type 0 where
  pub k : ℕ
  pub fields : List Value
  pub c : ConDef
  pub is : out-Value u ≡ Value-F.Con d k fields
  pub found : constructor_at Q d k ≡ Some c
  pub are_in : AreIn Q (tys_instance types c.fields) fields

built_layer : (Q : Program) (u : Value) (d : ℕ) (types : List Ty) {y : Ty-F Ty} {z : Value-F Value} → IsInLayer Q y z → y ≡ Ty-F.Con d types →
    out-Value u ≡ z → IsBuilt Q u d types
built_layer Q u d types (values.word small) e at = let wrong : ⊥ = cc in absurd wrong
built_layer Q u d types (values.con {d = f} {k = k} {args = args} {fields = fields} {c = c} found are) e at =
    let which : f ≡ d = cc in
    let given : args ≡ types = cc in
    record {
      k = k;
      fields = fields;
      c = c;
      is = at ∙ ap (λ (d : ℕ). Value-F.Con d k fields) which;
      found = ap (λ (d : ℕ). constructor_at Q d k) (sym which) ∙ found;
      are_in = subst (λ (types : List Ty). AreIn Q (tys_instance types c.fields) fields) given are;
    }

pub built : (Q : Program) (u : Value) (d : ℕ) (types : List Ty) (T : Ty) → T ≡ type.Con d types → IsIn Q T u → IsBuilt Q u d types
built Q u d types T e is = built_layer Q u d types is (ap out-Ty e ∙ type.outs-Con d types) refl

-- The layer has a value of the type, which is this to the parameters.
pub record Valued (Q : Program) (ts : List Ty) (gs : List Fun) (rho inner : List Value) (y : Term-F Term) (T : Ty) (s : Standing) : Type 0 where
  pub v : Value
  pub count : ℕ
  pub means : MeansOf Q ts gs rho inner y v count
  pub in_type : IsIn Q (ty_instance ts T) v
  pub stands : StandsAt rho s v

-- The terms have values of the types, which are these to the parameters.
record AllValued (Q : Program) (ts : List Ty) (gs : List Fun) (rho inner : List Value) (terms : List Term) (types : List Ty) (ss : List Standing) : Type 0 where
  vs : List Value
  count : ℕ
  mean : MeanAll Q ts gs rho inner terms vs count
  in_types : AreIn Q (tys_instance ts types) vs
  stand : AllStand rho ss vs

-- The arm that is chosen has a value of the type.
record ArmValued (Q : Program) (ts : List Ty) (gs : List Fun) (rho inner : List Value) (arms : List Term) (i : ℕ) (fields : List Value) (T : Ty) : Type 0 where
  body : Term
  at : slice_get arms i ≡ Some body
  v : Value
  count : ℕ
  means : MeansOf Q ts gs rho (bind fields inner) (out-Term body) v count
  in_type : IsIn Q (ty_instance ts T) v

-- The variable stands for a value of its type.
pub record IsVariable (Q : Program) (ts : List Ty) (rho : List Value) (i : ℕ) (T : Ty) : Type 0 where
  pub v : Value
  pub at : slice_get rho i ≡ Some v
  pub is_in : IsIn Q (ty_instance ts T) v

-- each live variable stands for a value of its type
abbrev pub FitVariables : Program → List Ty → List (Option Ty) → List Value → Type 0
FitVariables Q ts vars rho = (i : ℕ) (T : Ty) → slice_get vars i ≡ Some (Some T) → IsVariable Q ts rho i T

module _ (Q : Program) (typed : IsTyped Q) (place : Place) (context : Context) (is_context : IsContext Q context) (ts : List Ty)
    (long : length ts ≡ context.tparams) (ground : AreTypes Q 0 ts) (gs : List Fun) (given : AreTotal Q ts context.funs gs) (rho : List Value)
    (fit : FitVariables Q ts context.vars rho) (n : ℕ) (Fits : List Standing → Type 0) (calls : CallsGive Q place ts rho n Fits) where
  over : {types : List Ty} → AreTypes Q context.tparams types → AreTypes Q (length ts) types
  over {types} are = subst (λ (k : ℕ). AreTypes Q k types) (sym long) are

  -- what is around the pattern variables' terms: their types, their values, and what these are to the parameters
  record Around (types : List Ty) (ss : List Standing) (inner : List Value) : Type 0 where
    are_types : AreTypes Q context.tparams types
    are_in : AreIn Q (tys_instance ts types) inner
    stand : AllStand rho ss inner

  free_valued : (i : ℕ) (T : Ty) (inner : List Value) → slice_get context.vars i ≡ Some (Some T) → Valued Q ts gs rho inner (Term-F.Free i) T (itself i)
  free_valued i T inner at = let there = fit i T at in record { v = there.v; count = 0; means = free there.at; in_type = there.is_in; stands = there.at }

  bound_valued : (i : ℕ) (T : Ty) (types : List Ty) (ss : List Standing) (inner : List Value) → Around types ss inner → slice_get types i ≡ Some T →
      Valued Q ts gs rho inner (Term-F.Bound i) T (get_or ss i elsewhere)
  bound_valued i T types ss inner around at =
      let there : IsInAt Q (ty_instance ts T) inner i =
      in_at Q i (ty_instance ts T) around.are_in (slice_get-map (ty_instance ts) types i ∙ ap (option_map (ty_instance ts)) at) in
      record { v = there.v; count = 0; means = bound there.at; in_type = there.is_in; stands = stands_of rho i there.v around.stand there.at }

  lit_valued : (w : ℕ) (T : Ty) (inner : List Value) → w < 2 ^ 64 → T ≡ type.Word → Valued Q ts gs rho inner (Term-F.Lit w) T elsewhere
  lit_valued w T inner small e =
      let word : ty_instance ts T ≡ type.Word = ap (ty_instance ts) e ∙ ty_instance-Word ts in
      let in_word : IsIn Q type.Word (value.Lit w) =
      subst (λ (y : Ty-F Ty). IsInLayer Q y (out-Value (value.Lit w))) (sym type.outs-Word)
      (subst (IsInLayer Q Ty-F.Word) (sym (value.outs-Lit w)) (values.word small)) in
      record { v = value.Lit w; count = 0; means = lit refl; in_type = subst (λ (T : Ty). IsIn Q T (value.Lit w)) (sym word) in_word; stands = tt }

  con_valued : (d k : ℕ) (types : List Ty) (fields : List Term) (T : Ty) (c : ConDef) (ss : List Standing) (inner : List Value) →
      constructor_at Q d k ≡ Some c → IsType Q context.tparams T → T ≡ type.Con d types → AllValued Q ts gs rho inner fields (tys_instance types c.fields) ss →
      Valued Q ts gs rho inner (Term-F.Con d k types fields) T elsewhere
  con_valued d k types fields T c ss inner found is e all =
      let there : StandsIn Q d k c = stands_in Q d k c found in
      let of_type : DataType Q context.tparams there.datatype types = data_type Q context.tparams d there.datatype types T is e there.found in
      let of_data : IsTypedData Q there.datatype = data_is_typed Q typed d there.datatype there.found in
      let is_con : IsTypedCon Q there.datatype.tparams c = all_at (IsTypedCon Q there.datatype.tparams) there.datatype.cons k c of_data.cons there.stands in
      let twice : tys_instance ts (tys_instance types c.fields) ≡ tys_instance (tys_instance ts types) c.fields =
      instances_twice Q ts types (fields_are_types Q there.datatype types c of_type.long is_con) in
      let in_fields : AreIn Q (tys_instance (tys_instance ts types) c.fields) all.vs = subst (λ (types : List Ty). AreIn Q types all.vs) twice all.in_types in
      let T_is : ty_instance ts T ≡ type.Con d (tys_instance ts types) = ap (ty_instance ts) e ∙ ty_instance-Con ts d types in
      let in_con : IsIn Q (type.Con d (tys_instance ts types)) (value.Con d k all.vs) =
      subst (λ (y : Ty-F Ty). IsInLayer Q y (out-Value (value.Con d k all.vs))) (sym (type.outs-Con d (tys_instance ts types)))
      (subst (IsInLayer Q (Ty-F.Con d (tys_instance ts types))) (sym (value.outs-Con d k all.vs)) (values.con found in_fields)) in
      record {
        v = value.Con d k all.vs;
        count = all.count;
        means = con all.mean refl;
        in_type = subst (λ (T : Ty). IsIn Q T (value.Con d k all.vs)) (sym T_is) in_con;
        stands = tt;
      }

  -- what is around an arm
  around_arm : (d k : ℕ) (types outer : List Ty) (c : ConDef) (s : Standing) (u : Value) (fields : List Value) (ss : List Standing) (inner : List Value) →
      constructor_at Q d k ≡ Some c → AreTypes Q context.tparams types → AreTypes Q (length types) c.fields → StandsAt rho s u → AreSmaller u fields →
      AreIn Q (tys_instance (tys_instance ts types) c.fields) fields → Around outer ss inner →
      Around (reverse (tys_instance types c.fields) ++ outer) (replicate (field_count Q d k) (under s) ++ ss) (bind fields inner)
  around_arm d k types outer c s u fields ss inner found are field_types stands smaller in_fields around =
      let own : List Ty = tys_instance types c.fields in
      let twice : tys_instance ts own ≡ tys_instance (tys_instance ts types) c.fields = instances_twice Q ts types field_types in
      let here : AreIn Q (tys_instance ts own) fields = subst (λ (types : List Ty). AreIn Q types fields) (sym twice) in_fields in
      let split : tys_instance ts (reverse own ++ outer) ≡ reverse (tys_instance ts own) ++ tys_instance ts outer =
      map-append (ty_instance ts) (reverse own) outer ∙ ap (λ (types : List Ty). types ++ tys_instance ts outer) (map_reversed (ty_instance ts) own) in
      let many : field_count Q d k ≡ length fields =
      ap (λ (o : Option ConDef). unwrap_or (option_map (λ (c : ConDef). length c.fields) o) 0) found
      ∙ sym (length-map c.fields (ty_instance (tys_instance ts types))) ∙ as_many Q in_fields in
      record {
        are_types =
            are_types_append Q context.tparams
            (are_types_reversed Q context.tparams (instances_are_types Q context.tparams types are field_types)) around.are_types;
        are_in = subst (λ (types : List Ty). AreIn Q types (bind fields inner)) (sym split) (are_in_append Q (are_in_reversed Q here) around.are_in);
        stand = fields_stand rho s u (field_count Q d k) fields ss inner stands smaller many around.stand;
      }

  match_valued : (on : Term) (d : ℕ) (types : List Ty) (arms : List Term) (U T : Ty) (s : Standing) (inner : List Value)
      (on_valued : Valued Q ts gs rho inner (out-Term on) U s) (b : IsBuilt Q on_valued.v d (tys_instance ts types)) →
      ArmValued Q ts gs rho inner arms b.k b.fields T → Valued Q ts gs rho inner (Term-F.Match on d types arms) T elsewhere
  match_valued on d types arms U T s inner on_valued b arm = record {
    v = arm.v;
    count = on_valued.count + arm.count;
    means = choose on_valued.means (ap (chosen arms) b.is ∙ ap (option_map (λ (t : Term). (t, b.fields))) arm.at) arm.means refl;
    in_type = arm.in_type;
    stands = tt;
  }

  call_valued : (f : Fun) (funs : List Fun) (args : List Term) (takes : List FnType) (params : List Ty) (T : Ty) (ss : List Standing) (inner : List Value) →
      (meant : AllMeant Q ts gs funs takes) (all : AllValued Q ts gs rho inner args params ss) → Called Q ts gs f meant.hs all.vs T →
      Valued Q ts gs rho inner (Term-F.Call f funs args) T elsewhere
  call_valued f funs args takes params T ss inner meant all called = record {
    v = called.given.value;
    count = all.count + called.given.count;
    means = call all.mean called.means meant.mean called.given.gives refl;
    in_type = called.given.in_type;
    stands = tt;
  }

  -- a term, by its layer
  of_layer : (t : Term) (T : Ty) (ss : List Standing) (inner : List Value) → Valued Q ts gs rho inner (out-Term t) T (seen_of Q n (out-Term t) ss).stands →
      Valued Q ts gs rho inner (out-Term t) T (walk Q n t ss).stands
  of_layer t T ss inner valued = subst (λ (seen : Seen). Valued Q ts gs rho inner (out-Term t) T (seen ss).stands) (sym (seen_is Q n t)) valued

  -- the self-calls of a term, by its layer
  calls_of : (t : Term) (ss : List Standing) → All Fits (walk Q n t ss).calls → All Fits (seen_of Q n (out-Term t) ss).calls
  calls_of t ss all = subst (λ (seen : Seen). All Fits (seen ss).calls) (seen_is Q n t) all

  more_valued : (t : Term) (terms : List Term) (T : Ty) (types : List Ty) (ss : List Standing) (inner : List Value) →
      Valued Q ts gs rho inner (out-Term t) T (walk Q n t ss).stands →
      AllValued Q ts gs rho inner terms types (map (λ (part : Seen). (part ss).stands) (map (walk Q n) terms)) →
      AllValued Q ts gs rho inner (t ∷ terms) (T ∷ types) (map (λ (part : Seen). (part ss).stands) (map (walk Q n) (t ∷ terms)))
  more_valued t terms T types ss inner first others = record {
    vs = first.v ∷ others.vs;
    count = first.count + others.count;
    mean = more first.means others.mean refl;
    in_types = values.more first.in_type others.in_types;
    stand = more_stand first.stands others.stand;
  }

  -- what the arms of a match are asked for: the one of this number, from constructor j on
  record Chosen (d j i : ℕ) (types : List Ty) (cs : List ConDef) (s : Standing) (fields : List Value) : Type 0 where
    c : ConDef
    at : slice_get cs i ≡ Some c
    found : constructor_at Q d (j + i) ≡ Some c
    are : AreTypes Q context.tparams types
    field_types : AreTypes Q (length types) c.fields
    u : Value
    stands : StandsAt rho s u
    smaller : AreSmaller u fields
    in_fields : AreIn Q (tys_instance (tys_instance ts types) c.fields) fields

  later_chosen : (d j i : ℕ) (types : List Ty) (c : ConDef) (cs : List ConDef) (s : Standing) (fields : List Value) →
      Chosen d j (suc i) types (c ∷ cs) s fields → Chosen d (j + 1) i types cs s fields
  later_chosen d j i types c cs s fields it =
      let place : j + suc i ≡ (j + 1) + i = omega arith in
      record {
        c = it.c;
        at = it.at;
        found = ap (constructor_at Q d) (sym place) ∙ it.found;
        are = it.are;
        field_types = it.field_types;
        u = it.u;
        stands = it.stands;
        smaller = it.smaller;
        in_fields = it.in_fields;
      }

  around_first : (d j : ℕ) (types outer : List Ty) (c : ConDef) (cs : List ConDef) (s : Standing) (fields : List Value) (ss : List Standing)
      (inner : List Value) → Chosen d j 0 types (c ∷ cs) s fields → Around outer ss inner →
      Around (reverse (tys_instance types c.fields) ++ outer) (replicate (field_count Q d j) (under s) ++ ss) (bind fields inner)
  around_first d j types outer c cs s fields ss inner it around =
      let place : j + 0 ≡ j = omega arith in
      let same : it.c ≡ c = one_item it.c c (sym it.at) in
      let found : constructor_at Q d j ≡ Some it.c = ap (constructor_at Q d) (sym place) ∙ it.found in
      subst (λ (c : ConDef). Around (reverse (tys_instance types c.fields) ++ outer) (replicate (field_count Q d j) (under s) ++ ss) (bind fields inner)) same
      (around_arm d j types outer it.c s it.u fields ss inner found it.are it.field_types it.stands it.smaller it.in_fields around)

  arm_valued : (body : Term) (arms : List Term) (T : Ty) (s : Standing) (fields inner : List Value) →
      Valued Q ts gs rho (bind fields inner) (out-Term body) T s → ArmValued Q ts gs rho inner (body ∷ arms) 0 fields T
  arm_valued body arms T s fields inner valued = record {
    body = body;
    at = refl;
    v = valued.v;
    count = valued.count;
    means = valued.means;
    in_type = valued.in_type;
  }

  later_arm : (first : Term) (arms : List Term) (i : ℕ) (T : Ty) (fields inner : List Value) → ArmValued Q ts gs rho inner arms i fields T →
      ArmValued Q ts gs rho inner (first ∷ arms) (suc i) fields T
  later_arm first arms i T fields inner arm = record { body = arm.body; at = arm.at; v = arm.v; count = arm.count; means = arm.means; in_type = arm.in_type }

  -- what is chosen of a match's arms by the value that it is on
  chosen_of : (d : ℕ) (types : List Ty) (U : Ty) (D : DataDef) (s : Standing) (u : Value) (b : IsBuilt Q u d (tys_instance ts types)) →
      IsType Q context.tparams U → U ≡ type.Con d types → slice_get Q.datatypes d ≡ Some D → StandsAt rho s u → Chosen d 0 b.k types D.cons s b.fields
  chosen_of d types U D s u b is e found stands =
      let of_type : DataType Q context.tparams D types = data_type Q context.tparams d D types U is e found in
      let at : slice_get D.cons b.k ≡ Some b.c = sym (constructor_of Q d b.k D found) ∙ b.found in
      let is_con : IsTypedCon Q D.tparams b.c = all_at (IsTypedCon Q D.tparams) D.cons b.k b.c (data_is_typed Q typed d D found).cons at in
      let place : 0 + b.k ≡ b.k = omega arith in
      record {
        c = b.c;
        at = at;
        found = ap (constructor_at Q d) place ∙ b.found;
        are = of_type.are;
        field_types = fields_are_types Q D types b.c of_type.long is_con;
        u = u;
        stands = stands;
        smaller = fields_are_smaller u d b.k b.fields b.is;
        in_fields = b.are_in;
      }

  mutual
    -- a layer has a value of its type
    valued : {types : List Ty} {y : Term-F Term} {T : Ty} → HasTypeLayer Q place context types y T → (ss : List Standing) (inner : List Value) →
        Around types ss inner → All Fits (seen_of Q n y ss).calls → Valued Q ts gs rho inner y T (seen_of Q n y ss).stands
    valued (typing.free {n = i} {T = T} at met) ss inner around all = free_valued i T inner at
    valued (typing.bound {bound = types} {n = i} {T = T} at met) ss inner around all = bound_valued i T types ss inner around at
    valued (typing.lit {w = w} {T = T} small e) ss inner around all = lit_valued w T inner small e
    valued (typing.con {d = d} {k = k} {types = types} {fields = fields} {T = T} {c = c} found is e met have) ss inner around all =
        con_valued d k types fields T c _ inner found is e (all_valued have ss inner around all)
    valued (typing.call {f = f} {funs = funs} {args = args} {takes = takes} {params = params} {T = T} function may small met passed have) ss inner around all =
        let stands : List Standing = map (λ (part : Seen). (part ss).stands) (map (walk Q n) args) in
        let self : List (List Standing) = self_call n f.head stands in
        let parts : List (List Standing) = calls_in (map (walk Q n) args) ss in
        let meant : AllMeant Q ts gs funs takes = arguments_meant Q typed place context ts long ground gs given rho n Fits calls passed in
        let values_of : AllValued Q ts gs rho inner args params stands = all_valued have ss inner around (back_all Fits self parts all) in
        call_valued f funs args takes params T stands inner meant values_of
        (call_gives Q typed place context ts long ground gs given rho n Fits calls function may meant.hs meant.are_total stands values_of.vs values_of.stand
        (front_all Fits self parts all) values_of.in_types)
    valued (typing.choose {on = on} {d = d} {types = types} {arms = arms} {T = T} {U = U} {D = D} on_typed U_is found arms_typed) ss inner around all =
        let on_calls : List (List Standing) = (walk Q n on ss).calls in
        let s : Standing = (walk Q n on ss).stands in
        let arm_calls : List (List Standing) = calls_in_arms Q d 0 (map (walk Q n) arms) s ss in
        let on_valued : Valued Q ts gs rho inner (out-Term on) U s =
        of_layer on U ss inner (valued on_typed ss inner around (calls_of on ss (front_all Fits on_calls arm_calls all))) in
        let b : IsBuilt Q on_valued.v d (tys_instance ts types) =
        built Q on_valued.v d (tys_instance ts types) (ty_instance ts U) (ap (ty_instance ts) U_is ∙ ty_instance-Con ts d types) on_valued.in_type in
        let U_type : IsType Q context.tparams U = type_of Q typed place context is_context on_typed around.are_types in
        match_valued on d types arms U T s inner on_valued b
        (arms_valued arms_typed d 0 b.k s b.fields ss inner (chosen_of d types U D s on_valued.v b U_type U_is found on_valued.stands) around
        (back_all Fits on_calls arm_calls all))

    all_valued : {around_types : List Ty} {terms : List Term} {types : List Ty} → HaveTypes Q place context around_types terms types →
        (ss : List Standing) (inner : List Value) → Around around_types ss inner → All Fits (calls_in (map (walk Q n) terms) ss) →
        AllValued Q ts gs rho inner terms types (map (λ (part : Seen). (part ss).stands) (map (walk Q n) terms))
    all_valued typing.none ss inner around all = record { vs = []; count = 0; mean = none; in_types = values.none; stand = none_stands }
    all_valued (typing.more {t = t} {ts = terms} {T = T} {types = types} has have) ss inner around all =
        let first : List (List Standing) = (walk Q n t ss).calls in
        let rest : List (List Standing) = calls_in (map (walk Q n) terms) ss in
        more_valued t terms T types ss inner
        (of_layer t T ss inner (valued has ss inner around (calls_of t ss (front_all Fits first rest all))))
        (all_valued have ss inner around (back_all Fits first rest all))

    arms_valued : {around_types types : List Ty} {cs : List ConDef} {arms : List Term} {T : Ty} →
        HaveTypesInArms Q place context around_types types cs arms T →
        (d j i : ℕ) (s : Standing) (fields : List Value) (ss : List Standing) (inner : List Value) → Chosen d j i types cs s fields →
        Around around_types ss inner → All Fits (calls_in_arms Q d j (map (walk Q n) arms) s ss) → ArmValued Q ts gs rho inner arms i fields T
    arms_valued typing.no_arm d j i s fields ss inner it around all = absurd (nothing_is_some it.c it.at)
    arms_valued (typing.arm {bound = outer} {types = types} {c = c} {cs = cs} {body = body} {arms = arms} {T = T} met has have) d j zero s fields ss inner it
        around all =
        let within : List Standing = replicate (field_count Q d j) (under s) ++ ss in
        let first : List (List Standing) = (walk Q n body within).calls in
        let rest : List (List Standing) = calls_in_arms Q d (j + 1) (map (walk Q n) arms) s ss in
        arm_valued body arms T _ fields inner
        (valued has within (bind fields inner) (around_first d j types outer c cs s fields ss inner it around)
        (calls_of body within (front_all Fits first rest all)))
    arms_valued (typing.arm {bound = around_types} {types = types} {c = c} {cs = cs} {body = body} {arms = arms} {T = T} met has have) d j
        (suc i) s fields ss inner it around all =
        let within : List Standing = replicate (field_count Q d j) (under s) ++ ss in
        let first : List (List Standing) = (walk Q n body within).calls in
        let rest : List (List Standing) = calls_in_arms Q d (j + 1) (map (walk Q n) arms) s ss in
        later_arm body arms i T fields inner
        (arms_valued have d (j + 1) i s fields ss inner (later_chosen d j i types c cs s fields it) around (back_all Fits first rest all))

  -- a term has a value of its type
  pub term_valued : (t : Term) (T : Ty) → HasTypeLayer Q place context [] (out-Term t) T → All Fits (walk Q n t []).calls →
      Valued Q ts gs rho [] (out-Term t) T (walk Q n t []).stands
  term_valued t T has all =
      of_layer t T [] [] (valued has [] [] (record { are_types = typing.none; are_in = values.none; stand = none_stands }) (calls_of t [] all))
