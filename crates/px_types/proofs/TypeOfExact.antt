-- The type that is found of a term is exactly the one that it has.
use Rattle.std.proofs.Common.{◌≡◌, ℕ, ◌<◌, ◌^◌, Bool, true, false, ◌&&◌, List, [], ◌∷◌, length, map, Option, Some, None, refl, sym, ◌∙◌, ap, subst, Decides}
use Rattle.std.proofs.Common.{arith}
use Rattle.std.specs.Prelude.{slice_get}
use Rattle.std.specs.List.{list_all}
use Rattle.std.specs.Option.{IsSomeAnd, option_and_then}
use Rattle.std.proofs.lemmas.Bool.{false≢true}
use Rattle.std.proofs.lemmas.List.{length-map}
use Rattle.std.proofs.lemmas.Option.{same_Some}
use Rattle.std.proofs.lemmas.Bool.Decides.{Decides-eqb, Decides-ltb, Decides-and, Decides-like}
use Rattle.px_base.specs.declared.head.Head.{Head}
use Rattle.px_base.specs.declared.head.Head.TheVariants.{Def, Wle, Weq, FnVar}
use Rattle.px_terms.specs.declared.types.Ty.{Ty, out-Ty, map-Ty, fold_out-Ty}
use Rattle.px_terms.specs.declared.types.Ty.TheVariants as type
use Rattle.px_terms.specs.declared.types.Ty.TheOpen.{Ty-F}
use Rattle.px_terms.specs.declared.types.FnType.{FnType}
use Rattle.px_terms.specs.declared.types.Fun.{Fun}
use Rattle.px_terms.specs.declared.term.Term.{Term, out-Term}
use Rattle.px_terms.specs.declared.term.Term.TheOpen.{Term-F}
use Rattle.px_terms.specs.declared.program.ConDef.{ConDef}
use Rattle.px_terms.specs.declared.program.DataDef.{DataDef}
use Rattle.px_terms.specs.declared.program.Program.{Program}
use Rattle.px_terms.specs.declared.sequent.Context.{Context}
use Rattle.px_terms.specs.Types.{tys_instance}
use Rattle.px_terms.specs.Typing.{anywhere, IsType, IsTypeLayer, AreTypes, IsMet, IsFunction, IsArgument, AreArguments, IsKnown, MayPass, MayCall}
use Rattle.px_terms.specs.Typing.{HasTypeLayer, HaveTypes, HaveTypesInArms}
use Rattle.px_terms.specs.Typing as typing
use Rattle.px_types.specs.Faults.{Counts, counts_of}
use Rattle.px_types.specs.Outcome.{agrees, type_of_variable, Signature}
use Rattle.px_types.specs.TypeOf.{HasConstructors, at_no_place, followed, when, takes, is_type_step, is_type, are_types, is_datatype, has_type_count}
use Rattle.px_types.specs.TypeOf.{has_types, callee_found, argument_fits, arguments_fit, parts_have, arms_have, literal_type, fields_found, con_type}
use Rattle.px_types.specs.TypeOf.{call_type, constructors_found, match_type, type_found, TypesAreExact}
use Rattle.px_types.proofs.Exact.{Every}
use Rattle.px_types.proofs.Known.{decides_passes, decides_wanted}
use Rattle.px_types.proofs.Sameness.{ArgsHold, ty_induction, every_ty, decides_same}
use Rattle.px_types.proofs.Functions.{IsAlike, decides_alike, function_of, function_is, function_counts, function_types}
use Rattle.px_types.proofs.TypeOfShapes.{PartsHold, term_induction, layer_type, type_found_is}

-- What a chain that finds something went through.
pub record Through {S T : Type 0} (o : Option S) (f : S → Option T) (y : T) : Type 0 where
  pub x : S
  pub first : o ≡ Some x
  pub then_is : f x ≡ Some y

pub through : {S T : Type 0} (o : Option S) (f : S → Option T) (y : T) → followed o f ≡ Some y → Through o f y
unfolding followed
through None f y e = absurd cc
through (Some x) f y e = record { x = x; first = refl; then_is = e }

pub when_true : (b : Bool) (u : Unit {0}) → when b ≡ Some u → b ≡ true
unfolding when
when_true true u e = refl
when_true false u e = absurd cc

pub true_when : (b : Bool) → b ≡ true → when b ≡ Some tt
unfolding when
true_when true e = refl
true_when false e = absurd (false≢true e)

pub then_follows : {S T : Type 0} (o : Option S) (f : S → Option T) (x : S) (y : T) → o ≡ Some x → f x ≡ Some y → followed o f ≡ Some y
unfolding followed
then_follows o f x y e g = ap (λ (p : Option _). followed p f) e ∙ g

-- Types.
is_type_is : (P : Program) (tparams : ℕ) (T : Ty) → is_type P tparams T ≡ is_type_step P tparams (map-Ty Ty Bool (is_type P tparams) (out-Ty T))
unfolding is_type
is_type_is P tparams T = fold_out-Ty Bool (is_type_step P tparams) T

module _ (P : Program) (tparams : ℕ) where
  abbrev TypeTells : Ty → Type 0
  TypeTells T = Decides (is_type P tparams T) (IsType P tparams T)

  head_type : {T : Ty} {types : List Ty} → AreTypes P tparams (T ∷ types) → IsType P tparams T × AreTypes P tparams types
  head_type (typing.more is are) = (is, are)

  decides_each : (types : List Ty) → Every TypeTells types → Decides (list_all (is_type P tparams) types) (AreTypes P tparams types)
  decides_each [] all = (λ e. typing.none, λ h. refl)
  decides_each (T ∷ types) (one, all) = Decides-like _ (λ h. typing.more h.0 h.1) (λ h. head_type h) (Decides-and _ _ one (decides_each types all))

  all_of_map : (types : List Ty) → list_all (λ (b : Bool). b) (map (is_type P tparams) types) ≡ list_all (is_type P tparams) types
  all_of_map [] = refl
  all_of_map (T ∷ types) = ap (λ b. is_type P tparams T && b) (all_of_map types)

  -- the datatype is there, and takes so many types
  abbrev TakesSo : ℕ → List Ty → Type 0
  TakesSo d args = IsSomeAnd (slice_get P.datatypes d) (λ (D : DataDef). D.tparams ≡ length args)

  con_of : (d : ℕ) (args : List Ty) → TakesSo d args → AreTypes P tparams args → IsTypeLayer P tparams (Ty-F.Con d args)
  con_of d args takes are = go (slice_get P.datatypes d) refl takes
    where
      go : (o : Option DataDef) → slice_get P.datatypes d ≡ o → IsSomeAnd o (λ (D : DataDef). D.tparams ≡ length args) → IsTypeLayer P tparams (Ty-F.Con d args)
      go None stands takes = absurd takes
      go (Some D) stands takes = typing.con stands (sym takes) are

  of_con : {d : ℕ} {args : List Ty} → IsTypeLayer P tparams (Ty-F.Con d args) → TakesSo d args × AreTypes P tparams args
  of_con (typing.con stands count are) = (rw stands (sym count), are)

  of_var : {n : ℕ} → IsTypeLayer P tparams (Ty-F.Var n) → n < tparams
  of_var (typing.var below) = below

  decides_takes : (d : ℕ) (args : List Ty) → Decides (takes P d (length args)) (TakesSo d args)
  unfolding takes
  decides_takes d args = decides_passes _ (λ (D : DataDef). D.tparams ≡ length args) (λ D. Decides-eqb D.tparams (length args)) (slice_get P.datatypes d)

  decides_layer : (x : Ty-F Ty) → ArgsHold TypeTells x → Decides (is_type_step P tparams (map-Ty Ty Bool (is_type P tparams) x)) (IsTypeLayer P tparams x)
  decides_layer Ty-F.Word all = (λ e. typing.word, λ h. refl)
  decides_layer (Ty-F.Var n) all = Decides-like _ (λ h. typing.var h) (λ h. of_var h) (Decides-ltb n tparams)
  decides_layer (Ty-F.Con d args) all =
      let counts : Decides (takes P d (length (map (is_type P tparams) args))) (TakesSo d args) = rw (length-map {A = Ty} {B = Bool}) (decides_takes d args) in
      let each : Decides (list_all (λ (b : Bool). b) (map (is_type P tparams) args)) (AreTypes P tparams args) =
      subst (λ b. Decides b (AreTypes P tparams args)) (sym (all_of_map args)) (decides_each args all) in
      Decides-like _ (λ h. con_of d args h.0 h.1) (λ h. of_con h) (Decides-and _ _ counts each)

  pub decides_type : (T : Ty) → TypeTells T
  decides_type = ty_induction TypeTells (λ T all. subst (λ b. Decides b (IsType P tparams T)) (sym (is_type_is P tparams T)) (decides_layer (out-Ty T) all))

  pub decides_types : (types : List Ty) → Decides (are_types P tparams types) (AreTypes P tparams types)
  unfolding are_types
  decides_types types = decides_each types (every_ty TypeTells decides_type types)

  pub decides_datatype : (d : ℕ) (types : List Ty) → Decides (is_datatype P tparams d types) (IsTypeLayer P tparams (Ty-F.Con d types))
  unfolding is_datatype
  decides_datatype d types =
      Decides-like _ (λ h. con_of d types h.0 h.1) (λ h. of_con h) (Decides-and _ _ (decides_takes d types) (decides_types types))

-- What is called or passed.
module _ (P : Program) (context : Context) where
  -- as many types as what is called takes, and they are types
  abbrev GivesTypes : Fun → Type 0
  GivesTypes f = IsSomeAnd (counts_of (at_no_place P context) f.head) (λ (c : Counts). c.types ≡ length f.types) × AreTypes P context.tparams f.types

  decides_gives_types : (f : Fun) → Decides (has_types (at_no_place P context) f) (GivesTypes f)
  unfolding has_types has_type_count
  decides_gives_types f = Decides-and _ _
      (decides_passes _ (λ (c : Counts). c.types ≡ length f.types) (λ c. Decides-eqb c.types (length f.types)) (counts_of (at_no_place P context) f.head))
      (decides_types P context.tparams f.types)

  pub callee_is : (f : Fun) (s : Signature) → callee_found (at_no_place P context) f ≡ Some s → IsFunction P context f s.takes s.params s.result
  unfolding callee_found
  callee_is f s e =
      let one = through _ _ s e in
      let gives = (decides_gives_types f).0 (when_true _ _ one.first) in
      function_of (at_no_place P context) f.head f.types s gives.0 gives.1 one.then_is

  pub callee_there : (f : Fun) (takes : List FnType) (params : List Ty) (T : Ty) → IsFunction P context f takes params T → callee_found
      (at_no_place P context) f ≡ Some (record { takes = takes; params = params; result = T })
  unfolding callee_found
  callee_there f takes params T is =
      let count : IsSomeAnd (counts_of (at_no_place P context) f.head) (λ (c : Counts). c.types ≡ length f.types) =
      rw (function_counts (at_no_place P context) is) refl in
      then_follows _ _ tt _ (true_when _ ((decides_gives_types f).1 (count, function_types (at_no_place P context) is)))
      (function_is (at_no_place P context) is)

  may_pass_here : (h : Head) → MayPass P anywhere h
  may_pass_here (Def n) = tt
  may_pass_here Wle = tt
  may_pass_here Weq = tt
  may_pass_here (FnVar i) = tt

  may_call_here : (h : Head) (types : List Ty) → MayCall P anywhere h types
  may_call_here (Def n) types = tt
  may_call_here Wle types = tt
  may_call_here Weq types = tt
  may_call_here (FnVar i) types = tt

  function_alike : (f : Fun) (own : Signature) (wanted : FnType) → IsAlike own wanted → IsFunction P context f own.takes own.params own.result →
      IsFunction P context f [] wanted.params wanted.result
  function_alike f own wanted alike has =
      subst (λ (T : Ty). IsFunction P context f [] wanted.params T) alike.result
      (subst (λ (params : List Ty). IsFunction P context f [] params own.result) alike.params
      (subst (λ (takes : List FnType). IsFunction P context f takes own.params own.result) alike.takes has))

  argument_is : (f : Fun) (wanted : FnType) (u : Unit {0}) → argument_fits (at_no_place P context) f wanted ≡ Some u → IsArgument P anywhere context f wanted
  unfolding argument_fits
  argument_is f wanted u e =
      let one = through _ _ u e in
      let own : Signature = one.x in
      let two = through _ _ u one.then_is in
      let alike : IsAlike own wanted = (decides_alike own wanted).0 (when_true _ _ two.first) in
      let has : IsFunction P context f own.takes own.params own.result = callee_is f own one.first in
      record {
        function = function_alike f own wanted alike has;
        may_pass = may_pass_here f.head;
        types_met = λ k d below. tt;
        params_met = λ k d below. tt;
        result_met = tt;
        properties = (decides_wanted (at_no_place P context) f.head wanted.props).0 (when_true _ _ two.then_is);
      }

  argument_there : (f : Fun) (wanted : FnType) → IsArgument P anywhere context f wanted → argument_fits (at_no_place P context) f wanted ≡ Some tt
  unfolding argument_fits
  argument_there f wanted a =
      let alike : IsAlike (record { takes = []; params = wanted.params; result = wanted.result }) wanted =
      record { takes = refl; params = refl; result = refl } in
      then_follows _ _ _ _ (callee_there f [] wanted.params wanted.result a.function)
      (then_follows _ _ tt _ (true_when _ ((decides_alike (record { takes = []; params = wanted.params; result = wanted.result }) wanted).1 alike))
      (true_when _ ((decides_wanted (at_no_place P context) f.head wanted.props).1 a.properties)))

  arguments_are : (fs : List Fun) (takes : List FnType) (u : Unit {0}) → arguments_fit (at_no_place P context) fs takes ≡ Some u →
      AreArguments P anywhere context fs takes
  unfolding arguments_fit
  arguments_are [] [] u e = typing.none
  arguments_are [] (wanted ∷ takes) u e = absurd cc
  arguments_are (f ∷ fs) [] u e = absurd cc
  arguments_are (f ∷ fs) (wanted ∷ takes) u e =
      let one = through _ _ u e in
      typing.more (argument_is f wanted _ one.first) (arguments_are fs takes u one.then_is)

  arguments_there : {fs : List Fun} {takes : List FnType} → AreArguments P anywhere context fs takes → arguments_fit (at_no_place P context) fs takes ≡ Some tt
  unfolding arguments_fit
  arguments_there typing.none = refl
  arguments_there (typing.more is are) = then_follows _ _ tt _ (argument_there _ _ is) (arguments_there are)

-- Terms.
module _ (P : Program) (context : Context) where
  abbrev Has : List Ty → Term → Ty → Type 0
  Has bound t T = HasTypeLayer P anywhere context bound (out-Term t) T

  -- the type that is found of the term is one that it has
  abbrev IsRight : Term → Type 0
  IsRight t = (bound : List Ty) (T : Ty) → type_found (at_no_place P context) t bound ≡ Some T → Has bound t T

  parts_are : (bound : List Ty) (ts : List Term) (types : List Ty) (u : Unit {0}) → Every IsRight ts →
      parts_have bound (map (type_found (at_no_place P context)) ts) types ≡ Some u → HaveTypes P anywhere context bound ts types
  unfolding parts_have
  parts_are bound [] [] u all e = typing.none
  parts_are bound [] (T ∷ types) u all e = absurd cc
  parts_are bound (t ∷ ts) [] u all e = absurd cc
  parts_are bound (t ∷ ts) (T ∷ types) u (right, all) e =
      let one = through _ _ u e in
      let two = through _ _ u one.then_is in
      let is : one.x ≡ T = (decides_same one.x T).0 (when_true _ _ two.first) in
      typing.more (right bound T (one.first ∙ ap Some is)) (parts_are bound ts types u all two.then_is)

  -- the arms before had this type, where there were some
  abbrev Agree : Option Ty → Ty → Type 0
  Agree None T = Unit {0}
  Agree (Some U) T = U ≡ T

  agree_of : (before : Option Ty) (U T : Ty) → agrees before U ≡ true → U ≡ T → Agree before T
  unfolding agrees
  agree_of None U T e f = tt
  agree_of (Some first) U T e f = sym ((decides_same U first).0 e) ∙ f

  -- What arms that have one type are.
  record ArmsAre (bound types : List Ty) (before : Option Ty) (cons : List ConDef) (ts : List Term) (T : Ty) : Type 0 where
    pub agree : Agree before T
    pub have : HaveTypesInArms P anywhere context bound types cons ts T

  agree_last : (before : Option Ty) (T : Ty) → before ≡ Some T → Agree before T
  agree_last None T e = tt
  agree_last (Some U) T e = cc

  arms_are : (bound types : List Ty) (before : Option Ty) (cons : List ConDef) (ts : List Term) (T : Ty) → Every IsRight ts →
      arms_have bound types before cons (map (type_found (at_no_place P context)) ts) ≡ Some T → ArmsAre bound types before cons ts T
  unfolding arms_have
  arms_are bound types before [] [] T all e = record { agree = agree_last before T e; have = typing.no_arm }
  arms_are bound types before [] (t ∷ ts) T all e = absurd cc
  arms_are bound types before (c ∷ cons) [] T all e = absurd cc
  arms_are bound types before (c ∷ cons) (t ∷ ts) T (right, all) e =
      let one = through _ _ T e in
      let two = through _ _ T one.then_is in
      let rest : ArmsAre bound types (Some one.x) cons ts T = arms_are bound types (Some one.x) cons ts T all two.then_is in
      let is : one.x ≡ T = rest.agree in
      record {
        agree = agree_of before one.x T (when_true _ _ two.first) is;
        have = typing.arm (λ k d below. tt) (right _ T (one.first ∙ ap Some is)) rest.have;
      }

  live_type : (n : ℕ) (T : Ty) → type_of_variable (at_no_place P context) n ≡ Some T → slice_get context.vars n ≡ Some (Some T)
  live_type n T e = go (slice_get context.vars n) e
    where
      go : (o : Option (Option Ty)) → option_and_then (λ (slot : Option Ty). slot) o ≡ Some T → o ≡ Some (Some T)
      go None e = absurd cc
      go (Some slot) e = ap Some e

  layer_right : (y : Term-F Term) → PartsHold IsRight y → (bound : List Ty) (T : Ty) → layer_type (at_no_place P context) y bound ≡ Some T →
      HasTypeLayer P anywhere context bound y T
  unfolding literal_type fields_found con_type call_type constructors_found match_type
  layer_right (Term-F.Free n) all bound T e = typing.free (live_type n T e) tt
  layer_right (Term-F.Bound n) all bound T e = typing.bound e tt
  layer_right (Term-F.Lit w) all bound T e =
      let one = through _ _ T e in
      typing.lit ((Decides-ltb w (2 ^ 64)).0 (when_true _ _ one.first)) (sym (same_Some _ _ one.then_is))
  layer_right (Term-F.Con d k types fields) all bound T e =
      let one = through _ _ T e in
      let two = through _ _ T one.then_is in
      let wanted = one.first in
      let three = through _ _ _ wanted in
      let four = through _ _ _ three.then_is in
      let c : ConDef = four.x in
      let fields_are : tys_instance types c.fields ≡ one.x = same_Some _ _ four.then_is in
      let is : type.Con d types ≡ T = same_Some _ _ two.then_is in
      let layer : IsTypeLayer P context.tparams (Ty-F.Con d types) = (decides_datatype P context.tparams d types).0 (when_true _ _ three.first) in
      let is_type : IsType P context.tparams T =
      subst (IsType P context.tparams) is (subst (IsTypeLayer P context.tparams) (sym (type.outs-Con d types)) layer) in
      typing.con four.first is_type (sym is) tt (subst (HaveTypes P anywhere context bound fields) (sym fields_are) (parts_are bound fields _ _ all two.first))
  layer_right (Term-F.Call f funs args) all bound T e =
      let one = through _ _ T e in
      let two = through _ _ T one.then_is in
      let three = through _ _ T two.then_is in
      let s : Signature = one.x in
      let is : s.result ≡ T = same_Some _ _ three.then_is in
      typing.call (subst (IsFunction P context f s.takes s.params) is (callee_is P context f s one.first)) (may_call_here P context f.head f.types)
      (λ k d below. tt) tt (arguments_are P context funs s.takes _ two.first) (parts_are bound args s.params _ all three.first)
  layer_right (Term-F.Match on d types arms) (right, all) bound T e =
      let one = through _ _ T e in
      let two = through _ _ T one.then_is in
      let cons_are = two.first in
      let three = through _ _ _ cons_are in
      let four = through _ _ _ three.then_is in
      let D : DataDef = four.x in
      let same_cons : D.cons ≡ two.x = same_Some _ _ four.then_is in
      let is : one.x ≡ type.Con d types = (decides_same one.x (type.Con d types)).0 (when_true _ _ three.first) in
      let have : HaveTypesInArms P anywhere context bound types two.x arms T = (arms_are bound types None two.x arms T all two.then_is).have in
      typing.choose (right bound one.x one.first) is four.first
      (subst (λ cons. HaveTypesInArms P anywhere context bound types cons arms T) (sym same_cons) have)

  pub is_right : (t : Term) → IsRight t
  is_right = term_induction IsRight (λ t all bound T e. layer_right (out-Term t) all bound T (sym (type_found_is (at_no_place P context) t bound) ∙ e))

  -- before these constructors there was an arm of this type, or there is one to come
  abbrev Starts : Option Ty → List ConDef → Ty → Type 0
  Starts (Some U) cons T = U ≡ T
  Starts None [] T = ⊥
  Starts None (c ∷ cons) T = Unit {0}

  starts_last : (before : Option Ty) (T : Ty) → Starts before [] T → before ≡ Some T
  starts_last None T h = absurd h
  starts_last (Some U) T h = ap Some h

  starts_agree : (before : Option Ty) (c : ConDef) (cons : List ConDef) (T : Ty) → Starts before (c ∷ cons) T → agrees before T ≡ true
  unfolding agrees
  starts_agree None c cons T h = refl
  starts_agree (Some U) c cons T h = (decides_same T U).1 (sym h)

  starts_some : (cons : List ConDef) (T : Ty) → 0 < length cons → Starts None cons T
  starts_some [] T h = absurd (omega arith)
  starts_some (c ∷ cons) T h = tt

  by_layer : (t : Term) (bound : List Ty) (T : Ty) → layer_type (at_no_place P context) (out-Term t) bound ≡ Some T →
      type_found (at_no_place P context) t bound ≡ Some T
  by_layer t bound T e = type_found_is (at_no_place P context) t bound ∙ e

  -- Where each datatype has a constructor, the type that a term has is found.
  module _ (some : HasConstructors P) where
    mutual
      unfolding literal_type fields_found con_type call_type constructors_found match_type parts_have arms_have

      layer_there : {bound : List Ty} {y : Term-F Term} {T : Ty} → HasTypeLayer P anywhere context bound y T →
          layer_type (at_no_place P context) y bound ≡ Some T
      layer_there (typing.free stands met) = rw stands refl
      layer_there (typing.bound stands met) = stands
      layer_there (typing.lit {w = w} below is) = then_follows _ _ tt _ (true_when _ ((Decides-ltb w (2 ^ 64)).1 below)) (ap Some (sym is))
      layer_there (typing.con {d = d} {types = types} stands is_type is met have) =
          let layer : IsTypeLayer P context.tparams (Ty-F.Con d types) = subst (IsTypeLayer P context.tparams) (ap out-Ty is ∙ type.outs-Con d types) is_type in
          then_follows _ _ _ _ (then_follows _ _ tt _ (true_when _ ((decides_datatype P context.tparams d types).1 layer)) (then_follows _ _ _ _ stands refl))
          (then_follows _ _ tt _ (parts_there have) (ap Some (sym is)))
      layer_there (typing.call {f = f} {takes = takes} {params = params} {T = T} function may met small arguments have) =
          then_follows _ _ (record { takes = takes; params = params; result = T }) _ (callee_there P context f takes params T function)
          (then_follows _ _ tt _ (arguments_there P context arguments) (then_follows _ _ tt _ (parts_there have) refl))
      layer_there (typing.choose {bound = bound} {on = on} {d = d} {types = types} {T = T} {U = U} {D = D} has is stands have) =
          then_follows _ _ U _ (by_layer on bound U (layer_there has))
          (then_follows _ _ D.cons _ (then_follows _ _ tt _ (true_when _ ((decides_same U (type.Con d types)).1 is)) (then_follows _ _ D _ stands refl))
          (arms_there None (starts_some D.cons T (some d D stands)) have))

      parts_there : {bound : List Ty} {ts : List Term} {types : List Ty} → HaveTypes P anywhere context bound ts types →
          parts_have bound (map (type_found (at_no_place P context)) ts) types ≡ Some tt
      parts_there typing.none = refl
      parts_there (typing.more {bound = bound} {t = t} {T = T} has have) =
          then_follows _ _ T _ (by_layer t bound T (layer_there has)) (then_follows _ _ tt _ (true_when _ ((decides_same T T).1 refl)) (parts_there have))

      arms_there : {bound types : List Ty} {cons : List ConDef} {ts : List Term} {T : Ty} (before : Option Ty) → Starts before cons T →
          HaveTypesInArms P anywhere context bound types cons ts T → arms_have bound types before cons (map (type_found (at_no_place P context)) ts) ≡ Some T
      arms_there {T} before starts typing.no_arm = starts_last before T starts
      arms_there {T} before starts (typing.arm {bound = bound} {types = types} {c = c} {cs = cons} {body = body} met has have) =
          then_follows _ _ T _ (by_layer body _ T (layer_there has))
          (then_follows _ _ tt _ (true_when _ (starts_agree before c cons T starts)) (arms_there (Some T) refl have))

    pub term_there : (t : Term) (bound : List Ty) (T : Ty) → Has bound t T → type_found (at_no_place P context) t bound ≡ Some T
    term_there t bound T has = by_layer t bound T (layer_there has)

pub types_exact : TypesAreExact
types_exact P context t bound T some = (is_right P context t bound T, term_there P context some t bound T)
