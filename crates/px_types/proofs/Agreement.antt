-- Typing is carried along between programs that agree: types, functions, and what is known of them.
use Rattle.std.proofs.Common.{◌≡◌, inl, inr, ℕ, ◌<◌, ◌≤◌, List, map, Option, Some, None, refl, sym, ◌∙◌, ap, subst}
use Rattle.std.specs.Prelude.{slice_get}
use Rattle.std.specs.List.{All}
use Rattle.std.specs.Option.{IsSomeAnd, option_and_then}
use Rattle.std.proofs.lemmas.List.Elements.{All-weaker}
use Rattle.px_base.specs.declared.prop.Prop.{Prop}
use Rattle.px_base.specs.declared.head.Head.{Head}
use Rattle.px_base.specs.declared.head.Head.TheVariants.{Def, Wle, Weq, FnVar}
use Rattle.px_base.specs.declared.raw.RawTy.{RawTy}
use Rattle.px_terms.specs.declared.types.Ty.{Ty}
use Rattle.px_terms.specs.declared.types.Ty.TheOpen.{Ty-F}
use Rattle.px_terms.specs.declared.types.FnType.{FnType}
use Rattle.px_terms.specs.declared.types.Fun.{Fun}
use Rattle.px_terms.specs.declared.program.ConDef.{ConDef}
use Rattle.px_terms.specs.declared.program.DataDef.{DataDef}
use Rattle.px_terms.specs.declared.program.Def as definition
use Rattle.px_terms.specs.declared.program.Declared.{Declared}
use Rattle.px_terms.specs.declared.program.Declared.TheVariants as declared
use Rattle.px_terms.specs.declared.program.Program.{Program}
use Rattle.px_terms.specs.declared.sequent.Context.{Context}
use Rattle.px_terms.specs.Types.{ty_instance, tys_instance, fn_type_instance, own_types}
use Rattle.px_terms.specs.Programs.{constructor_at}
use Rattle.px_terms.specs.Implied.{Closure, known, sel_gives_idem, conn_gives_refl, asym_gives_irrefl, asym_gives_antisym, irrefl_and_trans_give_asym}
use Rattle.px_terms.specs.Typing.{IsTypeLayer, AreTypes, Place, anywhere, in_body, behind, StandsBefore, IsFunction, AreOwnTypes, MayCall, MayPass}
use Rattle.px_terms.specs.Typing.{IsEarlier, IsDeclaredBefore, IsSaid, IsKnown, IsArgument, AreArguments}
use Rattle.px_terms.specs.Typing as typing
use Rattle.px_terms.specs.TypedPrograms.{IsWritten, AreWritten, IsWrittenFnType, IsTypedCon, IsTypedData}
use Rattle.px_types.specs.Faults.{AreRight}
use Rattle.px_types.proofs.Appending.{no_item, There, there_of, some_and}

-- Each datatype of P is one of Q, with as many type parameters.
pub record AgreeOnTypes (P Q : Program) : Type 0 where
  pub datatypes : (d : ℕ) (D : DataDef) → slice_get P.datatypes d ≡ Some D → IsSomeAnd (slice_get Q.datatypes d) (λ (E : DataDef). E.tparams ≡ D.tparams)

-- The definitions have one signature, behind as many obligations; their bodies may differ.
pub record SameSignature (D E : definition.Def) : Type 0 where
  pub tparams : E.tparams ≡ D.tparams
  pub funs : E.funs ≡ D.funs
  pub params : E.params ≡ D.params
  pub result : E.result ≡ D.result
  pub seen : E.seen ≡ D.seen

-- What stands in P stands in Q at the same number; of definitions the signature.
pub record Agrees (P Q : Program) : Type 0 where
  pub datatypes : (d : ℕ) (D : DataDef) → slice_get P.datatypes d ≡ Some D → slice_get Q.datatypes d ≡ Some D
  pub defs : (n : ℕ) (D : definition.Def) → slice_get P.defs n ≡ Some D → IsSomeAnd (slice_get Q.defs n) (SameSignature D)
  pub declared : (i : ℕ) (x : Declared) → slice_get P.declared i ≡ Some x → slice_get Q.declared i ≡ Some x

-- Types, which ask of datatypes only how many types they take.
module _ {P Q : Program} (agree : AgreeOnTypes P Q) where
  mutual
    pub type_agrees : {tparams : ℕ} {layer : Ty-F Ty} → IsTypeLayer P tparams layer → IsTypeLayer Q tparams layer
    type_agrees typing.word = typing.word
    type_agrees (typing.var below) = typing.var below
    type_agrees (typing.con {d = d} {D = D} stands count are) =
        let here = there_of (slice_get Q.datatypes d) (λ (E : DataDef). E.tparams ≡ D.tparams) (agree.datatypes d D stands) in
        typing.con here.is (count ∙ sym here.holds) (types_agree are)

    pub types_agree : {tparams : ℕ} {types : List Ty} → AreTypes P tparams types → AreTypes Q tparams types
    types_agree typing.none = typing.none
    types_agree (typing.more is are) = typing.more (type_agrees is) (types_agree are)

  pub written_agrees : {tparams : ℕ} {T : Ty} → IsWritten P tparams T → IsWritten Q tparams T
  written_agrees w = record { is_type = type_agrees w.is_type; small = w.small }

  pub all_written_agree : (tparams : ℕ) (types : List Ty) → AreWritten P tparams types → AreWritten Q tparams types
  all_written_agree tparams types all = All-weaker (IsWritten P tparams) (IsWritten Q tparams) (λ T w. written_agrees w) types all

  pub right_agrees : {tparams : ℕ} {raws : List RawTy} {types : List Ty} → AreRight P tparams raws types → AreRight Q tparams raws types
  right_agrees {tparams} {raws} {types} right = record { are = right.are; written = all_written_agree tparams types right.written }

  pub fn_type_agrees : {tparams : ℕ} {F : FnType} → IsWrittenFnType P tparams F → IsWrittenFnType Q tparams F
  fn_type_agrees {tparams} {F} w = record { params = all_written_agree tparams F.params w.params; result = written_agrees w.result }

  pub all_fn_types_agree : (tparams : ℕ) (funs : List FnType) → All (IsWrittenFnType P tparams) funs → All (IsWrittenFnType Q tparams) funs
  all_fn_types_agree tparams funs all = All-weaker (IsWrittenFnType P tparams) (IsWrittenFnType Q tparams) (λ F w. fn_type_agrees w) funs all

  pub typed_data_agrees : {D : DataDef} → IsTypedData P D → IsTypedData Q D
  typed_data_agrees {D} typed = record {
    some = typed.some;
    cons = All-weaker (IsTypedCon P D.tparams) (IsTypedCon Q D.tparams) (λ c all. all_written_agree D.tparams c.fields all) D.cons typed.cons;
  }

-- what is implied by less is implied by more
pub closure_weaker : (Less More : Prop → Type 0) → ((p : Prop) → Less p → More p) → {p : Prop} → Closure Less p → Closure More p
closure_weaker Less More weaker (known {p = p} k) = known (weaker p k)
closure_weaker Less More weaker (sel_gives_idem k) = sel_gives_idem (closure_weaker Less More weaker k)
closure_weaker Less More weaker (conn_gives_refl k) = conn_gives_refl (closure_weaker Less More weaker k)
closure_weaker Less More weaker (asym_gives_irrefl k) = asym_gives_irrefl (closure_weaker Less More weaker k)
closure_weaker Less More weaker (asym_gives_antisym k) = asym_gives_antisym (closure_weaker Less More weaker k)
closure_weaker Less More weaker (irrefl_and_trans_give_asym k l) =
    irrefl_and_trans_give_asym (closure_weaker Less More weaker k) (closure_weaker Less More weaker l)

-- Functions, and the properties that are known of them.
module _ {P Q : Program} (agree : Agrees P Q) where
  pub on_types : AgreeOnTypes P Q
  on_types = record { datatypes = λ d D e. some_and (slice_get Q.datatypes d) (λ (E : DataDef). E.tparams ≡ D.tparams) D (agree.datatypes d D e) refl }

  -- the definition that stands in Q
  pub definition_there : (n : ℕ) (D : definition.Def) → slice_get P.defs n ≡ Some D → There (slice_get Q.defs n) (SameSignature D)
  definition_there n D e = there_of (slice_get Q.defs n) (SameSignature D) (agree.defs n D e)

  -- what a signature tells of a definition
  definition_agrees : (n : ℕ) (Here Hence : definition.Def → Type 0) → ((D E : definition.Def) → SameSignature D E → Here D → Hence E) →
      IsSomeAnd (slice_get P.defs n) Here → IsSomeAnd (slice_get Q.defs n) Hence
  definition_agrees n Here Hence carry h =
      let here = there_of (slice_get P.defs n) Here h in
      let hence = definition_there n here.item here.is in
      some_and (slice_get Q.defs n) Hence hence.item hence.is (carry here.item hence.item hence.holds here.holds)

  pub constructor_agrees : (d k : ℕ) (c : ConDef) → constructor_at P d k ≡ Some c → constructor_at Q d k ≡ Some c
  constructor_agrees d k c e = go (slice_get P.datatypes d) refl e
    where
      go : (o : Option DataDef) → slice_get P.datatypes d ≡ o → option_and_then (λ (D : DataDef). slice_get D.cons k) o ≡ Some c →
          option_and_then (λ (D : DataDef). slice_get D.cons k) (slice_get Q.datatypes d) ≡ Some c
      go None is e = absurd (no_item c e)
      go (Some D) is e = ap (option_and_then (λ (D : DataDef). slice_get D.cons k)) (agree.datatypes d D is) ∙ e

  pub function_agrees : {context : Context} {f : Fun} {takes : List FnType} {params : List Ty} {T : Ty} → IsFunction P context f takes params T →
      IsFunction Q context f takes params T
  function_agrees (typing.of_definition {n = n} {types = types} {D = D} stands count are takes params result) =
      let there = definition_there n D stands in
      let same : SameSignature D there.item = there.holds in
      typing.of_definition there.is (count ∙ sym same.tparams) (types_agree on_types are)
      (takes ∙ ap (λ (funs : List FnType). map (fn_type_instance types) funs) (sym same.funs))
      (params ∙ ap (tys_instance types) (sym same.params))
      (result ∙ ap (ty_instance types) (sym same.result))
  function_agrees (typing.at_most result) = typing.at_most result
  function_agrees (typing.equal result) = typing.equal result
  function_agrees (typing.of_variable stands params result) = typing.of_variable stands params result

  pub stands_before_agrees : (n count : ℕ) → StandsBefore P n count → StandsBefore Q n count
  stands_before_agrees n count h = definition_agrees n (λ (D : definition.Def). D.seen ≤ count) (λ (E : definition.Def). E.seen ≤ count)
      (λ D E same before. subst (λ (seen : ℕ). seen ≤ count) (sym same.seen) before) h

  pub own_types_agree : (n : ℕ) (types : List Ty) → AreOwnTypes P n types → AreOwnTypes Q n types
  own_types_agree n types h = definition_agrees n (λ (D : definition.Def). types ≡ own_types D.tparams)
      (λ (E : definition.Def). types ≡ own_types E.tparams) (λ D E same own. own ∙ ap own_types (sym same.tparams)) h

  pub may_call_agrees : (place : Place) (h : Head) (types : List Ty) → MayCall P place h types → MayCall Q place h types
  may_call_agrees anywhere (Def m) types may = tt
  may_call_agrees anywhere Wle types may = tt
  may_call_agrees anywhere Weq types may = tt
  may_call_agrees anywhere (FnVar i) types may = tt
  may_call_agrees (in_body n) (Def m) types (inl before) = inl before
  may_call_agrees (in_body n) (Def m) types (inr own) = inr (own.0, own_types_agree n types own.1)
  may_call_agrees (in_body n) Wle types may = tt
  may_call_agrees (in_body n) Weq types may = tt
  may_call_agrees (in_body n) (FnVar i) types may = tt
  may_call_agrees (behind count) (Def m) types may = stands_before_agrees m count may
  may_call_agrees (behind count) Wle types may = tt
  may_call_agrees (behind count) Weq types may = tt
  may_call_agrees (behind count) (FnVar i) types may = tt

  pub may_pass_agrees : (place : Place) (h : Head) → MayPass P place h → MayPass Q place h
  may_pass_agrees anywhere (Def m) may = tt
  may_pass_agrees anywhere Wle may = tt
  may_pass_agrees anywhere Weq may = tt
  may_pass_agrees anywhere (FnVar i) may = tt
  may_pass_agrees (in_body n) (Def m) may = may
  may_pass_agrees (in_body n) Wle may = tt
  may_pass_agrees (in_body n) Weq may = tt
  may_pass_agrees (in_body n) (FnVar i) may = tt
  may_pass_agrees (behind count) (Def m) may = stands_before_agrees m count may
  may_pass_agrees (behind count) Wle may = tt
  may_pass_agrees (behind count) Weq may = tt
  may_pass_agrees (behind count) (FnVar i) may = tt

  pub earlier_agrees : (place : Place) (i : ℕ) → IsEarlier P place i → IsEarlier Q place i
  earlier_agrees anywhere i earlier = tt
  earlier_agrees (in_body n) i earlier = definition_agrees n (λ (D : definition.Def). i < D.seen) (λ (E : definition.Def). i < E.seen)
      (λ D E same before. subst (λ (seen : ℕ). i < seen) (sym same.seen) before) earlier
  earlier_agrees (behind count) i earlier = earlier

  pub declared_agrees : (place : Place) (n : ℕ) (p : Prop) → IsDeclaredBefore P place n p → IsDeclaredBefore Q place n p
  declared_agrees place n p d = record {
    number = d.number;
    earlier = earlier_agrees place d.number d.earlier;
    stands = agree.declared d.number (declared.Property n p) d.stands;
  }

  pub said_agrees : (place : Place) (context : Context) (h : Head) (p : Prop) → IsSaid P place context h p → IsSaid Q place context h p
  said_agrees place context (Def n) p said = declared_agrees place n p said
  said_agrees place context Wle p said = said
  said_agrees place context Weq p said = said
  said_agrees place context (FnVar i) p said = said

  pub known_agrees : (place : Place) (context : Context) (h : Head) (p : Prop) → IsKnown P place context h p → IsKnown Q place context h p
  known_agrees place context h p k = closure_weaker (IsSaid P place context h) (IsSaid Q place context h) (said_agrees place context h) k

  pub argument_agrees : {place : Place} {context : Context} {f : Fun} {wanted : FnType} → IsArgument P place context f wanted →
      IsArgument Q place context f wanted
  argument_agrees {place} {context} {f} {wanted} a = record {
    function = function_agrees a.function;
    may_pass = may_pass_agrees place f.head a.may_pass;
    types_met = a.types_met;
    params_met = a.params_met;
    result_met = a.result_met;
    properties = λ p has. known_agrees place context f.head p (a.properties p has);
  }

  pub arguments_agree : {place : Place} {context : Context} {fs : List Fun} {takes : List FnType} → AreArguments P place context fs takes →
      AreArguments Q place context fs takes
  arguments_agree typing.none = typing.none
  arguments_agree (typing.more is are) = typing.more (argument_agrees is) (arguments_agree are)
