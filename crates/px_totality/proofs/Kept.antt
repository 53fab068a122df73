-- What is typed in a program is typed in its extensions, and an obligation stays one with its clause.
use Rattle.std.proofs.Common.{◌≡◌, inl, inr, ℕ, ◌<◌, ◌≤◌, List, map, length, Option, Some, None, refl, sym, ◌∙◌, ap, subst}
use Rattle.std.specs.Prelude.{slice_get}
use Rattle.std.specs.Option.{IsSomeAnd, option_and_then}
use Rattle.px_terms.specs.Prop.{Prop}
use Rattle.px_terms.specs.Head.{Head}
use Rattle.px_terms.specs.Head.TheVariants.{Def, Wle, Weq, FnVar}
use Rattle.px_terms.specs.declared.types.Ty.{Ty}
use Rattle.px_terms.specs.declared.types.Ty.TheOpen.{Ty-F}
use Rattle.px_terms.specs.declared.types.FnType.{FnType}
use Rattle.px_terms.specs.declared.types.Fun.{Fun}
use Rattle.px_terms.specs.declared.term.Term.{Term}
use Rattle.px_terms.specs.declared.term.Term.TheOpen.{Term-F}
use Rattle.px_terms.specs.declared.clause.Clause.{Clause}
use Rattle.px_terms.specs.declared.program.ConDef.{ConDef}
use Rattle.px_terms.specs.declared.program.DataDef.{DataDef}
use Rattle.px_terms.specs.declared.program.Def as definition
use Rattle.px_terms.specs.declared.program.Lemma as proposition
use Rattle.px_terms.specs.declared.program.Declared.{Declared}
use Rattle.px_terms.specs.declared.program.Declared.TheVariants as declared
use Rattle.px_terms.specs.declared.program.Program.{Program}
use Rattle.px_terms.specs.declared.sequent.Context.{Context}
use Rattle.px_terms.specs.Types.{ty_instance, tys_instance, fn_type_instance, own_types, own_functions}
use Rattle.px_terms.specs.Programs.{constructor_at}
use Rattle.px_terms.specs.Typing.{IsTypeLayer, AreTypes, Place, anywhere, in_body, behind, StandsBefore, IsFunction, AreOwnTypes, MayCall, MayPass}
use Rattle.px_terms.specs.Typing.{IsEarlier, IsDeclaredBefore, IsSaid, IsKnown, IsArgument, AreArguments, HasTypeLayer, HaveTypes, HaveTypesInArms}
use Rattle.px_terms.specs.Typing as typing
use Rattle.px_terms.specs.Clauses.{Subject, HasResult, clause_for, functions_alone, IsSubject, IsClauseOf}
use Rattle.px_terms.specs.Clauses as clauses
use Rattle.px_terms.specs.Obligations.{IsDeclaredClause, IsObligation}
use Rattle.px_terms.specs.Obligations as obligations
use Rattle.px_terms.specs.Extending.{IsExtension}
use Rattle.px_totality.specs.Laws.{ExtensionsKeep}
use Rattle.px_totality.proofs.Examples.{stands_still}
use Rattle.px_totality.proofs.Extensions.{extends_further}
use Rattle.px_totality.proofs.ArgumentsFit.{closure_weaker}

no_item : {X : Type 0} (x : X) → None ≡ Some x → ⊥
no_item x e = cc

-- A value is there, and this holds of it.
record There {X : Type 0} (o : Option X) (Holds : X → Type 0) : Type 0 where
  item : X
  is : o ≡ Some item
  holds : Holds item

there_of : {X : Type 0} (o : Option X) (Holds : X → Type 0) → IsSomeAnd o Holds → There o Holds
there_of None Holds h = absurd h
there_of (Some x) Holds h = record { item = x; is = refl; holds = h }

some_and : {X : Type 0} (o : Option X) (Holds : X → Type 0) (x : X) → o ≡ Some x → Holds x → IsSomeAnd o Holds
some_and {X} o Holds x e h = subst (λ (p : Option X). IsSomeAnd p Holds) (sym e) h

-- Each datatype of P is one of Q, with as many type parameters.
record AgreeOnTypes (P Q : Program) : Type 0 where
  datatypes : (d : ℕ) (D : DataDef) → slice_get P.datatypes d ≡ Some D → IsSomeAnd (slice_get Q.datatypes d) (λ (E : DataDef). E.tparams ≡ D.tparams)

-- The definitions have one signature, behind as many obligations; their bodies may differ.
record SameSignature (D E : definition.Def) : Type 0 where
  tparams : E.tparams ≡ D.tparams
  funs : E.funs ≡ D.funs
  params : E.params ≡ D.params
  result : E.result ≡ D.result
  seen : E.seen ≡ D.seen

-- What stands in P stands in Q at the same number; of definitions the signature.
record Agrees (P Q : Program) : Type 0 where
  datatypes : (d : ℕ) (D : DataDef) → slice_get P.datatypes d ≡ Some D → slice_get Q.datatypes d ≡ Some D
  defs : (n : ℕ) (D : definition.Def) → slice_get P.defs n ≡ Some D → IsSomeAnd (slice_get Q.defs n) (SameSignature D)
  declared : (i : ℕ) (x : Declared) → slice_get P.declared i ≡ Some x → slice_get Q.declared i ≡ Some x

-- Types, which ask of datatypes only how many types they take.
module _ {P Q : Program} (agree : AgreeOnTypes P Q) where
  mutual
    type_agrees : {tparams : ℕ} {layer : Ty-F Ty} → IsTypeLayer P tparams layer → IsTypeLayer Q tparams layer
    type_agrees typing.word = typing.word
    type_agrees (typing.var below) = typing.var below
    type_agrees (typing.con {d = d} {D = D} stands count are) =
        let here = there_of (slice_get Q.datatypes d) (λ (E : DataDef). E.tparams ≡ D.tparams) (agree.datatypes d D stands) in
        typing.con here.is (count ∙ sym here.holds) (types_agree are)

    types_agree : {tparams : ℕ} {types : List Ty} → AreTypes P tparams types → AreTypes Q tparams types
    types_agree typing.none = typing.none
    types_agree (typing.more is are) = typing.more (type_agrees is) (types_agree are)

-- Functions, and the properties that are known of them.
module _ {P Q : Program} (agree : Agrees P Q) where
  on_types : AgreeOnTypes P Q
  on_types = record { datatypes = λ d D e. some_and (slice_get Q.datatypes d) (λ (E : DataDef). E.tparams ≡ D.tparams) D (agree.datatypes d D e) refl }

  -- the definition that stands in Q
  definition_there : (n : ℕ) (D : definition.Def) → slice_get P.defs n ≡ Some D → There (slice_get Q.defs n) (SameSignature D)
  definition_there n D e = there_of (slice_get Q.defs n) (SameSignature D) (agree.defs n D e)

  -- what a signature tells of a definition
  definition_agrees : (n : ℕ) (Here Hence : definition.Def → Type 0) → ((D E : definition.Def) → SameSignature D E → Here D → Hence E) →
      IsSomeAnd (slice_get P.defs n) Here → IsSomeAnd (slice_get Q.defs n) Hence
  definition_agrees n Here Hence carry h =
      let here = there_of (slice_get P.defs n) Here h in
      let hence = definition_there n here.item here.is in
      some_and (slice_get Q.defs n) Hence hence.item hence.is (carry here.item hence.item hence.holds here.holds)

  constructor_agrees : (d k : ℕ) (c : ConDef) → constructor_at P d k ≡ Some c → constructor_at Q d k ≡ Some c
  constructor_agrees d k c e = go (slice_get P.datatypes d) refl e
    where
      go : (o : Option DataDef) → slice_get P.datatypes d ≡ o → option_and_then (λ (D : DataDef). slice_get D.cons k) o ≡ Some c →
          option_and_then (λ (D : DataDef). slice_get D.cons k) (slice_get Q.datatypes d) ≡ Some c
      go None is e = absurd (no_item c e)
      go (Some D) is e = ap (option_and_then (λ (D : DataDef). slice_get D.cons k)) (agree.datatypes d D is) ∙ e

  function_agrees : {context : Context} {f : Fun} {takes : List FnType} {params : List Ty} {T : Ty} → IsFunction P context f takes params T →
      IsFunction Q context f takes params T
  function_agrees (typing.of_definition {n = n} {types = types} {D = D} stands count are takes params result) =
      let there = definition_there n D stands in
      let same : SameSignature D there.item = there.holds in
      typing.of_definition there.is (count ∙ sym same.tparams) (types_agree on_types are)
      (takes ∙ ap (λ (funs : List FnType). map (fn_type_instance types) funs) (sym same.funs))
      (params ∙ ap (tys_instance types) (sym same.params))
      (result ∙ ap (ty_instance types) (sym same.result))
  function_agrees (typing.at_most result) = typing.at_most result
  function_agrees (typing.equal result) = typing.equal result
  function_agrees (typing.of_variable stands params result) = typing.of_variable stands params result

  stands_before_agrees : (n count : ℕ) → StandsBefore P n count → StandsBefore Q n count
  stands_before_agrees n count h = definition_agrees n (λ (D : definition.Def). D.seen ≤ count) (λ (E : definition.Def). E.seen ≤ count)
      (λ D E same before. subst (λ (seen : ℕ). seen ≤ count) (sym same.seen) before) h

  own_types_agree : (n : ℕ) (types : List Ty) → AreOwnTypes P n types → AreOwnTypes Q n types
  own_types_agree n types h = definition_agrees n (λ (D : definition.Def). types ≡ own_types D.tparams)
      (λ (E : definition.Def). types ≡ own_types E.tparams) (λ D E same own. own ∙ ap own_types (sym same.tparams)) h

  may_call_agrees : (place : Place) (h : Head) (types : List Ty) → MayCall P place h types → MayCall Q place h types
  may_call_agrees anywhere (Def m) types may = tt
  may_call_agrees anywhere Wle types may = tt
  may_call_agrees anywhere Weq types may = tt
  may_call_agrees anywhere (FnVar i) types may = tt
  may_call_agrees (in_body n) (Def m) types (inl before) = inl before
  may_call_agrees (in_body n) (Def m) types (inr own) = inr (own.0, own_types_agree n types own.1)
  may_call_agrees (in_body n) Wle types may = tt
  may_call_agrees (in_body n) Weq types may = tt
  may_call_agrees (in_body n) (FnVar i) types may = tt
  may_call_agrees (behind count) (Def m) types may = stands_before_agrees m count may
  may_call_agrees (behind count) Wle types may = tt
  may_call_agrees (behind count) Weq types may = tt
  may_call_agrees (behind count) (FnVar i) types may = tt

  may_pass_agrees : (place : Place) (h : Head) → MayPass P place h → MayPass Q place h
  may_pass_agrees anywhere (Def m) may = tt
  may_pass_agrees anywhere Wle may = tt
  may_pass_agrees anywhere Weq may = tt
  may_pass_agrees anywhere (FnVar i) may = tt
  may_pass_agrees (in_body n) (Def m) may = may
  may_pass_agrees (in_body n) Wle may = tt
  may_pass_agrees (in_body n) Weq may = tt
  may_pass_agrees (in_body n) (FnVar i) may = tt
  may_pass_agrees (behind count) (Def m) may = stands_before_agrees m count may
  may_pass_agrees (behind count) Wle may = tt
  may_pass_agrees (behind count) Weq may = tt
  may_pass_agrees (behind count) (FnVar i) may = tt

  earlier_agrees : (place : Place) (i : ℕ) → IsEarlier P place i → IsEarlier Q place i
  earlier_agrees anywhere i earlier = tt
  earlier_agrees (in_body n) i earlier = definition_agrees n (λ (D : definition.Def). i < D.seen) (λ (E : definition.Def). i < E.seen)
      (λ D E same before. subst (λ (seen : ℕ). i < seen) (sym same.seen) before) earlier
  earlier_agrees (behind count) i earlier = earlier

  declared_agrees : (place : Place) (n : ℕ) (p : Prop) → IsDeclaredBefore P place n p → IsDeclaredBefore Q place n p
  declared_agrees place n p d = record {
    number = d.number;
    earlier = earlier_agrees place d.number d.earlier;
    stands = agree.declared d.number (declared.Property n p) d.stands;
  }

  said_agrees : (place : Place) (context : Context) (h : Head) (p : Prop) → IsSaid P place context h p → IsSaid Q place context h p
  said_agrees place context (Def n) p said = declared_agrees place n p said
  said_agrees place context Wle p said = said
  said_agrees place context Weq p said = said
  said_agrees place context (FnVar i) p said = said

  known_agrees : (place : Place) (context : Context) (h : Head) (p : Prop) → IsKnown P place context h p → IsKnown Q place context h p
  known_agrees place context h p k = closure_weaker (IsSaid P place context h) (IsSaid Q place context h) (said_agrees place context h) k

  argument_agrees : {place : Place} {context : Context} {f : Fun} {wanted : FnType} → IsArgument P place context f wanted →
      IsArgument Q place context f wanted
  argument_agrees {place} {context} {f} {wanted} a = record {
    function = function_agrees a.function;
    may_pass = may_pass_agrees place f.head a.may_pass;
    types_met = a.types_met;
    params_met = a.params_met;
    result_met = a.result_met;
    properties = λ p has. known_agrees place context f.head p (a.properties p has);
  }

  arguments_agree : {place : Place} {context : Context} {fs : List Fun} {takes : List FnType} → AreArguments P place context fs takes →
      AreArguments Q place context fs takes
  arguments_agree typing.none = typing.none
  arguments_agree (typing.more is are) = typing.more (argument_agrees is) (arguments_agree are)

-- Typed terms.
module _ {P Q : Program} (agree : Agrees P Q) where
  mutual
    term_agrees : {place : Place} {context : Context} {bound : List Ty} {layer : Term-F Term} {T : Ty} →
        HasTypeLayer P place context bound layer T → HasTypeLayer Q place context bound layer T
    term_agrees (typing.free stands met) = typing.free stands met
    term_agrees (typing.bound stands met) = typing.bound stands met
    term_agrees (typing.lit small e) = typing.lit small e
    term_agrees (typing.con {d = d} {k = k} {c = c} stands is_type e met have) =
        typing.con (constructor_agrees agree d k c stands) (type_agrees (on_types agree) is_type) e met (terms_agree have)
    term_agrees {place} (typing.call {f = f} function may types_met met arguments have) =
        let callable = may_call_agrees agree place f.head f.types may in
        typing.call (function_agrees agree function) callable types_met met (arguments_agree agree arguments) (terms_agree have)
    term_agrees (typing.choose {d = d} {D = D} on e stands arms) = typing.choose (term_agrees on) e (agree.datatypes d D stands) (arms_agree arms)

    terms_agree : {place : Place} {context : Context} {bound : List Ty} {ts : List Term} {types : List Ty} →
        HaveTypes P place context bound ts types → HaveTypes Q place context bound ts types
    terms_agree typing.none = typing.none
    terms_agree (typing.more has have) = typing.more (term_agrees has) (terms_agree have)

    arms_agree : {place : Place} {context : Context} {bound types : List Ty} {cs : List ConDef} {arms : List Term} {T : Ty} →
        HaveTypesInArms P place context bound types cs arms T → HaveTypesInArms Q place context bound types cs arms T
    arms_agree typing.no_arm = typing.no_arm
    arms_agree (typing.arm fields has arms) = typing.arm fields (term_agrees has) (arms_agree arms)

-- Clauses.
module _ {P Q : Program} (agree : Agrees P Q) where
  subject_agrees : {context : Context} {f : Fun} {given : List Fun} {s : Subject} → IsSubject P context f given s → IsSubject Q context f given s
  subject_agrees is = record {
    takes = is.takes;
    params = is.params;
    function = function_agrees agree is.function;
    taken = is.taken;
    shape = is.shape;
    is_function = is.is_function;
    is_given = is.is_given;
  }

  -- the definition that is spoken of, with these type and function parameters, is this subject
  abbrev IsOwn : Program → ℕ → Subject → ℕ → List FnType → Type 0
  IsOwn R n s tparams funs = IsSubject R (functions_alone tparams funs) (record { head = Def n; types = own_types tparams }) (own_functions (length funs)) s

  own_agrees : (n : ℕ) (s : Subject) (D E : definition.Def) → SameSignature D E → IsOwn P n s D.tparams D.funs → IsOwn Q n s E.tparams E.funs
  own_agrees n s D E same is =
      subst (λ (tparams : ℕ). IsOwn Q n s tparams E.funs) (sym same.tparams)
      (subst (λ (funs : List FnType). IsOwn Q n s D.tparams funs) (sym same.funs) (subject_agrees is))

  own_clause : (p : Prop) (s : Subject) (D E : definition.Def) → SameSignature D E → clause_for s p D.tparams D.funs ≡ clause_for s p E.tparams E.funs
  own_clause p s D E same = λ i. clause_for s p (sym same.tparams i) (sym same.funs i)

  clause_agrees : {funs : List FnType} {h : Head} {p : Prop} {clause : Clause} → IsClauseOf P funs h p clause → IsClauseOf Q funs h p clause
  clause_agrees (clauses.of_definition {n = n} {p = p} {D = D} stands s is result e) =
      let there = definition_there agree n D stands in
      let same : SameSignature D there.item = there.holds in
      clauses.of_definition there.is s (own_agrees n s D there.item same is) result (e ∙ own_clause p s D there.item same)
  clause_agrees (clauses.of_at_most s is result e) = clauses.of_at_most s (subject_agrees is) result e
  clause_agrees (clauses.of_equal s is result e) = clauses.of_equal s (subject_agrees is) result e
  clause_agrees (clauses.of_variable s is result e) = clauses.of_variable s (subject_agrees is) result e

  obligation_agrees : ((n : ℕ) (l : proposition.Lemma) → slice_get P.lemmas n ≡ Some l → slice_get Q.lemmas n ≡ Some l) → (x : Declared) (clause : Clause) →
      IsDeclaredClause P x clause → IsDeclaredClause Q x clause
  obligation_agrees lemmas _ clause (obligations.of_property is) = obligations.of_property (clause_agrees is)
  obligation_agrees lemmas _ clause (obligations.of_lemma {n = n} {l = l} stands e) = obligations.of_lemma (lemmas n l stands) e

-- an extension agrees with the program
extension_agrees : (P Q : Program) → IsExtension Q P → Agrees P Q
extension_agrees P Q extends = record {
  datatypes = λ d D e. stands_still Q.datatypes P.datatypes d D extends.datatypes e;
  defs = λ n D e.
      some_and (slice_get Q.defs n) (SameSignature D) D (stands_still Q.defs P.defs n D extends.defs e)
      (record { tparams = refl; funs = refl; params = refl; result = refl; seen = refl });
  declared = λ i x e. stands_still Q.declared P.declared i x extends.declared e;
}

pub extensions_keep : ExtensionsKeep
extensions_keep = record {
  typing = λ P Q extends place context t T has. term_agrees (extension_agrees P Q extends) has;
  obligation = λ P Q extends n clause is. record {
    declared = is.declared;
    number = stands_still Q.declared P.declared n is.declared extends.declared is.number;
    says = obligation_agrees (extension_agrees P Q extends) (λ m l e. stands_still Q.lemmas P.lemmas m l extends.lemmas e) is.declared clause is.says;
  };
  holding = λ P Q extends clause holds. record { in_each = λ R late. holds.in_each R (extends_further P Q R late extends) };
}
