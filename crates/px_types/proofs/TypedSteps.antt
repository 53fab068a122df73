-- A typed program with one declaration more is typed, where the declaration is typed at its place.
use Rattle.std.proofs.Common.{◌≡◌, ◌⊎◌, inl, inr, ℕ, zero, suc, ◌+◌, ◌≤◌, List, [], ◌∷◌, ◌++◌, length, Some, refl, sym, subst, arith}
use Rattle.std.specs.Prelude.{slice_get}
use Rattle.std.specs.List.{All}
use Rattle.std.proofs.lemmas.List.Elements.{All-nil, All-cons, All-head, All-tail, All-append, All-weaker}
use Rattle.px_base.specs.declared.prop.Prop.{Prop}
use Rattle.px_base.specs.declared.head.Head.TheVariants.{Def}
use Rattle.px_base.specs.declared.raw.RawProp.{RawProp}
use Rattle.px_base.specs.declared.names.Names.{Names}
use Rattle.px_terms.specs.declared.program.DataDef.{DataDef}
use Rattle.px_terms.specs.declared.program.Def as definition
use Rattle.px_terms.specs.declared.program.Lemma as proposition
use Rattle.px_terms.specs.declared.program.ReplicaDef.{ReplicaDef}
use Rattle.px_terms.specs.declared.program.Declared.{Declared}
use Rattle.px_terms.specs.declared.program.Declared.TheVariants as declared
use Rattle.px_terms.specs.declared.program.Program.{Program}
use Rattle.px_terms.specs.Programs.{bool_data}
use Rattle.px_terms.specs.Typing.{StandsBefore}
use Rattle.px_terms.specs.TypedPrograms.{IsWritten, Fits, IsTypedCon, IsTypedData, IsTypedDef, IsTypedProperty, IsTypedLemma, IsTypedReplica, IsTyped}
use Rattle.px_types.specs.Declarations.{obligations_of, AllFit, with_datatype, with_definition, with_obligations, with_lemma, with_replica, start}
use Rattle.px_types.proofs.Appending.{one_item, no_item, there_of, some_and, get_left, get_last, Behind, get_cases, IsLast, last_cases}
use Rattle.px_types.proofs.Agreement.{Agrees, on_types, typed_data_agrees}
use Rattle.px_types.proofs.ProgramsAgree.{typed_def_agrees, typed_property_agrees, typed_lemma_agrees, typed_replica_agrees, agrees_with_datatype}
use Rattle.px_types.proofs.ProgramsAgree.{agrees_with_definition, agrees_with_obligations, agrees_with_lemma, agrees_with_replica, agrees_with_names}

-- the obligation of the next lemma
abbrev own_lemma : Program → Declared
own_lemma P = declared.Lemma (length P.lemmas)

-- a lemma that is an obligation, typed behind the obligations before it
abbrev pub IsLemmaThere : Program → ℕ → ℕ → Type 0
IsLemmaThere P number n = (l : proposition.Lemma) × (slice_get P.lemmas n ≡ Some l) × IsTypedLemma P number l

-- What is carried along by agreement, list by list.
module _ {P Q : Program} (agree : Agrees P Q) where
  datatypes_agree : (datatypes : List DataDef) → All (IsTypedData P) datatypes → All (IsTypedData Q) datatypes
  datatypes_agree datatypes all = All-weaker (IsTypedData P) (IsTypedData Q) (λ D typed. typed_data_agrees (on_types agree) typed) datatypes all

  replicas_agree : (replicas : List ReplicaDef) → All (IsTypedReplica P) replicas → All (IsTypedReplica Q) replicas
  replicas_agree replicas all = All-weaker (IsTypedReplica P) (IsTypedReplica Q) (λ r typed. typed_replica_agrees agree typed) replicas all

  lemma_agrees : ((n : ℕ) (l : proposition.Lemma) → slice_get P.lemmas n ≡ Some l → slice_get Q.lemmas n ≡ Some l) → (number n : ℕ) →
      IsLemmaThere P number n → IsLemmaThere Q number n
  lemma_agrees kept number n there = (there.0, kept n there.0 there.1, typed_lemma_agrees agree there.2)

all_one : {X : Type 0} (Holds : X → Type 0) (x : X) → Holds x → All Holds (x ∷ [])
all_one Holds x h = All-cons Holds x [] h (All-nil Holds)

-- The program of no declarations is typed.
bare_is_typed : (P : Program) → All (IsTypedCon P 0) (record { fields = [] } ∷ record { fields = [] } ∷ [])
bare_is_typed P = All-cons (IsTypedCon P 0) (record { fields = [] }) (record { fields = [] } ∷ []) (All-nil (IsWritten P 0))
    (all_one (IsTypedCon P 0) (record { fields = [] }) (All-nil (IsWritten P 0)))

pub start_is_typed : IsTyped start
start_is_typed = record {
  bool = refl;
  datatypes = all_one (IsTypedData start) bool_data (record { some = omega arith; cons = bare_is_typed start });
  defs = λ n D e. absurd (no_item D e);
  properties = λ number n p e. absurd (no_item (declared.Property n p) e);
  lemmas = λ number n e. absurd (no_item (declared.Lemma n) e);
  replicas = All-nil (IsTypedReplica start);
}

module _ (P : Program) (typed : IsTyped P) where
  pub names_are_typed : (names : Names) → IsTyped (record P { names = names })
  names_are_typed names =
      let agree = agrees_with_names P names in
      record {
        bool = typed.bool;
        datatypes = datatypes_agree agree P.datatypes typed.datatypes;
        defs = λ n D e. typed_def_agrees agree (typed.defs n D e);
        properties = λ number n p e. typed_property_agrees agree (typed.properties number n p e);
        lemmas = λ number n e. lemma_agrees agree (λ n l at. at) number n (typed.lemmas number n e);
        replicas = replicas_agree agree P.replicas typed.replicas;
      }

  pub datatype_is_typed : (D : DataDef) → IsTypedData (with_datatype P D) D → IsTyped (with_datatype P D)
  datatype_is_typed D is =
      let agree = agrees_with_datatype P D in
      record {
        bool = get_left P.datatypes (D ∷ []) 0 bool_data typed.bool;
        datatypes = All-append (IsTypedData (with_datatype P D)) P.datatypes (D ∷ []) (datatypes_agree agree P.datatypes typed.datatypes)
            (all_one (IsTypedData (with_datatype P D)) D is);
        defs = λ n E e. typed_def_agrees agree (typed.defs n E e);
        properties = λ number n p e. typed_property_agrees agree (typed.properties number n p e);
        lemmas = λ number n e. lemma_agrees agree (λ n l at. at) number n (typed.lemmas number n e);
        replicas = replicas_agree agree P.replicas typed.replicas;
      }

  pub definition_is_typed : (D : definition.Def) → IsTypedDef (with_definition P D) (length P.defs) D → IsTyped (with_definition P D)
  definition_is_typed D is =
      let agree = agrees_with_definition P D in
      record {
        bool = typed.bool;
        datatypes = datatypes_agree agree P.datatypes typed.datatypes;
        defs = λ n E e. go n E (last_cases P.defs D n E e);
        properties = λ number n p e. typed_property_agrees agree (typed.properties number n p e);
        lemmas = λ number n e. lemma_agrees agree (λ n l at. at) number n (typed.lemmas number n e);
        replicas = replicas_agree agree P.replicas typed.replicas;
      }
    where
      go : (n : ℕ) (E : definition.Def) → (slice_get P.defs n ≡ Some E) ⊎ IsLast (length P.defs) D n E → IsTypedDef (with_definition P D) n E
      go n E (inl e) = typed_def_agrees (agrees_with_definition P D) (typed.defs n E e)
      go n E (inr last) =
          subst (λ (m : ℕ). IsTypedDef (with_definition P D) m E) (sym last.place)
          (subst (λ (F : definition.Def). IsTypedDef (with_definition P D) (length P.defs) F) last.same is)

-- The property is one of this definition, and fits it.
record FitsThere (P : Program) (n m : ℕ) (p : Prop) : Type 0 where
  same : m ≡ n
  fits : Fits P [] (Def n) p

same_def : (n m : ℕ) (p q : Prop) → declared.Property n p ≡ declared.Property m q → m ≡ n
same_def n m p q e = cc

same_prop : (n m : ℕ) (p q : Prop) → declared.Property n p ≡ declared.Property m q → p ≡ q
same_prop n m p q e = cc

no_lemma : (n m : ℕ) (p : Prop) → declared.Property n p ≡ declared.Lemma m → ⊥
no_lemma n m p e = cc

obligation_fits : (P : Program) (n : ℕ) (props : List RawProp) → AllFit P n props → (k m : ℕ) (p : Prop) →
    slice_get (obligations_of n props) k ≡ Some (declared.Property m p) → FitsThere P n m p
obligation_fits P n [] all k m p e = absurd (no_item (declared.Property m p) e)
obligation_fits P n (raw ∷ props) all zero m p e =
    let one : declared.Property n raw.prop ≡ declared.Property m p = one_item (declared.Property n raw.prop) (declared.Property m p) e in
    let here = All-head (λ (raw : RawProp). Fits P [] (Def n) raw.prop) raw props all in
    record { same = same_def n m raw.prop p one; fits = subst (λ (q : Prop). Fits P [] (Def n) q) (same_prop n m raw.prop p one) here }
obligation_fits P n (raw ∷ props) all (suc k) m p e = obligation_fits P n props (All-tail (λ (raw : RawProp). Fits P [] (Def n) raw.prop) raw props all) k m p e

obligation_is_no_lemma : (n : ℕ) (props : List RawProp) (k m : ℕ) → slice_get (obligations_of n props) k ≡ Some (declared.Lemma m) → ⊥
obligation_is_no_lemma n [] k m e = no_item (declared.Lemma m) e
obligation_is_no_lemma n (raw ∷ props) zero m e = no_lemma n m raw.prop (one_item (declared.Property n raw.prop) (declared.Lemma m) e)
obligation_is_no_lemma n (raw ∷ props) (suc k) m e = obligation_is_no_lemma n props k m e

pub stands_later : (P : Program) (n count more : ℕ) → count ≤ more → StandsBefore P n count → StandsBefore P n more
stands_later P n count more fewer h =
    let there = there_of (slice_get P.defs n) (λ (D : definition.Def). D.seen ≤ count) h in
    let before : there.item.seen ≤ count = there.holds in
    let later : there.item.seen ≤ more = omega arith in
    some_and (slice_get P.defs n) (λ (D : definition.Def). D.seen ≤ more) there.item there.is later

module _ (P : Program) (typed : IsTyped P) where
  pub obligations_are_typed : (n : ℕ) (props : List RawProp) → StandsBefore P n (length P.declared) → AllFit P n props →
      IsTyped (with_obligations P (obligations_of n props))
  obligations_are_typed n props stands fit =
      record {
        bool = typed.bool;
        datatypes = datatypes_agree agree P.datatypes typed.datatypes;
        defs = λ m D e. typed_def_agrees agree (typed.defs m D e);
        properties = λ number m p e. property number m p (get_cases P.declared (obligations_of n props) number (declared.Property m p) e);
        lemmas = λ number m e. lemma_there number m (get_cases P.declared (obligations_of n props) number (declared.Lemma m) e);
        replicas = replicas_agree agree P.replicas typed.replicas;
      }
    where
      agree : Agrees P (with_obligations P (obligations_of n props))
      agree = agrees_with_obligations P (obligations_of n props)

      property : (number m : ℕ) (p : Prop) →
          (slice_get P.declared number ≡ Some (declared.Property m p)) ⊎ Behind (length P.declared) (obligations_of n props) number (declared.Property m p) →
          IsTypedProperty (with_obligations P (obligations_of n props)) number m p
      property number m p (inl e) = typed_property_agrees agree (typed.properties number m p e)
      property number m p (inr b) =
          let place : number ≡ length P.declared + b.k = b.place in
          let fitting = obligation_fits P n props fit b.k m p b.stands in
          let own : IsTypedProperty P number n p = record { before = stands_later P n (length P.declared) number (omega arith) stands; fits = fitting.fits } in
          subst (λ (k : ℕ). IsTypedProperty (with_obligations P (obligations_of n props)) number k p) (sym fitting.same) (typed_property_agrees agree own)

      lemma_there : (number m : ℕ) →
          (slice_get P.declared number ≡ Some (declared.Lemma m)) ⊎ Behind (length P.declared) (obligations_of n props) number (declared.Lemma m) →
          IsLemmaThere (with_obligations P (obligations_of n props)) number m
      lemma_there number m (inl e) = lemma_agrees agree (λ k l at. at) number m (typed.lemmas number m e)
      lemma_there number m (inr b) = absurd (obligation_is_no_lemma n props b.k m b.stands)

  pub lemma_is_typed : (l : proposition.Lemma) → IsTypedLemma P (length P.declared) l → IsTyped (with_lemma P l)
  lemma_is_typed l is =
      record {
        bool = typed.bool;
        datatypes = datatypes_agree agree P.datatypes typed.datatypes;
        defs = λ m D e. typed_def_agrees agree (typed.defs m D e);
        properties = λ number m p e. property number m p (last_cases P.declared (own_lemma P) number (declared.Property m p) e);
        lemmas = λ number m e. lemma_there number m (last_cases P.declared (own_lemma P) number (declared.Lemma m) e);
        replicas = replicas_agree agree P.replicas typed.replicas;
      }
    where
      agree : Agrees P (with_lemma P l)
      agree = agrees_with_lemma P l

      no_property : (n m : ℕ) (p : Prop) → declared.Lemma n ≡ declared.Property m p → ⊥
      no_property n m p e = cc

      same_lemma : (n m : ℕ) → declared.Lemma n ≡ declared.Lemma m → n ≡ m
      same_lemma n m e = cc

      property : (number m : ℕ) (p : Prop) →
          (slice_get P.declared number ≡ Some (declared.Property m p)) ⊎ IsLast (length P.declared) (own_lemma P) number (declared.Property m p) →
          IsTypedProperty (with_lemma P l) number m p
      property number m p (inl e) = typed_property_agrees agree (typed.properties number m p e)
      property number m p (inr last) = absurd (no_property (length P.lemmas) m p last.same)

      lemma_there : (number m : ℕ) →
          (slice_get P.declared number ≡ Some (declared.Lemma m)) ⊎ IsLast (length P.declared) (own_lemma P) number (declared.Lemma m) →
          IsLemmaThere (with_lemma P l) number m
      lemma_there number m (inl e) = lemma_agrees agree (get_left P.lemmas (l ∷ [])) number m (typed.lemmas number m e)
      lemma_there number m (inr last) =
          let here : length P.lemmas ≡ m = same_lemma (length P.lemmas) m last.same in
          let behind : IsTypedLemma P number l = subst (λ (k : ℕ). IsTypedLemma P k l) (sym last.place) is in
          (l, subst (λ (k : ℕ). slice_get (P.lemmas ++ l ∷ []) k ≡ Some l) here (get_last P.lemmas l), typed_lemma_agrees agree behind)

  pub replica_is_typed : (r : ReplicaDef) → IsTypedReplica P r → IsTyped (with_replica P r)
  replica_is_typed r is =
      let agree = agrees_with_replica P r in
      record {
        bool = typed.bool;
        datatypes = datatypes_agree agree P.datatypes typed.datatypes;
        defs = λ m D e. typed_def_agrees agree (typed.defs m D e);
        properties = λ number m p e. typed_property_agrees agree (typed.properties number m p e);
        lemmas = λ number m e. lemma_agrees agree (λ k l at. at) number m (typed.lemmas number m e);
        replicas = All-append (IsTypedReplica (with_replica P r)) P.replicas (r ∷ []) (replicas_agree agree P.replicas typed.replicas)
            (all_one (IsTypedReplica (with_replica P r)) r (typed_replica_agrees agree is));
      }
