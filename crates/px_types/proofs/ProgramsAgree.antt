-- Typing is carried along between programs that agree: clauses and declarations. And which programs agree.
use Rattle.std.proofs.Common.{◌≡◌, ◌⊎◌, inl, inr, ℕ, List, [], ◌∷◌, ◌++◌, length, Some, refl, sym, ◌∙◌, ap, subst}
use Rattle.std.specs.Prelude.{slice_get}
use Rattle.std.specs.List.{All}
use Rattle.std.specs.Option.{IsSomeAnd}
use Rattle.std.proofs.lemmas.List.Elements.{All-weaker}
use Rattle.px_base.specs.declared.prop.Prop.{Prop}
use Rattle.px_base.specs.declared.head.Head.{Head}
use Rattle.px_base.specs.declared.head.Head.TheVariants.{Def}
use Rattle.px_base.specs.declared.names.Names.{Names}
use Rattle.px_terms.specs.declared.types.FnType.{FnType}
use Rattle.px_terms.specs.declared.types.Fun.{Fun}
use Rattle.px_terms.specs.declared.clause.Equation.{Equation}
use Rattle.px_terms.specs.declared.clause.Clause.{Clause}
use Rattle.px_terms.specs.declared.program.DataDef.{DataDef}
use Rattle.px_terms.specs.declared.program.Def as definition
use Rattle.px_terms.specs.declared.program.Lemma as proposition
use Rattle.px_terms.specs.declared.program.ReplicaDef.{ReplicaDef}
use Rattle.px_terms.specs.declared.program.Declared.{Declared}
use Rattle.px_terms.specs.declared.program.Program.{Program}
use Rattle.px_terms.specs.declared.sequent.Context.{Context}
use Rattle.px_terms.specs.Types.{own_types, own_functions}
use Rattle.px_terms.specs.Typing.{Place, behind}
use Rattle.px_terms.specs.Clauses.{Subject, HasResult, clause_for, functions_alone, IsSubject, IsClauseOf}
use Rattle.px_terms.specs.Clauses as clauses
use Rattle.px_terms.specs.TypedPrograms.{Fits, AreWrittenFnTypes, HasSignature, IsTypedDef, IsTypedProperty, AreSidesTyped, lemma_context}
use Rattle.px_terms.specs.TypedPrograms.{IsTypedLemma, IsJoin, IsTypedReplica}
use Rattle.px_types.specs.Declarations.{with_datatype, with_definition, with_obligations, with_lemma, with_replica}
use Rattle.px_types.proofs.Appending.{some_and, get_left, get_last, IsLast, last_cases}
use Rattle.px_types.proofs.Agreement.{AgreeOnTypes, SameSignature, Agrees, written_agrees, all_written_agree, all_fn_types_agree, on_types}
use Rattle.px_types.proofs.Agreement.{definition_there, stands_before_agrees, function_agrees, may_call_agrees, known_agrees, arguments_agree}
use Rattle.px_types.proofs.TermsAgree.{term_agrees}

-- Clauses.
module _ {P Q : Program} (agree : Agrees P Q) where
  pub subject_agrees : {context : Context} {f : Fun} {given : List Fun} {s : Subject} → IsSubject P context f given s → IsSubject Q context f given s
  subject_agrees is = record {
    takes = is.takes;
    params = is.params;
    function = function_agrees agree is.function;
    taken = is.taken;
    shape = is.shape;
    is_function = is.is_function;
    is_given = is.is_given;
  }

  -- the definition that is spoken of, with these type and function parameters, is this subject
  abbrev IsOwn : Program → ℕ → Subject → ℕ → List FnType → Type 0
  IsOwn R n s tparams funs = IsSubject R (functions_alone tparams funs) (record { head = Def n; types = own_types tparams }) (own_functions (length funs)) s

  own_agrees : (n : ℕ) (s : Subject) (D E : definition.Def) → SameSignature D E → IsOwn P n s D.tparams D.funs → IsOwn Q n s E.tparams E.funs
  own_agrees n s D E same is =
      subst (λ (tparams : ℕ). IsOwn Q n s tparams E.funs) (sym same.tparams)
      (subst (λ (funs : List FnType). IsOwn Q n s D.tparams funs) (sym same.funs) (subject_agrees is))

  own_clause : (p : Prop) (s : Subject) (D E : definition.Def) → SameSignature D E → clause_for s p D.tparams D.funs ≡ clause_for s p E.tparams E.funs
  own_clause p s D E same = λ i. clause_for s p (sym same.tparams i) (sym same.funs i)

  pub clause_agrees : {funs : List FnType} {h : Head} {p : Prop} {clause : Clause} → IsClauseOf P funs h p clause → IsClauseOf Q funs h p clause
  clause_agrees (clauses.of_definition {n = n} {p = p} {D = D} stands s is result e) =
      let there = definition_there agree n D stands in
      let same : SameSignature D there.item = there.holds in
      clauses.of_definition there.is s (own_agrees n s D there.item same is) result (e ∙ own_clause p s D there.item same)
  clause_agrees (clauses.of_at_most s is result e) = clauses.of_at_most s (subject_agrees is) result e
  clause_agrees (clauses.of_equal s is result e) = clauses.of_equal s (subject_agrees is) result e
  clause_agrees (clauses.of_variable s is result e) = clauses.of_variable s (subject_agrees is) result e

  pub fits_agrees : {funs : List FnType} {h : Head} {p : Prop} → Fits P funs h p → Fits Q funs h p
  fits_agrees fits = record { clause = fits.clause; says = clause_agrees fits.says; few = fits.few }

-- Declarations.
module _ {P Q : Program} (agree : Agrees P Q) where
  pub fn_types_agree : {tparams : ℕ} {funs : List FnType} → AreWrittenFnTypes P tparams funs → AreWrittenFnTypes Q tparams funs
  fn_types_agree {tparams} {funs} w = record {
    types = all_fn_types_agree (on_types agree) tparams funs w.types;
    assumed = λ i F p stands has. fits_agrees agree (w.assumed i F p stands has);
  }

  pub signature_agrees : {D : definition.Def} → HasSignature P D → HasSignature Q D
  signature_agrees {D} s = record {
    funs = fn_types_agree s.funs;
    params = all_written_agree (on_types agree) D.tparams D.params s.params;
    result = written_agrees (on_types agree) s.result;
  }

  pub typed_def_agrees : {n : ℕ} {D : definition.Def} → IsTypedDef P n D → IsTypedDef Q n D
  typed_def_agrees typed = record { signature = signature_agrees typed.signature; body = term_agrees agree typed.body }

  pub typed_property_agrees : {number n : ℕ} {p : Prop} → IsTypedProperty P number n p → IsTypedProperty Q number n p
  typed_property_agrees {number} {n} typed = record { before = stands_before_agrees agree n number typed.before; fits = fits_agrees agree typed.fits }

  pub sides_agree : {place : Place} {context : Context} {e : Equation} → AreSidesTyped P place context e → AreSidesTyped Q place context e
  sides_agree typed = record { T = typed.T; left = term_agrees agree typed.left; right = term_agrees agree typed.right }

  pub all_sides_agree : (place : Place) (context : Context) (es : List Equation) → All (AreSidesTyped P place context) es →
      All (AreSidesTyped Q place context) es
  all_sides_agree place context es all = All-weaker (AreSidesTyped P place context) (AreSidesTyped Q place context) (λ e typed. sides_agree typed) es all

  pub typed_lemma_agrees : {number : ℕ} {l : proposition.Lemma} → IsTypedLemma P number l → IsTypedLemma Q number l
  typed_lemma_agrees {number} {l} typed = record {
    few_vars = typed.few_vars;
    few_premises = typed.few_premises;
    funs = fn_types_agree typed.funs;
    vars = all_written_agree (on_types agree) l.tparams l.vars typed.vars;
    premises = all_sides_agree (behind number) (lemma_context l) l.premises typed.premises;
    conclusion = sides_agree typed.conclusion;
  }

  pub join_agrees : {r : ReplicaDef} → IsJoin P r → IsJoin Q r
  join_agrees {r} join = record {
    takes = join.takes;
    function = function_agrees agree join.function;
    may_call = may_call_agrees agree (behind r.seen) r.merge.head r.merge.types join.may_call;
    arguments = arguments_agree agree join.arguments;
    comm = known_agrees agree (behind r.seen) (functions_alone 0 []) r.merge.head _ join.comm;
    assoc = known_agrees agree (behind r.seen) (functions_alone 0 []) r.merge.head _ join.assoc;
    idem = known_agrees agree (behind r.seen) (functions_alone 0 []) r.merge.head _ join.idem;
  }

  pub typed_replica_agrees : {r : ReplicaDef} → IsTypedReplica P r → IsTypedReplica Q r
  typed_replica_agrees typed = record {
    state = written_agrees (on_types agree) typed.state;
    from = term_agrees agree typed.from;
    built = typed.built;
    types = typed.types;
    join = join_agrees typed.join;
  }

-- Which programs agree.
pub same_signature : (D : definition.Def) → SameSignature D D
same_signature D = record { tparams = refl; funs = refl; params = refl; result = refl; seen = refl }

pub same_signature_then : {D E F : definition.Def} → SameSignature D E → SameSignature E F → SameSignature D F
same_signature_then a b = record {
  tparams = b.tparams ∙ a.tparams;
  funs = b.funs ∙ a.funs;
  params = b.params ∙ a.params;
  result = b.result ∙ a.result;
  seen = b.seen ∙ a.seen;
}

-- definitions that stand in both are the same there
kept_defs : (defs more : List definition.Def) (n : ℕ) (D : definition.Def) → slice_get defs n ≡ Some D →
    IsSomeAnd (slice_get (defs ++ more) n) (SameSignature D)
kept_defs defs more n D e = some_and (slice_get (defs ++ more) n) (SameSignature D) D (get_left defs more n D e) (same_signature D)

same_defs : (defs : List definition.Def) (n : ℕ) (D : definition.Def) → slice_get defs n ≡ Some D → IsSomeAnd (slice_get defs n) (SameSignature D)
same_defs defs n D e = some_and (slice_get defs n) (SameSignature D) D e (same_signature D)

pub agrees_itself : (P : Program) → Agrees P P
agrees_itself P = record { datatypes = λ d D e. e; defs = same_defs P.defs; declared = λ i x e. e }

pub agrees_then : {P Q R : Program} → Agrees P Q → Agrees Q R → Agrees P R
agrees_then {P} {Q} {R} first next = record {
  datatypes = λ d D e. next.datatypes d D (first.datatypes d D e);
  defs = λ n D e.
      let there = definition_there first n D e in
      let hence = definition_there next n there.item there.is in
      some_and (slice_get R.defs n) (SameSignature D) hence.item hence.is (same_signature_then there.holds hence.holds);
  declared = λ i x e. next.declared i x (first.declared i x e);
}

pub agrees_with_datatype : (P : Program) (D : DataDef) → Agrees P (with_datatype P D)
agrees_with_datatype P D = record { datatypes = get_left P.datatypes (D ∷ []); defs = same_defs P.defs; declared = λ i x e. e }

pub agrees_with_definition : (P : Program) (D : definition.Def) → Agrees P (with_definition P D)
agrees_with_definition P D = record { datatypes = λ d E e. e; defs = kept_defs P.defs (D ∷ []); declared = λ i x e. e }

pub agrees_with_obligations : (P : Program) (obligations : List Declared) → Agrees P (with_obligations P obligations)
agrees_with_obligations P obligations = record { datatypes = λ d E e. e; defs = same_defs P.defs; declared = get_left P.declared obligations }

pub agrees_with_lemma : (P : Program) (l : proposition.Lemma) → Agrees P (with_lemma P l)
agrees_with_lemma P l = record { datatypes = λ d E e. e; defs = same_defs P.defs; declared = get_left P.declared _ }

pub agrees_with_replica : (P : Program) (r : ReplicaDef) → Agrees P (with_replica P r)
agrees_with_replica P r = record { datatypes = λ d E e. e; defs = same_defs P.defs; declared = λ i x e. e }

pub agrees_with_names : (P : Program) (names : Names) → Agrees P (record P { names = names })
agrees_with_names P names = record { datatypes = λ d E e. e; defs = same_defs P.defs; declared = λ i x e. e }

-- a definition whose body is not looked at yet
pub agrees_with_body : (P : Program) (D E : definition.Def) → SameSignature D E → Agrees (with_definition P D) (with_definition P E)
agrees_with_body P D E same = record { datatypes = λ d F e. e; defs = λ n F e. go n F (last_cases P.defs D n F e); declared = λ i x e. e }
  where
    go : (n : ℕ) (F : definition.Def) → (slice_get P.defs n ≡ Some F) ⊎ IsLast (length P.defs) D n F →
        IsSomeAnd (slice_get (P.defs ++ E ∷ []) n) (SameSignature F)
    go n F (inl e) = kept_defs P.defs (E ∷ []) n F e
    go n F (inr last) =
        some_and (slice_get (P.defs ++ E ∷ []) n) (SameSignature F) E (ap (slice_get (P.defs ++ E ∷ [])) last.place ∙ get_last P.defs E)
        (subst (λ (G : definition.Def). SameSignature G E) last.same same)

-- a datatype whose constructors are not looked at yet
pub types_agree_with_constructors : (P : Program) (D E : DataDef) → E.tparams ≡ D.tparams → AgreeOnTypes (with_datatype P D) (with_datatype P E)
types_agree_with_constructors P D E same = record { datatypes = λ d F e. go d F (last_cases P.datatypes D d F e) }
  where
    go : (d : ℕ) (F : DataDef) → (slice_get P.datatypes d ≡ Some F) ⊎ IsLast (length P.datatypes) D d F →
        IsSomeAnd (slice_get (P.datatypes ++ E ∷ []) d) (λ (G : DataDef). G.tparams ≡ F.tparams)
    go d F (inl e) = some_and (slice_get (P.datatypes ++ E ∷ []) d) (λ (G : DataDef). G.tparams ≡ F.tparams) F (get_left P.datatypes (E ∷ []) d F e) refl
    go d F (inr last) =
        some_and (slice_get (P.datatypes ++ E ∷ []) d) (λ (G : DataDef). G.tparams ≡ F.tparams) E
        (ap (slice_get (P.datatypes ++ E ∷ [])) last.place ∙ get_last P.datatypes E) (same ∙ ap (λ (G : DataDef). G.tparams) last.same)
