-- A note is sound, of a property, a lemma or the hypothesis.
use Rattle.std.proofs.Common.{◌≡◌, ℕ, List, [], map, length, refl, sym, ap, ◌∙◌, subst}
use Rattle.std.specs.List.{All}
use Rattle.std.proofs.lemmas.List.{nil_from_length}
use Rattle.px_terms.specs.Head.{Head}
use Rattle.px_terms.specs.Head.TheVariants.{Def, Wle, Weq, FnVar}
use Rattle.px_terms.specs.Prop.{Prop}
use Rattle.px_terms.specs.declared.types.Ty.{Ty}
use Rattle.px_terms.specs.declared.types.FnType.{FnType}
use Rattle.px_terms.specs.declared.types.Fun.{Fun}
use Rattle.px_terms.specs.declared.term.Term.{Term}
use Rattle.px_terms.specs.declared.clause.Clause.{Clause}
use Rattle.px_terms.specs.declared.clause.Sigma.{Sigma}
use Rattle.px_terms.specs.declared.program.Declared.TheVariants as declared
use Rattle.px_terms.specs.declared.program.Program.{Program}
use Rattle.px_terms.specs.declared.sequent.Context.{Context}
use Rattle.px_terms.specs.declared.sequent.Sequent.{Sequent}
use Rattle.px_terms.specs.declared.row.Ref.{Ref}
use Rattle.px_terms.specs.declared.row.Ref.TheVariants as reference
use Rattle.px_terms.specs.declared.row.Row.TheVariants as row
use Rattle.px_terms.specs.Types.{tys_instance, fn_type_instance, own_types, own_functions}
use Rattle.px_terms.specs.Meaning.{FunsMean}
use Rattle.px_terms.specs.Typing.{behind, AreTypes, IsKnown}
use Rattle.px_terms.specs.Clauses.{Subject, IsSubject, HasResult, IsClauseOf, functions_alone, clause_for}
use Rattle.px_terms.specs.Clauses as clauses
use Rattle.px_terms.specs.Extending.{FunctionsFit, IsTrueOfAll}
use Rattle.px_terms.specs.Obligations.{IsObligation, lemma_clause, of_lemma}
use Rattle.px_terms.specs.Guards.{Guard}
use Rattle.px_terms.specs.Noting.{IsOpen, AreOpenArguments, FitsClause, own_sigma, property, lemma_below, hypothesis}
use Rattle.px_terms.specs.Noting as noting
use Rattle.px_terms.specs.Rows.{noted, Opens}
use Rattle.px_terms.specs.Rows as rows
use Rattle.px_totality.proofs.Instances.{own_types_are}
use Rattle.px_soundness.specs.Validity.{IsValidAt, IsSequentOf}
use Rattle.px_soundness.specs.Argument.{IsTypedClause, OpenClausesAreTyped, Assumed}
use Rattle.px_soundness.proofs.OneClause.{one_clause}
use Rattle.px_soundness.proofs.HypothesisSizes.{Falls, sizes_fall}
use Rattle.px_soundness.proofs.NotesFunctions.{StandFor, stand_for, many_fit}
use Rattle.px_soundness.proofs.NotesReadings.{around, Reading, live_are_in, clause_functions, own_reading, outer_reading}
use Rattle.px_soundness.proofs.NotesNoted.{noted_is_sound}
use Rattle.px_soundness.proofs.NotesProperties.{own_mean, definition_is_true, function_is_true}

-- no functions are put in where none are wanted
no_open : (Q : Program) (n : ℕ) (context : Context) (fs : List Fun) (takes : List FnType) → AreOpenArguments Q n context fs takes → takes ≡ [] → fs ≡ []
no_open Q n context _ _ noting.none e = refl
no_open Q n context _ _ (noting.more is are) e = let wrong : ⊥ = cc in absurd wrong

module _ (typed : OpenClausesAreTyped) (Q : Program) (n : ℕ) (own : Clause) (on : List ℕ) (types : List Ty) (funs : List Fun) (size : ℕ)
    (a : Assumed Q n own on types funs size) (s : Sequent) (of : IsSequentOf Q own on s) where
  -- a note of the clause with this put in is sound
  abbrev Sound : Clause → Sigma → Type 0
  Sound clause sigma = FitsClause Q n s.context clause sigma → All (λ (child : Sequent). IsValidAt Q types funs child size) (noted s clause sigma) →
      IsValidAt Q types funs s size

  long : length types ≡ s.context.tparams
  long = a.count ∙ sym of.tparams

  fit : FunctionsFit Q types s.context.funs funs
  fit = subst (λ (Fs : List FnType). FunctionsFit Q types Fs funs) (sym of.funs) a.functions

  -- a note of a clause over variables of its own that is true at all types and functions
  own_is_sound : (clause : Clause) → IsTypedClause Q (around clause.tparams clause.funs clause) clause →
      ((ts : List Ty) → length ts ≡ clause.tparams → AreTypes Q 0 ts → (gs : List Fun) → FunctionsFit Q ts clause.funs gs → IsTrueOfAll Q ts gs clause) →
      (sigma : Sigma) → Sound clause sigma
  own_is_sound clause is_typed truth sigma fits valid =
      let it : StandFor Q types funs sigma.funs (map (fn_type_instance sigma.types) clause.funs) =
      stand_for Q a.founded n s.context a.lower types long a.ground funs fit fits.funs in
      let inner : List Ty = tys_instance types sigma.types in
      let inner_fit : FunctionsFit Q inner clause.funs it.hs =
      clause_functions Q types a.ground funs sigma clause s.context long fits.types fits.count is_typed.types it.hs it.fit in
      let r : Reading Q types funs sigma clause.tparams clause.funs clause inner it.hs =
      own_reading Q types a.ground funs sigma clause s.context long fits.types fits.count is_typed.types it.hs it.mean inner_fit in
      noted_is_sound Q a.founded types funs size s of.typed.context long a.ground fit sigma clause.tparams clause.funs clause is_typed fits.terms inner it.hs r
      (λ rho sizes vs count mean values premises.
      (truth inner r.long r.ground it.hs r.fit).at vs (live_are_in Q inner clause.vars vs values) premises) valid

  -- a note of a clause that names the obligation's own variables
  outer_is_sound : (clause : Clause) → clause.tparams ≡ 0 → clause.funs ≡ [] → IsTypedClause Q (around own.tparams own.funs clause) clause →
      IsTrueOfAll Q types funs clause → (sigma : Sigma) → Sound clause sigma
  outer_is_sound clause no_tparams no_funs is_typed truth sigma fits valid =
      let types_none : sigma.types ≡ [] = nil_from_length sigma.types (fits.count ∙ no_tparams) in
      let funs_none : sigma.funs ≡ [] =
      no_open Q n s.context sigma.funs (map (fn_type_instance sigma.types) clause.funs) fits.funs (ap (map (fn_type_instance sigma.types)) no_funs) in
      let r : Reading Q types funs sigma own.tparams own.funs clause types funs =
      outer_reading Q types a.ground funs sigma clause own.tparams own.funs a.count a.functions types_none funs_none in
      noted_is_sound Q a.founded types funs size s of.typed.context long a.ground fit sigma own.tparams own.funs clause is_typed fits.terms types funs r
      (λ rho sizes vs count mean values premises. truth.at vs (live_are_in Q types clause.vars vs values) premises) valid

  -- a note of a property of a comparison or a function variable
  function_is_sound : (f : Fun) (p : Prop) (t : Subject) → IsSubject Q (functions_alone 0 own.funs) f [] t →
      IsKnown Q (behind n) (functions_alone own.tparams own.funs) f.head p →
      IsTypedClause Q (around own.tparams own.funs (clause_for t p 0 [])) (clause_for t p 0 []) → (clause : Clause) → clause ≡ clause_for t p 0 [] →
      (sigma : Sigma) → Sound clause sigma
  function_is_sound f p t subject is_known is_typed clause is sigma =
      let truth : IsTrueOfAll Q types funs (clause_for t p 0 []) =
      function_is_true typed Q a.founded n own a.obligation a.lower types a.count a.ground funs a.functions f t subject p is_known in
      subst (λ (clause : Clause). Sound clause sigma) (sym is) (outer_is_sound (clause_for t p 0 []) refl refl is_typed truth sigma)

  property_is_sound : (h : Head) (p : Prop) (clause : Clause) → IsKnown Q (behind n) (functions_alone own.tparams own.funs) h p →
      IsClauseOf Q own.funs h p clause → (sigma : Sigma) → Sound clause sigma
  property_is_sound _ p clause is_known (clauses.of_definition {n = m} {D = D} found t subject result is) sigma =
      let C : Clause = clause_for t p D.tparams D.funs in
      let is_typed : IsTypedClause Q (around D.tparams D.funs C) C =
      typed Q a.founded n own a.obligation (reference.Property (Def m) p) C
      (property is_known (clauses.of_definition {D = D} found t subject result refl)) in
      subst (λ (clause : Clause). Sound clause sigma) (sym is)
      (own_is_sound C is_typed
      (λ ts count ground gs gs_fit.
      definition_is_true typed Q a.founded n own a.obligation a.lower m D found t subject ts count ground gs gs_fit is_known result) sigma)
  property_is_sound _ p clause is_known (clauses.of_at_most t subject result is) sigma =
      let is_typed = typed Q a.founded n own a.obligation (reference.Property Wle p) (clause_for t p 0 [])
      (property is_known (clauses.of_at_most t subject result refl)) in
      function_is_sound (record { head = Wle; types = [] }) p t subject is_known is_typed clause is sigma
  property_is_sound _ p clause is_known (clauses.of_equal t subject result is) sigma =
      let is_typed = typed Q a.founded n own a.obligation (reference.Property Weq p) (clause_for t p 0 [])
      (property is_known (clauses.of_equal t subject result refl)) in
      function_is_sound (record { head = Weq; types = [] }) p t subject is_known is_typed clause is sigma
  property_is_sound _ p clause is_known (clauses.of_variable {i = i} t subject result is) sigma =
      let is_typed = typed Q a.founded n own a.obligation (reference.Property (FnVar i) p) (clause_for t p 0 [])
      (property is_known (clauses.of_variable t subject result refl)) in
      function_is_sound (record { head = FnVar i; types = [] }) p t subject is_known is_typed clause is sigma

  -- a note of the hypothesis under the guard
  hypothesis_is_sound : (terms : List Term) → Guard s.frame terms → Sound own (own_sigma own terms)
  hypothesis_is_sound terms guard fits valid =
      let sigma : Sigma = own_sigma own terms in
      let is_typed : IsTypedClause Q (around own.tparams own.funs own) own =
      typed Q a.founded n own a.obligation reference.Hypothesis own (hypothesis refl) in
      let same : tys_instance types (own_types own.tparams) ≡ types =
      subst (λ (k : ℕ). tys_instance types (own_types k) ≡ types) a.count (own_types_are types) in
      let mean : FunsMean types funs (own_functions (length own.funs)) funs =
      subst (λ (k : ℕ). FunsMean types funs (own_functions k) funs) (many_fit Q types a.functions) (own_mean types funs) in
      let there : Reading Q types funs sigma own.tparams own.funs own (tys_instance types (own_types own.tparams)) funs =
      own_reading Q types a.ground funs sigma own s.context long fits.types fits.count is_typed.types funs mean
      (subst (λ (ts : List Ty). FunctionsFit Q ts own.funs funs) (sym same) a.functions) in
      let r : Reading Q types funs sigma own.tparams own.funs own types funs =
      subst (λ (ts : List Ty). Reading Q types funs sigma own.tparams own.funs own ts funs) same there in
      noted_is_sound Q a.founded types funs size s of.typed.context long a.ground fit sigma own.tparams own.funs own is_typed fits.terms types funs r
      (λ rho sizes vs count mean values premises.
      let it : Falls Q on types funs vs size = sizes_fall Q types funs rho s.frame on terms vs count size of.frame guard mean sizes types funs in
      (a.smaller it.sum it.less).some vs values it.sizes premises) valid

  -- what is open may be noted
  open_is_sound : (about : Ref) (clause : Clause) → IsOpen Q n own about clause → (sigma : Sigma) → (about ≡ reference.Hypothesis → ⊥) → Sound clause sigma
  open_is_sound _ clause (property {h = h} {p = p} is_known says) sigma other = property_is_sound h p clause is_known says sigma
  open_is_sound _ clause (lemma_below {number = number} {i = i} {l = l} stands below found is) sigma other =
      let C : Clause = lemma_clause l in
      let is_typed : IsTypedClause Q (around C.tparams C.funs C) C =
      typed Q a.founded n own a.obligation (reference.Lemma i) C (lemma_below {l = l} stands below found refl) in
      let obligation : IsObligation Q number C = record { declared = declared.Lemma i; number = stands; says = of_lemma {l = l} found refl } in
      subst (λ (clause : Clause). Sound clause sigma) (sym is)
      (own_is_sound C is_typed (λ ts count ground gs gs_fit. (a.lower number C below obligation).at ts count ground gs gs_fit) sigma)
  open_is_sound _ clause (hypothesis is) sigma other = absurd (other refl)

-- a note is sound
pub notes_are_sound : OpenClausesAreTyped → (Q : Program) (n : ℕ) (own : Clause) (on : List ℕ) (types : List Ty) (funs : List Fun) (size : ℕ) →
    Assumed Q n own on types funs size → (s : Sequent) (about : Ref) (sigma : Sigma) (children : List Sequent) → IsSequentOf Q own on s →
    Opens Q n s (row.Note about sigma) children → All (λ (child : Sequent). IsValidAt Q types funs child size) children → IsValidAt Q types funs s size
notes_are_sound typed Q n own on types funs size a s about sigma children of
    (rows.note {own = other} {clause = clause} plain obligation is_open may fits are small) valid =
    let same : other ≡ own = one_clause Q n other own obligation a.obligation in
    let open_here : IsOpen Q n own about clause = subst (λ (own : Clause). IsOpen Q n own about clause) same is_open in
    open_is_sound typed Q n own on types funs size a s of about clause open_here sigma plain fits
    (subst (All (λ (child : Sequent). IsValidAt Q types funs child size)) are valid)
notes_are_sound typed Q n own on types funs size a s _ sigma children of
    (rows.hypothesis {own = other} no_types no_funs obligation may fits guard are small) valid =
    let same : other ≡ own = one_clause Q n other own obligation a.obligation in
    let fits_here : FitsClause Q n s.context own (own_sigma own sigma.terms) =
    subst (λ (own : Clause). FitsClause Q n s.context own (own_sigma own sigma.terms)) same fits in
    let are_here : children ≡ noted s own (own_sigma own sigma.terms) =
    are ∙ ap (λ (own : Clause). noted s own (own_sigma own sigma.terms)) same in
    hypothesis_is_sound typed Q n own on types funs size a s of sigma.terms guard fits_here
    (subst (All (λ (child : Sequent). IsValidAt Q types funs child size)) are_here valid)
