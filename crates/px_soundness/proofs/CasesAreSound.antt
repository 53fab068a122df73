-- The cases of a variable and of a term: a value of a datatype is one of its constructors on values of the fields' types.
use Rattle.std.proofs.Common.{◌≡◌, ℕ, zero, suc, ◌+◌, List, [], ◌∷◌, ◌++◌, length, map, slice_get, slice_set, Option, Some, None, refl, sym, ap, ◌∙◌, subst, arith}
use Rattle.std.specs.Prelude.{All}
use Rattle.std.proofs.lemmas.List.{map-id}
use Rattle.px_terms.specs.declared.types.Ty.{Ty}
use Rattle.px_terms.specs.declared.types.Ty.TheVariants as type
use Rattle.px_terms.specs.declared.types.Fun.{Fun}
use Rattle.px_terms.specs.declared.term.Term.{Term, out-Term}
use Rattle.px_terms.specs.declared.term.Term.TheOpen.{Term-F}
use Rattle.px_terms.specs.declared.term.Term.TheVariants as term
use Rattle.px_terms.specs.declared.term.Value.{Value}
use Rattle.px_terms.specs.declared.term.Value.TheVariants as value
use Rattle.px_terms.specs.declared.term.Value.TheViews.{roll-Value, roll-out-Value}
use Rattle.px_terms.specs.declared.clause.Clause.{Clause}
use Rattle.px_terms.specs.declared.clause.Equation.{Equation}
use Rattle.px_terms.specs.declared.program.ConDef.{ConDef}
use Rattle.px_terms.specs.declared.program.DataDef.{DataDef}
use Rattle.px_terms.specs.declared.program.Program.{Program}
use Rattle.px_terms.specs.declared.sequent.Present.{Present}
use Rattle.px_terms.specs.declared.sequent.Sequent.{Sequent}
use Rattle.px_terms.specs.Types.{ty_instance, tys_instance, numbers_from}
use Rattle.px_terms.specs.TreeEquations.{ty_instance-Con}
use Rattle.px_terms.specs.Values.{IsIn, AreIn}
use Rattle.px_terms.specs.Values as values
use Rattle.px_terms.specs.Meaning.{MeansOf, MeanAll, Means, SameValue}
use Rattle.px_terms.specs.Meaning as meaning
use Rattle.px_terms.specs.Typing.{anywhere, IsType, AreTypes, live}
use Rattle.px_terms.specs.Typing as typing
use Rattle.px_terms.specs.TypedPrograms.{IsTypedCon}
use Rattle.px_terms.specs.Terms.{term_put}
use Rattle.px_terms.specs.TreeEdits.{equation_put}
use Rattle.px_terms.specs.Clauses.{equals}
use Rattle.px_terms.specs.Holding.{AreTrueAt, SomeIsTrueAt}
use Rattle.px_terms.specs.Extending.{FitValues}
use Rattle.px_terms.specs.Extending as fitting
use Rattle.px_terms.specs.Rows.{AreCases, AreTermCases, case_of, cases_from, split_of, splits_from, fresh_constructor}
use Rattle.px_totality.specs.Laws.{EachTermHasValue}
use Rattle.px_totality.proofs.TypesOfTerms.{all_at, constructor_of, data_is_typed, data_type, fields_are_types, type_of}
use Rattle.px_totality.proofs.Valued.{built}
use Rattle.px_totality.proofs.Instances.{instances_twice}
use Rattle.px_soundness.specs.Validity.{PresentSizes, IsValidAt, IsSequentOf}
use Rattle.px_soundness.specs.Argument.{Assumed}
use Rattle.px_soundness.proofs.Forward.{put_keeps}
use Rattle.px_soundness.proofs.PlainRowsAreSound.{assignment}
use Rattle.px_soundness.proofs.Sides.{each_has_sides, is_context, value_of}
use Rattle.px_soundness.proofs.Truths.{HaveValues, all_append, all_true_on, some_true_back, sizes_on}
use Rattle.px_soundness.proofs.Weaker.{more_values}

-- the value of a live variable is in its type
record ValueAt (Q : Program) (types : List Ty) (T : Ty) (rho : List Value) (variable : ℕ) : Type 0 where
  u : Value
  at : slice_get rho variable ≡ Some u
  fits : IsIn Q (ty_instance types T) u

fit_at : (Q : Program) (types : List Ty) (vars : List (Option Ty)) (rho : List Value) (variable : ℕ) (T : Ty) → FitValues Q types vars rho → slice_get vars variable ≡ Some (Some T) → ValueAt Q types T rho variable
fit_at Q types _ _ variable T fitting.FitValues.none found = let none_there : None ≡ Some (Some T) = found in cc
fit_at Q types _ _ zero T (fitting.FitValues.live {T = U} {v = v} is fit) found = record { u = v; at = refl; fits = subst (λ (A : Ty). IsIn Q (ty_instance types A) v) (let one : Some (Some U) ≡ Some (Some T) = found in let back : U ≡ T = cc in back) is }
fit_at Q types _ _ zero T (fitting.FitValues.gone fit) found = let other : Some None ≡ Some (Some T) = found in cc
fit_at Q types _ _ (suc variable) T (fitting.FitValues.live {vars = vars} {rho = rho} is fit) found = let there = fit_at Q types vars rho variable T fit found in record { u = there.u; at = there.at; fits = there.fits }
fit_at Q types _ _ (suc variable) T (fitting.FitValues.gone {vars = vars} {rho = rho} fit) found = let there = fit_at Q types vars rho variable T fit found in record { u = there.u; at = there.at; fits = there.fits }

-- values fit where a variable is no longer live
fit_gone : (Q : Program) (types : List Ty) (vars : List (Option Ty)) (rho : List Value) (variable : ℕ) → FitValues Q types vars rho → FitValues Q types (slice_set vars variable None) rho
fit_gone Q types _ _ variable fitting.FitValues.none = fitting.FitValues.none
fit_gone Q types _ _ zero (fitting.FitValues.live is fit) = fitting.FitValues.gone fit
fit_gone Q types _ _ zero (fitting.FitValues.gone fit) = fitting.FitValues.gone fit
fit_gone Q types _ _ (suc variable) (fitting.FitValues.live {vars = vars} {rho = rho} is fit) = fitting.FitValues.live is (fit_gone Q types vars rho variable fit)
fit_gone Q types _ _ (suc variable) (fitting.FitValues.gone {vars = vars} {rho = rho} fit) = fitting.FitValues.gone (fit_gone Q types vars rho variable fit)

-- values of further variables fit behind the others
fit_more : (Q : Program) (types : List Ty) (vars : List (Option Ty)) (rho : List Value) (Ts : List Ty) (us : List Value) → FitValues Q types vars rho → AreIn Q (tys_instance types Ts) us → FitValues Q types (vars ++ live Ts) (rho ++ us)
fit_more Q types _ _ [] [] fitting.FitValues.none values.none = fitting.FitValues.none
fit_more Q types _ _ [] (u ∷ us) fitting.FitValues.none are = elim are [ ]
fit_more Q types _ _ (T ∷ Ts) [] fitting.FitValues.none are = elim are [ ]
fit_more Q types _ _ (T ∷ Ts) (u ∷ us) fitting.FitValues.none (values.more is are) = fitting.FitValues.live {T = T} is (fit_more Q types [] [] Ts us fitting.FitValues.none are)
fit_more Q types _ _ Ts us (fitting.FitValues.live {T = T} {vars = vars} {rho = rho} is fit) are = fitting.FitValues.live {T = T} is (fit_more Q types vars rho Ts us fit are)
fit_more Q types _ _ Ts us (fitting.FitValues.gone {vars = vars} {rho = rho} fit) are = fitting.FitValues.gone (fit_more Q types vars rho Ts us fit are)

-- as many values as variables
fit_length : (Q : Program) (types : List Ty) (vars : List (Option Ty)) (rho : List Value) → FitValues Q types vars rho → length rho ≡ length vars
fit_length Q types _ _ fitting.FitValues.none = refl
fit_length Q types _ _ (fitting.FitValues.live {vars = vars} {rho = rho} is fit) = let rest : length rho ≡ length vars = fit_length Q types vars rho fit in omega (arith, rest)
fit_length Q types _ _ (fitting.FitValues.gone {vars = vars} {rho = rho} fit) = let rest : length rho ≡ length vars = fit_length Q types vars rho fit in omega (arith, rest)

in_length : (Q : Program) (types Ts : List Ty) (us : List Value) → AreIn Q (tys_instance types Ts) us → length us ≡ length Ts
in_length Q types [] [] are = refl
in_length Q types [] (u ∷ us) are = elim are [ ]
in_length Q types (T ∷ Ts) [] are = elim are [ ]
in_length Q types (T ∷ Ts) (u ∷ us) (values.more is are) = let rest : length us ≡ length Ts = in_length Q types Ts us are in omega (arith, rest)

module _ (Q : Program) (types : List Ty) (funs : List Fun) where
  behind_all : (front : List Value) (u : Value) (us : List Value) → slice_get (front ++ u ∷ us) (length front) ≡ Some u
  behind_all [] u us = refl
  behind_all (v ∷ front) u us = behind_all front u us

  same_list : (front : List Value) (u : Value) (us : List Value) → (front ++ u ∷ []) ++ us ≡ front ++ u ∷ us
  same_list [] u us = refl
  same_list (v ∷ front) u us = ap (λ vs. v ∷ vs) (same_list front u us)

  longer_by_one : (front : List Value) (u : Value) → length (front ++ u ∷ []) ≡ length front + 1
  longer_by_one [] u = refl
  longer_by_one (v ∷ front) u = let rest : length (front ++ u ∷ []) ≡ length front + 1 = longer_by_one front u in omega (arith, rest)

  -- the fresh variables mean the values that stand behind the others
  fresh_mean : (inside front us : List Value) (start : ℕ) → start ≡ length front → MeanAll Q types funs (front ++ us) inside (map (λ (i : ℕ). term.Free i) (numbers_from start (length us))) us 0
  fresh_mean inside front [] start is = meaning.none
  fresh_mean inside front (u ∷ us) start is =
      let at : slice_get (front ++ u ∷ us) start ≡ Some u = subst (λ (n : ℕ). slice_get (front ++ u ∷ us) n ≡ Some u) (sym is) (behind_all front u us) in
      let first : MeansOf Q types funs (front ++ u ∷ us) inside (out-Term (term.Free start)) u 0 = subst (λ (y : Term-F Term). MeansOf Q types funs (front ++ u ∷ us) inside y u 0) (sym (term.outs-Free start)) (meaning.free at) in
      let next : start + 1 ≡ length (front ++ u ∷ []) = omega (arith, is, longer_by_one front u) in
      let others : MeanAll Q types funs (front ++ u ∷ us) inside (map (λ (i : ℕ). term.Free i) (numbers_from (start + 1) (length us))) us 0 = subst (λ (vs : List Value). MeanAll Q types funs vs inside (map (λ (i : ℕ). term.Free i) (numbers_from (start + 1) (length us))) us 0) (same_list front u us) (fresh_mean inside (front ++ u ∷ []) us (start + 1) next) in
      meaning.more first others refl

  -- the constructor on fresh variables means the value that is built of what stands behind
  fresh_means : (s : Sequent) (rho us : List Value) (d k : ℕ) (args : List Ty) (c : ConDef) → s.next ≡ length rho → length us ≡ length c.fields → (inside : List Value) → (e : ℕ) × MeansOf Q types funs (rho ++ us) inside (out-Term (fresh_constructor s d args k c)) (value.Con d k us) e
  fresh_means s rho us d k args c next many inside =
      let fields : MeanAll Q types funs (rho ++ us) inside (map (λ (i : ℕ). term.Free i) (numbers_from s.next (length c.fields))) us 0 = subst (λ (n : ℕ). MeanAll Q types funs (rho ++ us) inside (map (λ (i : ℕ). term.Free i) (numbers_from s.next n)) us 0) many (fresh_mean inside rho us s.next next) in
      (0, subst (λ (y : Term-F Term). MeansOf Q types funs (rho ++ us) inside y (value.Con d k us) 0) (sym (term.outs-Con d k args (map (λ (i : ℕ). term.Free i) (numbers_from s.next (length c.fields))))) (meaning.con fields refl))

-- the case of this number
case_at : (s : Sequent) (v d : ℕ) (args : List Ty) (start : ℕ) (cons : List ConDef) (i : ℕ) (c : ConDef) → slice_get cons i ≡ Some c → slice_get (cases_from s v d args start cons) i ≡ Some (case_of s v d args (start + i) c)
case_at s v d args start [] i c found = let none_there : None ≡ Some c = found in cc
case_at s v d args start (b ∷ cons) zero c found =
    let one : Some b ≡ Some c = found in
    let is : b ≡ c = cc in
    let here : start + 0 ≡ start = omega arith in
    ap (λ (x : ConDef). Some (case_of s v d args start x)) is ∙ ap (λ (n : ℕ). Some (case_of s v d args n c)) (sym here)
case_at s v d args start (b ∷ cons) (suc i) c found =
    let on : (start + 1) + i ≡ start + suc i = omega arith in
    case_at s v d args (start + 1) cons i c found ∙ ap (λ (n : ℕ). Some (case_of s v d args n c)) on

-- counted from nothing
case_here : (s : Sequent) (v d : ℕ) (args : List Ty) (cons : List ConDef) (i : ℕ) (c : ConDef) → slice_get cons i ≡ Some c → slice_get (cases_from s v d args 0 cons) i ≡ Some (case_of s v d args i c)
case_here s v d args cons i c found = let on : 0 + i ≡ i = omega arith in case_at s v d args 0 cons i c found ∙ ap (λ (n : ℕ). Some (case_of s v d args n c)) on

split_at : (s : Sequent) (t : Term) (d : ℕ) (args : List Ty) (start : ℕ) (cons : List ConDef) (i : ℕ) (c : ConDef) → slice_get cons i ≡ Some c → slice_get (splits_from s t d args start cons) i ≡ Some (split_of s t d args (start + i) c)
split_at s t d args start [] i c found = let none_there : None ≡ Some c = found in cc
split_at s t d args start (b ∷ cons) zero c found =
    let one : Some b ≡ Some c = found in
    let is : b ≡ c = cc in
    let here : start + 0 ≡ start = omega arith in
    ap (λ (x : ConDef). Some (split_of s t d args start x)) is ∙ ap (λ (n : ℕ). Some (split_of s t d args n c)) (sym here)
split_at s t d args start (b ∷ cons) (suc i) c found =
    let on : (start + 1) + i ≡ start + suc i = omega arith in
    split_at s t d args (start + 1) cons i c found ∙ ap (λ (n : ℕ). Some (split_of s t d args n c)) on

split_here : (s : Sequent) (t : Term) (d : ℕ) (args : List Ty) (cons : List ConDef) (i : ℕ) (c : ConDef) → slice_get cons i ≡ Some c → slice_get (splits_from s t d args 0 cons) i ≡ Some (split_of s t d args i c)
split_here s t d args cons i c found = let on : 0 + i ≡ i = omega arith in split_at s t d args 0 cons i c found ∙ ap (λ (n : ℕ). Some (split_of s t d args n c)) on

module _ (has_value : EachTermHasValue) (Q : Program) (n : ℕ) (own : Clause) (on : List ℕ) (types : List Ty) (funs : List Fun) (size : ℕ) (assumed : Assumed Q n own on types funs size) (s : Sequent) (is : IsSequentOf Q own on s) where
  -- A value of a datatype at these types: its constructor, with the values of the fields.
  record Opened (d : ℕ) (args : List Ty) (D : DataDef) (u : Value) : Type 0 where
    k : ℕ
    c : ConDef
    us : List Value
    value_is : u ≡ value.Con d k us
    stands : slice_get D.cons k ≡ Some c
    fields_in : AreIn Q (tys_instance types (tys_instance args c.fields)) us
    many : length us ≡ length c.fields

  opened : (d : ℕ) (args : List Ty) (D : DataDef) (u : Value) → slice_get Q.datatypes d ≡ Some D → IsType Q s.context.tparams (type.Con d args) → IsIn Q (ty_instance types (type.Con d args)) u → Opened d args D u
  opened d args D u declared is_type in_type =
      let one = built Q u d (tys_instance types args) (ty_instance types (type.Con d args)) (ty_instance-Con types d args) in_type in
      let place : slice_get D.cons one.k ≡ Some one.c = sym (constructor_of Q d one.k D declared) ∙ one.found in
      let data_is = data_type Q s.context.tparams d D args (type.Con d args) is_type refl declared in
      let con_is = all_at (IsTypedCon Q D.tparams) D.cons one.k one.c (data_is_typed Q assumed.founded.typed d D declared).cons place in
      let twice : tys_instance types (tys_instance args one.c.fields) ≡ tys_instance (tys_instance types args) one.c.fields = instances_twice Q types args (fields_are_types Q D args one.c data_is.long con_is) in
      let inside : AreIn Q (tys_instance types (tys_instance args one.c.fields)) one.fields = subst (λ (Ts : List Ty). AreIn Q Ts one.fields) (sym twice) one.are_in in
      let counted : length one.fields ≡ length one.c.fields = in_length Q (tys_instance types args) one.c.fields one.fields one.are_in in
      record { k = one.k; c = one.c; us = one.fields; value_is = sym (roll-out-Value u) ∙ ap roll-Value one.is ∙ value.rolls-Con d one.k one.fields; stands = place; fields_in = inside; many = counted }

  fresh_is_next : (rho : List Value) → FitValues Q types s.context.vars rho → s.next ≡ length rho
  fresh_is_next rho fit = is.typed.next ∙ sym (fit_length Q types s.context.vars rho fit)

  sides : (rho : List Value) → FitValues Q types s.context.vars rho → (j : ℕ) (e : Equation) → slice_get s.alternatives j ≡ Some e → HaveValues Q types funs rho e
  sides rho fit j e found = each_has_sides has_value Q assumed.founded s.context is.typed.context types funs rho (assignment Q n own on types funs size assumed s is rho fit) s.alternatives is.typed.alternatives j e found

  -- the case that the variable's value is of
  one_case : (v d k : ℕ) (args : List Ty) (c : ConDef) (us : List Value) → length us ≡ length c.fields → AreIn Q (tys_instance types (tys_instance args c.fields)) us → (rho : List Value) → slice_get rho v ≡ Some (value.Con d k us) → FitValues Q types s.context.vars rho → PresentSizes Q types funs rho s.frame.entries size → AreTrueAt Q types funs rho s.facts → IsValidAt Q types funs (case_of s v d args k c) size → SomeIsTrueAt Q types funs rho s.alternatives
  one_case v d k args c us many inside rho at fit sizes facts valid =
      let by = fresh_constructor s d args k c in
      let means = fresh_means Q types funs s rho us d k args c (fresh_is_next rho fit) many in
      let forward : (t : Term) (w : Value) (a : ℕ) → Means Q types funs rho t w a → (e : ℕ) × Means Q types funs (rho ++ us) (term_put v by t) w e = λ t w a means_t. put_keeps Q types funs rho us v by (value.Con d k us) at means [] t w a means_t in
      let fits = fit_more Q types (slice_set s.context.vars v None) rho (tys_instance args c.fields) us (fit_gone Q types s.context.vars rho v fit) inside in
      let child = valid.some (rho ++ us) fits
      (sizes_on Q types funs rho (rho ++ us) (term_put v by) forward (equation_put v by) (λ e. refl) (λ e. refl) (λ (p : Present). record { variable = p.variable; term = term_put v by p.term }) (λ p. refl) s.frame.entries size sizes)
      (all_true_on Q types funs rho (rho ++ us) (term_put v by) forward (equation_put v by) (λ e. refl) (λ e. refl) s.facts facts) in
      some_true_back Q types funs rho (rho ++ us) (term_put v by) forward (equation_put v by) (λ e. refl) (λ e. refl) s.alternatives (sides rho fit) child

  pub case_is_sound : (v : ℕ) (children : List Sequent) → AreCases Q s v children → All (λ (child : Sequent). IsValidAt Q types funs child size) children → IsValidAt Q types funs s size
  case_is_sound v children cases valid = record {
    some = λ rho fit sizes facts.
        let there = fit_at Q types s.context.vars rho v (type.Con cases.datatype cases.args) fit cases.live_at in
        let one = opened cases.datatype cases.args cases.declared there.u cases.stands (is.typed.context.vars v (type.Con cases.datatype cases.args) cases.live_at) there.fits in
        let child : slice_get children one.k ≡ Some (case_of s v cases.datatype cases.args one.k one.c) = ap (λ (cs : List Sequent). slice_get cs one.k) cases.are ∙ case_here s v cases.datatype cases.args cases.declared.cons one.k one.c one.stands in
        one_case v cases.datatype one.k cases.args one.c one.us one.many one.fields_in rho (there.at ∙ ap (λ (u : Value). Some u) one.value_is) fit sizes facts
        (all_at (λ (x : Sequent). IsValidAt Q types funs x size) children one.k (case_of s v cases.datatype cases.args one.k one.c) valid child);
  }

  -- the case that the term's value is of
  one_split : (t : Term) (a d k : ℕ) (args : List Ty) (c : ConDef) (us : List Value) → length us ≡ length c.fields → AreIn Q (tys_instance types (tys_instance args c.fields)) us → (rho : List Value) → Means Q types funs rho t (value.Con d k us) a → FitValues Q types s.context.vars rho → PresentSizes Q types funs rho s.frame.entries size → AreTrueAt Q types funs rho s.facts → IsValidAt Q types funs (split_of s t d args k c) size → SomeIsTrueAt Q types funs rho s.alternatives
  one_split t a d k args c us many inside rho means_t fit sizes facts valid =
      let by = fresh_constructor s d args k c in
      let means = fresh_means Q types funs s rho us d k args c (fresh_is_next rho fit) many [] in
      let forward : (x : Term) (w : Value) (b : ℕ) → Means Q types funs rho x w b → (e : ℕ) × Means Q types funs (rho ++ us) x w e = λ x w b means_x. (b, more_values Q types funs rho us [] (out-Term x) w b means_x) in
      let fits = fit_more Q types s.context.vars rho (tys_instance args c.fields) us fit inside in
      let old_facts : AreTrueAt Q types funs (rho ++ us) s.facts = subst (AreTrueAt Q types funs (rho ++ us)) (map-id s.facts) (all_true_on Q types funs rho (rho ++ us) (λ x. x) forward (λ e. e) (λ e. refl) (λ e. refl) s.facts facts) in
      let new_fact : SameValue Q types funs (rho ++ us) t by = (value.Con d k us, a, means.0, more_values Q types funs rho us [] (out-Term t) (value.Con d k us) a means_t, means.1) in
      let all_facts = all_append Q types funs (rho ++ us) s.facts (equals t by ∷ []) old_facts (new_fact, tt) in
      let all_sizes : PresentSizes Q types funs (rho ++ us) s.frame.entries size = subst (λ (ps : List Present). PresentSizes Q types funs (rho ++ us) ps size) (map-id s.frame.entries) (sizes_on Q types funs rho (rho ++ us) (λ x. x) forward (λ e. e) (λ e. refl) (λ e. refl) (λ p. p) (λ p. refl) s.frame.entries size sizes) in
      let child = valid.some (rho ++ us) fits all_sizes all_facts in
      some_true_back Q types funs rho (rho ++ us) (λ x. x) forward (λ e. e) (λ e. refl) (λ e. refl) s.alternatives (sides rho fit) (subst (SomeIsTrueAt Q types funs (rho ++ us)) (sym (map-id s.alternatives)) child)

  pub split_is_sound : (t : Term) (children : List Sequent) → AreTermCases Q s t children → All (λ (child : Sequent). IsValidAt Q types funs child size) children → IsValidAt Q types funs s size
  split_is_sound t children cases valid = record {
    some = λ rho fit sizes facts.
        let given = assignment Q n own on types funs size assumed s is rho fit in
        let there = value_of has_value Q assumed.founded s.context is.typed.context types funs rho given t (type.Con cases.datatype cases.args) cases.typed in
        let is_type : IsType Q s.context.tparams (type.Con cases.datatype cases.args) = type_of Q assumed.founded.typed anywhere s.context (is_context Q s.context is.typed.context) cases.typed typing.none in
        let one = opened cases.datatype cases.args cases.declared there.value cases.stands is_type there.in_type in
        let child : slice_get children one.k ≡ Some (split_of s t cases.datatype cases.args one.k one.c) = ap (λ (cs : List Sequent). slice_get cs one.k) cases.are ∙ split_here s t cases.datatype cases.args cases.declared.cons one.k one.c one.stands in
        one_split t there.count cases.datatype one.k cases.args one.c one.us one.many one.fields_in rho (subst (λ (u : Value). Means Q types funs rho t u there.count) one.value_is there.given) fit sizes facts
        (all_at (λ (x : Sequent). IsValidAt Q types funs x size) children one.k (split_of s t cases.datatype cases.args one.k one.c) valid child);
  }
