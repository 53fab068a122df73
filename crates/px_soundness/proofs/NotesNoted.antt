-- Where a clause is true at what is put in, and the children of its note are valid, the sequent is.
use Rattle.std.proofs.Common.{◌≡◌, ℕ, ◌+◌, List, [], ◌∷◌, ◌++◌, map, length, refl, subst}
use Rattle.std.specs.List.{All}
use Rattle.std.proofs.lemmas.List.Elements.{All-head, All-tail}
use Rattle.px_terms.specs.declared.types.Ty.{Ty}
use Rattle.px_terms.specs.declared.types.FnType.{FnType}
use Rattle.px_terms.specs.declared.types.Fun.{Fun}
use Rattle.px_terms.specs.declared.term.Term.{Term, out-Term}
use Rattle.px_terms.specs.declared.term.Value.{Value}
use Rattle.px_terms.specs.declared.clause.Clause.{Clause}
use Rattle.px_terms.specs.declared.clause.Equation.{Equation}
use Rattle.px_terms.specs.declared.clause.Sigma.{Sigma}
use Rattle.px_terms.specs.declared.program.Program.{Program}
use Rattle.px_terms.specs.declared.sequent.Context.{Context}
use Rattle.px_terms.specs.declared.sequent.Sequent.{Sequent}
use Rattle.px_terms.specs.Types.{ty_instance, tys_instance}
use Rattle.px_terms.specs.Terms.{term_instance}
use Rattle.px_terms.specs.Values.{AreIn}
use Rattle.px_terms.specs.Values as values
use Rattle.px_terms.specs.Meaning.{MeanAll, Means, none, more}
use Rattle.px_terms.specs.Typing.{anywhere, AreTypes, HasType, HasTypeLayer, HaveTypes, live}
use Rattle.px_terms.specs.Typing as typing
use Rattle.px_terms.specs.Holding.{IsTrueAt, AreTrueAt, SomeIsTrueAt, here, later}
use Rattle.px_terms.specs.Extending.{IsWellFounded, FunctionsFit, FitValues}
use Rattle.px_terms.specs.TypedSequents.{IsTypedContext, IsTypedEquation}
use Rattle.px_terms.specs.Noting.{equation_instance, equations_instance}
use Rattle.px_terms.specs.Rows.{to_show, with_facts, noted}
use Rattle.px_totality.specs.Laws.{ExactlyOne}
use Rattle.px_totality.proofs.EachHasValue.{each_term}
use Rattle.px_totality.proofs.Examples.{only_one}
use Rattle.px_totality.proofs.Unique.{unique}
use Rattle.px_soundness.specs.Validity.{PresentSizes, IsValidAt}
use Rattle.px_soundness.specs.Argument.{IsTypedClause}
use Rattle.px_soundness.proofs.Sides.{types_fit, is_context}
use Rattle.px_soundness.proofs.Truths.{all_append}
use Rattle.px_soundness.proofs.ValuesPutIn.{put_in_keeps}
use Rattle.px_soundness.proofs.NotesReadings.{around, Reading, live_fit}

-- The terms have values in these types.
record TermsHave (Q : Program) (types : List Ty) (funs : List Fun) (rho : List Value) (ts : List Term) (Ts : List Ty) : Type 0 where
  vs : List Value
  count : ℕ
  mean : MeanAll Q types funs rho [] ts vs count
  are : AreIn Q (tys_instance types Ts) vs

-- a typed term has a value in a typed context
pub valued : (Q : Program) → IsWellFounded Q → (context : Context) → IsTypedContext Q context → (types : List Ty) → length types ≡ context.tparams →
    AreTypes Q 0 types → (funs : List Fun) → FunctionsFit Q types context.funs funs → (rho : List Value) → FitValues Q types context.vars rho → (t : Term)
    (T : Ty) → HasType Q anywhere context t T → ExactlyOne Q (ty_instance types T) (Means Q types funs rho t)
valued Q founded context typed types long ground funs fit rho values t T has =
    each_term Q founded anywhere context (is_context Q context typed) t T has types long ground funs (types_fit Q types context.funs funs fit) rho values

module _ (Q : Program) (founded : IsWellFounded Q) (context : Context) (typed : IsTypedContext Q context) (types : List Ty)
    (long : length types ≡ context.tparams) (ground : AreTypes Q 0 types) (funs : List Fun) (fit : FunctionsFit Q types context.funs funs)
    (rho : List Value) (fits : FitValues Q types context.vars rho) where
  terms_have : {bound : List Ty} {ts : List Term} {Ts : List Ty} → HaveTypes Q anywhere context bound ts Ts → bound ≡ [] → TermsHave Q types funs rho ts Ts
  terms_have typing.none e = record { vs = []; count = 0; mean = none; are = values.none }
  terms_have (typing.more {t = t} {ts = ts} {T = T} {types = Ts} has have) e =
      let here : HasType Q anywhere context t T = subst (λ (bound : List Ty). HasTypeLayer Q anywhere context bound (out-Term t) T) e has in
      let first : ExactlyOne Q (ty_instance types T) (Means Q types funs rho t) =
      valued Q founded context typed types long ground funs fit rho fits t T here in
      let others : TermsHave Q types funs rho ts Ts = terms_have have e in
      record {
        vs = first.value ∷ others.vs;
        count = first.count + others.count;
        mean = more first.given others.mean refl;
        are = values.more first.in_type others.are;
      }

module _ (Q : Program) (founded : IsWellFounded Q) (types : List Ty) (funs : List Fun) (rho : List Value) (sigma : Sigma) (tparams : ℕ) (Fs : List FnType)
    (clause : Clause) (typed : IsTypedClause Q (around tparams Fs clause) clause) (inner : List Ty) (gs : List Fun)
    (r : Reading Q types funs sigma tparams Fs clause inner gs) (vs : List Value) (count : ℕ) (mean : MeanAll Q types funs rho [] sigma.terms vs count)
    (fits : FitValues Q inner (live clause.vars) vs) where
  abbrev inside : Context
  inside = around tparams Fs clause

  side_valued : (t : Term) (T : Ty) → HasType Q anywhere inside t T → ExactlyOne Q (ty_instance inner T) (Means Q inner gs vs t)
  side_valued t T has = valued Q founded inside typed.types inner r.long r.ground gs r.fit vs fits t T has

  forward : (t : Term) (T : Ty) → HasType Q anywhere inside t T → (v : Value) (c : ℕ) → Means Q inner gs vs t v c →
      (e : ℕ) × Means Q types funs rho (term_instance sigma t) v e
  forward t T has v c means = put_in_keeps Q anywhere inside types funs rho sigma inner gs r.stand vs count mean t T has v c means

  -- an equation that is true at what is put in has a true instance
  instance_is_true : (e : Equation) → IsTypedEquation Q inside e → IsTrueAt Q inner gs vs e → IsTrueAt Q types funs rho (equation_instance sigma e)
  instance_is_true e is_typed is =
      let left = forward e.left is_typed.T is_typed.left is.0 is.1 is.3 in
      let right = forward e.right is_typed.T is_typed.right is.0 is.2 is.4 in
      (is.0, left.0, right.0, left.1, right.1)

  -- an equation with a true instance is true at what is put in
  true_of_instance : (e : Equation) → IsTypedEquation Q inside e → IsTrueAt Q types funs rho (equation_instance sigma e) → IsTrueAt Q inner gs vs e
  true_of_instance e is_typed is =
      let a : ExactlyOne Q (ty_instance inner is_typed.T) (Means Q inner gs vs e.left) = side_valued e.left is_typed.T is_typed.left in
      let b : ExactlyOne Q (ty_instance inner is_typed.T) (Means Q inner gs vs e.right) = side_valued e.right is_typed.T is_typed.right in
      let left = forward e.left is_typed.T is_typed.left a.value a.count a.given in
      let right = forward e.right is_typed.T is_typed.right b.value b.count b.given in
      let one : a.value ≡ is.0 = (unique Q types funs rho [] (out-Term (term_instance sigma e.left)) a.value is.0 left.0 is.1 left.1 is.3).0 in
      let two : b.value ≡ is.0 = (unique Q types funs rho [] (out-Term (term_instance sigma e.right)) b.value is.0 right.0 is.2 right.1 is.4).0 in (
        is.0,
        a.count,
        b.count,
        subst (λ (v : Value). Means Q inner gs vs e.left v a.count) one a.given,
        subst (λ (v : Value). Means Q inner gs vs e.right v b.count) two b.given,
      )

  module _ (s : Sequent) (size : ℕ) (values : FitValues Q types s.context.vars rho) (sizes : PresentSizes Q types funs rho s.frame.entries size)
      (facts : AreTrueAt Q types funs rho s.facts) where
    abbrev Valid : Sequent → Type 0
    Valid child = IsValidAt Q types funs child size

    abbrev Typed : Equation → Type 0
    Typed e = IsTypedEquation Q inside e

    -- the premises are true, as the children that show them are valid
    premises_are_true : (es : List Equation) (others : List Sequent) → All Typed es → All Valid (map (to_show s) (equations_instance sigma es) ++ others) →
        AreTrueAt Q inner gs vs es × All Valid others
    premises_are_true [] others are valid = (tt, valid)
    premises_are_true (e ∷ es) others are valid =
        let child : Sequent = to_show s (equation_instance sigma e) in
        let rest : List Sequent = map (to_show s) (equations_instance sigma es) ++ others in
        let first : Valid child = All-head Valid child rest valid in
        let shown : IsTrueAt Q types funs rho (equation_instance sigma e) =
        only_one Q types funs rho (equation_instance sigma e) (first.some rho values sizes facts) in
        let is : IsTrueAt Q inner gs vs e = true_of_instance e (All-head Typed e es are) shown in
        let there = premises_are_true es others (All-tail Typed e es are) (All-tail Valid child rest valid) in
        ((is, there.0), there.1)

    -- the child of a true alternative shows the sequent
    alternative_shows : (es : List Equation) → All Typed es →
        All Valid (map (λ (e : Equation). with_facts s (e ∷ [])) (equations_instance sigma es)) → SomeIsTrueAt Q inner gs vs es →
        SomeIsTrueAt Q types funs rho s.alternatives
    alternative_shows [] are valid some = elim some [ ]
    alternative_shows (e ∷ es) are valid (here is) =
        let child : Sequent = with_facts s (equation_instance sigma e ∷ []) in
        let rest : List Sequent = map (λ (e : Equation). with_facts s (e ∷ [])) (equations_instance sigma es) in
        let first : Valid child = All-head Valid child rest valid in
        let new : IsTrueAt Q types funs rho (equation_instance sigma e) = instance_is_true e (All-head Typed e es are) is in
        first.some rho values sizes (all_append Q types funs rho s.facts (equation_instance sigma e ∷ []) facts (new, tt))
    alternative_shows (e ∷ es) are valid (later some) =
        let child : Sequent = with_facts s (equation_instance sigma e ∷ []) in
        let rest : List Sequent = map (λ (e : Equation). with_facts s (e ∷ [])) (equations_instance sigma es) in
        alternative_shows es (All-tail Typed e es are) (All-tail Valid child rest valid) some

    noted_shows : (AreTrueAt Q inner gs vs clause.premises → SomeIsTrueAt Q inner gs vs clause.alternatives) → All Valid (noted s clause sigma) →
        SomeIsTrueAt Q types funs rho s.alternatives
    noted_shows truth valid =
        let others : List Sequent = map (λ (e : Equation). with_facts s (e ∷ [])) (equations_instance sigma clause.alternatives) in
        let there = premises_are_true clause.premises others typed.premises valid in
        alternative_shows clause.alternatives typed.alternatives there.1 (truth there.0)

-- where the clause is true at what is put in, a note is sound
pub noted_is_sound : (Q : Program) → IsWellFounded Q → (types : List Ty) (funs : List Fun) (size : ℕ) (s : Sequent) → IsTypedContext Q s.context →
    length types ≡ s.context.tparams → AreTypes Q 0 types → FunctionsFit Q types s.context.funs funs → (sigma : Sigma) (tparams : ℕ) (Fs : List FnType)
    (clause : Clause) → IsTypedClause Q (around tparams Fs clause) clause →
    HaveTypes Q anywhere s.context [] sigma.terms (tys_instance sigma.types clause.vars) → (inner : List Ty) (gs : List Fun) →
    Reading Q types funs sigma tparams Fs clause inner gs →
    ((rho : List Value) → PresentSizes Q types funs rho s.frame.entries size → (vs : List Value) (count : ℕ) →
    MeanAll Q types funs rho [] sigma.terms vs count →
    FitValues Q inner (live clause.vars) vs → AreTrueAt Q inner gs vs clause.premises → SomeIsTrueAt Q inner gs vs clause.alternatives) →
    All (λ (child : Sequent). IsValidAt Q types funs child size) (noted s clause sigma) → IsValidAt Q types funs s size
noted_is_sound Q founded types funs size s context long ground fit sigma tparams Fs clause typed terms inner gs r truth valid = record {
  some = λ rho values sizes facts.
      let it : TermsHave Q types funs rho sigma.terms (tys_instance sigma.types clause.vars) =
      terms_have Q founded s.context context types long ground funs fit rho values terms refl in
      let fits : FitValues Q inner (live clause.vars) it.vs =
      live_fit Q inner clause.vars it.vs (subst (λ (Ts : List Ty). AreIn Q Ts it.vs) r.vars it.are) in
      noted_shows Q founded types funs rho sigma tparams Fs clause typed inner gs r it.vs it.count it.mean fits s size values sizes facts
      (truth rho sizes it.vs it.count it.mean fits) valid;
}
