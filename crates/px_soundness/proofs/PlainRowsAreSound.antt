-- The rows that leave the variables as they are: equal sides, a step, a clash, and the fields of one constructor.
use Rattle.std.proofs.Common.{◌≡◌, ℕ, List, [], slice_get, Some, sym, ap, ◌∙◌, subst}
use Rattle.px_terms.specs.declared.types.Ty.{Ty}
use Rattle.px_terms.specs.declared.types.FnType.{FnType}
use Rattle.px_terms.specs.declared.types.Fun.{Fun}
use Rattle.px_terms.specs.declared.term.Term.{Term, out-Term}
use Rattle.px_terms.specs.declared.term.Term.TheOpen.{Term-F}
use Rattle.px_terms.specs.declared.term.Value.{Value, out-Value}
use Rattle.px_terms.specs.declared.term.Value.TheVariants as value
use Rattle.px_terms.specs.declared.term.Value.TheOpen.{Value-F}
use Rattle.px_terms.specs.declared.clause.Clause.{Clause}
use Rattle.px_terms.specs.declared.clause.Equation.{Equation}
use Rattle.px_terms.specs.declared.program.Program.{Program}
use Rattle.px_terms.specs.declared.sequent.Sequent.{Sequent}
use Rattle.px_terms.specs.declared.row.Side.{Side}
use Rattle.px_terms.specs.declared.row.Side.TheVariants.{Left, Right}
use Rattle.px_terms.specs.declared.row.Kind.{Kind}
use Rattle.px_terms.specs.TreeEdits.{with_side}
use Rattle.px_terms.specs.Meaning.{MeansOf, MeanAll, Means, SameValue}
use Rattle.px_terms.specs.Meaning as meaning
use Rattle.px_terms.specs.Typing.{anywhere, HasType}
use Rattle.px_terms.specs.Holding.{IsTrueAt, AreTrueAt}
use Rattle.px_terms.specs.Extending.{FunctionsFit, FitValues}
use Rattle.px_terms.specs.Sequents.{side_of, with_alternative_side, with_fact_side}
use Rattle.px_terms.specs.TypedSequents.{IsTypedEquation}
use Rattle.px_terms.specs.Steps.{Step}
use Rattle.px_terms.specs.Rows.{HeadsClash, constructors, literals, HaveOneHead, IsInjected, pairs_equal, with_facts}
use Rattle.px_totality.specs.Laws.{EachTermHasValue}
use Rattle.px_totality.proofs.TypesOfTerms.{all_at}
use Rattle.px_totality.proofs.Unique.{rests_on, OfCon}
use Rattle.px_soundness.specs.Validity.{IsAssignment, IsValidAt, IsSequentOf}
use Rattle.px_soundness.specs.Argument.{Assumed, StepsKeepValues}
use Rattle.px_soundness.proofs.Sides.{each_has_sides}
use Rattle.px_soundness.proofs.Truths.{some_at, some_set, true_at, all_set, all_append, one_side, side_on, side_back}

-- the type of a side
side_typed : (Q : Program) (s : Sequent) (e : Equation) (side : Side) → IsTypedEquation Q s.context e → (T : Ty) × HasType Q anywhere s.context (side_of e side) T
side_typed Q s e Left is = (is.T, is.left)
side_typed Q s e Right is = (is.T, is.right)

-- what is assumed gives the sequent's variables their types, functions and values
pub assignment : (Q : Program) (n : ℕ) (own : Clause) (on : List ℕ) (types : List Ty) (funs : List Fun) (size : ℕ) → Assumed Q n own on types funs size → (s : Sequent) → IsSequentOf Q own on s → (rho : List Value) → FitValues Q types s.context.vars rho → IsAssignment Q s.context types funs rho
assignment Q n own on types funs size assumed s is rho fit = record {
  count = assumed.count ∙ sym is.tparams;
  ground = assumed.ground;
  functions = subst (λ (Fs : List FnType). FunctionsFit Q types Fs funs) (sym is.funs) assumed.functions;
  values = fit;
}

module _ (has_value : EachTermHasValue) (keep_values : StepsKeepValues) (Q : Program) (n : ℕ) (own : Clause) (on : List ℕ) (types : List Ty) (funs : List Fun) (size : ℕ) (assumed : Assumed Q n own on types funs size) (s : Sequent) (is : IsSequentOf Q own on s) where
  given : (rho : List Value) → FitValues Q types s.context.vars rho → IsAssignment Q s.context types funs rho
  given rho fit = assignment Q n own on types funs size assumed s is rho fit

  pub same_is_sound : (j : ℕ) (e : Equation) → slice_get s.alternatives j ≡ Some e → e.left ≡ e.right → IsValidAt Q types funs s size
  same_is_sound j e found one = record {
    some = λ rho fit sizes facts. some_at Q types funs rho s.alternatives j e found
        (one_side Q types funs rho e one (each_has_sides has_value Q assumed.founded s.context is.typed.context types funs rho (given rho fit) s.alternatives is.typed.alternatives j e found));
  }

  stepped : (e : Equation) (side : Side) (path : List ℕ) (kind : Kind) (t : Term) → IsTypedEquation Q s.context e → Step Q s.facts (side_of e side) path kind t → (rho : List Value) → FitValues Q types s.context.vars rho → AreTrueAt Q types funs rho s.facts → SameValue Q types funs rho (side_of e side) t
  stepped e side path kind t typed step rho fit facts =
      let T = side_typed Q s e side typed in
      keep_values Q assumed.founded s.context is.typed.context s.facts is.typed.facts (side_of e side) t T.0 path kind T.1 step types funs rho (given rho fit) facts

  pub step_is_sound : (j : ℕ) (e : Equation) (side : Side) (path : List ℕ) (kind : Kind) (t : Term) → slice_get s.alternatives j ≡ Some e → Step Q s.facts (side_of e side) path kind t → IsValidAt Q types funs (with_alternative_side s j e side t) size → IsValidAt Q types funs s size
  step_is_sound j e side path kind t found step child = record {
    some = λ rho fit sizes facts. some_set Q types funs rho s.alternatives j e (with_side side e t) found
        (side_back Q types funs rho e side t (stepped e side path kind t (all_at (IsTypedEquation Q s.context) s.alternatives j e is.typed.alternatives found) step rho fit facts))
        (child.some rho fit sizes facts);
  }

  pub fact_step_is_sound : (j : ℕ) (e : Equation) (side : Side) (path : List ℕ) (kind : Kind) (t : Term) → slice_get s.facts j ≡ Some e → Step Q s.facts (side_of e side) path kind t → IsValidAt Q types funs (with_fact_side s j e side t) size → IsValidAt Q types funs s size
  fact_step_is_sound j e side path kind t found step child = record {
    some = λ rho fit sizes facts. child.some rho fit sizes
        (all_set Q types funs rho s.facts j (with_side side e t) facts
        (side_on Q types funs rho e side t (stepped e side path kind t (all_at (IsTypedEquation Q s.context) s.facts j e is.typed.facts found) step rho fit facts) (true_at Q types funs rho s.facts j e found facts)));
  }

  module _ (rho : List Value) where
    -- what a constructor means
    con_means : (t : Term) (d k : ℕ) (ts : List Ty) (fields : List Term) (v : Value) (c : ℕ) → out-Term t ≡ Term-F.Con d k ts fields → Means Q types funs rho t v c → OfCon Q types funs rho [] d k fields v c
    con_means t d k ts fields v c shape means = rests_on Q types funs rho [] (Term-F.Con d k ts fields) v c (subst (λ (y : Term-F Term). MeansOf Q types funs rho [] y v c) shape means)

    lit_means : (t : Term) (w : ℕ) (v : Value) (c : ℕ) → out-Term t ≡ Term-F.Lit w → Means Q types funs rho t v c → v ≡ value.Lit w
    lit_means t w v c shape means = (rests_on Q types funs rho [] (Term-F.Lit w) v c (subst (λ (y : Term-F Term). MeansOf Q types funs rho [] y v c) shape means)).0

    -- terms with different heads have no value in common
    no_clash : (a b : Term) → HeadsClash a b → SameValue Q types funs rho a b → ⊥
    no_clash a b (constructors {d = d} {k = k} {e = e} {l = l} {types = ts} {us = us} {fields = fields} {parts = parts} left right differ) same =
        let one = con_means a d k ts fields same.0 same.1 left same.3 in
        let two = con_means b e l us parts same.0 same.2 right same.4 in
        let both : value.Con d k one.vs ≡ value.Con e l two.vs = sym one.is ∙ two.is in
        let outs : Value-F.Con d k one.vs ≡ Value-F.Con e l two.vs = sym (value.outs-Con d k one.vs) ∙ ap out-Value both ∙ value.outs-Con e l two.vs in
        let data_same : d ≡ e = cc in
        let con_same : k ≡ l = cc in
        differ data_same con_same
    no_clash a b (literals {w = w} {x = x} left right differ) same =
        let both : value.Lit w ≡ value.Lit x = sym (lit_means a w same.0 same.1 left same.3) ∙ lit_means b x same.0 same.2 right same.4 in
        let outs : Value-F.Lit w ≡ Value-F.Lit x = sym (value.outs-Lit w) ∙ ap out-Value both ∙ value.outs-Lit x in
        let word_same : w ≡ x = cc in
        differ word_same

    -- terms with the same values in order are equal in pairs
    pairs_true : (ss ts : List Term) (vs : List Value) (a b : ℕ) → MeanAll Q types funs rho [] ss vs a → MeanAll Q types funs rho [] ts vs b → AreTrueAt Q types funs rho (pairs_equal ss ts)
    pairs_true _ ts _ a b meaning.none others = tt
    pairs_true _ _ _ a b (meaning.more {t = s1} {ts = ss} {v = v} {vs = vs} {a = x} {b = y} one all e) (meaning.more {t = t1} {ts = ts} {a = p} {b = q} two others f) =
        ((v, x, p, one, two), pairs_true ss ts vs y q all others)

    fields_true : (e : Equation) (fields parts : List Term) → HaveOneHead e.left e.right fields parts → IsTrueAt Q types funs rho e → AreTrueAt Q types funs rho (pairs_equal fields parts)
    fields_true e fields parts head is_true =
        let one = con_means e.left head.datatype head.con head.types fields is_true.0 is_true.1 head.left is_true.3 in
        let two = con_means e.right head.datatype head.con head.us parts is_true.0 is_true.2 head.right is_true.4 in
        let both : value.Con head.datatype head.con one.vs ≡ value.Con head.datatype head.con two.vs = sym one.is ∙ two.is in
        let outs : Value-F.Con head.datatype head.con one.vs ≡ Value-F.Con head.datatype head.con two.vs = sym (value.outs-Con head.datatype head.con one.vs) ∙ ap out-Value both ∙ value.outs-Con head.datatype head.con two.vs in
        let values_same : two.vs ≡ one.vs = cc in
        pairs_true fields parts one.vs is_true.1 is_true.2 one.all (subst (λ (vs : List Value). MeanAll Q types funs rho [] parts vs is_true.2) values_same two.all)

  pub clash_is_sound : (j : ℕ) (e : Equation) → slice_get s.facts j ≡ Some e → HeadsClash e.left e.right → IsValidAt Q types funs s size
  clash_is_sound j e found clash = record {
    some = λ rho fit sizes facts. absurd (no_clash rho e.left e.right clash (true_at Q types funs rho s.facts j e found facts));
  }

  pub inject_is_sound : (j : ℕ) (child : Sequent) → IsInjected s j child → IsValidAt Q types funs child size → IsValidAt Q types funs s size
  inject_is_sound j child injected valid =
      let there : IsValidAt Q types funs (with_facts s (pairs_equal injected.fields injected.parts)) size = subst (λ (x : Sequent). IsValidAt Q types funs x size) injected.is valid in
      record {
        some = λ rho fit sizes facts. there.some rho fit sizes
            (all_append Q types funs rho s.facts (pairs_equal injected.fields injected.parts) facts
            (fields_true rho injected.e injected.fields injected.parts injected.one_head (true_at Q types funs rho s.facts j injected.e injected.stands facts)));
      }
