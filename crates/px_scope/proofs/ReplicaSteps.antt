-- Replicas and lemmas, stage by stage: where a stage fails, and where all are fine.
use Rattle.std.proofs.Common.{◌≡◌, ℕ, ◌+◌, ◌-◌, ◌<◌, List, [], ◌∷◌, ◌++◌, length, take, drop, get_or, None, Result, refl, sym, ap, ◌∙◌, subst, arith}
use Rattle.std.specs.List.{flat_map}
use Rattle.std.specs.Result.{IsErrAnd}
use Rattle.std.proofs.lemmas.List.{take_more, take_all, append-nil, take-append-drop}
use Rattle.std.proofs.lemmas.Grind.{flat_map-append}
use Rattle.px_base.specs.declared.raw.RawTy.{RawTy}
use Rattle.px_base.specs.declared.raw.RawFun.{RawFun}
use Rattle.px_base.specs.declared.raw.RawTerm.{RawTerm}
use Rattle.px_base.specs.declared.raw.RawEquation.{RawEquation}
use Rattle.px_parser.specs.declared.surface.Name.{Name}
use Rattle.px_parser.specs.declared.surface.SParam.{SParam}
use Rattle.px_parser.specs.declared.surface.SFun.{SFun}
use Rattle.px_parser.specs.declared.surface.SEquation.{SEquation}
use Rattle.px_parser.specs.declared.surface.SLemma.{SLemma}
use Rattle.px_parser.specs.declared.surface.SReplica.{SReplica}
use Rattle.px_parser.specs.declared.surface.Item.{Item}
use Rattle.px_parser.specs.declared.surface.Item.TheVariants as items
use Rattle.px_scope.specs.declared.ends.ScopeEnd.{ScopeEnd}
use Rattle.px_scope.specs.declared.globals.Meaning.TheVariants as meaning
use Rattle.px_scope.specs.declared.globals.Globals.{Globals}
use Rattle.px_scope.specs.declared.locals.Locals.{Locals}
use Rattle.px_scope.specs.declared.parameters.Parameters.{Parameters}
use Rattle.px_scope.specs.Standing.{no_parameters, nothing_local}
use Rattle.px_scope.specs.Rules.{new_lower_fault}
use Rattle.px_scope.specs.Uses.{Use, first_broken, type_uses, From, expr_uses, function_uses}
use Rattle.px_scope.specs.Numbers.{IsType, IsTerm, IsFunction, AreFunctions}
use Rattle.px_scope.specs.Declaring.{with_lower, parameter_locals, after}
use Rattle.px_scope.specs.ItemUses.{heading_uses, equation_uses, lemma_uses, merge_uses, replica_uses}
use Rattle.px_scope.specs.Programs.{IsEquation, AreEquations, IsLemma, IsReplica}
use Rattle.px_scope.specs.Answers.{Fails, Fine, Resolves}
use Rattle.px_scope.proofs.Firsts.{fine_first, fine_both, fails_front, fails_back, fails_later, passed_on}
use Rattle.px_scope.proofs.DeclarationSteps.{equations_push}
use Rattle.px_scope.proofs.DefinitionSteps.{Opened}

module _ (text : List Item) (G : Globals) (s : SReplica) (new : new_lower_fault G s.name.text ≡ None) where
  abbrev H : Globals
  H = with_lower G s.name meaning.Replica

  abbrev state : List Use
  state = type_uses text G no_parameters s.state

  abbrev from : List Use
  from = expr_uses text H s.from From nothing_local

  abbrev merge : List Use
  merge = merge_uses text H s.merge

  abbrev funs : List Use
  funs = flat_map (function_uses text H nothing_local) s.funs

  fails : {Z : Type 0} (Is : Z → Type 0) (r : Result Z ScopeEnd) (end : ScopeEnd) → IsErrAnd r (λ e. e ≡ end) → Fails (first_broken (state ++ (from ++ (merge ++ funs)))) end → Resolves (replica_uses text G s) Is r
  fails Is r end is h = passed_on Is (replica_uses text G s) r end is (fails_later s.name.at (new_lower_fault G s.name.text) (state ++ (from ++ (merge ++ funs))) end new h)

  module _ (nl : Locals) (nothing : nl ≡ nothing_local) where
    -- its state's type fails
    pub replica_state_fails : {Z : Type 0} (Is : Z → Type 0) (r : Result Z ScopeEnd) (end : ScopeEnd) → IsErrAnd r (λ e. e ≡ end) → Fails (first_broken (type_uses text G nl.types s.state)) end → Resolves (replica_uses text G s) Is r
    replica_state_fails Is r end is h = fails Is r end is (fails_front state (from ++ (merge ++ funs)) end (subst (λ (L : Locals). Fails (first_broken (type_uses text G L.types s.state)) end) nothing h))

    module _ (fine_state_of : first_broken (type_uses text G nl.types s.state) ≡ None) (K : Globals) (declares : K ≡ H) where
      fine_state : first_broken state ≡ None
      fine_state = subst (λ (L : Locals). first_broken (type_uses text G L.types s.state) ≡ None) nothing fine_state_of

      here : (P : Globals → Locals → Type 0) → P K nl → P H nothing_local
      here P p = subst (λ (L : Locals). P H L) nothing (subst (λ (J : Globals). P J nl) declares p)

      -- its first value fails
      pub replica_from_fails : {Z : Type 0} (Is : Z → Type 0) (r : Result Z ScopeEnd) (end : ScopeEnd) → IsErrAnd r (λ e. e ≡ end) → Fails (first_broken (expr_uses text K s.from From nl)) end → Resolves (replica_uses text G s) Is r
      replica_from_fails Is r end is h = fails Is r end is (fails_back state (from ++ (merge ++ funs)) end fine_state (fails_front from (merge ++ funs) end (here (λ J L. Fails (first_broken (expr_uses text J s.from From L)) end) h)))

      module _ (fine_from_of : first_broken (expr_uses text K s.from From nl) ≡ None) where
        fine_from : first_broken from ≡ None
        fine_from = here (λ J L. first_broken (expr_uses text J s.from From L) ≡ None) fine_from_of

        -- its merge fails
        pub replica_merge_fails : {Z : Type 0} (Is : Z → Type 0) (r : Result Z ScopeEnd) (end : ScopeEnd) → IsErrAnd r (λ e. e ≡ end) → Fails (first_broken (merge_uses text K s.merge)) end → Resolves (replica_uses text G s) Is r
        replica_merge_fails Is r end is h = fails Is r end is (fails_back state (from ++ (merge ++ funs)) end fine_state (fails_back from (merge ++ funs) end fine_from (fails_front merge funs end (subst (λ J. Fails (first_broken (merge_uses text J s.merge)) end) declares h))))

        module _ (fine_merge_of : first_broken (merge_uses text K s.merge) ≡ None) (fs : List SFun) (fs_are : fs ≡ s.funs) where
          fine_merge : first_broken merge ≡ None
          fine_merge = subst (λ J. first_broken (merge_uses text J s.merge) ≡ None) declares fine_merge_of

          -- its merge's functions fail
          pub replica_funs_fail : {Z : Type 0} (Is : Z → Type 0) (r : Result Z ScopeEnd) (end : ScopeEnd) → IsErrAnd r (λ e. e ≡ end) → Fails (first_broken (flat_map (function_uses text K nl) fs)) end → Resolves (replica_uses text G s) Is r
          replica_funs_fail Is r end is h = fails Is r end is (fails_back state (from ++ (merge ++ funs)) end fine_state (fails_back from (merge ++ funs) end fine_from (fails_back merge funs end fine_merge
              (subst (λ xs. Fails (first_broken (flat_map (function_uses text H nothing_local) xs)) end) fs_are (here (λ J L. Fails (first_broken (flat_map (function_uses text J L) fs)) end) h)))))

          -- all is fine
          pub replica_fine : (t : RawTy) (f : RawTerm) (m : RawFun) (gs : List RawFun) → IsType G nl.types s.state t → IsTerm K nl s.from f → IsFunction K nl s.merge m → Fine (flat_map (function_uses text K nl) fs) (AreFunctions K nl fs) gs
              → Fine (replica_uses text G s) (λ raw. IsReplica G s raw × (K ≡ after G (items.Replica s))) (record { at = s.name.at; state = t; from = f; merge = m; funs = gs })
          replica_fine t f m gs is_state is_from is_merge (fine_funs_of, are_funs) =
              let fine_funs : first_broken funs ≡ None = subst (λ xs. first_broken (flat_map (function_uses text H nothing_local) xs) ≡ None) fs_are (here (λ J L. first_broken (flat_map (function_uses text J L) fs) ≡ None) fine_funs_of) in (
                fine_first s.name.at (new_lower_fault G s.name.text) (state ++ (from ++ (merge ++ funs))) new (fine_both state (from ++ (merge ++ funs)) fine_state (fine_both from (merge ++ funs) fine_from (fine_both merge funs fine_merge fine_funs))),
                (
                  record {
                    state = t;
                    from = f;
                    merge = m;
                    funs = gs;
                    is_state = subst (λ (L : Locals). IsType G L.types s.state t) nothing is_state;
                    is_from = here (λ J L. IsTerm J L s.from f) is_from;
                    is_merge = here (λ J L. IsFunction J L s.merge m) is_merge;
                    are_functions = subst (λ xs. AreFunctions H nothing_local xs gs) fs_are (here (λ J L. AreFunctions J L fs gs) are_funs);
                    is = refl;
                  },
                  declares,
                ),
              )

module _ (text : List Item) (G : Globals) (s : SLemma) (new : new_lower_fault G s.name.text ≡ None) where
  abbrev LH : Globals
  LH = with_lower G s.name meaning.Lemma

  abbrev L0 : Locals
  L0 = parameter_locals s.tparams s.params

  abbrev lemma_heading : List Use
  lemma_heading = heading_uses text G s.tparams s.params

  abbrev equations : List Use
  equations = flat_map (equation_uses text LH L0) s.equations

  lemma_fails : {Z : Type 0} (Is : Z → Type 0) (r : Result Z ScopeEnd) (end : ScopeEnd) → IsErrAnd r (λ e. e ≡ end) → Fails (first_broken (lemma_heading ++ equations)) end → Resolves (lemma_uses text G s) Is r
  lemma_fails Is r end is h = passed_on Is (lemma_uses text G s) r end is (fails_later s.name.at (new_lower_fault G s.name.text) (lemma_heading ++ equations) end new h)

  -- its heading fails
  pub lemma_heading_fails : {Z : Type 0} (Is : Z → Type 0) (r : Result Z ScopeEnd) (end : ScopeEnd) → IsErrAnd r (λ e. e ≡ end) → (ns : List Name) (ps : List SParam) → ns ≡ s.tparams → ps ≡ s.params → Fails (first_broken (heading_uses text G ns ps)) end → Resolves (lemma_uses text G s) Is r
  lemma_heading_fails Is r end is ns ps ns_are ps_are h = lemma_fails Is r end is (fails_front lemma_heading equations end (subst (λ xs. Fails (first_broken (heading_uses text G s.tparams xs)) end) ps_are (subst (λ xs. Fails (first_broken (heading_uses text G xs ps)) end) ns_are h)))

  module _ (locals : Locals) (both : Parameters) (ns : List Name) (ps : List SParam) (ns_are : ns ≡ s.tparams) (ps_are : ps ≡ s.params) (fine_heading_of : first_broken (heading_uses text G ns ps) ≡ None) (given : Opened G ns ps locals both)
      (K : Globals) (declares : K ≡ LH) (es : List SEquation) (es_are : es ≡ s.equations) (last : ℕ) (some : 0 < length es) (last_is : last ≡ length es - 1) where
    fine_lemma_heading : first_broken lemma_heading ≡ None
    fine_lemma_heading = subst (λ xs. first_broken (heading_uses text G s.tparams xs) ≡ None) ps_are (subst (λ xs. first_broken (heading_uses text G xs ps) ≡ None) ns_are fine_heading_of)

    is_open : Opened G s.tparams s.params locals both
    is_open = subst (λ xs. Opened G s.tparams xs locals both) ps_are (subst (λ xs. Opened G xs ps locals both) ns_are given)

    there : (P : Globals → Locals → Type 0) → P K locals → P LH L0
    there P p = subst (λ (L : Locals). P LH L) is_open.locals_are (subst (λ (J : Globals). P J locals) declares p)

    all_equations : (x : SEquation) → x ≡ get_or es last x → s.equations ≡ take last es ++ x ∷ []
    all_equations x at = sym es_are ∙ sym (take_all (last + 1) es (omega arith)) ∙ take_more es last x (omega arith) ∙ ap (λ y. take last es ++ y ∷ []) (sym at)

    names_of : (x : SEquation) → x ≡ get_or es last x → equations ≡ flat_map (equation_uses text LH L0) (take last es) ++ equation_uses text LH L0 x
    names_of x at = ap (flat_map (equation_uses text LH L0)) (all_equations x at) ∙ flat_map-append (equation_uses text LH L0) (take last es) (x ∷ []) ∙ (rw append-nil refl)

    front_of : equations ≡ flat_map (equation_uses text LH L0) (take last es) ++ flat_map (equation_uses text LH L0) (drop last es)
    front_of = ap (flat_map (equation_uses text LH L0)) (sym es_are ∙ sym (take-append-drop last es)) ∙ flat_map-append (equation_uses text LH L0) (take last es) (drop last es)

    -- its premises fail
    pub lemma_premises_fail : {Z : Type 0} (Is : Z → Type 0) (r : Result Z ScopeEnd) (end : ScopeEnd) → IsErrAnd r (λ e. e ≡ end) → Fails (first_broken (flat_map (equation_uses text K locals) (take last es))) end → Resolves (lemma_uses text G s) Is r
    lemma_premises_fail Is r end is h = lemma_fails Is r end is (fails_back lemma_heading equations end fine_lemma_heading (rw (front_of) (fails_front (flat_map (equation_uses text LH L0) (take last es)) (flat_map (equation_uses text LH L0) (drop last es)) end (there (λ J L. Fails (first_broken (flat_map (equation_uses text J L) (take last es))) end) h))))

    module _ (fine_premises_of : first_broken (flat_map (equation_uses text K locals) (take last es)) ≡ None) where
      fine_premises : first_broken (flat_map (equation_uses text LH L0) (take last es)) ≡ None
      fine_premises = there (λ J L. first_broken (flat_map (equation_uses text J L) (take last es)) ≡ None) fine_premises_of

      -- its conclusion fails
      pub lemma_conclusion_fails : {Z : Type 0} (Is : Z → Type 0) (r : Result Z ScopeEnd) (end : ScopeEnd) → IsErrAnd r (λ e. e ≡ end) → (x : SEquation) → x ≡ get_or es last x → Fails (first_broken (equation_uses text K locals x)) end → Resolves (lemma_uses text G s) Is r
      lemma_conclusion_fails Is r end is x at h = lemma_fails Is r end is (fails_back lemma_heading equations end fine_lemma_heading (rw (names_of x at) (fails_back (flat_map (equation_uses text LH L0) (take last es)) (equation_uses text LH L0 x) end fine_premises (there (λ J L. Fails (first_broken (equation_uses text J L x)) end) h))))

      -- all is fine
      pub lemma_fine : (x : SEquation) → x ≡ get_or es last x → (premises : List RawEquation) (conclusion : RawEquation) (count : ℕ) → AreEquations K locals (take last es) premises → Fine (equation_uses text K locals x) (IsEquation K locals x) conclusion → count ≡ length s.tparams
          → Fine (lemma_uses text G s) (λ raw. IsLemma G s raw × (K ≡ after G (items.Lemma s))) (record { at = s.name.at; tparams = count; funs = both.funs; vars = both.values; premises = premises; conclusion = conclusion })
      lemma_fine x at premises conclusion count are (fine_of, is) count_is =
          let fine_conclusion : first_broken (equation_uses text LH L0 x) ≡ None = there (λ J L. first_broken (equation_uses text J L x) ≡ None) fine_of in
          let fine_equations : first_broken equations ≡ None = ap first_broken (names_of x at) ∙ fine_both (flat_map (equation_uses text LH L0) (take last es)) (equation_uses text LH L0 x) fine_premises fine_conclusion in
          let all : AreEquations LH L0 (take last es ++ x ∷ []) (premises ++ conclusion ∷ []) = equations_push LH L0 (take last es) premises x conclusion (there (λ J L. AreEquations J L (take last es) premises) are) (there (λ J L. IsEquation J L x conclusion) is) in (
            fine_first s.name.at (new_lower_fault G s.name.text) (lemma_heading ++ equations) new (fine_both lemma_heading equations fine_lemma_heading fine_equations),
            (
              record {
                funs = both.funs;
                vars = both.values;
                premises = premises;
                conclusion = conclusion;
                are_parameters = is_open.are_both;
                are_equations = subst (λ xs. AreEquations LH L0 xs (premises ++ conclusion ∷ [])) (sym (all_equations x at)) all;
                is = rw count_is refl;
              },
              declares,
            ),
          )
