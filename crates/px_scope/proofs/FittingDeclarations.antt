-- A declaration that is numbered names what stands before it.
use Rattle.std.proofs.Common.{◌≡◌, ℕ, ◌+◌, ◌<◌, ◌≤◌, ◌^◌, List, [], ◌∷◌, ◌++◌, length, Option, Some, None, false, refl, sym, ap, ◌∙◌, subst, arith, length-append}
use Rattle.std.specs.Prelude.{All}
use Rattle.std.specs.List.{slice_get, fold, flat_map}
use Rattle.std.proofs.lemmas.Bool.{eqb-false}
use Rattle.std.proofs.lemmas.List.{length-map}
use Rattle.std.proofs.lemmas.List.Sums.{sum_by-cons}
use Rattle.std.proofs.lemmas.Option.{slice_get_within}
use Rattle.std.proofs.lemmas.List.Elements.{All-nil, All-cons, All-head, All-tail, All-weaker, All-push}
use Rattle.px_base.specs.declared.limits.TheConstants.{NESTING, WRITTEN_DEPTH}
use Rattle.px_base.specs.declared.raw.RawTy.{RawTy}
use Rattle.px_base.specs.declared.raw.RawFun.{RawFun}
use Rattle.px_base.specs.declared.raw.RawTerm.{RawTerm}
use Rattle.px_base.specs.declared.raw.RawCon.{RawCon}
use Rattle.px_base.specs.declared.raw.RawData.{RawData}
use Rattle.px_base.specs.declared.raw.RawFnType.{RawFnType}
use Rattle.px_base.specs.declared.raw.RawDef.{RawDef}
use Rattle.px_base.specs.declared.raw.RawClaim.{RawClaim}
use Rattle.px_base.specs.declared.raw.RawEquation.{RawEquation}
use Rattle.px_base.specs.declared.raw.RawLemma.{RawLemma}
use Rattle.px_base.specs.declared.raw.RawReplica.{RawReplica}
use Rattle.px_base.specs.declared.raw.RawProgram.{RawProgram}
use Rattle.px_base.specs.Distinct.{AreDistinct}
use Rattle.px_base.specs.Fitting.{Counts, Range, AreTypesIn, IsFunIn, IsArgumentIn, IsWholeTermIn, type_range, own_range, IsConIn, IsDataIn, IsFnTypeIn, AreParametersIn, body_range, IsDefIn, IsClaimIn, IsEquationIn, lemma_range, IsLemmaIn, replica_range, IsReplicaIn}
use Rattle.px_parser.specs.declared.surface.Item.{Item}
use Rattle.px_parser.specs.declared.surface.Name.{Name}
use Rattle.px_parser.specs.declared.surface.SType.{SType}
use Rattle.px_parser.specs.declared.surface.SExpr.{SExpr}
use Rattle.px_parser.specs.declared.surface.SCon.{SCon}
use Rattle.px_parser.specs.declared.surface.SData.{SData}
use Rattle.px_parser.specs.declared.surface.SFnType.{SFnType}
use Rattle.px_parser.specs.declared.surface.SParam.{SParam}
use Rattle.px_parser.specs.declared.surface.SParamKind.{SParamKind}
use Rattle.px_parser.specs.declared.surface.SParamKind.TheVariants as param_kinds
use Rattle.px_parser.specs.declared.surface.SDef.{SDef}
use Rattle.px_parser.specs.declared.surface.SClaim.{SClaim}
use Rattle.px_parser.specs.declared.surface.SEquation.{SEquation}
use Rattle.px_parser.specs.declared.surface.SLemma.{SLemma}
use Rattle.px_parser.specs.declared.surface.SFun.{SFun}
use Rattle.px_parser.specs.declared.surface.SReplica.{SReplica}
use Rattle.px_parser.specs.Sizes.{type_size, type_depth, types_depth, expr_size, fn_type_size, param_kind_size, params_size, cons_size, data_size, def_size, claim_size, equation_size, equations_size, lemma_size, fun_size, funs_size, replica_size}
use Rattle.px_parser.specs.Sizes.{IsTypeWithin, IsExprWithin, IsFnTypeWithin, IsParamKindWithin, IsParamWithin, IsConWithin, IsDataWithin, IsDefWithin, IsEquationWithin, IsLemmaWithin, IsFunWithin, IsReplicaWithin}
use Rattle.px_parser.specs.SizeEquations.{largest_map-le, params_size-cons, cons_size-cons, equations_size-cons, funs_size-cons, length-le-params_size, length-le-cons_size, length-le-equations_size, length-le-funs_size}
use Rattle.px_scope.specs.declared.globals.Constructor.{Constructor}
use Rattle.px_scope.specs.declared.globals.Meaning.{Meaning}
use Rattle.px_scope.specs.declared.globals.Meaning.TheVariants as meaning
use Rattle.px_scope.specs.declared.globals.Globals.{Globals}
use Rattle.px_scope.specs.declared.locals.TypeLocals.{TypeLocals}
use Rattle.px_scope.specs.declared.locals.Locals.{Locals}
use Rattle.px_scope.specs.Standing.{no_parameters, nothing_local}
use Rattle.px_scope.specs.Names.{number_of}
use Rattle.px_scope.specs.Rules.{is_own, new_type_fault, new_constructor_fault, new_lower_fault, new_value_fault, new_function_fault}
use Rattle.px_scope.specs.Uses.{first_broken, type_uses, types_uses, Data, From, expr_uses, properties_uses, function_uses}
use Rattle.px_scope.specs.ItemUses.{type_parameters_uses, constructor_uses, constructors_uses, data_uses, fn_type_uses, parameter_uses_of, parameters_uses, definition_uses, equation_uses, lemma_uses, merge_uses, replica_uses}
use Rattle.px_scope.specs.Numbers.{IsTerm, IsFunction, AreFunctions}
use Rattle.px_scope.specs.Declaring.{texts, with_datatype, with_constructor_name, with_lower, functions_in, function_count, with_definition, with_parameter_of, with_parameter, type_locals, data_locals, first_locals, parameter_locals, body_locals}
use Rattle.px_scope.specs.Programs.{AreConstructors, IsData, IsFnType, AreParameters, IsDefinition, IsClaim, IsEquation, AreEquations, IsLemma, IsReplica}
use Rattle.px_scope.proofs.FineParts.{fine_front, fine_back, after_first}
use Rattle.px_scope.proofs.DataSteps.{types_uses_kept}
use Rattle.px_scope.proofs.DistinctProperties.{distinct_properties}
use Rattle.px_scope.proofs.OwnParameters.{IsOwn, distinct_parameters}
use Rattle.px_scope.proofs.FittingTypes.{types_few, no_own, fitting_type, fitting_types}
use Rattle.px_scope.proofs.TermSteps.{expr_uses_is}
use Rattle.px_scope.proofs.FittingTerms.{IsDefined, IsDefinitionIn, IsMeaningIn, IsNamedIn, AreGlobalsIn, AreLocalsIn, all_found, size_of_layer, depth_of_layer, fitting_function, fitting_argument, fitting_layer}
use Rattle.px_scope.proofs.GroundTerms.{from_is_data, from_is_ground}

-- what nests as in a text nests within the depth that the check of types takes
within_depth : {n : ℕ} → n ≤ NESTING → n ≤ WRITTEN_DEPTH
within_depth h = omega (arith, h)

-- each type of a list nests within the limit, and so does the deepest
types_within : (types : List SType) → All IsTypeWithin types → types_depth types ≤ WRITTEN_DEPTH
types_within types all = within_depth (largest_map-le type_depth NESTING types all)

-- as many constructors are numbered as are written
pub constructors_count : {G : Globals} {T : TypeLocals} {cons : List SCon} {cs : List RawCon} → AreConstructors G T cons cs → length cs ≡ length cons
constructors_count AreConstructors.none = refl
constructors_count (AreConstructors.more are is rest) = let others = constructors_count rest in omega arith

-- as many parameters are numbered as are written
parameters_count : {G : Globals} {T : TypeLocals} {ps : List SParam} {fs : List RawFnType} {ts : List RawTy} → AreParameters G T ps fs ts →
    length fs + length ts ≡ length ps
parameters_count AreParameters.none = refl
parameters_count (AreParameters.value kind is rest) = let others = parameters_count rest in omega arith
parameters_count (AreParameters.function kind is rest) = let others = parameters_count rest in omega arith

-- as many functions are numbered as there are function parameters
pub functions_are : {G : Globals} {T : TypeLocals} {ps : List SParam} {fs : List RawFnType} {ts : List RawTy} → AreParameters G T ps fs ts →
    length fs ≡ function_count ps
functions_are AreParameters.none = refl
functions_are (AreParameters.value {p = p} {ps = ps} kind is rest) =
    let here : functions_in p.kind ≡ 0 = ap functions_in kind in
    omega (arith, functions_are rest, sum_by-cons (λ (q : SParam). functions_in q.kind) p ps)
functions_are (AreParameters.function {p = p} {ps = ps} kind is rest) =
    let here : functions_in p.kind ≡ 1 = ap functions_in kind in
    omega (arith, functions_are rest, sum_by-cons (λ (q : SParam). functions_in q.kind) p ps)

-- as many equations are numbered as are written
equations_count : {G : Globals} {L : Locals} {es : List SEquation} {rs : List RawEquation} → AreEquations G L es rs → length rs ≡ length es
equations_count AreEquations.none = refl
equations_count (AreEquations.more is rest) = let others = equations_count rest in omega arith

-- as many functions are numbered as are written
functions_count : {G : Globals} {L : Locals} {fs : List SFun} {gs : List RawFun} → AreFunctions G L fs gs → length gs ≡ length fs
functions_count AreFunctions.none = refl
functions_count (AreFunctions.more is rest) = let others = functions_count rest in omega arith

-- a parameter adds no type parameter
types_stay : (L : Locals) (name : Name) (kind : SParamKind) → (with_parameter_of L name kind).types ≡ L.types
types_stay L name (param_kinds.Function f) = refl
types_stay L name (param_kinds.Value s) = refl

module _ (text : List Item) (G : Globals) (T : TypeLocals) where
  -- the type of a function breaks no rule
  function_fine : (L : Locals) (p : SParam) (f : SFnType) → p.kind ≡ param_kinds.Function f → L.types ≡ T →
      first_broken (parameter_uses_of text G L p.name p.kind) ≡ None → first_broken (fn_type_uses text G T f) ≡ None
  function_fine L p f kind same fine =
      let here = subst (λ k. first_broken (parameter_uses_of text G L p.name k) ≡ None) kind fine in
      subst (λ U. first_broken (fn_type_uses text G U f) ≡ None) same (after_first p.name (new_function_fault L p.name.text) (fn_type_uses text G L.types f) here)

  -- nor does the type of a value
  value_fine : (L : Locals) (p : SParam) (s : SType) → p.kind ≡ param_kinds.Value s → L.types ≡ T →
      first_broken (parameter_uses_of text G L p.name p.kind) ≡ None → first_broken (type_uses text G T s) ≡ None
  value_fine L p s kind same fine =
      let here = subst (λ k. first_broken (parameter_uses_of text G L p.name k) ≡ None) kind fine in
      subst (λ U. first_broken (type_uses text G U s) ≡ None) same (after_first p.name (new_value_fault L p.name.text) (type_uses text G L.types s) here)

module _ (text : List Item) (G : Globals) (T : TypeLocals) (R : Range) (datatypes : length G.datatypes ≤ R.datatypes) (tparams : length T.parameters ≤ R.tparams)
    (own : (n : ℕ) → R.own ≡ Some n → IsOwn T R n) where
  constructors_in : (H : Globals) → H.datatypes ≡ G.datatypes → {cons : List SCon} {cs : List RawCon} → AreConstructors G T cons cs →
      first_broken (constructors_uses text H T cons) ≡ None → All IsConWithin cons → cons_size cons < 2 ^ 32 → All (IsConIn R) cs
  constructors_in H same AreConstructors.none fine within small = All-nil (IsConIn R)
  constructors_in H same (AreConstructors.more {con = con} {cons = cons} {c = c} {cs = cs} are is rest) fine within small =
      let sizes = cons_size-cons con cons in
      let here = constructor_uses text H T con in
      let others = constructors_uses text (with_constructor_name H con) T cons in
      let own_fine = after_first con.name (new_constructor_fault H con.name.text) (types_uses text H T con.fields) (fine_front here others fine) in
      let fields_fine : first_broken (types_uses text G T con.fields) ≡ None = ap first_broken (sym (types_uses_kept G H T same text con.fields)) ∙ own_fine in
      All-cons (IsConIn R) c cs
      (subst (IsConIn R) (sym is) (record {
        few = types_few are (omega arith);
        fields = fitting_types text G T R datatypes tparams own WRITTEN_DEPTH are (λ n own_is. fields_fine) (types_within con.fields (All-head IsConWithin con cons within)) (omega arith);
      }))
      (constructors_in (with_constructor_name H con) same rest (fine_back here others fine) (All-tail IsConWithin con cons within) (omega arith))

  fn_type_in : (f : SFnType) (g : RawFnType) → IsFnType G T f g → first_broken (fn_type_uses text G T f) ≡ None → IsFnTypeWithin f → fn_type_size f < 2 ^ 32 → IsFnTypeIn R g
  fn_type_in f g is fine within small =
      let params_uses = types_uses text G T f.params in
      let result_uses = type_uses text G T f.result in
      let props_uses = properties_uses [] f.props in
      let rest = fine_back params_uses (result_uses ++ props_uses) fine in
      subst (IsFnTypeIn R) (sym is.is) (record {
        few_params = types_few is.are_params (omega arith);
        params = fitting_types text G T R datatypes tparams own WRITTEN_DEPTH is.are_params (λ n own_is. fine_front params_uses (result_uses ++ props_uses) fine)
            (types_within f.params within.params) (omega arith);
        result = fitting_type text G T R datatypes tparams own WRITTEN_DEPTH is.is_result (λ n own_is. fine_front result_uses props_uses rest) (within_depth within.result) (omega arith);
        few_props = omega arith;
        props = distinct_properties [] f.props (fine_back result_uses props_uses rest) AreDistinct.none;
      })

  functions_in_range : (L : Locals) → L.types ≡ T → {ps : List SParam} {fs : List RawFnType} {ts : List RawTy} → AreParameters G T ps fs ts →
      first_broken (parameters_uses text G L ps) ≡ None → All IsParamWithin ps → params_size ps < 2 ^ 32 → All (IsFnTypeIn R) fs
  functions_in_range L same AreParameters.none fine within small = All-nil (IsFnTypeIn R)
  functions_in_range L same (AreParameters.value {p = p} {ps = ps} kind is rest) fine within small =
      let here = parameter_uses_of text G L p.name p.kind in
      let others = parameters_uses text G (with_parameter L p) ps in
      functions_in_range (with_parameter L p) (types_stay L p.name p.kind ∙ same) rest (fine_back here others fine) (All-tail IsParamWithin p ps within)
      (omega (arith, params_size-cons p ps))
  functions_in_range L same (AreParameters.function {p = p} {ps = ps} {f = f} {g = g} {fs = fs} kind is rest) fine within small =
      let sizes = params_size-cons p ps in
      let size : param_kind_size p.kind ≡ fn_type_size f = ap param_kind_size kind in
      let here = parameter_uses_of text G L p.name p.kind in
      let others = parameters_uses text G (with_parameter L p) ps in
      All-cons (IsFnTypeIn R) g fs
      (fn_type_in f g is (function_fine text G T L p f kind same (fine_front here others fine)) (subst IsParamKindWithin kind (All-head IsParamWithin p ps within)) (omega arith))
      (functions_in_range (with_parameter L p) (types_stay L p.name p.kind ∙ same) rest (fine_back here others fine) (All-tail IsParamWithin p ps within) (omega arith))

  values_in : (L : Locals) → L.types ≡ T → {ps : List SParam} {fs : List RawFnType} {ts : List RawTy} → AreParameters G T ps fs ts →
      first_broken (parameters_uses text G L ps) ≡ None → All IsParamWithin ps → params_size ps < 2 ^ 32 → AreTypesIn R WRITTEN_DEPTH ts
  values_in L same AreParameters.none fine within small = AreTypesIn.no_types
  values_in L same (AreParameters.function {p = p} {ps = ps} kind is rest) fine within small =
      let here = parameter_uses_of text G L p.name p.kind in
      let others = parameters_uses text G (with_parameter L p) ps in
      values_in (with_parameter L p) (types_stay L p.name p.kind ∙ same) rest (fine_back here others fine) (All-tail IsParamWithin p ps within)
      (omega (arith, params_size-cons p ps))
  values_in L same (AreParameters.value {p = p} {ps = ps} {s = s} kind is rest) fine within small =
      let sizes = params_size-cons p ps in
      let size : param_kind_size p.kind ≡ type_size s = ap param_kind_size kind in
      let here = parameter_uses_of text G L p.name p.kind in
      let others = parameters_uses text G (with_parameter L p) ps in
      AreTypesIn.more_types
      (fitting_type text G T R datatypes tparams own WRITTEN_DEPTH is (λ n own_is. value_fine text G T L p s kind same (fine_front here others fine))
      (within_depth (subst IsParamKindWithin kind (All-head IsParamWithin p ps within))) (omega arith))
      (values_in (with_parameter L p) (types_stay L p.name p.kind ∙ same) rest (fine_back here others fine) (All-tail IsParamWithin p ps within) (omega arith))

  parameters_in : (L : Locals) → L.types ≡ T → {ps : List SParam} {fs : List RawFnType} {ts : List RawTy} → AreParameters G T ps fs ts →
      first_broken (parameters_uses text G L ps) ≡ None → All IsParamWithin ps → params_size ps < 2 ^ 32 → AreParametersIn R fs ts
  parameters_in L same {ps} are fine within small =
      let few = length-le-params_size ps in
      let count = parameters_count are in
      record {
        few_functions = omega arith;
        functions = functions_in_range L same are fine within small;
        few_values = omega arith;
        values = values_in L same are fine within small;
      }

-- What is local after so many functions and values more.
record IsLonger (L M : Locals) (funs types : ℕ) : Type 0 where
  same : M.types ≡ L.types
  functions : M.functions ≡ L.functions + funs
  values : M.values ≡ L.values + types
  names : length M.names ≡ length L.names + funs + types

longer_by_value : (L K M : Locals) (name : Name) (funs types : ℕ) → K ≡ record L { names = L.names ++ name.text ∷ []; values = L.values + 1 } →
    IsLonger K M funs types → IsLonger L M funs (types + 1)
longer_by_value L K M name funs types is longer =
    let count : length K.names ≡ length L.names + 1 = ap (λ (x : Locals). length x.names) is ∙ length-append L.names (name.text ∷ []) in
    let functions : K.functions ≡ L.functions = ap (λ (x : Locals). x.functions) is in
    let values : K.values ≡ L.values + 1 = ap (λ (x : Locals). x.values) is in
    record {
      same = longer.same ∙ ap (λ (x : Locals). x.types) is;
      functions = omega (arith, longer.functions);
      values = omega (arith, longer.values);
      names = omega (arith, longer.names);
    }

longer_by_function : (L K M : Locals) (name : Name) (funs types : ℕ) →
    K ≡ record L { names = L.names ++ name.text ∷ []; functions = L.functions + 1 } → IsLonger K M funs types → IsLonger L M (funs + 1) types
longer_by_function L K M name funs types is longer =
    let count : length K.names ≡ length L.names + 1 = ap (λ (x : Locals). length x.names) is ∙ length-append L.names (name.text ∷ []) in
    let functions : K.functions ≡ L.functions + 1 = ap (λ (x : Locals). x.functions) is in
    let values : K.values ≡ L.values = ap (λ (x : Locals). x.values) is in
    record {
      same = longer.same ∙ ap (λ (x : Locals). x.types) is;
      functions = omega (arith, longer.functions);
      values = omega (arith, longer.values);
      names = omega (arith, longer.names);
    }

counted : (L M : Locals) (a b c d : ℕ) → a ≡ c → b ≡ d → IsLonger L M a b → IsLonger L M c d
counted L M a b c d p q longer = subst (λ n. IsLonger L M n d) p (subst (IsLonger L M a) q longer)

after_parameters : {G : Globals} {T : TypeLocals} {ps : List SParam} {fs : List RawFnType} {ts : List RawTy} (L : Locals) →
    AreParameters G T ps fs ts → IsLonger L (fold with_parameter L ps) (length fs) (length ts)
after_parameters L AreParameters.none = record { same = refl; functions = omega arith; values = omega arith; names = omega arith }
after_parameters L (AreParameters.value {p = p} {ps = ps} {t = t} {fs = fs} {ts = ts} kind is rest) =
    counted L (fold with_parameter (with_parameter L p) ps) (length fs) (length ts + 1) (length fs) (length (t ∷ ts)) refl (omega arith)
    (longer_by_value L (with_parameter L p) (fold with_parameter (with_parameter L p) ps) p.name (length fs) (length ts)
    (ap (with_parameter_of L p.name) kind) (after_parameters (with_parameter L p) rest))
after_parameters L (AreParameters.function {p = p} {ps = ps} {g = g} {fs = fs} {ts = ts} kind is rest) =
    counted L (fold with_parameter (with_parameter L p) ps) (length fs + 1) (length ts) (length (g ∷ fs)) (length ts) (omega arith) refl
    (longer_by_function L (with_parameter L p) (fold with_parameter (with_parameter L p) ps) p.name (length fs) (length ts)
    (ap (with_parameter_of L p.name) kind) (after_parameters (with_parameter L p) rest))

-- what is local after the parameters may be named
locals_in : {G : Globals} {T : TypeLocals} {fs : List RawFnType} {ts : List RawTy} (R : Range) (own : Option ℕ) (tparams : List Name) (ps : List SParam) →
    AreParameters G T ps fs ts → length tparams ≤ R.tparams → length fs ≤ R.functions → length ts ≤ R.values → R.own ≡ None →
    ((n : ℕ) → n < R.called → is_own own n ≡ false → n < R.passed) → AreLocalsIn R 0 (record (parameter_locals tparams ps) { own_definition = own })
locals_in {fs = fs} {ts = ts} R own tparams ps are few_types few_functions few_values unowned passed =
    let longer = after_parameters (first_locals tparams) are in
    let types : length (parameter_locals tparams ps).types.parameters ≡ length tparams = ap (λ (T : TypeLocals). length T.parameters) longer.same ∙ length-map tparams (λ (n : Name). n.text) in
    record {
      unowned = unowned;
      passed = passed;
      tparams = omega arith;
      functions = omega (arith, longer.functions);
      values = omega (arith, longer.values);
      names = omega (arith, longer.names, longer.functions, longer.values);
    }

-- the same of a definition that is not being declared
still_local : (R : Range) (L M : Locals) → M.types ≡ L.types → M.functions ≡ L.functions → M.values ≡ L.values → M.names ≡ L.names → R.called ≤ R.passed →
    AreLocalsIn R 0 L → AreLocalsIn R 0 M
still_local R L M types functions values names passed locals = record {
  unowned = locals.unowned;
  passed = λ n called own. omega arith;
  tparams = omega (arith, locals.tparams, ap (λ (T : TypeLocals). length T.parameters) types);
  functions = omega (arith, locals.functions);
  values = omega (arith, locals.values);
  names = omega (arith, locals.names, ap length names);
}

-- nothing is local
nothing_in : (R : Range) → R.own ≡ None → R.called ≤ R.passed → AreLocalsIn R 0 nothing_local
nothing_in R unowned passed = record { unowned = unowned; passed = λ n called own. omega arith; tparams = omega arith; functions = omega arith; values = omega arith; names = omega arith }

-- The constructor is one of a datatype of the program.
pub record IsDeclared (P : RawProgram) (con : Constructor) : Type 0 where
  pub declared : RawData
  pub stands : slice_get P.datatypes con.datatype ≡ Some declared
  pub has : con.number < length declared.cons

-- the meaning is no definition, or one that stands in the program
abbrev pub IsMeaningOf : RawProgram → Meaning → Type 0
IsMeaningOf P meaning.Wle = Unit {0}
IsMeaningOf P meaning.Weq = Unit {0}
IsMeaningOf P (meaning.Definition n functions) = IsDefined P n functions
IsMeaningOf P meaning.Lemma = Unit {0}
IsMeaningOf P meaning.Replica = Unit {0}

-- What is declared stands in the program.
pub record Agrees (G : Globals) (P : RawProgram) : Type 0 where
  pub types : length G.datatypes ≡ length P.datatypes
  pub definitions : length G.claimed ≡ length P.defs
  pub constructors : All (IsDeclared P) G.constructors
  pub meanings : All (IsMeaningOf P) G.meanings

-- what stands in the first list stands in the other at the same place
abbrev pub IsFront : {A : Type 0} → List A → List A → Type 0
IsFront {A} xs ys = (n : ℕ) (x : A) → slice_get xs n ≡ Some x → slice_get ys n ≡ Some x

-- the declarations of a program are so many
abbrev pub counts_of : RawProgram → Counts
counts_of P = record { datatypes = length P.datatypes; defs = length P.defs; claims = length P.claims; lemmas = length P.lemmas; replicas = length P.replicas }

-- a definition of a program is one of a longer program
pub still_defined : (P Q : RawProgram) → IsFront P.defs Q.defs → (n functions : ℕ) → IsDefined P n functions → IsDefined Q n functions
still_defined P Q front n functions is = record { declared = is.declared; stands = front n is.declared is.stands; count = is.count }

-- a meaning of a program may be named where its definitions may be called
meaning_in_range : (P Q : RawProgram) (R : Range) → IsFront P.defs Q.defs → length P.defs ≤ R.called → (m : Meaning) → IsMeaningOf P m → IsMeaningIn Q R m
meaning_in_range P Q R front defs meaning.Wle is = tt
meaning_in_range P Q R front defs meaning.Weq is = tt
meaning_in_range P Q R front defs (meaning.Definition n functions) is = record {
  called = omega (arith, slice_get_within P.defs n is.declared is.stands);
  stands = λ below. still_defined P Q front n functions is;
}
meaning_in_range P Q R front defs meaning.Lemma is = tt
meaning_in_range P Q R front defs meaning.Replica is = tt

-- what is declared may be named
globals_in : (G : Globals) (P Q : RawProgram) (R : Range) → Agrees G P → IsFront P.datatypes Q.datatypes → IsFront P.defs Q.defs →
    length P.datatypes ≤ R.datatypes → length P.defs ≤ R.called → AreGlobalsIn Q R G
globals_in G P Q R agrees front front_defs types defs = record {
  datatypes = omega (arith, agrees.types);
  constructors = All-weaker (IsDeclared P) (IsNamedIn Q R) (λ con is. record {
    declared = is.declared;
    below = omega (arith, slice_get_within P.datatypes con.datatype is.declared is.stands);
    stands = front con.datatype is.declared is.stands;
    has = is.has;
  }) G.constructors agrees.constructors;
  meanings = All-weaker (IsMeaningOf P) (IsMeaningIn Q R) (meaning_in_range P Q R front_defs defs) G.meanings agrees.meanings;
}

-- one name more
lower_in : (G : Globals) (Q : RawProgram) (R : Range) → AreGlobalsIn Q R G → (name : Name) (m : Meaning) → IsMeaningIn Q R m →
    AreGlobalsIn Q R (with_lower G name m)
lower_in G Q R globals name m is = record {
  datatypes = globals.datatypes;
  constructors = globals.constructors;
  meanings = All-push (IsMeaningIn Q R) G.meanings m globals.meanings is;
}

module _ (text : List Item) (H : Globals) (Q : RawProgram) (R : Range) (globals : AreGlobalsIn Q R H) (L : Locals) (locals : AreLocalsIn R 0 L) where
  term_in : (e : SExpr) (t : RawTerm) → IsTerm H L e t → first_broken (expr_uses text H e Data L) ≡ None → IsExprWithin e → expr_size e < 2 ^ 32 → IsWholeTermIn Q R t
  term_in e t is fine within small =
      fitting_layer text H Q R globals WRITTEN_DEPTH 0 locals is (ap first_broken (sym (expr_uses_is text H e Data L)) ∙ fine)
      (omega (arith, depth_of_layer e)) (omega (arith, size_of_layer e))

  equation_in : (e : SEquation) (r : RawEquation) → IsEquation H L e r → first_broken (equation_uses text H L e) ≡ None → IsEquationWithin e →
      equation_size e < 2 ^ 32 → IsEquationIn Q R r
  equation_in e r is fine within small =
      let left = expr_uses text H e.left Data L in
      let right = expr_uses text H e.right Data L in
      subst (IsEquationIn Q R) (sym is.is) (record {
        left = term_in e.left is.left is.is_left (fine_front left right fine) within.left (omega arith);
        right = term_in e.right is.right is.is_right (fine_back left right fine) within.right (omega arith);
      })

  equations_in : {es : List SEquation} {rs : List RawEquation} → AreEquations H L es rs → first_broken (flat_map (equation_uses text H L) es) ≡ None →
      All IsEquationWithin es → equations_size es < 2 ^ 32 → All (IsEquationIn Q R) rs
  equations_in AreEquations.none fine within small = All-nil (IsEquationIn Q R)
  equations_in (AreEquations.more {e = e} {es = es} {r = r} {rs = rs} is rest) fine within small =
      let sizes = equations_size-cons e es in
      let here = equation_uses text H L e in
      let others = flat_map (equation_uses text H L) es in
      All-cons (IsEquationIn Q R) r rs
      (equation_in e r is (fine_front here others fine) (All-head IsEquationWithin e es within) (omega arith))
      (equations_in rest (fine_back here others fine) (All-tail IsEquationWithin e es within) (omega arith))

  function_in : (s : SFun) (f : RawFun) → IsFunction H L s f → IsFunWithin s → fun_size s < 2 ^ 32 → IsFunIn R WRITTEN_DEPTH f
  function_in s f is within small = fitting_function text H Q R globals WRITTEN_DEPTH 0 L locals s f is (types_within s.args within) (omega arith)

  named_functions_in : {ss : List SFun} {fs : List RawFun} → AreFunctions H L ss fs → first_broken (flat_map (function_uses text H L) ss) ≡ None →
      All IsFunWithin ss → funs_size ss < 2 ^ 32 → All (IsArgumentIn Q R WRITTEN_DEPTH) fs
  named_functions_in AreFunctions.none fine within small = All-nil (IsArgumentIn Q R WRITTEN_DEPTH)
  named_functions_in (AreFunctions.more {f = s} {fs = ss} {g = f} {gs = fs} is rest) fine within small =
      let sizes = funs_size-cons s ss in
      let here = function_uses text H L s in
      let others = flat_map (function_uses text H L) ss in
      All-cons (IsArgumentIn Q R WRITTEN_DEPTH) f fs
      (fitting_argument text H Q R globals WRITTEN_DEPTH 0 L locals s f is (fine_front here others fine) (types_within s.args (All-head IsFunWithin s ss within)) (omega arith))
      (named_functions_in rest (fine_back here others fine) (All-tail IsFunWithin s ss within) (omega arith))

-- all but the last, and the last
all_but_last : {A : Type 0} (F : A → Type 0) (xs : List A) (x : A) → All F (xs ++ x ∷ []) → All F xs × F x
all_but_last F [] x all = (All-nil F, All-head F x [] all)
all_but_last F (y ∷ xs) x all =
    let others = all_but_last F xs x (All-tail F y (xs ++ x ∷ []) all) in
    (All-cons F y xs (All-head F y (xs ++ x ∷ []) all) others.0, others.1)

-- a number that is not the last is below it
not_last : (own n last : ℕ) → own ≡ last → n < last + 1 → (own ≡ n → ⊥) → n < last
not_last own n last is called other = grind arith

module _ (text : List Item) (G : Globals) (P Q : RawProgram) (agrees : Agrees G P) (front : IsFront P.datatypes Q.datatypes) (front_defs : IsFront P.defs Q.defs) where
  -- a datatype
  pub data_in : (d : SData) (raw : RawData) → IsData G d raw → first_broken (data_uses text G d) ≡ None → 0 < length d.cons → IsDataWithin d →
      data_size d < 2 ^ 32 → IsDataIn (counts_of P) raw
  data_in d raw is fine some within small =
      let few = length-le-cons_size d.cons in
      let count = constructors_count is.are_constructors in
      let H = with_datatype G d.name in
      let T = data_locals (length G.datatypes) d.tparams in
      let result : RawData = record { at = d.name.at; tparams = length d.tparams; cons = is.cons } in
      let R = own_range (counts_of P) result in
      let tparams_uses = type_parameters_uses H no_parameters d.tparams in
      let cons_uses = constructors_uses text H T d.cons in
      let rest = after_first d.name (new_type_fault G d.name.text) (tparams_uses ++ cons_uses) fine in
      let names : length (texts d.tparams) ≡ length d.tparams = length-map d.tparams (λ (n : Name). n.text) in
      let own : (n : ℕ) → R.own ≡ Some n → IsOwn T R n = λ n own_is. record {
        own = let same : length P.datatypes ≡ n = cc in ap Some (agrees.types ∙ same);
        tparams = sym names;
        few = omega arith;
        distinct = distinct_parameters H no_parameters d.tparams (fine_front tparams_uses cons_uses rest) AreDistinct.none;
      } in
      subst (IsDataIn (counts_of P)) (sym is.is) (record {
        some = omega arith;
        few = omega arith;
        cons = constructors_in text H T R
            (omega (arith, agrees.types, length-append G.datatypes (d.name.text ∷ [])))
            (omega arith)
            own H refl is.are_constructors (fine_back tparams_uses cons_uses rest) within (omega arith);
      })

  -- a definition
  pub def_in : (d : SDef) (raw : RawDef) → IsDefinition G d raw → first_broken (definition_uses text G d) ≡ None → IsDefWithin d →
      def_size d < 2 ^ 32 → IsDefIn Q (counts_of P) raw
  def_in d raw is fine within small =
      let result : RawDef = record { at = d.name.at; tparams = length d.tparams; funs = is.funs; params = is.params; result = is.type; body = is.body; props = d.props } in
      let S = type_range (length P.datatypes) (length d.tparams) in
      let R = body_range (counts_of P) result in
      let own = length G.claimed in
      let H = with_definition G d in
      let tparams_uses = type_parameters_uses G no_parameters d.tparams in
      let params_uses = parameters_uses text G (first_locals d.tparams) d.params in
      let result_uses = type_uses text G (type_locals d.tparams) d.result in
      let props_uses = properties_uses [] d.props in
      let body_uses = expr_uses text H d.body Data (body_locals own d) in
      let after_head = result_uses ++ (props_uses ++ body_uses) in
      let all_fine = after_first d.name (new_lower_fault G d.name.text) ((tparams_uses ++ params_uses) ++ after_head) fine in
      let params_fine = fine_back tparams_uses params_uses (fine_front (tparams_uses ++ params_uses) after_head all_fine) in
      let after_fine = fine_back (tparams_uses ++ params_uses) after_head all_fine in
      let body_fine = fine_back props_uses body_uses (fine_back result_uses (props_uses ++ body_uses) after_fine) in
      let types : length G.datatypes ≤ S.datatypes = omega (arith, agrees.types) in
      let tparams : length (texts d.tparams) ≤ S.tparams = omega (arith, length-map d.tparams (λ (n : Name). n.text)) in
      let passed : (n : ℕ) → n < length P.defs + 1 → is_own (Some own) n ≡ false → n < length P.defs = λ n called other. not_last own n (length P.defs) agrees.definitions called (eqb-false own n other) in
      let locals : AreLocalsIn R 0 (body_locals own d) =
      locals_in R (Some own) d.tparams d.params is.are_parameters (omega arith) (omega arith) (omega arith) refl passed in
      let before : AreGlobalsIn Q R G = globals_in G P Q R agrees front front_defs (omega arith) (omega arith) in
      let itself : IsDefinitionIn Q R own (function_count d.params) = record { called = omega (arith, agrees.definitions); stands = λ below. absurd (omega (arith, agrees.definitions)) } in
      let globals : AreGlobalsIn Q R H = lower_in G Q R before d.name (meaning.Definition own (function_count d.params)) itself in
      subst (IsDefIn Q (counts_of P)) (sym is.is) (record {
        parameters = parameters_in text G (type_locals d.tparams) S types tparams (no_own S refl _) (first_locals d.tparams) refl is.are_parameters params_fine within.params (omega arith);
        result = fitting_type text G (type_locals d.tparams) S types tparams (no_own S refl _) WRITTEN_DEPTH is.is_result (no_own S refl _) (within_depth within.result) (omega arith);
        body = term_in text H Q R globals (body_locals own d) locals d.body is.body is.is_body body_fine within.body (omega arith);
        few_props = omega arith;
      })

  -- a claim
  pub claim_in : (c : SClaim) (raw : RawClaim) → IsClaim G c raw → claim_size c < 2 ^ 32 → IsClaimIn (counts_of P) raw
  claim_in c raw is small =
      let known : IsDefined P is.number is.functions =
      all_found (IsMeaningOf P) G.meanings (number_of G.lowers c.name.text) (meaning.Definition is.number is.functions) agrees.meanings is.stands in
      subst (IsClaimIn (counts_of P)) (sym is.is) (record { below = slice_get_within P.defs is.number known.declared known.stands; few_props = omega arith })

  -- a lemma
  pub lemma_in : (l : SLemma) (raw : RawLemma) → IsLemma G l raw → first_broken (lemma_uses text G l) ≡ None → IsLemmaWithin l → lemma_size l < 2 ^ 32 →
      IsLemmaIn Q (counts_of P) raw
  lemma_in l raw is fine within small =
      let result : RawLemma = record { at = l.name.at; tparams = length l.tparams; funs = is.funs; vars = is.vars; premises = is.premises; conclusion = is.conclusion } in
      let S = type_range (length P.datatypes) (length l.tparams) in
      let R = lemma_range (counts_of P) result in
      let H = with_lower G l.name meaning.Lemma in
      let L = parameter_locals l.tparams l.params in
      let tparams_uses = type_parameters_uses G no_parameters l.tparams in
      let params_uses = parameters_uses text G (first_locals l.tparams) l.params in
      let sides_uses = flat_map (equation_uses text H L) l.equations in
      let all_fine = after_first l.name (new_lower_fault G l.name.text) ((tparams_uses ++ params_uses) ++ sides_uses) fine in
      let params_fine = fine_back tparams_uses params_uses (fine_front (tparams_uses ++ params_uses) sides_uses all_fine) in
      let sides_fine = fine_back (tparams_uses ++ params_uses) sides_uses all_fine in
      let types : length G.datatypes ≤ S.datatypes = omega (arith, agrees.types) in
      let tparams : length (texts l.tparams) ≤ S.tparams = omega (arith, length-map l.tparams (λ (n : Name). n.text)) in
      let with_none = locals_in R None l.tparams l.params is.are_parameters (omega arith) (omega arith) (omega arith) refl (λ n called own. called) in
      let locals : AreLocalsIn R 0 L = still_local R (record L { own_definition = None }) L refl refl refl refl (omega arith) with_none in
      let globals : AreGlobalsIn Q R H = lower_in G Q R (globals_in G P Q R agrees front front_defs (omega arith) (omega arith)) l.name meaning.Lemma tt in
      let all = equations_in text H Q R globals L locals is.are_equations sides_fine within.equations (omega arith) in
      let both = all_but_last (IsEquationIn Q R) is.premises is.conclusion all in
      let count = equations_count is.are_equations in
      subst (IsLemmaIn Q (counts_of P)) (sym is.is) (record {
        parameters = parameters_in text G (type_locals l.tparams) S types tparams (no_own S refl _) (first_locals l.tparams) refl is.are_parameters params_fine within.params (omega arith);
        few_premises = omega (arith, length-append is.premises (is.conclusion ∷ []), length-le-equations_size l.equations);
        premises = both.0;
        conclusion = both.1;
      })

  -- a replica
  pub replica_in : (r : SReplica) (raw : RawReplica) → IsReplica G r raw → first_broken (replica_uses text G r) ≡ None → IsReplicaWithin r →
      replica_size r < 2 ^ 32 → IsReplicaIn Q (counts_of P) raw
  replica_in r raw is fine within small =
      let R = replica_range (counts_of P) in
      let H = with_lower G r.name meaning.Replica in
      let state_uses = type_uses text G no_parameters r.state in
      let value_uses = expr_uses text H r.from From nothing_local in
      let merges_uses = merge_uses text H r.merge in
      let funs_uses = flat_map (function_uses text H nothing_local) r.funs in
      let all_fine = after_first r.name (new_lower_fault G r.name.text) (state_uses ++ (value_uses ++ (merges_uses ++ funs_uses))) fine in
      let after_state = fine_back state_uses (value_uses ++ (merges_uses ++ funs_uses)) all_fine in
      let value_fine = fine_front value_uses (merges_uses ++ funs_uses) after_state in
      let funs_fine = fine_back merges_uses funs_uses (fine_back value_uses (merges_uses ++ funs_uses) after_state) in
      let globals : AreGlobalsIn Q R H = lower_in G Q R (globals_in G P Q R agrees front front_defs (omega arith) (omega arith)) r.name meaning.Replica tt in
      let locals = nothing_in R refl (omega arith) in
      subst (IsReplicaIn Q (counts_of P)) (sym is.is) (record {
        state = fitting_type text G no_parameters R (omega (arith, agrees.types)) (omega arith) (no_own R refl _) WRITTEN_DEPTH is.is_state (no_own R refl _) (within_depth within.state) (omega arith);
        from = term_in text H Q R globals nothing_local locals r.from is.from is.is_from (from_is_data text H nothing_local r.from is.from is.is_from value_fine) within.from (omega arith);
        ground = from_is_ground text H nothing_local r.from is.from is.is_from value_fine;
        merge = function_in text H Q R globals nothing_local locals r.merge is.merge is.is_merge within.merge (omega arith);
        few_funs = omega (arith, functions_count is.are_functions, length-le-funs_size r.funs);
        funs = named_functions_in text H Q R globals nothing_local locals is.are_functions funs_fine within.funs (omega arith);
      })
