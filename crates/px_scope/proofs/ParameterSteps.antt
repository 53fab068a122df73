-- Type parameters and parameters, one after the other.
use Rattle.std.proofs.Common.{◌≡◌, ℕ, ◌+◌, ◌<◌, ◌≤◌, Bool, true, false, not, List, [], ◌∷◌, ◌++◌, length, take, get_or, None, Result, refl, sym, ap, ◌∙◌, subst, append_assoc, arith}
use Rattle.std.specs.Prelude.{if◌then◌else◌}
use Rattle.std.specs.List.{fold}
use Rattle.std.specs.Result.{IsErrAnd}
use Rattle.std.proofs.lemmas.List.{take_more, append-nil}
use Rattle.px_base.specs.declared.prop.Prop.{Prop}
use Rattle.px_base.specs.declared.raw.RawProp.{RawProp}
use Rattle.px_base.specs.declared.raw.RawTy.{RawTy}
use Rattle.px_base.specs.declared.raw.RawFnType.{RawFnType}
use Rattle.px_parser.specs.declared.surface.Item.{Item}
use Rattle.px_parser.specs.declared.surface.Name.{Name}
use Rattle.px_parser.specs.declared.surface.SType.{SType}
use Rattle.px_parser.specs.declared.surface.SFnType.{SFnType}
use Rattle.px_parser.specs.declared.surface.SParam.{SParam}
use Rattle.px_parser.specs.declared.surface.SParamKind.TheVariants as param_kinds
use Rattle.px_scope.specs.declared.ends.ScopeKind.TheVariants.{Repeated}
use Rattle.px_scope.specs.declared.ends.ScopeEnd.{ScopeEnd}
use Rattle.px_scope.specs.declared.ends.ScopeEnd.TheVariants.{Fault}
use Rattle.px_scope.specs.declared.globals.Globals.{Globals}
use Rattle.px_scope.specs.declared.locals.TypeLocals.{TypeLocals}
use Rattle.px_scope.specs.declared.locals.Locals.{Locals}
use Rattle.px_scope.specs.Names.{is_name}
use Rattle.px_scope.specs.Standing.{no_parameters}
use Rattle.px_scope.specs.Rules.{is_type_name, new_parameter_fault, new_value_fault, new_function_fault}
use Rattle.px_scope.specs.Uses.{Use, use_of, first_broken, broken_or, type_uses, types_uses, properties_uses}
use Rattle.px_scope.specs.Declaring.{texts, type_locals, with_type_parameter, with_parameter_of, with_parameter}
use Rattle.px_scope.specs.Numbers.{IsType, AreTypes}
use Rattle.px_scope.specs.Programs.{IsFnType, AreParameters, none, value, function}
use Rattle.px_scope.specs.ItemUses.{type_parameters_uses, fn_type_uses, parameter_uses_of, parameters_uses}
use Rattle.px_scope.specs.Answers.{Fails, Fine, Resolves}
use Rattle.px_scope.proofs.Firsts.{fine_first, fine_both, fails_first, fails_later, fails_front, fails_back, passed_on}
use Rattle.px_scope.proofs.StateSteps.{Reached, reached_next, reached_broken, reached_fails, reached_all}

-- the use of one type parameter more
abbrev pub type_parameter_use : Globals → TypeLocals → Name → List Use
type_parameter_use G T p = use_of p (new_parameter_fault G T p.text) ∷ []

module _ (G : Globals) (T : TypeLocals) (names : List Name) (i : ℕ) (now : TypeLocals) (x : Name) (text : List ℕ) (within : i < length names) (at : x ≡ get_or names i x) (reached : Reached with_type_parameter (type_parameter_use G) T (take i names) now) (same : text ≡ x.text) where
  -- one type parameter more has a new name
  pub type_parameters_next : (known is_new : Bool) (added : List (List ℕ)) → known ≡ is_type_name G text → known ≡ false → added ≡ (if is_new then now.parameters ++ text ∷ [] else now.parameters) → is_name now.parameters text ≡ not is_new → is_new ≡ true → Reached with_type_parameter (type_parameter_use G) T (take (i + 1) names) (record { parameters = added; own = now.own })
  type_parameters_next known is_new added is no_type add is_old new =
      let here : added ≡ now.parameters ++ x.text ∷ [] = rw (add, new, same) refl in
      let untyped : is_type_name G x.text ≡ false = rw (← same) (sym is ∙ no_type) in
      let unnamed : is_name now.parameters x.text ≡ false = rw (← same) (is_old ∙ ap not new) in
      reached_next with_type_parameter (type_parameter_use G) T names i now x (record { parameters = added; own = now.own }) within at reached (rw (untyped, unnamed) refl) (ap (λ (ps : List (List ℕ)). record now { parameters = ps }) here)

  -- the name is that of a type
  pub type_parameter_is_type : (known : Bool) (end : ScopeEnd) → known ≡ is_type_name G text → known ≡ true → end ≡ Fault Repeated x.at → Fails (first_broken (type_parameters_uses G T names)) end
  type_parameter_is_type known end is typed fault =
      let found : is_type_name G x.text ≡ true = rw (← same) (sym is ∙ typed) in
      reached_broken with_type_parameter (type_parameter_use G) T names i now x end within at reached (rw (fault, found) refl)

  -- the name is that of a type parameter
  pub type_parameter_repeats : (known is_new : Bool) (end : ScopeEnd) → known ≡ is_type_name G text → known ≡ false → is_name now.parameters text ≡ not is_new → is_new ≡ false → end ≡ Fault Repeated x.at → Fails (first_broken (type_parameters_uses G T names)) end
  type_parameter_repeats known is_new end is no_type is_old old fault =
      let untyped : is_type_name G x.text ≡ false = rw (← same) (sym is ∙ no_type) in
      let named : is_name now.parameters x.text ≡ true = rw (← same) (is_old ∙ ap not old) in
      reached_broken with_type_parameter (type_parameter_use G) T names i now x end within at reached (rw (fault, untyped, named) refl)

-- all type parameters have new names
pub type_parameters_all : (G : Globals) (T : TypeLocals) (names : List Name) (i : ℕ) (now : TypeLocals) → length names ≤ i → Reached with_type_parameter (type_parameter_use G) T (take i names) now → Fine (type_parameters_uses G T names) (λ (u : Unit {0}). now ≡ fold with_type_parameter T names) tt
type_parameters_all G T names i now ends reached =
    let all = reached_all with_type_parameter (type_parameter_use G) T names i now ends reached in
    (all.fine, all.is)

module _ (text : List Item) (G : Globals) (T : TypeLocals) (f : SFnType) where
  -- the types of a function type's parameters fail
  pub fn_type_params_fail : {Z : Type 0} (Is : Z → Type 0) (ss : List SType) (r : Result Z ScopeEnd) (end : ScopeEnd) → IsErrAnd r (λ e. e ≡ end) → ss ≡ f.params → Fails (first_broken (types_uses text G T ss)) end → Resolves (fn_type_uses text G T f) Is r
  fn_type_params_fail Is ss r end is same fails =
      passed_on Is (fn_type_uses text G T f) r end is (fails_front (types_uses text G T f.params) (type_uses text G T f.result ++ properties_uses [] f.props) end (subst (λ ts. Fails (first_broken (types_uses text G T ts)) end) same fails))

  -- its result's type fails
  pub fn_type_result_fails : {Z : Type 0} (Is : Z → Type 0) (ss : List SType) (r : Result Z ScopeEnd) (end : ScopeEnd) → IsErrAnd r (λ e. e ≡ end) → ss ≡ f.params → first_broken (types_uses text G T ss) ≡ None → Fails (first_broken (type_uses text G T f.result)) end → Resolves (fn_type_uses text G T f) Is r
  fn_type_result_fails Is ss r end is same fine fails =
      passed_on Is (fn_type_uses text G T f) r end is (fails_back (types_uses text G T f.params) (type_uses text G T f.result ++ properties_uses [] f.props) end (subst (λ ts. first_broken (types_uses text G T ts) ≡ None) same fine) (fails_front (type_uses text G T f.result) (properties_uses [] f.props) end fails))

  -- its properties fail
  pub fn_type_props_fail : {Z : Type 0} (Is : Z → Type 0) (ss : List SType) (claimed : List Prop) (props : List RawProp) (r : Result Z ScopeEnd) (end : ScopeEnd) → IsErrAnd r (λ e. e ≡ end) → ss ≡ f.params → first_broken (types_uses text G T ss) ≡ None → first_broken (type_uses text G T f.result) ≡ None → claimed ≡ [] → props ≡ f.props → Fails (first_broken (properties_uses claimed props)) end → Resolves (fn_type_uses text G T f) Is r
  fn_type_props_fail Is ss claimed props r end is same fine result_fine empty all fails =
      let props_fail : Fails (first_broken (properties_uses [] f.props)) end = subst (λ ps. Fails (first_broken (properties_uses [] ps)) end) all (subst (λ cs. Fails (first_broken (properties_uses cs props)) end) empty fails) in
      passed_on Is (fn_type_uses text G T f) r end is (fails_back (types_uses text G T f.params) (type_uses text G T f.result ++ properties_uses [] f.props) end (subst (λ ts. first_broken (types_uses text G T ts) ≡ None) same fine) (fails_back (type_uses text G T f.result) (properties_uses [] f.props) end result_fine props_fail))

  -- a function type, where its parts are known
  pub fn_type_fine : (ss : List SType) (ts : List RawTy) (t : RawTy) (claimed : List Prop) (props copied copy : List RawProp) → ss ≡ f.params → Fine (types_uses text G T ss) (AreTypes G T ss) ts → Fine (type_uses text G T f.result) (IsType G T f.result) t → claimed ≡ [] → props ≡ f.props → first_broken (properties_uses claimed props) ≡ None → copied ≡ f.props → copy ≡ copied → Fine (fn_type_uses text G T f) (IsFnType G T f) (record { params = ts; result = t; props = copy })
  fn_type_fine ss ts t claimed props copied copy same (fine, are) (result_fine, is) empty all props_fine from copies =
      let props_are_fine : first_broken (properties_uses [] f.props) ≡ None = subst (λ ps. first_broken (properties_uses [] ps) ≡ None) all (subst (λ cs. first_broken (properties_uses cs props) ≡ None) empty props_fine) in
      let params_are_fine : first_broken (types_uses text G T f.params) ≡ None = subst (λ xs. first_broken (types_uses text G T xs) ≡ None) same fine in (
        fine_both (types_uses text G T f.params) (type_uses text G T f.result ++ properties_uses [] f.props) params_are_fine (fine_both (type_uses text G T f.result) (properties_uses [] f.props) result_fine props_are_fine),
        record {
          params = ts;
          type = t;
          are_params = subst (λ xs. AreTypes G T xs ts) same are;
          is_result = is;
          is = ap (λ (ps : List RawProp). record { params = ts; result = t; props = ps }) (copies ∙ from);
        },
      )

-- the names in one parameter more
abbrev pub parameter_use : List Item → Globals → Locals → SParam → List Use
parameter_use text G L p = parameter_uses_of text G L p.name p.kind

-- The first parameters, so many, break no rule, and are these functions and these values.
pub record AreParametersSoFar (text : List Item) (G : Globals) (L : Locals) (params : List SParam) (i : ℕ) (now : Locals) (funs : List RawFnType) (values : List RawTy) : Type 0 where
  pub reached : Reached with_parameter (parameter_use text G) L (take i params) now
  pub are : AreParameters G L.types (take i params) funs values
  pub same_types : now.types ≡ L.types
  pub few_functions : now.functions ≤ i
  pub few_values : now.values ≤ i

-- one function more
pub parameters_push_function : (G : Globals) (T : TypeLocals) (ps : List SParam) (fs : List RawFnType) (ts : List RawTy) (p : SParam) (f : SFnType) (g : RawFnType) → AreParameters G T ps fs ts → p.kind ≡ param_kinds.Function f → IsFnType G T f g → AreParameters G T (ps ++ p ∷ []) (fs ++ g ∷ []) ts
parameters_push_function G T _ _ _ p f g none kind is = function kind is none
parameters_push_function G T _ _ _ p f g (value {ps = ps} {fs = fs} {ts = ts} first type others) kind is = value first type (parameters_push_function G T ps fs ts p f g others kind is)
parameters_push_function G T _ _ _ p f g (function {ps = ps} {fs = fs} {ts = ts} first type others) kind is = function first type (parameters_push_function G T ps fs ts p f g others kind is)

-- one value more
pub parameters_push_value : (G : Globals) (T : TypeLocals) (ps : List SParam) (fs : List RawFnType) (ts : List RawTy) (p : SParam) (s : SType) (t : RawTy) → AreParameters G T ps fs ts → p.kind ≡ param_kinds.Value s → IsType G T s t → AreParameters G T (ps ++ p ∷ []) fs (ts ++ t ∷ [])
parameters_push_value G T _ _ _ p s t none kind is = value kind is none
parameters_push_value G T _ _ _ p s t (value {ps = ps} {fs = fs} {ts = ts} first type others) kind is = value first type (parameters_push_value G T ps fs ts p s t others kind is)
parameters_push_value G T _ _ _ p s t (function {ps = ps} {fs = fs} {ts = ts} first type others) kind is = function first type (parameters_push_value G T ps fs ts p s t others kind is)

module _ (text : List Item) (G : Globals) (L : Locals) (params : List SParam) (i : ℕ) (now : Locals) (funs : List RawFnType) (values : List RawTy) (p : SParam) (within : i < length params) (at : p ≡ get_or params i p) (so_far : AreParametersSoFar text G L params i now funs values) where
  one_more : take (i + 1) params ≡ take i params ++ p ∷ []
  one_more = take_more params i p within ∙ ap (λ q. take i params ++ q ∷ []) (sym at)

  module _ (f : SFnType) (kind : p.kind ≡ param_kinds.Function f) where
    function_uses : parameter_use text G now p ≡ use_of p.name (new_function_fault now p.name.text) ∷ fn_type_uses text G now.types f
    function_uses = ap (parameter_uses_of text G now p.name) kind

    -- a function's name fails
    pub function_name_fails : {Z : Type 0} (Is : Z → Type 0) (r : Result Z ScopeEnd) (end : ScopeEnd) → IsErrAnd r (λ e. e ≡ end) → Fails (broken_or p.name.at (new_function_fault now p.name.text) None) end → Resolves (parameters_uses text G L params) Is r
    function_name_fails Is r end is fails =
        reached_fails with_parameter (parameter_use text G) L params i now Is p r end within at so_far.reached is (subst (λ us. Fails (first_broken us) end) (sym function_uses) (fails_first p.name.at (new_function_fault now p.name.text) (fn_type_uses text G now.types f) end fails))

    module _ (later : Locals) (fault : new_function_fault now p.name.text ≡ None) (is_later : later ≡ record now { names = now.names ++ p.name.text ∷ []; functions = now.functions + 1 }) where
      function_types : later.types ≡ now.types
      function_types = ap (λ (M : Locals). M.types) is_later

      -- a function's type fails
      pub function_type_fails : {Z : Type 0} (Is : Z → Type 0) (r : Result Z ScopeEnd) (end : ScopeEnd) → IsErrAnd r (λ e. e ≡ end) → Fails (first_broken (fn_type_uses text G later.types f)) end → Resolves (parameters_uses text G L params) Is r
      function_type_fails Is r end is fails =
          let here : Fails (first_broken (fn_type_uses text G now.types f)) end = subst (λ T. Fails (first_broken (fn_type_uses text G T f)) end) function_types fails in
          reached_fails with_parameter (parameter_use text G) L params i now Is p r end within at so_far.reached is (subst (λ us. Fails (first_broken us) end) (sym function_uses) (fails_later p.name.at (new_function_fault now p.name.text) (fn_type_uses text G now.types f) end fault here))

      -- one function more
      pub function_next : (g : RawFnType) (out : List RawFnType) → Fine (fn_type_uses text G later.types f) (IsFnType G later.types f) g → out ≡ funs ++ g ∷ [] → AreParametersSoFar text G L params (i + 1) later out values
      function_next g out (fine, is) pushed = record {
        reached = reached_next with_parameter (parameter_use text G) L params i now p later within at so_far.reached (subst (λ us. first_broken us ≡ None) (sym function_uses) (fine_first p.name.at (new_function_fault now p.name.text) (fn_type_uses text G now.types f) fault (subst (λ T. first_broken (fn_type_uses text G T f) ≡ None) function_types fine))) (is_later ∙ ap (with_parameter_of now p.name) (sym kind));
        are = rw (one_more, pushed) (parameters_push_function G L.types (take i params) funs values p f g so_far.are kind (subst (λ T. IsFnType G T f g) (function_types ∙ so_far.same_types) is));
        same_types = function_types ∙ so_far.same_types;
        few_functions = rw is_later (omega (arith, so_far.few_functions));
        few_values = rw is_later (omega (arith, so_far.few_values));
      }

  module _ (s : SType) (kind : p.kind ≡ param_kinds.Value s) where
    value_uses : parameter_use text G now p ≡ use_of p.name (new_value_fault now p.name.text) ∷ type_uses text G now.types s
    value_uses = ap (parameter_uses_of text G now p.name) kind

    -- a value's name fails
    pub value_name_fails : {Z : Type 0} (Is : Z → Type 0) (r : Result Z ScopeEnd) (end : ScopeEnd) → IsErrAnd r (λ e. e ≡ end) → Fails (broken_or p.name.at (new_value_fault now p.name.text) None) end → Resolves (parameters_uses text G L params) Is r
    value_name_fails Is r end is fails =
        reached_fails with_parameter (parameter_use text G) L params i now Is p r end within at so_far.reached is (subst (λ us. Fails (first_broken us) end) (sym value_uses) (fails_first p.name.at (new_value_fault now p.name.text) (type_uses text G now.types s) end fails))

    module _ (later : Locals) (fault : new_value_fault now p.name.text ≡ None) (is_later : later ≡ record now { names = now.names ++ p.name.text ∷ []; values = now.values + 1 }) where
      value_types : later.types ≡ now.types
      value_types = ap (λ (M : Locals). M.types) is_later

      -- a value's type fails
      pub value_type_fails : {Z : Type 0} (Is : Z → Type 0) (r : Result Z ScopeEnd) (end : ScopeEnd) → IsErrAnd r (λ e. e ≡ end) → Fails (first_broken (type_uses text G later.types s)) end → Resolves (parameters_uses text G L params) Is r
      value_type_fails Is r end is fails =
          let here : Fails (first_broken (type_uses text G now.types s)) end = subst (λ T. Fails (first_broken (type_uses text G T s)) end) value_types fails in
          reached_fails with_parameter (parameter_use text G) L params i now Is p r end within at so_far.reached is (subst (λ us. Fails (first_broken us) end) (sym value_uses) (fails_later p.name.at (new_value_fault now p.name.text) (type_uses text G now.types s) end fault here))

      -- one value more
      pub value_next : (t : RawTy) (out : List RawTy) → Fine (type_uses text G later.types s) (IsType G later.types s) t → out ≡ values ++ t ∷ [] → AreParametersSoFar text G L params (i + 1) later funs out
      value_next t out (fine, is) pushed = record {
        reached = reached_next with_parameter (parameter_use text G) L params i now p later within at so_far.reached (subst (λ us. first_broken us ≡ None) (sym value_uses) (fine_first p.name.at (new_value_fault now p.name.text) (type_uses text G now.types s) fault (subst (λ T. first_broken (type_uses text G T s) ≡ None) value_types fine))) (is_later ∙ ap (with_parameter_of now p.name) (sym kind));
        are = rw (one_more, pushed) (parameters_push_value G L.types (take i params) funs values p s t so_far.are kind (subst (λ T. IsType G T s t) (value_types ∙ so_far.same_types) is));
        same_types = value_types ∙ so_far.same_types;
        few_functions = rw is_later (omega (arith, so_far.few_functions));
        few_values = rw is_later (omega (arith, so_far.few_values));
      }

-- no parameters
pub no_parameters_yet : (text : List Item) (G : Globals) (L : Locals) (params : List SParam) (funs : List RawFnType) (values : List RawTy) → L.functions ≡ 0 → L.values ≡ 0 → funs ≡ [] → values ≡ [] → AreParametersSoFar text G L params 0 L funs values
no_parameters_yet text G L params funs values no_functions no_values no_funs no_types = record {
  reached = record { fine = refl; is = refl };
  are = rw (no_funs, no_types) none;
  same_types = refl;
  few_functions = omega (arith, no_functions);
  few_values = omega (arith, no_values);
}

-- type parameters, and then those of the list
pub type_parameters_are : (T : TypeLocals) (names : List Name) → fold with_type_parameter T names ≡ record T { parameters = T.parameters ++ texts names }
type_parameters_are T [] = ap (λ (ps : List (List ℕ)). record T { parameters = ps }) (rw append-nil refl)
type_parameters_are T (name ∷ names) = type_parameters_are (with_type_parameter T name) names ∙ ap (λ (ps : List (List ℕ)). record T { parameters = ps }) (append_assoc T.parameters (name.text ∷ []) (texts names))

-- what is local with type parameters alone
pub type_locals_are : (names : List Name) → fold with_type_parameter no_parameters names ≡ type_locals names
type_locals_are names = type_parameters_are no_parameters names
