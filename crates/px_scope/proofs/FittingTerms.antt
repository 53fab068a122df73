-- A term that is numbered names what may be named at its place.
use Rattle.std.proofs.Common.{◌≡◌, ℕ, zero, suc, ◌+◌, ◌-◌, ◌<◌, ◌≤◌, ◌^◌, Bool, true, false, cond, List, [], ◌∷◌, map, take, drop, length, ◌++◌, ◌||◌, Option, Some, None, refl, sym, ap, ◌∙◌, subst, arith, length-append}
use Rattle.std.specs.Prelude.{nat_lt, All}
use Rattle.std.specs.Option.{option_map, option_and_then}
use Rattle.std.specs.List.{slice_get, flat_map}
use Rattle.std.proofs.lemmas.Bool.{ltb-true, ltb-false}
use Rattle.std.proofs.lemmas.Option.{slice_get_within, get_or_from_slice_get}
use Rattle.std.proofs.lemmas.List.{length-map, take-map, drop-map}
use Rattle.std.proofs.lemmas.List.Elements.{All-nil, All-cons, All-get_or}
use Rattle.px_base.specs.declared.head.Head.{Head}
use Rattle.px_base.specs.declared.head.Head.TheVariants as heads
use Rattle.px_base.specs.declared.raw.RawTy.{RawTy}
use Rattle.px_base.specs.declared.raw.RawFun.{RawFun}
use Rattle.px_base.specs.declared.raw.RawKind.{RawKind, out-RawKind}
use Rattle.px_base.specs.declared.raw.RawKind.TheVariants as kinds
use Rattle.px_base.specs.declared.raw.RawKind.TheOpen.{RawKind-F}
use Rattle.px_base.specs.declared.raw.RawTerm.{RawTerm}
use Rattle.px_base.specs.declared.raw.RawArm.{RawArm}
use Rattle.px_base.specs.declared.raw.RawDef.{RawDef}
use Rattle.px_base.specs.declared.raw.RawFnType.{RawFnType}
use Rattle.px_base.specs.declared.raw.RawProgram.{RawProgram}
use Rattle.px_base.specs.Fitting.{Range, IsShort, AreTypesIn, IsConstructorIn, IsCalledIn, IsFunIn, IsPassedIn, IsHeadIn, IsArgumentIn, IsArgumentBelow, IsTermIn, AreTermsIn, AreArmsIn}
use Rattle.px_parser.specs.declared.surface.Item.{Item}
use Rattle.px_parser.specs.declared.surface.Name.{Name}
use Rattle.px_parser.specs.declared.surface.SType.{SType}
use Rattle.px_parser.specs.declared.surface.SExpr.{SExpr}
use Rattle.px_parser.specs.declared.surface.SExprKind.{SExprKind, out-SExprKind}
use Rattle.px_parser.specs.declared.surface.SExprKind.TheOpen.{SExprKind-F}
use Rattle.px_parser.specs.declared.surface.SExprKind.TheFolds.{map-SExprKind, fold_out-SExprKind}
use Rattle.px_parser.specs.declared.surface.SArm.{SArm}
use Rattle.px_parser.specs.declared.surface.SFun.{SFun}
use Rattle.px_parser.specs.Sizes.{types_size, types_depth, expr_kind_size_step, arm_size_step, expr_size_step, expr_kind_size, expr_size, exprs_size, arm_size, arms_size}
use Rattle.px_parser.specs.Sizes.{expr_kind_depth_step, arm_depth_step, expr_depth_step, expr_kind_depth, expr_depth, exprs_depth, arm_depth, arms_depth}
use Rattle.px_parser.specs.SizeEquations.{expr_size-kind, expr_depth-kind, arm_size-body, arm_depth-body, exprs_size-cons, arms_size-cons, length-le-exprs_size, length-le-arms_size}
use Rattle.px_scope.specs.declared.globals.Constructor.{Constructor}
use Rattle.px_scope.specs.declared.globals.Meaning.{Meaning}
use Rattle.px_scope.specs.declared.globals.Meaning.TheVariants.{Wle, Weq, Definition, Lemma, Replica}
use Rattle.px_scope.specs.declared.globals.Globals.{Globals}
use Rattle.px_scope.specs.declared.locals.Local.{Local}
use Rattle.px_scope.specs.declared.locals.Local.TheVariants.{Function, Value, Pattern}
use Rattle.px_scope.specs.declared.ends.ScopeKind.TheVariants.{WrongPlace}
use Rattle.px_scope.specs.declared.locals.Locals.{Locals}
use Rattle.px_scope.specs.Names.{number, number_of}
use Rattle.px_scope.specs.Standing.{constructor_of, meaning_of, local_at, local_of, head_at, head_of, function_places}
use Rattle.px_scope.specs.Later.{declares_lower}
use Rattle.px_scope.specs.Rules.{is_own, constructor_fault, value_fault, function_fault_at, function_fault}
use Rattle.px_scope.specs.Uses.{Use, first_broken, types_uses, Data, Function as InFunction, bind, variables_uses, arguments_uses, expr_uses, arm_uses, function_uses}
use Rattle.px_scope.specs.Numbers.{raw_fun, raw_term, raw_arm, AreTypes, IsArgument, named, AreArguments, none, more, IsTermLayer, AreTerms, AreArms, IsFunction}
use Rattle.px_scope.proofs.FineParts.{fine_parts, fine_front, fine_back, not_broken, after_name}
use Rattle.px_scope.proofs.TermSteps.{parts_are, arms_are, layer_uses, expr_uses_is, arm_uses_is}
use Rattle.px_scope.proofs.FittingTypes.{number_is, number_within, types_few, no_own, fitting_types}

-- The definition stands in the program, with so many function parameters.
pub record IsDefined (P : RawProgram) (n functions : ℕ) : Type 0 where
  pub declared : RawDef
  pub stands : slice_get P.defs n ≡ Some declared
  pub count : length declared.funs ≡ functions

-- The definition may be called, and where it may be passed it stands in the program.
pub record IsDefinitionIn (P : RawProgram) (R : Range) (n functions : ℕ) : Type 0 where
  pub called : n < R.called
  pub stands : n < R.passed → IsDefined P n functions

-- the meaning is no definition, or one that may be named
abbrev pub IsMeaningIn : RawProgram → Range → Meaning → Type 0
IsMeaningIn P R Wle = Unit {0}
IsMeaningIn P R Weq = Unit {0}
IsMeaningIn P R (Definition n functions) = IsDefinitionIn P R n functions
IsMeaningIn P R Lemma = Unit {0}
IsMeaningIn P R Replica = Unit {0}

-- the constructor may be named
abbrev pub IsNamedIn : RawProgram → Range → Constructor → Type 0
IsNamedIn P R con = IsConstructorIn P R con.datatype con.number

-- What is declared may be named.
pub record AreGlobalsIn (P : RawProgram) (R : Range) (G : Globals) : Type 0 where
  pub datatypes : length G.datatypes ≤ R.datatypes
  pub constructors : All (IsNamedIn P R) G.constructors
  pub meanings : All (IsMeaningIn P R) G.meanings

-- What is local may be named, where so many variables of patterns are bound; each definition may be passed but the one that is
-- being declared, and no datatype is.
pub record AreLocalsIn (R : Range) (bound : ℕ) (L : Locals) : Type 0 where
  pub unowned : R.own ≡ None
  pub passed : (n : ℕ) → n < R.called → is_own L.own_definition n ≡ false → n < R.passed
  pub tparams : length L.types.parameters ≤ R.tparams
  pub functions : L.functions ≤ R.functions
  pub values : L.values ≤ R.values
  pub names : length L.names ≤ L.functions + L.values + bound

-- what is found is one of them
pub all_found : {A : Type 0} (F : A → Type 0) (xs : List A) (place : Option ℕ) (x : A) → All F xs → option_and_then (slice_get xs) place ≡ Some x → F x
all_found F xs None x all is = absurd cc
all_found F xs (Some n) x all is = subst F (get_or_from_slice_get xs n x x is) (All-get_or F xs n x (slice_get_within xs n x is) all)

-- the local may be named
abbrev IsLocalIn : Range → ℕ → Local → Type 0
IsLocalIn R bound (Function n) = n < R.functions
IsLocalIn R bound (Value n) = n < R.values
IsLocalIn R bound (Pattern n) = n < bound

-- the local of a number
local_in : (R : Range) (bound : ℕ) (L : Locals) → AreLocalsIn R bound L → (n : ℕ) → n < length L.names → (l : Local) → local_at L n ≡ Some l →
    IsLocalIn R bound l
local_in R bound L locals n within l is = first (nat_lt n L.functions) refl is
  where
    third : L.functions ≤ n → L.values ≤ n - L.functions → (place : Option ℕ) → number (length L.names - (n + 1)) ≡ place →
        option_map Pattern place ≡ Some l → IsLocalIn R bound l
    third functions values None found is = absurd cc
    third functions values (Some k) found is =
        let same : Pattern k ≡ l = cc in
        subst (IsLocalIn R bound) same (omega (arith, number_is (length L.names - (n + 1)) k found, locals.names))

    second : L.functions ≤ n → (b : Bool) → nat_lt (n - L.functions) L.values ≡ b →
        cond b (Some (Value (n - L.functions))) (option_map Pattern (number (length L.names - (n + 1)))) ≡ Some l → IsLocalIn R bound l
    second functions true test is =
        let same : Value (n - L.functions) ≡ l = cc in
        subst (IsLocalIn R bound) same (omega (arith, ltb-true (n - L.functions) L.values test, locals.values))
    second functions false test is = third functions (ltb-false (n - L.functions) L.values test) (number (length L.names - (n + 1))) refl is

    first : (b : Bool) → nat_lt n L.functions ≡ b →
        cond b (Some (Function n)) (cond (nat_lt (n - L.functions) L.values) (Some (Value (n - L.functions))) (option_map Pattern (number (length L.names - (n + 1))))) ≡ Some l →
        IsLocalIn R bound l
    first true test is =
        let same : Function n ≡ l = cc in
        subst (IsLocalIn R bound) same (omega (arith, ltb-true n L.functions test, locals.functions))
    first false test is = second (ltb-false n L.functions test) (nat_lt (n - L.functions) L.values) refl is

-- the local of a name
local_of_in : (R : Range) (bound : ℕ) (L : Locals) → AreLocalsIn R bound L → (name : List ℕ) (l : Local) → local_of L name ≡ Some l → IsLocalIn R bound l
local_of_in R bound L locals name l is = at_place (number_of L.names name) refl is
  where
    at_place : (place : Option ℕ) → number_of L.names name ≡ place → option_and_then (local_at L) place ≡ Some l → IsLocalIn R bound l
    at_place None found is = absurd cc
    at_place (Some n) found is = local_in R bound L locals n (number_within L.names name n found) l is

-- the function that a name stands for
head_at_in : (P : RawProgram) (R : Range) (bound : ℕ) (local : Option Local) (meaning : Option Meaning) (head : Head) →
    ((l : Local) → local ≡ Some l → IsLocalIn R bound l) → ((m : Meaning) → meaning ≡ Some m → IsMeaningIn P R m) →
    head_at local meaning ≡ Some head → IsCalledIn R head
head_at_in P R bound (Some (Function n)) meaning head locals meanings is = let same : heads.FnVar n ≡ head = cc in subst (IsCalledIn R) same (locals (Function n) refl)
head_at_in P R bound (Some (Value n)) meaning head locals meanings is = absurd cc
head_at_in P R bound (Some (Pattern n)) meaning head locals meanings is = absurd cc
head_at_in P R bound None None head locals meanings is = absurd cc
head_at_in P R bound None (Some Wle) head locals meanings is = let same : heads.Wle ≡ head = cc in subst (IsCalledIn R) same tt
head_at_in P R bound None (Some Weq) head locals meanings is = let same : heads.Weq ≡ head = cc in subst (IsCalledIn R) same tt
head_at_in P R bound None (Some (Definition n functions)) head locals meanings is =
    let same : heads.Def n ≡ head = cc in
    subst (IsCalledIn R) same (meanings (Definition n functions) refl).called
head_at_in P R bound None (Some Lemma) head locals meanings is = absurd cc
head_at_in P R bound None (Some Replica) head locals meanings is = absurd cc

-- none is there where the count is 0
none_of : (xs : List RawFnType) → length xs ≡ 0 → xs ≡ []
none_of [] is = refl
none_of (x ∷ xs) is = absurd (omega arith)

neither : (a b : Bool) → (a || b) ≡ false → (a ≡ false) × (b ≡ false)
neither true b e = absurd cc
neither false b e = (refl, e)

-- a definition that breaks no rule where it is passed
passed_in : (P : RawProgram) (R : Range) (bound : ℕ) (L : Locals) → AreLocalsIn R bound L → (n functions : ℕ) → IsDefinitionIn P R n functions →
    (nat_lt 0 functions || is_own L.own_definition n) ≡ false → IsPassedIn P R n
passed_in P R bound L locals n functions is test =
    let parts = neither (nat_lt 0 functions) (is_own L.own_definition n) test in
    let below : n < R.passed = locals.passed n is.called parts.1 in
    let defined = is.stands below in
    let empty : functions ≤ 0 = ltb-false 0 functions parts.0 in
    record { declared = defined.declared; below = below; stands = defined.stands; first_order = none_of defined.declared.funs (omega (arith, defined.count)) }

-- the function that a name stands for, where it is an argument
argument_at_in : (P : RawProgram) (R : Range) (bound : ℕ) (L : Locals) (declared : Bool) (local : Option Local) (meaning : Option Meaning) (head : Head) →
    AreLocalsIn R bound L → ((l : Local) → local ≡ Some l → IsLocalIn R bound l) → ((m : Meaning) → meaning ≡ Some m → IsMeaningIn P R m) →
    function_fault_at declared L local meaning false ≡ None → head_at local meaning ≡ Some head → IsHeadIn P R head
argument_at_in P R bound L declared (Some (Function n)) meaning head in_locals locals meanings fine is = let same : heads.FnVar n ≡ head = cc in subst (IsHeadIn P R) same (locals (Function n) refl)
argument_at_in P R bound L declared (Some (Value n)) meaning head in_locals locals meanings fine is = absurd cc
argument_at_in P R bound L declared (Some (Pattern n)) meaning head in_locals locals meanings fine is = absurd cc
argument_at_in P R bound L declared None None head in_locals locals meanings fine is = absurd cc
argument_at_in P R bound L declared None (Some Wle) head in_locals locals meanings fine is = let same : heads.Wle ≡ head = cc in subst (IsHeadIn P R) same tt
argument_at_in P R bound L declared None (Some Weq) head in_locals locals meanings fine is = let same : heads.Weq ≡ head = cc in subst (IsHeadIn P R) same tt
argument_at_in P R bound L declared None (Some (Definition n functions)) head in_locals locals meanings fine is =
    let same : heads.Def n ≡ head = cc in
    let test = not_broken (nat_lt 0 functions || is_own L.own_definition n) WrongPlace fine in
    subst (IsHeadIn P R) same (passed_in P R bound L in_locals n functions (meanings (Definition n functions) refl) test)
argument_at_in P R bound L declared None (Some Lemma) head in_locals locals meanings fine is = absurd cc
argument_at_in P R bound L declared None (Some Replica) head in_locals locals meanings fine is = absurd cc

-- the parts of an expression of a kind
abbrev pub layer_size : SExprKind-F SExprKind SArm SExpr → ℕ
layer_size y = expr_kind_size_step (map-SExprKind SExprKind SArm SExpr ℕ ℕ ℕ expr_kind_size arm_size expr_size y)

-- the levels of an expression of a kind
abbrev pub layer_depth : SExprKind-F SExprKind SArm SExpr → ℕ
layer_depth y = expr_kind_depth_step (map-SExprKind SExprKind SArm SExpr ℕ ℕ ℕ expr_kind_depth arm_depth expr_depth y)

pub size_of_layer : (e : SExpr) → expr_size e ≡ layer_size (out-SExprKind e.kind)
size_of_layer e = expr_size-kind e ∙ fold_out-SExprKind ℕ ℕ ℕ expr_kind_size_step arm_size_step expr_size_step e.kind

pub depth_of_layer : (e : SExpr) → expr_depth e ≡ layer_depth (out-SExprKind e.kind)
depth_of_layer e = expr_depth-kind e ∙ fold_out-SExprKind ℕ ℕ ℕ expr_kind_depth_step arm_depth_step expr_depth_step e.kind

-- the front and the rest of a list are no larger
sizes_take : (n : ℕ) (es : List SExpr) → exprs_size (take n es) ≤ exprs_size es
sizes_take zero es = omega arith
sizes_take (suc n) [] = omega arith
sizes_take (suc n) (e ∷ es) = omega (arith, exprs_size-cons e (take n es), exprs_size-cons e es, sizes_take n es)

sizes_drop : (n : ℕ) (es : List SExpr) → exprs_size (drop n es) ≤ exprs_size es
sizes_drop zero es = omega arith
sizes_drop (suc n) [] = omega arith
sizes_drop (suc n) (e ∷ es) = omega (arith, exprs_size-cons e es, sizes_drop n es)

depths_take : (n : ℕ) (es : List SExpr) → exprs_depth (take n es) ≤ exprs_depth es
depths_take zero es = omega arith
depths_take (suc n) [] = omega arith
depths_take (suc n) (e ∷ es) = omega (arith, depths_take n es)

depths_drop : (n : ℕ) (es : List SExpr) → exprs_depth (drop n es) ≤ exprs_depth es
depths_drop zero es = omega arith
depths_drop (suc n) [] = omega arith
depths_drop (suc n) (e ∷ es) = omega (arith, depths_drop n es)

-- as many arguments are numbered as are written
arguments_count : {G : Globals} {L : Locals} {es : List SExpr} {fs : List RawFun} → AreArguments G L es fs → length fs ≡ length es
arguments_count none = refl
arguments_count (more first rest) = let others = arguments_count rest in omega arith

terms_count : {G : Globals} {L : Locals} {es : List SExpr} {ts : List RawTerm} → AreTerms G L es ts → length ts ≡ length es
terms_count AreTerms.no_terms = refl
terms_count (AreTerms.more_terms first rest) = let others = terms_count rest in omega arith

arms_count : {G : Globals} {L : Locals} {arms : List SArm} {cases : List RawArm} → AreArms G L arms cases → length cases ≡ length arms
arms_count AreArms.no_arms = refl
arms_count (AreArms.more_arms stands body is rest) = let others = arms_count rest in omega arith

-- what is bound in an arm is local in its body
bound_in : (R : Range) (bound : ℕ) (L : Locals) (vars : List Name) → AreLocalsIn R bound L →
    AreLocalsIn R (bound + length (map (λ (v : Name). v.at) vars)) (bind L vars)
bound_in R bound L vars locals = record {
  unowned = locals.unowned;
  passed = locals.passed;
  tparams = locals.tparams;
  functions = locals.functions;
  values = locals.values;
  names = omega (arith, locals.names, length-append L.names (map (λ (v : Name). v.text) vars), length-map vars (λ (v : Name). v.text), length-map vars (λ (v : Name). v.at));
}

module _ (text : List Item) (G : Globals) (P : RawProgram) (R : Range) (globals : AreGlobalsIn P R G) where
  constructor_in : (name : List ℕ) (con : Constructor) → constructor_of G name ≡ Some con → IsNamedIn P R con
  constructor_in name con is = all_found (IsNamedIn P R) G.constructors (number_of G.cons name) con globals.constructors is

  pub meaning_in : (name : List ℕ) (m : Meaning) → meaning_of G name ≡ Some m → IsMeaningIn P R m
  meaning_in name m is = all_found (IsMeaningIn P R) G.meanings (number_of G.lowers name) m globals.meanings is

  -- types in a term
  types_in : (most bound : ℕ) (L : Locals) → AreLocalsIn R bound L → {types : List SType} {ts : List RawTy} → AreTypes G L.types types ts →
      types_depth types ≤ most → types_size types < 2 ^ 32 → AreTypesIn R most ts
  types_in most bound L locals are deep small =
      fitting_types text G L.types R globals.datatypes locals.tparams (no_own R locals.unowned _) most are (no_own R locals.unowned _) deep small

  called_in : (bound : ℕ) (L : Locals) → AreLocalsIn R bound L → (name : List ℕ) (head : Head) → head_of G L name ≡ Some head → IsCalledIn R head
  called_in bound L locals name head is = head_at_in P R bound (local_of L name) (meaning_of G name) head (local_of_in R bound L locals name) (meaning_in name) is

  head_in : (bound : ℕ) (L : Locals) → AreLocalsIn R bound L → (name : List ℕ) (head : Head) → function_fault text G L name false ≡ None →
      head_of G L name ≡ Some head → IsHeadIn P R head
  head_in bound L locals name head fine is =
      argument_at_in P R bound L (declares_lower text name) (local_of L name) (meaning_of G name) head locals (local_of_in R bound L locals name) (meaning_in name) fine is

  -- a function of this name that is called, with types
  fun_in : (most bound : ℕ) (L : Locals) → AreLocalsIn R bound L → (name : Name) (types : List SType) (head : Head) (ts : List RawTy) (f : RawFun) →
      head_of G L name.text ≡ Some head → AreTypes G L.types types ts → types_depth types ≤ most → types_size types < 2 ^ 32 →
      f ≡ raw_fun name head ts → IsFunIn R most f
  fun_in most bound L locals name types head ts f stands are deep small is =
      subst (IsFunIn R most) (sym is) (record {
        head = called_in bound L locals name.text head stands;
        few = types_few are small;
        types = types_in most bound L locals are deep small;
      })

  -- a function of this name that is an argument, with types
  passed_fun_in : (most bound : ℕ) (L : Locals) → AreLocalsIn R bound L → (name : Name) (types : List SType) (head : Head) (ts : List RawTy) (f : RawFun) →
      function_fault text G L name.text false ≡ None → head_of G L name.text ≡ Some head → AreTypes G L.types types ts → types_depth types ≤ most →
      types_size types < 2 ^ 32 → f ≡ raw_fun name head ts → IsArgumentIn P R most f
  passed_fun_in most bound L locals name types head ts f fine stands are deep small is =
      subst (IsArgumentIn P R most) (sym is) (record {
        head = head_in bound L locals name.text head fine stands;
        few = types_few are small;
        types = types_in most bound L locals are deep small;
      })

  argument_in : (most bound at : ℕ) {L : Locals} {y : SExprKind-F SExprKind SArm SExpr} {f : RawFun} → AreLocalsIn R bound L →
      IsArgument G L y f → first_broken (layer_uses text G y at InFunction L) ≡ None → layer_depth y ≤ most → layer_size y < 2 ^ 32 →
      IsArgumentBelow P R most f
  argument_in most bound at {L} locals (named {name = name} {types = types} {head = head} {ts = ts} {result = f} stands are is) fine deep small = record {
    room = most - 1;
    level = omega arith;
    function =
        let kept = fine_parts name.at (function_fault text G L name.text false) (first_broken (types_uses text G L.types types)) fine in
        passed_fun_in (most - 1) bound L locals name types head ts f kept.0 stands are (omega arith) (omega arith) is;
  }

  arguments_in : (most bound : ℕ) {L : Locals} {es : List SExpr} {fs : List RawFun} → AreLocalsIn R bound L → AreArguments G L es fs →
      first_broken (flat_map (λ (e : SExpr). expr_uses text G e InFunction L) es) ≡ None → exprs_depth es ≤ most → exprs_size es < 2 ^ 32 →
      All (IsArgumentBelow P R most) fs
  arguments_in most bound locals none fine deep small = All-nil (IsArgumentBelow P R most)
  arguments_in most bound {L} locals (more {e = e} {es = es} {f = f} {fs = fs} first rest) fine deep small =
      let here = expr_uses text G e InFunction L in
      let others = flat_map (λ (x : SExpr). expr_uses text G x InFunction L) es in
      All-cons (IsArgumentBelow P R most) f fs
      (argument_in most bound e.at locals first (ap first_broken (sym (expr_uses_is text G e InFunction L)) ∙ fine_front here others fine)
      (omega (arith, depth_of_layer e)) (omega (arith, size_of_layer e, exprs_size-cons e es)))
      (arguments_in most bound locals rest (fine_back here others fine) (omega arith) (omega (arith, exprs_size-cons e es)))

  -- a function that is called, named with its types
  pub fitting_function : (most bound : ℕ) (L : Locals) → AreLocalsIn R bound L → (s : SFun) (f : RawFun) → IsFunction G L s f →
      types_depth s.args ≤ most → types_size s.args < 2 ^ 32 → IsFunIn R most f
  fitting_function most bound L locals s f is deep small = fun_in most bound L locals s.name s.args is.head is.types f is.stands is.are_types deep small is.is

  -- a function that is an argument, named with its types
  pub fitting_argument : (most bound : ℕ) (L : Locals) → AreLocalsIn R bound L → (s : SFun) (f : RawFun) → IsFunction G L s f →
      first_broken (function_uses text G L s) ≡ None → types_depth s.args ≤ most → types_size s.args < 2 ^ 32 → IsArgumentIn P R most f
  fitting_argument most bound L locals s f is fine deep small =
      let kept = fine_parts s.name.at (function_fault text G L s.name.text false) (first_broken (types_uses text G L.types s.args)) fine in
      passed_fun_in most bound L locals s.name s.args is.head is.types f kept.0 is.stands is.are_types deep small is.is

  -- the term has the layer that is its kind's
  by_kind : (most bound at : ℕ) (kind : RawKind) (y : RawKind-F RawKind RawArm RawTerm) (t : RawTerm) → t ≡ raw_term at kind → out-RawKind kind ≡ y →
      IsTermIn P R most bound y → IsTermIn P R most bound (out-RawKind t.kind)
  by_kind most bound at kind y t is outs within = subst (IsTermIn P R most bound) (sym (ap (λ (x : RawTerm). out-RawKind x.kind) is ∙ outs)) within

  arm_in : (most bound : ℕ) (arm : SArm) (con : Constructor) (body : RawTerm) (a : RawArm) (cases : List RawArm) → a ≡ raw_arm arm con body →
      IsNamedIn P R con → length arm.vars < 2 ^ 32 → IsTermIn P R most (bound + length (map (λ (v : Name). v.at) arm.vars)) (out-RawKind body.kind) →
      AreArmsIn P R most bound cases → AreArmsIn P R most bound (a ∷ cases)
  arm_in most bound arm con body a cases is con_in few body_in rest =
      let few_places : IsShort (map (λ (v : Name). v.at) arm.vars) = omega (arith, length-map arm.vars (λ (v : Name). v.at)) in
      subst (λ (x : RawArm). AreArmsIn P R most bound (x ∷ cases)) (sym is) (AreArmsIn.more_arms con_in few_places body_in rest)

  -- the names in a call's arguments: the first so many are functions
  abbrev functions_uses : ℕ → Locals → List SExpr → List Use
  functions_uses places L args = flat_map (λ (e : SExpr). expr_uses text G e InFunction L) (take places args)

  abbrev terms_uses : Locals → List SExpr → List Use
  terms_uses L es = flat_map (λ (e : SExpr). expr_uses text G e Data L) es

  abbrev arms_uses : Locals → List SArm → List Use
  arms_uses L arms = flat_map (λ (a : SArm). arm_uses text G a L) arms

  arguments_are : (places : ℕ) (L : Locals) (args : List SExpr) →
      arguments_uses places L (Some (map (expr_uses text G) args)) ≡ functions_uses places L args ++ terms_uses L (drop places args)
  arguments_are places L args =
      rw (
        take-map (expr_uses text G) places args,
        drop-map (expr_uses text G) places args,
        parts_are (expr_uses text G) InFunction L (take places args),
        parts_are (expr_uses text G) Data L (drop places args),
      ) refl

  -- the fields of a construction break no rule
  fields_fine : (name : Name) (types : List SType) (fields : List SExpr) (at : ℕ) (L : Locals) →
      first_broken (layer_uses text G (SExprKind-F.Upper name types fields) at Data L) ≡ None → first_broken (terms_uses L fields) ≡ None
  fields_fine name types fields at L fine =
      ap first_broken (sym (parts_are (expr_uses text G) Data L fields))
      ∙ after_name name (constructor_fault text G name.text) (types_uses text G L.types types) _ fine

  -- nor do the arguments of a call
  arguments_fine : (name : Name) (types : List SType) (args : List SExpr) (at : ℕ) (L : Locals) →
      first_broken (layer_uses text G (SExprKind-F.Lower name types (Some args)) at Data L) ≡ None →
      first_broken (functions_uses (function_places G L name.text) L args ++ terms_uses L (drop (function_places G L name.text) args)) ≡ None
  arguments_fine name types args at L fine =
      let places = function_places G L name.text in
      ap first_broken (sym (arguments_are places L args))
      ∙ after_name name (value_fault text G L name.text true) (types_uses text G L.types types) (arguments_uses places L (Some (map (expr_uses text G) args))) fine

  -- nor what a match is on, and its arms
  choice_fine : (on : SExpr) (arms : List SArm) (at : ℕ) (L : Locals) → first_broken (layer_uses text G (SExprKind-F.Match on arms) at Data L) ≡ None →
      first_broken (expr_uses text G on Data L ++ arms_uses L arms) ≡ None
  choice_fine on arms at L fine = ap first_broken (ap (λ us. expr_uses text G on Data L ++ us) (sym (arms_are (arm_uses text G) L arms))) ∙ fine

  -- nor the body of an arm
  body_fine : (arm : SArm) (L : Locals) → first_broken (arm_uses text G arm L) ≡ None → first_broken (expr_uses text G arm.body Data (bind L arm.vars)) ≡ None
  body_fine arm L fine =
      after_name arm.name (constructor_fault text G arm.name.text) (variables_uses L arm.vars) (expr_uses text G arm.body Data (bind L arm.vars))
      (ap first_broken (sym (arm_uses_is text G arm L)) ∙ fine)

  -- what an expression is breaks no rule
  layer_fine : (e : SExpr) (L : Locals) → first_broken (expr_uses text G e Data L) ≡ None →
      first_broken (layer_uses text G (out-SExprKind e.kind) e.at Data L) ≡ None
  layer_fine e L fine = ap first_broken (sym (expr_uses_is text G e Data L)) ∙ fine

  mutual
    -- a term of this kind, with at most so many levels
    pub fitting_layer : (most bound : ℕ) {L : Locals} {at : ℕ} {y : SExprKind-F SExprKind SArm SExpr} {t : RawTerm} → AreLocalsIn R bound L →
        IsTermLayer G L at y t → first_broken (layer_uses text G y at Data L) ≡ None → layer_depth y ≤ most → layer_size y < 2 ^ 32 →
        IsTermIn P R most bound (out-RawKind t.kind)
    fitting_layer most bound {t = t} locals (IsTermLayer.literal {at = at} {w = w} is) fine deep small =
        by_kind most bound at (kinds.Lit w) _ t is (kinds.outs-Lit w) (IsTermIn.literal {room = most - 1} (omega arith))
    fitting_layer most bound {L} {t = t} locals (IsTermLayer.value {at = at} {n = n} {name = name} {types = types} {ts = ts} stands are is) fine deep small =
        by_kind most bound at (kinds.Free n ts) _ t is (kinds.outs-Free n ts)
        (IsTermIn.free {room = most - 1} (omega arith) (local_of_in R bound L locals name.text (Value n) stands) (types_few are (omega arith))
        (types_in (most - 1) bound L locals are (omega arith) (omega arith)))
    fitting_layer most bound {L} {t = t} locals (IsTermLayer.pattern {at = at} {n = n} {name = name} {types = types} {ts = ts} stands are is) fine deep small =
        by_kind most bound at (kinds.Bound n ts) _ t is (kinds.outs-Bound n ts)
        (IsTermIn.pattern {room = most - 1} (omega arith) (local_of_in R bound L locals name.text (Pattern n) stands) (types_few are (omega arith))
        (types_in (most - 1) bound L locals are (omega arith) (omega arith)))
    fitting_layer most bound {L} {t = t} locals (IsTermLayer.construction {at = at} {name = name} {types = types} {fields = fields} {con = con} {ts = ts} {fs = fs} stands are terms is) fine deep small =
        by_kind most bound at (kinds.Con con.datatype con.number ts fs) _ t is (kinds.outs-Con con.datatype con.number ts fs)
        (IsTermIn.construction {room = most - 1} (omega arith) (constructor_in name.text con stands) (types_few are (omega arith))
        (types_in (most - 1) bound L locals are (omega arith) (omega arith))
        (omega (arith, terms_count terms, length-le-exprs_size fields))
        (fitting_terms (most - 1) bound locals terms (fields_fine name types fields at L fine) (omega arith) (omega arith)))
    fitting_layer most bound {L} {t = t} locals (IsTermLayer.call {at = at} {name = name} {types = types} {args = args} {head = head} {ts = ts} {funs = funs} {terms = terms} stands are arguments rest is)
        fine deep small =
        let places = function_places G L name.text in
        let both = arguments_fine name types args at L fine in
        let functions = functions_uses places L args in
        let others = terms_uses L (drop places args) in
        by_kind most bound at (kinds.Call (raw_fun name head ts) funs terms) _ t is (kinds.outs-Call (raw_fun name head ts) funs terms)
        (IsTermIn.call {room = most - 1} (omega arith)
        (fun_in (most - 1) bound L locals name types head ts (raw_fun name head ts) stands are (omega arith) (omega arith) refl)
        (omega (arith, arguments_count arguments, length-le-exprs_size (take places args), sizes_take places args))
        (arguments_in (most - 1) bound locals arguments (fine_front functions others both) (omega (arith, depths_take places args)) (omega (arith, sizes_take places args)))
        (omega (arith, terms_count rest, length-le-exprs_size (drop places args), sizes_drop places args))
        (fitting_terms (most - 1) bound locals rest (fine_back functions others both) (omega (arith, depths_drop places args)) (omega (arith, sizes_drop places args))))
    fitting_layer most bound {L} {t = t} locals (IsTermLayer.choice {at = at} {on = on} {arms = arms} {scrutinee = scrutinee} {cases = cases} on_is are is) fine deep small =
        let both = choice_fine on arms at L fine in
        let here = expr_uses text G on Data L in
        by_kind most bound at (kinds.Match scrutinee cases) _ t is (kinds.outs-Match scrutinee cases)
        (IsTermIn.choice {room = most - 1} (omega arith)
        (fitting_layer (most - 1) bound locals on_is (layer_fine on L (fine_front here (arms_uses L arms) both)) (omega (arith, depth_of_layer on)) (omega (arith, size_of_layer on)))
        (omega (arith, arms_count are, length-le-arms_size arms))
        (fitting_arms (most - 1) bound locals are (fine_back here (arms_uses L arms) both) (omega arith) (omega arith)))

    -- terms of at most so many levels
    fitting_terms : (most bound : ℕ) {L : Locals} {es : List SExpr} {ts : List RawTerm} → AreLocalsIn R bound L → AreTerms G L es ts →
        first_broken (terms_uses L es) ≡ None → exprs_depth es ≤ most → exprs_size es < 2 ^ 32 → AreTermsIn P R most bound ts
    fitting_terms most bound locals AreTerms.no_terms fine deep small = AreTermsIn.no_terms
    fitting_terms most bound {L} locals (AreTerms.more_terms {e = e} {es = es} first rest) fine deep small =
        let here = expr_uses text G e Data L in
        let others = terms_uses L es in
        AreTermsIn.more_terms
        (fitting_layer most bound locals first (layer_fine e L (fine_front here others fine)) (omega (arith, depth_of_layer e)) (omega (arith, size_of_layer e, exprs_size-cons e es)))
        (fitting_terms most bound locals rest (fine_back here others fine) (omega arith) (omega (arith, exprs_size-cons e es)))

    -- arms of at most so many levels
    fitting_arms : (most bound : ℕ) {L : Locals} {arms : List SArm} {cases : List RawArm} → AreLocalsIn R bound L → AreArms G L arms cases →
        first_broken (arms_uses L arms) ≡ None → arms_depth arms ≤ most → arms_size arms < 2 ^ 32 → AreArmsIn P R most bound cases
    fitting_arms most bound locals AreArms.no_arms fine deep small = AreArmsIn.no_arms
    fitting_arms most bound {L} locals (AreArms.more_arms {arm = arm} {arms = arms} {con = con} {body = body} {a = a} {cases = cases} stands body_is is rest) fine deep small =
        let here = arm_uses text G arm L in
        let others = arms_uses L arms in
        arm_in most bound arm con body a cases is (constructor_in arm.name.text con stands)
        (omega (arith, arms_size-cons arm arms, arm_size-body arm))
        (fitting_layer most (bound + length (map (λ (v : Name). v.at) arm.vars)) (bound_in R bound L arm.vars locals) body_is
        (layer_fine arm.body (bind L arm.vars) (body_fine arm L (fine_front here others fine)))
        (omega (arith, arm_depth-body arm, depth_of_layer arm.body))
        (omega (arith, arms_size-cons arm arms, arm_size-body arm, size_of_layer arm.body)))
        (fitting_arms most bound locals rest (fine_back here others fine) (omega arith) (omega (arith, arms_size-cons arm arms)))
