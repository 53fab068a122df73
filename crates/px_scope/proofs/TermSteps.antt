-- The names in functions, expressions and arms, and what their parts are.
use Rattle.std.proofs.Common.{◌≡◌, ℕ, ◌+◌, ◌<◌, ◌≤◌, Bool, true, false, List, [], ◌∷◌, ◌++◌, map, length, get_or, take, drop, Option, Some, None, Result, refl, sym, ap, ◌∙◌, subst, append_assoc}
use Rattle.std.proofs.lemmas.List.{append-nil, map_more, take_all, take-map, drop-map}
use Rattle.std.specs.Result.{IsErrAnd}
use Rattle.std.specs.List.{flat_map, fold}
use Rattle.std.specs.Option.{is_some}
use Rattle.px_parser.specs.declared.surface.Name.{Name}
use Rattle.px_parser.specs.declared.surface.SType.{SType}
use Rattle.px_parser.specs.declared.surface.SExpr.{SExpr}
use Rattle.px_parser.specs.declared.surface.SExprKind.{SExprKind, out-SExprKind}
use Rattle.px_parser.specs.declared.surface.SExprKind.TheVariants.{Number, Upper, Lower, Match, outs-Number, outs-Upper, outs-Lower, outs-Match}
use Rattle.px_parser.specs.declared.surface.SExprKind.TheOpen.{SExprKind-F}
use Rattle.px_parser.specs.declared.surface.SExprKind.TheFolds.{map-SExprKind, fold-SExprKind, fold_out-SExprKind, fold_out-SArm, fold_out-SExpr}
use Rattle.px_parser.specs.declared.surface.SArm.{SArm}
use Rattle.px_parser.specs.declared.surface.SFun.{SFun}
use Rattle.px_parser.specs.declared.surface.Item.{Item}
use Rattle.px_base.specs.declared.head.Head.{Head}
use Rattle.px_base.specs.declared.raw.RawTy.{RawTy}
use Rattle.px_base.specs.declared.raw.RawFun.{RawFun}
use Rattle.px_base.specs.declared.raw.RawKind.{RawKind}
use Rattle.px_base.specs.declared.raw.RawKind.TheVariants as kinds
use Rattle.px_base.specs.declared.raw.RawTerm.{RawTerm}
use Rattle.px_base.specs.declared.raw.RawArm.{RawArm}
use Rattle.px_scope.specs.declared.ends.ScopeKind.{ScopeKind}
use Rattle.px_scope.specs.declared.ends.ScopeKind.TheVariants.{WrongPlace, Repeated}
use Rattle.px_scope.specs.declared.ends.ScopeEnd.{ScopeEnd}
use Rattle.px_scope.specs.declared.ends.ScopeEnd.TheVariants.{Fault}
use Rattle.px_scope.specs.declared.globals.Constructor.{Constructor}
use Rattle.px_scope.specs.declared.globals.Meaning.{Meaning}
use Rattle.px_scope.specs.declared.globals.Meaning.TheVariants as meaning
use Rattle.px_scope.specs.declared.globals.Globals.{Globals}
use Rattle.px_scope.specs.declared.locals.Local.{Local}
use Rattle.px_scope.specs.declared.locals.Local.TheVariants as local
use Rattle.px_scope.specs.declared.locals.Locals.{Locals}
use Rattle.px_scope.specs.declared.lookups.Variable.{Variable}
use Rattle.px_scope.specs.declared.lookups.Variable.TheVariants as variable
use Rattle.px_scope.specs.Names.{is_name}
use Rattle.px_scope.specs.Later.{declares_lower}
use Rattle.px_scope.specs.Standing.{constructor_of, meaning_of, local_of, head_of, function_places}
use Rattle.px_scope.specs.Rules.{new_value_fault, function_fault, function_fault_at, constructor_fault, constructor_argument_fault, value_fault, from_fault}
use Rattle.px_scope.specs.Uses.{Use, use_of, first_broken, broken_or, types_uses, Role, Data, Function, From, Seen, bind, bind_one, variables_uses, literal_uses, construction_uses, arguments_uses, lower_uses, match_uses, kind_uses_step, arm_uses_step, expr_uses_step, expr_uses, arm_uses}
use Rattle.px_scope.specs.Numbers.{AreTypes, none, more, raw_fun, IsArgument, named, AreArguments, IsFunction, AreFunctions, raw_term, IsTermLayer, literal, construction, value, pattern, call, choice, AreTerms, no_terms, more_terms, AreArms, no_arms, more_arms, IsTerm, IsArm}
use Rattle.px_scope.specs.Answers.{Fails, Fine, Resolves, IsVariable}
use Rattle.px_scope.proofs.Firsts.{fine_first, fine_both, fails_first, fails_later, fails_front, fails_back, passed_on, along_next, along_fails, along_seen, fold_next, fold_seen}

-- one function more
pub functions_push : (G : Globals) (L : Locals) (fs : List SFun) (gs : List RawFun) (f : SFun) (g : RawFun) → AreFunctions G L fs gs → IsFunction G L f g → AreFunctions G L (fs ++ f ∷ []) (gs ++ g ∷ [])
functions_push G L _ _ f g none is = more is none
functions_push G L _ _ f g (more {fs = fs} {gs = gs} first others) is = more first (functions_push G L fs gs f g others is)

-- one function argument more
pub arguments_push : (G : Globals) (L : Locals) (es : List SExpr) (fs : List RawFun) (e : SExpr) (f : RawFun) → AreArguments G L es fs → IsArgument G L (out-SExprKind e.kind) f → AreArguments G L (es ++ e ∷ []) (fs ++ f ∷ [])
arguments_push G L _ _ e f none is = more is none
arguments_push G L _ _ e f (more {es = es} {fs = fs} first others) is = more first (arguments_push G L es fs e f others is)

-- one term more
pub terms_push : (G : Globals) (L : Locals) (es : List SExpr) (ts : List RawTerm) (e : SExpr) (t : RawTerm) → AreTerms G L es ts → IsTerm G L e t → AreTerms G L (es ++ e ∷ []) (ts ++ t ∷ [])
terms_push G L _ _ e t no_terms is = more_terms is no_terms
terms_push G L _ _ e t (more_terms {es = es} {ts = ts} first others) is = more_terms first (terms_push G L es ts e t others is)

-- one arm more
pub arms_push : (G : Globals) (L : Locals) (arms : List SArm) (cases : List RawArm) (arm : SArm) (a : RawArm) → AreArms G L arms cases → IsArm G L arm a → AreArms G L (arms ++ arm ∷ []) (cases ++ a ∷ [])
arms_push G L _ _ arm a no_arms is = more_arms is.stands is.is_body is.is no_arms
arms_push G L _ _ arm a (more_arms {arms = arms} {cases = cases} stands body e others) is = more_arms stands body e (arms_push G L arms cases arm a others is)

-- the names of folded parts are those of the parts
pub parts_are : {X : Type 0} (f : X → Seen) (role : Role) (L : Locals) (xs : List X) → flat_map (λ (s : Seen). s role L) (map f xs) ≡ flat_map (λ (x : X). f x role L) xs
parts_are f role L [] = refl
parts_are f role L (x ∷ xs) = ap (λ us. f x role L ++ us) (parts_are f role L xs)

-- so are those of folded arms
pub arms_are : {X : Type 0} (f : X → Locals → List Use) (L : Locals) (xs : List X) → flat_map (λ (s : Locals → List Use). s L) (map f xs) ≡ flat_map (λ (x : X). f x L) xs
arms_are f L [] = refl
arms_are f L (x ∷ xs) = ap (λ us. f x L ++ us) (arms_are f L xs)

module _ (text : List Item) (G : Globals) where
  -- what is seen of a kind whose parts are not folded
  abbrev pub layer_uses : SExprKind-F SExprKind SArm SExpr → ℕ → Seen
  layer_uses (SExprKind-F.Number w) at role L = literal_uses at role
  layer_uses (SExprKind-F.Upper name types fields) at role L = construction_uses text G name types (map (expr_uses text G) fields) role L
  layer_uses (SExprKind-F.Lower name types None) at role L = lower_uses text G name types None role L
  layer_uses (SExprKind-F.Lower name types (Some args)) at role L = lower_uses text G name types (Some (map (expr_uses text G) args)) role L
  layer_uses (SExprKind-F.Match on arms) at role L = match_uses at (expr_uses text G on) (map (arm_uses text G) arms) role L

  abbrev kind_seen : SExprKind → ℕ → Seen
  kind_seen kind = fold-SExprKind (ℕ → Seen) (Locals → List Use) Seen (kind_uses_step text G) (arm_uses_step text G) expr_uses_step kind

  layer_is : (y : SExprKind-F SExprKind SArm SExpr) (at : ℕ) (role : Role) (L : Locals) → kind_uses_step text G (map-SExprKind SExprKind SArm SExpr (ℕ → Seen) (Locals → List Use) Seen kind_seen (arm_uses text G) (expr_uses text G) y) at role L ≡ layer_uses y at role L
  layer_is (SExprKind-F.Number w) at role L = refl
  layer_is (SExprKind-F.Upper name types fields) at role L = refl
  layer_is (SExprKind-F.Lower name types None) at role L = refl
  layer_is (SExprKind-F.Lower name types (Some args)) at role L = refl
  layer_is (SExprKind-F.Match on arms) at role L = refl

  pub expr_uses_is : (e : SExpr) (role : Role) (L : Locals) → expr_uses text G e role L ≡ layer_uses (out-SExprKind e.kind) e.at role L
  unfolding expr_uses arm_uses
  expr_uses_is e role L =
      ap (λ (s : Seen). s role L) (fold_out-SExpr (ℕ → Seen) (Locals → List Use) Seen (kind_uses_step text G) (arm_uses_step text G) expr_uses_step e)
      ∙ ap (λ (s : ℕ → Seen). s e.at role L) (fold_out-SExprKind (ℕ → Seen) (Locals → List Use) Seen (kind_uses_step text G) (arm_uses_step text G) expr_uses_step e.kind)
      ∙ layer_is (out-SExprKind e.kind) e.at role L

  -- an arm: its constructor, the pattern's variables, and the body
  pub arm_uses_is : (arm : SArm) (L : Locals) → arm_uses text G arm L ≡ use_of arm.name (constructor_fault text G arm.name.text) ∷ (variables_uses L arm.vars ++ expr_uses text G arm.body Data (bind L arm.vars))
  unfolding expr_uses arm_uses
  arm_uses_is arm L = ap (λ (s : Locals → List Use). s L) (fold_out-SArm (ℕ → Seen) (Locals → List Use) Seen (kind_uses_step text G) (arm_uses_step text G) expr_uses_step arm)

  module _ (e : SExpr) (y : SExprKind-F SExprKind SArm SExpr) (layer : out-SExprKind e.kind ≡ y) (role : Role) (L : Locals) where
    uses_of_layer : expr_uses text G e role L ≡ layer_uses y e.at role L
    uses_of_layer = expr_uses_is e role L ∙ ap (λ (k : SExprKind-F SExprKind SArm SExpr). layer_uses k e.at role L) layer

  -- a name that is called stands for no function argument
  no_call : (declared : Bool) (L : Locals) (here : Option Local) (top : Option Meaning) → function_fault_at declared L here top true ≡ None → ⊥
  no_call declared L (Some (local.Function n)) top e = cc
  no_call declared L (Some (local.Value n)) top e = cc
  no_call declared L (Some (local.Pattern n)) top e = cc
  no_call declared L None None e = cc
  no_call declared L None (Some meaning.Wle) e = cc
  no_call declared L None (Some meaning.Weq) e = cc
  no_call declared L None (Some (meaning.Definition n functions)) e = cc
  no_call declared L None (Some meaning.Lemma) e = cc
  no_call declared L None (Some meaning.Replica) e = cc

  -- A name with a small letter in a function argument's place.
  module _ (L : Locals) (e : SExpr) (name : Name) (types : List SType) where
    lower_function : (at : ℕ) (args : Option (List SExpr)) → layer_uses (SExprKind-F.Lower name types args) at Function L ≡ use_of name (function_fault text G L name.text (is_some args)) ∷ types_uses text G L.types types
    lower_function at None = refl
    lower_function at (Some args) = refl

    argument_uses_is : (args : Option (List SExpr)) → e.kind ≡ Lower name types args → expr_uses text G e Function L ≡ use_of name (function_fault text G L name.text (is_some args)) ∷ types_uses text G L.types types
    argument_uses_is args is = uses_of_layer e (SExprKind-F.Lower name types args) (ap out-SExprKind is ∙ outs-Lower name types args) Function L ∙ lower_function e.at args

    -- a function argument, where what its name stands for is known, and its types
    pub argument_fine : (args : Option (List SExpr)) (head : Head) (ts : List RawTy) → e.kind ≡ Lower name types args → function_fault text G L name.text (is_some args) ≡ None → head_of G L name.text ≡ Some head → Fine (types_uses text G L.types types) (AreTypes G L.types types) ts → Fine (expr_uses text G e Function L) (IsArgument G L (out-SExprKind e.kind)) (raw_fun name head ts)
    argument_fine (Some args) head ts is fault stands (fine, are) = absurd (no_call (declares_lower text name.text) L (local_of L name.text) (meaning_of G name.text) fault)
    argument_fine None head ts is fault stands (fine, are) = (
      ap first_broken (argument_uses_is None is) ∙ fine_first name.at (function_fault text G L name.text false) (types_uses text G L.types types) fault fine,
      subst (λ (y : SExprKind-F SExprKind SArm SExpr). IsArgument G L y (raw_fun name head ts)) (sym (ap out-SExprKind is ∙ outs-Lower name types None)) (named stands are refl),
    )

    module _ {Z : Type 0} (Is : Z → Type 0) (args : Option (List SExpr)) (is : e.kind ≡ Lower name types args) (r : Result Z ScopeEnd) (end : ScopeEnd) (same : IsErrAnd r (λ x. x ≡ end)) where
      -- a function argument whose name fails
      pub argument_name_fails : Fails (broken_or name.at (function_fault text G L name.text (is_some args)) None) end → Resolves (expr_uses text G e Function L) Is r
      argument_name_fails fails = passed_on Is (expr_uses text G e Function L) r end same (rw (argument_uses_is args is) (fails_first name.at (function_fault text G L name.text (is_some args)) (types_uses text G L.types types) end fails))

      -- a function argument whose types fail
      pub argument_types_fail : function_fault text G L name.text (is_some args) ≡ None → Fails (first_broken (types_uses text G L.types types)) end → Resolves (expr_uses text G e Function L) Is r
      argument_types_fail fault fails = passed_on Is (expr_uses text G e Function L) r end same (rw (argument_uses_is args is) (fails_later name.at (function_fault text G L name.text (is_some args)) (types_uses text G L.types types) end fault fails))

  module _ (L : Locals) (e : SExpr) where
    -- a constructor in a function argument's place
    pub argument_upper : (name : Name) (types : List SType) (fields : List SExpr) (end : ScopeEnd) → e.kind ≡ Upper name types fields → Fails (broken_or name.at (constructor_argument_fault text G name.text) None) end → Fails (first_broken (expr_uses text G e Function L)) end
    argument_upper name types fields end is fails = rw (uses_of_layer e (SExprKind-F.Upper name types fields) (ap out-SExprKind is ∙ outs-Upper name types fields) Function L) fails

    -- a literal in a function argument's place
    pub argument_number : (w : ℕ) (end : ScopeEnd) → e.kind ≡ Number w → end ≡ Fault WrongPlace e.at → Fails (first_broken (expr_uses text G e Function L)) end
    argument_number w end is fault = rw (uses_of_layer e (SExprKind-F.Number w) (ap out-SExprKind is ∙ outs-Number w) Function L, fault) refl

    -- a match in a function argument's place
    pub argument_match : (on : SExpr) (arms : List SArm) (end : ScopeEnd) → e.kind ≡ Match on arms → end ≡ Fault WrongPlace e.at → Fails (first_broken (expr_uses text G e Function L)) end
    argument_match on arms end is fault = rw (uses_of_layer e (SExprKind-F.Match on arms) (ap out-SExprKind is ∙ outs-Match on arms) Function L, fault) refl

-- A name, and two groups of names after it.
module _ (at : ℕ) (fault : Option ScopeKind) (us vs : List Use) where
  fine_three : fault ≡ None → first_broken us ≡ None → first_broken vs ≡ None → first_broken (record { at = at; fault = fault } ∷ (us ++ vs)) ≡ None
  fine_three e f g = fine_first at fault (us ++ vs) e (fine_both us vs f g)

  fails_second : (end : ScopeEnd) → fault ≡ None → Fails (first_broken us) end → Fails (first_broken (record { at = at; fault = fault } ∷ (us ++ vs))) end
  fails_second end e fails = fails_later at fault (us ++ vs) end e (fails_front us vs end fails)

  fails_third : (end : ScopeEnd) → fault ≡ None → first_broken us ≡ None → Fails (first_broken vs) end → Fails (first_broken (record { at = at; fault = fault } ∷ (us ++ vs))) end
  fails_third end e f fails = fails_later at fault (us ++ vs) end e (fails_back us vs end f fails)

-- data is wanted, or a part of a replica's first value
abbrev pub WantsTerm : Role → Type 0
WantsTerm Data = Unit {0}
WantsTerm Function = ⊥
WantsTerm From = Unit {0}

-- Expressions that are terms.
module _ (text : List Item) (G : Globals) (L : Locals) (e : SExpr) where
  literal_wanted : (role : Role) → WantsTerm role → (at : ℕ) → literal_uses at role ≡ []
  literal_wanted Data wants at = refl
  literal_wanted Function wants at = absurd wants
  literal_wanted From wants at = refl

  -- a literal
  pub literal_fine : (role : Role) → WantsTerm role → (w : ℕ) → e.kind ≡ Number w → Fine (expr_uses text G e role L) (IsTerm G L e) (raw_term e.at (kinds.Lit w))
  literal_fine role wants w is =
      let layer : out-SExprKind e.kind ≡ SExprKind-F.Number w = ap out-SExprKind is ∙ outs-Number w in (
        ap first_broken (uses_of_layer text G e (SExprKind-F.Number w) layer role L ∙ literal_wanted role wants e.at),
        subst (λ (y : SExprKind-F SExprKind SArm SExpr). IsTermLayer G L e.at y (raw_term e.at (kinds.Lit w))) (sym layer) (literal refl),
      )

  -- A construction.
  module _ (role : Role) (wants : WantsTerm role) (name : Name) (types : List SType) (fields : List SExpr) (is : e.kind ≡ Upper name types fields) where
    abbrev fields_uses : List Use
    fields_uses = flat_map (λ (x : SExpr). expr_uses text G x role L) fields

    construction_wanted : (r : Role) → WantsTerm r → construction_uses text G name types (map (expr_uses text G) fields) r L ≡ use_of name (constructor_fault text G name.text) ∷ (types_uses text G L.types types ++ flat_map (λ (x : SExpr). expr_uses text G x r L) fields)
    construction_wanted Data wants = ap (λ us. use_of name (constructor_fault text G name.text) ∷ (types_uses text G L.types types ++ us)) (parts_are (expr_uses text G) Data L fields)
    construction_wanted Function wants = absurd wants
    construction_wanted From wants = ap (λ us. use_of name (constructor_fault text G name.text) ∷ (types_uses text G L.types types ++ us)) (parts_are (expr_uses text G) From L fields)

    construction_layer : out-SExprKind e.kind ≡ SExprKind-F.Upper name types fields
    construction_layer = ap out-SExprKind is ∙ outs-Upper name types fields

    construction_uses_is : expr_uses text G e role L ≡ use_of name (constructor_fault text G name.text) ∷ (types_uses text G L.types types ++ fields_uses)
    construction_uses_is = uses_of_layer text G e (SExprKind-F.Upper name types fields) construction_layer role L ∙ construction_wanted role wants

    -- a construction whose parts are known
    pub construction_fine : (con : Constructor) (ts : List RawTy) (fs : List RawTerm) → constructor_fault text G name.text ≡ None → constructor_of G name.text ≡ Some con → Fine (types_uses text G L.types types) (AreTypes G L.types types) ts → Fine fields_uses (AreTerms G L fields) fs → Fine (expr_uses text G e role L) (IsTerm G L e) (raw_term e.at (kinds.Con con.datatype con.number ts fs))
    construction_fine con ts fs fault stands (fine, are) (fields_fine, are_fields) = (
      ap first_broken construction_uses_is ∙ fine_three name.at (constructor_fault text G name.text) (types_uses text G L.types types) fields_uses fault fine fields_fine,
      subst (λ (y : SExprKind-F SExprKind SArm SExpr). IsTermLayer G L e.at y (raw_term e.at (kinds.Con con.datatype con.number ts fs))) (sym construction_layer) (construction stands are are_fields refl),
    )

    module _ {Z : Type 0} (Is : Z → Type 0) (r : Result Z ScopeEnd) (end : ScopeEnd) (same : IsErrAnd r (λ x. x ≡ end)) where
      -- a construction whose name fails
      pub construction_name_fails : Fails (broken_or name.at (constructor_fault text G name.text) None) end → Resolves (expr_uses text G e role L) Is r
      construction_name_fails fails = passed_on Is (expr_uses text G e role L) r end same (rw construction_uses_is (fails_first name.at (constructor_fault text G name.text) (types_uses text G L.types types ++ fields_uses) end fails))

      -- a construction whose types fail
      pub construction_types_fail : constructor_fault text G name.text ≡ None → Fails (first_broken (types_uses text G L.types types)) end → Resolves (expr_uses text G e role L) Is r
      construction_types_fail fault fails = passed_on Is (expr_uses text G e role L) r end same (rw construction_uses_is (fails_second name.at (constructor_fault text G name.text) (types_uses text G L.types types) fields_uses end fault fails))

      -- a construction whose fields fail
      pub construction_fields_fail : constructor_fault text G name.text ≡ None → first_broken (types_uses text G L.types types) ≡ None → Fails (first_broken fields_uses) end → Resolves (expr_uses text G e role L) Is r
      construction_fields_fail fault fine fails = passed_on Is (expr_uses text G e role L) r end same (rw construction_uses_is (fails_third name.at (constructor_fault text G name.text) (types_uses text G L.types types) fields_uses end fault fine fails))

  from_is : (at : ℕ) (name : Name) (types : List SType) (args : Option (List SExpr)) → layer_uses text G (SExprKind-F.Lower name types args) at From L ≡ use_of name (from_fault text G name.text) ∷ []
  from_is at name types None = refl
  from_is at name types (Some args) = refl

  -- a name with a small letter in a replica's first value
  pub from_lower : (name : Name) (types : List SType) (args : Option (List SExpr)) (end : ScopeEnd) → e.kind ≡ Lower name types args → Fails (broken_or name.at (from_fault text G name.text) None) end → Fails (first_broken (expr_uses text G e From L)) end
  from_lower name types args end is fails = rw (uses_of_layer text G e (SExprKind-F.Lower name types args) (ap out-SExprKind is ∙ outs-Lower name types args) From L ∙ from_is e.at name types args) fails

  -- a match in a replica's first value
  pub from_match : (on : SExpr) (arms : List SArm) (end : ScopeEnd) → e.kind ≡ Match on arms → end ≡ Fault WrongPlace e.at → Fails (first_broken (expr_uses text G e From L)) end
  from_match on arms end is fault = rw (uses_of_layer text G e (SExprKind-F.Match on arms) (ap out-SExprKind is ∙ outs-Match on arms) From L, fault) refl

-- a pattern's variables, one by one and together
pub bind_all : (L : Locals) (vars : List Name) → fold bind_one L vars ≡ bind L vars
bind_all L [] = ap (λ (names : List (List ℕ)). record L { names = names }) (sym (append-nil L.names))
bind_all L (v ∷ vars) = bind_all (bind_one L v) vars ∙ ap (λ (names : List (List ℕ)). record L { names = names }) (append_assoc L.names (v.text ∷ []) (map (λ (x : Name). x.text) vars))

abbrev variable_use : Locals → Name → List Use
variable_use L v = use_of v (new_value_fault L v.text) ∷ []

variable_free : (L : Locals) (v : Name) → is_name L.names v.text ≡ false → first_broken (variable_use L v) ≡ None
variable_free L v known = rw known refl

variable_repeated : (L : Locals) (v : Name) (end : ScopeEnd) → is_name L.names v.text ≡ true → end ≡ Fault Repeated v.at → Fails (first_broken (variable_use L v)) end
variable_repeated L v end known fault = rw (known, fault) refl

-- One of a pattern's variables, where M is local after those before it.
module _ (L : Locals) (vars : List Name) (i : ℕ) (v : Name) (M : Locals) (within : i < length vars) (at : v ≡ get_or vars i v) (bound : M ≡ fold bind_one L (take i vars)) where
  -- its name is not local yet
  pub variable_next : first_broken (variables_uses L (take i vars)) ≡ None → is_name M.names v.text ≡ false → first_broken (variables_uses L (take (i + 1) vars)) ≡ None
  variable_next fine known = along_next bind_one variable_use L vars i v within at fine (subst (λ (N : Locals). first_broken (variable_use N v) ≡ None) bound (variable_free M v known))

  -- its name is local already
  pub variable_fails : (end : ScopeEnd) → first_broken (variables_uses L (take i vars)) ≡ None → is_name M.names v.text ≡ true → end ≡ Fault Repeated v.at → Fails (first_broken (variables_uses L vars)) end
  variable_fails end fine known fault = along_fails bind_one variable_use L vars i v within at fine end (subst (λ (N : Locals). Fails (first_broken (variable_use N v)) end) bound (variable_repeated M v end known fault))

  -- what is local after it
  pub variable_bound : bind_one M v ≡ fold bind_one L (take (i + 1) vars)
  variable_bound = ap (λ (N : Locals). bind_one N v) bound ∙ sym (fold_next bind_one variable_use L vars i v within at)

  -- the places so far
  pub variable_place : (places out : List ℕ) → places ≡ map (λ (x : Name). x.at) (take i vars) → out ≡ places ++ v.at ∷ [] → out ≡ map (λ (x : Name). x.at) (take (i + 1) vars)
  variable_place places out are e = e ∙ ap (λ (ps : List ℕ). ps ++ v.at ∷ []) are ∙ ap (λ (x : Name). map (λ (y : Name). y.at) (take i vars) ++ x.at ∷ []) at ∙ sym (map_more (λ (x : Name). x.at) vars i v within)

-- All of a pattern's variables were seen.
module _ (L : Locals) (vars : List Name) (i : ℕ) (ends : length vars ≤ i) where
  -- their names were not local yet
  pub variables_fine : first_broken (variables_uses L (take i vars)) ≡ None → first_broken (variables_uses L vars) ≡ None
  variables_fine fine = along_seen bind_one variable_use L vars i ends fine

  -- what is local after them
  pub variables_bound : (M : Locals) → M ≡ fold bind_one L (take i vars) → M ≡ bind L vars
  variables_bound M bound = bound ∙ fold_seen bind_one variable_use L vars i ends ∙ bind_all L vars

  -- their places
  pub variables_places : (places : List ℕ) → places ≡ map (λ (x : Name). x.at) (take i vars) → places ≡ map (λ (x : Name). x.at) vars
  variables_places places are = are ∙ ap (map (λ (x : Name). x.at)) (take_all i vars ends)

-- the kind of a variable with these types
abbrev pub variable_kind : Variable → List RawTy → RawKind
variable_kind (variable.Value n) ts = kinds.Free n ts
variable_kind (variable.Pattern n) ts = kinds.Bound n ts

module _ (text : List Item) (G : Globals) (L : Locals) (e : SExpr) where
  -- A variable.
  module _ (name : Name) (types : List SType) (is : e.kind ≡ Lower name types None) where
    variable_layer : out-SExprKind e.kind ≡ SExprKind-F.Lower name types None
    variable_layer = ap out-SExprKind is ∙ outs-Lower name types None

    variable_uses_is : expr_uses text G e Data L ≡ use_of name (value_fault text G L name.text false) ∷ (types_uses text G L.types types ++ [])
    variable_uses_is = uses_of_layer text G e (SExprKind-F.Lower name types None) variable_layer Data L

    variable_term : (v : Variable) (ts : List RawTy) → IsVariable L name.text v → AreTypes G L.types types ts → IsTermLayer G L e.at (SExprKind-F.Lower name types None) (raw_term e.at (variable_kind v ts))
    variable_term (variable.Value n) ts stands are = value stands are refl
    variable_term (variable.Pattern n) ts stands are = pattern stands are refl

    -- a variable that is known, and its types
    pub variable_fine : (v : Variable) (ts : List RawTy) → value_fault text G L name.text false ≡ None → IsVariable L name.text v → Fine (types_uses text G L.types types) (AreTypes G L.types types) ts → Fine (expr_uses text G e Data L) (IsTerm G L e) (raw_term e.at (variable_kind v ts))
    variable_fine v ts fault stands (fine, are) = (
      ap first_broken variable_uses_is ∙ fine_three name.at (value_fault text G L name.text false) (types_uses text G L.types types) [] fault fine refl,
      subst (λ (y : SExprKind-F SExprKind SArm SExpr). IsTermLayer G L e.at y (raw_term e.at (variable_kind v ts))) (sym variable_layer) (variable_term v ts stands are),
    )

    module _ {Z : Type 0} (Is : Z → Type 0) (r : Result Z ScopeEnd) (end : ScopeEnd) (same : IsErrAnd r (λ x. x ≡ end)) where
      -- a variable whose name fails
      pub variable_name_fails : Fails (broken_or name.at (value_fault text G L name.text false) None) end → Resolves (expr_uses text G e Data L) Is r
      variable_name_fails fails = passed_on Is (expr_uses text G e Data L) r end same (rw variable_uses_is (fails_first name.at (value_fault text G L name.text false) (types_uses text G L.types types ++ []) end fails))

      -- a variable whose types fail
      pub variable_types_fail : value_fault text G L name.text false ≡ None → Fails (first_broken (types_uses text G L.types types)) end → Resolves (expr_uses text G e Data L) Is r
      variable_types_fail fault fails = passed_on Is (expr_uses text G e Data L) r end same (rw variable_uses_is (fails_second name.at (value_fault text G L name.text false) (types_uses text G L.types types) [] end fault fails))

  -- A call, so many of whose first arguments are functions.
  module _ (name : Name) (types : List SType) (args : List SExpr) (is : e.kind ≡ Lower name types (Some args)) (places : ℕ) (are_places : function_places G L name.text ≡ places) where
    call_layer : out-SExprKind e.kind ≡ SExprKind-F.Lower name types (Some args)
    call_layer = ap out-SExprKind is ∙ outs-Lower name types (Some args)

    abbrev funs_uses : List Use
    funs_uses = flat_map (λ (x : SExpr). expr_uses text G x Function L) (take places args)

    abbrev data_uses : List Use
    data_uses = flat_map (λ (x : SExpr). expr_uses text G x Data L) (drop places args)

    arguments_are : arguments_uses places L (Some (map (expr_uses text G) args)) ≡ funs_uses ++ data_uses
    arguments_are = rw (take-map (expr_uses text G) places args, drop-map (expr_uses text G) places args, parts_are (expr_uses text G) Function L (take places args), parts_are (expr_uses text G) Data L (drop places args)) refl

    call_uses_is : expr_uses text G e Data L ≡ use_of name (value_fault text G L name.text true) ∷ (types_uses text G L.types types ++ (funs_uses ++ data_uses))
    call_uses_is =
        uses_of_layer text G e (SExprKind-F.Lower name types (Some args)) call_layer Data L
        ∙ ap (λ (n : ℕ). use_of name (value_fault text G L name.text true) ∷ (types_uses text G L.types types ++ arguments_uses n L (Some (map (expr_uses text G) args)))) are_places
        ∙ ap (λ us. use_of name (value_fault text G L name.text true) ∷ (types_uses text G L.types types ++ us)) arguments_are

    -- a call whose parts are known
    pub call_fine : (head : Head) (ts : List RawTy) (funs : List RawFun) (terms : List RawTerm) → value_fault text G L name.text true ≡ None → head_of G L name.text ≡ Some head → Fine (types_uses text G L.types types) (AreTypes G L.types types) ts → Fine funs_uses (AreArguments G L (take places args)) funs → Fine data_uses (AreTerms G L (drop places args)) terms → Fine (expr_uses text G e Data L) (IsTerm G L e) (raw_term e.at (kinds.Call (raw_fun name head ts) funs terms))
    call_fine head ts funs terms fault stands (fine, are) (funs_fine, are_funs) (terms_fine, are_terms) = (
      ap first_broken call_uses_is ∙ fine_three name.at (value_fault text G L name.text true) (types_uses text G L.types types) (funs_uses ++ data_uses) fault fine (fine_both funs_uses data_uses funs_fine terms_fine),
      subst (λ (y : SExprKind-F SExprKind SArm SExpr). IsTermLayer G L e.at y (raw_term e.at (kinds.Call (raw_fun name head ts) funs terms))) (sym call_layer)
          (call stands are (subst (λ (n : ℕ). AreArguments G L (take n args) funs) (sym are_places) are_funs) (subst (λ (n : ℕ). AreTerms G L (drop n args) terms) (sym are_places) are_terms) refl),
    )

    module _ {Z : Type 0} (Is : Z → Type 0) (r : Result Z ScopeEnd) (end : ScopeEnd) (same : IsErrAnd r (λ x. x ≡ end)) where
      -- a call whose types fail
      pub call_types_fail : value_fault text G L name.text true ≡ None → Fails (first_broken (types_uses text G L.types types)) end → Resolves (expr_uses text G e Data L) Is r
      call_types_fail fault fails = passed_on Is (expr_uses text G e Data L) r end same (rw call_uses_is (fails_second name.at (value_fault text G L name.text true) (types_uses text G L.types types) (funs_uses ++ data_uses) end fault fails))

      -- a call whose functions fail
      pub call_functions_fail : value_fault text G L name.text true ≡ None → first_broken (types_uses text G L.types types) ≡ None → Fails (first_broken funs_uses) end → Resolves (expr_uses text G e Data L) Is r
      call_functions_fail fault fine fails = passed_on Is (expr_uses text G e Data L) r end same (rw call_uses_is (fails_third name.at (value_fault text G L name.text true) (types_uses text G L.types types) (funs_uses ++ data_uses) end fault fine (fails_front funs_uses data_uses end fails)))

      -- a call whose other arguments fail
      pub call_arguments_fail : value_fault text G L name.text true ≡ None → first_broken (types_uses text G L.types types) ≡ None → first_broken funs_uses ≡ None → Fails (first_broken data_uses) end → Resolves (expr_uses text G e Data L) Is r
      call_arguments_fail fault fine funs_fine fails = passed_on Is (expr_uses text G e Data L) r end same (rw call_uses_is (fails_third name.at (value_fault text G L name.text true) (types_uses text G L.types types) (funs_uses ++ data_uses) end fault fine (fails_back funs_uses data_uses end funs_fine fails)))

  -- a call whose name fails
  pub call_name_fails : (name : Name) (types : List SType) (args : List SExpr) → e.kind ≡ Lower name types (Some args) → {Z : Type 0} (Is : Z → Type 0) (r : Result Z ScopeEnd) (end : ScopeEnd) → IsErrAnd r (λ x. x ≡ end) → Fails (broken_or name.at (value_fault text G L name.text true) None) end → Resolves (expr_uses text G e Data L) Is r
  call_name_fails name types args is Is r end same fails =
      passed_on Is (expr_uses text G e Data L) r end same
      (rw (call_uses_is name types args is (function_places G L name.text) refl)
      (fails_first name.at (value_fault text G L name.text true) (types_uses text G L.types types ++ (funs_uses name types args is (function_places G L name.text) refl ++ data_uses name types args is (function_places G L name.text) refl)) end fails))

  -- A match.
  module _ (on : SExpr) (arms : List SArm) (is : e.kind ≡ Match on arms) where
    match_layer : out-SExprKind e.kind ≡ SExprKind-F.Match on arms
    match_layer = ap out-SExprKind is ∙ outs-Match on arms

    abbrev arms_uses : List Use
    arms_uses = flat_map (λ (x : SArm). arm_uses text G x L) arms

    match_uses_is : expr_uses text G e Data L ≡ expr_uses text G on Data L ++ arms_uses
    match_uses_is = uses_of_layer text G e (SExprKind-F.Match on arms) match_layer Data L ∙ ap (λ us. expr_uses text G on Data L ++ us) (arms_are (arm_uses text G) L arms)

    -- a match whose parts are known
    pub match_fine : (scrutinee : RawTerm) (cases : List RawArm) → Fine (expr_uses text G on Data L) (IsTerm G L on) scrutinee → Fine arms_uses (AreArms G L arms) cases → Fine (expr_uses text G e Data L) (IsTerm G L e) (raw_term e.at (kinds.Match scrutinee cases))
    match_fine scrutinee cases (fine, is_on) (arms_fine, are) = (
      ap first_broken match_uses_is ∙ fine_both (expr_uses text G on Data L) arms_uses fine arms_fine,
      subst (λ (y : SExprKind-F SExprKind SArm SExpr). IsTermLayer G L e.at y (raw_term e.at (kinds.Match scrutinee cases))) (sym match_layer) (choice is_on are refl),
    )

    module _ {Z : Type 0} (Is : Z → Type 0) (r : Result Z ScopeEnd) (end : ScopeEnd) (same : IsErrAnd r (λ x. x ≡ end)) where
      -- a match on what fails
      pub match_on_fails : Fails (first_broken (expr_uses text G on Data L)) end → Resolves (expr_uses text G e Data L) Is r
      match_on_fails fails = passed_on Is (expr_uses text G e Data L) r end same (rw match_uses_is (fails_front (expr_uses text G on Data L) arms_uses end fails))

      -- a match whose arms fail
      pub match_arms_fail : first_broken (expr_uses text G on Data L) ≡ None → Fails (first_broken arms_uses) end → Resolves (expr_uses text G e Data L) Is r
      match_arms_fail fine fails = passed_on Is (expr_uses text G e Data L) r end same (rw match_uses_is (fails_back (expr_uses text G on Data L) arms_uses end fine fails))

-- Arms.
module _ (text : List Item) (G : Globals) (L : Locals) (arm : SArm) where
  abbrev body_uses : List Use
  body_uses = expr_uses text G arm.body Data (bind L arm.vars)

  -- an arm whose parts are known
  pub arm_fine : (con : Constructor) (vars : List ℕ) (body : RawTerm) → constructor_fault text G arm.name.text ≡ None → constructor_of G arm.name.text ≡ Some con → Fine (variables_uses L arm.vars) (λ (ps : List ℕ). ps ≡ map (λ (v : Name). v.at) arm.vars) vars → Fine body_uses (IsTerm G (bind L arm.vars) arm.body) body → Fine (arm_uses text G arm L) (IsArm G L arm) (record { at = arm.name.at; datatype = con.datatype; con = con.number; vars = vars; body = body })
  arm_fine con vars body fault stands (vars_fine, are) (fine, is_body) = (
    ap first_broken (arm_uses_is text G arm L) ∙ fine_three arm.name.at (constructor_fault text G arm.name.text) (variables_uses L arm.vars) body_uses fault vars_fine fine,
    record { con = con; body = body; stands = stands; is_body = is_body; is = ap (λ (ps : List ℕ). record { at = arm.name.at; datatype = con.datatype; con = con.number; vars = ps; body = body }) are },
  )

  module _ {Z : Type 0} (Is : Z → Type 0) (r : Result Z ScopeEnd) (end : ScopeEnd) (same : IsErrAnd r (λ x. x ≡ end)) where
    -- an arm whose constructor fails
    pub arm_name_fails : Fails (broken_or arm.name.at (constructor_fault text G arm.name.text) None) end → Resolves (arm_uses text G arm L) Is r
    arm_name_fails fails = passed_on Is (arm_uses text G arm L) r end same (rw (arm_uses_is text G arm L) (fails_first arm.name.at (constructor_fault text G arm.name.text) (variables_uses L arm.vars ++ body_uses) end fails))

    -- an arm whose variables fail
    pub arm_variables_fail : constructor_fault text G arm.name.text ≡ None → Fails (first_broken (variables_uses L arm.vars)) end → Resolves (arm_uses text G arm L) Is r
    arm_variables_fail fault fails = passed_on Is (arm_uses text G arm L) r end same (rw (arm_uses_is text G arm L) (fails_second arm.name.at (constructor_fault text G arm.name.text) (variables_uses L arm.vars) body_uses end fault fails))

    -- an arm whose body fails
    pub arm_body_fails : constructor_fault text G arm.name.text ≡ None → first_broken (variables_uses L arm.vars) ≡ None → Fails (first_broken body_uses) end → Resolves (arm_uses text G arm L) Is r
    arm_body_fails fault fine fails = passed_on Is (arm_uses text G arm L) r end same (rw (arm_uses_is text G arm L) (fails_third arm.name.at (constructor_fault text G arm.name.text) (variables_uses L arm.vars) body_uses end fault fine fails))
