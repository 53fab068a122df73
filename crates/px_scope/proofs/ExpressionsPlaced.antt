-- The names that are looked at in types, expressions and arms stand at places of these, in their order.
use Rattle.std.proofs.Common.{◌≡◌, ℕ, zero, suc, ◌≤◌, Bool, true, false, List, [], ◌∷◌, ◌++◌, map, take, drop, Option, Some, None, refl, sym, ap, ◌∙◌, subst, append_assoc, arith}
use Rattle.std.specs.List.{flat_map}
use Rattle.std.proofs.lemmas.List.{append-nil}
use Rattle.std.specs.Option.{is_some}
use Rattle.px_base.specs.Largest.{largest}
use Rattle.px_parser.specs.declared.surface.Name.{Name}
use Rattle.px_parser.specs.declared.surface.SType.{SType, out-SType}
use Rattle.px_parser.specs.declared.surface.SExpr.{SExpr}
use Rattle.px_parser.specs.declared.surface.SExprKind.{SExprKind, out-SExprKind}
use Rattle.px_parser.specs.declared.surface.SExprKind.TheOpen.{SExprKind-F}
use Rattle.px_parser.specs.declared.surface.SExprKind.TheFolds.{map-SExprKind, fold_out-SExprKind}
use Rattle.px_parser.specs.declared.surface.SArm.{SArm}
use Rattle.px_parser.specs.declared.surface.Item.{Item}
use Rattle.px_parser.specs.Sizes.{type_depth, expr_depth, exprs_depth, arm_depth, arms_depth}
use Rattle.px_parser.specs.SizeEquations.{type_depth-out, arm_depth-body}
use Rattle.px_scope.specs.declared.ends.ScopeKind.{ScopeKind}
use Rattle.px_scope.specs.declared.globals.Meaning.{Meaning}
use Rattle.px_scope.specs.declared.globals.Meaning.TheVariants as meanings
use Rattle.px_scope.specs.declared.globals.Globals.{Globals}
use Rattle.px_scope.specs.declared.locals.Local.{Local}
use Rattle.px_scope.specs.declared.locals.Local.TheVariants as local_kinds
use Rattle.px_scope.specs.declared.locals.TypeLocals.{TypeLocals}
use Rattle.px_scope.specs.declared.locals.Locals.{Locals}
use Rattle.px_scope.specs.Later.{declares_constructor, declares_lower}
use Rattle.px_scope.specs.Standing.{constructor_of, meaning_of, local_of, function_places}
use Rattle.px_scope.specs.Rules.{lone_name, type_fault, new_value_fault, constructor_fault, value_fault, function_fault_at, function_fault, misplaced}
use Rattle.px_scope.specs.Uses.{Use, use_of, along, type_uses, types_uses, Role, Data, Function, From, Seen, bind_one, bind, arguments_uses, expr_uses, arm_uses}
use Rattle.px_scope.proofs.TypeSteps.{type_uses_is}
use Rattle.px_scope.proofs.TermSteps.{layer_uses, expr_uses_is, arm_uses_is}
use Rattle.px_scope.proofs.FittingTerms.{layer_depth, depth_of_layer}
use Rattle.px_scope.proofs.Sublists.{Place, name_at, other_at}
use Rattle.px_scope.proofs.Places.{name_places, type_places, types_places, kind_places_step, arm_places_step, expr_places_step, kind_places, expr_places, exprs_places, args_places, arm_places, arms_places, joined-map, type_places-out, expr_places-kind, arm_places-parts}

-- The names stand at some of these places, in their order.
pub data Within : List Use → List Place → Type 0 where
  ends : Within [] []
  stands : {u : Use} {us : List Use} {place : Place} {places : List Place} → u.at ≡ place.at → Within us places → Within (u ∷ us) (place ∷ places)
  passes : {us : List Use} {place : Place} {places : List Place} → Within us places → Within us (place ∷ places)

-- The same, where each place of a name has its name, up to a broken rule.
pub data Placed : List Use → List Place → Type 0 where
  nowhere : Placed [] []
  at_first : {u : Use} {us : List Use} {place : Place} {places : List Place} → u.at ≡ place.at → Placed us places → Placed (u ∷ us) (place ∷ places)
  past : {us : List Use} {place : Place} {places : List Place} → place.named ≡ false → Placed us places → Placed us (place ∷ places)
  at_fault : {u : Use} {us : List Use} {place : Place} {places : List Place} → u.at ≡ place.at → is_some u.fault ≡ true → Within us places →
      Placed (u ∷ us) (place ∷ places)

-- no names
within_none : (places : List Place) → Within [] places
within_none [] = ends
within_none (place ∷ places) = passes (within_none places)

-- each list of names and places is of this kind, up to a broken rule and after it
pub placed_within : {us : List Use} {places : List Place} → Placed us places → Within us places
placed_within nowhere = ends
placed_within (at_first at rest) = stands at (placed_within rest)
placed_within (past other rest) = passes (placed_within rest)
placed_within (at_fault at breaks rest) = stands at rest

-- the names of a part, and of another after it
within_both : {us vs : List Use} {xs ys : List Place} → Within us xs → Within vs ys → Within (us ++ vs) (xs ++ ys)
within_both ends second = second
within_both (stands at rest) second = stands at (within_both rest second)
within_both (passes rest) second = passes (within_both rest second)

-- no names at no places
pub placed_none : Placed [] []
placed_none = nowhere

-- a name at the first place
pub placed_first : (u : Use) {us : List Use} {places : List Place} → Placed us places → Placed (u ∷ us) (name_at u.at ∷ places)
placed_first u placed = at_first refl placed

-- another word at the first place
pub placed_later : (at : ℕ) {us : List Use} {places : List Place} → Placed us places → Placed us (other_at at ∷ places)
placed_later at placed = past refl placed

-- the names of a part, and of another after it
pub placed_both : {us vs : List Use} {xs ys : List Place} → Placed us xs → Placed vs ys → Placed (us ++ vs) (xs ++ ys)
placed_both nowhere second = second
placed_both (at_first at rest) second = at_first at (placed_both rest second)
placed_both (past other rest) second = past other (placed_both rest second)
placed_both (at_fault at breaks rest) second = at_fault at breaks (within_both rest (placed_within second))

-- the same of other names for both
pub placed_as : {us vs : List Use} {xs ys : List Place} → us ≡ vs → xs ≡ ys → Placed vs ys → Placed us xs
placed_as {vs = vs} {xs = xs} same_uses same_places placed =
    subst (λ (us : List Use). Placed us xs) (sym same_uses) (subst (Placed vs) (sym same_places) placed)

-- the names of a list's parts
pub flat_placed : {X : Type 0} (uses : X → List Use) (places : X → List Place) → ((x : X) → Placed (uses x) (places x)) →
    (xs : List X) → Placed (flat_map uses xs) (flat_map places xs)
flat_placed uses places each [] = nowhere
flat_placed uses places each (x ∷ xs) = placed_both (each x) (flat_placed uses places each xs)

-- the names of parts that may declare something for those after them
pub along_placed : {S X : Type 0} (next : S → X → S) (uses : S → X → List Use) (places : X → List Place) →
    ((s : S) (x : X) → Placed (uses s x) (places x)) → (s : S) (xs : List X) → Placed (along next uses s xs) (flat_map places xs)
along_placed next uses places each s [] = nowhere
along_placed next uses places each s (x ∷ xs) = placed_both (each s x) (along_placed next uses places each (next s x) xs)

-- names alone, each of which may declare something for those after it
pub names_placed : {S : Type 0} (next : S → Name → S) (fault : S → Name → Option ScopeKind) (s : S) (names : List Name) →
    Placed (along next (λ (t : S) (n : Name). use_of n (fault t n) ∷ []) s names) (name_places names)
names_placed next fault s [] = nowhere
names_placed next fault s (n ∷ names) = placed_first (use_of n (fault s n)) (names_placed next fault (next s n) names)

-- Parts that nest to at most so many levels.
module _ {X : Type 0} (places : X → List Place) (depth : X → ℕ) (most : ℕ) where
  -- the names of parts
  within_placed : (uses : X → List Use) → ((x : X) → depth x ≤ most → Placed (uses x) (places x)) → (xs : List X) →
      largest (map depth xs) ≤ most → Placed (flat_map uses xs) (flat_map places xs)
  within_placed uses each [] deep = nowhere
  within_placed uses each (x ∷ xs) deep = placed_both (each x (omega arith)) (within_placed uses each xs (omega arith))

  module _ {Y : Type 0} (seen : X → Y) where
    -- the names of parts by what is seen of each
    seen_placed : (uses : Y → List Use) → ((x : X) → depth x ≤ most → Placed (uses (seen x)) (places x)) → (xs : List X) →
        largest (map depth xs) ≤ most → Placed (flat_map uses (map seen xs)) (flat_map places xs)
    seen_placed uses each [] deep = nowhere
    seen_placed uses each (x ∷ xs) deep = placed_both (each x (omega arith)) (seen_placed uses each xs (omega arith))

    -- the same where the first so many parts stand elsewhere than the others
    split_placed : (uses others : Y → List Use) → ((x : X) → depth x ≤ most → Placed (uses (seen x)) (places x)) →
        ((x : X) → depth x ≤ most → Placed (others (seen x)) (places x)) → (n : ℕ) (xs : List X) → largest (map depth xs) ≤ most →
        Placed (flat_map uses (take n (map seen xs)) ++ flat_map others (drop n (map seen xs))) (flat_map places xs)
    split_placed uses others each rest zero xs deep = seen_placed others rest xs deep
    split_placed uses others each rest (suc n) [] deep = nowhere
    split_placed uses others each rest (suc n) (x ∷ xs) deep =
        placed_as (append_assoc (uses (seen x)) (flat_map uses (take n (map seen xs))) (flat_map others (drop n (map seen xs)))) refl
        (placed_both (each x (omega arith)) (split_placed uses others each rest n xs (omega arith)))

-- Types.
module _ (text : List Item) (G : Globals) (T : TypeLocals) where
  -- a type of at most so many levels
  type_placed_within : (most : ℕ) (s : SType) → type_depth s ≤ most → Placed (type_uses text G T s) (type_places s)
  type_placed_within zero s deep = absurd (omega (arith, type_depth-out s))
  type_placed_within (suc room) s deep =
      placed_as (type_uses_is text G T s) (type_places-out s)
      (placed_first (use_of (out-SType s).name (type_fault text G T (out-SType s).name.text (map lone_name (out-SType s).args)))
      (within_placed type_places type_depth room (type_uses text G T) (type_placed_within room) (out-SType s).args (omega (arith, type_depth-out s))))

  -- a type
  pub type_placed : (s : SType) → Placed (type_uses text G T s) (type_places s)
  type_placed s = type_placed_within (type_depth s) s (omega arith)

  -- types
  pub types_placed : (types : List SType) → Placed (types_uses text G T types) (types_places types)
  types_placed types = flat_placed (type_uses text G T) type_places type_placed types

-- the places of an expression whose parts are not folded
abbrev layer_places : SExprKind-F SExprKind SArm SExpr → ℕ → List Place
layer_places (SExprKind-F.Number n) at = other_at at ∷ []
layer_places (SExprKind-F.Upper name types fields) at = name_at name.at ∷ (types_places types ++ exprs_places fields)
layer_places (SExprKind-F.Lower name types args) at = name_at name.at ∷ (types_places types ++ args_places args)
layer_places (SExprKind-F.Match on arms) at = other_at at ∷ (expr_places on ++ arms_places arms)

-- the same places, by what an expression's parts are folded to
layer_places_are : (y : SExprKind-F SExprKind SArm SExpr) (at : ℕ) →
    kind_places_step (map-SExprKind SExprKind SArm SExpr (ℕ → List Place) (List Place) (List Place) kind_places arm_places expr_places y) at ≡ layer_places y at
layer_places_are (SExprKind-F.Number n) at = refl
layer_places_are (SExprKind-F.Upper name types fields) at =
    ap (λ (rest : List Place). name_at name.at ∷ (types_places types ++ rest)) (joined-map expr_places fields)
layer_places_are (SExprKind-F.Lower name types None) at = refl
layer_places_are (SExprKind-F.Lower name types (Some args)) at =
    ap (λ (rest : List Place). name_at name.at ∷ (types_places types ++ rest)) (joined-map expr_places args)
layer_places_are (SExprKind-F.Match on arms) at = ap (λ (rest : List Place). other_at at ∷ (expr_places on ++ rest)) (joined-map arm_places arms)

-- the places of an expression by what it is
expr_places_is : (e : SExpr) → expr_places e ≡ layer_places (out-SExprKind e.kind) e.at
expr_places_is e =
    expr_places-kind e
    ∙ ap (λ (places : ℕ → List Place). places e.at) (fold_out-SExprKind (ℕ → List Place) (List Place) (List Place) kind_places_step arm_places_step expr_places_step e.kind)
    ∙ layer_places_are (out-SExprKind e.kind) e.at

-- each expression has a level
layer_deep : (y : SExprKind-F SExprKind SArm SExpr) → 1 ≤ layer_depth y
layer_deep (SExprKind-F.Number n) = omega arith
layer_deep (SExprKind-F.Upper name types fields) = omega arith
layer_deep (SExprKind-F.Lower name types args) = omega arith
layer_deep (SExprKind-F.Match on arms) = omega arith

-- what may not stand at its place breaks a rule
misplaced_breaks : {T : Type 0} (declared : Bool) (found : Option T) → is_some (misplaced declared found) ≡ true
misplaced_breaks declared None = refl
misplaced_breaks declared (Some x) = refl

-- what is called in a function argument's place breaks a rule
called_breaks : (declared : Bool) (L : Locals) (local : Option Local) (meaning : Option Meaning) →
    is_some (function_fault_at declared L local meaning true) ≡ true
called_breaks declared L (Some (local_kinds.Function n)) meaning = refl
called_breaks declared L (Some (local_kinds.Value n)) meaning = refl
called_breaks declared L (Some (local_kinds.Pattern n)) meaning = refl
called_breaks declared L None None = refl
called_breaks declared L None (Some meanings.Wle) = refl
called_breaks declared L None (Some meanings.Weq) = refl
called_breaks declared L None (Some (meanings.Definition n functions)) = refl
called_breaks declared L None (Some meanings.Lemma) = refl
called_breaks declared L None (Some meanings.Replica) = refl

-- Expressions.
module _ (text : List Item) (G : Globals) where
  -- an arm whose body's names are placed
  arm_placed_with : (arm : SArm) (L : Locals) → Placed (expr_uses text G arm.body Data (bind L arm.vars)) (expr_places arm.body) →
      Placed (arm_uses text G arm L) (arm_places arm)
  arm_placed_with arm L body =
      placed_as (arm_uses_is text G arm L) (arm_places-parts arm)
      (placed_first (use_of arm.name (constructor_fault text G arm.name.text))
      (placed_both (names_placed bind_one (λ (M : Locals) (v : Name). new_value_fault M v.text) L arm.vars) body))

  -- types, where the names after them are not looked at
  types_alone : (L : Locals) (types : List SType) (places : List Place) → Within (types_uses text G L.types types) (types_places types ++ places)
  types_alone L types places =
      subst (λ (us : List Use). Within us (types_places types ++ places)) (append-nil (types_uses text G L.types types))
      (within_both (placed_within (types_placed text G L.types types)) (within_none places))

  -- an expression whose parts' names are placed
  module _ (room : ℕ) (each : (e : SExpr) (role : Role) (L : Locals) → expr_depth e ≤ room → Placed (expr_uses text G e role L) (expr_places e)) where
    -- expressions that all stand in places of one kind
    same_placed : (role : Role) (L : Locals) (es : List SExpr) → exprs_depth es ≤ room →
        Placed (flat_map (λ (s : Seen). s role L) (map (expr_uses text G) es)) (exprs_places es)
    same_placed role L es deep =
        seen_placed expr_places expr_depth room (expr_uses text G) (λ (s : Seen). s role L) (λ (e : SExpr) within. each e role L within) es deep

    -- the arguments of a call
    call_placed : (n : ℕ) (L : Locals) (es : List SExpr) → exprs_depth es ≤ room →
        Placed (arguments_uses n L (Some (map (expr_uses text G) es))) (exprs_places es)
    call_placed n L es deep =
        split_placed expr_places expr_depth room (expr_uses text G) (λ (s : Seen). s Function L) (λ (s : Seen). s Data L)
        (λ (e : SExpr) within. each e Function L within) (λ (e : SExpr) within. each e Data L within) n es deep

    -- the arms of a match
    choices_placed : (L : Locals) (arms : List SArm) → arms_depth arms ≤ room →
        Placed (flat_map (λ (s : Locals → List Use). s L) (map (arm_uses text G) arms)) (arms_places arms)
    choices_placed L arms deep =
        seen_placed arm_places arm_depth room (arm_uses text G) (λ (s : Locals → List Use). s L)
        (λ (arm : SArm) within. arm_placed_with arm L (each arm.body Data (bind L arm.vars) (omega (arith, arm_depth-body arm)))) arms deep

    -- an expression by what it is
    layer_placed : (y : SExprKind-F SExprKind SArm SExpr) (at : ℕ) (role : Role) (L : Locals) → layer_depth y ≤ suc room →
        Placed (layer_uses text G y at role L) (layer_places y at)
    layer_placed (SExprKind-F.Number n) at Data L deep = placed_later at nowhere
    layer_placed (SExprKind-F.Number n) at Function L deep = at_fault refl refl ends
    layer_placed (SExprKind-F.Number n) at From L deep = placed_later at nowhere
    layer_placed (SExprKind-F.Upper name types fields) at Data L deep =
        placed_first (use_of name (constructor_fault text G name.text))
        (placed_both (types_placed text G L.types types) (same_placed Data L fields (omega arith)))
    layer_placed (SExprKind-F.Upper name types fields) at Function L deep =
        at_fault refl (misplaced_breaks (declares_constructor text name.text) (constructor_of G name.text)) (within_none (types_places types ++ exprs_places fields))
    layer_placed (SExprKind-F.Upper name types fields) at From L deep =
        placed_first (use_of name (constructor_fault text G name.text))
        (placed_both (types_placed text G L.types types) (same_placed From L fields (omega arith)))
    layer_placed (SExprKind-F.Lower name types None) at Data L deep =
        placed_first (use_of name (value_fault text G L name.text false))
        (placed_both (types_placed text G L.types types) nowhere)
    layer_placed (SExprKind-F.Lower name types (Some args)) at Data L deep =
        placed_first (use_of name (value_fault text G L name.text true))
        (placed_both (types_placed text G L.types types) (call_placed (function_places G L name.text) L args (omega arith)))
    layer_placed (SExprKind-F.Lower name types None) at Function L deep =
        placed_first (use_of name (function_fault text G L name.text false))
        (placed_as refl (append-nil (types_places types)) (types_placed text G L.types types))
    layer_placed (SExprKind-F.Lower name types (Some args)) at Function L deep =
        at_fault refl (called_breaks (declares_lower text name.text) L (local_of L name.text) (meaning_of G name.text)) (types_alone L types (exprs_places args))
    layer_placed (SExprKind-F.Lower name types None) at From L deep =
        at_fault refl (misplaced_breaks (declares_lower text name.text) (meaning_of G name.text)) (within_none (types_places types ++ []))
    layer_placed (SExprKind-F.Lower name types (Some args)) at From L deep =
        at_fault refl (misplaced_breaks (declares_lower text name.text) (meaning_of G name.text)) (within_none (types_places types ++ exprs_places args))
    layer_placed (SExprKind-F.Match on arms) at Data L deep =
        placed_later at (placed_both (each on Data L (omega arith)) (choices_placed L arms (omega arith)))
    layer_placed (SExprKind-F.Match on arms) at Function L deep = at_fault refl refl (within_none (expr_places on ++ arms_places arms))
    layer_placed (SExprKind-F.Match on arms) at From L deep = at_fault refl refl (within_none (expr_places on ++ arms_places arms))

  -- an expression of at most so many levels
  expr_placed_within : (most : ℕ) (e : SExpr) (role : Role) (L : Locals) → expr_depth e ≤ most → Placed (expr_uses text G e role L) (expr_places e)
  expr_placed_within zero e role L deep = absurd (omega (arith, depth_of_layer e, layer_deep (out-SExprKind e.kind)))
  expr_placed_within (suc room) e role L deep =
      placed_as (expr_uses_is text G e role L) (expr_places_is e)
      (layer_placed room (expr_placed_within room) (out-SExprKind e.kind) e.at role L (omega (arith, depth_of_layer e)))

  -- an expression
  pub expr_placed : (e : SExpr) (role : Role) (L : Locals) → Placed (expr_uses text G e role L) (expr_places e)
  expr_placed e role L = expr_placed_within (expr_depth e) e role L (omega arith)
