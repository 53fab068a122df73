-- The names that stand in a tree, in the order of the text, each with the first rule that it breaks at its place. An
-- expression that may not stand in a function argument's place, or in a replica's first value, counts as one name that breaks
-- a rule: the names in it are not listed.
use Rattle.std.specs.Prelude.{ℕ, false, List, [], ◌∷◌, ◌++◌, map, take, drop, Option, Some, None}
use Rattle.std.specs.List.{flat_map}
use Rattle.std.specs.Option.{is_some}
use Rattle.px_base.specs.declared.prop.Prop.{Prop}
use Rattle.px_base.specs.declared.raw.RawProp.{RawProp}
use Rattle.px_parser.specs.declared.surface.Name.{Name}
use Rattle.px_parser.specs.declared.surface.SType.{SType}
use Rattle.px_parser.specs.declared.surface.SType.TheOpen.{SType-F}
use Rattle.px_parser.specs.declared.surface.SType.TheFolds.{fold-SType}
use Rattle.px_parser.specs.declared.surface.SExpr.{SExpr}
use Rattle.px_parser.specs.declared.surface.SExprKind.TheOpen.{SExprKind-F, SArm-F, SExpr-F}
use Rattle.px_parser.specs.declared.surface.SExprKind.TheFolds.{fold-SArm, fold-SExpr}
use Rattle.px_parser.specs.declared.surface.SArm.{SArm}
use Rattle.px_parser.specs.declared.surface.SFun.{SFun}
use Rattle.px_parser.specs.declared.surface.Item.{Item}
use Rattle.px_scope.specs.declared.ends.ScopeKind.{ScopeKind}
use Rattle.px_scope.specs.declared.ends.ScopeKind.TheVariants.{WrongPlace}
use Rattle.px_scope.specs.declared.globals.Globals.{Globals}
use Rattle.px_scope.specs.declared.locals.TypeLocals.{TypeLocals}
use Rattle.px_scope.specs.declared.locals.Locals.{Locals}
use Rattle.px_scope.specs.Standing.{function_places}
use Rattle.px_scope.specs.Rules.{type_fault, new_value_fault, constructor_fault, value_fault, function_fault, constructor_argument_fault, from_fault, property_fault}

-- A name at its place, and the first rule that it breaks there.
pub record Use : Type 0 where
  pub at : ℕ
  pub fault : Option ScopeKind

-- A broken rule, and the place of the name that breaks it.
pub record Broken : Type 0 where
  pub kind : ScopeKind
  pub at : ℕ

-- a name's broken rule, or else the first of the names after it
abbrev pub broken_or : ℕ → Option ScopeKind → Option Broken → Option Broken
broken_or at (Some kind) after = Some (record { kind = kind; at = at })
broken_or at None after = after

-- the first name that breaks a rule
abbrev pub first_broken : List Use → Option Broken
first_broken [] = None
first_broken (u ∷ us) = broken_or u.at u.fault (first_broken us)

-- this name, which breaks this rule, if it breaks one
abbrev pub use_of : Name → Option ScopeKind → Use
use_of name fault = record { at = name.at; fault = fault }

-- the names of parts that stand one after the other, where each part may declare something for those after it
abbrev pub along : {S X : Type 0} → (S → X → S) → (S → X → List Use) → S → List X → List Use
along next uses s [] = []
along next uses s (x ∷ xs) = uses s x ++ along next uses (next s x) xs

-- What is seen of a type: the name of one without arguments, and the names in it.
pub record TypeUses : Type 0 where
  pub lone : Option (List ℕ)
  pub uses : List Use

-- a type's name, and then those of its arguments
abbrev pub type_uses_step : List Item → Globals → TypeLocals → SType-F TypeUses → TypeUses
type_uses_step text G T layer = record {
  lone = elim layer.args [ [] ↦ Some layer.name.text | _ ↦ None ];
  uses = use_of layer.name (type_fault text G T layer.name.text (map (λ (a : TypeUses). a.lone) layer.args)) ∷ flat_map (λ (a : TypeUses). a.uses) layer.args;
}

-- the names in a type
unfoldable pub type_uses : List Item → Globals → TypeLocals → SType → List Use
type_uses text G T s = (fold-SType TypeUses (type_uses_step text G T) s).uses

-- the names in types
abbrev pub types_uses : List Item → Globals → TypeLocals → List SType → List Use
types_uses text G T types = flat_map (type_uses text G T) types

-- Where an expression stands: data is wanted, or a function, or a part of a replica's first value.
pub data Role : Type 0 where
  Data : Role
  Function : Role
  From : Role

-- one more pattern variable
abbrev pub bind_one : Locals → Name → Locals
bind_one L name = record L { names = L.names ++ name.text ∷ [] }

-- a pattern's variables
abbrev pub bind : Locals → List Name → Locals
bind L vars = record L { names = L.names ++ map (λ (v : Name). v.text) vars }

-- the names of a pattern's variables
abbrev pub variables_uses : Locals → List Name → List Use
variables_uses L vars = along bind_one (λ (M : Locals) (v : Name). use_of v (new_value_fault M v.text) ∷ []) L vars

-- the names in the parts of a tree, by where it stands and by what is local there
abbrev pub Seen : Type 0
Seen = Role → Locals → List Use

-- an expression that may not stand here
abbrev pub misplaced_use : ℕ → List Use
misplaced_use at = record { at = at; fault = Some WrongPlace } ∷ []

-- a literal is data
abbrev pub literal_uses : ℕ → Role → List Use
literal_uses at Data = []
literal_uses at Function = misplaced_use at
literal_uses at From = []

-- a construction: its constructor, the types, and the fields; in a function argument's place its constructor alone
abbrev pub construction_uses : List Item → Globals → Name → List SType → List Seen → Seen
construction_uses text G name types fields Data L = use_of name (constructor_fault text G name.text) ∷ (types_uses text G L.types types ++ flat_map (λ (f : Seen). f Data L) fields)
construction_uses text G name types fields Function L = use_of name (constructor_argument_fault text G name.text) ∷ []
construction_uses text G name types fields From L = use_of name (constructor_fault text G name.text) ∷ (types_uses text G L.types types ++ flat_map (λ (f : Seen). f From L) fields)

-- the arguments of a call: the first so many are functions
abbrev pub arguments_uses : ℕ → Locals → Option (List Seen) → List Use
arguments_uses places L None = []
arguments_uses places L (Some args) = flat_map (λ (a : Seen). a Function L) (take places args) ++ flat_map (λ (a : Seen). a Data L) (drop places args)

-- A variable or a call: its name, the types, and the arguments; in a function argument's place without the arguments, and in a
-- replica's first value its name alone.
abbrev pub lower_uses : List Item → Globals → Name → List SType → Option (List Seen) → Seen
lower_uses text G name types args Data L = use_of name (value_fault text G L name.text (is_some args)) ∷ (types_uses text G L.types types ++ arguments_uses (function_places G L name.text) L args)
lower_uses text G name types args Function L = use_of name (function_fault text G L name.text (is_some args)) ∷ types_uses text G L.types types
lower_uses text G name types args From L = use_of name (from_fault text G name.text) ∷ []

-- a match: what it is on, and the arms; where no data is wanted it counts as a name itself
abbrev pub match_uses : ℕ → Seen → List (Locals → List Use) → Seen
match_uses at on arms Data L = on Data L ++ flat_map (λ (arm : Locals → List Use). arm L) arms
match_uses at on arms Function L = misplaced_use at
match_uses at on arms From L = misplaced_use at

-- what an expression is, at its first byte
abbrev pub kind_uses_step : List Item → Globals → SExprKind-F (ℕ → Seen) (Locals → List Use) Seen → ℕ → Seen
kind_uses_step text G (SExprKind-F.Number w) at role L = literal_uses at role
kind_uses_step text G (SExprKind-F.Upper name types fields) at role L = construction_uses text G name types fields role L
kind_uses_step text G (SExprKind-F.Lower name types args) at role L = lower_uses text G name types args role L
kind_uses_step text G (SExprKind-F.Match on arms) at role L = match_uses at on arms role L

-- an arm: its constructor, the pattern's variables, and the body
abbrev pub arm_uses_step : List Item → Globals → SArm-F (ℕ → Seen) (Locals → List Use) Seen → Locals → List Use
arm_uses_step text G arm L = use_of arm.name (constructor_fault text G arm.name.text) ∷ (variables_uses L arm.vars ++ arm.body Data (bind L arm.vars))

-- an expression
abbrev pub expr_uses_step : SExpr-F (ℕ → Seen) (Locals → List Use) Seen → Seen
expr_uses_step e role L = e.kind e.at role L

-- the names in an expression, by where it stands and by what is local there
unfoldable pub expr_uses : List Item → Globals → SExpr → Seen
expr_uses text G e = fold-SExpr (ℕ → Seen) (Locals → List Use) Seen (kind_uses_step text G) (arm_uses_step text G) expr_uses_step e

-- the names in an arm
unfoldable pub arm_uses : List Item → Globals → SArm → Locals → List Use
arm_uses text G arm = fold-SArm (ℕ → Seen) (Locals → List Use) Seen (kind_uses_step text G) (arm_uses_step text G) expr_uses_step arm

-- the properties of a list, where these are claimed already
abbrev pub properties_uses : List Prop → List RawProp → List Use
properties_uses claimed props = along (λ (seen : List Prop) (p : RawProp). seen ++ p.prop ∷ []) (λ (seen : List Prop) (p : RawProp). record { at = p.at; fault = property_fault seen p.prop } ∷ []) claimed props

-- the names in a function argument of a merge
abbrev pub function_uses : List Item → Globals → Locals → SFun → List Use
function_uses text G L f = use_of f.name (function_fault text G L f.name.text false) ∷ types_uses text G L.types f.args
