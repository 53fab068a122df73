-- The places of the words that can count as a name in a tree, in the order of the text: of names and properties, and of numbers
-- and `match`, which are other words.
use Rattle.std.proofs.Common.{◌≡◌, ℕ, List, [], ◌∷◌, ◌++◌, map, Option, Some, None, refl, ap, sym, ◌∙◌}
use Rattle.std.specs.List.{flat_map}
use Rattle.px_base.specs.declared.raw.RawProp.{RawProp}
use Rattle.px_parser.specs.declared.surface.Name.{Name}
use Rattle.px_parser.specs.declared.surface.SType.{SType}
use Rattle.px_parser.specs.declared.surface.SType.TheOpen.{SType-F}
use Rattle.px_parser.specs.declared.surface.SType.TheViews.{roll-SType, out-SType}
use Rattle.px_parser.specs.declared.surface.SType.TheFolds.{fold-SType, fold-roll-SType, fold_out-SType}
use Rattle.px_parser.specs.declared.surface.SExpr.{SExpr}
use Rattle.px_parser.specs.declared.surface.SExprKind.{SExprKind}
use Rattle.px_parser.specs.declared.surface.SExprKind.TheVariants.{Number, Upper, Lower, Match, rolls-Number, rolls-Upper, rolls-Lower, rolls-Match}
use Rattle.px_parser.specs.declared.surface.SExprKind.TheOpen.{SExprKind-F, SArm-F, SExpr-F}
use Rattle.px_parser.specs.declared.surface.SExprKind.TheFolds.{fold-SExprKind, fold-SArm, fold-SExpr, fold-roll-SExprKind, fold_out-SArm, fold_out-SExpr}
use Rattle.px_parser.specs.declared.surface.SArm.{SArm}
use Rattle.px_parser.specs.declared.surface.SParam.{SParam}
use Rattle.px_parser.specs.declared.surface.SParamKind.{SParamKind}
use Rattle.px_parser.specs.declared.surface.SParamKind.TheVariants as param_kinds
use Rattle.px_parser.specs.declared.surface.SFnType.{SFnType}
use Rattle.px_parser.specs.declared.surface.SCon.{SCon}
use Rattle.px_parser.specs.declared.surface.SData.{SData}
use Rattle.px_parser.specs.declared.surface.SDef.{SDef}
use Rattle.px_parser.specs.declared.surface.SClaim.{SClaim}
use Rattle.px_parser.specs.declared.surface.SEquation.{SEquation}
use Rattle.px_parser.specs.declared.surface.SLemma.{SLemma}
use Rattle.px_parser.specs.declared.surface.SFun.{SFun}
use Rattle.px_parser.specs.declared.surface.SReplica.{SReplica}
use Rattle.px_parser.specs.declared.surface.Item.{Item}
use Rattle.px_parser.specs.declared.surface.Item.TheVariants as items
use Rattle.px_parser.specs.declared.surface.Surface.{Surface}
use Rattle.px_scope.proofs.Sublists.{Place, name_at, other_at}

-- all the lists, one after the other
abbrev pub joined : List (List Place) → List Place
joined lists = flat_map (λ (xs : List Place). xs) lists

abbrev pub name_places : List Name → List Place
name_places names = map (λ (n : Name). name_at n.at) names

abbrev pub prop_places : List RawProp → List Place
prop_places props = map (λ (p : RawProp). name_at p.at) props

abbrev pub type_places_step : SType-F (List Place) → List Place
type_places_step layer = name_at layer.name.at ∷ joined layer.args

abbrev pub type_places : SType → List Place
type_places = fold-SType (List Place) type_places_step

abbrev pub types_places : List SType → List Place
types_places types = flat_map type_places types

abbrev pub some_places : Option (List (List Place)) → List Place
some_places (Some lists) = joined lists
some_places None = []

abbrev pub kind_places_step : SExprKind-F (ℕ → List Place) (List Place) (List Place) → ℕ → List Place
kind_places_step (SExprKind-F.Number n) at = other_at at ∷ []
kind_places_step (SExprKind-F.Upper name types fields) at = name_at name.at ∷ (types_places types ++ joined fields)
kind_places_step (SExprKind-F.Lower name types args) at = name_at name.at ∷ (types_places types ++ some_places args)
kind_places_step (SExprKind-F.Match on arms) at = other_at at ∷ (on ++ joined arms)

abbrev pub arm_places_step : SArm-F (ℕ → List Place) (List Place) (List Place) → List Place
arm_places_step arm = name_at arm.name.at ∷ (name_places arm.vars ++ arm.body)

abbrev pub expr_places_step : SExpr-F (ℕ → List Place) (List Place) (List Place) → List Place
expr_places_step e = e.kind e.at

abbrev pub kind_places : SExprKind → ℕ → List Place
kind_places = fold-SExprKind (ℕ → List Place) (List Place) (List Place) kind_places_step arm_places_step expr_places_step

abbrev pub expr_places : SExpr → List Place
expr_places = fold-SExpr (ℕ → List Place) (List Place) (List Place) kind_places_step arm_places_step expr_places_step

abbrev pub exprs_places : List SExpr → List Place
exprs_places exprs = flat_map expr_places exprs

abbrev pub args_places : Option (List SExpr) → List Place
args_places (Some args) = exprs_places args
args_places None = []

abbrev pub arm_places : SArm → List Place
arm_places = fold-SArm (ℕ → List Place) (List Place) (List Place) kind_places_step arm_places_step expr_places_step

abbrev pub arms_places : List SArm → List Place
arms_places arms = flat_map arm_places arms

abbrev pub fn_type_places : SFnType → List Place
fn_type_places f = types_places f.params ++ (type_places f.result ++ prop_places f.props)

abbrev pub param_kind_places : SParamKind → List Place
param_kind_places (param_kinds.Value s) = type_places s
param_kind_places (param_kinds.Function f) = fn_type_places f

abbrev pub param_places : SParam → List Place
param_places p = name_at p.name.at ∷ param_kind_places p.kind

abbrev pub params_places : List SParam → List Place
params_places params = flat_map param_places params

abbrev pub con_places : SCon → List Place
con_places con = name_at con.name.at ∷ types_places con.fields

abbrev pub cons_places : List SCon → List Place
cons_places cons = flat_map con_places cons

abbrev pub data_places : SData → List Place
data_places d = name_at d.name.at ∷ (name_places d.tparams ++ cons_places d.cons)

abbrev pub def_places : SDef → List Place
def_places d = name_at d.name.at ∷ (name_places d.tparams ++ (params_places d.params ++ (type_places d.result ++ (prop_places d.props ++ expr_places d.body))))

abbrev pub claim_places : SClaim → List Place
claim_places c = name_at c.name.at ∷ prop_places c.props

abbrev pub equation_places : SEquation → List Place
equation_places e = expr_places e.left ++ expr_places e.right

abbrev pub equations_places : List SEquation → List Place
equations_places equations = flat_map equation_places equations

abbrev pub lemma_places : SLemma → List Place
lemma_places l = name_at l.name.at ∷ (name_places l.tparams ++ (params_places l.params ++ equations_places l.equations))

abbrev pub fun_places : SFun → List Place
fun_places f = name_at f.name.at ∷ types_places f.args

abbrev pub funs_places : List SFun → List Place
funs_places funs = flat_map fun_places funs

abbrev pub replica_places : SReplica → List Place
replica_places r = name_at r.name.at ∷ (type_places r.state ++ (expr_places r.from ++ (fun_places r.merge ++ funs_places r.funs)))

abbrev pub item_places : Item → List Place
item_places (items.Datatype d) = data_places d
item_places (items.Definition d) = def_places d
item_places (items.Claim c) = claim_places c
item_places (items.Lemma l) = lemma_places l
item_places (items.Replica r) = replica_places r

abbrev pub items_places : List Item → List Place
items_places items = flat_map item_places items

abbrev pub surface_places : Surface → List Place
surface_places surface = items_places surface.items

-- lists that are mapped to, one after the other
pub joined-map : {X : Type 0} (f : X → List Place) (xs : List X) → joined (map f xs) ≡ flat_map f xs
joined-map f [] = refl
joined-map f (x ∷ xs) = ap (λ (rest : List Place). f x ++ rest) (joined-map f xs)

pub type_places-roll : (name : Name) (args : List SType) → type_places (roll-SType (record { name = name; args = args })) ≡ name_at name.at ∷ types_places args
type_places-roll name args =
    fold-roll-SType (List Place) type_places_step (record { name = name; args = args }) ∙ ap (λ (rest : List Place). name_at name.at ∷ rest) (joined-map type_places args)

pub type_places-out : (s : SType) → type_places s ≡ name_at (out-SType s).name.at ∷ types_places (out-SType s).args
type_places-out s = fold_out-SType (List Place) type_places_step s ∙ ap (λ (rest : List Place). name_at (out-SType s).name.at ∷ rest) (joined-map type_places (out-SType s).args)

pub expr_places-kind : (e : SExpr) → expr_places e ≡ kind_places e.kind e.at
expr_places-kind e = ap (λ (xs : List Place). xs) (fold_out-SExpr (ℕ → List Place) (List Place) (List Place) kind_places_step arm_places_step expr_places_step e)

pub arm_places-parts : (arm : SArm) → arm_places arm ≡ name_at arm.name.at ∷ (name_places arm.vars ++ expr_places arm.body)
arm_places-parts arm = fold_out-SArm (ℕ → List Place) (List Place) (List Place) kind_places_step arm_places_step expr_places_step arm

module _ (at : ℕ) where
  pub kind_places-Number : (n : ℕ) → kind_places (Number n) at ≡ other_at at ∷ []
  kind_places-Number n =
      ap (λ (k : SExprKind). kind_places k at) (sym (rolls-Number n))
      ∙ ap (λ (f : ℕ → List Place). f at) (fold-roll-SExprKind (ℕ → List Place) (List Place) (List Place) kind_places_step arm_places_step expr_places_step (SExprKind-F.Number n))

  pub kind_places-Upper : (name : Name) (types : List SType) (fields : List SExpr) → kind_places (Upper name types fields) at ≡ name_at name.at ∷ (types_places types ++ exprs_places fields)
  kind_places-Upper name types fields =
      ap (λ (k : SExprKind). kind_places k at) (sym (rolls-Upper name types fields))
      ∙ ap (λ (f : ℕ → List Place). f at) (fold-roll-SExprKind (ℕ → List Place) (List Place) (List Place) kind_places_step arm_places_step expr_places_step (SExprKind-F.Upper name types fields))
      ∙ ap (λ (rest : List Place). name_at name.at ∷ (types_places types ++ rest)) (joined-map expr_places fields)

  pub kind_places-Lower : (name : Name) (types : List SType) (args : Option (List SExpr)) → kind_places (Lower name types args) at ≡ name_at name.at ∷ (types_places types ++ args_places args)
  kind_places-Lower name types (Some args) =
      ap (λ (k : SExprKind). kind_places k at) (sym (rolls-Lower name types (Some args)))
      ∙ ap (λ (f : ℕ → List Place). f at) (fold-roll-SExprKind (ℕ → List Place) (List Place) (List Place) kind_places_step arm_places_step expr_places_step (SExprKind-F.Lower name types (Some args)))
      ∙ ap (λ (rest : List Place). name_at name.at ∷ (types_places types ++ rest)) (joined-map expr_places args)
  kind_places-Lower name types None =
      ap (λ (k : SExprKind). kind_places k at) (sym (rolls-Lower name types None))
      ∙ ap (λ (f : ℕ → List Place). f at) (fold-roll-SExprKind (ℕ → List Place) (List Place) (List Place) kind_places_step arm_places_step expr_places_step (SExprKind-F.Lower name types None))

  pub kind_places-Match : (on : SExpr) (arms : List SArm) → kind_places (Match on arms) at ≡ other_at at ∷ (expr_places on ++ arms_places arms)
  kind_places-Match on arms =
      ap (λ (k : SExprKind). kind_places k at) (sym (rolls-Match on arms))
      ∙ ap (λ (f : ℕ → List Place). f at) (fold-roll-SExprKind (ℕ → List Place) (List Place) (List Place) kind_places_step arm_places_step expr_places_step (SExprKind-F.Match on arms))
      ∙ ap (λ (rest : List Place). other_at at ∷ (expr_places on ++ rest)) (joined-map arm_places arms)
