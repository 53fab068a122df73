-- How many parts a program's tree has, and how deep its types and expressions nest. Each part has a token of its own: a
-- name, a number, a property's word, `match` or `fn`. So a tree has no more parts than its text has tokens.
use Rattle.std.specs.Prelude.{ℕ, ◌+◌, ◌≤◌, max, List, map, sum, length, Option, Some, None, All}
use Rattle.px_base.specs.declared.limits.TheConstants.{NESTING}
use Rattle.px_base.specs.Largest.{largest}
use Rattle.px_parser.specs.declared.surface.SType.{SType}
use Rattle.px_parser.specs.declared.surface.SType.TheOpen.{SType-F}
use Rattle.px_parser.specs.declared.surface.SType.TheFolds.{fold-SType}
use Rattle.px_parser.specs.declared.surface.SExprKind.{SExprKind}
use Rattle.px_parser.specs.declared.surface.SExprKind.TheOpen.{SExprKind-F, SArm-F, SExpr-F}
use Rattle.px_parser.specs.declared.surface.SExprKind.TheFolds.{fold-SExprKind, fold-SArm, fold-SExpr}
use Rattle.px_parser.specs.declared.surface.SArm.{SArm}
use Rattle.px_parser.specs.declared.surface.SExpr.{SExpr}
use Rattle.px_parser.specs.declared.surface.SParam.{SParam}
use Rattle.px_parser.specs.declared.surface.SParamKind.{SParamKind}
use Rattle.px_parser.specs.declared.surface.SParamKind.TheVariants.{Value, Function}
use Rattle.px_parser.specs.declared.surface.SFnType.{SFnType}
use Rattle.px_parser.specs.declared.surface.SCon.{SCon}
use Rattle.px_parser.specs.declared.surface.SData.{SData}
use Rattle.px_parser.specs.declared.surface.SDef.{SDef}
use Rattle.px_parser.specs.declared.surface.SClaim.{SClaim}
use Rattle.px_parser.specs.declared.surface.SEquation.{SEquation}
use Rattle.px_parser.specs.declared.surface.SLemma.{SLemma}
use Rattle.px_parser.specs.declared.surface.SFun.{SFun}
use Rattle.px_parser.specs.declared.surface.SReplica.{SReplica}
use Rattle.px_parser.specs.declared.surface.Item.{Item}
use Rattle.px_parser.specs.declared.surface.Item.TheVariants.{Datatype, Definition, Claim, Lemma, Replica}
use Rattle.px_parser.specs.declared.surface.Surface.{Surface}

-- a type is one part above its arguments
abbrev pub type_size_step : SType-F ℕ → ℕ
type_size_step layer = 1 + sum layer.args

-- the parts of a type
abbrev pub type_size : SType → ℕ
type_size = fold-SType ℕ type_size_step

-- the parts of several types
abbrev pub types_size : List SType → ℕ
types_size types = sum (map type_size types)

-- the sum of the numbers, where there are any
abbrev pub sum_of_some : Option (List ℕ) → ℕ
sum_of_some (Some numbers) = sum numbers
sum_of_some None = 0

-- an expression is one part above its types and expressions
abbrev pub expr_kind_size_step : SExprKind-F ℕ ℕ ℕ → ℕ
expr_kind_size_step (SExprKind-F.Number n) = 1
expr_kind_size_step (SExprKind-F.Upper name types fields) = 1 + types_size types + sum fields
expr_kind_size_step (SExprKind-F.Lower name types args) = 1 + types_size types + sum_of_some args
expr_kind_size_step (SExprKind-F.Match on arms) = 1 + on + sum arms

-- an arm is one part above its variables and its body
abbrev pub arm_size_step : SArm-F ℕ ℕ ℕ → ℕ
arm_size_step layer = 1 + length layer.vars + layer.body

-- an expression has the parts of what it is
abbrev pub expr_size_step : SExpr-F ℕ ℕ ℕ → ℕ
expr_size_step layer = layer.kind

-- the parts of what an expression is
abbrev pub expr_kind_size : SExprKind → ℕ
expr_kind_size = fold-SExprKind ℕ ℕ ℕ expr_kind_size_step arm_size_step expr_size_step

-- the parts of an expression
abbrev pub expr_size : SExpr → ℕ
expr_size = fold-SExpr ℕ ℕ ℕ expr_kind_size_step arm_size_step expr_size_step

-- the parts of several expressions
abbrev pub exprs_size : List SExpr → ℕ
exprs_size exprs = sum (map expr_size exprs)

-- the parts of an arm
abbrev pub arm_size : SArm → ℕ
arm_size = fold-SArm ℕ ℕ ℕ expr_kind_size_step arm_size_step expr_size_step

-- the parts of several arms
abbrev pub arms_size : List SArm → ℕ
arms_size arms = sum (map arm_size arms)

-- the parts of a call's arguments, where it has any
abbrev pub args_size : Option (List SExpr) → ℕ
args_size (Some args) = exprs_size args
args_size None = 0

-- the parts of a function's type
abbrev pub fn_type_size : SFnType → ℕ
fn_type_size fn = 1 + types_size fn.params + type_size fn.result + length fn.props

-- the parts of what a parameter is
abbrev pub param_kind_size : SParamKind → ℕ
param_kind_size (Value type) = type_size type
param_kind_size (Function fn) = fn_type_size fn

-- a parameter is one part above what it is
abbrev pub param_size : SParam → ℕ
param_size param = 1 + param_kind_size param.kind

-- the parts of several parameters
abbrev pub params_size : List SParam → ℕ
params_size params = sum (map param_size params)

-- a constructor is one part above the types of its fields
abbrev pub con_size : SCon → ℕ
con_size con = 1 + types_size con.fields

-- the parts of several constructors
abbrev pub cons_size : List SCon → ℕ
cons_size cons = sum (map con_size cons)

-- the parts of a datatype
abbrev pub data_size : SData → ℕ
data_size declaration = 1 + length declaration.tparams + cons_size declaration.cons

-- the parts of a definition
abbrev pub def_size : SDef → ℕ
def_size declaration =
    1 + length declaration.tparams + params_size declaration.params + type_size declaration.result + length declaration.props + expr_size declaration.body

-- the parts of a claim
abbrev pub claim_size : SClaim → ℕ
claim_size declaration = 1 + length declaration.props

-- the parts of both sides
abbrev pub equation_size : SEquation → ℕ
equation_size equation = expr_size equation.left + expr_size equation.right

-- the parts of several equations
abbrev pub equations_size : List SEquation → ℕ
equations_size equations = sum (map equation_size equations)

-- the parts of a lemma
abbrev pub lemma_size : SLemma → ℕ
lemma_size declaration = 1 + length declaration.tparams + params_size declaration.params + equations_size declaration.equations

-- a function is one part above its type arguments
abbrev pub fun_size : SFun → ℕ
fun_size fun = 1 + types_size fun.args

-- the parts of several functions
abbrev pub funs_size : List SFun → ℕ
funs_size funs = sum (map fun_size funs)

-- the parts of a replica
abbrev pub replica_size : SReplica → ℕ
replica_size declaration = 1 + type_size declaration.state + expr_size declaration.from + fun_size declaration.merge + funs_size declaration.funs

-- the parts of a declaration
abbrev pub item_size : Item → ℕ
item_size (Datatype declaration) = data_size declaration
item_size (Definition declaration) = def_size declaration
item_size (Claim declaration) = claim_size declaration
item_size (Lemma declaration) = lemma_size declaration
item_size (Replica declaration) = replica_size declaration

-- the parts of several declarations
abbrev pub items_size : List Item → ℕ
items_size items = sum (map item_size items)

-- the parts of a program's tree
abbrev pub surface_size : Surface → ℕ
surface_size tree = items_size tree.items

-- a type is one level above its deepest argument
abbrev pub type_depth_step : SType-F ℕ → ℕ
type_depth_step layer = 1 + largest layer.args

-- the depth of a type
abbrev pub type_depth : SType → ℕ
type_depth = fold-SType ℕ type_depth_step

-- the depth of the deepest of several types
abbrev pub types_depth : List SType → ℕ
types_depth types = largest (map type_depth types)

-- the largest of the numbers, where there are any
abbrev pub largest_of_some : Option (List ℕ) → ℕ
largest_of_some (Some numbers) = largest numbers
largest_of_some None = 0

-- an expression is one level above its deepest type or expression
abbrev pub expr_kind_depth_step : SExprKind-F ℕ ℕ ℕ → ℕ
expr_kind_depth_step (SExprKind-F.Number n) = 1
expr_kind_depth_step (SExprKind-F.Upper name types fields) = 1 + max (types_depth types) (largest fields)
expr_kind_depth_step (SExprKind-F.Lower name types args) = 1 + max (types_depth types) (largest_of_some args)
expr_kind_depth_step (SExprKind-F.Match on arms) = 1 + max on (largest arms)

-- an arm is as deep as its body
abbrev pub arm_depth_step : SArm-F ℕ ℕ ℕ → ℕ
arm_depth_step layer = layer.body

-- an expression is as deep as what it is
abbrev pub expr_depth_step : SExpr-F ℕ ℕ ℕ → ℕ
expr_depth_step layer = layer.kind

-- the depth of what an expression is, types included
abbrev pub expr_kind_depth : SExprKind → ℕ
expr_kind_depth = fold-SExprKind ℕ ℕ ℕ expr_kind_depth_step arm_depth_step expr_depth_step

-- the depth of an expression, types included
abbrev pub expr_depth : SExpr → ℕ
expr_depth = fold-SExpr ℕ ℕ ℕ expr_kind_depth_step arm_depth_step expr_depth_step

-- the depth of the deepest of several expressions
abbrev pub exprs_depth : List SExpr → ℕ
exprs_depth exprs = largest (map expr_depth exprs)

-- the depth of the deepest of a call's arguments, where it has any
abbrev pub args_depth : Option (List SExpr) → ℕ
args_depth (Some args) = exprs_depth args
args_depth None = 0

-- the depth of an arm
abbrev pub arm_depth : SArm → ℕ
arm_depth = fold-SArm ℕ ℕ ℕ expr_kind_depth_step arm_depth_step expr_depth_step

-- the depth of the deepest of several arms
abbrev pub arms_depth : List SArm → ℕ
arms_depth arms = largest (map arm_depth arms)

-- the type nests within the limit
abbrev pub IsTypeWithin : SType → Type 0
IsTypeWithin type = type_depth type ≤ NESTING

-- the expression nests within the limit
abbrev pub IsExprWithin : SExpr → Type 0
IsExprWithin expr = expr_depth expr ≤ NESTING

-- each type of a function's type nests within the limit
pub record IsFnTypeWithin (fn : SFnType) : Type 0 where
  pub params : All IsTypeWithin fn.params
  pub result : IsTypeWithin fn.result

-- each type of a parameter nests within the limit
abbrev pub IsParamKindWithin : SParamKind → Type 0
IsParamKindWithin (Value type) = IsTypeWithin type
IsParamKindWithin (Function fn) = IsFnTypeWithin fn

-- each type of a parameter nests within the limit
abbrev pub IsParamWithin : SParam → Type 0
IsParamWithin param = IsParamKindWithin param.kind

-- each type of a constructor nests within the limit
abbrev pub IsConWithin : SCon → Type 0
IsConWithin con = All IsTypeWithin con.fields

-- each type of a datatype nests within the limit
abbrev pub IsDataWithin : SData → Type 0
IsDataWithin declaration = All IsConWithin declaration.cons

-- each type and expression of a definition nests within the limit
pub record IsDefWithin (declaration : SDef) : Type 0 where
  pub params : All IsParamWithin declaration.params
  pub result : IsTypeWithin declaration.result
  pub body : IsExprWithin declaration.body

-- both sides nest within the limit
pub record IsEquationWithin (equation : SEquation) : Type 0 where
  pub left : IsExprWithin equation.left
  pub right : IsExprWithin equation.right

-- each type and expression of a lemma nests within the limit
pub record IsLemmaWithin (declaration : SLemma) : Type 0 where
  pub params : All IsParamWithin declaration.params
  pub equations : All IsEquationWithin declaration.equations

-- each type argument of a function nests within the limit
abbrev pub IsFunWithin : SFun → Type 0
IsFunWithin fun = All IsTypeWithin fun.args

-- each type and expression of a replica nests within the limit
pub record IsReplicaWithin (declaration : SReplica) : Type 0 where
  pub state : IsTypeWithin declaration.state
  pub from : IsExprWithin declaration.from
  pub merge : IsFunWithin declaration.merge
  pub funs : All IsFunWithin declaration.funs

-- each type and expression of a declaration nests within the limit
abbrev pub IsItemWithin : Item → Type 0
IsItemWithin (Datatype declaration) = IsDataWithin declaration
IsItemWithin (Definition declaration) = IsDefWithin declaration
IsItemWithin (Claim declaration) = Unit {0}
IsItemWithin (Lemma declaration) = IsLemmaWithin declaration
IsItemWithin (Replica declaration) = IsReplicaWithin declaration

-- each type and expression of a program's tree nests within the limit
abbrev pub IsWithinNesting : Surface → Type 0
IsWithinNesting tree = All IsItemWithin tree.items
