-- How each size and each depth computes at each constructor, and what the size of a list says of its items: lemmas,
-- which stand beside the definitions since a crate above can cite nothing else of a crate below.
use Rattle.std.specs.Prelude.{◌≡◌, ℕ, zero, suc, ◌+◌, ◌<◌, ◌≤◌, max, List, [], ◌∷◌, map, sum, length, get_or, take, Option, Some, None, All}
use Rattle.std.proofs.Common.{sym, ◌∙◌, ap, arith}
use Rattle.std.proofs.lemmas.List.Sums.{sum-map, sum_by-cons, sum_by-take-le, sum_by_more, get_or-le-sum_by}
use Rattle.std.proofs.lemmas.List.Elements.{All-head, All-tail}
use Rattle.px_base.specs.Largest.{largest}
use Rattle.px_parser.specs.declared.surface.Name.{Name}
use Rattle.px_parser.specs.declared.surface.SType.{SType}
use Rattle.px_parser.specs.declared.surface.SType.TheViews.{roll-SType, out-SType}
use Rattle.px_parser.specs.declared.surface.SType.TheFolds.{fold-roll-SType, fold_out-SType}
use Rattle.px_parser.specs.declared.surface.SExprKind.{SExprKind}
use Rattle.px_parser.specs.declared.surface.SExprKind.TheVariants.{Number, Upper, Lower, Match, rolls-Number, rolls-Upper, rolls-Lower, rolls-Match}
use Rattle.px_parser.specs.declared.surface.SExprKind.TheOpen.{SExprKind-F}
use Rattle.px_parser.specs.declared.surface.SExprKind.TheViews.{out-SExprKind}
use Rattle.px_parser.specs.declared.surface.SExprKind.TheFolds.{map-SExprKind, fold-roll-SExprKind, fold_out-SExprKind, fold_out-SArm, fold_out-SExpr}
use Rattle.px_parser.specs.declared.surface.SArm.{SArm}
use Rattle.px_parser.specs.declared.surface.SExpr.{SExpr}
use Rattle.px_parser.specs.declared.surface.SParam.{SParam}
use Rattle.px_parser.specs.declared.surface.SCon.{SCon}
use Rattle.px_parser.specs.declared.surface.SEquation.{SEquation}
use Rattle.px_parser.specs.declared.surface.SFun.{SFun}
use Rattle.px_parser.specs.declared.surface.Item.{Item}
use Rattle.px_parser.specs.declared.surface.Item.TheVariants.{Datatype, Definition, Claim, Lemma, Replica}
use Rattle.px_parser.specs.Sizes.{type_size_step, type_size, types_size, expr_kind_size_step, arm_size_step, expr_size_step, expr_kind_size, expr_size, exprs_size, arm_size, arms_size, args_size}
use Rattle.px_parser.specs.Sizes.{type_depth_step, type_depth, types_depth, expr_kind_depth_step, arm_depth_step, expr_depth_step, expr_kind_depth, expr_depth, exprs_depth, arm_depth, arms_depth, args_depth}
use Rattle.px_parser.specs.Sizes.{param_size, params_size, con_size, cons_size, equation_size, equations_size, fun_size, funs_size, item_size, items_size}

pub type_size-roll : (name : Name) (args : List SType) → type_size (roll-SType (record { name = name; args = args })) ≡ 1 + types_size args
type_size-roll name args = fold-roll-SType ℕ type_size_step (record { name = name; args = args })

pub type_size-out : (type : SType) → type_size type ≡ 1 + types_size (out-SType type).args
type_size-out type = fold_out-SType ℕ type_size_step type

pub expr_size-kind : (expr : SExpr) → expr_size expr ≡ expr_kind_size expr.kind
expr_size-kind expr = fold_out-SExpr ℕ ℕ ℕ expr_kind_size_step arm_size_step expr_size_step expr

pub arm_size-body : (arm : SArm) → arm_size arm ≡ 1 + length arm.vars + expr_size arm.body
arm_size-body arm = fold_out-SArm ℕ ℕ ℕ expr_kind_size_step arm_size_step expr_size_step arm

pub expr_kind_size-Number : (n : ℕ) → expr_kind_size (Number n) ≡ 1
expr_kind_size-Number n =
    ap expr_kind_size (sym (rolls-Number n)) ∙ fold-roll-SExprKind ℕ ℕ ℕ expr_kind_size_step arm_size_step expr_size_step (SExprKind-F.Number n)

pub expr_kind_size-Upper : (name : Name) (types : List SType) (fields : List SExpr) →
    expr_kind_size (Upper name types fields) ≡ 1 + types_size types + exprs_size fields
expr_kind_size-Upper name types fields =
    ap expr_kind_size (sym (rolls-Upper name types fields)) ∙ fold-roll-SExprKind ℕ ℕ ℕ expr_kind_size_step arm_size_step expr_size_step (SExprKind-F.Upper name types fields)

pub expr_kind_size-Lower : (name : Name) (types : List SType) (args : Option (List SExpr)) →
    expr_kind_size (Lower name types args) ≡ 1 + types_size types + args_size args
expr_kind_size-Lower name types (Some args) =
    ap expr_kind_size (sym (rolls-Lower name types (Some args))) ∙ fold-roll-SExprKind ℕ ℕ ℕ expr_kind_size_step arm_size_step expr_size_step (SExprKind-F.Lower name types (Some args))
expr_kind_size-Lower name types None =
    ap expr_kind_size (sym (rolls-Lower name types None)) ∙ fold-roll-SExprKind ℕ ℕ ℕ expr_kind_size_step arm_size_step expr_size_step (SExprKind-F.Lower name types None)

pub expr_kind_size-Match : (on : SExpr) (arms : List SArm) → expr_kind_size (Match on arms) ≡ 1 + expr_size on + arms_size arms
expr_kind_size-Match on arms =
    ap expr_kind_size (sym (rolls-Match on arms)) ∙ fold-roll-SExprKind ℕ ℕ ℕ expr_kind_size_step arm_size_step expr_size_step (SExprKind-F.Match on arms)

pub expr_size-Number : (at : ℕ) (n : ℕ) →
    expr_size (record { at = at; kind = Number n }) ≡ 1
expr_size-Number at n = expr_size-kind (record { at = at; kind = Number n }) ∙ expr_kind_size-Number n

pub expr_size-Upper : (at : ℕ) (name : Name) (types : List SType) (fields : List SExpr) →
    expr_size (record { at = at; kind = Upper name types fields }) ≡ 1 + types_size types + exprs_size fields
expr_size-Upper at name types fields = expr_size-kind (record { at = at; kind = Upper name types fields }) ∙ expr_kind_size-Upper name types fields

pub expr_size-Lower : (at : ℕ) (name : Name) (types : List SType) (args : Option (List SExpr)) →
    expr_size (record { at = at; kind = Lower name types args }) ≡ 1 + types_size types + args_size args
expr_size-Lower at name types args = expr_size-kind (record { at = at; kind = Lower name types args }) ∙ expr_kind_size-Lower name types args

pub expr_size-Match : (at : ℕ) (on : SExpr) (arms : List SArm) →
    expr_size (record { at = at; kind = Match on arms }) ≡ 1 + expr_size on + arms_size arms
expr_size-Match at on arms = expr_size-kind (record { at = at; kind = Match on arms }) ∙ expr_kind_size-Match on arms

pub type_depth-roll : (name : Name) (args : List SType) → type_depth (roll-SType (record { name = name; args = args })) ≡ 1 + types_depth args
type_depth-roll name args = fold-roll-SType ℕ type_depth_step (record { name = name; args = args })

pub type_depth-out : (type : SType) → type_depth type ≡ 1 + types_depth (out-SType type).args
type_depth-out type = fold_out-SType ℕ type_depth_step type

pub expr_depth-kind : (expr : SExpr) → expr_depth expr ≡ expr_kind_depth expr.kind
expr_depth-kind expr = fold_out-SExpr ℕ ℕ ℕ expr_kind_depth_step arm_depth_step expr_depth_step expr

pub arm_depth-body : (arm : SArm) → arm_depth arm ≡ expr_depth arm.body
arm_depth-body arm = fold_out-SArm ℕ ℕ ℕ expr_kind_depth_step arm_depth_step expr_depth_step arm

pub expr_kind_depth-Number : (n : ℕ) → expr_kind_depth (Number n) ≡ 1
expr_kind_depth-Number n =
    ap expr_kind_depth (sym (rolls-Number n)) ∙ fold-roll-SExprKind ℕ ℕ ℕ expr_kind_depth_step arm_depth_step expr_depth_step (SExprKind-F.Number n)

pub expr_kind_depth-Upper : (name : Name) (types : List SType) (fields : List SExpr) →
    expr_kind_depth (Upper name types fields) ≡ 1 + max (types_depth types) (exprs_depth fields)
expr_kind_depth-Upper name types fields =
    ap expr_kind_depth (sym (rolls-Upper name types fields)) ∙ fold-roll-SExprKind ℕ ℕ ℕ expr_kind_depth_step arm_depth_step expr_depth_step (SExprKind-F.Upper name types fields)

pub expr_kind_depth-Lower : (name : Name) (types : List SType) (args : Option (List SExpr)) →
    expr_kind_depth (Lower name types args) ≡ 1 + max (types_depth types) (args_depth args)
expr_kind_depth-Lower name types (Some args) =
    ap expr_kind_depth (sym (rolls-Lower name types (Some args))) ∙ fold-roll-SExprKind ℕ ℕ ℕ expr_kind_depth_step arm_depth_step expr_depth_step (SExprKind-F.Lower name types (Some args))
expr_kind_depth-Lower name types None =
    ap expr_kind_depth (sym (rolls-Lower name types None)) ∙ fold-roll-SExprKind ℕ ℕ ℕ expr_kind_depth_step arm_depth_step expr_depth_step (SExprKind-F.Lower name types None)

pub expr_kind_depth-Match : (on : SExpr) (arms : List SArm) → expr_kind_depth (Match on arms) ≡ 1 + max (expr_depth on) (arms_depth arms)
expr_kind_depth-Match on arms =
    ap expr_kind_depth (sym (rolls-Match on arms)) ∙ fold-roll-SExprKind ℕ ℕ ℕ expr_kind_depth_step arm_depth_step expr_depth_step (SExprKind-F.Match on arms)

pub expr_depth-Number : (at : ℕ) (n : ℕ) →
    expr_depth (record { at = at; kind = Number n }) ≡ 1
expr_depth-Number at n = expr_depth-kind (record { at = at; kind = Number n }) ∙ expr_kind_depth-Number n

pub expr_depth-Upper : (at : ℕ) (name : Name) (types : List SType) (fields : List SExpr) →
    expr_depth (record { at = at; kind = Upper name types fields }) ≡ 1 + max (types_depth types) (exprs_depth fields)
expr_depth-Upper at name types fields = expr_depth-kind (record { at = at; kind = Upper name types fields }) ∙ expr_kind_depth-Upper name types fields

pub expr_depth-Lower : (at : ℕ) (name : Name) (types : List SType) (args : Option (List SExpr)) →
    expr_depth (record { at = at; kind = Lower name types args }) ≡ 1 + max (types_depth types) (args_depth args)
expr_depth-Lower at name types args = expr_depth-kind (record { at = at; kind = Lower name types args }) ∙ expr_kind_depth-Lower name types args

pub expr_depth-Match : (at : ℕ) (on : SExpr) (arms : List SArm) →
    expr_depth (record { at = at; kind = Match on arms }) ≡ 1 + max (expr_depth on) (arms_depth arms)
expr_depth-Match at on arms = expr_depth-kind (record { at = at; kind = Match on arms }) ∙ expr_kind_depth-Match on arms

-- sums over a list
pub sum_map-cons : {A : Type 0} (f : A → ℕ) (x : A) (xs : List A) → sum (map f (x ∷ xs)) ≡ f x + sum (map f xs)
sum_map-cons f x xs = sum-map f (x ∷ xs) ∙ sum_by-cons f x xs ∙ ap (λ n. f x + n) (sym (sum-map f xs))

pub sum_map-take-le : {A : Type 0} (f : A → ℕ) (xs : List A) (i : ℕ) → sum (map f (take i xs)) ≤ sum (map f xs)
sum_map-take-le f xs i = omega (arith, sum-map f (take i xs), sum-map f xs, sum_by-take-le f xs i)

pub sum_map_more : {A : Type 0} (f : A → ℕ) (xs : List A) (i : ℕ) (x : A) → i < length xs →
    sum (map f (take (i + 1) xs)) ≡ sum (map f (take i xs)) + f (get_or xs i x)
sum_map_more f xs i x h = omega (arith, sum-map f (take (i + 1) xs), sum-map f (take i xs), sum_by_more f xs i x h)

pub get_or-le-sum_map : {A : Type 0} (f : A → ℕ) (xs : List A) (i : ℕ) (x : A) → i < length xs → f (get_or xs i x) ≤ sum (map f xs)
get_or-le-sum_map f xs i x h = omega (arith, sum-map f xs, get_or-le-sum_by f xs i x h)

pub length-le-sum_map : {A : Type 0} (f : A → ℕ) → ((x : A) → 1 ≤ f x) → (xs : List A) → length xs ≤ sum (map f xs)
length-le-sum_map f least [] = omega arith
length-le-sum_map f least (x ∷ xs) = omega (arith, least x, sum_map-cons f x xs, length-le-sum_map f least xs)

-- the largest over a list
pub get_or-le-largest_map : {A : Type 0} (f : A → ℕ) (xs : List A) (i : ℕ) (x : A) → i < length xs → f (get_or xs i x) ≤ largest (map f xs)
get_or-le-largest_map f [] i x h = absurd (omega arith)
get_or-le-largest_map f (y ∷ ys) zero x h = omega arith
get_or-le-largest_map f (y ∷ ys) (suc i) x h =
    let within : i < length ys = omega arith in
    omega (arith, get_or-le-largest_map f ys i x within)

pub largest_map-take-le : {A : Type 0} (f : A → ℕ) (xs : List A) (i : ℕ) → largest (map f (take i xs)) ≤ largest (map f xs)
largest_map-take-le f xs zero = omega arith
largest_map-take-le f [] (suc i) = omega arith
largest_map-take-le f (x ∷ xs) (suc i) = omega (arith, largest_map-take-le f xs i)

pub largest_map-le : {A : Type 0} (f : A → ℕ) (most : ℕ) (xs : List A) → All (λ x. f x ≤ most) xs → largest (map f xs) ≤ most
largest_map-le f most [] all = omega arith
largest_map-le f most (x ∷ xs) all =
    let first : f x ≤ most = All-head (λ x. f x ≤ most) x xs all in
    omega (arith, largest_map-le f most xs (All-tail (λ x. f x ≤ most) x xs all))

-- each part is at least one
pub type_size-positive : (type : SType) → 1 ≤ type_size type
type_size-positive type = omega (arith, type_size-out type)

layer_positive : (n : ℕ) (layer : SExprKind-F ℕ ℕ ℕ) → n ≡ expr_kind_size_step layer → 1 ≤ n
layer_positive n (SExprKind-F.Number k) e = omega arith
layer_positive n (SExprKind-F.Upper name types fields) e = omega arith
layer_positive n (SExprKind-F.Lower name types args) e = omega arith
layer_positive n (SExprKind-F.Match on arms) e = omega arith

pub expr_size-positive : (expr : SExpr) → 1 ≤ expr_size expr
expr_size-positive expr =
    layer_positive (expr_size expr) (map-SExprKind SExprKind SArm SExpr ℕ ℕ ℕ expr_kind_size arm_size expr_size (out-SExprKind expr.kind))
    (expr_size-kind expr ∙ fold_out-SExprKind ℕ ℕ ℕ expr_kind_size_step arm_size_step expr_size_step expr.kind)

pub arm_size-positive : (arm : SArm) → 1 ≤ arm_size arm
arm_size-positive arm = omega (arith, arm_size-body arm)

pub param_size-positive : (param : SParam) → 1 ≤ param_size param
param_size-positive param = omega arith

pub con_size-positive : (con : SCon) → 1 ≤ con_size con
con_size-positive con = omega arith

pub equation_size-positive : (equation : SEquation) → 1 ≤ equation_size equation
equation_size-positive equation = omega (arith, expr_size-positive equation.left)

pub fun_size-positive : (fun : SFun) → 1 ≤ fun_size fun
fun_size-positive fun = omega arith

pub item_size-positive : (item : Item) → 1 ≤ item_size item
item_size-positive (Datatype declaration) = omega arith
item_size-positive (Definition declaration) = omega arith
item_size-positive (Claim declaration) = omega arith
item_size-positive (Lemma declaration) = omega arith
item_size-positive (Replica declaration) = omega arith

-- the sizes of types
pub types_size-cons : (type : SType) (types : List SType) → types_size (type ∷ types) ≡ type_size type + types_size types
types_size-cons type types = sum_map-cons type_size type types

pub types_size-take-le : (types : List SType) (i : ℕ) → types_size (take i types) ≤ types_size types
types_size-take-le types i = sum_map-take-le type_size types i

pub types_size_more : (types : List SType) (i : ℕ) (type : SType) → i < length types →
    types_size (take (i + 1) types) ≡ types_size (take i types) + type_size (get_or types i type)
types_size_more types i type h = sum_map_more type_size types i type h

pub get_or-le-types_size : (types : List SType) (i : ℕ) (type : SType) → i < length types → type_size (get_or types i type) ≤ types_size types
get_or-le-types_size types i type h = get_or-le-sum_map type_size types i type h

pub length-le-types_size : (types : List SType) → length types ≤ types_size types
length-le-types_size types = length-le-sum_map type_size type_size-positive types

-- the sizes of exprs
pub exprs_size-cons : (expr : SExpr) (exprs : List SExpr) → exprs_size (expr ∷ exprs) ≡ expr_size expr + exprs_size exprs
exprs_size-cons expr exprs = sum_map-cons expr_size expr exprs

pub exprs_size-take-le : (exprs : List SExpr) (i : ℕ) → exprs_size (take i exprs) ≤ exprs_size exprs
exprs_size-take-le exprs i = sum_map-take-le expr_size exprs i

pub exprs_size_more : (exprs : List SExpr) (i : ℕ) (expr : SExpr) → i < length exprs →
    exprs_size (take (i + 1) exprs) ≡ exprs_size (take i exprs) + expr_size (get_or exprs i expr)
exprs_size_more exprs i expr h = sum_map_more expr_size exprs i expr h

pub get_or-le-exprs_size : (exprs : List SExpr) (i : ℕ) (expr : SExpr) → i < length exprs → expr_size (get_or exprs i expr) ≤ exprs_size exprs
get_or-le-exprs_size exprs i expr h = get_or-le-sum_map expr_size exprs i expr h

pub length-le-exprs_size : (exprs : List SExpr) → length exprs ≤ exprs_size exprs
length-le-exprs_size exprs = length-le-sum_map expr_size expr_size-positive exprs

-- the sizes of arms
pub arms_size-cons : (arm : SArm) (arms : List SArm) → arms_size (arm ∷ arms) ≡ arm_size arm + arms_size arms
arms_size-cons arm arms = sum_map-cons arm_size arm arms

pub arms_size-take-le : (arms : List SArm) (i : ℕ) → arms_size (take i arms) ≤ arms_size arms
arms_size-take-le arms i = sum_map-take-le arm_size arms i

pub arms_size_more : (arms : List SArm) (i : ℕ) (arm : SArm) → i < length arms →
    arms_size (take (i + 1) arms) ≡ arms_size (take i arms) + arm_size (get_or arms i arm)
arms_size_more arms i arm h = sum_map_more arm_size arms i arm h

pub get_or-le-arms_size : (arms : List SArm) (i : ℕ) (arm : SArm) → i < length arms → arm_size (get_or arms i arm) ≤ arms_size arms
get_or-le-arms_size arms i arm h = get_or-le-sum_map arm_size arms i arm h

pub length-le-arms_size : (arms : List SArm) → length arms ≤ arms_size arms
length-le-arms_size arms = length-le-sum_map arm_size arm_size-positive arms

-- the sizes of params
pub params_size-cons : (param : SParam) (params : List SParam) → params_size (param ∷ params) ≡ param_size param + params_size params
params_size-cons param params = sum_map-cons param_size param params

pub params_size-take-le : (params : List SParam) (i : ℕ) → params_size (take i params) ≤ params_size params
params_size-take-le params i = sum_map-take-le param_size params i

pub params_size_more : (params : List SParam) (i : ℕ) (param : SParam) → i < length params →
    params_size (take (i + 1) params) ≡ params_size (take i params) + param_size (get_or params i param)
params_size_more params i param h = sum_map_more param_size params i param h

pub get_or-le-params_size : (params : List SParam) (i : ℕ) (param : SParam) → i < length params →
    param_size (get_or params i param) ≤ params_size params
get_or-le-params_size params i param h = get_or-le-sum_map param_size params i param h

pub length-le-params_size : (params : List SParam) → length params ≤ params_size params
length-le-params_size params = length-le-sum_map param_size param_size-positive params

-- the sizes of cons
pub cons_size-cons : (con : SCon) (cons : List SCon) → cons_size (con ∷ cons) ≡ con_size con + cons_size cons
cons_size-cons con cons = sum_map-cons con_size con cons

pub cons_size-take-le : (cons : List SCon) (i : ℕ) → cons_size (take i cons) ≤ cons_size cons
cons_size-take-le cons i = sum_map-take-le con_size cons i

pub cons_size_more : (cons : List SCon) (i : ℕ) (con : SCon) → i < length cons →
    cons_size (take (i + 1) cons) ≡ cons_size (take i cons) + con_size (get_or cons i con)
cons_size_more cons i con h = sum_map_more con_size cons i con h

pub get_or-le-cons_size : (cons : List SCon) (i : ℕ) (con : SCon) → i < length cons → con_size (get_or cons i con) ≤ cons_size cons
get_or-le-cons_size cons i con h = get_or-le-sum_map con_size cons i con h

pub length-le-cons_size : (cons : List SCon) → length cons ≤ cons_size cons
length-le-cons_size cons = length-le-sum_map con_size con_size-positive cons

-- the sizes of equations
pub equations_size-cons : (equation : SEquation) (equations : List SEquation) →
    equations_size (equation ∷ equations) ≡ equation_size equation + equations_size equations
equations_size-cons equation equations = sum_map-cons equation_size equation equations

pub equations_size-take-le : (equations : List SEquation) (i : ℕ) → equations_size (take i equations) ≤ equations_size equations
equations_size-take-le equations i = sum_map-take-le equation_size equations i

pub equations_size_more : (equations : List SEquation) (i : ℕ) (equation : SEquation) → i < length equations →
    equations_size (take (i + 1) equations) ≡ equations_size (take i equations) + equation_size (get_or equations i equation)
equations_size_more equations i equation h = sum_map_more equation_size equations i equation h

pub get_or-le-equations_size : (equations : List SEquation) (i : ℕ) (equation : SEquation) → i < length equations →
    equation_size (get_or equations i equation) ≤ equations_size equations
get_or-le-equations_size equations i equation h = get_or-le-sum_map equation_size equations i equation h

pub length-le-equations_size : (equations : List SEquation) → length equations ≤ equations_size equations
length-le-equations_size equations = length-le-sum_map equation_size equation_size-positive equations

-- the sizes of funs
pub funs_size-cons : (fun : SFun) (funs : List SFun) → funs_size (fun ∷ funs) ≡ fun_size fun + funs_size funs
funs_size-cons fun funs = sum_map-cons fun_size fun funs

pub funs_size-take-le : (funs : List SFun) (i : ℕ) → funs_size (take i funs) ≤ funs_size funs
funs_size-take-le funs i = sum_map-take-le fun_size funs i

pub funs_size_more : (funs : List SFun) (i : ℕ) (fun : SFun) → i < length funs →
    funs_size (take (i + 1) funs) ≡ funs_size (take i funs) + fun_size (get_or funs i fun)
funs_size_more funs i fun h = sum_map_more fun_size funs i fun h

pub get_or-le-funs_size : (funs : List SFun) (i : ℕ) (fun : SFun) → i < length funs → fun_size (get_or funs i fun) ≤ funs_size funs
get_or-le-funs_size funs i fun h = get_or-le-sum_map fun_size funs i fun h

pub length-le-funs_size : (funs : List SFun) → length funs ≤ funs_size funs
length-le-funs_size funs = length-le-sum_map fun_size fun_size-positive funs

-- the sizes of items
pub items_size-cons : (item : Item) (items : List Item) → items_size (item ∷ items) ≡ item_size item + items_size items
items_size-cons item items = sum_map-cons item_size item items

pub items_size-take-le : (items : List Item) (i : ℕ) → items_size (take i items) ≤ items_size items
items_size-take-le items i = sum_map-take-le item_size items i

pub items_size_more : (items : List Item) (i : ℕ) (item : Item) → i < length items →
    items_size (take (i + 1) items) ≡ items_size (take i items) + item_size (get_or items i item)
items_size_more items i item h = sum_map_more item_size items i item h

pub get_or-le-items_size : (items : List Item) (i : ℕ) (item : Item) → i < length items → item_size (get_or items i item) ≤ items_size items
get_or-le-items_size items i item h = get_or-le-sum_map item_size items i item h

pub length-le-items_size : (items : List Item) → length items ≤ items_size items
length-le-items_size items = length-le-sum_map item_size item_size-positive items

-- the depths of types
pub types_depth-take-le : (types : List SType) (i : ℕ) → types_depth (take i types) ≤ types_depth types
types_depth-take-le types i = largest_map-take-le type_depth types i

pub get_or-le-types_depth : (types : List SType) (i : ℕ) (type : SType) → i < length types → type_depth (get_or types i type) ≤ types_depth types
get_or-le-types_depth types i type h = get_or-le-largest_map type_depth types i type h

-- the depths of exprs
pub exprs_depth-take-le : (exprs : List SExpr) (i : ℕ) → exprs_depth (take i exprs) ≤ exprs_depth exprs
exprs_depth-take-le exprs i = largest_map-take-le expr_depth exprs i

pub get_or-le-exprs_depth : (exprs : List SExpr) (i : ℕ) (expr : SExpr) → i < length exprs → expr_depth (get_or exprs i expr) ≤ exprs_depth exprs
get_or-le-exprs_depth exprs i expr h = get_or-le-largest_map expr_depth exprs i expr h

-- the depths of arms
pub arms_depth-take-le : (arms : List SArm) (i : ℕ) → arms_depth (take i arms) ≤ arms_depth arms
arms_depth-take-le arms i = largest_map-take-le arm_depth arms i

pub get_or-le-arms_depth : (arms : List SArm) (i : ℕ) (arm : SArm) → i < length arms → arm_depth (get_or arms i arm) ≤ arms_depth arms
get_or-le-arms_depth arms i arm h = get_or-le-largest_map arm_depth arms i arm h
