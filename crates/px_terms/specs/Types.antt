-- Types and functions as trees: their sizes, their depths and their instances.
use Rattle.std.specs.Prelude.{ℕ, zero, suc, ◌+◌, List, [], ◌∷◌, map, sum, unwrap_or, slice_get}
use Rattle.px_base.specs.Largest.{largest}
use Rattle.px_terms.specs.declared.types.Ty.{Ty}
use Rattle.px_terms.specs.declared.types.Ty.TheVariants.{Word, Var, Con}
use Rattle.px_terms.specs.declared.types.Ty.TheOpen.{Ty-F}
use Rattle.px_terms.specs.declared.types.Ty.TheFolds.{fold-Ty}
use Rattle.px_terms.specs.declared.types.FnType.{FnType}
use Rattle.px_terms.specs.declared.types.Fun.{Fun}
use Rattle.px_base.specs.declared.head.Head.{Head}
use Rattle.px_base.specs.declared.head.Head.TheVariants.{Def, Wle, Weq, FnVar}

-- the numbers from start on, count of them
abbrev pub numbers_from : ℕ → ℕ → List ℕ
numbers_from start zero = []
numbers_from start (suc count) = start ∷ numbers_from (start + 1) count

-- a type is one node above its arguments
abbrev pub ty_size_step : Ty-F ℕ → ℕ
ty_size_step Ty-F.Word = 1
ty_size_step (Ty-F.Var n) = 1
ty_size_step (Ty-F.Con d args) = 1 + sum args

-- the nodes of a type
abbrev pub ty_size : Ty → ℕ
ty_size = fold-Ty ℕ ty_size_step

-- the nodes of several types
abbrev pub tys_size : List Ty → ℕ
tys_size types = sum (map ty_size types)

-- a type without arguments has depth 1
abbrev pub ty_depth_step : Ty-F ℕ → ℕ
ty_depth_step Ty-F.Word = 1
ty_depth_step (Ty-F.Var n) = 1
ty_depth_step (Ty-F.Con d args) = 1 + largest args

-- the depth of a type
abbrev pub ty_depth : Ty → ℕ
ty_depth = fold-Ty ℕ ty_depth_step

-- the depth of the deepest of several types
abbrev pub tys_depth : List Ty → ℕ
tys_depth types = largest (map ty_depth types)

-- a function argument is one node above its types
abbrev pub fun_size : Fun → ℕ
fun_size f = 1 + tys_size f.types

-- a function argument is one level above its types
abbrev pub fun_depth : Fun → ℕ
fun_depth f = 1 + tys_depth f.types

-- each type variable is replaced by the type of its number, where there is one
abbrev pub ty_instance_step : List Ty → Ty-F Ty → Ty
ty_instance_step types Ty-F.Word = Word
ty_instance_step types (Ty-F.Var n) = unwrap_or (slice_get types n) (Var n)
ty_instance_step types (Ty-F.Con d args) = Con d args

-- the type with these types put in for its type variables
abbrev pub ty_instance : List Ty → Ty → Ty
ty_instance types = fold-Ty Ty (ty_instance_step types)

-- the same of each type of a list
abbrev pub tys_instance : List Ty → List Ty → List Ty
tys_instance types = map (ty_instance types)

-- the function with its type variables replaced
abbrev pub fun_with_types : List Ty → Fun → Fun
fun_with_types types f = record { head = f.head; types = tys_instance types f.types }

-- a function variable is replaced by the function of its number, where there is one
abbrev pub function_at : Head → List Fun → Fun → Fun
function_at (FnVar n) funs f = unwrap_or (slice_get funs n) f
function_at (Def n) funs f = f
function_at Wle funs f = f
function_at Weq funs f = f

-- the function with these types and functions put in for its variables
abbrev pub fun_instance : List Ty → List Fun → Fun → Fun
fun_instance types funs f = function_at f.head funs (fun_with_types types f)

-- the function type with these types put in for its type variables
abbrev pub fn_type_instance : List Ty → FnType → FnType
fn_type_instance types F = record F { params = tys_instance types F.params; result = ty_instance types F.result }

-- a definition's own type parameters in order, so many
abbrev pub own_types : ℕ → List Ty
own_types count = map (λ (i : ℕ). Var i) (numbers_from 0 count)

-- a definition's own function parameters in order, so many
abbrev pub own_functions : ℕ → List Fun
own_functions count = map (λ (i : ℕ). record { head = FnVar i; types = [] }) (numbers_from 0 count)
