-- The types and expressions of the tree of some tokens nest within the limit: each production of the grammar, joined as
-- it is there.
use Rattle.std.proofs.Common.{ℕ, zero, suc, ◌-◌, ◌≤◌, List, [], Option, Some, None, All, arith}
use Rattle.std.proofs.lemmas.List.Elements.{All-nil}
use Rattle.px_base.specs.declared.limits.TheConstants.{NESTING}
use Rattle.px_lexer.specs.declared.token.Mark.TheVariants.{BraceL, BraceR, ParenL, ParenR, Less, Greater, Comma, FatArrow}
use Rattle.px_parser.specs.Words.{Word}
use Rattle.px_parser.specs.Phrases.{IsDone, IsSequence, IsWord, IsNumber, list, between, optional}
use Rattle.px_parser.specs.Grammar.{type, type_arguments, con, data_declaration, fn_type, param_kind, param, params, upper_expr, lower_expr, arm, match_expr, expr, definition, equation, lemma, function, replica, item, program}
use Rattle.px_parser.specs.declared.surface.SType.{SType}
use Rattle.px_parser.specs.declared.surface.SArm.{SArm}
use Rattle.px_parser.specs.declared.surface.SExpr.{SExpr}
use Rattle.px_parser.specs.Sizes.{type_depth, expr_depth, args_depth, arm_depth, IsTypeWithin, IsFnTypeWithin, IsParamKindWithin, IsParamWithin, IsConWithin, IsDataWithin, IsDefWithin, IsEquationWithin, IsLemmaWithin, IsFunWithin, IsReplicaWithin, IsItemWithin, IsWithinNesting}
use Rattle.px_parser.specs.SizeEquations.{type_depth-roll, arm_depth-body, expr_depth-Number, expr_depth-Upper, expr_depth-Lower, expr_depth-Match, largest_map-le}
use Rattle.px_parser.proofs.Yields.{Yields, yields_impossible, yields_done, yields_bind, yields_skip, yields_either, yields_optional, yields_each, yields_list, yields_between, yields_lists}

-- the type is no deeper
abbrev Type-le : ℕ → SType → Type 0
Type-le room type = type_depth type ≤ room

-- the expression is no deeper
abbrev Expr-le : ℕ → SExpr → Type 0
Expr-le room expr = expr_depth expr ≤ room

-- the arm is no deeper
abbrev Arm-le : ℕ → SArm → Type 0
Arm-le room arm = arm_depth arm ≤ room

-- each argument of a call is no deeper, where it has any
abbrev Args-le : ℕ → Option (List SExpr) → Type 0
Args-le room args = args_depth args ≤ room

nested_arguments : (room : ℕ) → Yields (Type-le room) (type room) → Yields (All (Type-le room)) (type_arguments room)
nested_arguments room nested = yields_lists Less Comma Greater nested

nested_type : (room : ℕ) → Yields (Type-le room) (type room)
unfolding type
nested_type zero = yields_impossible
nested_type (suc room) =
    yields_skip (λ name. yields_bind (nested_arguments room (nested_type room)) (λ args within.
    yields_done (omega (arith, type_depth-roll name args, largest_map-le type_depth room args within))))

nested_con : Yields IsConWithin con
unfolding con
nested_con = yields_skip (λ name. yields_bind (yields_lists ParenL Comma ParenR (nested_type NESTING)) (λ fields within. yields_done within))

nested_data : Yields IsDataWithin data_declaration
unfolding data_declaration
nested_data =
    yields_skip (λ at. yields_skip (λ name. yields_skip (λ tparams.
    yields_bind (yields_between BraceL BraceR (yields_list Comma nested_con)) (λ cons within. yields_done within))))

-- a type of a function's type, which is a level below
nested_part : Yields IsTypeWithin (type (NESTING - 1))
nested_part = record {
  yields = λ words value is.
      let within : type_depth value ≤ NESTING - 1 = (nested_type (NESTING - 1)).yields words value is in
      omega arith;
}

nested_fn_type : Yields IsFnTypeWithin fn_type
unfolding fn_type
nested_fn_type =
    yields_skip (λ at. yields_bind (yields_between ParenL ParenR (yields_list Comma nested_part)) (λ params within. yields_skip (λ arrow.
    yields_bind nested_part (λ result result_within. yields_skip (λ props. yields_done (record { params = within; result = result_within }))))))

nested_param_kind : Yields IsParamKindWithin param_kind
unfolding param_kind
nested_param_kind =
    yields_either (yields_bind nested_fn_type (λ fn within. yields_done within))
    (yields_bind (nested_type NESTING) (λ value within. yields_done within))

nested_param : Yields IsParamWithin param
unfolding param
nested_param = yields_skip (λ name. yields_skip (λ colon. yields_bind nested_param_kind (λ kind within. yields_done within)))

nested_params : Yields (All IsParamWithin) params
unfolding params
nested_params = yields_between ParenL ParenR (yields_optional (All-nil IsParamWithin) (yields_list Comma nested_param))

nested_args : (room : ℕ) {inner : List Word → SExpr → Type 0} → Yields (Expr-le room) inner →
    Yields (Args-le room) (optional None (IsSequence (between ParenL (optional [] (list Comma inner)) ParenR) (λ args. IsDone (Some args))))
nested_args room nested =
    yields_optional (omega arith)
    (yields_bind (yields_between ParenL ParenR (yields_optional (All-nil (Expr-le room)) (yields_list Comma nested))) (λ args within.
    yields_done (largest_map-le expr_depth room args within)))

module _ (room : ℕ) {types : List Word → List SType → Type 0} {inner : List Word → SExpr → Type 0} where
  nested_upper_expr : Yields (All (Type-le room)) types → Yields (Expr-le room) inner → Yields (Expr-le (suc room)) (upper_expr types inner)
  unfolding upper_expr
  nested_upper_expr nested_types nested =
      yields_skip (λ name. yields_bind nested_types (λ types types_within. yields_bind (yields_lists ParenL Comma ParenR nested) (λ fields within.
      let types_most = largest_map-le type_depth room types types_within in
      yields_done (omega (arith, expr_depth-Upper name.at name types fields, types_most, largest_map-le expr_depth room fields within)))))

  nested_lower_expr : Yields (All (Type-le room)) types → Yields (Expr-le room) inner → Yields (Expr-le (suc room)) (lower_expr types inner)
  unfolding lower_expr
  nested_lower_expr nested_types nested =
      yields_skip (λ name. yields_bind nested_types (λ types types_within. yields_bind (nested_args room nested) (λ args within.
      yields_done (omega (arith, within, expr_depth-Lower name.at name types args, largest_map-le type_depth room types types_within)))))

nested_arm : (room : ℕ) {inner : List Word → SExpr → Type 0} → Yields (Expr-le room) inner → Yields (Arm-le room) (arm inner)
unfolding arm
nested_arm room nested = yields_skip (λ name. yields_skip (λ vars. yields_skip (λ arrow. yields_bind nested (λ body within.
    yields_done (omega (arith, within, arm_depth-body (record { name = name; vars = vars; body = body })))))))

nested_match : (room : ℕ) {inner : List Word → SExpr → Type 0} → Yields (Expr-le room) inner → Yields (Expr-le (suc room)) (match_expr inner)
unfolding match_expr
nested_match room nested =
    yields_skip (λ at. yields_bind nested (λ on on_within.
    yields_bind (yields_between BraceL BraceR (yields_list Comma (nested_arm room nested))) (λ arms within.
    yields_done (omega (arith, on_within, expr_depth-Match at on arms, largest_map-le arm_depth room arms within)))))

nested_number : (room : ℕ) → Yields (Expr-le (suc room)) (IsWord IsNumber)
nested_number room = record { yields = λ words value is. rw (is.is.same, expr_depth-Number) (omega arith) }

nested_expr : (room : ℕ) → Yields (Expr-le room) (expr room)
unfolding expr
nested_expr zero = yields_impossible
nested_expr (suc room) =
    let types = nested_arguments room (nested_type room) in
    let inner = nested_expr room in
    yields_either (nested_number room) (yields_either (nested_upper_expr room types inner)
    (yields_either (nested_lower_expr room types inner) (nested_match room inner)))

nested_definition : Yields IsDefWithin definition
unfolding definition
nested_definition =
    yields_skip (λ at. yields_skip (λ name. yields_skip (λ tparams. yields_bind nested_params (λ params params_within. yields_skip (λ colon.
    yields_bind (nested_type NESTING) (λ result result_within. yields_skip (λ props.
    yields_bind (yields_between BraceL BraceR (nested_expr NESTING)) (λ body body_within.
    yields_done (record { params = params_within; result = result_within; body = body_within })))))))))

nested_equation : Yields IsEquationWithin equation
unfolding equation
nested_equation =
    yields_bind (nested_expr NESTING) (λ left left_within. yields_skip (λ equal. yields_bind (nested_expr NESTING) (λ right right_within.
    yields_done (record { left = left_within; right = right_within }))))

nested_lemma : Yields IsLemmaWithin lemma
unfolding lemma
nested_lemma =
    yields_skip (λ at. yields_skip (λ name. yields_skip (λ tparams. yields_bind nested_params (λ params params_within. yields_skip (λ colon.
    yields_bind (yields_list FatArrow nested_equation) (λ equations within.
    yields_done (record { params = params_within; equations = within })))))))

nested_function : Yields IsFunWithin function
unfolding function
nested_function = yields_skip (λ name. yields_bind (nested_arguments NESTING (nested_type NESTING)) (λ args within. yields_done within))

nested_replica : Yields IsReplicaWithin replica
unfolding replica
nested_replica =
    yields_skip (λ at. yields_skip (λ name. yields_skip (λ colon. yields_bind (nested_type NESTING) (λ state state_within. yields_skip (λ key_from.
    yields_bind (nested_expr NESTING) (λ from from_within. yields_skip (λ key_by. yields_bind nested_function (λ merge merge_within.
    yields_bind (yields_lists ParenL Comma ParenR nested_function) (λ funs funs_within.
    yields_done (record { state = state_within; from = from_within; merge = merge_within; funs = funs_within }))))))))))

nested_item : Yields IsItemWithin item
unfolding item
nested_item =
    yields_either (yields_bind nested_data (λ declaration within. yields_done within))
    (yields_either (yields_bind nested_definition (λ declaration within. yields_done within))
    (yields_either (yields_skip (λ declaration. yields_done tt))
    (yields_either (yields_bind nested_lemma (λ declaration within. yields_done within))
    (yields_bind nested_replica (λ declaration within. yields_done within)))))

pub nested_program : Yields IsWithinNesting program
unfolding program
nested_program = yields_bind (yields_each nested_item) (λ items within. yields_done within)
