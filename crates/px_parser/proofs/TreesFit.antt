-- The tree of some tokens has at most as many parts as they are: each production of the grammar, joined as it is there.
use Rattle.std.proofs.Common.{ℕ, zero, suc, ◌-◌, List, [], length, Some, None, arith}
use Rattle.px_base.specs.declared.limits.TheConstants.{NESTING}
use Rattle.px_lexer.specs.declared.token.Mark.TheVariants.{BraceL, BraceR, ParenL, ParenR, Less, Greater, Comma, FatArrow}
use Rattle.px_parser.specs.Words.{Word}
use Rattle.px_parser.specs.Phrases.{IsDone, IsSequence, IsWord, IsLower, IsUpper, IsProperty, IsNumber, list, between, optional}
use Rattle.px_parser.specs.Grammar.{type, type_arguments, type_parameters, con, data_declaration, properties, with_properties, fn_type, param_kind, param, params, upper_expr, lower_expr, arm, match_expr, expr, definition, claim, equation, lemma, function, replica, item, program}
use Rattle.px_parser.specs.declared.surface.SType.{SType}
use Rattle.px_parser.specs.declared.surface.SExpr.{SExpr}
use Rattle.px_parser.specs.Sizes.{type_size, types_size, expr_size, exprs_size, args_size, arm_size, arms_size, fn_type_size, param_kind_size, param_size, params_size, con_size, data_size, def_size, claim_size, equation_size, lemma_size, fun_size, funs_size, replica_size, item_size, surface_size}
use Rattle.px_parser.specs.SizeEquations.{type_size-roll, arm_size-body, expr_size-Number, expr_size-Upper, expr_size-Lower, expr_size-Match}
use Rattle.px_parser.proofs.Fits.{Fits, fits_impossible, fits_word, fits_done, fits_bind, fits_either, fits_optional, fits_each, fits_list, fits_between, fits_words, fits_after}

fits_arguments : (room : ℕ) → Fits 0 type_size (type room) → Fits 0 types_size (type_arguments room)
fits_arguments room fits = fits_optional (omega arith) (fits_between Less Greater (fits_list Comma fits))

fits_type : (room : ℕ) → Fits 0 type_size (type room)
unfolding type
fits_type zero = fits_impossible
fits_type (suc room) =
    fits_bind fits_word (λ name. fits_bind (fits_arguments room (fits_type room)) (λ args. fits_done (omega (arith, type_size-roll name args))))

fits_type_parameters : Fits 0 length type_parameters
fits_type_parameters = fits_optional (omega arith) (fits_between Less Greater (fits_words Comma IsUpper))

fits_con : Fits 0 con_size con
unfolding con
fits_con =
    fits_bind fits_word (λ name.
    fits_bind {first = types_size} (fits_optional (omega arith) (fits_between ParenL ParenR (fits_list Comma (fits_type NESTING)))) (λ fields.
    fits_done (omega arith)))

fits_data : Fits 0 data_size data_declaration
unfolding data_declaration
fits_data =
    fits_bind fits_word (λ at. fits_bind fits_word (λ name. fits_bind fits_type_parameters (λ tparams.
    fits_bind (fits_between BraceL BraceR (fits_list Comma fits_con)) (λ cons. fits_done (omega arith)))))

fits_properties : Fits 0 length properties
fits_properties = fits_words Comma IsProperty

fits_with : Fits 0 length with_properties
unfolding with_properties
fits_with = fits_optional (omega arith) (fits_after fits_properties)

fits_fn_type : Fits 0 fn_type_size fn_type
unfolding fn_type
fits_fn_type =
    fits_bind fits_word (λ at. fits_bind {first = types_size} (fits_between ParenL ParenR (fits_list Comma (fits_type (NESTING - 1)))) (λ params.
    fits_bind fits_word (λ arrow. fits_bind (fits_type (NESTING - 1)) (λ result. fits_bind fits_with (λ props. fits_done (omega arith))))))

fits_param_kind : Fits 0 param_kind_size param_kind
unfolding param_kind
fits_param_kind =
    fits_either (fits_bind fits_fn_type (λ fn. fits_done (omega arith))) (fits_bind (fits_type NESTING) (λ value. fits_done (omega arith)))

fits_param : Fits 0 param_size param
unfolding param
fits_param = fits_bind fits_word (λ name. fits_bind fits_word (λ colon. fits_bind fits_param_kind (λ kind. fits_done (omega arith))))

fits_params : Fits 0 params_size params
unfolding params
fits_params = fits_between ParenL ParenR (fits_optional (omega arith) (fits_list Comma fits_param))

fits_args : {inner : List Word → SExpr → Type 0} → Fits 0 expr_size inner →
    Fits 0 args_size (optional None (IsSequence (between ParenL (optional [] (list Comma inner)) ParenR) (λ args. IsDone (Some args))))
fits_args fits =
    fits_optional (omega arith)
    (fits_bind (fits_between ParenL ParenR (fits_optional (omega arith) (fits_list Comma fits))) (λ args. fits_done (omega arith)))

module _ {types : List Word → List SType → Type 0} {inner : List Word → SExpr → Type 0} where
  fits_upper_expr : Fits 0 types_size types → Fits 0 expr_size inner → Fits 0 expr_size (upper_expr types inner)
  unfolding upper_expr
  fits_upper_expr fits_types fits =
      fits_bind fits_word (λ name. fits_bind fits_types (λ types.
      fits_bind {first = exprs_size} (fits_optional (omega arith) (fits_between ParenL ParenR (fits_list Comma fits))) (λ fields.
      fits_done (omega (arith, expr_size-Upper name.at name types fields)))))

  fits_lower_expr : Fits 0 types_size types → Fits 0 expr_size inner → Fits 0 expr_size (lower_expr types inner)
  unfolding lower_expr
  fits_lower_expr fits_types fits =
      fits_bind fits_word (λ name. fits_bind fits_types (λ types. fits_bind (fits_args fits) (λ args.
      fits_done (omega (arith, expr_size-Lower name.at name types args)))))

fits_arm : {inner : List Word → SExpr → Type 0} → Fits 0 expr_size inner → Fits 0 arm_size (arm inner)
unfolding arm
fits_arm fits =
    fits_bind fits_word (λ name.
    fits_bind {first = λ vars. length vars} (fits_optional (omega arith) (fits_between ParenL ParenR (fits_words Comma IsLower))) (λ vars.
    fits_bind fits_word (λ arrow. fits_bind fits (λ body.
    fits_done (omega (arith, arm_size-body (record { name = name; vars = vars; body = body })))))))

fits_match : {inner : List Word → SExpr → Type 0} → Fits 0 expr_size inner → Fits 0 expr_size (match_expr inner)
unfolding match_expr
fits_match fits =
    fits_bind fits_word (λ at. fits_bind fits (λ on.
    fits_bind {first = arms_size} (fits_between BraceL BraceR (fits_list Comma (fits_arm fits))) (λ arms.
    fits_done (omega (arith, expr_size-Match at on arms)))))

fits_number : Fits 0 expr_size (IsWord IsNumber)
fits_number = record { fits = λ words value is. rw (is.whole, is.is.same, expr_size-Number) (omega arith) }

fits_expr : (room : ℕ) → Fits 0 expr_size (expr room)
unfolding expr
fits_expr zero = fits_impossible
fits_expr (suc room) =
    let types = fits_arguments room (fits_type room) in
    let inner = fits_expr room in
    fits_either fits_number (fits_either (fits_upper_expr types inner) (fits_either (fits_lower_expr types inner) (fits_match inner)))

fits_definition : Fits 0 def_size definition
unfolding definition
fits_definition =
    fits_bind fits_word (λ at. fits_bind fits_word (λ name. fits_bind fits_type_parameters (λ tparams. fits_bind fits_params (λ params.
    fits_bind fits_word (λ colon. fits_bind (fits_type NESTING) (λ result. fits_bind fits_with (λ props.
    fits_bind (fits_between BraceL BraceR (fits_expr NESTING)) (λ body.
    fits_done (omega arith)))))))))

fits_claim : Fits 0 claim_size claim
unfolding claim
fits_claim =
    fits_bind fits_word (λ at. fits_bind fits_word (λ name. fits_bind fits_word (λ colon. fits_bind fits_properties (λ props.
    fits_done (omega arith)))))

fits_equation : Fits 0 equation_size equation
unfolding equation
fits_equation =
    fits_bind (fits_expr NESTING) (λ left. fits_bind fits_word (λ equal. fits_bind (fits_expr NESTING) (λ right. fits_done (omega arith))))

fits_lemma : Fits 0 lemma_size lemma
unfolding lemma
fits_lemma =
    fits_bind fits_word (λ at. fits_bind fits_word (λ name. fits_bind fits_type_parameters (λ tparams. fits_bind fits_params (λ params.
    fits_bind fits_word (λ colon. fits_bind (fits_list FatArrow fits_equation) (λ equations. fits_done (omega arith)))))))

fits_function : Fits 0 fun_size function
unfolding function
fits_function = fits_bind fits_word (λ name. fits_bind (fits_arguments NESTING (fits_type NESTING)) (λ args. fits_done (omega arith)))

fits_replica : Fits 0 replica_size replica
unfolding replica
fits_replica =
    fits_bind fits_word (λ at. fits_bind fits_word (λ name. fits_bind fits_word (λ colon. fits_bind (fits_type NESTING) (λ state.
    fits_bind fits_word (λ key_from. fits_bind (fits_expr NESTING) (λ from. fits_bind fits_word (λ key_by. fits_bind fits_function (λ merge.
    fits_bind {first = funs_size} (fits_optional (omega arith) (fits_between ParenL ParenR (fits_list Comma fits_function))) (λ funs.
    fits_done (omega arith))))))))))

fits_item : Fits 0 item_size item
unfolding item
fits_item =
    fits_either (fits_bind fits_data (λ declaration. fits_done (omega arith)))
    (fits_either (fits_bind fits_definition (λ declaration. fits_done (omega arith)))
    (fits_either (fits_bind fits_claim (λ declaration. fits_done (omega arith)))
    (fits_either (fits_bind fits_lemma (λ declaration. fits_done (omega arith)))
    (fits_bind fits_replica (λ declaration. fits_done (omega arith))))))

pub fits_program : Fits 0 surface_size program
unfolding program
fits_program = fits_bind (fits_each fits_item) (λ items. fits_done (omega arith))
