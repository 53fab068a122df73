-- The places of a tree are among those of its words, in their order: each production of the grammar, joined as it is there.
use Rattle.std.proofs.Common.{◌≡◌, ℕ, zero, suc, ◌-◌, List, [], ◌∷◌, ◌++◌, map, Some, None, refl, sym, ap, subst, ◌∙◌, append_assoc}
use Rattle.px_base.specs.declared.limits.TheConstants.{NESTING}
use Rattle.px_base.specs.declared.raw.RawProp.{RawProp}
use Rattle.px_lexer.specs.declared.token.Mark.TheVariants.{BraceL, BraceR, ParenL, ParenR, Less, Greater, Comma, FatArrow}
use Rattle.px_lexer.specs.declared.token.Key.TheVariants.{KMatch}
use Rattle.px_lexer.specs.declared.token.TokenKind.TheVariants as kinds
use Rattle.px_parser.specs.Words.{Word}
use Rattle.px_parser.specs.Phrases.{IsDone, IsSequence, IsWord, IsNumber, list, between, optional}
use Rattle.px_parser.specs.Grammar.{type, type_arguments, type_parameters, con, data_declaration, properties, with_properties, fn_type, param_kind, param, params, upper_expr, lower_expr, arm, match_expr, expr, definition, claim, equation, lemma, function, replica, item, program}
use Rattle.px_parser.specs.declared.surface.Name.{Name}
use Rattle.px_parser.specs.declared.surface.SType.{SType}
use Rattle.px_parser.specs.declared.surface.SExpr.{SExpr}
use Rattle.px_parser.specs.declared.surface.SExprKind.TheVariants as expr_kinds
use Rattle.px_parser.specs.declared.surface.Surface.{Surface}
use Rattle.px_scope.proofs.Sublists.{Place, name_at, other_at, Sub, sub_refl}
use Rattle.px_scope.proofs.Places.{name_places, prop_places, type_places, types_places, expr_places, exprs_places, args_places, arm_places, arms_places, fn_type_places, param_kind_places, param_places, params_places, con_places, cons_places, data_places, def_places, claim_places, equation_places, equations_places, lemma_places, fun_places, funs_places, replica_places, item_places, items_places, surface_places}
use Rattle.px_scope.proofs.Places.{type_places-roll, expr_places-kind, arm_places-parts, kind_places-Number, kind_places-Upper, kind_places-Lower, kind_places-Match}
use Rattle.px_scope.proofs.Placed.{Placed, word_place, word_place_is, word_places, placed_impossible, placed_word, placed_lower, placed_upper, placed_property, placed_done, placed_bind, placed_mark, placed_key, placed_either, placed_optional, placed_each, placed_list, placed_between, placed_words}

-- lists joined from the right are those joined from the left
left_three : (a b c : List Place) → a ++ (b ++ c) ≡ (a ++ b) ++ c
left_three a b c = sym (append_assoc a b c)

left_four : (a b c d : List Place) → a ++ (b ++ (c ++ d)) ≡ ((a ++ b) ++ c) ++ d
left_four a b c d = left_three a b (c ++ d) ∙ left_three (a ++ b) c d

left_five : (a b c d e : List Place) → a ++ (b ++ (c ++ (d ++ e))) ≡ (((a ++ b) ++ c) ++ d) ++ e
left_five a b c d e = left_four a b c (d ++ e) ∙ left_three ((a ++ b) ++ c) d e

-- a name's place
abbrev name_place : Name → List Place
name_place name = name_at name.at ∷ []

-- the place of a `match`
abbrev match_place : ℕ → List Place
match_place at = other_at at ∷ []

placed_arguments : (room : ℕ) → Placed [] type_places (type room) → Placed [] types_places (type_arguments room)
placed_arguments room inner = placed_optional refl (placed_between Less Greater (placed_list {places = type_places} Comma inner))

placed_type : (room : ℕ) → Placed [] type_places (type room)
unfolding type
placed_type zero = placed_impossible
placed_type (suc room) =
    placed_bind {first = name_place} placed_upper (λ name.
    placed_bind {first = types_places} (placed_arguments room (placed_type room)) (λ args.
    placed_done (type_places-roll name args)))

placed_type_parameters : Placed [] name_places type_parameters
placed_type_parameters = placed_optional refl (placed_between Less Greater (placed_words Comma (λ (name : Name). name_at name.at) placed_upper))

placed_con : Placed [] con_places con
unfolding con
placed_con =
    placed_bind {first = name_place} placed_upper (λ name.
    placed_bind {first = types_places} (placed_optional refl (placed_between ParenL ParenR (placed_list {places = type_places} Comma (placed_type NESTING)))) (λ fields.
    placed_done refl))

placed_data : Placed [] data_places data_declaration
unfolding data_declaration
placed_data =
    placed_key (λ at. placed_bind {first = name_place} placed_upper (λ name. placed_bind {first = name_places} placed_type_parameters (λ tparams.
    placed_bind {first = cons_places} (placed_between BraceL BraceR (placed_list {places = con_places} Comma placed_con)) (λ cons. placed_done refl))))

placed_properties : Placed [] prop_places properties
placed_properties = placed_words Comma (λ (prop : RawProp). name_at prop.at) placed_property

placed_with : Placed [] prop_places with_properties
unfolding with_properties
placed_with = placed_optional refl (placed_key (λ at. placed_properties))

placed_fn_type : Placed [] fn_type_places fn_type
unfolding fn_type
placed_fn_type =
    placed_key (λ at.
    placed_bind {first = types_places} (placed_between ParenL ParenR (placed_list {places = type_places} Comma (placed_type (NESTING - 1)))) (λ params.
    placed_mark (λ arrow. placed_bind {first = type_places} (placed_type (NESTING - 1)) (λ result. placed_bind {first = prop_places} placed_with (λ props.
    placed_done (left_three (types_places params) (type_places result) (prop_places props)))))))

placed_param_kind : Placed [] param_kind_places param_kind
unfolding param_kind
placed_param_kind =
    placed_either (placed_bind {first = fn_type_places} placed_fn_type (λ fn. placed_done refl))
    (placed_bind {first = type_places} (placed_type NESTING) (λ value. placed_done refl))

placed_param : Placed [] param_places param
unfolding param
placed_param =
    placed_bind {first = name_place} placed_lower (λ name. placed_mark (λ colon.
    placed_bind {first = param_kind_places} placed_param_kind (λ kind. placed_done refl)))

placed_params : Placed [] params_places params
unfolding params
placed_params = placed_between ParenL ParenR (placed_optional refl (placed_list {places = param_places} Comma placed_param))

placed_args : {inner : List Word → SExpr → Type 0} → Placed [] expr_places inner →
    Placed [] args_places (optional None (IsSequence (between ParenL (optional [] (list Comma inner)) ParenR) (λ args. IsDone (Some args))))
placed_args inner =
    placed_optional refl
    (placed_bind {first = exprs_places} (placed_between ParenL ParenR (placed_optional refl (placed_list {places = expr_places} Comma inner))) (λ args.
    placed_done refl))

module _ {types : List Word → List SType → Type 0} {inner : List Word → SExpr → Type 0} where
  placed_upper_expr : Placed [] types_places types → Placed [] expr_places inner → Placed [] expr_places (upper_expr types inner)
  unfolding upper_expr
  placed_upper_expr placed_types placed_inner =
      placed_bind {first = name_place} placed_upper (λ name. placed_bind {first = types_places} placed_types (λ types.
      placed_bind {first = exprs_places} (placed_optional refl (placed_between ParenL ParenR (placed_list {places = expr_places} Comma placed_inner))) (λ fields.
      placed_done
      (expr_places-kind (record { at = name.at; kind = expr_kinds.Upper name types fields }) ∙ kind_places-Upper name.at name types fields))))

  placed_lower_expr : Placed [] types_places types → Placed [] expr_places inner → Placed [] expr_places (lower_expr types inner)
  unfolding lower_expr
  placed_lower_expr placed_types placed_inner =
      placed_bind {first = name_place} placed_lower (λ name. placed_bind {first = types_places} placed_types (λ types.
      placed_bind {first = args_places} (placed_args placed_inner) (λ args.
      placed_done
      (expr_places-kind (record { at = name.at; kind = expr_kinds.Lower name types args }) ∙ kind_places-Lower name.at name types args))))

placed_arm : {inner : List Word → SExpr → Type 0} → Placed [] expr_places inner → Placed [] arm_places (arm inner)
unfolding arm
placed_arm inner =
    placed_bind {first = name_place} placed_upper (λ name.
    placed_bind {first = name_places} (placed_optional refl (placed_between ParenL ParenR (placed_words Comma (λ (v : Name). name_at v.at) placed_lower))) (λ vars.
    placed_mark (λ arrow. placed_bind {first = expr_places} inner (λ body.
    placed_done (arm_places-parts (record { name = name; vars = vars; body = body }))))))

placed_match : {inner : List Word → SExpr → Type 0} → Placed [] expr_places inner → Placed [] expr_places (match_expr inner)
unfolding match_expr
placed_match inner =
    placed_bind {first = match_place} (placed_word other_at (λ word value is. ap other_at is.same ∙ sym (word_place_is word (kinds.Key KMatch) is.kind))) (λ at.
    placed_bind {first = expr_places} inner (λ on.
    placed_bind {first = arms_places} (placed_between BraceL BraceR (placed_list {places = arm_places} Comma (placed_arm inner))) (λ arms.
    placed_done
    (expr_places-kind (record { at = at; kind = expr_kinds.Match on arms }) ∙ kind_places-Match at on arms))))

-- a number stands where its word does
number_place : (word : Word) (literal : SExpr) → IsNumber word literal → expr_places literal ≡ word_place word ∷ []
number_place word literal is =
    ap expr_places is.same
    ∙ expr_places-kind (record { at = word.at; kind = expr_kinds.Number word.number })
    ∙ kind_places-Number word.at word.number
    ∙ ap (λ (place : Place). place ∷ []) (sym (word_place_is word kinds.Number is.kind))

placed_number : Placed [] expr_places (IsWord IsNumber)
placed_number = record {
  placed = λ words value is.
      let same : expr_places value ≡ word_places words = number_place is.word value is.is ∙ ap word_places (sym is.whole) in
      subst (Sub (expr_places value)) same (sub_refl (expr_places value));
}

placed_expr : (room : ℕ) → Placed [] expr_places (expr room)
unfolding expr
placed_expr zero = placed_impossible
placed_expr (suc room) =
    let types = placed_arguments room (placed_type room) in
    let inner = placed_expr room in
    placed_either placed_number (placed_either (placed_upper_expr types inner) (placed_either (placed_lower_expr types inner) (placed_match inner)))

placed_definition : Placed [] def_places definition
unfolding definition
placed_definition =
    placed_key (λ at. placed_bind {first = name_place} placed_lower (λ name. placed_bind {first = name_places} placed_type_parameters (λ tparams.
    placed_bind {first = params_places} placed_params (λ params. placed_mark (λ colon. placed_bind {first = type_places} (placed_type NESTING) (λ result.
    placed_bind {first = prop_places} placed_with (λ props.
    placed_bind {first = expr_places} (placed_between BraceL BraceR (placed_expr NESTING)) (λ body.
    placed_done (ap (λ (rest : List Place). name_at name.at ∷ rest) (left_five (name_places tparams) (params_places params) (type_places result) (prop_places props) (expr_places body)))))))))))

placed_claim : Placed [] claim_places claim
unfolding claim
placed_claim =
    placed_key (λ at. placed_bind {first = name_place} placed_lower (λ name. placed_mark (λ colon.
    placed_bind {first = prop_places} placed_properties (λ props. placed_done refl))))

placed_equation : Placed [] equation_places equation
unfolding equation
placed_equation =
    placed_bind {first = expr_places} (placed_expr NESTING) (λ left. placed_mark (λ equal.
    placed_bind {first = expr_places} (placed_expr NESTING) (λ right. placed_done refl)))

placed_lemma : Placed [] lemma_places lemma
unfolding lemma
placed_lemma =
    placed_key (λ at. placed_bind {first = name_place} placed_lower (λ name. placed_bind {first = name_places} placed_type_parameters (λ tparams.
    placed_bind {first = params_places} placed_params (λ params. placed_mark (λ colon.
    placed_bind {first = equations_places} (placed_list {places = equation_places} FatArrow placed_equation) (λ equations.
    placed_done (ap (λ (rest : List Place). name_at name.at ∷ rest) (left_three (name_places tparams) (params_places params) (equations_places equations)))))))))

placed_function : Placed [] fun_places function
unfolding function
placed_function =
    placed_bind {first = name_place} placed_lower (λ name.
    placed_bind {first = types_places} (placed_arguments NESTING (placed_type NESTING)) (λ args. placed_done refl))

placed_replica : Placed [] replica_places replica
unfolding replica
placed_replica =
    placed_key (λ at. placed_bind {first = name_place} placed_lower (λ name. placed_mark (λ colon.
    placed_bind {first = type_places} (placed_type NESTING) (λ state. placed_key (λ key_from.
    placed_bind {first = expr_places} (placed_expr NESTING) (λ from. placed_key (λ key_by.
    placed_bind {first = fun_places} placed_function (λ merge.
    placed_bind {first = funs_places} (placed_optional refl (placed_between ParenL ParenR (placed_list {places = fun_places} Comma placed_function))) (λ funs.
    placed_done (ap (λ (rest : List Place). name_at name.at ∷ rest) (left_four (type_places state) (expr_places from) (fun_places merge) (funs_places funs))))))))))))

placed_item : Placed [] item_places item
unfolding item
placed_item =
    placed_either (placed_bind {first = data_places} placed_data (λ declaration. placed_done refl))
    (placed_either (placed_bind {first = def_places} placed_definition (λ declaration. placed_done refl))
    (placed_either (placed_bind {first = claim_places} placed_claim (λ declaration. placed_done refl))
    (placed_either (placed_bind {first = lemma_places} placed_lemma (λ declaration. placed_done refl))
    (placed_bind {first = replica_places} placed_replica (λ declaration. placed_done refl)))))

placed_surface : Placed [] surface_places program
unfolding program
placed_surface = placed_bind {first = items_places} (placed_each {places = item_places} placed_item) (λ items. placed_done refl)

pub placed_program : (words : List Word) (surface : Surface) → program words surface → Sub (surface_places surface) (map word_place words)
placed_program words surface is = placed_surface.placed words surface is
