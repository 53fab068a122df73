-- Definitions, lemmas and replicas, stage by stage: where a stage fails, and where all are fine.
use Rattle.std.proofs.Common.{◌≡◌, ℕ, List, [], ◌∷◌, ◌++◌, length, Some, None, Result, refl, sym, ap, ◌∙◌, subst}
use Rattle.std.specs.List.{fold}
use Rattle.std.specs.Result.{IsErrAnd}
use Rattle.px_base.specs.declared.prop.Prop.{Prop}
use Rattle.px_base.specs.declared.raw.RawTy.{RawTy}
use Rattle.px_base.specs.declared.raw.RawProp.{RawProp}
use Rattle.px_base.specs.declared.raw.RawTerm.{RawTerm}
use Rattle.px_parser.specs.declared.surface.Name.{Name}
use Rattle.px_parser.specs.declared.surface.SParam.{SParam}
use Rattle.px_parser.specs.declared.surface.SParamKind.{SParamKind}
use Rattle.px_parser.specs.declared.surface.SParamKind.TheVariants as param_kinds
use Rattle.px_parser.specs.declared.surface.SDef.{SDef}
use Rattle.px_parser.specs.declared.surface.Item.{Item}
use Rattle.px_parser.specs.declared.surface.Item.TheVariants as items
use Rattle.px_scope.specs.declared.ends.ScopeEnd.{ScopeEnd}
use Rattle.px_scope.specs.declared.globals.Meaning.TheVariants.{Definition}
use Rattle.px_scope.specs.declared.globals.Globals.{Globals}
use Rattle.px_scope.specs.declared.locals.Locals.{Locals}
use Rattle.px_scope.specs.declared.parameters.Parameters.{Parameters}
use Rattle.px_scope.specs.declared.declarations.Heading.{Heading}
use Rattle.px_scope.specs.Rules.{new_lower_fault}
use Rattle.px_scope.specs.Uses.{Use, first_broken, type_uses, Data, expr_uses, properties_uses}
use Rattle.px_scope.specs.Numbers.{IsType, IsTerm}
use Rattle.px_scope.specs.Declaring.{props_of, with_parameter_of, with_parameter, with_lower, with_definition, with_claimed, function_count, type_locals, first_locals, parameter_locals, body_locals, after}
use Rattle.px_scope.specs.ItemUses.{heading_uses, definition_uses}
use Rattle.px_scope.specs.Programs.{IsDefinition}
use Rattle.px_scope.specs.Answers.{Fails, Fine, Resolves, AreBoth, IsHeading}
use Rattle.px_scope.proofs.Firsts.{fine_first, fine_both, fails_front, fails_back, fails_later, passed_on}

type_stays : (L : Locals) (name : Name) (kind : SParamKind) → (with_parameter_of L name kind).types ≡ L.types
type_stays L name (param_kinds.Function f) = refl
type_stays L name (param_kinds.Value s) = refl

types_stay : (L : Locals) (params : List SParam) → (fold with_parameter L params).types ≡ L.types
types_stay L [] = refl
types_stay L (p ∷ params) = types_stay (with_parameter L p) params ∙ type_stays L p.name p.kind

-- the type parameters where the parameters are local
pub types_of_locals : (tparams : List Name) (params : List SParam) → (parameter_locals tparams params).types ≡ type_locals tparams
types_of_locals tparams params = types_stay (first_locals tparams) params

-- What is local after the heading of a declaration, taken apart.
pub record Opened (G : Globals) (tparams : List Name) (params : List SParam) (locals : Locals) (both : Parameters) : Type 0 where
  pub locals_are : locals ≡ parameter_locals tparams params
  pub are_both : AreBoth G (type_locals tparams) params both
  pub types_are : locals.types ≡ type_locals tparams

-- a heading that is taken apart
pub opened : (G : Globals) (tparams : List Name) (params : List SParam) (heading : Heading) (locals : Locals) (both : Parameters) → heading.locals ≡ locals → heading.params ≡ both → IsHeading G tparams params heading → Opened G tparams params locals both
opened G tparams params heading locals both locals_is both_is is = record {
  locals_are = sym locals_is ∙ is.locals;
  are_both = subst (AreBoth G (type_locals tparams) params) both_is is.are_both;
  types_are = ap (λ (L : Locals). L.types) (sym locals_is ∙ is.locals) ∙ types_of_locals tparams params;
}

module _ (text : List Item) (G : Globals) (d : SDef) (new : new_lower_fault G d.name.text ≡ None) where
  abbrev heading : List Use
  heading = heading_uses text G d.tparams d.params

  abbrev result : List Use
  result = type_uses text G (type_locals d.tparams) d.result

  abbrev props : List Use
  props = properties_uses [] d.props

  abbrev body : List Use
  body = expr_uses text (with_definition G d) d.body Data (body_locals (length G.claimed) d)

  fails : {Z : Type 0} (Is : Z → Type 0) (r : Result Z ScopeEnd) (end : ScopeEnd) → IsErrAnd r (λ e. e ≡ end) → Fails (first_broken (heading ++ (result ++ (props ++ body)))) end → Resolves (definition_uses text G d) Is r
  fails Is r end is h = passed_on Is (definition_uses text G d) r end is (fails_later d.name.at (new_lower_fault G d.name.text) (heading ++ (result ++ (props ++ body))) end new h)

  -- its heading fails
  pub definition_heading_fails : {Z : Type 0} (Is : Z → Type 0) (r : Result Z ScopeEnd) (end : ScopeEnd) → IsErrAnd r (λ e. e ≡ end) → (ns : List Name) (ps : List SParam) → ns ≡ d.tparams → ps ≡ d.params → Fails (first_broken (heading_uses text G ns ps)) end → Resolves (definition_uses text G d) Is r
  definition_heading_fails Is r end is ns ps ns_are ps_are h = fails Is r end is (fails_front heading (result ++ (props ++ body)) end (subst (λ xs. Fails (first_broken (heading_uses text G d.tparams xs)) end) ps_are (subst (λ xs. Fails (first_broken (heading_uses text G xs ps)) end) ns_are h)))

  module _ (locals : Locals) (both : Parameters) (ns : List Name) (ps : List SParam) (ns_are : ns ≡ d.tparams) (ps_are : ps ≡ d.params) (fine_heading_of : first_broken (heading_uses text G ns ps) ≡ None) (given : Opened G ns ps locals both) where
    fine_heading : first_broken heading ≡ None
    fine_heading = subst (λ xs. first_broken (heading_uses text G d.tparams xs) ≡ None) ps_are (subst (λ xs. first_broken (heading_uses text G xs ps) ≡ None) ns_are fine_heading_of)

    is_open : Opened G d.tparams d.params locals both
    is_open = subst (λ xs. Opened G d.tparams xs locals both) ps_are (subst (λ xs. Opened G xs ps locals both) ns_are given)

    -- its result's type fails
    pub definition_result_fails : {Z : Type 0} (Is : Z → Type 0) (r : Result Z ScopeEnd) (end : ScopeEnd) → IsErrAnd r (λ e. e ≡ end) → Fails (first_broken (type_uses text G locals.types d.result)) end → Resolves (definition_uses text G d) Is r
    definition_result_fails Is r end is h = fails Is r end is (fails_back heading (result ++ (props ++ body)) end fine_heading (fails_front result (props ++ body) end (subst (λ T. Fails (first_broken (type_uses text G T d.result)) end) is_open.types_are h)))

    module _ (fine_result_of : first_broken (type_uses text G locals.types d.result) ≡ None) where
      fine_result : first_broken result ≡ None
      fine_result = subst (λ T. first_broken (type_uses text G T d.result) ≡ None) is_open.types_are fine_result_of

      -- its properties fail
      pub definition_props_fail : {Z : Type 0} (Is : Z → Type 0) (r : Result Z ScopeEnd) (end : ScopeEnd) → IsErrAnd r (λ e. e ≡ end) → (none : List Prop) (qs : List RawProp) → none ≡ [] → qs ≡ d.props → Fails (first_broken (properties_uses none qs)) end → Resolves (definition_uses text G d) Is r
      definition_props_fail Is r end is none qs none_is qs_are h = fails Is r end is (fails_back heading (result ++ (props ++ body)) end fine_heading (fails_back result (props ++ body) end fine_result (fails_front props body end (subst (λ xs. Fails (first_broken (properties_uses [] xs)) end) qs_are (subst (λ xs. Fails (first_broken (properties_uses xs qs)) end) none_is h)))))

      module _ (none : List Prop) (qs : List RawProp) (none_is : none ≡ []) (qs_are : qs ≡ d.props) (fine_props_of : first_broken (properties_uses none qs) ≡ None)
          (H : Globals) (number functions : ℕ) (number_is : number ≡ length G.claimed) (functions_is : functions ≡ function_count d.params) (declares : H ≡ with_lower G d.name (Definition number functions)) where
        fine_props : first_broken props ≡ None
        fine_props = subst (λ xs. first_broken (properties_uses [] xs) ≡ None) qs_are (subst (λ xs. first_broken (properties_uses xs qs) ≡ None) none_is fine_props_of)

        globals_are : H ≡ with_definition G d
        globals_are = declares ∙ ap (λ n. with_lower G d.name (Definition n functions)) number_is ∙ ap (λ n. with_lower G d.name (Definition (length G.claimed) n)) functions_is

        locals_are : record locals { own_definition = Some number } ≡ body_locals (length G.claimed) d
        locals_are = ap (λ (L : Locals). record L { own_definition = Some number }) is_open.locals_are ∙ ap (λ n. body_locals n d) number_is

        -- its body fails
        pub definition_body_fails : {Z : Type 0} (Is : Z → Type 0) (r : Result Z ScopeEnd) (end : ScopeEnd) → IsErrAnd r (λ e. e ≡ end) → Fails (first_broken (expr_uses text H d.body Data (record locals { own_definition = Some number }))) end → Resolves (definition_uses text G d) Is r
        definition_body_fails Is r end is h = fails Is r end is (fails_back heading (result ++ (props ++ body)) end fine_heading (fails_back result (props ++ body) end fine_result (fails_back props body end fine_props
            (subst (λ (L : Locals). Fails (first_broken (expr_uses text (with_definition G d) d.body Data L)) end) locals_are (subst (λ (K : Globals). Fails (first_broken (expr_uses text K d.body Data (record locals { own_definition = Some number }))) end) globals_are h)))))

        -- all is fine
        pub definition_fine : (t : RawTy) (b : RawTerm) (claimed : List Prop) (copy : List RawProp) (count : ℕ) (last : Globals) → IsType G locals.types d.result t → Fine (expr_uses text H d.body Data (record locals { own_definition = Some number })) (IsTerm H (record locals { own_definition = Some number }) d.body) b → claimed ≡ none ++ props_of qs → copy ≡ d.props → count ≡ length d.tparams → last ≡ record H { claimed = H.claimed ++ claimed ∷ [] }
            → Fine (definition_uses text G d) (λ raw. IsDefinition G d raw × (last ≡ after G (items.Definition d))) (record { at = d.name.at; tparams = count; funs = both.funs; params = both.values; result = t; body = b; props = copy })
        definition_fine t b claimed copy count last is_type (fine_body, is_body) claimed_are copy_is count_is last_is =
            let same : claimed ≡ props_of d.props = claimed_are ∙ ap (λ xs. xs ++ props_of qs) none_is ∙ ap props_of qs_are in
            let end_is : last ≡ with_claimed (with_definition G d) (props_of d.props) = last_is ∙ ap (λ (K : Globals). with_claimed K claimed) globals_are ∙ ap (with_claimed (with_definition G d)) same in
            let body_fine : first_broken body ≡ None = subst (λ (L : Locals). first_broken (expr_uses text (with_definition G d) d.body Data L) ≡ None) locals_are (subst (λ (K : Globals). first_broken (expr_uses text K d.body Data (record locals { own_definition = Some number })) ≡ None) globals_are fine_body) in
            let body_is : IsTerm (with_definition G d) (body_locals (length G.claimed) d) d.body b = subst (λ (L : Locals). IsTerm (with_definition G d) L d.body b) locals_are (subst (λ (K : Globals). IsTerm K (record locals { own_definition = Some number }) d.body b) globals_are is_body) in (
              fine_first d.name.at (new_lower_fault G d.name.text) (heading ++ (result ++ (props ++ body))) new (fine_both heading (result ++ (props ++ body)) fine_heading (fine_both result (props ++ body) fine_result (fine_both props body fine_props body_fine))),
              (
                record {
                  funs = both.funs;
                  params = both.values;
                  type = t;
                  body = b;
                  are_parameters = is_open.are_both;
                  is_result = subst (λ T. IsType G T d.result t) is_open.types_are is_type;
                  is_body = body_is;
                  is = rw (copy_is, count_is) refl;
                },
                end_is,
              ),
            )
