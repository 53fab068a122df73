-- Declarations, stage by stage.
use Rattle.std.proofs.Common.{◌≡◌, ℕ, ◌+◌, ◌<◌, List, [], ◌∷◌, ◌++◌, length, take, get_or, None, Result, sym, ap, ◌∙◌, subst, arith}
use Rattle.std.specs.List.{fold}
use Rattle.std.specs.Result.{IsErrAnd}
use Rattle.std.proofs.lemmas.List.Sums.{sum_by_more}
use Rattle.px_base.specs.declared.raw.RawEquation.{RawEquation}
use Rattle.px_parser.specs.declared.surface.Name.{Name}
use Rattle.px_parser.specs.declared.surface.SParam.{SParam}
use Rattle.px_parser.specs.declared.surface.SEquation.{SEquation}
use Rattle.px_parser.specs.declared.surface.Item.{Item}
use Rattle.px_scope.specs.declared.ends.ScopeEnd.{ScopeEnd}
use Rattle.px_scope.specs.declared.globals.Globals.{Globals}
use Rattle.px_scope.specs.declared.locals.TypeLocals.{TypeLocals}
use Rattle.px_scope.specs.declared.locals.Locals.{Locals}
use Rattle.px_scope.specs.declared.parameters.Parameters.{Parameters}
use Rattle.px_scope.specs.Standing.{no_parameters, nothing_local}
use Rattle.px_scope.specs.Uses.{first_broken}
use Rattle.px_scope.specs.Declaring.{functions_in, function_count, with_type_parameter, with_parameter, type_locals, first_locals}
use Rattle.px_scope.specs.ItemUses.{type_parameters_uses, parameters_uses, heading_uses}
use Rattle.px_scope.specs.Programs.{IsEquation, AreEquations, none, more}
use Rattle.px_scope.specs.Answers.{Fails, Fine, Resolves, AreBoth, IsHeading}
use Rattle.px_scope.proofs.Firsts.{fine_both, fails_front, fails_back, passed_on}
use Rattle.px_scope.proofs.ParameterSteps.{type_locals_are}

module _ (text : List Item) (G : Globals) (tparams : List Name) (params : List SParam) (nl : Locals) (nothing : nl ≡ nothing_local) where
  types_before : nl.types ≡ no_parameters
  types_before = ap (λ (L : Locals). L.types) nothing

  -- the type parameters fail
  pub heading_fails_early : {Z : Type 0} (Is : Z → Type 0) (r : Result Z ScopeEnd) (end : ScopeEnd) → IsErrAnd r (λ e. e ≡ end) → Fails (first_broken (type_parameters_uses G nl.types tparams)) end → Resolves (heading_uses text G tparams params) Is r
  heading_fails_early Is r end is fails = passed_on Is (heading_uses text G tparams params) r end is (fails_front (type_parameters_uses G no_parameters tparams) (parameters_uses text G (first_locals tparams) params) end (subst (λ T. Fails (first_broken (type_parameters_uses G T tparams)) end) types_before fails))

  module _ (T : TypeLocals) (fine : first_broken (type_parameters_uses G nl.types tparams) ≡ None) (added : T ≡ fold with_type_parameter nl.types tparams) where
    types_after : T ≡ type_locals tparams
    types_after = added ∙ ap (λ U. fold with_type_parameter U tparams) types_before ∙ type_locals_are tparams

    locals_after : record nl { types = T } ≡ first_locals tparams
    locals_after = ap (λ (L : Locals). record L { types = T }) nothing ∙ ap (λ U. record nothing_local { types = U }) types_after

    fine_types : first_broken (type_parameters_uses G no_parameters tparams) ≡ None
    fine_types = ap (λ U. first_broken (type_parameters_uses G U tparams)) (sym types_before) ∙ fine

    -- the parameters fail
    pub heading_fails_late : {Z : Type 0} (Is : Z → Type 0) (r : Result Z ScopeEnd) (end : ScopeEnd) → IsErrAnd r (λ e. e ≡ end) → Fails (first_broken (parameters_uses text G (record nl { types = T }) params)) end → Resolves (heading_uses text G tparams params) Is r
    heading_fails_late Is r end is fails = passed_on Is (heading_uses text G tparams params) r end is (fails_back (type_parameters_uses G no_parameters tparams) (parameters_uses text G (first_locals tparams) params) end fine_types (subst (λ (L : Locals). Fails (first_broken (parameters_uses text G L params)) end) locals_after fails))

    -- both are fine
    pub heading_fine : (both : Parameters) (after : Locals) → Fine (parameters_uses text G (record nl { types = T }) params) (AreBoth G T params) both → after ≡ fold with_parameter (record nl { types = T }) params → Fine (heading_uses text G tparams params) (IsHeading G tparams params) (record { locals = after; params = both })
    heading_fine both after (fine_params, are) is = (
      fine_both (type_parameters_uses G no_parameters tparams) (parameters_uses text G (first_locals tparams) params) fine_types (ap (λ (L : Locals). first_broken (parameters_uses text G L params)) (sym locals_after) ∙ fine_params),
      record {
        locals = is ∙ ap (λ (L : Locals). fold with_parameter L params) locals_after;
        are_both = subst (λ U. AreBoth G U params both) types_after are;
      },
    )

-- one equation more
pub equations_push : (G : Globals) (L : Locals) (es : List SEquation) (rs : List RawEquation) (e : SEquation) (r : RawEquation) → AreEquations G L es rs → IsEquation G L e r → AreEquations G L (es ++ e ∷ []) (rs ++ r ∷ [])
equations_push G L _ _ e r none is = more is none
equations_push G L _ _ e r (more {es = es} {rs = rs} first others) is = more first (equations_push G L es rs e r others is)

-- the functions among one parameter more
pub functions_next : (xs : List SParam) (i : ℕ) (p : SParam) (count one : ℕ) → i < length xs → p ≡ get_or xs i p → count ≡ function_count (take i xs) → one ≡ functions_in p.kind → count + one ≡ function_count (take (i + 1) xs)
functions_next xs i p count one within at is one_is =
    omega (arith, sum_by_more (λ (q : SParam). functions_in q.kind) xs i p within, ap (λ (q : SParam). functions_in q.kind) at)
