-- A written expression is at most one with numbers for names.
use Rattle.std.proofs.Common.{◌≡◌, ℕ, List, refl, sym, ◌∙◌}
use Rattle.px_base.specs.declared.raw.RawTerm.{RawTerm}
use Rattle.px_base.specs.declared.raw.RawArm.{RawArm}
use Rattle.px_parser.specs.declared.surface.SExpr.{SExpr}
use Rattle.px_parser.specs.declared.surface.SExprKind.{SExprKind}
use Rattle.px_parser.specs.declared.surface.SExprKind.TheOpen.{SExprKind-F}
use Rattle.px_parser.specs.declared.surface.SArm.{SArm}
use Rattle.px_scope.specs.declared.globals.Globals.{Globals}
use Rattle.px_scope.specs.declared.locals.Locals.{Locals}
use Rattle.px_scope.specs.Numbers.{IsTermLayer, literal, construction, value, pattern, call, choice, AreTerms, no_terms, more_terms, AreArms, no_arms, more_arms, IsTerm}
use Rattle.px_scope.proofs.OneType.{one_cons, one_types, one_arguments}

mutual
  -- an expression of a kind is at most one term
  pub one_layer : (G : Globals) {L : Locals} {at : ℕ} {y : SExprKind-F SExprKind SArm SExpr} {t u : RawTerm} →
      IsTermLayer G L at y t → IsTermLayer G L at y u → t ≡ u
  one_layer G (literal is) (literal is2) = is ∙ sym is2
  one_layer G {L} (construction stands are terms is) (construction stands2 are2 terms2 is2) =
      let types = one_types G L.types are are2 in
      let fields = one_terms G terms terms2 in
      cc
  one_layer G {L} (value stands are is) (value stands2 are2 is2) =
      let types = one_types G L.types are are2 in
      cc
  one_layer G (value stands are is) (pattern stands2 are2 is2) = absurd cc
  one_layer G (pattern stands are is) (value stands2 are2 is2) = absurd cc
  one_layer G {L} (pattern stands are is) (pattern stands2 are2 is2) =
      let types = one_types G L.types are are2 in
      cc
  one_layer G {L} (call stands are funs terms is) (call stands2 are2 funs2 terms2 is2) =
      let types = one_types G L.types are are2 in
      let functions = one_arguments G L funs funs2 in
      let args = one_terms G terms terms2 in
      cc
  one_layer G (choice on are is) (choice on2 are2 is2) =
      let scrutinee = one_layer G on on2 in
      let arms = one_arms G are are2 in
      cc

  -- expressions are at most one list of terms
  pub one_terms : (G : Globals) {L : Locals} {es : List SExpr} {ts us : List RawTerm} →
      AreTerms G L es ts → AreTerms G L es us → ts ≡ us
  one_terms G no_terms no_terms = refl
  one_terms G (more_terms first rest) (more_terms first2 rest2) = one_cons _ _ _ _ (one_layer G first first2) (one_terms G rest rest2)

  -- arms are at most one list
  pub one_arms : (G : Globals) {L : Locals} {arms : List SArm} {cs ds : List RawArm} →
      AreArms G L arms cs → AreArms G L arms ds → cs ≡ ds
  one_arms G no_arms no_arms = refl
  one_arms G (more_arms stands body is rest) (more_arms stands2 body2 is2 rest2) =
      let bodies = one_layer G body body2 in
      let others = one_arms G rest rest2 in
      cc

-- an expression is at most one term
pub one_term : (G : Globals) (L : Locals) (e : SExpr) (t u : RawTerm) → IsTerm G L e t → IsTerm G L e u → t ≡ u
one_term G L e t u p q = one_layer G p q
