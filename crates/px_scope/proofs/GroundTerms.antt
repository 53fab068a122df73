-- A replica's first value is built of constructors and literals alone.
use Rattle.std.proofs.Common.{◌≡◌, ℕ, Bool, List, ◌∷◌, ◌++◌, Option, Some, None, refl, sym, ap, ◌∙◌, subst}
use Rattle.std.specs.List.{flat_map}
use Rattle.px_base.specs.declared.raw.RawKind.{RawKind, out-RawKind}
use Rattle.px_base.specs.declared.raw.RawKind.TheVariants as kinds
use Rattle.px_base.specs.declared.raw.RawKind.TheOpen.{RawKind-F}
use Rattle.px_base.specs.declared.raw.RawTerm.{RawTerm}
use Rattle.px_base.specs.declared.raw.RawArm.{RawArm}
use Rattle.px_base.specs.Fitting.{IsGround, AreGround}
use Rattle.px_parser.specs.declared.surface.Name.{Name}
use Rattle.px_parser.specs.declared.surface.SType.{SType}
use Rattle.px_parser.specs.declared.surface.SExpr.{SExpr}
use Rattle.px_parser.specs.declared.surface.SExprKind.{SExprKind, out-SExprKind}
use Rattle.px_parser.specs.declared.surface.SExprKind.TheOpen.{SExprKind-F}
use Rattle.px_parser.specs.declared.surface.SArm.{SArm}
use Rattle.px_parser.specs.declared.surface.Item.{Item}
use Rattle.px_scope.specs.declared.globals.Meaning.{Meaning}
use Rattle.px_scope.specs.declared.globals.Globals.{Globals}
use Rattle.px_scope.specs.declared.locals.Locals.{Locals}
use Rattle.px_scope.specs.Later.{declares_lower}
use Rattle.px_scope.specs.Standing.{meaning_of}
use Rattle.px_scope.specs.Rules.{misplaced, constructor_fault, from_fault}
use Rattle.px_scope.specs.Uses.{Use, use_of, broken_or, first_broken, types_uses, Data, From, expr_uses}
use Rattle.px_scope.specs.Numbers.{raw_term, IsTermLayer, AreTerms}
use Rattle.px_scope.proofs.Firsts.{fine_first, fine_both}
use Rattle.px_scope.proofs.FineParts.{fine_parts, fine_front, fine_back}
use Rattle.px_scope.proofs.TermSteps.{parts_are, layer_uses, expr_uses_is}

-- a name with a small letter breaks a rule there
always_broken : (declared : Bool) (m : Option Meaning) → misplaced declared m ≡ None → ⊥
always_broken declared None fine = cc
always_broken declared (Some m) fine = cc

module _ (text : List Item) (G : Globals) where
  -- the names in the parts of a first value
  abbrev from_uses : Locals → List SExpr → List Use
  from_uses L es = flat_map (λ (e : SExpr). expr_uses text G e From L) es

  -- the same names, where data is wanted
  abbrev data_uses : Locals → List SExpr → List Use
  data_uses L es = flat_map (λ (e : SExpr). expr_uses text G e Data L) es

  no_lower : (name : Name) → broken_or name.at (from_fault text G name.text) None ≡ None → ⊥
  no_lower name fine = always_broken (declares_lower text name.text) (meaning_of G name.text) (fine_parts name.at (from_fault text G name.text) None fine).0

  -- the parts of a construction in a first value
  fields_from : (name : Name) (types : List SType) (fields : List SExpr) (at : ℕ) (L : Locals) →
      first_broken (layer_uses text G (SExprKind-F.Upper name types fields) at From L) ≡ None →
      (constructor_fault text G name.text ≡ None) × (first_broken (types_uses text G L.types types) ≡ None) × (first_broken (from_uses L fields) ≡ None)
  fields_from name types fields at L fine =
      let here = types_uses text G L.types types in
      let others = from_uses L fields in
      let same = ap (λ us. first_broken (use_of name (constructor_fault text G name.text) ∷ (here ++ us))) (parts_are (expr_uses text G) From L fields) in
      let parts = fine_parts name.at (constructor_fault text G name.text) (first_broken (here ++ others)) (sym same ∙ fine) in
      (parts.0, fine_front here others parts.1, fine_back here others parts.1)

  from_layer : (e : SExpr) (L : Locals) → first_broken (expr_uses text G e From L) ≡ None → first_broken (layer_uses text G (out-SExprKind e.kind) e.at From L) ≡ None
  from_layer e L fine = ap first_broken (sym (expr_uses_is text G e From L)) ∙ fine

  mutual
    -- what breaks no rule in a first value breaks none where data is wanted
    data_layer : {L : Locals} {at : ℕ} {y : SExprKind-F SExprKind SArm SExpr} {t : RawTerm} → IsTermLayer G L at y t →
        first_broken (layer_uses text G y at From L) ≡ None → first_broken (layer_uses text G y at Data L) ≡ None
    data_layer (IsTermLayer.literal is) fine = refl
    data_layer (IsTermLayer.value {name = name} stands are is) fine = absurd (no_lower name fine)
    data_layer (IsTermLayer.pattern {name = name} stands are is) fine = absurd (no_lower name fine)
    data_layer (IsTermLayer.call {name = name} stands are arguments rest is) fine = absurd (no_lower name fine)
    data_layer (IsTermLayer.choice on arms is) fine = absurd cc
    data_layer {L} (IsTermLayer.construction {at = at} {name = name} {types = types} {fields = fields} stands are terms is) fine =
        let parts = fields_from name types fields at L fine in
        let here = types_uses text G L.types types in
        let all = fine_both here (data_uses L fields) parts.1 (data_terms terms parts.2) in
        let same = ap (λ us. first_broken (use_of name (constructor_fault text G name.text) ∷ (here ++ us))) (parts_are (expr_uses text G) Data L fields) in
        same ∙ fine_first name.at (constructor_fault text G name.text) (here ++ data_uses L fields) parts.0 all

    data_terms : {L : Locals} {es : List SExpr} {ts : List RawTerm} → AreTerms G L es ts → first_broken (from_uses L es) ≡ None →
        first_broken (data_uses L es) ≡ None
    data_terms AreTerms.no_terms fine = refl
    data_terms {L} (AreTerms.more_terms {e = e} {es = es} first rest) fine =
        let here = expr_uses text G e From L in
        let others = from_uses L es in
        let first_fine = ap first_broken (expr_uses_is text G e Data L) ∙ data_layer first (from_layer e L (fine_front here others fine)) in
        fine_both (expr_uses text G e Data L) (data_uses L es) first_fine (data_terms rest (fine_back here others fine))

  -- the term has the layer that is its kind's
  by_kind : (at : ℕ) (kind : RawKind) (y : RawKind-F RawKind RawArm RawTerm) (t : RawTerm) → t ≡ raw_term at kind → out-RawKind kind ≡ y → IsGround y →
      IsGround (out-RawKind t.kind)
  by_kind at kind y t is outs ground = subst IsGround (sym (ap (λ (x : RawTerm). out-RawKind x.kind) is ∙ outs)) ground

  mutual
    -- a first value is ground
    ground_layer : {L : Locals} {at : ℕ} {y : SExprKind-F SExprKind SArm SExpr} {t : RawTerm} → IsTermLayer G L at y t →
        first_broken (layer_uses text G y at From L) ≡ None → IsGround (out-RawKind t.kind)
    ground_layer {t = t} (IsTermLayer.literal {at = at} {w = w} is) fine = by_kind at (kinds.Lit w) _ t is (kinds.outs-Lit w) IsGround.literal
    ground_layer (IsTermLayer.value {name = name} stands are is) fine = absurd (no_lower name fine)
    ground_layer (IsTermLayer.pattern {name = name} stands are is) fine = absurd (no_lower name fine)
    ground_layer (IsTermLayer.call {name = name} stands are arguments rest is) fine = absurd (no_lower name fine)
    ground_layer (IsTermLayer.choice on arms is) fine = absurd cc
    ground_layer {L} {t = t} (IsTermLayer.construction {at = at} {name = name} {types = types} {fields = fields} {con = con} {ts = ts} {fs = fs} stands are terms is) fine =
        by_kind at (kinds.Con con.datatype con.number ts fs) _ t is (kinds.outs-Con con.datatype con.number ts fs)
        (IsGround.construction (ground_terms terms (fields_from name types fields at L fine).2))

    ground_terms : {L : Locals} {es : List SExpr} {ts : List RawTerm} → AreTerms G L es ts → first_broken (from_uses L es) ≡ None → AreGround ts
    ground_terms AreTerms.no_terms fine = AreGround.none
    ground_terms {L} (AreTerms.more_terms {e = e} {es = es} first rest) fine =
        let here = expr_uses text G e From L in
        let others = from_uses L es in
        AreGround.more (ground_layer first (from_layer e L (fine_front here others fine))) (ground_terms rest (fine_back here others fine))

  module _ (L : Locals) (e : SExpr) (t : RawTerm) (is : IsTermLayer G L e.at (out-SExprKind e.kind) t) (fine : first_broken (expr_uses text G e From L) ≡ None) where
    -- a replica's first value breaks no rule where data is wanted
    pub from_is_data : first_broken (expr_uses text G e Data L) ≡ None
    from_is_data = ap first_broken (expr_uses_is text G e Data L) ∙ data_layer is (from_layer e L fine)

    -- it is ground
    pub from_is_ground : IsGround (out-RawKind t.kind)
    from_is_ground = ground_layer is (from_layer e L fine)
