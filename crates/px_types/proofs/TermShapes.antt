-- Written terms by their layers: an induction, and what is found of each layer.
use Rattle.std.proofs.Common.{◌≡◌, ℕ, List, [], ◌∷◌, map, Result, refl, sym, ◌∙◌, ap, subst}
use Rattle.std.specs.Prelude.{slice_get}
use Rattle.px_base.specs.declared.raw.RawKind.{RawKind, out-RawKind, out-roll-RawKind, map-RawKind, fold-RawKind, fold_out-RawKind}
use Rattle.px_base.specs.declared.raw.RawKind.TheOpen.{RawKind-F, RawArm-F, RawTerm-F}
use Rattle.px_base.specs.declared.raw.RawTerm.{RawTerm, fold_out-RawTerm, ind-RawTerm}
use Rattle.px_base.specs.declared.raw.RawArm.{RawArm, fold-RawArm, fold_out-RawArm}
use Rattle.px_terms.specs.declared.types.Ty.{Ty}
use Rattle.px_terms.specs.declared.term.Term.TheVariants as term
use Rattle.px_types.specs.declared.typed.Typed.{Typed}
use Rattle.px_types.specs.Faults.{Broken, Env}
use Rattle.px_types.specs.Outcome.{Part, ArmPart, type_of_variable, variable_found, con_found, call_found, match_found, kind_found, arm_step, term_step, part_of, term_found}
use Rattle.px_types.proofs.Exact.{Every}

-- a fact of each part of a layer
abbrev pub PartsHold : (RawTerm → Type 0) → RawKind-F RawKind RawArm RawTerm → Type 0
PartsHold P (RawKind-F.Free n types) = Unit {0}
PartsHold P (RawKind-F.Bound n types) = Unit {0}
PartsHold P (RawKind-F.Lit w) = Unit {0}
PartsHold P (RawKind-F.Con d k types fields) = Every P fields
PartsHold P (RawKind-F.Call f funs args) = Every P args
PartsHold P (RawKind-F.Match on arms) = P on × Every (λ (arm : RawArm). P arm.body) arms

every_pair : {X : Type 0} (P : X → Type 0) (pairs : List ((x : X) × P x)) → Every P (map (λ (e : (x : X) × P x). e.0) pairs)
every_pair P [] = tt
every_pair P (e ∷ es) = (e.1, every_pair P es)

module _ (P : RawTerm → Type 0) where
  abbrev KindHolds : RawKind → Type 0
  KindHolds kind = PartsHold P (out-RawKind kind)

  abbrev ArmHolds : RawArm → Type 0
  ArmHolds arm = P arm.body

  layer_holds : (y : RawKind-F ((kind : RawKind) × KindHolds kind) ((arm : RawArm) × ArmHolds arm) ((raw : RawTerm) × P raw)) → PartsHold P (map-RawKind ((kind : RawKind) × KindHolds kind) ((arm : RawArm) × ArmHolds arm) ((raw : RawTerm) × P raw) RawKind RawArm RawTerm (λ e. e.0) (λ e. e.0) (λ e. e.0) y)
  layer_holds (RawKind-F.Free n types) = tt
  layer_holds (RawKind-F.Bound n types) = tt
  layer_holds (RawKind-F.Lit w) = tt
  layer_holds (RawKind-F.Con d k types fields) = every_pair P fields
  layer_holds (RawKind-F.Call f funs args) = every_pair P args
  layer_holds (RawKind-F.Match on arms) = (on.1, every_pair ArmHolds arms)

  pub raw_term_induction : ((raw : RawTerm) → PartsHold P (out-RawKind raw.kind) → P raw) → (raw : RawTerm) → P raw
  raw_term_induction step = ind-RawTerm KindHolds ArmHolds P
      (λ x y e. subst (PartsHold P) (e ∙ sym (out-roll-RawKind x)) (layer_holds y))
      (λ x y e. subst (λ (z : RawArm-F RawKind RawArm RawTerm). P z.body) e y.body.1)
      (λ x y e. step (record { at = x.at; kind = x.kind }) (subst (λ (z : RawTerm-F RawKind RawArm RawTerm). KindHolds z.kind) e y.kind.1))

-- what is found of a layer
module _ (E : Env) where
  abbrev Kinds : Type 0
  Kinds = ℕ → List Ty → Result Typed Broken

  -- an arm with what is found of its body
  unfoldable pub arm_part : RawArm → ArmPart
  arm_part arm = record { at = arm.at; datatype = arm.datatype; con = arm.con; vars = arm.vars; body = part_of E arm.body }

  abbrev pub layer_found : RawKind-F RawKind RawArm RawTerm → ℕ → List Ty → Result Typed Broken
  layer_found (RawKind-F.Free n types) at bound = variable_found E (term.Free n) (type_of_variable E n) types at
  layer_found (RawKind-F.Bound n types) at bound = variable_found E (term.Bound n) (slice_get bound n) types at
  layer_found (RawKind-F.Lit w) at bound = kind_found E (RawKind-F.Lit w) at bound
  layer_found (RawKind-F.Con d k types fields) at bound = con_found E bound at d k types (map (part_of E) fields)
  layer_found (RawKind-F.Call f funs args) at bound = call_found E bound at f funs (map (part_of E) args)
  layer_found (RawKind-F.Match on arms) at bound = match_found E bound at (part_of E on) (map arm_part arms)

  abbrev folded_arm : RawArm → ArmPart
  folded_arm arm = fold-RawArm Kinds ArmPart Part (kind_found E) arm_step term_step arm

  folded_arms : (arms : List RawArm) → map folded_arm arms ≡ map arm_part arms
  unfolding arm_part part_of
  folded_arms [] = refl
  folded_arms (arm ∷ arms) = λ i. fold_out-RawArm Kinds ArmPart Part (kind_found E) arm_step term_step arm i ∷ folded_arms arms i

  layer_is : (y : RawKind-F RawKind RawArm RawTerm) (at : ℕ) (bound : List Ty) → kind_found E (map-RawKind RawKind RawArm RawTerm Kinds ArmPart Part (fold-RawKind Kinds ArmPart Part (kind_found E) arm_step term_step) folded_arm (part_of E) y) at bound ≡ layer_found y at bound
  layer_is (RawKind-F.Free n types) at bound = refl
  layer_is (RawKind-F.Bound n types) at bound = refl
  layer_is (RawKind-F.Lit w) at bound = refl
  layer_is (RawKind-F.Con d k types fields) at bound = refl
  layer_is (RawKind-F.Call f funs args) at bound = refl
  layer_is (RawKind-F.Match on arms) at bound = ap (match_found E bound at (part_of E on)) (folded_arms arms)

  pub term_found_is : (raw : RawTerm) (bound : List Ty) → term_found E raw bound ≡ layer_found (out-RawKind raw.kind) raw.at bound
  unfolding term_found part_of
  term_found_is raw bound =
      ap (λ (p : Part). p.own bound) (fold_out-RawTerm Kinds ArmPart Part (kind_found E) arm_step term_step raw)
      ∙ ap (λ (k : Kinds). k raw.at bound) (fold_out-RawKind Kinds ArmPart Part (kind_found E) arm_step term_step raw.kind)
      ∙ layer_is (out-RawKind raw.kind) raw.at bound

  pub part_at : (raw : RawTerm) → (part_of E raw).at ≡ raw.at
  unfolding part_of
  part_at raw = ap (λ (p : Part). p.at) (fold_out-RawTerm Kinds ArmPart Part (kind_found E) arm_step term_step raw)
