-- All written terms are found exactly as the rules say.
use Rattle.std.proofs.Common.{◌≡◌, ℕ, List, [], ◌∷◌, length}
use Rattle.px_base.specs.declared.raw.RawKind.{RawKind, out-RawKind}
use Rattle.px_base.specs.declared.raw.RawKind.TheOpen.{RawKind-F}
use Rattle.px_base.specs.declared.raw.RawTerm.{RawTerm}
use Rattle.px_base.specs.declared.raw.RawArm.{RawArm}
use Rattle.px_terms.specs.declared.types.Ty.{Ty}
use Rattle.px_types.specs.declared.typed.Typed.{Typed}
use Rattle.px_types.specs.Faults.{Env, IsTyped, Breaks}
use Rattle.px_types.specs.Laws.{IsDeclaring}
use Rattle.px_types.specs.Outcome.{parts_found}
use Rattle.px_types.proofs.Exact.{Exact, exact_at, Every, AllTwo, OneOfTwo}
use Rattle.px_types.proofs.TermShapes.{PartsHold, raw_term_induction, layer_found, term_found_is}
use Rattle.px_types.proofs.TermsExact.{TermIsExact, IsPart, BreaksPart, exact_parts}
use Rattle.px_types.proofs.LayersExact.{exact_free, exact_bound, exact_literal, exact_con, exact_call}
use Rattle.px_types.proofs.MatchExact.{exact_match}

module _ (E : Env) (open_ : IsDeclaring E) where
  exact_layer : (bound : List Ty) (at : ℕ) (y : RawKind-F RawKind RawArm RawTerm) → PartsHold (TermIsExact E) y → Exact (layer_found E y at bound) (λ (found : Typed). IsTyped E bound y found.term found.ty) (Breaks E bound at y)
  exact_layer bound at (RawKind-F.Free n types) parts = exact_free E bound at n types
  exact_layer bound at (RawKind-F.Bound n types) parts = exact_bound E bound at n types
  exact_layer bound at (RawKind-F.Lit w) parts = exact_literal E bound at w
  exact_layer bound at (RawKind-F.Con d k types fields) parts = exact_con E open_ bound at d k types fields parts
  exact_layer bound at (RawKind-F.Call f funs args) parts = exact_call E open_ bound at f funs args parts
  exact_layer bound at (RawKind-F.Match on arms) parts = exact_match E open_ bound at on arms parts.0 parts.1

  pub exact_term : (raw : RawTerm) → TermIsExact E raw
  exact_term = raw_term_induction (TermIsExact E) (λ raw parts bound. exact_at (term_found_is E raw bound) (exact_layer bound raw.at (out-RawKind raw.kind) parts))

  every_term : (raws : List RawTerm) → Every (TermIsExact E) raws
  every_term [] = tt
  every_term (raw ∷ raws) = (exact_term raw, every_term raws)

  pub exact_all_parts : (bound : List Ty) (raws : List RawTerm) (types : List Ty) → length raws ≡ length types → Exact (parts_found E bound raws types) (AllTwo (IsPart E open_ bound) raws types) (OneOfTwo (IsPart E open_ bound) (BreaksPart E bound) raws types)
  unfolding parts_found
  exact_all_parts bound raws types same = exact_parts E open_ bound raws types same (every_term raws)
