-- A part of a declaration that should have a certain type is found exactly as the rules say.
use Rattle.std.proofs.Common.{◌≡◌, [], ◌∷◌, refl, sym, ◌∙◌, ap}
use Rattle.px_base.specs.declared.raw.RawKind.{out-RawKind}
use Rattle.px_base.specs.declared.raw.RawTerm.{RawTerm}
use Rattle.px_terms.specs.declared.types.Ty.{Ty}
use Rattle.px_terms.specs.declared.term.Term.{Term}
use Rattle.px_terms.specs.Typing.{IsMet}
use Rattle.px_types.specs.declared.ends.TypeKind.TheVariants.{Mismatch, Oversize}
use Rattle.px_types.specs.declared.typed.Typed.{Typed}
use Rattle.px_types.specs.Faults.{Broken, breaks, Env, IsTyped, AreTyped, Breaks, BreaksParts}
use Rattle.px_types.specs.Faults as faults
use Rattle.px_types.specs.Laws.{IsDeclaring}
use Rattle.px_types.specs.Outcome.{part_of, part_found, term_found}
use Rattle.px_types.proofs.Exact.{Exact, Either, first, later, exact_as, exact_ok, exact_needs, exact_then}
use Rattle.px_types.proofs.Sameness.{decides_same}
use Rattle.px_types.proofs.Functions.{decides_met}
use Rattle.px_types.proofs.TermShapes.{part_at}
use Rattle.px_types.proofs.TermsExact.{type_is_met}
use Rattle.px_types.proofs.AllExact.{exact_term}

module _ (E : Env) (declaring : IsDeclaring E) (raw : RawTerm) (wanted : Ty) where
  -- how a part breaks a rule, turn by turn
  abbrev PartBreaks : Broken → Type 0
  PartBreaks = Either {S = Unit {0}} (λ _. IsMet E.place wanted) (λ b. (IsMet E.place wanted → ⊥) × (b ≡ breaks Oversize (part_of E raw).at))
      (λ _. Either (λ (found : Typed). IsTyped E [] (out-RawKind raw.kind) found.term found.ty) (Breaks E [] raw.at (out-RawKind raw.kind))
      (λ (found : Typed). Either {S = Unit {0}} (λ _. found.ty ≡ wanted) (λ b. (found.ty ≡ wanted → ⊥) × (b ≡ breaks Mismatch (part_of E raw).at)) (λ _ _. ⊥)))

  part_breaks : {b : Broken} → PartBreaks b → BreaksParts E [] (raw ∷ []) (wanted ∷ []) b
  part_breaks (first over) = faults.wanted_size over.0 (over.1 ∙ ap (breaks Oversize) (part_at E raw))
  part_breaks (later _ met (first br)) = faults.in_part met br
  part_breaks (later _ met (later found typed (first other))) = faults.other_type met typed other.0 (other.1 ∙ ap (breaks Mismatch) (part_at E raw))
  part_breaks (later _ met (later found typed (later _ e nothing))) = absurd nothing

  breaks_part : {b : Broken} → BreaksParts E [] (raw ∷ []) (wanted ∷ []) b → PartBreaks b
  breaks_part (faults.wanted_size over e) = first (over, e ∙ ap (breaks Oversize) (sym (part_at E raw)))
  breaks_part (faults.in_part met br) = later tt met (first br)
  breaks_part (faults.other_type {t = t} {U = U} met typed other e) =
      later tt met (later (record { term = t; ty = U }) typed (first (other, e ∙ ap (breaks Mismatch) (sym (part_at E raw)))))
  breaks_part (faults.later_part typed br) = elim br [ ]

  pub exact_one_part : Exact (part_found E [] (part_of E raw) wanted) (λ (t : Term). IsTyped E [] (out-RawKind raw.kind) t wanted)
      (BreaksParts E [] (raw ∷ []) (wanted ∷ []))
  unfolding part_found term_found
  exact_one_part = exact_as
      (exact_then (exact_needs _ Oversize (part_of E raw).at (decides_met E.place wanted)) (λ _ met.
      exact_then (exact_term E declaring raw []) (λ found typed.
      exact_then (exact_needs _ Mismatch (part_of E raw).at (decides_same found.ty wanted)) (λ _ e.
      exact_ok found.term))))
      (λ t both. let rest = both.after in rw (rest.after.after, ← rest.after.is) rest.is)
      (λ t typed. record {
        x = tt;
        is = type_is_met E.program E.place E.context declaring.some typed.has;
        after = record { x = record { term = t; ty = wanted }; is = typed; after = record { x = tt; is = refl; after = refl } };
      })
      (λ b br. part_breaks br)
      (λ b br. breaks_part br)

-- a part that is typed, as the only one
pub one_typed : {E : Env} {raw : RawTerm} {t : Term} {T : Ty} → IsTyped E [] (out-RawKind raw.kind) t T → AreTyped E [] (raw ∷ []) (T ∷ [])
one_typed is = faults.more is faults.none

-- A part with what it is.
pub record TypedPart (E : Env) (raw : RawTerm) (T : Ty) : Type 0 where
  pub t : Term
  pub is : IsTyped E [] (out-RawKind raw.kind) t T

pub typed_one : {E : Env} {raw : RawTerm} {T : Ty} → AreTyped E [] (raw ∷ []) (T ∷ []) → TypedPart E raw T
typed_one (faults.more {t = t} is rest) = record { t = t; is = is }
