-- Written terms are found exactly as the rules say.
use Rattle.std.proofs.Common.{◌≡◌, ℕ, ◌<◌, List, [], ◌∷◌, length, map, Some, Result, Ok, refl, sym, ◌∙◌, ap, arith, lit≤}
use Rattle.std.specs.Prelude.{slice_get}
use Rattle.px_base.specs.declared.raw.RawKind.{out-RawKind}
use Rattle.px_base.specs.declared.raw.RawTerm.{RawTerm}
use Rattle.px_terms.specs.declared.types.Ty.{Ty}
use Rattle.px_terms.specs.declared.types.Ty.TheVariants as type
use Rattle.px_terms.specs.declared.term.Term.{Term}
use Rattle.px_terms.specs.declared.term.Term.TheOpen.{Term-F}
use Rattle.px_terms.specs.declared.program.ConDef.{ConDef}
use Rattle.px_terms.specs.declared.program.DataDef.{DataDef}
use Rattle.px_terms.specs.declared.program.Program.{Program}
use Rattle.px_terms.specs.TreeEquations.{ty_size-Word, ty_depth-Word}
use Rattle.px_terms.specs.Typing.{Place, anywhere, in_body, behind, IsMet, IsFunction, MayCall, AreArguments, HasTypeLayer, HaveTypes, HaveTypesInArms, AreTypes, IsTypeLayer}
use Rattle.px_terms.specs.Typing as typing
use Rattle.px_terms.specs.declared.sequent.Context.{Context}
use Rattle.px_types.specs.declared.ends.TypeKind.TheVariants.{Mismatch, Oversize}
use Rattle.px_types.specs.declared.typed.Typed.{Typed}
use Rattle.px_types.specs.Written.{IsTermLayer, AreTerms}
use Rattle.px_types.specs.Written as written
use Rattle.px_types.specs.Faults.{Broken, breaks, Env, Counts, counts_of, con_counts, HasCounts, Begins, AreRight, BreaksTys, IsTyped, AreTyped, Breaks, BreaksParts}
use Rattle.px_types.specs.Faults as faults
use Rattle.px_types.specs.Laws.{IsDeclaring}
use Rattle.px_types.specs.Outcomes.{onward, each_two}
use Rattle.px_types.specs.Outcome.{same, part_of, part_found, term_found}
use Rattle.px_types.proofs.Exact.{Exact, Both, Either, first, later, exact_as, exact_at, exact_ok, exact_needs, exact_there, exact_then, Every, AllTwo, OneOfTwo, exact_each_two}
use Rattle.px_types.proofs.Exact as exact
use Rattle.px_types.proofs.Sameness.{decides_same}
use Rattle.px_types.proofs.Functions.{decides_met}
use Rattle.px_types.proofs.TermShapes.{part_at}

-- what a typed term's type is
module _ (P : Program) (place : Place) (context : Context) (some : (d : ℕ) (D : DataDef) → slice_get P.datatypes d ≡ Some D → 0 < length D.cons) where
  word_met : (place : Place) → IsMet place type.Word
  word_met anywhere = tt
  word_met (in_body n) = record { nodes = rw ty_size-Word (lit≤ tt); depth = rw ty_depth-Word (lit≤ tt) }
  word_met (behind count) = record { nodes = rw ty_size-Word (lit≤ tt); depth = rw ty_depth-Word (lit≤ tt) }

  mutual
    -- a typed term's type is within the limits that hold at its place
    pub type_is_met : {bound : List Ty} {layer : Term-F Term} {T : Ty} → HasTypeLayer P place context bound layer T → IsMet place T
    type_is_met (typing.free stands met) = met
    type_is_met (typing.bound stands met) = met
    type_is_met (typing.lit small e) = rw e (word_met place)
    type_is_met (typing.con stands is_type e met have) = met
    type_is_met (typing.call function may_call types_met met arguments have) = met
    type_is_met (typing.choose {d = d} {D = D} on e stands arms) = arms_are_met arms (some d D stands)

    arms_are_met : {bound types : List Ty} {cs : List ConDef} {arms : List Term} {T : Ty} → HaveTypesInArms P place context bound types cs arms T → 0 < length cs → IsMet place T
    arms_are_met typing.no_arm few = absurd (omega arith)
    arms_are_met (typing.arm fields body arms) few = type_is_met body

module _ (E : Env) where
  -- what is found of a written term is exact
  abbrev pub TermIsExact : RawTerm → Type 0
  TermIsExact raw = (bound : List Ty) → Exact (term_found E raw bound) (λ (found : Typed). IsTyped E bound (out-RawKind raw.kind) found.term found.ty) (Breaks E bound raw.at (out-RawKind raw.kind))

  -- the first broken rule of a part that should have this type
  pub data BreaksPart (bound : List Ty) (raw : RawTerm) (wanted : Ty) (fault : Broken) : Type 0 where
    wanted_size : ¬ IsMet E.place wanted → fault ≡ breaks Oversize raw.at → BreaksPart bound raw wanted fault
    in_part : IsMet E.place wanted → Breaks E bound raw.at (out-RawKind raw.kind) fault → BreaksPart bound raw wanted fault
    other_type : {t : Term} {U : Ty} → IsMet E.place wanted → IsTyped E bound (out-RawKind raw.kind) t U → (U ≡ wanted → ⊥) → fault ≡ breaks Mismatch raw.at → BreaksPart bound raw wanted fault

module _ (E : Env) (open_ : IsDeclaring E) where
  exact_part : (bound : List Ty) (raw : RawTerm) → TermIsExact E raw → (wanted : Ty) → Exact (part_found E bound (part_of E raw) wanted) (λ (t : Term). IsTyped E bound (out-RawKind raw.kind) t wanted) (BreaksPart E bound raw wanted)
  unfolding part_found term_found
  exact_part bound raw ih wanted = exact_as
      (exact_then (exact_needs _ Oversize (part_of E raw).at (decides_met E.place wanted)) (λ _ met.
      exact_then (ih bound) (λ found typed.
      exact_then (exact_needs _ Mismatch (part_of E raw).at (decides_same found.ty wanted)) (λ _ e.
      exact_ok found.term))))
      (λ t both. let rest = both.after in rw (rest.after.after, ← rest.after.is) rest.is)
      (λ t typed. record { x = tt; is = type_is_met E.program E.place E.context open_.some typed.has; after = record { x = record { term = t; ty = wanted }; is = typed; after = record { x = tt; is = refl; after = refl } } })
      (λ b h. elim h [
        | first over ↦ wanted_size over.0 (over.1 ∙ ap (breaks Oversize) (part_at E raw))
        | later _ met h2 ↦ elim h2 [
          | first br ↦ in_part met br
          | later found typed h3 ↦ elim h3 [
            | first other ↦ other_type met typed other.0 (other.1 ∙ ap (breaks Mismatch) (part_at E raw))
            | later _ e nothing ↦ absurd nothing
          ]
        ]
      ])
      (λ b h. elim h [
        | wanted_size over e ↦ first (over, e ∙ ap (breaks Oversize) (sym (part_at E raw)))
        | in_part met br ↦ later tt met (first br)
        | other_type {t = t} {U = U} met typed other e ↦ later tt met (later (record { term = t; ty = U }) typed (first (other, e ∙ ap (breaks Mismatch) (sym (part_at E raw)))))
      ])

  -- the parts of a term, in the words of the rules
  abbrev pub IsPart : List Ty → RawTerm → Ty → Term → Type 0
  IsPart bound raw wanted t = IsTyped E bound (out-RawKind raw.kind) t wanted

  every_part : (bound : List Ty) (raws : List RawTerm) → Every (TermIsExact E) raws → Every (λ (raw : RawTerm). (wanted : Ty) → Exact (part_found E bound (part_of E raw) wanted) (IsPart bound raw wanted) (BreaksPart E bound raw wanted)) raws
  every_part bound [] all = tt
  every_part bound (raw ∷ raws) (one, all) = (exact_part bound raw one, every_part bound raws all)

  parts_of_raws : (bound : List Ty) (raws : List RawTerm) (types : List Ty) → each_two (part_found E bound) (map (part_of E) raws) types ≡ each_two (λ (raw : RawTerm). part_found E bound (part_of E raw)) raws types
  unfolding each_two
  parts_of_raws bound [] types = refl
  parts_of_raws bound (raw ∷ raws) [] = refl
  parts_of_raws bound (raw ∷ raws) (T ∷ types) = ap (λ (r : Result (List Term) Broken). onward (part_found E bound (part_of E raw) T) (λ (t : Term). onward r (λ (ts : List Term). Ok (t ∷ ts)))) (parts_of_raws bound raws types)

  pub exact_parts : (bound : List Ty) (raws : List RawTerm) (types : List Ty) → length raws ≡ length types → Every (TermIsExact E) raws → Exact (each_two (part_found E bound) (map (part_of E) raws) types) (AllTwo (IsPart bound) raws types) (OneOfTwo (IsPart bound) (BreaksPart E bound) raws types)
  exact_parts bound raws types same all = exact_at (parts_of_raws bound raws types) (exact_each_two (λ (raw : RawTerm). part_found E bound (part_of E raw)) (IsPart bound) (BreaksPart E bound) raws types same (every_part bound raws all))

  module _ (bound : List Ty) where
    pub terms_of : {raws : List RawTerm} {types : List Ty} {ts : List Term} → AllTwo (IsPart bound) raws types ts → AreTerms E.program raws ts
    terms_of exact.none = written.none
    terms_of (exact.more is are) = written.more is.is (terms_of are)

    pub have_types : {raws : List RawTerm} {types : List Ty} {ts : List Term} → AllTwo (IsPart bound) raws types ts → HaveTypes E.program E.place E.context bound ts types
    have_types exact.none = typing.none
    have_types (exact.more is are) = typing.more is.has (have_types are)

    pub all_parts : {raws : List RawTerm} {types : List Ty} {ts : List Term} → AreTerms E.program raws ts → HaveTypes E.program E.place E.context bound ts types → AllTwo (IsPart bound) raws types ts
    all_parts written.none typing.none = exact.none
    all_parts (written.more is are) (typing.more has have) = exact.more (record { is = is; has = has }) (all_parts are have)

    pub are_typed : {raws : List RawTerm} {types : List Ty} {ts : List Term} → AllTwo (IsPart bound) raws types ts → AreTyped E bound raws types
    are_typed exact.none = faults.none
    are_typed (exact.more is are) = faults.more is (are_typed are)

    -- Terms that are typed, with what they are.
    pub record FoundParts (raws : List RawTerm) (types : List Ty) : Type 0 where
      pub ts : List Term
      pub are : AllTwo (IsPart bound) raws types ts

    pub found_parts : {raws : List RawTerm} {types : List Ty} → AreTyped E bound raws types → FoundParts raws types
    found_parts faults.none = record { ts = []; are = exact.none }
    found_parts (faults.more {t = t} is are) = let rest = found_parts are in record { ts = t ∷ rest.ts; are = exact.more is rest.are }

    pub broken_parts : {raws : List RawTerm} {types : List Ty} {b : Broken} → OneOfTwo (IsPart bound) (BreaksPart E bound) raws types b → BreaksParts E bound raws types b
    broken_parts (exact.here (wanted_size over e)) = faults.wanted_size over e
    broken_parts (exact.here (in_part met br)) = faults.in_part met br
    broken_parts (exact.here (other_type met typed other e)) = faults.other_type met typed other e
    broken_parts (exact.behind is br) = faults.later_part is (broken_parts br)

    pub parts_broken : {raws : List RawTerm} {types : List Ty} {b : Broken} → BreaksParts E bound raws types b → OneOfTwo (IsPart bound) (BreaksPart E bound) raws types b
    parts_broken (faults.wanted_size over e) = exact.here (wanted_size over e)
    parts_broken (faults.in_part met br) = exact.here (in_part met br)
    parts_broken (faults.other_type met typed other e) = exact.here (other_type met typed other e)
    parts_broken (faults.later_part is br) = exact.behind is (parts_broken br)
