-- Declarations one after another, by the stages of the code.
use Rattle.std.proofs.Common.{◌≡◌, ℕ, zero, suc, ◌+◌, ◌<◌, ◌≤◌, List, [], ◌∷◌, length, drop, Some, Result, Ok, refl, sym, ◌∙◌, ap, subst, arith, add-one}
use Rattle.std.specs.Prelude.{slice_get}
use Rattle.std.proofs.lemmas.List.{drop_all}
use Rattle.px_base.specs.declared.raw.Decl.{Decl}
use Rattle.px_base.specs.declared.raw.RawProgram.{RawProgram}
use Rattle.px_base.specs.Fitting.{IsFitting}
use Rattle.px_terms.specs.declared.program.Program.{Program}
use Rattle.px_types.specs.declared.ends.TypeEnd.{TypeEnd}
use Rattle.px_types.specs.Faults.{Broken}
use Rattle.px_types.specs.Answers.{EndsAs}
use Rattle.px_types.specs.Outcomes.{onward, along}
use Rattle.px_types.specs.Declarations.{start}
use Rattle.px_types.specs.NextOutcome.{types_found, terms_found, next_found, program_found}
use Rattle.px_types.specs.Checkings.{Takes}
use Rattle.px_types.proofs.Stages.{stage, stage_fails}
use Rattle.px_types.proofs.CountSteps.{HasRoom, room_start, room_next}

module _ (raw : RawProgram) (P : Program) (d : Decl) where
  next_is : next_found raw P d ≡ onward (types_found raw P d) (λ (_ : Unit {0}). terms_found raw P d)
  unfolding next_found
  next_is = refl

  pub next_fails : (end : TypeEnd) → EndsAs (types_found raw P d) end → EndsAs (next_found raw P d) end
  next_fails end h = stage_fails _ _ _ next_is end h

  pub next_takes : (done : Unit {0}) (Q new : Program) (r : Result (Unit {0}) TypeEnd) → types_found raw P d ≡ Ok done → Q ≡ P →
      Takes (terms_found raw Q d) new r → Takes (next_found raw P d) new r
  next_takes done Q new r is same h =
      subst (λ (o : Result Program Broken). Takes o new r) (ap (λ (R : Program). terms_found raw R d) same ∙ sym (stage _ _ next_is done is)) h

-- The item at a place, and what is left from it on.
pub record At {X : Type 0} (xs : List X) (i : ℕ) : Type 0 where
  pub item : X
  pub stands : slice_get xs i ≡ Some item
  pub left : drop i xs ≡ item ∷ drop (i + 1) xs

at_next : {X : Type 0} (xs : List X) (i : ℕ) → i < length xs → (x : X) × (slice_get xs i ≡ Some x) × (drop i xs ≡ x ∷ drop (suc i) xs)
at_next [] i below = absurd (omega arith)
at_next (x ∷ xs) zero below = (x, refl, refl)
at_next (x ∷ xs) (suc i) below = at_next xs i (omega arith)

pub item_at : {X : Type 0} (xs : List X) (i : ℕ) → i < length xs → At xs i
item_at xs i below = let here = at_next xs i below in record { item = here.0; stands = here.1; left = rw add-one here.2 }

module _ (raw : RawProgram) (fits : IsFitting raw) where
  -- what is taken so far, and what is still to come
  abbrev pub SoFar : Program → List Decl → Type 0
  SoFar P rest = HasRoom raw P rest × (along (next_found raw) P rest ≡ along (next_found raw) start raw.order)

  pub so_far_start : (P : Program) → P ≡ start → SoFar P raw.order
  so_far_start P e =
      (subst (λ (Q : Program). HasRoom raw Q raw.order) (sym e) (room_start raw fits), ap (λ (Q : Program). along (next_found raw) Q raw.order) e)

  along_is : (P : Program) (d : Decl) (rest : List Decl) → along (next_found raw) P (d ∷ rest) ≡ onward (next_found raw P d)
      (λ (Q : Program). along (next_found raw) Q rest)
  unfolding along
  along_is P d rest = refl

  module _ (P : Program) (i : ℕ) (here : At raw.order i) (so_far : SoFar P (drop i raw.order)) where
    left_is : along (next_found raw) start raw.order ≡ onward (next_found raw P here.item) (λ (Q : Program). along (next_found raw) Q (drop (i + 1) raw.order))
    left_is = sym so_far.1 ∙ ap (λ (rest : List Decl). along (next_found raw) P rest) here.left ∙ along_is P here.item (drop (i + 1) raw.order)

    pub order_fails : (end : TypeEnd) → EndsAs (next_found raw P here.item) end → EndsAs (along (next_found raw) start raw.order) end
    order_fails end h = stage_fails _ _ _ left_is end h

    pub so_far_next : (Q : Program) → next_found raw P here.item ≡ Ok Q → SoFar Q (drop (i + 1) raw.order)
    so_far_next Q is = (
      room_next raw fits P Q here.item (drop (i + 1) raw.order) (subst (λ (rest : List Decl). HasRoom raw P rest) here.left so_far.0) is,
      sym (stage _ _ left_is Q is),
    )

  pub order_ends : (P : Program) (i : ℕ) → length raw.order ≤ i → SoFar P (drop i raw.order) → along (next_found raw) start raw.order ≡ Ok P
  unfolding along
  order_ends P i past so_far = sym so_far.1 ∙ ap (λ (rest : List Decl). along (next_found raw) P rest) (drop_all i raw.order past)

module _ (raw : RawProgram) where
  program_is : program_found raw ≡ onward (along (next_found raw) start raw.order) (λ (P : Program). Ok (record P { names = raw.names }))
  unfolding program_found
  program_is = refl

  pub program_fails : (end : TypeEnd) → EndsAs (along (next_found raw) start raw.order) end → EndsAs (program_found raw) end
  program_fails end h = stage_fails _ _ _ program_is end h

  pub program_ok : (P Q : Program) → along (next_found raw) start raw.order ≡ Ok P → Q ≡ record P { names = raw.names } → program_found raw ≡ Ok Q
  program_ok P Q is e = stage _ _ program_is P is ∙ ap Ok (sym e)
