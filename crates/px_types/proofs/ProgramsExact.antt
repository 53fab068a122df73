-- Programs are found exactly as the rules say.
use Rattle.std.proofs.Common.{◌≡◌, ℕ, zero, suc, ◌<◌, List, [], ◌∷◌, ◌++◌, length, Some, Ok, refl, sym, ap, subst, lit<}
use Rattle.std.specs.Prelude.{slice_get}
use Rattle.px_base.specs.Fitting.{AreInOrder, IsFitting, bool_alone}
use Rattle.px_base.specs.Fitting as fitting
use Rattle.px_base.specs.declared.raw.Decl.{Decl}
use Rattle.px_base.specs.declared.raw.RawProgram.{RawProgram}
use Rattle.px_terms.specs.declared.program.DataDef.{DataDef}
use Rattle.px_terms.specs.declared.program.Program.{Program}
use Rattle.px_terms.specs.Programs.{bool_data}
use Rattle.px_types.specs.Faults.{Broken}
use Rattle.px_types.specs.Declarations.{IsNext, AreNext, start, IsProgramOf, BreaksNext, IsFault}
use Rattle.px_types.specs.Outcomes.{along}
use Rattle.px_types.specs.NextOutcome.{next_found, program_found}
use Rattle.px_types.proofs.Exact.{Exact, Both, Either, first, later, exact_as, exact_ok, exact_then}
use Rattle.px_types.proofs.NextExact.{Stands, exact_next, keeps}

-- The first fault of declarations in their order: that of one, where those before it are typed.
pub data OrderBreaks (raw : RawProgram) : Program → List Decl → Broken → Type 0 where
  here : {P : Program} {d : Decl} {rest : List Decl} {b : Broken} → BreaksNext raw P d b → OrderBreaks raw P (d ∷ rest) b
  beyond : {P Q : Program} {d : Decl} {rest : List Decl} {b : Broken} → IsNext raw P d Q → OrderBreaks raw Q rest b → OrderBreaks raw P (d ∷ rest) b

module _ (raw : RawProgram) where
  none_left : {P Q : Program} → AreNext raw P [] Q → P ≡ Q
  none_left AreNext.none = refl

  exact_order : (order : List Decl) (P : Program) (C : fitting.Counts) → Stands P C → AreInOrder raw C order →
      Exact (along (next_found raw) P order) (AreNext raw P order) (OrderBreaks raw P order)
  unfolding along
  exact_order [] P C stands in_order = record { says = AreNext.none; ok = λ Q next. ap Ok (none_left next); err = λ b br. elim br [ ] }
  exact_order (d ∷ rest) P C stands in_order = exact_as
      (exact_then (exact_next raw P stands in_order) (λ Q next. let kept = keeps P Q stands in_order next in exact_order rest Q kept.C kept.stands kept.order))
      (λ R both. AreNext.more both.is both.after)
      (λ R next. apart next)
      (λ b br. elim br [ first wrong ↦ OrderBreaks.here wrong | later Q next wrong ↦ OrderBreaks.beyond next wrong ])
      (λ b br. broken br)
    where
      apart : {R : Program} → AreNext raw P (d ∷ rest) R → Both (IsNext raw P d) (λ (Q : Program). AreNext raw Q rest) R
      apart (AreNext.more {Q = Q} is are) = record { x = Q; is = is; after = are }

      broken : {b : Broken} → OrderBreaks raw P (d ∷ rest) b → Either (IsNext raw P d) (BreaksNext raw P d) (λ (Q : Program). OrderBreaks raw Q rest) b
      broken (OrderBreaks.here wrong) = first wrong
      broken (OrderBreaks.beyond {Q = Q} next wrong) = later Q next wrong

  -- The fault of a declaration, with those before and after it.
  record Placed (P : Program) (order : List Decl) (b : Broken) : Type 0 where
    before : List Decl
    next : Decl
    after : List Decl
    Q : Program
    order_is : order ≡ before ++ next ∷ after
    typed : AreNext raw P before Q
    broken : BreaksNext raw Q next b

  placed : {P : Program} {order : List Decl} {b : Broken} → OrderBreaks raw P order b → Placed P order b
  placed (OrderBreaks.here {P = P} {d = d} {rest = rest} wrong) = record {
    before = [];
    next = d;
    after = rest;
    Q = P;
    order_is = refl;
    typed = AreNext.none;
    broken = wrong;
  }
  placed (OrderBreaks.beyond {d = d} is wrong) =
      let p = placed wrong in
      record {
        before = d ∷ p.before;
        next = p.next;
        after = p.after;
        Q = p.Q;
        order_is = ap (λ (ds : List Decl). d ∷ ds) p.order_is;
        typed = AreNext.more is p.typed;
        broken = p.broken;
      }

  at_place : {P Q : Program} {before : List Decl} (next : Decl) (after : List Decl) {b : Broken} → AreNext raw P before Q → BreaksNext raw Q next b →
      OrderBreaks raw P (before ++ next ∷ after) b
  at_place next after AreNext.none wrong = OrderBreaks.here wrong
  at_place next after (AreNext.more is are) wrong = OrderBreaks.beyond is (at_place next after are wrong)

  -- `Bool` alone stands before the first declaration
  stands_first : Stands start bool_alone
  stands_first = record { defs = refl; seen = λ n D found. absurd cc; some = some }
    where
      some : (d : ℕ) (D : DataDef) → slice_get start.datatypes d ≡ Some D → 0 < length D.cons
      some zero D found = let same : bool_data ≡ D = cc in subst (λ (x : DataDef). 0 < length x.cons) same (lit< tt)
      some (suc d) D found = absurd cc

  pub exact_program : IsFitting raw → Exact (program_found raw) (IsProgramOf raw) (IsFault raw)
  unfolding program_found
  exact_program fit = exact_as
      (exact_then (exact_order raw.order start bool_alone stands_first fit.order) (λ P typed. exact_ok (record P { names = raw.names })))
      (λ P both. record { nameless = both.x; typed = both.is; named = both.after })
      (λ P is. record { x = is.nameless; is = is.typed; after = is.named })
      (λ b br. elim br [ first wrong ↦ fault_of (placed wrong) | later P typed nothing ↦ absurd nothing ])
      (λ b fault. first (subst (λ (order : List Decl). OrderBreaks raw start order b) (sym fault.order)
      (at_place fault.next fault.after fault.typed fault.broken)))
    where
      fault_of : {b : Broken} → Placed start raw.order b → IsFault raw b
      fault_of p = record { before = p.before; next = p.next; after = p.after; P = p.Q; order = p.order_is; typed = p.typed; broken = p.broken }
