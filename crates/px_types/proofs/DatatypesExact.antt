-- Datatypes are found exactly as the rules say.
use Rattle.std.proofs.Common.{◌≡◌, inl, inr, ℕ, suc, ◌<◌, List, [], ◌∷◌, length, refl, sym, ◌∙◌, ap, subst}
use Rattle.std.specs.List.{All, flat_map}
use Rattle.std.proofs.lemmas.List.Elements.{All-nil, All-cons, All-head, All-tail, All-weaker}
use Rattle.px_base.specs.declared.raw.RawTy.{RawTy}
use Rattle.px_base.specs.declared.raw.RawCon.{RawCon}
use Rattle.px_base.specs.declared.raw.RawData.{RawData}
use Rattle.px_terms.specs.declared.program.ConDef.{ConDef}
use Rattle.px_terms.specs.declared.program.DataDef.{DataDef}
use Rattle.px_terms.specs.declared.program.Program.{Program}
use Rattle.px_terms.specs.TypedPrograms.{IsTypedCon, IsTypedData}
use Rattle.px_types.specs.Faults.{Broken, AreRight, BreaksTys}
use Rattle.px_types.specs.Declarations.{AreCons, IsData, with_datatype, without_constructors, HasWritten}
use Rattle.px_types.specs.Declarations as declarations
use Rattle.px_types.specs.Outcomes.{each}
use Rattle.px_types.specs.NextOutcome.{constructor_found, datatype_found}
use Rattle.px_types.proofs.Exact.{Exact, Both, Either, first, later, exact_as, exact_ok, exact_then, Every, AllAre, OneBreaks, exact_each}
use Rattle.px_types.proofs.Exact as exact
use Rattle.px_types.proofs.TypesExact.{exact_types}
use Rattle.px_types.proofs.HeadingsExact.{front, behind, split}
use Rattle.px_types.proofs.Agreement.{AgreeOnTypes, all_written_agree}
use Rattle.px_types.proofs.ProgramsAgree.{types_agree_with_constructors}

-- the fields that are written in constructors
abbrev pub fields_written : List RawCon → List RawTy
fields_written cons = flat_map (λ (c : RawCon). c.fields) cons

module _ (P : Program) (tparams : ℕ) where
  -- The written constructor is this one, and its fields break no rule.
  record IsRightCon (raw : RawCon) (c : ConDef) : Type 0 where
    right : AreRight P tparams raw.fields c.fields

  exact_constructor : (raw : RawCon) → Exact (constructor_found P tparams raw) (IsRightCon raw) (BreaksTys P tparams raw.fields)
  unfolding constructor_found
  exact_constructor raw = exact_as
      (exact_then (exact_types P tparams raw.fields) (λ fields right. exact_ok (record { fields = fields })))
      (λ c both. subst (IsRightCon raw) (sym both.after) (record { right = both.is }))
      (λ c is. record { x = c.fields; is = is.right; after = refl })
      (λ b br. elim br [ first wrong ↦ wrong | later fields right nothing ↦ absurd nothing ])
      (λ b br. first br)

  every_constructor : (raws : List RawCon) →
      Every (λ (raw : RawCon). Exact (constructor_found P tparams raw) (IsRightCon raw) (BreaksTys P tparams raw.fields)) raws
  every_constructor [] = tt
  every_constructor (raw ∷ raws) = (exact_constructor raw, every_constructor raws)

  fields_of : {raw : RawCon} {c : ConDef} → IsRightCon raw c → HasWritten P tparams raw.fields
  fields_of {c = c} is = record { types = c.fields; right = is.right }

  broken_cons : {raws : List RawCon} {b : Broken} → OneBreaks IsRightCon (λ (raw : RawCon). BreaksTys P tparams raw.fields) raws b →
      BreaksTys P tparams (fields_written raws) b
  broken_cons (exact.here {xs = raws} br) = front P tparams br (fields_written raws)
  broken_cons (exact.behind {x = raw} is br) = behind P tparams raw.fields (fields_of is) (broken_cons br)

  cons_broken : (raws : List RawCon) {b : Broken} → BreaksTys P tparams (fields_written raws) b →
      OneBreaks IsRightCon (λ (raw : RawCon). BreaksTys P tparams raw.fields) raws b
  cons_broken [] br = elim br [ ]
  cons_broken (raw ∷ raws) br = elim (split P tparams raw.fields (fields_written raws) br) [
    | inl wrong ↦ exact.here wrong
    | inr rest ↦ exact.behind {y = record { fields = rest.0.types }} (record { right = rest.0.right }) (cons_broken raws rest.1)
  ]

  exact_constructors : (raws : List RawCon) →
      Exact (each (constructor_found P tparams) raws) (AllAre IsRightCon raws) (BreaksTys P tparams (fields_written raws))
  exact_constructors raws = exact_as (exact_each (constructor_found P tparams) IsRightCon (λ (raw : RawCon). BreaksTys P tparams raw.fields) raws
      (every_constructor raws)) (λ cons all. all) (λ cons all. all) (λ b br. broken_cons br) (λ b br. cons_broken raws br)

  are_cons : {raws : List RawCon} {cons : List ConDef} → AllAre IsRightCon raws cons → AreCons raws cons
  are_cons exact.none = declarations.none
  are_cons (exact.more is all) = declarations.more is.right.are (are_cons all)

  typed_cons : {raws : List RawCon} {cons : List ConDef} → AllAre IsRightCon raws cons → All (IsTypedCon P tparams) cons
  typed_cons exact.none = All-nil (IsTypedCon P tparams)
  typed_cons (exact.more {y = c} {ys = cons} is all) = All-cons (IsTypedCon P tparams) c cons is.right.written (typed_cons all)

  right_cons : {raws : List RawCon} {cons : List ConDef} → AreCons raws cons → All (IsTypedCon P tparams) cons → AllAre IsRightCon raws cons
  right_cons declarations.none all = exact.none
  right_cons (declarations.more {con = c} {cons = cons} are rest) all =
      exact.more (record { right = record { are = are; written = All-head (IsTypedCon P tparams) c cons all } })
      (right_cons rest (All-tail (IsTypedCon P tparams) c cons all))

cons_length : {raws : List RawCon} {cons : List ConDef} → AreCons raws cons → length raws ≡ length cons
cons_length declarations.none = refl
cons_length (declarations.more are rest) = ap (λ n. suc n) (cons_length rest)

-- The datatype is this one, which stands behind the others.
pub record DatatypeStep (P : Program) (d : RawData) (Q : Program) : Type 0 where
  pub D : DataDef
  pub is : IsData d D
  pub typed : IsTypedData (with_datatype P D) D
  pub same : Q ≡ with_datatype P D

module _ (P : Program) (d : RawData) (some : 0 < length d.cons) where
  -- where the fields are looked at
  abbrev so_far : Program
  so_far = with_datatype P (without_constructors d)

  -- the types are the same there and where the constructors are known
  known : (D : DataDef) → D.tparams ≡ d.tparams → AgreeOnTypes so_far (with_datatype P D)
  known D e = types_agree_with_constructors P (without_constructors d) D e

  unknown : (D : DataDef) → D.tparams ≡ d.tparams → AgreeOnTypes (with_datatype P D) so_far
  unknown D e = types_agree_with_constructors P D (without_constructors d) (sym e)

  cons_stand : (P Q : Program) → AgreeOnTypes P Q → (tparams : ℕ) (cons : List ConDef) → All (IsTypedCon P tparams) cons → All (IsTypedCon Q tparams) cons
  cons_stand P Q stand tparams cons all = All-weaker (IsTypedCon P tparams) (IsTypedCon Q tparams)
      (λ c typed. all_written_agree stand tparams c.fields typed) cons all

  step_of : (cons : List ConDef) → AllAre (IsRightCon so_far d.tparams) d.cons cons →
      DatatypeStep P d (with_datatype P (record { tparams = d.tparams; cons = cons }))
  step_of cons all =
      let D : DataDef = record { tparams = d.tparams; cons = cons } in
      let are = are_cons so_far d.tparams all in
      record {
        D = record { tparams = d.tparams; cons = cons };
        is = record { tparams = refl; cons = are };
        typed = record {
          some = subst (λ (n : ℕ). 0 < n) (cons_length are) some;
          cons = cons_stand so_far (with_datatype P D) (known D refl) d.tparams cons (typed_cons so_far d.tparams all);
        };
        same = refl;
      }

  cons_of : (D : DataDef) → IsData d D → IsTypedData (with_datatype P D) D → AllAre (IsRightCon so_far d.tparams) d.cons D.cons
  cons_of D is typed = right_cons so_far d.tparams is.cons
      (subst (λ (n : ℕ). All (IsTypedCon so_far n) D.cons) is.tparams
      (cons_stand (with_datatype P D) so_far (unknown D is.tparams) D.tparams D.cons typed.cons))

  pub exact_datatype : Exact (datatype_found P d) (DatatypeStep P d) (BreaksTys so_far d.tparams (fields_written d.cons))
  unfolding datatype_found
  exact_datatype = exact_as
      (exact_then (exact_constructors so_far d.tparams d.cons) (λ cons all. exact_ok (with_datatype P (record { tparams = d.tparams; cons = cons }))))
      (λ Q both. subst (DatatypeStep P d) (sym both.after) (step_of both.x both.is))
      (λ Q step. record {
        x = step.D.cons;
        is = cons_of step.D step.is step.typed;
        after =
            step.same ∙ (λ i. with_datatype P (record { tparams = step.is.tparams i; cons = step.D.cons }));
      })
      (λ b br. elim br [ first wrong ↦ wrong | later cons all nothing ↦ absurd nothing ])
      (λ b br. first br)
