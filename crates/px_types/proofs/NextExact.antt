-- One declaration more is found exactly as the rules say, where the declarations before it stand in their order.
use Rattle.std.proofs.Common.{◌≡◌, ℕ, zero, suc, ◌+◌, ◌<◌, ◌≤◌, List, [], ◌∷◌, ◌++◌, length, Option, Some, None, Result, Ok, Err, refl, sym, ◌∙◌, ap, subst, arith, length-append}
use Rattle.std.specs.Prelude.{slice_get}
use Rattle.std.specs.Option.{IsSomeAnd}
use Rattle.px_base.specs.Fitting.{AreInOrder, IsReplicaIn, IsDataIn, IsCalledIn, replica_range}
use Rattle.px_base.specs.Fitting as fitting
use Rattle.px_base.specs.declared.head.Head.{Head}
use Rattle.px_base.specs.declared.head.Head.TheVariants.{Def, Wle, Weq, FnVar}
use Rattle.px_base.specs.declared.raw.Decl.{Decl}
use Rattle.px_base.specs.declared.raw.Decl.TheVariants as decl
use Rattle.px_base.specs.declared.raw.RawData.{RawData}
use Rattle.px_base.specs.declared.raw.RawKind.{out-RawKind}
use Rattle.px_base.specs.declared.raw.RawDef.{RawDef}
use Rattle.px_base.specs.declared.raw.RawClaim.{RawClaim}
use Rattle.px_base.specs.declared.raw.RawLemma.{RawLemma}
use Rattle.px_base.specs.declared.raw.RawReplica.{RawReplica}
use Rattle.px_base.specs.declared.raw.RawProgram.{RawProgram}
use Rattle.px_terms.specs.declared.types.Ty.{Ty}
use Rattle.px_terms.specs.declared.program.DataDef.{DataDef}
use Rattle.px_terms.specs.declared.program.Def as definition
use Rattle.px_terms.specs.declared.program.Declared.{Declared}
use Rattle.px_terms.specs.declared.program.Program.{Program}
use Rattle.px_terms.specs.Typing.{behind, StandsBefore, MayCall}
use Rattle.px_types.specs.Faults.{Broken, BreaksTys}
use Rattle.px_types.specs.Declarations.{with_datatype, with_definition, with_obligations, without_constructors, obligations_of, IsNext, BreaksNext, BreaksDef, BreaksLemma, BreaksReplica, BreaksProps}
use Rattle.px_types.specs.Outcomes.{onward}
use Rattle.px_types.specs.NextOutcome.{checked, datatype_found, signature_found, body_found, claim_found, variables_found, equations_found, state_found, merge_found, types_found, terms_found, next_found}
use Rattle.px_types.proofs.Exact.{Exact, exact_as, exact_at}
use Rattle.px_types.proofs.DefinitionsExact.{HaveConstructors, DefinitionStep, exact_definition, ClaimStep, exact_claim}
use Rattle.px_types.proofs.DatatypesExact.{DatatypeStep, fields_written, exact_datatype}
use Rattle.px_types.proofs.EquationsExact.{LemmaStep, exact_lemma}
use Rattle.px_types.proofs.ReplicasExact.{ReplicaStep, exact_replica}

one_some : {X : Type 0} {x y : X} → Some x ≡ Some y → x ≡ y
one_some e = cc

-- What is known of the program so far, by how many declarations of each kind stand before the next one.
pub record Stands (P : Program) (C : fitting.Counts) : Type 0 where
  pub defs : length P.defs ≡ C.defs
  pub seen : (n : ℕ) (D : definition.Def) → slice_get P.defs n ≡ Some D → D.seen ≤ length P.declared
  pub some : HaveConstructors P

-- what is looked at twice is looked at once
looked_twice : {S T : Type 0} (o : Result S Broken) (f : S → Result T Broken) → onward (checked o) (λ _. onward o f) ≡ onward o f
unfolding onward checked
looked_twice (Ok x) f = refl
looked_twice (Err b) f = refl

looked_again : {S : Type 0} (o : Result S Broken) → onward (checked o) (λ _. o) ≡ o
unfolding onward checked
looked_again (Ok x) = refl
looked_again (Err b) = refl

-- what holds of each item where it holds of those before and of the last
pub each_pushed : {X : Type 0} (xs : List X) (x y : X) (i : ℕ) (P : X → Type 0) → ((i : ℕ) (z : X) → slice_get xs i ≡ Some z → P z) → P x →
    slice_get (xs ++ x ∷ []) i ≡ Some y → P y
each_pushed [] x y zero P each last found = subst P (one_some found) last
each_pushed [] x y (suc i) P each last found = absurd cc
each_pushed (z ∷ xs) x y zero P each last found = each 0 y found
each_pushed (z ∷ xs) x y (suc i) P each last found = each_pushed xs x y i P (λ k w e. each (suc k) w e) last found

-- the first fault of the fields of a datatype
abbrev FieldsBreak : Program → RawData → Broken → Type 0
FieldsBreak P d b = BreaksTys (with_datatype P (without_constructors d)) d.tparams (fields_written d.cons) b

module _ (raw : RawProgram) (P : Program) where
  next_datatype : (n : ℕ) (d : RawData) → slice_get raw.datatypes n ≡ Some d → next_found raw P (decl.Datatype n) ≡ datatype_found P d
  unfolding next_found types_found terms_found
  next_datatype n d e = ap (λ (o : Option RawData). onward (elim o as (λ _. Result (Unit {0}) Broken) [ None ↦ Ok tt | Some x ↦ checked (datatype_found P x) ])
      (λ _. elim o as (λ _. Result Program Broken) [ None ↦ Ok P | Some x ↦ datatype_found P x ])) e ∙ looked_again (datatype_found P d)

  next_definition : (n : ℕ) (d : RawDef) → slice_get raw.defs n ≡ Some d →
      next_found raw P (decl.Definition n) ≡ onward (signature_found P d) (λ _. body_found P d)
  unfolding next_found types_found terms_found
  next_definition n d e = ap (λ (o : Option RawDef). onward (elim o as (λ _. Result (Unit {0}) Broken) [ None ↦ Ok tt | Some x ↦ signature_found P x ])
      (λ _. elim o as (λ _. Result Program Broken) [ None ↦ Ok P | Some x ↦ body_found P x ])) e

  next_claim : (n : ℕ) (c : RawClaim) → slice_get raw.claims n ≡ Some c →
      next_found raw P (decl.Claim n) ≡ onward (claim_found P c) (λ _. Ok (with_obligations P (obligations_of c.def c.props)))
  unfolding next_found types_found terms_found
  next_claim n c e = ap (λ (o : Option RawClaim). onward (elim o as (λ _. Result (Unit {0}) Broken) [ None ↦ Ok tt | Some x ↦ claim_found P x ])
      (λ _. elim o as (λ _. Result Program Broken) [ None ↦ Ok P | Some x ↦ Ok (with_obligations P (obligations_of x.def x.props)) ])) e

  next_lemma : (n : ℕ) (l : RawLemma) → slice_get raw.lemmas n ≡ Some l →
      next_found raw P (decl.Lemma n) ≡ onward (variables_found P l) (λ _. equations_found P l)
  unfolding next_found types_found terms_found
  next_lemma n l e = ap (λ (o : Option RawLemma). onward (elim o as (λ _. Result (Unit {0}) Broken) [ None ↦ Ok tt | Some x ↦ variables_found P x ])
      (λ _. elim o as (λ _. Result Program Broken) [ None ↦ Ok P | Some x ↦ equations_found P x ])) e

  state_twice : (r : RawReplica) → onward (checked (state_found P r)) (λ _. merge_found P r) ≡ merge_found P r
  unfolding merge_found
  state_twice r = looked_twice (state_found P r) _

  next_replica : (n : ℕ) (r : RawReplica) → slice_get raw.replicas n ≡ Some r → next_found raw P (decl.Replica n) ≡ merge_found P r
  unfolding next_found types_found terms_found
  next_replica n r e = ap (λ (o : Option RawReplica). onward (elim o as (λ _. Result (Unit {0}) Broken) [ None ↦ Ok tt | Some x ↦ checked (state_found P x) ])
      (λ _. elim o as (λ _. Result Program Broken) [ None ↦ Ok P | Some x ↦ merge_found P x ])) e ∙ state_twice r

  -- each kind of declaration in the words of the rules
  exact_next_datatype : (n : ℕ) (d : RawData) → slice_get raw.datatypes n ≡ Some d → 0 < length d.cons →
      Exact (next_found raw P (decl.Datatype n)) (IsNext raw P (decl.Datatype n)) (BreaksNext raw P (decl.Datatype n))
  exact_next_datatype n d e some = exact_at (next_datatype n d e) (exact_as (exact_datatype P d some)
      (λ Q step. IsNext.datatype e step.is step.typed step.same)
      (λ Q next. step next)
      (λ b br. BreaksNext.datatype e br)
      (λ b br. wrong br))
    where
      step : {Q : Program} → IsNext raw P (decl.Datatype n) Q → DatatypeStep P d Q
      step {Q} (IsNext.datatype {d = x} {D = D} stands is typed same) = subst (λ (y : RawData). DatatypeStep P y Q) (one_some (sym stands ∙ e))
          (record { D = D; is = is; typed = typed; same = same })

      wrong : {b : Broken} → BreaksNext raw P (decl.Datatype n) b → FieldsBreak P d b
      wrong {b} (BreaksNext.datatype {d = x} stands br) = subst (λ (y : RawData). FieldsBreak P y b) (one_some (sym stands ∙ e)) br

  exact_next_definition : (n : ℕ) (d : RawDef) → slice_get raw.defs n ≡ Some d → HaveConstructors P → n ≡ length P.defs →
      Exact (next_found raw P (decl.Definition n)) (IsNext raw P (decl.Definition n)) (BreaksNext raw P (decl.Definition n))
  exact_next_definition n d e some at = exact_at (next_definition n d e) (exact_as (exact_definition P d some n at)
      (λ Q step. IsNext.definition e step.signature step.is step.typed step.fit step.same)
      (λ Q next. step next)
      (λ b br. BreaksNext.definition e br)
      (λ b br. wrong br))
    where
      step : {Q : Program} → IsNext raw P (decl.Definition n) Q → DefinitionStep P d n Q
      step {Q} (IsNext.definition {d = x} {D = D} stands signature is typed fit same) = subst (λ (y : RawDef). DefinitionStep P y n Q)
          (one_some (sym stands ∙ e)) (record { D = D; signature = signature; is = is; typed = typed; fit = fit; same = same })

      wrong : {b : Broken} → BreaksNext raw P (decl.Definition n) b → BreaksDef P d b
      wrong {b} (BreaksNext.definition {d = x} stands br) = subst (λ (y : RawDef). BreaksDef P y b) (one_some (sym stands ∙ e)) br

  exact_next_claim : (n : ℕ) (c : RawClaim) → slice_get raw.claims n ≡ Some c →
      Exact (next_found raw P (decl.Claim n)) (IsNext raw P (decl.Claim n)) (BreaksNext raw P (decl.Claim n))
  exact_next_claim n c e = exact_at (next_claim n c e) (exact_as (exact_claim P c)
      (λ Q step. IsNext.claim e step.fit step.same)
      (λ Q next. step next)
      (λ b br. BreaksNext.claim e br)
      (λ b br. wrong br))
    where
      step : {Q : Program} → IsNext raw P (decl.Claim n) Q → ClaimStep P c Q
      step {Q} (IsNext.claim {c = x} stands fit same) = subst (λ (y : RawClaim). ClaimStep P y Q) (one_some (sym stands ∙ e))
          (record { fit = fit; same = same })

      wrong : {b : Broken} → BreaksNext raw P (decl.Claim n) b → BreaksProps P [] (Def c.def) c.props b
      wrong {b} (BreaksNext.claim {c = x} stands br) = subst (λ (y : RawClaim). BreaksProps P [] (Def y.def) y.props b) (one_some (sym stands ∙ e)) br

  exact_next_lemma : (n : ℕ) (l : RawLemma) → slice_get raw.lemmas n ≡ Some l → HaveConstructors P →
      Exact (next_found raw P (decl.Lemma n)) (IsNext raw P (decl.Lemma n)) (BreaksNext raw P (decl.Lemma n))
  exact_next_lemma n l e some = exact_at (next_lemma n l e) (exact_as (exact_lemma P l some)
      (λ Q step. IsNext.lemma e step.is step.typed step.same)
      (λ Q next. step next)
      (λ b br. BreaksNext.lemma e br)
      (λ b br. wrong br))
    where
      step : {Q : Program} → IsNext raw P (decl.Lemma n) Q → LemmaStep P l Q
      step {Q} (IsNext.lemma {l = x} {L = L} stands is typed same) = subst (λ (y : RawLemma). LemmaStep P y Q) (one_some (sym stands ∙ e))
          (record { L = L; is = is; typed = typed; same = same })

      wrong : {b : Broken} → BreaksNext raw P (decl.Lemma n) b → BreaksLemma P l b
      wrong {b} (BreaksNext.lemma {l = x} stands br) = subst (λ (y : RawLemma). BreaksLemma P y b) (one_some (sym stands ∙ e)) br

  exact_next_replica : (n : ℕ) (r : RawReplica) → slice_get raw.replicas n ≡ Some r → HaveConstructors P → fitting.IsGround (out-RawKind r.from.kind) →
      ((types : List Ty) → MayCall P (behind (length P.declared)) r.merge.head types) → Exact (next_found raw P (decl.Replica n))
      (IsNext raw P (decl.Replica n)) (BreaksNext raw P (decl.Replica n))
  exact_next_replica n r e some ground callable = exact_at (next_replica n r e) (exact_as (exact_replica P r some ground callable)
      (λ Q step. IsNext.replica e step.is step.typed step.same)
      (λ Q next. step next)
      (λ b br. BreaksNext.replica e br)
      (λ b br. wrong br))
    where
      step : {Q : Program} → IsNext raw P (decl.Replica n) Q → ReplicaStep P r Q
      step {Q} (IsNext.replica {r = x} {R = R} stands is typed same) = subst (λ (y : RawReplica). ReplicaStep P y Q) (one_some (sym stands ∙ e))
          (record { R = R; is = is; typed = typed; same = same })

      wrong : {b : Broken} → BreaksNext raw P (decl.Replica n) b → BreaksReplica P r b
      wrong {b} (BreaksNext.replica {r = x} stands br) = subst (λ (y : RawReplica). BreaksReplica P y b) (one_some (sym stands ∙ e)) br

-- a definition before the replica may be called there
module _ (P : Program) (C : fitting.Counts) (stands : Stands P C) where
  before : (m : ℕ) → m < length P.defs → StandsBefore P m (length P.declared)
  before m below = go (slice_get P.defs m) refl
    where
      there : {X : Type 0} (xs : List X) (i : ℕ) → i < length xs → slice_get xs i ≡ None → ⊥
      there [] i h e = absurd (omega arith)
      there (x ∷ xs) zero h e = absurd cc
      there (x ∷ xs) (suc i) h e = there xs i (omega arith) e

      go : (o : Option definition.Def) → slice_get P.defs m ≡ o → IsSomeAnd o (λ (D : definition.Def). D.seen ≤ length P.declared)
      go None e = absurd (there P.defs m below e)
      go (Some D) e = stands.seen m D e

  may_call : (h : Head) → IsCalledIn (replica_range C) h → (types : List Ty) → MayCall P (behind (length P.declared)) h types
  may_call (Def m) below types = before m (subst (λ (k : ℕ). m < k) (sym stands.defs) below)
  may_call Wle below types = tt
  may_call Weq below types = tt
  may_call (FnVar i) below types = tt

-- the next declaration
module _ (raw : RawProgram) where
  pub exact_next : {C : fitting.Counts} {d : Decl} {rest : List Decl} (P : Program) → Stands P C → AreInOrder raw C (d ∷ rest) →
      Exact (next_found raw P d) (IsNext raw P d) (BreaksNext raw P d)
  exact_next P stands (AreInOrder.datatype {n = n} {raw = d} is at has rest) = exact_next_datatype raw P n d at has.some
  exact_next P stands (AreInOrder.definition {n = n} {raw = d} is at has rest) = exact_next_definition raw P n d at stands.some (is ∙ sym stands.defs)
  exact_next P stands (AreInOrder.claim {n = n} {raw = c} is at has rest) = exact_next_claim raw P n c at
  exact_next P stands (AreInOrder.lemma {n = n} {raw = l} is at has rest) = exact_next_lemma raw P n l at stands.some
  exact_next {C} P stands (AreInOrder.replica {n = n} {raw = r} is at has rest) = exact_next_replica raw P n r at stands.some has.ground
      (may_call P C stands r.merge.head has.merge.head)

-- What is known after the next declaration.
pub record Kept (raw : RawProgram) (Q : Program) (rest : List Decl) : Type 0 where
  pub C : fitting.Counts
  pub stands : Stands Q C
  pub order : AreInOrder raw C rest

longer : {X : Type 0} (n : ℕ) (xs ys : List X) → n ≤ length xs → n ≤ length (xs ++ ys)
longer n xs ys h = omega (arith, length-append xs ys)

module _ (raw : RawProgram) (P : Program) (C : fitting.Counts) (stands : Stands P C) where
  after_datatype : {n : ℕ} {Q : Program} → IsNext raw P (decl.Datatype n) Q → Stands Q (record C { datatypes = C.datatypes + 1 })
  after_datatype {n} {Q} (IsNext.datatype {D = D} at is typed same) = subst (λ (X : Program). Stands X (record C { datatypes = C.datatypes + 1 })) (sym same)
      (record {
        defs = stands.defs;
        seen = stands.seen;
        some = λ i E found. each_pushed P.datatypes D E i (λ (x : DataDef). 0 < length x.cons) stands.some typed.some found;
      })

  definition_after : (D : definition.Def) (more : List Declared) → D.seen ≡ length P.declared →
      Stands (with_obligations (with_definition P D) more) (record C { defs = C.defs + 1 })
  definition_after D more e =
      let before_it : length P.defs ≡ C.defs = stands.defs in
      record {
        defs = omega (arith, length-append P.defs (D ∷ []), before_it);
        seen = λ i E found. each_pushed P.defs D E i (λ (x : definition.Def). x.seen ≤ length (P.declared ++ more))
            (λ j F at. longer F.seen P.declared more (stands.seen j F at)) (longer D.seen P.declared more (omega arith)) found;
        some = stands.some;
      }

  after_definition : {n : ℕ} {Q : Program} → IsNext raw P (decl.Definition n) Q → Stands Q (record C { defs = C.defs + 1 })
  after_definition {n} {Q} (IsNext.definition {d = d} {D = D} at signature is typed fit same) =
      subst (λ (X : Program). Stands X (record C { defs = C.defs + 1 })) (sym same) (definition_after D (obligations_of n d.props) signature.stands)

  after_claim : {n : ℕ} {Q : Program} → IsNext raw P (decl.Claim n) Q → Stands Q (record C { claims = C.claims + 1 })
  after_claim {n} {Q} (IsNext.claim {c = c} at fit same) = subst (λ (X : Program). Stands X (record C { claims = C.claims + 1 })) (sym same) (record {
    defs = stands.defs;
    seen = λ i E found. longer E.seen P.declared (obligations_of c.def c.props) (stands.seen i E found);
    some = stands.some;
  })

  after_lemma : {n : ℕ} {Q : Program} → IsNext raw P (decl.Lemma n) Q → Stands Q (record C { lemmas = C.lemmas + 1 })
  after_lemma {n} {Q} (IsNext.lemma {L = L} at is typed same) = subst (λ (X : Program). Stands X (record C { lemmas = C.lemmas + 1 })) (sym same) (record {
    defs = stands.defs;
    seen = λ i E found. longer E.seen P.declared _ (stands.seen i E found);
    some = stands.some;
  })

  after_replica : {n : ℕ} {Q : Program} → IsNext raw P (decl.Replica n) Q → Stands Q (record C { replicas = C.replicas + 1 })
  after_replica {n} {Q} (IsNext.replica {R = R} at is typed same) = subst (λ (X : Program). Stands X (record C { replicas = C.replicas + 1 })) (sym same)
      (record { defs = stands.defs; seen = stands.seen; some = stands.some })

pub keeps : {raw : RawProgram} {C : fitting.Counts} {d : Decl} {rest : List Decl} (P Q : Program) → Stands P C → AreInOrder raw C (d ∷ rest) →
    IsNext raw P d Q → Kept raw Q rest
keeps {raw} {C} P Q stands (AreInOrder.datatype is at has order) next = record {
  C = record C { datatypes = C.datatypes + 1 };
  stands = after_datatype raw P C stands next;
  order = order;
}
keeps {raw} {C} P Q stands (AreInOrder.definition is at has order) next = record {
  C = record C { defs = C.defs + 1 };
  stands = after_definition raw P C stands next;
  order = order;
}
keeps {raw} {C} P Q stands (AreInOrder.claim is at has order) next = record {
  C = record C { claims = C.claims + 1 };
  stands = after_claim raw P C stands next;
  order = order;
}
keeps {raw} {C} P Q stands (AreInOrder.lemma is at has order) next = record {
  C = record C { lemmas = C.lemmas + 1 };
  stands = after_lemma raw P C stands next;
  order = order;
}
keeps {raw} {C} P Q stands (AreInOrder.replica is at has order) next = record {
  C = record C { replicas = C.replicas + 1 };
  stands = after_replica raw P C stands next;
  order = order;
}
