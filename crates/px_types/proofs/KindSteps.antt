-- What is found of a declaration, by its kind.
use Rattle.std.proofs.Common.{◌≡◌, ℕ, Option, Some, None, Result, Ok, sym, ◌∙◌, ap, subst}
use Rattle.std.specs.Prelude.{slice_get}
use Rattle.px_base.specs.declared.raw.Decl.{Decl}
use Rattle.px_base.specs.declared.raw.Decl.TheVariants as decl
use Rattle.px_base.specs.declared.raw.RawData.{RawData}
use Rattle.px_base.specs.declared.raw.RawDef.{RawDef}
use Rattle.px_base.specs.declared.raw.RawClaim.{RawClaim}
use Rattle.px_base.specs.declared.raw.RawLemma.{RawLemma}
use Rattle.px_base.specs.declared.raw.RawReplica.{RawReplica}
use Rattle.px_base.specs.declared.raw.RawProgram.{RawProgram}
use Rattle.px_terms.specs.declared.program.Program.{Program}
use Rattle.px_types.specs.declared.ends.TypeEnd.{TypeEnd}
use Rattle.px_types.specs.Faults.{Broken}
use Rattle.px_types.specs.Answers.{Answers}
use Rattle.px_types.specs.Declarations.{with_obligations, obligations_of}
use Rattle.px_types.specs.NextOutcome.{datatype_found, signature_found, body_found, claim_found, variables_found, equations_found, state_found, merge_found}
use Rattle.px_types.specs.NextOutcome.{checked, types_found, terms_found}
use Rattle.px_types.specs.Checkings.{Takes}

-- the answer of an outcome is that of the same outcome
pub answers_as : {T : Type 0} (out other : Result T Broken) (r : Result T TypeEnd) → out ≡ other → Answers other r → Answers out r
answers_as out other r e h = subst (λ (o : Result _ Broken). Answers o r) (sym e) h

pub takes_as : (out other : Result Program Broken) (new : Program) (r : Result (Unit {0}) TypeEnd) → out ≡ other → Takes other new r → Takes out new r
takes_as out other new r e h = subst (λ (o : Result Program Broken). Takes o new r) (sym e) h

module _ (raw : RawProgram) (P : Program) (next : Decl) (n : ℕ) where
  datatype_types_at : (o : Option RawData) → next ≡ decl.Datatype n → o ≡ slice_get raw.datatypes n →
      types_found raw P next ≡ elim o as (λ _. Result (Unit {0}) Broken) [ None ↦ Ok tt | Some x ↦ checked (datatype_found P x) ]
  unfolding types_found
  datatype_types_at o e at =
      ap (λ (d : Decl). types_found raw P d) e
      ∙ ap (λ (p : Option RawData). elim p as (λ _. Result (Unit {0}) Broken) [ None ↦ Ok tt | Some x ↦ checked (datatype_found P x) ]) (sym at)

  datatype_terms_at : (o : Option RawData) → next ≡ decl.Datatype n → o ≡ slice_get raw.datatypes n →
      terms_found raw P next ≡ elim o as (λ _. Result (Program) Broken) [ None ↦ Ok P | Some x ↦ datatype_found P x ]
  unfolding terms_found
  datatype_terms_at o e at =
      ap (λ (d : Decl). terms_found raw P d) e
      ∙ ap (λ (p : Option RawData). elim p as (λ _. Result (Program) Broken) [ None ↦ Ok P | Some x ↦ datatype_found P x ]) (sym at)

  pub datatype_types : (x : RawData) → next ≡ decl.Datatype n → Some x ≡ slice_get raw.datatypes n → types_found raw P next ≡ checked (datatype_found P x)
  datatype_types x e at = datatype_types_at (Some x) e at

  pub no_datatype_types : next ≡ decl.Datatype n → None ≡ slice_get raw.datatypes n → types_found raw P next ≡ Ok tt
  no_datatype_types e at = datatype_types_at None e at

  pub datatype_terms : (x : RawData) → next ≡ decl.Datatype n → Some x ≡ slice_get raw.datatypes n → terms_found raw P next ≡ datatype_found P x
  datatype_terms x e at = datatype_terms_at (Some x) e at

  pub no_datatype_terms : next ≡ decl.Datatype n → None ≡ slice_get raw.datatypes n → terms_found raw P next ≡ Ok P
  no_datatype_terms e at = datatype_terms_at None e at

  definition_types_at : (o : Option RawDef) → next ≡ decl.Definition n → o ≡ slice_get raw.defs n →
      types_found raw P next ≡ elim o as (λ _. Result (Unit {0}) Broken) [ None ↦ Ok tt | Some x ↦ signature_found P x ]
  unfolding types_found
  definition_types_at o e at =
      ap (λ (d : Decl). types_found raw P d) e
      ∙ ap (λ (p : Option RawDef). elim p as (λ _. Result (Unit {0}) Broken) [ None ↦ Ok tt | Some x ↦ signature_found P x ]) (sym at)

  definition_terms_at : (o : Option RawDef) → next ≡ decl.Definition n → o ≡ slice_get raw.defs n →
      terms_found raw P next ≡ elim o as (λ _. Result (Program) Broken) [ None ↦ Ok P | Some x ↦ body_found P x ]
  unfolding terms_found
  definition_terms_at o e at =
      ap (λ (d : Decl). terms_found raw P d) e
      ∙ ap (λ (p : Option RawDef). elim p as (λ _. Result (Program) Broken) [ None ↦ Ok P | Some x ↦ body_found P x ]) (sym at)

  pub definition_types : (x : RawDef) → next ≡ decl.Definition n → Some x ≡ slice_get raw.defs n → types_found raw P next ≡ signature_found P x
  definition_types x e at = definition_types_at (Some x) e at

  pub no_definition_types : next ≡ decl.Definition n → None ≡ slice_get raw.defs n → types_found raw P next ≡ Ok tt
  no_definition_types e at = definition_types_at None e at

  pub definition_terms : (x : RawDef) → next ≡ decl.Definition n → Some x ≡ slice_get raw.defs n → terms_found raw P next ≡ body_found P x
  definition_terms x e at = definition_terms_at (Some x) e at

  pub no_definition_terms : next ≡ decl.Definition n → None ≡ slice_get raw.defs n → terms_found raw P next ≡ Ok P
  no_definition_terms e at = definition_terms_at None e at

  claim_types_at : (o : Option RawClaim) → next ≡ decl.Claim n → o ≡ slice_get raw.claims n →
      types_found raw P next ≡ elim o as (λ _. Result (Unit {0}) Broken) [ None ↦ Ok tt | Some x ↦ claim_found P x ]
  unfolding types_found
  claim_types_at o e at =
      ap (λ (d : Decl). types_found raw P d) e
      ∙ ap (λ (p : Option RawClaim). elim p as (λ _. Result (Unit {0}) Broken) [ None ↦ Ok tt | Some x ↦ claim_found P x ]) (sym at)

  claim_terms_at : (o : Option RawClaim) → next ≡ decl.Claim n → o ≡ slice_get raw.claims n →
      terms_found raw P next ≡ elim o as (λ _. Result (Program) Broken) [ None ↦ Ok P | Some x ↦ Ok (with_obligations P (obligations_of x.def x.props)) ]
  unfolding terms_found
  claim_terms_at o e at =
      ap (λ (d : Decl). terms_found raw P d) e
      ∙ ap (λ (p : Option RawClaim). elim p as (λ _. Result (Program) Broken) [ None ↦ Ok P | Some x ↦ Ok (with_obligations P (obligations_of x.def x.props)) ])
      (sym at)

  pub claim_types : (x : RawClaim) → next ≡ decl.Claim n → Some x ≡ slice_get raw.claims n → types_found raw P next ≡ claim_found P x
  claim_types x e at = claim_types_at (Some x) e at

  pub no_claim_types : next ≡ decl.Claim n → None ≡ slice_get raw.claims n → types_found raw P next ≡ Ok tt
  no_claim_types e at = claim_types_at None e at

  pub claim_terms : (x : RawClaim) → next ≡ decl.Claim n → Some x ≡ slice_get raw.claims n →
      terms_found raw P next ≡ Ok (with_obligations P (obligations_of x.def x.props))
  claim_terms x e at = claim_terms_at (Some x) e at

  pub no_claim_terms : next ≡ decl.Claim n → None ≡ slice_get raw.claims n → terms_found raw P next ≡ Ok P
  no_claim_terms e at = claim_terms_at None e at

  lemma_types_at : (o : Option RawLemma) → next ≡ decl.Lemma n → o ≡ slice_get raw.lemmas n →
      types_found raw P next ≡ elim o as (λ _. Result (Unit {0}) Broken) [ None ↦ Ok tt | Some x ↦ variables_found P x ]
  unfolding types_found
  lemma_types_at o e at =
      ap (λ (d : Decl). types_found raw P d) e
      ∙ ap (λ (p : Option RawLemma). elim p as (λ _. Result (Unit {0}) Broken) [ None ↦ Ok tt | Some x ↦ variables_found P x ]) (sym at)

  lemma_terms_at : (o : Option RawLemma) → next ≡ decl.Lemma n → o ≡ slice_get raw.lemmas n →
      terms_found raw P next ≡ elim o as (λ _. Result (Program) Broken) [ None ↦ Ok P | Some x ↦ equations_found P x ]
  unfolding terms_found
  lemma_terms_at o e at =
      ap (λ (d : Decl). terms_found raw P d) e
      ∙ ap (λ (p : Option RawLemma). elim p as (λ _. Result (Program) Broken) [ None ↦ Ok P | Some x ↦ equations_found P x ]) (sym at)

  pub lemma_types : (x : RawLemma) → next ≡ decl.Lemma n → Some x ≡ slice_get raw.lemmas n → types_found raw P next ≡ variables_found P x
  lemma_types x e at = lemma_types_at (Some x) e at

  pub no_lemma_types : next ≡ decl.Lemma n → None ≡ slice_get raw.lemmas n → types_found raw P next ≡ Ok tt
  no_lemma_types e at = lemma_types_at None e at

  pub lemma_terms : (x : RawLemma) → next ≡ decl.Lemma n → Some x ≡ slice_get raw.lemmas n → terms_found raw P next ≡ equations_found P x
  lemma_terms x e at = lemma_terms_at (Some x) e at

  pub no_lemma_terms : next ≡ decl.Lemma n → None ≡ slice_get raw.lemmas n → terms_found raw P next ≡ Ok P
  no_lemma_terms e at = lemma_terms_at None e at

  replica_types_at : (o : Option RawReplica) → next ≡ decl.Replica n → o ≡ slice_get raw.replicas n →
      types_found raw P next ≡ elim o as (λ _. Result (Unit {0}) Broken) [ None ↦ Ok tt | Some x ↦ checked (state_found P x) ]
  unfolding types_found
  replica_types_at o e at =
      ap (λ (d : Decl). types_found raw P d) e
      ∙ ap (λ (p : Option RawReplica). elim p as (λ _. Result (Unit {0}) Broken) [ None ↦ Ok tt | Some x ↦ checked (state_found P x) ]) (sym at)

  replica_terms_at : (o : Option RawReplica) → next ≡ decl.Replica n → o ≡ slice_get raw.replicas n →
      terms_found raw P next ≡ elim o as (λ _. Result (Program) Broken) [ None ↦ Ok P | Some x ↦ merge_found P x ]
  unfolding terms_found
  replica_terms_at o e at =
      ap (λ (d : Decl). terms_found raw P d) e
      ∙ ap (λ (p : Option RawReplica). elim p as (λ _. Result (Program) Broken) [ None ↦ Ok P | Some x ↦ merge_found P x ]) (sym at)

  pub replica_types : (x : RawReplica) → next ≡ decl.Replica n → Some x ≡ slice_get raw.replicas n → types_found raw P next ≡ checked (state_found P x)
  replica_types x e at = replica_types_at (Some x) e at

  pub no_replica_types : next ≡ decl.Replica n → None ≡ slice_get raw.replicas n → types_found raw P next ≡ Ok tt
  no_replica_types e at = replica_types_at None e at

  pub replica_terms : (x : RawReplica) → next ≡ decl.Replica n → Some x ≡ slice_get raw.replicas n → terms_found raw P next ≡ merge_found P x
  replica_terms x e at = replica_terms_at (Some x) e at

  pub no_replica_terms : next ≡ decl.Replica n → None ≡ slice_get raw.replicas n → terms_found raw P next ≡ Ok P
  no_replica_terms e at = replica_terms_at None e at
