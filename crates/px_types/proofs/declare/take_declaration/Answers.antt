use Rattle.px_types.proofs.NoteLemmas.{notes_kept}
use Rattle.px_types.proofs.KindSteps.{takes_as, datatype_terms, no_datatype_terms, definition_terms, no_definition_terms, claim_terms, no_claim_terms}
use Rattle.px_types.proofs.KindSteps.{lemma_terms, no_lemma_terms, replica_terms, no_replica_terms}
use Rattle.px_types.proofs.declare.take_declaration.Goals as goal

pub returns-in-Some-clause-notes : goal.returns-in-Some-clause-notes
returns-in-Some-clause-notes c =
    notes_kept c.args.program.now.declared c.take_datatype.new.program.declared c.args.notes.now c.take_datatype.ensures.declared c.requires.notes

pub returns-in-Some-clause-answers : goal.returns-in-Some-clause-answers
returns-in-Some-clause-answers c =
    takes_as _ _ c.take_datatype.new.program c.take_datatype.result (datatype_terms c.args.raw.now c.args.program.now c.args.declaration c.in-Datatype.number
    c.in-Some.datatype.now c.in-Datatype.is (rw c.as_slice.ensures at c.in-Some.ensures)) c.take_datatype.ensures.answers

pub returns-in-None-clause-answers : goal.returns-in-None-clause-answers
returns-in-None-clause-answers c =
    no_datatype_terms c.args.raw.now c.args.program.now c.args.declaration c.in-Datatype.number c.in-Datatype.is (rw c.as_slice.ensures at c.in-None.ensures)

pub returns-in-Some-at-clause-answers : goal.returns-in-Some-at-clause-answers
returns-in-Some-at-clause-answers c =
    takes_as _ _ c.take_definition.new.program c.take_definition.result (definition_terms c.args.raw.now c.args.program.now c.args.declaration
    c.in-Definition.number c.in-Some-at.definition.now c.in-Definition.is (rw c.as_slice-in-Definition.ensures at c.in-Some-at.ensures))
    c.take_definition.ensures.answers

pub returns-in-None-at-clause-answers : goal.returns-in-None-at-clause-answers
returns-in-None-at-clause-answers c =
    no_definition_terms c.args.raw.now c.args.program.now c.args.declaration c.in-Definition.number c.in-Definition.is
    (rw c.as_slice-in-Definition.ensures at c.in-None-at.ensures)

pub returns-in-Some-at-2-clause-answers : goal.returns-in-Some-at-2-clause-answers
returns-in-Some-at-2-clause-answers c =
    takes_as _ _ c.take_claim.new.program c.take_claim.result (claim_terms c.args.raw.now c.args.program.now c.args.declaration c.in-Claim.number
    c.in-Some-at-2.claim.now c.in-Claim.is (rw c.as_slice-in-Claim.ensures at c.in-Some-at-2.ensures)) c.take_claim.ensures.answers

pub returns-in-None-at-2-clause-answers : goal.returns-in-None-at-2-clause-answers
returns-in-None-at-2-clause-answers c =
    no_claim_terms c.args.raw.now c.args.program.now c.args.declaration c.in-Claim.number c.in-Claim.is
    (rw c.as_slice-in-Claim.ensures at c.in-None-at-2.ensures)

pub returns-in-Some-at-3-clause-answers : goal.returns-in-Some-at-3-clause-answers
returns-in-Some-at-3-clause-answers c =
    takes_as _ _ c.take_lemma.new.program c.take_lemma.result (lemma_terms c.args.raw.now c.args.program.now c.args.declaration c.in-Lemma.number
    c.in-Some-at-3.lemma.now c.in-Lemma.is (rw c.as_slice-in-Lemma.ensures at c.in-Some-at-3.ensures)) c.take_lemma.ensures.answers

pub returns-in-None-at-3-clause-answers : goal.returns-in-None-at-3-clause-answers
returns-in-None-at-3-clause-answers c =
    no_lemma_terms c.args.raw.now c.args.program.now c.args.declaration c.in-Lemma.number c.in-Lemma.is
    (rw c.as_slice-in-Lemma.ensures at c.in-None-at-3.ensures)

pub returns-in-Some-at-4-clause-answers : goal.returns-in-Some-at-4-clause-answers
returns-in-Some-at-4-clause-answers c =
    takes_as _ _ c.take_replica.new.program c.take_replica.result (replica_terms c.args.raw.now c.args.program.now c.args.declaration c.in-Replica.number
    c.in-Some-at-4.replica.now c.in-Replica.is (rw c.as_slice-in-Replica.ensures at c.in-Some-at-4.ensures)) c.take_replica.ensures.answers

pub returns-in-None-at-4-clause-answers : goal.returns-in-None-at-4-clause-answers
returns-in-None-at-4-clause-answers c =
    no_replica_terms c.args.raw.now c.args.program.now c.args.declaration c.in-Replica.number c.in-Replica.is
    (rw c.as_slice-in-Replica.ensures at c.in-None-at-4.ensures)
