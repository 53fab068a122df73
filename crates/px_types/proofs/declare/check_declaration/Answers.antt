use Rattle.px_types.proofs.KindSteps.{answers_as, datatype_types, no_datatype_types, definition_types, no_definition_types, claim_types, no_claim_types}
use Rattle.px_types.proofs.KindSteps.{lemma_types, no_lemma_types, replica_types, no_replica_types}
use Rattle.px_types.proofs.declare.check_declaration.Goals as goal

pub returns-in-Some-clause-answers : goal.returns-in-Some-clause-answers
returns-in-Some-clause-answers c =
    answers_as _ _ c.check_datatype.result (datatype_types c.args.raw.now c.args.program.now c.args.declaration c.in-Datatype.number c.in-Some.datatype.now
    c.in-Datatype.is (rw c.as_slice.ensures at c.in-Some.ensures)) c.check_datatype.ensures.answers

pub returns-in-None-clause-answers : goal.returns-in-None-clause-answers
returns-in-None-clause-answers c =
    no_datatype_types c.args.raw.now c.args.program.now c.args.declaration c.in-Datatype.number c.in-Datatype.is (rw c.as_slice.ensures at c.in-None.ensures)

pub returns-in-Some-at-clause-answers : goal.returns-in-Some-at-clause-answers
returns-in-Some-at-clause-answers c =
    answers_as _ _ c.check_signature.result (definition_types c.args.raw.now c.args.program.now c.args.declaration c.in-Definition.number
    c.in-Some-at.definition.now c.in-Definition.is (rw c.as_slice-in-Definition.ensures at c.in-Some-at.ensures)) c.check_signature.ensures.answers

pub returns-in-None-at-clause-answers : goal.returns-in-None-at-clause-answers
returns-in-None-at-clause-answers c =
    no_definition_types c.args.raw.now c.args.program.now c.args.declaration c.in-Definition.number c.in-Definition.is
    (rw c.as_slice-in-Definition.ensures at c.in-None-at.ensures)

pub returns-in-Some-at-2-clause-answers : goal.returns-in-Some-at-2-clause-answers
returns-in-Some-at-2-clause-answers c =
    answers_as _ _ c.check_claim.result (claim_types c.args.raw.now c.args.program.now c.args.declaration c.in-Claim.number c.in-Some-at-2.claim.now
    c.in-Claim.is (rw c.as_slice-in-Claim.ensures at c.in-Some-at-2.ensures)) c.check_claim.ensures

pub returns-in-None-at-2-clause-answers : goal.returns-in-None-at-2-clause-answers
returns-in-None-at-2-clause-answers c =
    no_claim_types c.args.raw.now c.args.program.now c.args.declaration c.in-Claim.number c.in-Claim.is
    (rw c.as_slice-in-Claim.ensures at c.in-None-at-2.ensures)

pub returns-in-Some-at-3-clause-answers : goal.returns-in-Some-at-3-clause-answers
returns-in-Some-at-3-clause-answers c =
    answers_as _ _ c.check_variables.result (lemma_types c.args.raw.now c.args.program.now c.args.declaration c.in-Lemma.number c.in-Some-at-3.lemma.now
    c.in-Lemma.is (rw c.as_slice-in-Lemma.ensures at c.in-Some-at-3.ensures)) c.check_variables.ensures

pub returns-in-None-at-3-clause-answers : goal.returns-in-None-at-3-clause-answers
returns-in-None-at-3-clause-answers c =
    no_lemma_types c.args.raw.now c.args.program.now c.args.declaration c.in-Lemma.number c.in-Lemma.is
    (rw c.as_slice-in-Lemma.ensures at c.in-None-at-3.ensures)

pub returns-in-Some-at-4-clause-answers : goal.returns-in-Some-at-4-clause-answers
returns-in-Some-at-4-clause-answers c =
    answers_as _ _ c.check_state.result (replica_types c.args.raw.now c.args.program.now c.args.declaration c.in-Replica.number c.in-Some-at-4.replica.now
    c.in-Replica.is (rw c.as_slice-in-Replica.ensures at c.in-Some-at-4.ensures)) c.check_state.ensures

pub returns-in-None-at-4-clause-answers : goal.returns-in-None-at-4-clause-answers
returns-in-None-at-4-clause-answers c =
    no_replica_types c.args.raw.now c.args.program.now c.args.declaration c.in-Replica.number c.in-Replica.is
    (rw c.as_slice-in-Replica.ensures at c.in-None-at-4.ensures)
