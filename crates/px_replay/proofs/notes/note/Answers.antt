use Rattle.px_replay.proofs.NoteLemmas.{untrue, note_none, note_answers, note_fits, note_small}
use Rattle.px_replay.proofs.notes.note.Goals as goal

pub returns-in_default-2-clause-only : goal.returns-in_default-2-clause-only
returns-in_default-2-clause-only c = λ children opens.
    absurd (note_none c.args.all.now c.args.number c.args.top.sequent c.args.reference c.args.sigma.now c.requires.other c.in_ok-found.field-0 children c.in_default-2.not-Some c.in_ok-found.ensures.open opens)

pub returns-then-not-branch-clause-only : goal.returns-then-not-branch-clause-only
returns-then-not-branch-clause-only c = λ children opens.
    absurd (untrue c.in_ok-fits_clause.field-0 _ c.in_ok-fits_clause.ensures c.if-not-branch.true
    (note_fits c.args.all.now c.args.number c.args.top.sequent c.args.reference c.args.sigma.now c.requires.other c.in_ok-found.field-0 c.in-Some-2.found c.clause-clause.result.now c.in-Some-2.is c.clause-clause.ensures children c.in_ok-found.ensures.only opens))

pub returns-clause-leaves : goal.returns-clause-leaves
returns-clause-leaves c =
    note_answers c.args.all.now c.args.number c.args.top.sequent c.args.reference c.args.sigma.now c.requires.other c.in_ok-found.field-0 c.in-Some-2.found c.clause-clause.result.now c.in-Some-2.is c.clause-clause.ensures c.in-Some._own.now c.noted_children.result c.in-Some.ensures.has
    c.in_ok-found.ensures.open c.requires.stands (c.in_ok-fits_clause.ensures.0 c.if-not-branch.false) c.noted_children.ensures.made

pub returns-clause-only : goal.returns-clause-only
returns-clause-only c = λ children opens.
    c.noted_children.ensures.only (note_small c.args.all.now c.args.number c.args.top.sequent c.args.reference c.args.sigma.now c.requires.other c.in_ok-found.field-0 c.in-Some-2.found c.clause-clause.result.now c.in-Some-2.is c.clause-clause.ensures children c.in_ok-found.ensures.only opens)
