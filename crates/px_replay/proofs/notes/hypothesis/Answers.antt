use Rattle.px_replay.proofs.NoteLemmas.{untrue, few_functions, guard_due, hypothesis_answers, hypothesis_fits, hypothesis_small}
use Rattle.px_replay.proofs.notes.hypothesis.Goals as goal

pub sigma_of_own-requires : goal.sigma_of_own-requires
sigma_of_own-requires c = few_functions c.args.all.now c.args.number c.in-Some.own.now c.checked-checked.ensures.checked c.in-Some.ensures.has

pub returns-then-not-is_guarded-clause-only : goal.returns-then-not-is_guarded-clause-only
returns-then-not-is_guarded-clause-only c = λ children opens.
    absurd (untrue c.is_guarded.result _ c.is_guarded.ensures c.if-not-is_guarded.true (guard_due c.args.all.now c.args.number c.args.top.sequent c.args.sigma children opens))

pub returns-then-not-branch-clause-only : goal.returns-then-not-branch-clause-only
returns-then-not-branch-clause-only c = λ children opens.
    absurd (untrue c.in_ok-fits_clause.field-0 _ c.in_ok-fits_clause.ensures c.if-not-branch.true
    (hypothesis_fits c.args.all.now c.args.number c.args.top.sequent c.args.sigma c.in_ok-whole.whole c.in-Some.own.now c.in_ok-whole.ensures children c.in-Some.ensures.only opens))

pub returns-clause-leaves : goal.returns-clause-leaves
returns-clause-leaves c =
    hypothesis_answers c.args.all.now c.args.number c.args.top.sequent c.args.sigma c.in_ok-whole.whole c.in-Some.own.now c.in_ok-whole.ensures c.noted_children.result c.requires.types c.requires.funs c.in-Some.ensures.has c.requires.stands
    (c.in_ok-fits_clause.ensures.0 c.if-not-branch.false) (c.is_guarded.ensures.0 c.if-not-is_guarded.false) c.noted_children.ensures.made

pub returns-clause-only : goal.returns-clause-only
returns-clause-only c = λ children opens.
    c.noted_children.ensures.only (hypothesis_small c.args.all.now c.args.number c.args.top.sequent c.args.sigma c.in_ok-whole.whole c.in-Some.own.now c.in_ok-whole.ensures children c.in-Some.ensures.only opens)
