use Rattle.std.proofs.Common.{◌≡◌, Some, slice_get, All}
use Rattle.px_terms.specs.Sequents.{IsWithinLimits}
use Rattle.px_terms.specs.Rows.{AreTermCases, splits_from}
use Rattle.px_cases.proofs.SplitLemmas.{are_splits, splits_are}
use Rattle.px_cases.proofs.EndLemmas.{right_ok, right_only, right_oversize}
use Rattle.px_cases.proofs.splits.split_term.Goals as goal

pub returns-clause-ok : goal.returns-clause-ok
returns-clause-ok c =
    let declared : slice_get c.args.checked.now.datatypes c.in-Some.family.number ≡ Some c.in-Some.family.declaration.now = rw c.program-2.ensures.same at c.in-Some.ensures.1 in
    let all = splits_from c.args.sequent c.args.term.now c.in-Some.family.number c.in-Some.family.args.now 0 c.in-Some.family.declaration.now.cons in
    let are = are_splits c.args.checked.now c.args.sequent c.args.term.now c.in_ok-ty.ty c.in-Some.family.number c.in-Some.family.args.now c.in-Some.family.declaration.now (c.is_match_free.ensures.0 c.if-not-is_match_free.false) (rw c.program.ensures.same at c.in_ok-ty.ensures.ok) c.in-Some.ensures.0 declared in
    right_ok (AreTermCases c.args.checked.now c.args.sequent c.args.term.now) (All IsWithinLimits) all c.splits.result are c.splits.ensures.splits c.splits.ensures.small

pub returns-clause-only : goal.returns-clause-only
returns-clause-only c =
    let declared : slice_get c.args.checked.now.datatypes c.in-Some.family.number ≡ Some c.in-Some.family.declaration.now = rw c.program-2.ensures.same at c.in-Some.ensures.1 in
    let all = splits_from c.args.sequent c.args.term.now c.in-Some.family.number c.in-Some.family.args.now 0 c.in-Some.family.declaration.now.cons in
    right_only (AreTermCases c.args.checked.now c.args.sequent c.args.term.now) (All IsWithinLimits) all c.splits.result (splits_are c.args.checked.now c.args.sequent c.args.term.now c.in_ok-ty.ty c.in-Some.family.number c.in-Some.family.args.now c.in-Some.family.declaration.now (rw c.program.ensures.same at c.in_ok-ty.ensures.only) c.in-Some.ensures.0 declared) c.splits.ensures.splits c.splits.ensures.end

pub returns-clause-oversize : goal.returns-clause-oversize
returns-clause-oversize c =
    let declared : slice_get c.args.checked.now.datatypes c.in-Some.family.number ≡ Some c.in-Some.family.declaration.now = rw c.program-2.ensures.same at c.in-Some.ensures.1 in
    let all = splits_from c.args.sequent c.args.term.now c.in-Some.family.number c.in-Some.family.args.now 0 c.in-Some.family.declaration.now.cons in
    let are = are_splits c.args.checked.now c.args.sequent c.args.term.now c.in_ok-ty.ty c.in-Some.family.number c.in-Some.family.args.now c.in-Some.family.declaration.now (c.is_match_free.ensures.0 c.if-not-is_match_free.false) (rw c.program.ensures.same at c.in_ok-ty.ensures.ok) c.in-Some.ensures.0 declared in
    right_oversize (AreTermCases c.args.checked.now c.args.sequent c.args.term.now) (All IsWithinLimits) all c.splits.result are c.splits.ensures.end
