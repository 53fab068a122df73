use Rattle.std.proofs.Common.{◌≡◌, ◌++◌, drop, All}
use Rattle.px_terms.specs.Sequents.{IsWithinLimits}
use Rattle.px_terms.specs.Rows.{splits_from}
use Rattle.px_cases.proofs.splits.splits.Given as goal

abbrev pub invariant-loop-place : goal.invariant-loop-place
invariant-loop-place l = record {
  splits : l.children ++ splits_from l.sequent l.term l.family.number l.family.args.now l.place (drop l.place l.family.declaration.now.cons) ≡ splits_from l.sequent l.term l.family.number l.family.args.now 0 l.family.declaration.now.cons;
  small : All IsWithinLimits l.children;
}
