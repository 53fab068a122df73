use Rattle.std.proofs.Common.{◌≡◌, ◌++◌, drop, All}
use Rattle.px_terms.specs.Sequents.{IsWithinLimits}
use Rattle.px_terms.specs.Rows.{cases_from}
use Rattle.px_cases.proofs.variables.cases.Given as goal

abbrev pub invariant-loop-place : goal.invariant-loop-place
invariant-loop-place l = record {
  cases : l.children ++ cases_from l.sequent l.variable l.family.number l.family.args.now l.place (drop l.place l.family.declaration.now.cons) ≡ cases_from l.sequent l.variable l.family.number l.family.args.now 0 l.family.declaration.now.cons;
  small : All IsWithinLimits l.children;
}
