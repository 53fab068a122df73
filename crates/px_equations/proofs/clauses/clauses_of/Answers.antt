use Rattle.std.proofs.Common.{subst, sym, List}
use Rattle.px_terms.specs.declared.clause.Clause.{Clause}
use Rattle.px_equations.specs.Listed.{AreListed}
use Rattle.px_equations.proofs.Counted.{declared_has_clause, declared_is_counted}
use Rattle.px_equations.proofs.Listing.{listed_start, listed_next, stands_at}
use Rattle.px_equations.proofs.clauses.clauses_of.Goals as goal

pub loop-number-init : goal.loop-number-init
loop-number-init c = subst (λ (xs : List Clause). AreListed c.args.program.now xs 0) (sym c.new-clauses.ensures) (listed_start c.args.program.now)

pub declared_clause-requires-clause-has : goal.declared_clause-requires-clause-has
declared_clause-requires-clause-has c =
    declared_has_clause c.args.program.now c.loop-number.number _ c.requires.typed
    (stands_at c.args.program.now c.as_slice-declared.result.now c.loop-number.number _ c.as_slice-declared.ensures c.loop-number-test.true)

pub declared_clause-requires-clause-counted : goal.declared_clause-requires-clause-counted
declared_clause-requires-clause-counted c =
    declared_is_counted c.args.program.now c.loop-number.number _ c.requires.typed c.requires.numbered
    (stands_at c.args.program.now c.as_slice-declared.result.now c.loop-number.number _ c.as_slice-declared.ensures c.loop-number-test.true)

pub loop-number-preserved : goal.loop-number-preserved
loop-number-preserved c =
    listed_next c.args.program.now c.loop-number.clauses c.push.new.self c.loop-number.number _ c.in_ok-declared_clause.field-0
    (stands_at c.args.program.now c.as_slice-declared.result.now c.loop-number.number _ c.as_slice-declared.ensures c.loop-number-test.true)
    c.in_ok-declared_clause.ensures c.in_ok-push.ensures.ok c.loop-number.invariant
