use Rattle.std.proofs.Common.{take, All}
use Rattle.px_terms.specs.Guards.{PutsPart}
use Rattle.px_induct.proofs.guard.all_put_parts.Given as goal

abbrev pub invariant-loop-entry : goal.invariant-loop-entry
invariant-loop-entry l = All (PutsPart l.terms) (take l.entry-index l.entries)
