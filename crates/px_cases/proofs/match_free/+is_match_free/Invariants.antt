use Rattle.std.proofs.Common.{take}
use Rattle.px_terms.specs.Rows.{AreMatchFree}
use Rattle.px_cases.proofs.match_free.+is_match_free.Given as goal

abbrev pub invariant-are_match_free-loop-term : goal.invariant-are_match_free-loop-term
invariant-are_match_free-loop-term l = AreMatchFree (take l.term-index l.terms)
