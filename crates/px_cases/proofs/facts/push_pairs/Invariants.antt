use Rattle.std.proofs.Common.{◌≡◌, ◌++◌, drop}
use Rattle.px_terms.specs.Rows.{pairs_equal}
use Rattle.px_cases.proofs.facts.push_pairs.Given as goal

abbrev pub invariant-loop-place : goal.invariant-loop-place
invariant-loop-place l = l.facts ++ pairs_equal (drop l.place l.fields) (drop l.place l.parts) ≡ l.initial.facts ++ pairs_equal l.fields l.parts
