use Rattle.std.proofs.Common.{◌+◌, ◌*◌}
use Rattle.px_prover.proofs.NormLemmas.{EachSoFar}
use Rattle.px_prover.proofs.TurnLemmas.{NormSoFar}
use Rattle.px_prover.proofs.norm.+norm.Given as goal

abbrev pub decreases-norm : goal.decreases-norm
decreases-norm l = 4 * (l.levels + l.left.units) + 3

abbrev pub decreases-norm_parts : goal.decreases-norm_parts
decreases-norm_parts l = 4 * (l.levels + l.left.units) + 2

abbrev pub decreases-norm_each : goal.decreases-norm_each
decreases-norm_each l = 4 * (l.levels + l.left.units) + 4

abbrev pub decreases-turned : goal.decreases-turned
decreases-turned l = 4 * (l.levels + l.left.units) + 1

abbrev pub decreases-lead : goal.decreases-lead
decreases-lead l = 4 * (l.levels + l.left.units) + 2

abbrev pub decreases-lead_match : goal.decreases-lead_match
decreases-lead_match l = 4 * (l.levels + l.left.units) + 1

abbrev pub invariant-norm-turns : goal.invariant-norm-turns
invariant-norm-turns l = NormSoFar l.setting l.t l.fn.left l.levels l.parted

abbrev pub decreases-norm-turns : goal.decreases-norm-turns
decreases-norm-turns l = l.parted.left.units

abbrev pub invariant-norm_each-loop-number : goal.invariant-norm_each-loop-number
invariant-norm_each-loop-number l = EachSoFar l.setting l.parts l.fn.left l.levels l.number l.left l.terms l.stops l.stages
