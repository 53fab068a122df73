use Rattle.std.proofs.Common.{drop}
use Rattle.px_terms.specs.Derivations.{AreFrameVariables}
use Rattle.px_replay.proofs.HeaderLemmas.{Remain}
use Rattle.px_replay.proofs.headers.are_frame_variables.Given as goal

abbrev pub invariant-loop-variable : goal.invariant-loop-variable
invariant-loop-variable l = record {
  on : AreFrameVariables l.clause l.on → Remain l.least l.count (drop l.variable-index l.on);
  back : Remain l.least l.count (drop l.variable-index l.on) → AreFrameVariables l.clause l.on;
}
