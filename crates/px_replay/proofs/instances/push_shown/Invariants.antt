use Rattle.std.proofs.Common.{◌≡◌, ◌++◌, map, take, All}
use Rattle.px_terms.specs.Noting.{equations_instance}
use Rattle.px_terms.specs.Sequents.{IsWithinLimits}
use Rattle.px_terms.specs.Rows.{to_show}
use Rattle.px_replay.proofs.instances.push_shown.Given as goal

abbrev pub invariant-loop-premise : goal.invariant-loop-premise
invariant-loop-premise l = record {
  made : l.children ≡ l.fn.children ++ map (to_show l.top.sequent) (equations_instance l.sigma (take l.premise-index l.premises));
  small : All IsWithinLimits l.fn.children → All IsWithinLimits l.children;
}
