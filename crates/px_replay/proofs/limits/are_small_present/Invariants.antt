use Rattle.std.proofs.Common.{take, All}
use Rattle.px_terms.specs.declared.sequent.Present.{Present}
use Rattle.px_terms.specs.Sequents.{IsSmall}
use Rattle.px_replay.proofs.limits.are_small_present.Given as goal

abbrev pub invariant-loop-present : goal.invariant-loop-present
invariant-loop-present l = All (λ (p : Present). IsSmall p.term) (take l.present-index l.entries)
