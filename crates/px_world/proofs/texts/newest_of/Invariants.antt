use Rattle.std.proofs.Common.{take}
use Rattle.px_world.specs.Texts.{IsNewest}
use Rattle.px_world.proofs.texts.newest_of.Given as goal

-- the newest of the texts so far
abbrev pub invariant-loop-index : goal.invariant-loop-index
invariant-loop-index l = IsNewest (take l.index l.texts) l.name l.newest
