use Rattle.std.proofs.Common.{arith, rules, ◌++◌, take, length-append}
use Rattle.std.proofs.KnownBytes.{Consumes-trans}
use Rattle.px_world.proofs.reading.read_all.Goals as goal

pub returns-then-count-limit-clause-came : goal.returns-then-count-limit-clause-came
returns-then-count-limit-clause-came g c = λ _. (
  c.loop-count.bytes ++ take c.in-Ok.count c.read.new.buf,
  Consumes-trans _ _ _ _ _ c.loop-count.invariant.0.came c.in-Ok.ensures.bytes.0,
  omega (arith, length-append c.loop-count.bytes (take c.in-Ok.count c.read.new.buf), c.in-Ok.ensures.bound.1),
)

pub returns-in_err-extend_from_slice-clause-came : goal.returns-in_err-extend_from_slice-clause-came
returns-in_err-extend_from_slice-clause-came g c = λ _. (
  c.loop-count.bytes ++ take c.in-Ok.count c.read.new.buf,
  Consumes-trans _ _ _ _ _ c.loop-count.invariant.0.came c.in-Ok.ensures.bytes.0,
  search rules,
)
