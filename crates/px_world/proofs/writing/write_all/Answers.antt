use Rattle.std.proofs.Common.{arith, length-drop, take, subst}
use Rattle.std.proofs.lemmas.List.{take_rest}
use Rattle.std.specs.Io.KnownBytes.{Appends}
use Rattle.px_world.proofs.Loops.{Appends-more}
use Rattle.px_world.proofs.writing.write_all.Goals as goal

pub loop-at-preserved : goal.loop-at-preserved
loop-at-preserved g c = record {
  in_range = omega (arith, c.in-Ok.ensures.bound, length-drop c.loop-at.at c.args.bytes.now);
  front =
      Appends-more _ _ _ _ _ _ c.loop-at.invariant.front
      (subst (λ rest. Appends (g.S.Sink.written c.loop-at.sink) (g.S.Sink.written c.write.new.self) (take c.in-Ok.count rest))
      (take_rest c.args.bytes.now c.loop-at.at) c.in-Ok.ensures.bytes);
  later = omega (arith, c.in-Ok.ensures.cause.later);
}
