use Rattle.std.proofs.Common.{refl}
use Rattle.px_lexer.specs.Tokens.Reads.{none}
use Rattle.px_lexer.proofs.ScanFacts.{gaps_more, gap_rises}
use Rattle.px_lexer.proofs.scan.past_gaps.Goals as goal

-- at first nothing is read
pub loop-next-init : goal.loop-next-init
loop-next-init c = record { within = c.requires; gaps = none refl }

-- one gap more
pub loop-next-preserved : goal.loop-next-preserved
loop-next-preserved c = record {
  within = (gap_rises c.args.text.now c.loop-next.end c.in-Some.next c.in-Some.ensures.some).1;
  gaps = gaps_more c.args.text.now c.args.at c.loop-next.end c.in-Some.next c.loop-next.invariant.gaps c.in-Some.ensures.some;
}
