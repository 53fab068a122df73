use Rattle.std.proofs.Common.{string_bytes, arith, sym, ◌∙◌, ap}
use Rattle.px_drive.specs.Lines.{is_option}
use Rattle.px_drive.proofs.WordFacts.{none, opens, passes, ends}
use Rattle.px_drive.proofs.line.count_positionals.Goals as goal

pub loop-count-init : goal.loop-count-init
loop-count-init c = none

pub returns-then-begins_option : goal.returns-then-begins_option
returns-then-begins_option c =
    let begins = ap (λ s. is_option (string_bytes s)) (sym c.index-words-count.is) ∙ (ap is_option (sym c.as_str.ensures.value) ∙ (sym c.begins_option.ensures ∙ c.if-begins_option.true)) in
    opens string_bytes c.index-words-count.result c.args.words.now c.loop-count.count c.loop-count-test.true begins c.loop-count.invariant

pub loop-count-preserved : goal.loop-count-preserved
loop-count-preserved c =
    let begins = ap (λ s. is_option (string_bytes s)) (sym c.index-words-count.is) ∙ (ap is_option (sym c.as_str.ensures.value) ∙ (sym c.begins_option.ensures ∙ c.if-begins_option.false)) in
    passes string_bytes c.index-words-count.result c.args.words.now c.loop-count.count c.loop-count-test.true begins c.loop-count.invariant

pub returns : goal.returns
returns c = ends string_bytes c.args.words.now c.loop-count.count (omega (arith, c.loop-count-test.false, c.loop-count.auto.count-end)) c.loop-count.invariant
