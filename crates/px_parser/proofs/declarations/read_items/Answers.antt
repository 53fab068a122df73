use Rattle.std.proofs.Common.{◌≡◌, true, false, not, sym, ap, ◌∙◌}
use Rattle.std.proofs.lemmas.Result.{err_from_is_err_and}
use Rattle.px_parser.specs.Gives.{words}
use Rattle.px_parser.specs.Reading.{items_at, item_at, some_word}
use Rattle.px_parser.proofs.DeclarationsRight.{item_shrinks, no_word, nothing_left}
use Rattle.px_parser.proofs.Loops.{each_first, each_end, each_next, each_fails}
use Rattle.px_parser.proofs.declarations.read_items.Goals as goal

pub each-init : goal.each-init
unfolding items_at
each-init c = rw c.new-items.ensures (each_first some_word item_at (words c.args.tokens))

pub returns-in_err-item : goal.returns-in_err-item
returns-in_err-item c =
    let p = err_from_is_err_and c.from_residual.result c.from_residual.ensures.1 in
    let test : some_word (words c.each.rest) ≡ true = c.is_empty.ensures ∙ ap not c.each-test.true in
    rw (p.1, p.2, ← c.each.invariant) (record { reads = each_fails some_word item_at item_shrinks no_word c.each.items (words c.each.rest) c.in_err-item.field-0.0 test c.in_err-item.ensures; all = tt })

pub each-smaller : goal.each-smaller
each-smaller c =
    let test : some_word (words c.each.rest) ≡ true = c.is_empty.ensures ∙ ap not c.each-test.true in
    item_shrinks (words c.each.rest) (words c.in_ok-item.after) c.in_ok-item.item test c.in_ok-item.ensures

pub each-preserved : goal.each-preserved
each-preserved c =
    let test : some_word (words c.each.rest) ≡ true = c.is_empty.ensures ∙ ap not c.each-test.true in
    rw c.in_ok-push.ensures.ok (each_next some_word item_at item_shrinks no_word c.each.items (words c.each.rest) (words c.in_ok-item.after) c.in_ok-item.item test c.in_ok-item.ensures ∙ c.each.invariant)

pub returns-clause-reads : goal.returns-clause-reads
returns-clause-reads c =
    let test : some_word (words c.each.rest) ≡ false = c.is_empty.ensures ∙ ap not c.each-test.false in
    sym c.each.invariant ∙ each_end some_word item_at item_shrinks no_word c.each.items (words c.each.rest) test

pub returns-clause-all : goal.returns-clause-all
returns-clause-all c =
    let test : some_word (words c.each.rest) ≡ false = c.is_empty.ensures ∙ ap not c.each-test.false in
    nothing_left (words c.each.rest) test
