use Rattle.std.proofs.Common.{◌≡◌, length}
use Rattle.px_parser.specs.Gives.{words}
use Rattle.px_parser.specs.Reading.{items_at, item_at, some_word}
use Rattle.px_parser.proofs.Loops.{so_far}
use Rattle.px_parser.proofs.declarations.read_items.Given as goal

abbrev pub invariant-each : goal.invariant-each
invariant-each l = so_far some_word item_at l.items (words l.rest) ≡ items_at (words l.fn.tokens)

abbrev pub decreases-each : goal.decreases-each
decreases-each l = length (words l.rest)
