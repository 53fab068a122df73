-- What is parsed is small: its lists can be numbered.
use Rattle.std.proofs.Common.{◌≤◌, get_or, arith}
use Rattle.px_base.specs.declared.limits.TheConstants.{PROGRAM_BYTES}
use Rattle.px_parser.specs.declared.surface.Item.{Item}
use Rattle.px_parser.specs.declared.surface.Item.TheVariants.{Datatype, Definition, Claim, Lemma, Replica}
use Rattle.px_parser.specs.declared.surface.Surface.{Surface}
use Rattle.px_parser.specs.Sizes.{item_size, surface_size}
use Rattle.px_parser.specs.SizeEquations.{length-le-cons_size, length-le-items_size, get_or-le-items_size}
use Rattle.px_parser.specs.Filled.{IsFilledItem, IsFilled}
use Rattle.px_scope.specs.Small.{IsSmallItem, IsSmall}

small_item : (item : Item) → item_size item ≤ PROGRAM_BYTES → IsFilledItem item → IsSmallItem item
small_item (Datatype d) size filled = let cons = length-le-cons_size d.cons in (omega arith, omega arith)
small_item (Definition d) size filled = omega arith
small_item (Claim c) size filled = tt
small_item (Lemma l) size filled = (omega arith, filled)
small_item (Replica r) size filled = tt

-- a surface that is no larger than a text, and filled
pub small_surface : (surface : Surface) → surface_size surface ≤ PROGRAM_BYTES → IsFilled surface → IsSmall surface.items
small_surface surface size filled = record {
  few = omega (arith, length-le-items_size surface.items);
  each = λ k d within. let one = get_or-le-items_size surface.items k d within in small_item (get_or surface.items k d) (omega arith) (filled k d within);
}
