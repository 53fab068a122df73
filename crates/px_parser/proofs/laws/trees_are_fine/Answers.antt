use Rattle.px_parser.proofs.Parses.{tree_fits, tree_nests, tree_filled, tree_named}
use Rattle.px_parser.proofs.laws.trees_are_fine.Goals as goal

pub returns : goal.returns
returns c = λ text tokens tree are is. record {
  fits = tree_fits text tokens tree are is;
  nests = tree_nests text tokens tree is;
  filled = tree_filled text tokens tree is;
  named = tree_named text tokens tree are is;
}
