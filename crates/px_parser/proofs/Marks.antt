-- A mark that is not at the front.
use Rattle.std.proofs.Common.{◌≡◌, false, List, [], ◌∷◌, length, Err, refl}
use Rattle.px_lexer.specs.declared.token.Mark.{Mark}
use Rattle.px_parser.specs.Words.{Word}
use Rattle.px_parser.specs.Kinds.{is_mark, fronts}
use Rattle.px_parser.specs.Reading.{mark_at, mark_value}
use Rattle.px_parser.proofs.Fronts.{none_at, other_at, where_fails}

pub mark_at_fails : (m : Mark) (words : List Word) → fronts (is_mark m) words ≡ false → mark_at m words ≡ Err (length words)
mark_at_fails m [] e = none_at (mark_value m) [] refl
mark_at_fails m (word ∷ rest) e = other_at (mark_value m) (word ∷ rest) rest word refl (where_fails _ _ e)
