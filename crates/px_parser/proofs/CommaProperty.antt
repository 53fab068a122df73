-- A comma and a property.
use Rattle.std.proofs.Common.{◌≡◌, Bool, true, false, List, [], ◌∷◌, length, Ok, refl, sym, ◌∙◌}
use Rattle.px_lexer.specs.declared.token.Mark.TheVariants.{Comma}
use Rattle.px_parser.specs.Words.{Word}
use Rattle.px_parser.specs.Kinds.{is_mark, is_property, fronts}
use Rattle.px_parser.specs.Readers.{found, word_at}
use Rattle.px_parser.specs.Reading.{where_true, mark_at, comma_property}
use Rattle.px_parser.proofs.Right.{one_result, read}

after_comma : (word : Word) (ws rest : List Word) → is_mark Comma word.kind ≡ true → mark_at Comma (word ∷ ws) ≡ Ok (tt, rest) → ws ≡ rest
unfolding word_at
after_comma word ws rest is e =
    let q : found (where_true (is_mark Comma word.kind) tt) ws (length (word ∷ ws)) ≡ read (tt {0}) ws = rw is refl in
    (one_result (tt {0}) (tt {0}) ws rest (sym q ∙ e)).rest

pub is_comma_property : (words rest : List Word) (b : Bool) → fronts (is_mark Comma) words ≡ true → mark_at Comma words ≡ Ok (tt, rest) → b ≡ fronts is_property rest → b ≡ comma_property words
unfolding comma_property
is_comma_property [] rest b is e same = absurd (cc)
is_comma_property (word ∷ ws) rest b is e same = rw (is, after_comma word ws rest is e) same

pub no_comma_property : (words : List Word) → fronts (is_mark Comma) words ≡ false → false ≡ comma_property words
unfolding comma_property
no_comma_property [] is = refl
no_comma_property (word ∷ ws) is = rw is refl

pub nothing_no_comma : comma_property [] ≡ false
unfolding comma_property
nothing_no_comma = refl
