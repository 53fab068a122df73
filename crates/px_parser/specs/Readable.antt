-- What is known of the tokens that are left.
use Rattle.std.specs.Prelude.{ℕ, Bool, ◌&&◌, ◌||◌, not, nat_le, List, length, slice_range}
use Rattle.std.specs.List.{list_all}
use Rattle.px_lexer.specs.Bytes.{is_name_part}
use Rattle.px_lexer.specs.declared.token.Token.{Token}
use Rattle.px_parser.specs.Kinds.{is_name}

-- the token lies in the text, and a name's bytes are letters, digits and `_`
unfoldable pub is_readable : List ℕ → Token → Bool
is_readable text token = nat_le token.start token.end && nat_le token.end (length text) && (not (is_name token.kind) || list_all is_name_part (slice_range text token.start token.end))
