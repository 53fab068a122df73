-- Tests of a token's kind.
use Rattle.std.specs.Prelude.{ℕ, Bool, true, false, ◌==◌, List, [], ◌∷◌}
use Rattle.px_lexer.specs.declared.token.Key.{Key}
use Rattle.px_lexer.specs.declared.token.Key.TheVariants.{KData, KDef, KClaim, KLemma, KReplica, KFrom, KBy, KMatch, KFn, KWith}
use Rattle.px_lexer.specs.declared.token.Mark.{Mark}
use Rattle.px_lexer.specs.declared.token.Mark.TheVariants.{BraceL, BraceR, ParenL, ParenR, Less, Greater, Comma, Colon, Equal, Arrow, FatArrow}
use Rattle.px_lexer.specs.declared.token.TokenKind.{TokenKind}
use Rattle.px_lexer.specs.declared.token.TokenKind.TheVariants as kinds
use Rattle.px_parser.specs.Words.{Word}

-- each mark's own number
abbrev pub mark_number : Mark → ℕ
mark_number BraceL = 0
mark_number BraceR = 1
mark_number ParenL = 2
mark_number ParenR = 3
mark_number Less = 4
mark_number Greater = 5
mark_number Comma = 6
mark_number Colon = 7
mark_number Equal = 8
mark_number Arrow = 9
mark_number FatArrow = 10

-- each reserved word's own number
abbrev pub key_number : Key → ℕ
key_number KData = 0
key_number KDef = 1
key_number KClaim = 2
key_number KLemma = 3
key_number KReplica = 4
key_number KFrom = 5
key_number KBy = 6
key_number KMatch = 7
key_number KFn = 8
key_number KWith = 9

-- the token is this mark
abbrev pub is_mark : Mark → TokenKind → Bool
is_mark m (kinds.Mark n) = mark_number m == mark_number n
is_mark m _ = false

-- the token is this reserved word
abbrev pub is_key : Key → TokenKind → Bool
is_key k (kinds.Key j) = key_number k == key_number j
is_key k _ = false

-- the token is a name with a small letter
abbrev pub is_lower : TokenKind → Bool
is_lower kinds.Lower = true
is_lower _ = false

-- the token is a name with a capital letter
abbrev pub is_upper : TokenKind → Bool
is_upper kinds.Upper = true
is_upper _ = false

-- the token is a name
abbrev pub is_name : TokenKind → Bool
is_name kinds.Lower = true
is_name kinds.Upper = true
is_name _ = false

-- the token is a number
abbrev pub is_number : TokenKind → Bool
is_number kinds.Number = true
is_number _ = false

-- the token is a property's word
abbrev pub is_property : TokenKind → Bool
is_property (kinds.Property p) = true
is_property _ = false

-- there is a first word, and its kind passes the test
abbrev pub fronts : (TokenKind → Bool) → List Word → Bool
fronts test [] = false
fronts test (word ∷ rest) = test word.kind
