-- Each kind of the tables has one text.
use Rattle.std.proofs.Common.{◌≡◌, ℕ, Bool, true, List, [], refl, lit<}
use Rattle.std.specs.Prelude.{Contains, codes}
use Rattle.std.specs.List.{list_all}
use Rattle.std.specs.Str.{bytes_eq}
use Rattle.std.proofs.lemmas.List.Elements.{All-contains}
use Rattle.std.proofs.lemmas.Slice.Eq.{bytes_eq-Decides}
use Rattle.px_base.specs.declared.prop.Prop.{Prop}
use Rattle.px_base.specs.declared.prop.Prop.TheVariants as props
use Rattle.px_lexer.specs.Forms.{words, marks}
use Rattle.px_lexer.specs.Laws.{HasOneText, OneSpelling}
use Rattle.px_lexer.specs.declared.token.Key.{Key}
use Rattle.px_lexer.specs.declared.token.Key.TheVariants as keys
use Rattle.px_lexer.specs.declared.token.Mark.{Mark}
use Rattle.px_lexer.specs.declared.token.Mark.TheVariants as mark_names
use Rattle.px_lexer.specs.declared.token.TokenKind.{TokenKind}
use Rattle.px_lexer.specs.declared.token.TokenKind.TheVariants as kinds
use Rattle.px_lexer.proofs.TableFacts.{all_from_list_all, word_row, word_kind_once, mark_kind_once}

-- the text of each kind, as the tables have it
abbrev text_of : TokenKind → List ℕ
text_of (kinds.Key keys.KData) = codes "data"
text_of (kinds.Key keys.KDef) = codes "def"
text_of (kinds.Key keys.KClaim) = codes "claim"
text_of (kinds.Key keys.KLemma) = codes "lemma"
text_of (kinds.Key keys.KReplica) = codes "replica"
text_of (kinds.Key keys.KFrom) = codes "from"
text_of (kinds.Key keys.KBy) = codes "by"
text_of (kinds.Key keys.KMatch) = codes "match"
text_of (kinds.Key keys.KFn) = codes "fn"
text_of (kinds.Key keys.KWith) = codes "with"
text_of (kinds.Property props.Comm) = codes "comm"
text_of (kinds.Property props.Assoc) = codes "assoc"
text_of (kinds.Property props.Idem) = codes "idem"
text_of (kinds.Property props.Sel) = codes "sel"
text_of (kinds.Property props.Refl) = codes "refl"
text_of (kinds.Property props.Irrefl) = codes "irrefl"
text_of (kinds.Property props.Sym) = codes "sym"
text_of (kinds.Property props.Antisym) = codes "antisym"
text_of (kinds.Property props.Asym) = codes "asym"
text_of (kinds.Property props.Trans) = codes "trans"
text_of (kinds.Property props.Conn) = codes "conn"
text_of (kinds.Mark mark_names.BraceL) = codes "{"
text_of (kinds.Mark mark_names.BraceR) = codes "}"
text_of (kinds.Mark mark_names.ParenL) = codes "("
text_of (kinds.Mark mark_names.ParenR) = codes ")"
text_of (kinds.Mark mark_names.Less) = codes "<"
text_of (kinds.Mark mark_names.Greater) = codes ">"
text_of (kinds.Mark mark_names.Comma) = codes ","
text_of (kinds.Mark mark_names.Colon) = codes ":"
text_of (kinds.Mark mark_names.Equal) = codes "="
text_of (kinds.Mark mark_names.Arrow) = codes "->"
text_of (kinds.Mark mark_names.FatArrow) = codes "=>"
text_of _ = []

abbrev is_text_of : List ℕ × TokenKind → Bool
is_text_of row = bytes_eq row.0 (text_of row.1)

words-texts : list_all is_text_of words ≡ true
unfolding words
words-texts = refl

marks-texts : list_all is_text_of marks ≡ true
unfolding marks
marks-texts = refl

-- where each row has the text of its kind, a kind in the table has one text
one_text : (rows : List (List ℕ × TokenKind)) (kind : TokenKind) → list_all is_text_of rows ≡ true → Contains rows (text_of kind, kind) → HasOneText rows kind
one_text rows kind h c = (text_of kind, c, λ other d. (bytes_eq-Decides other (text_of kind)).0 (All-contains (λ row. is_text_of row ≡ true) rows (other, kind) (all_from_list_all is_text_of rows h) d))

key_row : (key : Key) → Contains words (text_of (kinds.Key key), kinds.Key key)
unfolding words
key_row keys.KData = (0, lit< tt, refl)
key_row keys.KDef = (1, lit< tt, refl)
key_row keys.KClaim = (2, lit< tt, refl)
key_row keys.KLemma = (3, lit< tt, refl)
key_row keys.KReplica = (4, lit< tt, refl)
key_row keys.KFrom = (5, lit< tt, refl)
key_row keys.KBy = (6, lit< tt, refl)
key_row keys.KMatch = (7, lit< tt, refl)
key_row keys.KFn = (8, lit< tt, refl)
key_row keys.KWith = (9, lit< tt, refl)

property_row : (prop : Prop) → Contains words (text_of (kinds.Property prop), kinds.Property prop)
unfolding words
property_row props.Comm = (10, lit< tt, refl)
property_row props.Assoc = (11, lit< tt, refl)
property_row props.Idem = (12, lit< tt, refl)
property_row props.Sel = (13, lit< tt, refl)
property_row props.Refl = (14, lit< tt, refl)
property_row props.Irrefl = (15, lit< tt, refl)
property_row props.Sym = (16, lit< tt, refl)
property_row props.Antisym = (17, lit< tt, refl)
property_row props.Asym = (18, lit< tt, refl)
property_row props.Trans = (19, lit< tt, refl)
property_row props.Conn = (20, lit< tt, refl)

mark_row : (mark : Mark) → Contains marks (text_of (kinds.Mark mark), kinds.Mark mark)
unfolding marks
mark_row mark_names.Arrow = (0, lit< tt, refl)
mark_row mark_names.FatArrow = (1, lit< tt, refl)
mark_row mark_names.BraceL = (2, lit< tt, refl)
mark_row mark_names.BraceR = (3, lit< tt, refl)
mark_row mark_names.ParenL = (4, lit< tt, refl)
mark_row mark_names.ParenR = (5, lit< tt, refl)
mark_row mark_names.Less = (6, lit< tt, refl)
mark_row mark_names.Greater = (7, lit< tt, refl)
mark_row mark_names.Comma = (8, lit< tt, refl)
mark_row mark_names.Colon = (9, lit< tt, refl)
mark_row mark_names.Equal = (10, lit< tt, refl)

pub one_spelling_law : OneSpelling
one_spelling_law = record {
  each_key = λ key. one_text words (kinds.Key key) words-texts (key_row key);
  each_property = λ prop. one_text words (kinds.Property prop) words-texts (property_row prop);
  each_mark = λ mark. one_text marks (kinds.Mark mark) marks-texts (mark_row mark);
  words_apart = word_kind_once;
  marks_apart = mark_kind_once;
  names = λ word kind c. let row = word_row word kind c in record { first = row.small; rest = row.parts };
}
