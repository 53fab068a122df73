-- Facts on the tables of words and marks.
use Rattle.std.proofs.Common.{◌≡◌, ◌≢◌, ℕ, zero, suc, ◌<◌, ◌≤◌, Bool, true, false, not, ◌&&◌, ltb, List, [], ◌∷◌, length, get_or, take, sym, refl, ap, ◌∙◌, subst, inl, inr, ◌⊎◌, ⊎_elim, arith, min, length-take, get_or-take, ◌+◌}
use Rattle.std.specs.Prelude.{All, Contains, nat_le, slice_index}
use Rattle.std.specs.Borrow.{Bor}
use Rattle.std.specs.List.{list_all}
use Rattle.std.specs.Str.{bytes_eq}
use Rattle.std.specs.Char.{is_ascii_alphanumeric, is_ascii_lowercase}
use Rattle.std.proofs.lemmas.Bool.{and_parts, cases_lt, leb-true, ltb-true, not-true}
use Rattle.std.proofs.lemmas.List.{get_or_default, get_or-map, length-map, length-take-le, take_all}
use Rattle.std.proofs.lemmas.Bool.Decides.{Decides-by_and}
use Rattle.std.proofs.lemmas.List.Elements.{All-contains, All-more}
use Rattle.std.proofs.lemmas.Slice.Eq.{bytes_eq-Decides}
use Rattle.px_lexer.specs.Bytes.{is_name_part}
use Rattle.px_lexer.specs.Forms.{HasForm, HasValue, words, marks}
use Rattle.px_lexer.specs.Scan.{longest_first, rows_of, IsLongestRow, NoRowBegins}
use Rattle.px_lexer.specs.declared.token.TokenKind.{TokenKind}
use Rattle.px_lexer.specs.declared.token.TokenKind.TheVariants as kinds
use Rattle.px_lexer.proofs.ByteFacts.{begins_gap}

abbrev pub Rows : Type 0
Rows = List (List ℕ × TokenKind)

pub all_from_list_all : {X : Type 0} (p : X → Bool) (xs : List X) → list_all p xs ≡ true → All (λ x. p x ≡ true) xs
all_from_list_all p xs h = (Decides-by_and p (λ x. p x ≡ true) (list_all p) (λ x. (λ e. e, λ e. e)) refl (λ _ _. refl) xs).0 h

-- an element of a list is its first, or one of the rest
pub Contains-cons_cases : {X : Type 0} (x : X) (xs : List X) (y : X) → Contains (x ∷ xs) y → (x ≡ y) ⊎ Contains xs y
Contains-cons_cases x xs y (zero, lt, e) = inl e
Contains-cons_cases x xs y (suc k, lt, e) = inr (k, omega arith, e)

-- no two rows have one text
abbrev distinct : Rows → Bool
distinct [] = true
distinct (row ∷ rows) = list_all (λ later. not (bytes_eq row.0 later.0)) rows && distinct rows

bytes_eq-same : (w : List ℕ) → not (bytes_eq w w) ≡ true → ⊥
bytes_eq-same w h = let e : bytes_eq w w ≡ true = (bytes_eq-Decides w w).1 refl in let g = subst (λ b. not b ≡ true) e h in cc

no_later : (row : List ℕ × TokenKind) (rows : Rows) (k : TokenKind) → list_all (λ later. not (bytes_eq row.0 later.0)) rows ≡ true → Contains rows (row.0, k) → ⊥
no_later row rows k h c = bytes_eq-same row.0 (All-contains (λ later. not (bytes_eq row.0 later.0) ≡ true) rows (row.0, k) (all_from_list_all (λ later. not (bytes_eq row.0 later.0)) rows h) c)

-- in such a table a text has one kind
kind_once : (rows : Rows) (w : List ℕ) (k m : TokenKind) → distinct rows ≡ true → Contains rows (w, k) → Contains rows (w, m) → k ≡ m
kind_once [] w k m d (i, lt, e) y = absurd (omega arith)
kind_once (row ∷ rows) w k m d x y =
    let parts = and_parts (list_all (λ later. not (bytes_eq row.0 later.0)) rows) (distinct rows) d in
    ⊎_elim
    (λ e. ⊎_elim
    (λ f. ap (λ r. r.1) (sym e ∙ f))
    (λ f. absurd (no_later row rows m parts.0 (subst (λ v. Contains rows (v, m)) (sym (ap (λ r. r.0) e)) f)))
    (Contains-cons_cases row rows (w, m) y))
    (λ e. ⊎_elim
    (λ f. absurd (no_later row rows k parts.0 (subst (λ v. Contains rows (v, k)) (sym (ap (λ r. r.0) f)) e)))
    (λ f. kind_once rows w k m parts.1 e f)
    (Contains-cons_cases row rows (w, m) y))
    (Contains-cons_cases row rows (w, k) x)

abbrev is_word_kind : TokenKind → Bool
is_word_kind (kinds.Key _) = true
is_word_kind (kinds.Property _) = true
is_word_kind _ = false

abbrev is_mark_kind : TokenKind → Bool
is_mark_kind (kinds.Mark _) = true
is_mark_kind _ = false

abbrev is_word_row : List ℕ × TokenKind → Bool
is_word_row row = is_ascii_lowercase (slice_index row.0 0) && (list_all is_name_part row.0 && is_word_kind row.1)

abbrev is_mark_row : List ℕ × TokenKind → Bool
is_mark_row row = not (is_ascii_alphanumeric (slice_index row.0 0)) && (not (begins_gap (slice_index row.0 0)) && (ltb 0 (length row.0) && is_mark_kind row.1))

words-rows : list_all is_word_row words ≡ true
unfolding words
words-rows = refl

marks-rows : list_all is_mark_row marks ≡ true
unfolding marks
marks-rows = refl

words-distinct : distinct words ≡ true
unfolding words
words-distinct = refl

marks-distinct : distinct marks ≡ true
unfolding marks
marks-distinct = refl

pub marks-longest_first : longest_first marks ≡ true
unfolding marks longest_first
marks-longest_first = refl

pub word_kind_once : (w : List ℕ) (k m : TokenKind) → Contains words (w, k) → Contains words (w, m) → k ≡ m
word_kind_once w k m x y = kind_once words w k m words-distinct x y

pub mark_kind_once : (w : List ℕ) (k m : TokenKind) → Contains marks (w, k) → Contains marks (w, m) → k ≡ m
mark_kind_once w k m x y = kind_once marks w k m marks-distinct x y

-- what each row of the words is
pub record IsWordRow (w : List ℕ) (k : TokenKind) : Type 0 where
  pub small : is_ascii_lowercase (slice_index w 0) ≡ true
  pub parts : All (λ byte. is_name_part byte ≡ true) w
  pub kind : HasForm w k
  pub value : HasValue k w 0

word_value : (w : List ℕ) (k : TokenKind) → is_word_kind k ≡ true → HasValue k w 0
word_value w (kinds.Key _) h = refl
word_value w (kinds.Property _) h = refl
word_value w kinds.Lower h = refl
word_value w kinds.Upper h = refl
word_value w kinds.Number h = cc
word_value w (kinds.Mark _) h = refl

word_form : (w : List ℕ) (k : TokenKind) → is_word_kind k ≡ true → Contains words (w, k) → HasForm w k
word_form w (kinds.Key _) h c = c
word_form w (kinds.Property _) h c = c
word_form w kinds.Lower h c = cc
word_form w kinds.Upper h c = cc
word_form w kinds.Number h c = cc
word_form w (kinds.Mark _) h c = cc

pub word_row : (w : List ℕ) (k : TokenKind) → Contains words (w, k) → IsWordRow w k
word_row w k c =
    let test : is_word_row (w, k) ≡ true = All-contains (λ row. is_word_row row ≡ true) words (w, k) (all_from_list_all is_word_row words words-rows) c in
    let first = and_parts (is_ascii_lowercase (slice_index w 0)) (list_all is_name_part w && is_word_kind k) test in
    let rest = and_parts (list_all is_name_part w) (is_word_kind k) first.1 in
    record { small = first.0; parts = all_from_list_all is_name_part w rest.0; kind = word_form w k rest.1 c; value = word_value w k rest.1 }

-- what each row of the marks is
pub record IsMarkRow (w : List ℕ) (k : TokenKind) : Type 0 where
  pub other : is_ascii_alphanumeric (slice_index w 0) ≡ false
  pub no_gap : begins_gap (slice_index w 0) ≡ false
  pub some : 0 < length w
  pub kind : HasForm w k
  pub value : HasValue k w 0

mark_value : (w : List ℕ) (k : TokenKind) → is_mark_kind k ≡ true → HasValue k w 0
mark_value w (kinds.Key _) h = refl
mark_value w (kinds.Property _) h = refl
mark_value w kinds.Lower h = refl
mark_value w kinds.Upper h = refl
mark_value w kinds.Number h = cc
mark_value w (kinds.Mark _) h = refl

mark_form : (w : List ℕ) (k : TokenKind) → is_mark_kind k ≡ true → Contains marks (w, k) → HasForm w k
mark_form w (kinds.Mark _) h c = c
mark_form w (kinds.Key _) h c = cc
mark_form w (kinds.Property _) h c = cc
mark_form w kinds.Lower h c = cc
mark_form w kinds.Upper h c = cc
mark_form w kinds.Number h c = cc

pub mark_row : (w : List ℕ) (k : TokenKind) → Contains marks (w, k) → IsMarkRow w k
mark_row w k c =
    let test : is_mark_row (w, k) ≡ true = All-contains (λ row. is_mark_row row ≡ true) marks (w, k) (all_from_list_all is_mark_row marks marks-rows) c in
    let first = and_parts (not (is_ascii_alphanumeric (slice_index w 0))) (not (begins_gap (slice_index w 0)) && (ltb 0 (length w) && is_mark_kind k)) test in
    let second = and_parts (not (begins_gap (slice_index w 0))) (ltb 0 (length w) && is_mark_kind k) first.1 in
    let rest = and_parts (ltb 0 (length w)) (is_mark_kind k) second.1 in
    record { other = not-true (is_ascii_alphanumeric (slice_index w 0)) first.0; no_gap = not-true (begins_gap (slice_index w 0)) second.0; some = ltb-true 0 (length w) rest.0; kind = mark_form w k rest.1 c; value = mark_value w k rest.1 }

-- a later row of a sorted table is no longer
sorted_at : (rows : Rows) (i j : ℕ) (d : List ℕ × TokenKind) → longest_first rows ≡ true → i ≤ j → j < length rows → length (get_or rows j d).0 ≤ length (get_or rows i d).0
unfolding longest_first
sorted_at [] i j d h le lt = absurd (omega arith)
sorted_at (row ∷ rows) zero zero d h le lt = omega arith
sorted_at (row ∷ rows) zero (suc j) d h le lt =
    let parts = and_parts (list_all (λ later. nat_le (length later.0) (length row.0)) rows) (longest_first rows) h in
    leb-true (length (get_or rows j d).0) (length row.0) (all_from_list_all (λ later. nat_le (length later.0) (length row.0)) rows parts.0 j d (omega arith))
sorted_at (row ∷ rows) (suc i) zero d h le lt = absurd (omega arith)
sorted_at (row ∷ rows) (suc i) (suc j) d h le lt =
    sorted_at rows i j d (and_parts (list_all (λ later. nat_le (length later.0) (length row.0)) rows) (longest_first rows) h).1 (omega arith) (omega arith)

-- the first row that begins the text is the longest that does
pub longest_from_first : (rows : Rows) (text : List ℕ) (i : ℕ) (row : List ℕ × TokenKind) → longest_first rows ≡ true → i < length rows → get_or rows i row ≡ row → All (λ other. take (length other.0) text ≢ other.0) (take i rows) → take (length row.0) text ≡ row.0 → IsLongestRow rows text (length row.0) row.1
longest_from_first rows text i row sorted lt at before begins = record {
  within = let e : min (length row.0) (length text) ≡ length row.0 = sym (length-take (length row.0) text) ∙ ap length begins in omega arith;
  row = subst (λ w. Contains rows (w, row.1)) (sym begins) (i, lt, at);
  longest = λ longer other more within c. longer_row longer other more within c;
}
  where
    longer_row : (longer : ℕ) (other : TokenKind) → length row.0 < longer → longer ≤ length text → Contains rows (take longer text, other) → ⊥
    longer_row longer other more within (j, ltj, e) =
        let size : length (take longer text) ≡ longer = length-take-le longer text within in
        let same : length (get_or rows j (take longer text, other)).0 ≡ longer = ap (λ r. length r.0) e ∙ size in
        ⊎_elim
        (λ j_below_i. let front : get_or (take i rows) j (take longer text, other) ≡ (take longer text, other) = get_or-take i rows j (take longer text, other) j_below_i ∙ e in
        before j (take longer text, other) (omega (arith, length-take i rows)) (subst (λ r. take (length r.0) text ≡ r.0) (sym front) (ap (λ n. take n text) size)))
        (λ i_le_j. let s = sorted_at rows i j (take longer text, other) sorted i_le_j ltj in
        let here : get_or rows i (take longer text, other) ≡ row = get_or_default rows i (take longer text, other) row lt ∙ at in
        let size_here = ap (λ r. length r.0) here in omega arith)
        (cases_lt j i)

-- ---- a loop over a table

length-rows : (table : List (Bor (List ℕ) × TokenKind)) → length (rows_of table) ≡ length table
length-rows table = length-map {B = List ℕ × TokenKind} table (λ row. (row.0.now, row.1))

module _ (table : List (Bor (List ℕ) × TokenKind)) (i : ℕ) (d : Bor (List ℕ) × TokenKind) where
  row_of : List ℕ × TokenKind
  row_of = ((get_or table i d).0.now, (get_or table i d).1)

  rows_at : (e : List ℕ × TokenKind) → i < length table → get_or (rows_of table) i e ≡ row_of
  unfolding row_of
  rows_at e lt = get_or-map (λ row. (row.0.now, row.1)) table i d e lt

  -- a fact on the rows so far, and on this one
  rows_more : (P : List ℕ × TokenKind → Type 0) → i < length table → All P (take i (rows_of table)) → P row_of → All P (take (i + 1) (rows_of table))
  rows_more P lt all here = All-more P (rows_of table) i row_of (omega (arith, length-rows table)) all (subst P (sym (rows_at row_of lt)) here)

  -- the row's text is the word
  pub row_found : (word : List ℕ) → i < length table → bytes_eq (get_or table i d).0.now word ≡ true → Contains (rows_of table) (word, (get_or table i d).1)
  unfolding row_of
  row_found word lt test =
      let same : (get_or table i d).0.now ≡ word = (bytes_eq-Decides (get_or table i d).0.now word).0 test in
      (i, omega (arith, length-rows table), rows_at (word, (get_or table i d).1) lt ∙ (λ j. (same j, (get_or table i d).1)))

  -- the row's text is another
  pub row_more : (word : List ℕ) → i < length table → All (λ row. row.0 ≢ word) (take i (rows_of table)) → bytes_eq (get_or table i d).0.now word ≡ false → All (λ row. row.0 ≢ word) (take (i + 1) (rows_of table))
  unfolding row_of
  row_more word lt all test = rows_more (λ row. row.0 ≢ word) lt all (λ same. let e = (bytes_eq-Decides (get_or table i d).0.now word).1 same in cc)

  -- the row's text begins the text
  pub longest_found : (text : List ℕ) → longest_first (rows_of table) ≡ true → i < length table → All (λ row. take (length row.0) text ≢ row.0) (take i (rows_of table)) → bytes_eq (get_or table i d).0.now (take (length (get_or table i d).0.now) text) ≡ true → IsLongestRow (rows_of table) text (length (get_or table i d).0.now) (get_or table i d).1
  unfolding row_of
  longest_found text sorted lt all test =
      longest_from_first (rows_of table) text i row_of sorted (omega (arith, length-rows table)) (rows_at row_of lt) all
      (sym ((bytes_eq-Decides (get_or table i d).0.now (take (length (get_or table i d).0.now) text)).0 test))

  -- the row's text doesn't begin the text
  pub longest_more : (text : List ℕ) → i < length table → All (λ row. take (length row.0) text ≢ row.0) (take i (rows_of table)) → bytes_eq (get_or table i d).0.now (take (length (get_or table i d).0.now) text) ≡ false → All (λ row. take (length row.0) text ≢ row.0) (take (i + 1) (rows_of table))
  unfolding row_of
  longest_more text lt all test = rows_more (λ row. take (length row.0) text ≢ row.0) lt all (λ same. let e = (bytes_eq-Decides (get_or table i d).0.now (take (length (get_or table i d).0.now) text)).1 (sym same) in cc)

module _ (table : List (Bor (List ℕ) × TokenKind)) (i : ℕ) where
  rows_all : (P : List ℕ × TokenKind → Type 0) → length table ≤ i → All P (take i (rows_of table)) → All P (rows_of table)
  rows_all P le all = subst (All P) (take_all i (rows_of table) (omega (arith, length-rows table))) all

  pub row_none : (word : List ℕ) → length table ≤ i → All (λ row. row.0 ≢ word) (take i (rows_of table)) → (kind : TokenKind) → Contains (rows_of table) (word, kind) → ⊥
  row_none word le all kind c = All-contains (λ row. row.0 ≢ word) (rows_of table) (word, kind) (rows_all (λ row. row.0 ≢ word) le all) c refl

  pub longest_none : (text : List ℕ) → length table ≤ i → All (λ row. take (length row.0) text ≢ row.0) (take i (rows_of table)) → NoRowBegins (rows_of table) text
  longest_none text le all len kind within c =
      All-contains (λ row. take (length row.0) text ≢ row.0) (rows_of table) (take len text, kind) (rows_all (λ row. take (length row.0) text ≢ row.0) le all) c
      (ap (λ n. take n text) (length-take-le len text within))
