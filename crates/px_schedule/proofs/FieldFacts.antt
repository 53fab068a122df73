-- Fields of a line: where a text is cut, numbers, and words of a table.
use Rattle.std.proofs.Common.{◌≡◌, ◌≢◌, ℕ, zero, suc, ◌+◌, ◌<◌, ◌≤◌, ◌^◌, ◌⊎◌, Bool, true, false, cond, ◌||◌, ◌==◌, List, [], ◌∷◌, ◌++◌, length, get_or, Option, Some, None, refl, sym, ap, ◌∙◌, subst, inl, inr, arith}
use Rattle.std.specs.Prelude.{Contains, MatchOption, IsTrue, ◌↔◌, slice_index}
use Rattle.std.specs.Borrow.{Bor}
use Rattle.std.specs.List.{AllByRecursion, prefix_len, list_any}
use Rattle.std.specs.Char.{is_ascii_digit, is_ascii_lowercase}
use Rattle.std.specs.Int.{IsInRange}
use Rattle.std.specs.Fmt.{decimal}
use Rattle.std.specs.Str.{bytes_eq}
use Rattle.std.specs.Str.Parse.{digits_value}
use Rattle.std.proofs.lemmas.Str.Parse.{IsDigitsTest, IsNumeralModel, numerals_by_value}
use Rattle.std.proofs.lemmas.Fmt.{decimal-digits_value, digits_value-decimal, digits_decimal, decimal_digit, decimal_nonempty, first_decimal}
use Rattle.std.proofs.lemmas.Bool.Decides.{Decides-eqb, nat_tests}
use Rattle.std.proofs.lemmas.List.{append-nil}
use Rattle.std.proofs.lemmas.List.Elements.{Contains-append_right, All-from_recursion, recursion_from_All}
use Rattle.std.proofs.lemmas.Slice.Eq.{bytes_eq-Decides}
use Rattle.px_base.specs.NameForms.{is_name_part, IsName}
use Rattle.px_schedule.specs.declared.runs.Class.TheVariants as classes
use Rattle.px_schedule.specs.Runs.{is_in, IsRun}
use Rattle.px_schedule.specs.Fields.{IsCut, is_numeral, words_of, stands_in}
use Rattle.px_schedule.proofs.RunFacts.{Each, Same, same_run}

-- no byte of the text is the mark
abbrev pub Lacks : ℕ → List ℕ → Type 0
Lacks mark text = AllByRecursion (λ (c : ℕ). (c == mark) ≡ false) text

pub is_false : (b : Bool) → (b ≡ true → ⊥) → b ≡ false
is_false true h = absurd (h refl)
is_false false h = refl

pub lacks : (mark : ℕ) (text : List ℕ) → (Contains text mark → ⊥) → Lacks mark text
lacks mark [] absent = tt
lacks mark (c ∷ cs) absent = (is_false (c == mark) (λ e. absent (0, omega arith, (Decides-eqb c mark).0 e)), lacks mark cs (λ there. absent (Contains-append_right (c ∷ []) cs mark there)))

pub lacks_not : (mark : ℕ) (text : List ℕ) → Lacks mark text → Contains text mark → ⊥
lacks_not mark [] none (k, less, is) = omega arith
lacks_not mark (c ∷ cs) none (zero, less, is) = let q : true ≡ false = sym ((Decides-eqb c mark).1 is) ∙ none.0 in cc
lacks_not mark (c ∷ cs) none (suc k, less, is) = lacks_not mark cs none.1 (k, omega arith, is)

-- what passes a test that the mark does not pass lacks the mark
pub lacks_by : (test : ℕ → Bool) (mark : ℕ) → test mark ≡ false → (text : List ℕ) → Each test text → Lacks mark text
lacks_by test mark bars [] each = tt
lacks_by test mark bars (c ∷ cs) each = (is_false (c == mark) (λ e. differs c (ap test ((Decides-eqb c mark).0 e)) each.0), lacks_by test mark bars cs each.1)
  where
    differs : (c : ℕ) → test c ≡ test mark → test c ≡ true → ⊥
    differs c same is = let q : true ≡ false = sym is ∙ same ∙ bars in cc

-- a text is cut at the first mark in one way
pub same_cut : (mark : ℕ) (u v x y : List ℕ) → Lacks mark u → Lacks mark v → u ++ mark ∷ x ≡ v ++ mark ∷ y → Same u v x y
same_cut mark [] [] x y lu lv e = record { front = refl; back = cc }
same_cut mark [] (b ∷ v) x y lu lv e =
    let h : b ≡ mark = cc in
    let t : true ≡ false = sym ((Decides-eqb b mark).1 h) ∙ lv.0 in
    absurd cc
same_cut mark (a ∷ u) [] x y lu lv e =
    let h : a ≡ mark = cc in
    let t : true ≡ false = sym ((Decides-eqb a mark).1 h) ∙ lu.0 in
    absurd cc
same_cut mark (a ∷ u) (b ∷ v) x y lu lv e =
    let heads : a ≡ b = cc in
    let tails : u ++ mark ∷ x ≡ v ++ mark ∷ y = cc in
    let rest : Same u v x y = same_cut mark u v x y lu.1 lv.1 tails in
    let front_is : u ≡ v = rest.front in
    record { front = cc; back = rest.back }

pub cut_is : (mark : ℕ) (text front back u x : List ℕ) → IsCut mark text front back → Lacks mark u → text ≡ u ++ mark ∷ x → Same front u back x
cut_is mark text front back u x cut lacking e = same_cut mark front u back x (lacks mark front cut.first) lacking (sym cut.whole ∙ e)

pub no_cut : (mark : ℕ) (text u x : List ℕ) → (Contains text mark → ⊥) → text ≡ u ++ mark ∷ x → ⊥
no_cut mark text u x absent e = absent (subst (λ (t : List ℕ). Contains t mark) (sym e) (Contains-append_right u (mark ∷ x) mark (0, omega arith, refl)))

digit_range : (b : ℕ) → is_ascii_digit b ≡ true → IsInRange 48 57 b
digit_range b h = (grind (arith, nat_tests), grind (arith, nat_tests))

digit_from : (b : ℕ) → IsInRange 48 57 b → is_ascii_digit b ≡ true
digit_from b (low, high) = grind (arith, nat_tests)

are_digits : IsDigitsTest (Each is_ascii_digit)
are_digits = record { empty = tt; parts = λ c cs h. (digit_range c h.0, h.1); more = λ c cs range h. (digit_from c range, h) }

own : IsNumeralModel (Each is_ascii_digit) (digits_value 10)
own = numerals_by_value (Each is_ascii_digit) are_digits

numeral_some : (ds : List ℕ) → is_numeral ds ≡ true → 0 < length ds
numeral_some [] e = absurd cc
numeral_some (c ∷ ds) e = omega arith

no_leading_zero : (c d : ℕ) (ds : List ℕ) (b : Bool) → (c ≡ 48 → b ≡ true) → cond b false true ≡ true → c ≡ 48 → length (c ∷ d ∷ ds) ≡ 1
no_leading_zero c d ds true zero_is e z = absurd cc
no_leading_zero c d ds false zero_is e z = let q : false ≡ true = zero_is z in absurd cc

numeral_zero : (ds : List ℕ) → is_numeral ds ≡ true → get_or ds 0 0 ≡ 48 → length ds ≡ 1
numeral_zero [] e z = absurd cc
numeral_zero (c ∷ []) e z = refl
numeral_zero (c ∷ d ∷ ds) e z = no_leading_zero c d ds (c == 48) (Decides-eqb c 48).1 e z

several : (c d : ℕ) (ds : List ℕ) (b : Bool) → (b ≡ true → c ≡ 48) → 48 < c → cond b false true ≡ true
several c d ds true is_zero more = let q : c ≡ 48 = is_zero refl in absurd (omega arith)
several c d ds false is_zero more = refl

numeral_from : (ds : List ℕ) → 0 < length ds → (48 < get_or ds 0 0) ⊎ (length ds ≡ 1) → is_numeral ds ≡ true
numeral_from [] some h = absurd (omega arith)
numeral_from (c ∷ []) some h = refl
numeral_from (c ∷ d ∷ ds) some (inl more) = several c d ds (c == 48) (Decides-eqb c 48).0 more
numeral_from (c ∷ d ∷ ds) some (inr one) = absurd (omega arith)

numeral_decimal : (n : ℕ) → n < 2 ^ 64 → is_numeral (decimal n) ≡ true
numeral_decimal zero small = let e : decimal 0 ≡ 48 ∷ [] = decimal_digit 0 (omega arith) in rw e refl
numeral_decimal (suc n) small = numeral_from (decimal (suc n)) (decimal_nonempty (suc n) small) (inl (first_decimal (suc n) (omega arith) small))

-- a number is digits, so no space stands in it
pub number_lacks : (n : ℕ) → n < 2 ^ 64 → Lacks 32 (decimal n)
number_lacks n small = lacks_by is_ascii_digit 32 refl (decimal n) (digits_decimal own n small)

-- two numbers that are written alike are one
pub same_number : (m n : ℕ) → m < 2 ^ 64 → n < 2 ^ 64 → decimal m ≡ decimal n → m ≡ n
same_number m n small less e = sym (digits_value-decimal own m small) ∙ ap (digits_value 10) e ∙ digits_value-decimal own n less

-- a word that goes on behind its digits is no number
pub not_digits : (word digits rest : List ℕ) → IsRun classes.Digit word digits rest → 0 < length rest → (n : ℕ) → n < 2 ^ 64 → word ≡ decimal n → ⊥
not_digits word digits rest run some n small e =
    let s : Same digits (decimal n) rest [] = same_run is_ascii_digit digits (decimal n) rest [] run.each (digits_decimal own n small) run.ends refl (sym run.whole ∙ e ∙ sym (append-nil (decimal n))) in
    let h : length rest ≡ 0 = ap length s.back in
    omega arith

-- the word is its digits, where nothing follows them
pub all_digits : (word digits rest : List ℕ) → IsRun classes.Digit word digits rest → length rest ≡ 0 → word ≡ digits
all_digits word digits [] run none = run.whole ∙ append-nil digits
all_digits word digits (c ∷ cs) run none = absurd (omega arith)

pub not_numeral : (digits : List ℕ) → is_numeral digits ≡ false → (n : ℕ) → n < 2 ^ 64 → digits ≡ decimal n → ⊥
not_numeral digits bars n small e = let q : true ≡ false = sym (numeral_decimal n small) ∙ ap is_numeral (sym e) ∙ bars in cc

-- what digits add up to is the number that they spell
pub spelled : (word digits : List ℕ) → word ≡ digits → Each is_ascii_digit digits → is_numeral digits ≡ true → (r : Option ℕ) → MatchOption r (2 ^ 64 ≤ digits_value 10 digits) (λ n. (n ≡ digits_value 10 digits) × (n < 2 ^ 64)) →
    MatchOption r ((n : ℕ) → n < 2 ^ 64 → word ≢ decimal n) (λ n. (n < 2 ^ 64) × (word ≡ decimal n))
spelled word digits same each numeral (Some n) (is, small) =
    let less : digits_value 10 digits < 2 ^ 64 = subst (λ (k : ℕ). k < 2 ^ 64) is small in
    (small, same ∙ sym (decimal-digits_value own digits each (numeral_some digits numeral) (numeral_zero digits numeral) less) ∙ ap decimal (sym is))
spelled word digits same each numeral None large = λ n small e.
    let q : digits_value 10 digits ≡ n = ap (digits_value 10) (sym same ∙ e) ∙ digits_value-decimal own n small in
    omega arith

or_true : (b : Bool) → (b || true) ≡ true
or_true true = refl
or_true false = refl

any_word : (word : List ℕ) (words : List (Bor (List ℕ))) → list_any (λ (other : Bor (List ℕ)). bytes_eq other.now word) words ≡ true → Contains (words_of words) word
any_word word [] e = absurd cc
any_word word (x ∷ xs) e = by (bytes_eq x.now word) (bytes_eq-Decides x.now word).0 e (any_word word xs)
  where
    by : (b : Bool) → (b ≡ true → x.now ≡ word) → (b || list_any (λ (other : Bor (List ℕ)). bytes_eq other.now word) xs) ≡ true → (list_any (λ (other : Bor (List ℕ)). bytes_eq other.now word) xs ≡ true → Contains (words_of xs) word) → Contains (x.now ∷ words_of xs) word
    by true is f rest = (0, omega arith, is refl)
    by false is f rest = Contains-append_right (x.now ∷ []) (words_of xs) word (rest f)

word_any : (word : List ℕ) (words : List (Bor (List ℕ))) → Contains (words_of words) word → list_any (λ (other : Bor (List ℕ)). bytes_eq other.now word) words ≡ true
word_any word [] (k, less, is) = absurd (omega arith)
word_any word (x ∷ xs) (zero, less, is) = rw ((bytes_eq-Decides x.now word).1 is) refl
word_any word (x ∷ xs) (suc k, less, is) =
    let rest : list_any (λ (other : Bor (List ℕ)). bytes_eq other.now word) xs ≡ true = word_any word xs (k, omega arith, is) in
    rw rest (or_true (bytes_eq x.now word))

-- a word is found in a table where it stands there
pub in_table : (word : List ℕ) (words : List (Bor (List ℕ))) (table : List (List ℕ)) (r : Bool) → r ≡ stands_in words word → table ≡ words_of words → IsTrue r ↔ Contains table word
unfolding stands_in
in_table word words table r is same = (
  λ h. subst (λ (t : List (List ℕ)). Contains t word) (sym same) (any_word word words (sym is ∙ h)),
  λ there. is ∙ word_any word words (subst (λ (t : List (List ℕ)). Contains t word) same there),
)

all_pass : (test : ℕ → Bool) (word : List ℕ) → prefix_len test word ≡ length word → Each test word
all_pass test [] e = tt
all_pass test (c ∷ cs) e = by (test c) refl e (all_pass test cs)
  where
    by : (b : Bool) → test c ≡ b → cond b (1 + prefix_len test cs) 0 ≡ suc (length cs) → (prefix_len test cs ≡ length cs → Each test cs) → (test c ≡ true) × Each test cs
    by true is f rest = (is, rest (omega arith))
    by false is f rest = absurd (omega arith)

pass_all : (test : ℕ → Bool) (word : List ℕ) → Each test word → prefix_len test word ≡ length word
pass_all test [] each = refl
pass_all test (c ∷ cs) each =
    let rest : prefix_len test cs ≡ length cs = pass_all test cs each.1 in
    rw each.0 (omega arith)

-- a word that begins with a small letter is a name where all its bytes are name parts
pub form_is : (word : List ℕ) (n : ℕ) → is_ascii_lowercase (slice_index word 0) ≡ true → n ≡ prefix_len (is_in classes.NamePart) word → IsTrue (n == length word) ↔ IsName is_ascii_lowercase word
form_is word n first long = (
  λ whole. record {
    first = first;
    rest = All-from_recursion (λ (byte : ℕ). IsTrue (is_name_part byte)) word (all_pass is_name_part word (sym long ∙ (Decides-eqb n (length word)).0 whole));
  },
  λ name. (Decides-eqb n (length word)).1 (long ∙ pass_all is_name_part word (recursion_from_All (λ (byte : ℕ). IsTrue (is_name_part byte)) word name.rest)),
)

-- a test that came out false refutes what it decides
pub not_true : (A : Type 0) (r : Bool) → IsTrue r ↔ A → r ≡ false → A → ⊥
not_true A r decides is a = let q : true ≡ false = sym (decides.1 a) ∙ is in cc
