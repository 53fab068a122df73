-- Numbers are read as they are written.
use Rattle.std.proofs.Common.{◌≡◌, ℕ, zero, suc, ◌<◌, ◌≤◌, ◌^◌, ◌⊎◌, Bool, true, false, cond, ◌&&◌, List, [], ◌∷◌, ◌++◌, length, take, drop, get_or, Option, Some, None, refl, sym, ap, ◌∙◌, subst, inl, inr, arith, ◌==◌, nat_lt}
use Rattle.std.specs.Option.{option_and_then}
use Rattle.std.specs.Prelude.{MatchOption, All, IsTrue}
use Rattle.std.proofs.lemmas.List.Elements.{All-from_recursion}
use Rattle.px_derive.specs.declared.line_end.LineEnd.{LineEnd}
use Rattle.px_derive.specs.declared.line_end.LineEnd.TheVariants.{Form, NoMemory}
use Rattle.px_derive.specs.Gives.{Fails}
use Rattle.std.specs.List.{AllByRecursion, prefix_len}
use Rattle.std.specs.Fmt.{decimal}
use Rattle.std.specs.Char.{is_ascii_digit}
use Rattle.std.specs.Int.{IsInRange}
use Rattle.std.specs.Str.Parse.{digits_value}
use Rattle.std.proofs.lemmas.Str.Parse.{IsDigitsTest, IsNumeralModel, numerals_by_value}
use Rattle.std.proofs.lemmas.Fmt.{decimal-digits_value, digits_value-decimal, digits_decimal, decimal_digit, decimal_nonempty, first_decimal}
use Rattle.std.proofs.lemmas.Bool.Decides.{Decides-eqb, Decides-ltb, nat_tests}
use Rattle.px_derive.specs.Readers.{bind, lift, run_of, begins, is_numeral, number_of, number_at}
use Rattle.px_derive.specs.Reading.{small}
use Rattle.px_derive.proofs.Fronts.{IsRun, run_is, run_found, run_whole}
use Rattle.px_derive.proofs.Found.{bind_found, bind_goes, Lifted, lift_found, lift_some, read}

-- each byte is a digit
abbrev pub AreDigits : List ℕ → Type 0
AreDigits ds = AllByRecursion (λ (b : ℕ). is_ascii_digit b ≡ true) ds

digit_range : (b : ℕ) → is_ascii_digit b ≡ true → IsInRange 48 57 b
digit_range b h = (grind (arith, nat_tests), grind (arith, nat_tests))

digit_from : (b : ℕ) → IsInRange 48 57 b → is_ascii_digit b ≡ true
digit_from b (low, high) = grind (arith, nat_tests)

are_digits : IsDigitsTest AreDigits
are_digits = record { empty = tt; parts = λ c cs h. (digit_range c h.0, h.1); more = λ c cs range h. (digit_from c range, h) }

pub own : IsNumeralModel AreDigits (digits_value 10)
own = numerals_by_value AreDigits are_digits

numeral_some : (ds : List ℕ) → is_numeral ds ≡ true → 0 < length ds
numeral_some [] e = absurd cc
numeral_some (c ∷ ds) e = omega arith

no_leading_zero : (c d : ℕ) (ds : List ℕ) (b : Bool) → (c ≡ 48 → b ≡ true) → cond b false true ≡ true → c ≡ 48 → length (c ∷ d ∷ ds) ≡ 1
no_leading_zero c d ds true zero_is e z = absurd cc
no_leading_zero c d ds false zero_is e z = let q : false ≡ true = zero_is z in absurd cc

numeral_zero : (ds : List ℕ) → is_numeral ds ≡ true → get_or ds 0 0 ≡ 48 → length ds ≡ 1
numeral_zero [] e z = absurd cc
numeral_zero (c ∷ []) e z = refl
numeral_zero (c ∷ d ∷ ds) e z = no_leading_zero c d ds (c == 48) (Decides-eqb c 48).1 e z

-- The digits are those of a number below the limit.
pub record IsNumber (limit : ℕ) (digits : List ℕ) (n : ℕ) : Type 0 where
  pub small : n < limit
  pub spelled : digits ≡ decimal n

number_step : (limit n v : ℕ) (ds : List ℕ) (a b : Bool) → (a ≡ true → v < 2 ^ 64 → decimal v ≡ ds) → (b ≡ true → v < limit) → limit ≤ 2 ^ 64 → cond (a && b) (Some v) None ≡ Some n → IsNumber limit ds n
number_step limit n v ds true true spells below most e =
    let v_is : v ≡ n = cc in
    let less : v < limit = below refl in
    let same : decimal v ≡ ds = spells refl (omega arith) in
    record { small = subst (λ k. k < limit) v_is less; spelled = sym same ∙ ap decimal v_is }
number_step limit n v ds true false spells below most e = absurd cc
number_step limit n v ds false b spells below most e = absurd cc

pub number_of_sound : (limit n : ℕ) (ds : List ℕ) → limit ≤ 2 ^ 64 → AreDigits ds → number_of limit ds ≡ Some n → IsNumber limit ds n
unfolding number_of
number_of_sound limit n ds most digits e =
    number_step limit n (digits_value 10 ds) ds (is_numeral ds) (nat_lt (digits_value 10 ds) limit)
    (λ numeral less. decimal-digits_value own ds digits (numeral_some ds numeral) (numeral_zero ds numeral) less)
    (Decides-ltb (digits_value 10 ds) limit).0 most e

several : (c d : ℕ) (ds : List ℕ) (b : Bool) → (b ≡ true → c ≡ 48) → 48 < c → cond b false true ≡ true
several c d ds true is_zero more = let q : c ≡ 48 = is_zero refl in absurd (omega arith)
several c d ds false is_zero more = refl

numeral_from : (ds : List ℕ) → 0 < length ds → (48 < get_or ds 0 0) ⊎ (length ds ≡ 1) → is_numeral ds ≡ true
numeral_from [] some h = absurd (omega arith)
numeral_from (c ∷ []) some h = refl
numeral_from (c ∷ d ∷ ds) some (inl more) = several c d ds (c == 48) (Decides-eqb c 48).0 more
numeral_from (c ∷ d ∷ ds) some (inr one) = absurd (omega arith)

numeral_decimal : (n : ℕ) → n < 2 ^ 64 → is_numeral (decimal n) ≡ true
numeral_decimal zero small = let e : decimal 0 ≡ 48 ∷ [] = decimal_digit 0 (omega arith) in rw e refl
numeral_decimal (suc n) small = numeral_from (decimal (suc n)) (decimal_nonempty (suc n) small) (inl (first_decimal (suc n) (omega arith) small))

pub number_of_decimal : (limit n : ℕ) → limit ≤ 2 ^ 64 → n < limit → number_of limit (decimal n) ≡ Some n
unfolding number_of
number_of_decimal limit n most less =
    let small : n < 2 ^ 64 = omega arith in
    rw (numeral_decimal n small, digits_value-decimal own n small, (Decides-ltb n limit).1 less) refl

-- A number was read: it is below the limit, and stood there.
pub record ReadNumber (limit : ℕ) (text : List ℕ) (n : ℕ) (rest : List ℕ) : Type 0 where
  pub small : n < limit
  pub whole : text ≡ decimal n ++ rest

pub number_sound : (limit : ℕ) → limit ≤ 2 ^ 64 → (text rest : List ℕ) (n : ℕ) → number_at limit text ≡ Some (n, rest) → ReadNumber limit text n rest
unfolding number_at
number_sound limit most text rest n e =
    let b = bind_found (run_of is_ascii_digit) (λ (digits : List ℕ). lift (number_of limit digits)) text n rest e in
    let r : IsRun is_ascii_digit text b.value b.middle = run_found is_ascii_digit text b.value b.middle b.first in
    let l : Lifted (number_of limit b.value) n b.middle rest = lift_found (number_of limit b.value) n b.middle rest b.second in
    let is : IsNumber limit b.value n = number_of_sound limit n b.value most r.each l.some in
    record { small = is.small; whole = r.whole ∙ ap (λ ds. ds ++ b.middle) is.spelled ∙ ap (λ z. decimal n ++ z) l.rest_is }

pub number_complete : (limit : ℕ) → limit ≤ 2 ^ 64 → (n : ℕ) (rest : List ℕ) → n < limit → begins is_ascii_digit rest ≡ false → number_at limit (decimal n ++ rest) ≡ Some (n, rest)
unfolding number_at
number_complete limit most n rest less ends =
    let small : n < 2 ^ 64 = omega arith in
    bind_goes (run_of is_ascii_digit) (λ (digits : List ℕ). lift (number_of limit digits)) (decimal n ++ rest) (decimal n) rest (run_whole is_ascii_digit (decimal n) rest (digits_decimal own n small) ends)
    ∙ lift_some (number_of limit (decimal n)) n rest (number_of_decimal limit n most less)

-- a number begins with a digit
digits_begin : (ds rest : List ℕ) → 0 < length ds → AreDigits ds → begins is_ascii_digit (ds ++ rest) ≡ true
digits_begin [] rest some digits = absurd (omega arith)
digits_begin (c ∷ ds) rest some digits = digits.0

pub number_begins : (n : ℕ) (rest : List ℕ) → n < 2 ^ 64 → begins is_ascii_digit (decimal n ++ rest) ≡ true
number_begins n rest small = digits_begin (decimal n) rest (decimal_nonempty n small) (digits_decimal own n small)

small_step : (a : Bool) (v : ℕ) (b : Bool) → nat_lt v (2 ^ 64) ≡ b → cond (a && nat_lt v (2 ^ 32)) (Some v) None ≡ option_and_then small (cond (a && b) (Some v) None)
small_step true v true e = refl
small_step true v false e =
    let large : nat_lt v (2 ^ 32) ≡ false = grind (arith, nat_tests) in
    rw large refl
small_step false v b e = refl

-- a number below 2^32 is one below 2^64 that is small
pub small_number : (ds : List ℕ) → number_of (2 ^ 32) ds ≡ option_and_then small (number_of (2 ^ 64) ds)
unfolding number_of
small_number ds = small_step (is_numeral ds) (digits_value 10 ds) (nat_lt (digits_value 10 ds) (2 ^ 64)) refl

-- what digits add up to, where it is not too large
pub valued : (ds : List ℕ) (r : Option ℕ) → is_numeral ds ≡ true → MatchOption r (2 ^ 64 ≤ digits_value 10 ds) (λ n. (n ≡ digits_value 10 ds) × (n < 2 ^ 64)) → r ≡ number_of (2 ^ 64) ds
unfolding number_of
valued ds (Some n) numeral (same, small) =
    let less : digits_value 10 ds < 2 ^ 64 = subst (λ k. k < 2 ^ 64) same small in
    rw (numeral, (Decides-ltb (digits_value 10 ds) (2 ^ 64)).1 less) (ap (λ k. Some k) same)
valued ds None numeral large =
    let not_less : nat_lt (digits_value 10 ds) (2 ^ 64) ≡ false = grind (arith, nat_tests) in
    rw (numeral, not_less) refl

pub no_number : (ds : List ℕ) → is_numeral ds ≡ false → number_of (2 ^ 64) ds ≡ None
unfolding number_of
no_number ds e = rw e refl

-- the bytes that were split off are those of the class
pub run_split : (class : ℕ → Bool) (text front back : List ℕ) (n : ℕ) → n ≡ prefix_len class text → front ≡ take n text → back ≡ drop n text → run_of class text ≡ Some (front, back)
unfolding run_of
run_split class text front back n e f g = rw (f, g, e) refl

pub digits_front : (text front : List ℕ) (n : ℕ) → n ≡ prefix_len is_ascii_digit text → front ≡ take n text → All (λ (d : ℕ). IsTrue (is_ascii_digit d)) front
digits_front text front n e f =
    let is : IsRun is_ascii_digit text (take (prefix_len is_ascii_digit text) text) (drop (prefix_len is_ascii_digit text) text) = run_is is_ascii_digit text in
    All-from_recursion (λ (d : ℕ). IsTrue (is_ascii_digit d)) front (rw (f, e) is.each)

pub number_some : (limit : ℕ) (text front back : List ℕ) (n : ℕ) → run_of is_ascii_digit text ≡ Some (front, back) → number_of limit front ≡ Some n → number_at limit text ≡ Some (n, back)
unfolding number_at
number_some limit text front back n e f = bind_goes (run_of is_ascii_digit) (λ (digits : List ℕ). lift (number_of limit digits)) text front back e ∙ lift_some (number_of limit front) n back f

pub number_none : (limit : ℕ) (text front back : List ℕ) → run_of is_ascii_digit text ≡ Some (front, back) → number_of limit front ≡ None → number_at limit text ≡ None
unfolding number_at lift
number_none limit text front back e f = bind_goes (run_of is_ascii_digit) (λ (digits : List ℕ). lift (number_of limit digits)) text front back e ∙ rw f refl

-- a number that is small, and what follows it
abbrev small_read : ℕ × List ℕ → Option (ℕ × List ℕ)
small_read (n, rest) = option_and_then (λ (m : ℕ). read m rest) (small n)

narrowed : (o : Option ℕ) (rest : List ℕ) → option_and_then (λ (m : ℕ). read m rest) (option_and_then small o) ≡ option_and_then small_read (option_and_then (λ (n : ℕ). read n rest) o)
narrowed (Some n) rest = refl
narrowed None rest = refl

number_narrow : (text : List ℕ) → number_at (2 ^ 32) text ≡ option_and_then small_read (number_at (2 ^ 64) text)
unfolding number_at bind run_of lift
number_narrow text =
    let ds : List ℕ = take (prefix_len is_ascii_digit text) text in
    let rest : List ℕ = drop (prefix_len is_ascii_digit text) text in
    ap (option_and_then (λ (m : ℕ). read m rest)) (small_number ds) ∙ narrowed (number_of (2 ^ 64) ds) rest

pub narrow_some : (text rest : List ℕ) (n m : ℕ) → number_at (2 ^ 64) text ≡ Some (n, rest) → small n ≡ Some m → number_at (2 ^ 32) text ≡ Some (m, rest)
narrow_some text rest n m e f = number_narrow text ∙ rw (e, f) refl

pub narrow_none : (text rest : List ℕ) (n : ℕ) → number_at (2 ^ 64) text ≡ Some (n, rest) → small n ≡ None → number_at (2 ^ 32) text ≡ None
narrow_none text rest n e f = number_narrow text ∙ rw (e, f) refl

pub narrow_fails : (end : LineEnd) (text : List ℕ) → Fails end (number_at (2 ^ 64) text) → Fails end (number_at (2 ^ 32) text)
narrow_fails Form text e = number_narrow text ∙ rw e refl
narrow_fails NoMemory text e = tt
