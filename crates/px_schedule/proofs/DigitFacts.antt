-- The number that digits spell, digit by digit.
use Rattle.std.proofs.Common.{◌≡◌, ℕ, zero, suc, ◌+◌, ◌-◌, ◌*◌, ◌<◌, ◌≤◌, ◌^◌, true, List, [], ◌∷◌, length, get_or, take, ap, arith}
use Rattle.std.specs.Prelude.{All, IsTrue}
use Rattle.std.specs.Char.{digit_value, is_ascii_digit}
use Rattle.std.specs.Str.Parse.{digits_value, digits_value_after}
use Rattle.std.proofs.lemmas.Bool.Decides.{nat_tests}
use Rattle.std.proofs.lemmas.Int.Digits.{digits_value_more}

pub digit_range : (b : ℕ) → is_ascii_digit b ≡ true → (48 ≤ b) × (b ≤ 57)
digit_range b h = (grind (arith, nat_tests), grind (arith, nat_tests))

pub digit_value_is : (b : ℕ) → is_ascii_digit b ≡ true → digit_value b ≡ b - 48
digit_value_is b h = grind (arith, nat_tests)

after_ge : (n : ℕ) (ds : List ℕ) → n ≤ digits_value_after 10 n ds
after_ge n [] = omega arith
after_ge n (d ∷ ds) = let rest = after_ge (n * 10 + digit_value d) ds in omega arith

after_take : (n i : ℕ) (ds : List ℕ) → digits_value_after 10 n (take i ds) ≤ digits_value_after 10 n ds
after_take n zero ds = after_ge n ds
after_take n (suc i) [] = omega arith
after_take n (suc i) (d ∷ ds) = after_take (n * 10 + digit_value d) i ds

-- one digit more
pub value_more : (ds : List ℕ) (i d number : ℕ) → i < length ds → All (λ digit. IsTrue (is_ascii_digit digit)) ds → d ≡ get_or ds i 0 → number ≡ digits_value 10 (take i ds) → number * 10 + (d - 48) ≡ digits_value 10 (take (i + 1) ds)
value_more ds i d number lt all e h =
    let digit : digit_value (get_or ds i 0) ≡ get_or ds i 0 - 48 = digit_value_is (get_or ds i 0) (all i 0 lt) in
    let more = digits_value_more 10 ds i lt in
    let here = ap (λ x. x - 48) e in
    omega (arith, more, digit, h, here)

-- a front that is too large makes the whole too large
pub front_too_large : (ds : List ℕ) (i d number : ℕ) → i < length ds → All (λ digit. IsTrue (is_ascii_digit digit)) ds → d ≡ get_or ds i 0 → number ≡ digits_value 10 (take i ds) → 2 ^ 64 ≤ number * 10 + (d - 48) → 2 ^ 64 ≤ digits_value 10 ds
front_too_large ds i d number lt all e h large = omega (arith, value_more ds i d number lt all e h, after_take 0 (i + 1) ds)
