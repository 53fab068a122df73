-- What words are written for has no more parts than there are words: one lemma a join.
use Rattle.std.proofs.Common.{ℕ, ◌+◌, ◌≤◌, List, map, length, sum, arith, length-append}
use Rattle.px_lexer.specs.declared.token.Mark.{Mark}
use Rattle.px_parser.specs.Words.{Word}
use Rattle.px_parser.specs.Phrases.{IsDone, IsSequence, Either, one, other, Each, IsWord, list, between}
use Rattle.px_parser.specs.SizeEquations.{sum_map-cons, length-le-sum_map}

-- a value has at most as many parts as its words, and so many more
pub record Fits {T : Type 0} (more : ℕ) (size : T → ℕ) (A : List Word → T → Type 0) : Type 0 where
  pub fits : (words : List Word) (value : T) → A words value → size value ≤ more + length words

-- a value of one part
abbrev pub single : {T : Type 0} → T → ℕ
single value = 1

-- the parts of a list, where this is an item's
abbrev pub total : {T : Type 0} → (T → ℕ) → List T → ℕ
total size values = sum (map size values)

pub fits_impossible : {T : Type 0} {more : ℕ} {size : T → ℕ} → Fits more size (λ words value. ⊥)
fits_impossible = record { fits = λ words value is. absurd is }

pub fits_word : {T : Type 0} {Is : Word → T → Type 0} → Fits 0 single (IsWord Is)
fits_word = record { fits = λ words value is. rw is.whole (omega arith) }

pub fits_done : {T : Type 0} {more : ℕ} {size : T → ℕ} {value : T} → size value ≤ more → Fits more size (IsDone value)
fits_done {T} {more} {size} {value} small = record { fits = λ words result is. rw is.same (omega arith) }

pub fits_bind : {S T : Type 0} {more : ℕ} {first : S → ℕ} {size : T → ℕ} {A : List Word → S → Type 0} {B : S → List Word → T → Type 0} →
    Fits 0 first A → ((x : S) → Fits (more + first x) size (B x)) → Fits more size (IsSequence A B)
fits_bind {S} {T} {more} {first} {size} front back = record {
  fits = λ words value is.
      let a : first is.first ≤ 0 + length is.front = front.fits is.front is.first is.is_front in
      let b : size value ≤ (more + first is.first) + length is.back = (back is.first).fits is.back value is.is_back in
      rw (is.whole, length-append) (omega arith);
}

pub fits_either : {T : Type 0} {more : ℕ} {size : T → ℕ} {A B : List Word → T → Type 0} → Fits more size A → Fits more size B →
    Fits more size (Either A B)
fits_either a b = record {
  fits = λ words value is. elim is [ one x ↦ a.fits words value x | other y ↦ b.fits words value y ];
}

pub fits_optional : {T : Type 0} {more : ℕ} {size : T → ℕ} {absent : T} {A : List Word → T → Type 0} → size absent ≤ more → Fits more size A →
    Fits more size (Either A (IsDone absent))
fits_optional small a = fits_either a (fits_done small)

-- a smaller size fits too
pub fits_smaller : {T : Type 0} {more : ℕ} {size smaller : T → ℕ} {A : List Word → T → Type 0} → ((x : T) → smaller x ≤ size x) → Fits more size A →
    Fits more smaller A
fits_smaller {T} {more} {size} {smaller} less a = record {
  fits = λ words value is.
      let x : smaller value ≤ size value = less value in
      let y : size value ≤ more + length words = a.fits words value is in
      omega arith;
}

each_fits : {T : Type 0} (size : T → ℕ) (A : List Word → T → Type 0) → Fits 0 size A → (words : List Word) (values : List T) → Each A words values →
    total size values ≤ length words
each_fits size A fits whole_words values Each.none = omega arith
each_fits size A fits whole_words values (Each.more {words} {front} {back} {x} {xs} is others whole) =
    let a : size x ≤ 0 + length front = fits.fits front x is in
    let b : total size xs ≤ length back = each_fits size A fits back xs others in
    rw (whole, length-append, sum_map-cons size) (omega arith)

pub fits_each : {T : Type 0} {size : T → ℕ} {A : List Word → T → Type 0} → Fits 0 size A → Fits 0 (total size) (Each A)
fits_each {T} {size} {A} fits = record {
  fits = λ words values is.
      let a : total size values ≤ length words = each_fits size A fits words values is in
      omega arith;
}

pub fits_after : {S T : Type 0} {size : T → ℕ} {Is : Word → S → Type 0} {A : List Word → T → Type 0} → Fits 0 size A →
    Fits 0 size (IsSequence (IsWord Is) (λ nothing. A))
fits_after {S} {T} {size} {Is} {A} fits = record {
  fits = λ words value is.
      let a : size value ≤ 0 + length is.back = fits.fits is.back value is.is_back in
      rw (is.whole, length-append) (omega arith);
}

pub fits_list : {T : Type 0} {size : T → ℕ} {A : List Word → T → Type 0} (separator : Mark) → Fits 0 size A → Fits 0 (total size) (list separator A)
unfolding list
fits_list {T} {size} separator fits =
    fits_bind fits (λ first. fits_bind (fits_each (fits_after fits)) (λ others. fits_done (rw (sum_map-cons size) (omega arith))))

pub fits_between : {T : Type 0} {size : T → ℕ} {A : List Word → T → Type 0} (opening closing : Mark) → Fits 0 size A →
    Fits 0 size (between opening A closing)
unfolding between
fits_between {T} {size} opening closing fits =
    fits_bind fits_word (λ nothing. fits_bind fits (λ value. fits_bind fits_word (λ nothing. fits_done (omega arith))))

-- words alone
pub fits_words : {T : Type 0} (separator : Mark) (Is : Word → T → Type 0) → Fits 0 (λ (values : List T). length values) (list separator (IsWord Is))
fits_words separator Is =
    fits_smaller {size = total single} (λ values. length-le-sum_map single (λ x. omega arith) values) (fits_list separator fits_word)
