-- What a loop over the items of a list has read, and what is still to come.
use Rattle.std.proofs.Common.{◌≡◌, ℕ, ◌<◌, ◌≤◌, Bool, true, false, List, [], ◌∷◌, ◌++◌, length, Option, Some, None, Result, Ok, Err, refl, sym, ap, append_assoc, arith, length-append}
use Rattle.std.proofs.lemmas.List.{append-nil}
use Rattle.px_lexer.specs.declared.token.Mark.{Mark}
use Rattle.px_parser.specs.Words.{Word}
use Rattle.px_parser.specs.Readers.{Reader, onward, bind, pure, found, word_at, each_at}
use Rattle.px_parser.specs.Reading.{mark_at, list_while}
use Rattle.px_parser.specs.Gives.{Fails}
use Rattle.px_parser.specs.declared.phrase_end.PhraseEnd.{PhraseEnd}
use Rattle.px_parser.specs.declared.phrase_end.PhraseEnd.TheVariants.{Fault, NoMemory}
use Rattle.px_parser.proofs.Right.{onward_ok, one_result, read, Right}
use Rattle.px_parser.proofs.Repeats.{Shrinks, each_stops, each_goes, each_breaks}

-- no more words are left than there were
abbrev pub NoLonger : {T : Type 0} → (List Word → Result (T × List Word) ℕ) → Type 0
NoLonger {T} item = (s rest : List Word) (x : T) → item s ≡ Ok (x, rest) → length rest ≤ length s

pub right_no_longer : {T : Type 0} {Before After : List Word → List Word → Type 0} {Ends : List Word → Type 0} {A : List Word → T → Type 0} {p : List Word → Result (T × List Word) ℕ} → Right Before After Ends A p → NoLonger p
right_no_longer right s rest x e =
    let t = right.sound s rest x e in
    rw t.whole (simp length-append (omega arith))

word_takes : {T : Type 0} (value_of : Word → Option T) (s rest : List Word) (x : T) → word_at value_of s ≡ Ok (x, rest) → length rest < length s
unfolding word_at
word_takes value_of [] rest x e = absurd cc
word_takes {T} value_of (w ∷ ws) rest x e = elim (value_of w) as (λ o. found o ws (length (w ∷ ws)) ≡ Ok (x, rest) → length rest < length (w ∷ ws)) [
  | Some v ↦ λ h. rw (← (one_result v x ws rest h).rest) (omega arith)
  | None ↦ λ h. absurd cc
] e

pub word_stays : {T : Type 0} (value_of : Word → Option T) → NoLonger (word_at value_of)
word_stays value_of s rest x e = let less : length rest < length s = word_takes value_of s rest x e in omega arith

pub pure_stays : {T : Type 0} (value : T) → NoLonger (pure value)
unfolding pure
pure_stays value s rest x e = rw (one_result value x s rest e).rest (omega arith)

pub bind_stays : {S T : Type 0} (p : List Word → Result (S × List Word) ℕ) (k : S → List Word → Result (T × List Word) ℕ) → NoLonger p → ((a : S) → NoLonger (k a)) → NoLonger (bind p k)
unfolding bind
bind_stays p k first second s rest x e =
    let b = onward_ok (p s) (λ y. k y.0 y.1) (x, rest) e in
    let one : length b.value.1 ≤ length s = first s b.value.1 b.value.0 b.first in
    let two : length rest ≤ length b.value.1 = second b.value.0 b.value.1 rest x b.second in
    omega arith

-- a separator and an item
abbrev pub next_at : {T : Type 0} → Mark → Reader T → Reader T
next_at separator item = bind (mark_at separator) (λ nothing. item)

pub next_shrinks : {T : Type 0} (test : List Word → Bool) (separator : Mark) (item : List Word → Result (T × List Word) ℕ) → NoLonger item → Shrinks test (next_at separator item)
unfolding bind
next_shrinks test separator item stays s rest x holds e =
    let b = onward_ok (mark_at separator s) (λ y. item y.1) (x, rest) e in
    let one : length b.value.1 < length s = word_takes _ s b.value.1 b.value.0 b.first in
    let two : length rest ≤ length b.value.1 = stays b.value.1 rest x b.second in
    omega arith

-- what was read, and what the reader finds from here on
abbrev pub so_far : {T : Type 0} → (List Word → Bool) → Reader T → List T → List Word → Result (List T × List Word) ℕ
so_far test next items words = onward (each_at test next words) (λ xs. Ok (items ++ xs.0, xs.1))

pub loop_first : {T : Type 0} (test : List Word → Bool) (separator : Mark) (item : List Word → Result (T × List Word) ℕ) (words rest : List Word) (x : T) → item words ≡ Ok (x, rest) → so_far test (next_at separator item) (x ∷ []) rest ≡ list_while test separator item words
unfolding list_while bind pure
loop_first test separator item words rest x e = rw e refl

pub loop_first_fails : {T : Type 0} (test : List Word → Bool) (separator : Mark) (item : List Word → Result (T × List Word) ℕ) (words : List Word) (end : PhraseEnd) → Fails end (item words) → Fails end (list_while test separator item words)
unfolding list_while bind pure
loop_first_fails test separator item words (Fault n) e = rw e refl
loop_first_fails test separator item words NoMemory e = tt

regroup : {T : Type 0} (items : List T) (x : T) (r : Result (List T × List Word) ℕ) → onward (onward r (λ xs. read (x ∷ xs.0) xs.1)) (λ xs. read (items ++ xs.0) xs.1) ≡ onward r (λ xs. read ((items ++ x ∷ []) ++ xs.0) xs.1)
regroup items x (Ok xs) = ap (λ ys. read ys xs.1) (sym (append_assoc items (x ∷ []) xs.0))
regroup items x (Err n) = refl

module _ {T : Type 0} (test : List Word → Bool) (separator : Mark) (item : List Word → Result (T × List Word) ℕ) (stays : NoLonger item) (empty : test [] ≡ false) where
  pub loop_end : (items : List T) (words : List Word) → test words ≡ false → so_far test (next_at separator item) items words ≡ Ok (items, words)
  loop_end items words fails = rw (each_stops test (next_at separator item) (next_shrinks test separator item stays) empty words fails) (ap (λ ys. Ok (ys, words)) (append-nil items))

  pub loop_next : (items : List T) (words mid rest : List Word) (x : T) → test words ≡ true → mark_at separator words ≡ Ok (tt, mid) → item mid ≡ Ok (x, rest) → so_far test (next_at separator item) (items ++ x ∷ []) rest ≡ so_far test (next_at separator item) items words
  unfolding bind
  loop_next items words mid rest x holds mark e =
      let step : next_at separator item words ≡ Ok (x, rest) = rw (mark, e) refl in
      rw (each_goes test (next_at separator item) (next_shrinks test separator item stays) empty words rest x holds step) (sym (regroup items x (each_at test (next_at separator item) rest)))

  pub loop_fails : (items : List T) (words mid : List Word) (end : PhraseEnd) → test words ≡ true → mark_at separator words ≡ Ok (tt, mid) → Fails end (item mid) → Fails end (so_far test (next_at separator item) items words)
  unfolding bind
  loop_fails items words mid (Fault n) holds mark e =
      let step : next_at separator item words ≡ Err n = rw (mark, e) refl in
      rw (each_breaks test (next_at separator item) (next_shrinks test separator item stays) empty words n holds step) refl
  loop_fails items words mid NoMemory holds mark e = tt

  pub loop_shorter : (words mid rest : List Word) (x : T) → mark_at separator words ≡ Ok (tt, mid) → item mid ≡ Ok (x, rest) → length rest < length words
  loop_shorter words mid rest x mark e =
      let one : length mid < length words = word_takes _ words mid tt mark in
      let two : length rest ≤ length mid = stays mid rest x e in
      omega arith

  pub loop_stops : (items : List T) (words : List Word) (end : PhraseEnd) → test words ≡ true → Fails end (mark_at separator words) → Fails end (so_far test (next_at separator item) items words)
  unfolding bind
  loop_stops items words (Fault n) holds mark =
      let step : next_at separator item words ≡ Err n = rw mark refl in
      rw (each_breaks test (next_at separator item) (next_shrinks test separator item stays) empty words n holds step) refl
  loop_stops items words NoMemory holds mark = tt

-- items without separators
pub each_first : {T : Type 0} (test : List Word → Bool) (item : List Word → Result (T × List Word) ℕ) (words : List Word) → so_far test item [] words ≡ each_at test item words
each_first {T} test item words = go (each_at test item words)
  where
    go : (r : Result (List T × List Word) ℕ) → onward r (λ xs. read ([] ++ xs.0) xs.1) ≡ r
    go (Ok xs) = refl
    go (Err n) = refl

module _ {T : Type 0} (test : List Word → Bool) (item : List Word → Result (T × List Word) ℕ) (shrinks : Shrinks test item) (empty : test [] ≡ false) where
  pub each_end : (items : List T) (words : List Word) → test words ≡ false → so_far test item items words ≡ Ok (items, words)
  each_end items words fails = rw (each_stops test item shrinks empty words fails) (ap (λ ys. Ok (ys, words)) (append-nil items))

  pub each_next : (items : List T) (words rest : List Word) (x : T) → test words ≡ true → item words ≡ Ok (x, rest) → so_far test item (items ++ x ∷ []) rest ≡ so_far test item items words
  each_next items words rest x holds e = rw (each_goes test item shrinks empty words rest x holds e) (sym (regroup items x (each_at test item rest)))

  pub each_fails : (items : List T) (words : List Word) (end : PhraseEnd) → test words ≡ true → Fails end (item words) → Fails end (so_far test item items words)
  each_fails items words (Fault n) holds e = rw (each_breaks test item shrinks empty words n holds e) refl
  each_fails items words NoMemory holds e = tt
