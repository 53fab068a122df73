-- A reader reads its phrase: what that means, and that it stays so where readers are joined.
use Rattle.std.proofs.Common.{◌≡◌, ℕ, ◌⊎◌, Bool, true, false, cond, not, List, [], ◌∷◌, ◌++◌, length, Option, Some, None, Result, Ok, Err, refl, sym, ap, ◌∙◌, subst, inl, inr, append_assoc}
use Rattle.px_lexer.specs.declared.token.Mark.TheVariants as mark
use Rattle.px_lexer.specs.declared.token.TokenKind.TheVariants as kinds
use Rattle.px_parser.specs.Words.{Word}
use Rattle.px_parser.specs.Phrases.{IsDone, IsSequence, Either, one, other, IsWord}
use Rattle.px_parser.specs.Readers.{onward, pure, fail, bind, choice, found, word_at}

-- both are empty, or begin with one word
abbrev pub SameFirst : List Word → List Word → Type 0
SameFirst [] [] = Unit {0}
SameFirst [] (y ∷ ys) = ⊥
SameFirst (x ∷ xs) [] = ⊥
SameFirst (x ∷ xs) (y ∷ ys) = x ≡ y

-- both are empty, or begin with one word, and after a comma they go on so
abbrev pub SameTwo : List Word → List Word → Type 0
SameTwo [] [] = Unit {0}
SameTwo [] (y ∷ ys) = ⊥
SameTwo (x ∷ xs) [] = ⊥
SameTwo (x ∷ xs) (y ∷ ys) = (x ≡ y) × (x.kind ≡ kinds.Mark mark.Comma → SameFirst xs ys)

-- some words and their value
pub record Example {T : Type 0} (A : List Word → T → Type 0) : Type 0 where
  pub words : List Word
  pub value : T
  pub is : A words value

-- The value was read off the front, and would be read off it whatever follows that is the same as far as is looked.
pub record Taken {T : Type 0} (Before After : List Word → List Word → Type 0) (A : List Word → T → Type 0) (p : List Word → Result (T × List Word) ℕ) (s rest : List Word) (value : T) : Type 0 where
  pub used : List Word
  pub is : A used value
  pub whole : s ≡ used ++ rest
  pub keeps : (next : List Word) → After rest next → p (used ++ next) ≡ Ok (value, next)
  pub before : (next : List Word) → After rest next → Before (used ++ rest) (used ++ next)

-- The words up to the one that fits nothing begin the phrase; and where that word stands there, nothing is read.
pub record Broken {T : Type 0} (Before : List Word → List Word → Type 0) (A : List Word → T → Type 0) (p : List Word → Result (T × List Word) ℕ) (s : List Word) (left : ℕ) : Type 0 where
  pub front : List Word
  pub bad : List Word
  pub whole : s ≡ front ++ bad
  pub left_is : left ≡ length bad
  pub more : List Word
  pub value : T
  pub viable : A (front ++ more) value
  pub keeps : (next : List Word) → SameFirst bad next → p (front ++ next) ≡ Err (length next)
  pub before : (next : List Word) → SameFirst bad next → Before (front ++ bad) (front ++ next)

-- The reader reads the phrase, where what comes after it meets `Ends`. `After` says how far it looks behind the phrase,
-- and `Before` how far whoever stands before it may look.
pub record Right {T : Type 0} (Before After : List Word → List Word → Type 0) (Ends : List Word → Type 0) (A : List Word → T → Type 0) (p : List Word → Result (T × List Word) ℕ) : Type 0 where
  pub sound : (s rest : List Word) (value : T) → p s ≡ Ok (value, rest) → Taken Before After A p s rest value
  pub complete : (used rest : List Word) (value : T) → A used value → Ends rest → p (used ++ rest) ≡ Ok (value, rest)
  pub fault : (s : List Word) (left : ℕ) → p s ≡ Err left → Broken Before A p s left
  pub example : Example A

-- a chain of results that ends well
pub record Both {A B : Type 0} (r : Result A ℕ) (f : A → Result B ℕ) (end : Result B ℕ) : Type 0 where
  pub value : A
  pub first : r ≡ Ok value
  pub second : f value ≡ end

pub onward_ok : {A B : Type 0} (r : Result A ℕ) (f : A → Result B ℕ) (y : B) → onward r f ≡ Ok y → Both r f (Ok y)
onward_ok (Ok x) f y e = record { value = x; first = refl; second = e }
onward_ok (Err n) f y e = absurd cc

pub onward_err : {A B : Type 0} (r : Result A ℕ) (f : A → Result B ℕ) (n : ℕ) → onward r f ≡ Err n → (r ≡ Err n) ⊎ Both r f (Err n)
onward_err (Ok x) f n e = inr (record { value = x; first = refl; second = e })
onward_err (Err m) f n e = let q : m ≡ n = cc in inl (ap (λ i. Err i) q)

-- what one result is twice
pub record Equal {A : Type 0} (a b : A) (r s : List Word) : Type 0 where
  pub value : a ≡ b
  pub rest : r ≡ s

-- a value and the words after it
abbrev pub read : {A : Type 0} → A → List Word → Result (A × List Word) ℕ
read value rest = Ok (value, rest)

abbrev pub no_read : (A : Type 0) → ℕ → Result (A × List Word) ℕ
no_read A left = Err left

pub same_left : (A : Type 0) (m n : ℕ) → no_read A m ≡ no_read A n → m ≡ n
same_left A m n e = cc

pub one_result : {A : Type 0} (a b : A) (r s : List Word) → read a r ≡ read b s → Equal a b r s
one_result {A} a b r s e = let q : (a, r) ≡ (b, s) = cc in record { value = ap (λ (z : A × List Word). z.0) q; rest = ap (λ (z : A × List Word). z.1) q }

pub taken_same : {T : Type 0} {Before After : List Word → List Word → Type 0} {A : List Word → T → Type 0} {p : List Word → Result (T × List Word) ℕ} (s r t : List Word) (x y : T) → Equal x y r t → Taken Before After A p s r x → Taken Before After A p s t y
taken_same {T} {Before} {After} {A} {p} s r t x y same taken = subst (λ z. Taken Before After A p s t z) same.value (subst (λ q. Taken Before After A p s q x) same.rest taken)

pub right_done : {T : Type 0} {Same : List Word → List Word → Type 0} {Ends : List Word → Type 0} (value : T) → Right Same Same Ends (IsDone value) (pure value)
unfolding pure
right_done {T} {Same} {Ends} value = record {
  sound = λ s rest t e.
      let q : Equal value t s rest = one_result value t s rest e in
      record {
        used = [];
        is = record { none = refl; same = sym q.value };
        whole = q.rest;
        keeps = λ next h. rw q.value refl;
        before = λ next h. h;
      };
  complete = λ used rest t is ends. rw is.none (rw is.same refl);
  fault = λ s left e. absurd (cc);
  example = record { words = []; value = value; is = record { none = refl; same = refl } };
}

bind_taken : {S T : Type 0} {Before Mid After : List Word → List Word → Type 0} {A : List Word → S → Type 0} {B : S → List Word → T → Type 0} {p : List Word → Result (S × List Word) ℕ} (k : S → List Word → Result (T × List Word) ℕ) (s rest : List Word) (a : S) (mid : List Word) (t : T) → Taken Before Mid A p s mid a → Taken Mid After (B a) (k a) mid rest t → Taken Before After (IsSequence A B) (bind p k) s rest t
unfolding bind
bind_taken {S} {T} {Before} {Mid} {After} {A} {B} {p} k s rest a mid t first second =
    let same : (next : List Word) → After rest next → Mid mid (second.used ++ next) = λ next h. subst (λ m. Mid m (second.used ++ next)) (sym second.whole) (second.before next h) in
    record {
      used = first.used ++ second.used;
      is = record { first = a; front = first.used; back = second.used; is_front = first.is; is_back = second.is; whole = refl };
      whole = first.whole ∙ ap (λ m. first.used ++ m) second.whole ∙ sym (append_assoc first.used second.used rest);
      keeps = λ next h. rw (append_assoc first.used second.used next, first.keeps (second.used ++ next) (same next h)) (second.keeps next h);
      before = λ next h. rw (append_assoc first.used second.used next, append_assoc first.used second.used rest, ← second.whole) (first.before (second.used ++ next) (same next h));
    }

bind_early : {S T : Type 0} {Before : List Word → List Word → Type 0} {A : List Word → S → Type 0} {B : S → List Word → T → Type 0} {p : List Word → Result (S × List Word) ℕ} (k : S → List Word → Result (T × List Word) ℕ) (s : List Word) (left : ℕ) → ((a : S) → Example (B a)) → Broken Before A p s left → Broken Before (IsSequence A B) (bind p k) s left
unfolding bind
bind_early {S} {T} {Before} {A} {B} {p} k s left some first =
    let next : Example (B first.value) = some first.value in
    record {
      front = first.front;
      bad = first.bad;
      whole = first.whole;
      left_is = first.left_is;
      more = first.more ++ next.words;
      value = next.value;
      viable = record { first = first.value; front = first.front ++ first.more; back = next.words; is_front = first.viable; is_back = next.is; whole = sym (append_assoc first.front first.more next.words) };
      keeps = λ other h. rw (first.keeps other h) refl;
      before = first.before;
    }

bind_late : {S T : Type 0} {Before Mid : List Word → List Word → Type 0} {A : List Word → S → Type 0} {B : S → List Word → T → Type 0} {p : List Word → Result (S × List Word) ℕ} (k : S → List Word → Result (T × List Word) ℕ) (s : List Word) (left : ℕ) (a : S) (mid : List Word) → Taken Before Mid A p s mid a → Broken Mid (B a) (k a) mid left → Broken Before (IsSequence A B) (bind p k) s left
unfolding bind
bind_late {S} {T} {Before} {Mid} {A} {B} {p} k s left a mid first second =
    let same : (next : List Word) → SameFirst second.bad next → Mid mid (second.front ++ next) = λ next h. subst (λ m. Mid m (second.front ++ next)) (sym second.whole) (second.before next h) in
    record {
      front = first.used ++ second.front;
      bad = second.bad;
      whole = first.whole ∙ ap (λ m. first.used ++ m) second.whole ∙ sym (append_assoc first.used second.front second.bad);
      left_is = second.left_is;
      more = second.more;
      value = second.value;
      viable = record { first = a; front = first.used; back = second.front ++ second.more; is_front = first.is; is_back = second.viable; whole = append_assoc first.used second.front second.more };
      keeps = λ next h. rw (append_assoc first.used second.front next, first.keeps (second.front ++ next) (same next h)) (second.keeps next h);
      before = λ next h. rw (append_assoc first.used second.front next, append_assoc first.used second.front second.bad, ← second.whole) (first.before (second.front ++ next) (same next h));
    }

pub right_bind : {S T : Type 0} {Before Mid After : List Word → List Word → Type 0} {EndsA Ends : List Word → Type 0} {A : List Word → S → Type 0} {B : S → List Word → T → Type 0} {p : List Word → Result (S × List Word) ℕ} {k : S → List Word → Result (T × List Word) ℕ} → Right Before Mid EndsA A p → ((a : S) → Right Mid After Ends (B a) (k a)) → ((a : S) (used rest : List Word) (t : T) → B a used t → Ends rest → EndsA (used ++ rest)) → Right Before After Ends (IsSequence A B) (bind p k)
unfolding bind
right_bind {S} {T} {Before} {Mid} {After} {EndsA} {Ends} {A} {B} {p} {k} first second follows = record {
  sound = λ s rest t e.
      let both = onward_ok (p s) (λ x. k x.0 x.1) (t, rest) e in
      bind_taken k s rest both.value.0 both.value.1 t (first.sound s both.value.1 both.value.0 both.first) ((second both.value.0).sound both.value.1 rest t both.second);
  complete = λ used rest t is ends.
      let from_first : p (is.front ++ (is.back ++ rest)) ≡ Ok (is.first, is.back ++ rest) = first.complete is.front (is.back ++ rest) is.first is.is_front (follows is.first is.back rest t is.is_back ends) in
      rw (is.whole, append_assoc is.front is.back rest, from_first) ((second is.first).complete is.back rest t is.is_back ends);
  fault = λ s left e.
      elim (onward_err (p s) (λ x. k x.0 x.1) left e) [
        | inl early ↦ bind_early k s left (λ a. (second a).example) (first.fault s left early)
        | inr both ↦ bind_late k s left both.value.0 both.value.1 (first.sound s both.value.1 both.value.0 both.first) ((second both.value.0).fault both.value.1 left both.second)
      ];
  example =
      let next : Example (B first.example.value) = (second first.example.value).example in
      record { words = first.example.words ++ next.words; value = next.value; is = record { first = first.example.value; front = first.example.words; back = next.words; is_front = first.example.is; is_back = next.is; whole = refl } };
}

pub right_ends : {T : Type 0} {Before After : List Word → List Word → Type 0} {Ends Stronger : List Word → Type 0} {A : List Word → T → Type 0} {p : List Word → Result (T × List Word) ℕ} → ((rest : List Word) → Stronger rest → Ends rest) → Right Before After Ends A p → Right Before After Stronger A p
right_ends weaker right = record {
  sound = right.sound;
  complete = λ used rest value is ends. right.complete used rest value is (weaker rest ends);
  fault = right.fault;
  example = right.example;
}

-- a word with its value
pub record Spelled {T : Type 0} (Is : Word → T → Type 0) : Type 0 where
  pub word : Word
  pub value : T
  pub is : Is word value

-- the function finds exactly what is said of a word
pub record Finds {T : Type 0} (Is : Word → T → Type 0) (value_of : Word → Option T) : Type 0 where
  pub is : (word : Word) (value : T) → value_of word ≡ Some value → Is word value
  pub finds : (word : Word) (value : T) → Is word value → value_of word ≡ Some value
  pub spelled : Spelled Is

pub record Opened {T : Type 0} (o : Option T) (value : T) (rest r : List Word) : Type 0 where
  pub some : o ≡ Some value
  pub same : rest ≡ r

found_ok : {T : Type 0} (o : Option T) (rest : List Word) (left : ℕ) (value : T) (r : List Word) → found o rest left ≡ Ok (value, r) → Opened o value rest r
found_ok (Some x) rest left value r e = let q : Equal x value rest r = one_result x value rest r e in record { some = ap (λ v. Some v) q.value; same = q.rest }
found_ok None rest left value r e = absurd cc

found_err : {T : Type 0} (o : Option T) (rest : List Word) (left n : ℕ) → found o rest left ≡ Err n → (o ≡ None) × (left ≡ n)
found_err (Some x) rest left n e = absurd cc
found_err None rest left n e = (refl, cc)

module _ {T : Type 0} (Before After : List Word → List Word → Type 0) (Is : Word → T → Type 0) (value_of : Word → Option T) (finds : Finds Is value_of)
    (ahead : (word : Word) (value : T) (x y : List Word) → Is word value → After x y → Before (word ∷ x) (word ∷ y))
    (apart : (x y : List Word) → SameFirst x y → ((word : Word) (rest : List Word) → x ≡ word ∷ rest → value_of word ≡ None) → Before x y) where
  word_sound : (s rest : List Word) (value : T) → word_at value_of s ≡ Ok (value, rest) → Taken Before After (IsWord Is) (word_at value_of) s rest value
  unfolding word_at
  word_sound [] rest value e = absurd cc
  word_sound (word ∷ ws) rest value e =
      let q : Opened (value_of word) value ws rest = found_ok (value_of word) ws (length (word ∷ ws)) value rest e in
      let is : Is word value = finds.is word value q.some in
      record {
        used = word ∷ [];
        is = record { word = word; is = is; whole = refl };
        whole = ap (λ r. word ∷ r) q.same;
        keeps = λ next h. rw q.some refl;
        before = λ next h. ahead word value rest next is h;
      }

  word_complete : (used rest : List Word) (value : T) → IsWord Is used value → word_at value_of (used ++ rest) ≡ Ok (value, rest)
  unfolding word_at
  word_complete used rest value is = rw (is.whole, finds.finds is.word value is.is) refl

  word_keeps : (x y : List Word) → SameFirst x y → ((word : Word) (rest : List Word) → x ≡ word ∷ rest → value_of word ≡ None) → word_at value_of y ≡ Err (length y)
  unfolding word_at
  word_keeps [] [] same none_is = refl
  word_keeps [] (b ∷ y) same none_is = absurd same
  word_keeps (a ∷ x) [] same none_is = absurd same
  word_keeps (a ∷ x) (b ∷ y) same none_is = rw (← same, none_is a x refl) refl

  word_broken : (s : List Word) (left : ℕ) → left ≡ length s → ((word : Word) (rest : List Word) → s ≡ word ∷ rest → value_of word ≡ None) → Broken Before (IsWord Is) (word_at value_of) s left
  word_broken s left e none_is = record {
    front = [];
    bad = s;
    whole = refl;
    left_is = e;
    more = finds.spelled.word ∷ [];
    value = finds.spelled.value;
    viable = record { word = finds.spelled.word; is = finds.spelled.is; whole = refl };
    keeps = λ next h. word_keeps s next h none_is;
    before = λ next h. apart s next h none_is;
  }

  same_word : {a b : Word} {xs ys : List Word} → a ∷ xs ≡ b ∷ ys → a ≡ b
  same_word e = cc

  word_fault : (s : List Word) (left : ℕ) → word_at value_of s ≡ Err left → Broken Before (IsWord Is) (word_at value_of) s left
  unfolding word_at
  word_fault [] left e = let q : 0 ≡ left = cc in word_broken [] left (sym q) (λ word rest h. absurd cc)
  word_fault (a ∷ ws) left e =
      let q = found_err (value_of a) ws (length (a ∷ ws)) left e in
      word_broken (a ∷ ws) left (sym q.1) (λ word rest h. subst (λ w. value_of w ≡ None) (same_word h) q.0)

  pub right_word_by : {Ends : List Word → Type 0} → Right Before After Ends (IsWord Is) (word_at value_of)
  right_word_by = record {
    sound = word_sound;
    complete = λ used rest value is ends. word_complete used rest value is;
    fault = word_fault;
    example = record { words = finds.spelled.word ∷ []; value = finds.spelled.value; is = record { word = finds.spelled.word; is = finds.spelled.is; whole = refl } };
  }

pub right_word : {T : Type 0} {After : List Word → List Word → Type 0} {Ends : List Word → Type 0} {Is : Word → T → Type 0} {value_of : Word → Option T} → Finds Is value_of → Right SameFirst After Ends (IsWord Is) (word_at value_of)
right_word {T} {After} {Ends} {Is} {value_of} finds = right_word_by SameFirst After Is value_of finds (λ word value x y is h. refl) (λ x y same none_is. same)

-- a test is true or false
pub decided : (b : Bool) → (b ≡ true) ⊎ (b ≡ false)
decided true = inl refl
decided false = inr refl

module _ {T : Type 0} {Before After : List Word → List Word → Type 0} {Ends : List Word → Type 0} {A B : List Word → T → Type 0} {p q : List Word → Result (T × List Word) ℕ} (test : List Word → Bool) (respects : (x y : List Word) → Before x y → test x ≡ test y) (first : Right Before After Ends A p) (second : Right Before After Ends B q) where
  choice_sound : (s rest : List Word) (value : T) → choice test p q s ≡ Ok (value, rest) → Taken Before After (Either A B) (choice test p q) s rest value
  unfolding choice
  choice_sound s rest value e =
      elim (decided (test s)) [
        | inl holds ↦
            let t : Taken Before After A p s rest value = first.sound s rest value (rw holds at e) in
            record { used = t.used; is = Either.one t.is; whole = t.whole; before = t.before; keeps = λ next h. rw (← respects (t.used ++ rest) (t.used ++ next) (t.before next h), ← t.whole, holds) (t.keeps next h) }
        | inr fails ↦
            let t : Taken Before After B q s rest value = second.sound s rest value (rw fails at e) in
            record { used = t.used; is = Either.other t.is; whole = t.whole; before = t.before; keeps = λ next h. rw (← respects (t.used ++ rest) (t.used ++ next) (t.before next h), ← t.whole, fails) (t.keeps next h) }
      ]

  choice_fault : (s : List Word) (left : ℕ) → choice test p q s ≡ Err left → Broken Before (Either A B) (choice test p q) s left
  unfolding choice
  choice_fault s left e =
      elim (decided (test s)) [
        | inl holds ↦
            let t : Broken Before A p s left = first.fault s left (rw holds at e) in
            record { front = t.front; bad = t.bad; whole = t.whole; left_is = t.left_is; more = t.more; value = t.value; viable = Either.one t.viable; before = t.before; keeps = λ next h. rw (← respects (t.front ++ t.bad) (t.front ++ next) (t.before next h), ← t.whole, holds) (t.keeps next h) }
        | inr fails ↦
            let t : Broken Before B q s left = second.fault s left (rw fails at e) in
            record { front = t.front; bad = t.bad; whole = t.whole; left_is = t.left_is; more = t.more; value = t.value; viable = Either.other t.viable; before = t.before; keeps = λ next h. rw (← respects (t.front ++ t.bad) (t.front ++ next) (t.before next h), ← t.whole, fails) (t.keeps next h) }
      ]

  pub right_choice : ((used rest : List Word) (value : T) → A used value → Ends rest → test (used ++ rest) ≡ true) → ((used rest : List Word) (value : T) → B used value → Ends rest → test (used ++ rest) ≡ false) → Right Before After Ends (Either A B) (choice test p q)
  unfolding choice
  right_choice picks leaves = record {
    sound = choice_sound;
    complete = λ used rest value is ends. elim is [
      | one a ↦ rw (picks used rest value a ends) (first.complete used rest value a ends)
      | other b ↦ rw (leaves used rest value b ends) (second.complete used rest value b ends)
    ];
    fault = choice_fault;
    example = record { words = first.example.words; value = first.example.value; is = Either.one first.example.is };
  }

-- a choice whose one phrase has no words at all here
module _ {T : Type 0} {After : List Word → List Word → Type 0} {Ends : List Word → Type 0} {A B : List Word → T → Type 0} {q : List Word → Result (T × List Word) ℕ} (test : List Word → Bool) (respects : (x y : List Word) → SameFirst x y → test x ≡ test y) (nothing : (words : List Word) (value : T) → A words value → ⊥) (second : Right SameFirst After Ends B q) where
  either_fault : (s : List Word) (left : ℕ) → choice test fail q s ≡ Err left → Broken SameFirst (Either A B) (choice test fail q) s left
  unfolding choice fail
  either_fault s left e =
      elim (decided (test s)) [
        | inl holds ↦
            let h : choice test fail q s ≡ no_read T (length s) = rw holds refl in
            let n : length s ≡ left = same_left T (length s) left (sym h ∙ e) in
            record { front = []; bad = s; whole = refl; left_is = sym n; more = second.example.words; value = second.example.value; viable = Either.other second.example.is; before = λ next h. h; keeps = λ next h. rw (← respects s next h, holds) refl }
        | inr fails ↦
            let t : Broken SameFirst B q s left = second.fault s left (rw fails at e) in
            record { front = t.front; bad = t.bad; whole = t.whole; left_is = t.left_is; more = t.more; value = t.value; viable = Either.other t.viable; before = t.before; keeps = λ next h. rw (← respects (t.front ++ t.bad) (t.front ++ next) (t.before next h), ← t.whole, fails) (t.keeps next h) }
      ]

  either_sound : (s rest : List Word) (value : T) → choice test fail q s ≡ Ok (value, rest) → Taken SameFirst After (Either A B) (choice test fail q) s rest value
  unfolding choice fail
  either_sound s rest value e =
      elim (decided (test s)) [
        | inl holds ↦ absurd (let h : choice test fail q s ≡ Err (length s) = rw holds refl in cc)
        | inr fails ↦
            let t : Taken SameFirst After B q s rest value = second.sound s rest value (rw fails at e) in
            record { used = t.used; is = Either.other t.is; whole = t.whole; before = t.before; keeps = λ next h. rw (← respects (t.used ++ rest) (t.used ++ next) (t.before next h), ← t.whole, fails) (t.keeps next h) }
      ]

  pub right_other : ((used rest : List Word) (value : T) → B used value → Ends rest → test (used ++ rest) ≡ false) → Right SameFirst After Ends (Either A B) (choice test fail q)
  unfolding choice fail
  right_other leaves = record {
    sound = either_sound;
    complete = λ used rest value is end. elim is [
      | one a ↦ absurd (nothing used value a)
      | other b ↦ rw (leaves used rest value b end) (second.complete used rest value b end)
    ];
    fault = either_fault;
    example = record { words = second.example.words; value = second.example.value; is = Either.other second.example.is };
  }

-- the same phrase said otherwise
pub right_iff : {T : Type 0} {Before After : List Word → List Word → Type 0} {Ends : List Word → Type 0} {A B : List Word → T → Type 0} {p : List Word → Result (T × List Word) ℕ} → ((words : List Word) (value : T) → A words value → B words value) → ((words : List Word) (value : T) → B words value → A words value) → Right Before After Ends A p → Right Before After Ends B p
right_iff to back right = record {
  sound = λ s rest value e.
      let t = right.sound s rest value e in
      record { used = t.used; is = to t.used value t.is; whole = t.whole; keeps = t.keeps; before = t.before };
  complete = λ used rest value is ends. right.complete used rest value (back used value is) ends;
  fault = λ s left e.
      let t = right.fault s left e in
      record { front = t.front; bad = t.bad; whole = t.whole; left_is = t.left_is; more = t.more; value = t.value; viable = to (t.front ++ t.more) t.value t.viable; keeps = t.keeps; before = t.before };
  example = record { words = right.example.words; value = right.example.value; is = to right.example.words right.example.value right.example.is };
}

-- a reader that finds the same
pub right_same : {T : Type 0} {Before After : List Word → List Word → Type 0} {Ends : List Word → Type 0} {A : List Word → T → Type 0} {p q : List Word → Result (T × List Word) ℕ} → ((s : List Word) → p s ≡ q s) → Right Before After Ends A p → Right Before After Ends A q
right_same same right = record {
  sound = λ s rest value e.
      let t = right.sound s rest value (same s ∙ e) in
      record { used = t.used; is = t.is; whole = t.whole; keeps = λ next h. sym (same (t.used ++ next)) ∙ t.keeps next h; before = t.before };
  complete = λ used rest value is ends. sym (same (used ++ rest)) ∙ right.complete used rest value is ends;
  fault = λ s left e.
      let t = right.fault s left (same s ∙ e) in
      record { front = t.front; bad = t.bad; whole = t.whole; left_is = t.left_is; more = t.more; value = t.value; viable = t.viable; keeps = λ next h. sym (same (t.front ++ next)) ∙ t.keeps next h; before = t.before };
  example = right.example;
}

pub either_swap : {T : Type 0} (A B : List Word → T → Type 0) (words : List Word) (value : T) → Either A B words value → Either B A words value
either_swap A B words value (one a) = Either.other a
either_swap A B words value (other b) = Either.one b

cond_flip : {A : Type 0} (b : Bool) (x y : A) → cond (not b) x y ≡ cond b y x
cond_flip true x y = refl
cond_flip false x y = refl

pub choice_flip : {T : Type 0} (test : List Word → Bool) (p q : List Word → Result (T × List Word) ℕ) (s : List Word) → choice (λ x. not (test x)) p q s ≡ choice test q p s
unfolding choice
choice_flip test p q s = cond_flip (test s) (p s) (q s)

-- the other choice stands first in the reader
pub right_flip : {T : Type 0} {Before After : List Word → List Word → Type 0} {Ends : List Word → Type 0} {A B : List Word → T → Type 0} (p q : List Word → Result (T × List Word) ℕ) (test : List Word → Bool) → Right Before After Ends (Either A B) (choice (λ x. not (test x)) p q) → Right Before After Ends (Either A B) (choice test q p)
right_flip p q test right = right_same (choice_flip test p q) right

-- whoever stands before looks less far
pub right_before : {T : Type 0} {Before Weaker After : List Word → List Word → Type 0} {Ends : List Word → Type 0} {A : List Word → T → Type 0} {p : List Word → Result (T × List Word) ℕ} → ((x y : List Word) → Before x y → Weaker x y) → Right Before After Ends A p → Right Weaker After Ends A p
right_before weaker right = record {
  sound = λ s rest value e.
      let t = right.sound s rest value e in
      record { used = t.used; is = t.is; whole = t.whole; keeps = t.keeps; before = λ next h. weaker (t.used ++ rest) (t.used ++ next) (t.before next h) };
  complete = right.complete;
  fault = λ s left e.
      let t = right.fault s left e in
      record { front = t.front; bad = t.bad; whole = t.whole; left_is = t.left_is; more = t.more; value = t.value; viable = t.viable; keeps = t.keeps; before = λ next h. weaker (t.front ++ t.bad) (t.front ++ next) (t.before next h) };
  example = right.example;
}

pub two_first : (x y : List Word) → SameTwo x y → SameFirst x y
two_first [] [] same = tt
two_first [] (b ∷ y) same = absurd same
two_first (a ∷ x) [] same = absurd same
two_first (a ∷ x) (b ∷ y) same = same.0
