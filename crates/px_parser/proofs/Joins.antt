-- Lists, and phrases between marks, are read.
use Rattle.std.proofs.Common.{◌≡◌, ℕ, Bool, true, false, List, [], ◌∷◌, ◌++◌, Result, refl, sym, ap, ◌∙◌, subst, append_assoc}
use Rattle.px_lexer.specs.declared.token.Mark.{Mark}
use Rattle.px_lexer.specs.declared.token.TokenKind.{TokenKind}
use Rattle.px_lexer.specs.declared.token.TokenKind.TheVariants as kinds
use Rattle.px_parser.specs.Words.{Word}
use Rattle.px_parser.specs.Kinds.{is_mark, fronts}
use Rattle.px_parser.specs.Phrases.{IsDone, IsSequence, Either, one, other, Each, IsWord, IsMark, mark, list, between}
use Rattle.px_parser.specs.Readers.{bind, each_at}
use Rattle.px_parser.specs.Reading.{mark_at, list_while, list_at, between_at}
use Rattle.px_parser.proofs.Right.{SameFirst, Right, right_done, right_bind}
use Rattle.px_parser.proofs.Repeats.{right_each}
use Rattle.px_parser.proofs.Tokens.{right_mark, is_mark-same}

-- nothing is asked of what comes after
abbrev pub Anything : List Word → Type 0
Anything rest = Unit {0}

-- what comes after does not begin with a token that passes the test
abbrev pub Avoids : (TokenKind → Bool) → List Word → Type 0
Avoids test rest = fronts test rest ≡ false

pub fronts_same : (test : TokenKind → Bool) (x y : List Word) → SameFirst x y → fronts test x ≡ fronts test y
fronts_same test [] [] same = refl
fronts_same test [] (b ∷ y) same = absurd same
fronts_same test (a ∷ x) [] same = absurd same
fronts_same test (a ∷ x) (b ∷ y) same = ap (λ (w : Word). test w.kind) same

-- a sequence that begins with a word
pub begins : {S T : Type 0} (Good : List Word → Type 0) {Is : Word → S → Type 0} {B : S → List Word → T → Type 0} → ((word : Word) (value : S) (rest : List Word) → Is word value → Good (word ∷ rest)) → (used rest : List Word) (t : T) → IsSequence (IsWord Is) B used t → Good (used ++ rest)
begins Good {Is} {B} good used rest t is =
    subst Good (sym (ap (λ u. u ++ rest) (is.whole ∙ ap (λ f. f ++ is.back) is.is_front.whole))) (good is.is_front.word is.first (is.back ++ rest) is.is_front.is)

-- a sequence that begins with a phrase
pub begins_with : {S T : Type 0} (Good : List Word → Type 0) {A : List Word → S → Type 0} {B : S → List Word → T → Type 0} → ((used rest : List Word) (value : S) → A used value → Good (used ++ rest)) → (used rest : List Word) (t : T) → IsSequence A B used t → Good (used ++ rest)
begins_with Good {A} {B} good used rest t is =
    subst Good (sym (ap (λ u. u ++ rest) is.whole ∙ append_assoc is.front is.back rest)) (good is.front (is.back ++ rest) is.first is.is_front)

-- a sequence that begins with a phrase or nothing
pub begins_optional : {S T : Type 0} (Good : List Word → Type 0) {absent : S} {A : List Word → S → Type 0} {B : S → List Word → T → Type 0} (used rest : List Word) (t : T) → ((used rest : List Word) (value : S) → A used value → Good (used ++ rest)) → ((a : S) (used : List Word) → B a used t → Good (used ++ rest)) → IsSequence (Either A (IsDone absent)) B used t → Good (used ++ rest)
begins_optional {S} {T} Good {absent} {A} {B} used rest t good goods is = go is.is_front
  where
    go : Either A (IsDone absent) is.front is.first → Good (used ++ rest)
    go (one a) = subst Good (sym (ap (λ u. u ++ rest) is.whole ∙ append_assoc is.front is.back rest)) (good is.front (is.back ++ rest) is.first a)
    go (other d) = subst Good (sym (ap (λ u. u ++ rest) (is.whole ∙ ap (λ f. f ++ is.back) d.none))) (goods is.first is.back is.is_back)

pub begins_mark : {T : Type 0} (Good : List Word → Type 0) {m : Mark} {B : Unit {0} → List Word → T → Type 0} → ((word : Word) (rest : List Word) → word.kind ≡ kinds.Mark m → Good (word ∷ rest)) → (used rest : List Word) (t : T) → IsSequence (IsWord (IsMark m)) B used t → Good (used ++ rest)
begins_mark Good good used rest t is = begins Good (λ word value rest is. good word rest is.kind) used rest t is

pub begins_between : {T : Type 0} (Good : List Word → Type 0) (opening : Mark) (A : List Word → T → Type 0) (closing : Mark) → ((word : Word) (rest : List Word) → word.kind ≡ kinds.Mark opening → Good (word ∷ rest)) → (used rest : List Word) (t : T) → between opening A closing used t → Good (used ++ rest)
unfolding between
begins_between Good opening A closing good used rest t is = begins_mark Good good used rest t is

pub begins_list : {T : Type 0} (Good : List Word → Type 0) (separator : Mark) (A : List Word → T → Type 0) → ((used rest : List Word) (value : T) → A used value → Good (used ++ rest)) → (used rest : List Word) (t : List T) → list separator A used t → Good (used ++ rest)
unfolding list
begins_list Good separator A good used rest t is = begins_with Good good used rest t is

module _ {T : Type 0} {Mid After : List Word → List Word → Type 0} {EndsItem Ends : List Word → Type 0} {A : List Word → T → Type 0} {item : List Word → Result (T × List Word) ℕ} (separator : Mark) (test : List Word → Bool)
    (right_separator : Right Mid SameFirst Anything (mark separator) (mark_at separator))
    (right : Right SameFirst Mid EndsItem A item)
    (empty : test [] ≡ false)
    (respects : (x y : List Word) → Mid x y → test x ≡ test y)
    (stopped : (x y : List Word) → After x y → test x ≡ false → Mid x y)
    (starts : (word : Word) (used rest : List Word) (value : T) → word.kind ≡ kinds.Mark separator → A used value → test (word ∷ (used ++ rest)) ≡ true)
    (goes_on : (word : Word) (used rest : List Word) (value : T) → word.kind ≡ kinds.Mark separator → A used value → EndsItem (word ∷ (used ++ rest)))
    (stops : (rest : List Word) → Ends rest → test rest ≡ false)
    (ends : (rest : List Word) → Ends rest → EndsItem rest) where
  abbrev next : List Word → T → Type 0
  next = IsSequence (mark separator) (λ nothing. A)

  next_whole : (Good : List Word → Type 0) → ((word : Word) (used rest : List Word) (value : T) → word.kind ≡ kinds.Mark separator → A used value → Good (word ∷ (used ++ rest))) → (used rest : List Word) (value : T) → next used value → Good (used ++ rest)
  next_whole Good good used rest value is =
      subst Good (sym (ap (λ u. u ++ rest) (is.whole ∙ ap (λ f. f ++ is.back) is.is_front.whole))) (good is.is_front.word is.back rest value is.is_front.is.kind is.is_back)

  right_next : Right Mid Mid EndsItem next (bind (mark_at separator) (λ nothing. item))
  right_next = right_bind right_separator (λ nothing. right) (λ a used rest t is end. tt)

  right_others : Right Mid After Ends (Each next) (each_at test (bind (mark_at separator) (λ nothing. item)))
  right_others = right_each test right_next empty respects stopped (next_whole (λ s. test s ≡ true) starts) (next_whole EndsItem goes_on) stops ends

  item_ends : (used rest : List Word) (xs : List T) → Each next used xs → Ends rest → EndsItem (used ++ rest)
  item_ends used rest xs Each.none end = ends rest end
  item_ends used rest xs (Each.more {words} {front} {back} {x} {xs = ys} is others whole) end = rw (whole, append_assoc front back rest) (next_whole EndsItem goes_on front (back ++ rest) x is)

  pub right_list_while : Right SameFirst After Ends (list separator A) (list_while test separator item)
  unfolding list list_while
  right_list_while = right_bind right (λ first. right_bind right_others (λ others. right_done (first ∷ others)) (λ others used rest t is end. rw is.none end))
      (λ first used rest t is end. rw (is.whole, is.is_back.none, append_assoc is.front [] rest) (item_ends is.front rest is.first is.is_front end))

-- what comes after a list
abbrev pub EndsList : Mark → (List Word → Type 0) → List Word → Type 0
EndsList separator EndsItem rest = Avoids (is_mark separator) rest × EndsItem rest

pub right_list : {T : Type 0} {EndsItem : List Word → Type 0} {A : List Word → T → Type 0} {item : List Word → Result (T × List Word) ℕ} (separator : Mark) → Right SameFirst SameFirst EndsItem A item → ((word : Word) (used rest : List Word) (value : T) → word.kind ≡ kinds.Mark separator → A used value → EndsItem (word ∷ (used ++ rest))) → Right SameFirst SameFirst (EndsList separator EndsItem) (list separator A) (list_at separator item)
right_list separator right goes_on = right_list_while separator (fronts (is_mark separator)) (right_mark separator) right refl (fronts_same (is_mark separator)) (λ x y same fails. same)
    (λ word used rest value is a. rw is (is_mark-same separator)) goes_on (λ rest end. end.0) (λ rest end. end.1)

pub right_between : {T : Type 0} {After : List Word → List Word → Type 0} {EndsA Ends : List Word → Type 0} {A : List Word → T → Type 0} {p : List Word → Result (T × List Word) ℕ} (opening closing : Mark) → Right SameFirst SameFirst EndsA A p → ((word : Word) (rest : List Word) → word.kind ≡ kinds.Mark closing → EndsA (word ∷ rest)) → Right SameFirst After Ends (between opening A closing) (between_at opening p closing)
unfolding between between_at
right_between {T} {After} {EndsA} {Ends} {A} {p} opening closing right closes =
    right_bind {EndsA = Anything} (right_mark opening) (λ nothing. right_bind right (λ value. right_bind {EndsA = Anything} (right_mark closing) (λ nothing. right_done value) (λ a used rest t is end. tt)) (λ a used rest t is end. begins_mark EndsA closes used rest t is)) (λ a used rest t is end. tt)
