-- From the reader of declarations to programs and faults.
use Rattle.std.proofs.Common.{◌≡◌, ℕ, suc, ◌+◌, ◌-◌, ◌≤◌, length, List, [], ◌∷◌, ◌++◌, take, drop, Ok, Err, refl, sym, ap, ◌∙◌, subst, append_assoc, length-append, inl, inr, arith}
use Rattle.std.proofs.Math.Seq.{take-append_seam, take-append-add}
use Rattle.std.proofs.lemmas.List.{append-nil, take-append-drop, take-append-le, length-take-le}
use Rattle.std.proofs.lemmas.Bool.{cases_order}
use Rattle.px_parser.specs.Words.{Word}
use Rattle.px_parser.specs.Phrases.{Each}
use Rattle.px_parser.specs.Grammar.{program, item}
use Rattle.px_parser.specs.Faults.{Begins, IsFaultAt, word, end}
use Rattle.px_parser.specs.Reading.{items_at}
use Rattle.px_parser.specs.declared.surface.Item.{Item}
use Rattle.px_parser.specs.declared.surface.Surface.{Surface}
use Rattle.px_parser.proofs.Right.{SameFirst, Taken, Broken, one_result, read, no_read}
use Rattle.px_parser.proofs.DeclarationsRight.{right_items}

-- the program of these declarations
program_of : (words : List Word) (all : List Item) → Each item words all → program words (record { items = all })
unfolding program
program_of words all is = record { first = all; front = words; back = []; is_front = is; is_back = record { none = refl; same = refl }; whole = sym (append-nil words) }

pub program_read : (words : List Word) (all : List Item) → items_at words ≡ Ok (all, []) → program words (record { items = all })
program_read words all e =
    let t : Taken SameFirst SameFirst (Each item) items_at words [] all = right_items.sound words [] all e in
    subst (λ w. program w (record { items = all })) (sym (t.whole ∙ append-nil t.used)) (program_of t.used all t.is)

pub read_program : (words : List Word) (tree : Surface) → program words tree → items_at words ≡ Ok (tree.items, [])
unfolding program
read_program words tree is =
    let all : Each item words is.first = subst (λ w. Each item w is.first) (sym (is.whole ∙ ap (λ b. is.front ++ b) is.is_back.none ∙ append-nil is.front)) is.is_front in
    let done : items_at words ≡ Ok (is.first, []) = ap items_at (sym (append-nil words)) ∙ right_items.complete words [] is.first all refl in
    done ∙ ap (λ (t : Surface). read t.items []) (sym is.is_back.same)

pub one_program : (words : List Word) (tree other : Surface) → program words tree → program words other → tree ≡ other
one_program words tree other first second =
    let e : read tree.items [] ≡ read other.items [] = sym (read_program words tree first) ∙ read_program words other second in
    ap (λ all. record { items = all }) (one_result tree.items other.items [] [] e).value

-- what begins a program begins one
pub begins_front : (front rest : List Word) → Begins (front ++ rest) → Begins front
begins_front front rest begins = record { more = rest ++ begins.more; tree = begins.tree; is = subst (λ w. program w begins.tree) (append_assoc front rest begins.more) begins.is }

begins_prefix : (n : ℕ) (words : List Word) → Begins words → Begins (take n words)
begins_prefix n words begins = begins_front (take n words) (drop n words) (subst Begins (sym (take-append-drop n words)) begins)

begins_take : (n m : ℕ) (words : List Word) → n ≤ m → m ≤ length words → Begins (take m words) → Begins (take n words)
begins_take n m words less within begins =
    let size : length (take m words) ≡ m = length-take-le m words within in
    let same : take n words ≡ take n (take m words) = ap (λ w. take n w) (sym (take-append-drop m words)) ∙ take-append-le n (take m words) (drop m words) (omega arith) in
    subst Begins (sym same) (begins_prefix n (take m words) begins)

begins_all : (words : List Word) (tree : Surface) → program words tree → Begins words
begins_all words tree is = record { more = []; tree = tree; is = subst (λ w. program w tree) (sym (append-nil words)) is }

never : (words : List Word) (tree : Surface) (n : ℕ) → program words tree → items_at words ≡ Err n → ⊥
never words tree n is e = let q : read tree.items [] ≡ no_read (List Item) n = sym (read_program words tree is) ∙ e in absurd (cc)

fault_from : (words front bad more : List Word) (value : List Item) (n : ℕ) → n ≡ length words - length bad → words ≡ front ++ bad → Each item (front ++ more) value → ((next : List Word) → SameFirst bad next → items_at (front ++ next) ≡ Err (length next)) → IsFaultAt words n
fault_from words front [] more value n number whole viable keeps =
    let same : words ≡ front = whole ∙ append-nil front in
    IsFaultAt.end (number ∙ (omega arith))
    (record { more = more; tree = record { items = value }; is = subst (λ w. program (w ++ more) (record { items = value })) (sym same) (program_of (front ++ more) value viable) })
    (λ tree is. never words tree 0 is (ap items_at whole ∙ keeps [] tt))
fault_from words front (b ∷ bs) more value n number whole viable keeps =
    let size : length words ≡ length front + suc (length bs) = ap length whole ∙ length-append front (b ∷ bs) in
    let at : n ≡ length front = omega arith in
    let before : take n words ≡ front = rw (at, whole) (take-append_seam front (b ∷ bs)) in
    let through : take (n + 1) words ≡ front ++ b ∷ [] = rw (at, whole) (take-append-add front (b ∷ bs) 1) in
    IsFaultAt.word (omega arith)
    (record { more = more; tree = record { items = value }; is = subst (λ w. program (w ++ more) (record { items = value })) (sym before) (program_of (front ++ more) value viable) })
    (λ begins.
    let is : program (front ++ b ∷ begins.more) begins.tree = subst (λ w. program w begins.tree) (ap (λ w. w ++ begins.more) through ∙ append_assoc front (b ∷ []) begins.more) begins.is in
    never (front ++ b ∷ begins.more) begins.tree (length (b ∷ begins.more)) is (keeps (b ∷ begins.more) refl))

-- the fault that the reader finds
pub fault_read : (words : List Word) (left n : ℕ) → items_at words ≡ Err left → n ≡ length words - left → IsFaultAt words n
fault_read words left n e number =
    let b : Broken SameFirst (Each item) items_at words left = right_items.fault words left e in
    fault_from words b.front b.bad b.more b.value n (number ∙ ap (λ k. length words - k) b.left_is) b.whole b.viable b.keeps

pub left_within : (words : List Word) (left : ℕ) → items_at words ≡ Err left → left ≤ length words
left_within words left e =
    let b : Broken SameFirst (Each item) items_at words left = right_items.fault words left e in
    let size : length words ≡ length b.front + length b.bad = ap length b.whole ∙ length-append b.front b.bad in
    let left_is : left ≡ length b.bad = b.left_is in
    omega arith

pub no_program_and_fault : (words : List Word) (tree : Surface) (n : ℕ) → program words tree → IsFaultAt words n → ⊥
no_program_and_fault words tree n is (word {n = m} less begins bars) = bars (begins_prefix (m + 1) words (begins_all words tree is))
no_program_and_fault words tree n is (end {n = m} number begins bars) = bars tree is

pub one_fault_at : (words : List Word) (n m : ℕ) → IsFaultAt words n → IsFaultAt words m → n ≡ m
one_fault_at words n m (word {n = a} less begins bars) (word {n = b} less2 begins2 bars2) = elim (cases_order a b) [
  | inl same ↦ same
  | inr others ↦ elim others [
    | inl below ↦ absurd (bars (begins_take (a + 1) b words (omega arith) (omega arith) begins2))
    | inr above ↦ absurd (bars2 (begins_take (b + 1) a words (omega arith) (omega arith) begins))
  ]
]
one_fault_at words n m (word {n = a} less begins bars) (end {n = b} number begins2 bars2) = absurd (bars (begins_prefix (a + 1) words begins2))
one_fault_at words n m (end {n = a} number begins bars) (word {n = b} less2 begins2 bars2) = absurd (bars2 (begins_prefix (b + 1) words begins))
one_fault_at words n m (end {n = a} number begins bars) (end {n = b} number2 begins2 bars2) = number ∙ sym number2
