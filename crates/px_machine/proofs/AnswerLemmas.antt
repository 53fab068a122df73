-- What the lists show as words are compared.
use Rattle.std.proofs.Common.{◌≡◌, ◌≢◌, ℕ, ◌+◌, ◌<◌, List, [], ◌∷◌, length, take, drop, map, Bool, nat_le, ◌==◌, if◌then◌else◌, Some, slice_get, get_or, sym, ap, ◌∙◌, subst, refl, arith, option_and_then}
use Rattle.std.specs.Option.{option_map}
use Rattle.std.proofs.lemmas.List.{get_or-drop, length-drop}
use Rattle.px_terms.specs.declared.term.Value.{Value, out-Value}
use Rattle.px_terms.specs.declared.term.Value.TheVariants as value
use Rattle.px_terms.specs.declared.term.Value.TheOpen.{Value-F}
use Rattle.px_terms.specs.Meaning.{truth}
use Rattle.px_machine.specs.declared.code.CallTarget.{CallTarget}
use Rattle.px_machine.specs.declared.code.CallTarget.TheVariants as target
use Rattle.px_machine.specs.declared.heap.Heap.{Heap}
use Rattle.px_machine.specs.declared.heap.Node.TheVariants as node
use Rattle.px_machine.specs.Heap.{IsHeap, Grows, heap_trees, tree_at, trees_at, numbers_of}
use Rattle.px_machine.specs.Machine.{Frame, State, runs, word_of, compared, called, going_on}
use Rattle.px_machine.specs.Running.{Parts, IsRun, pushed, top_frame, caller_frames, cut, call_on, CanCall, IsCalled, IsAnswered, WordAt, answer_of}
use Rattle.px_machine.proofs.RunLemmas.{after_push, push_shows, push_runs, on_heap, grown_runs, grown_value, some_of_map, some_of_then}
use Rattle.px_machine.proofs.StackLemmas.{grown_after}
use Rattle.px_machine.proofs.FrameLemmas.{node_value}

-- a truth value is pushed behind what was cut off
pub answer_in_code : (p q : Parts) (start : ℕ) (is : Bool) (new : Heap) (k number : ℕ) (left : List ℕ) → IsRun (cut p start) → Grows p.heap new (value.Con 0 k []) number → k ≡ (if is then 1 else 0) →
    left ≡ take start p.stack → q ≡ pushed (record p { heap = new; stack = left }) number → IsAnswered start is p q
answer_in_code p q start is new k number left run grows is_k is_left e =
    let same : q ≡ pushed (on_heap (cut p start) new) number = e ∙ ap (λ (s : List ℕ). pushed (record p { heap = new; stack = s }) number) is_left in
    let grown : IsRun (on_heap (cut p start) new) = grown_runs (cut p start) new (value.Con 0 k []) number run grows in
    subst (IsAnswered start is p) (sym same) (record {
      run = push_runs (on_heap (cut p start) new) number grown (omega (arith, grows.number, grows.more));
      state =
          push_shows (on_heap (cut p start) new) number grown ∙ ap (after_push (on_heap (cut p start) new)) (grown_value p.heap new (value.Con 0 k []) number grows)
          ∙ grown_after (cut p start) new (value.Con 0 k []) (value.Con 0 k []) number run grows ∙ ap (λ (j : ℕ). after_push (cut p start) (value.Con 0 j [])) is_k;
    })

-- the word of a node
pub word_is : (heap : Heap) (number w : ℕ) → IsHeap heap → slice_get heap.nodes.items number ≡ Some (node.Lit w) → WordAt heap number w
word_is heap number w is found = ap out-Value (node_value heap number (node.Lit w) is found) ∙ value.outs-Lit w

pub word_is_no_constructor : (heap : Heap) (number w d k first count : ℕ) → IsHeap heap → WordAt heap number w → slice_get heap.nodes.items number ≡ Some (node.Con d k first count) → ⊥
word_is_no_constructor heap number w d k first count is word found =
    let other : out-Value (tree_at (heap_trees heap) number) ≡ Value-F.Con d k (trees_at (heap_trees heap) (numbers_of heap.fields.items first count)) =
    ap out-Value (node_value heap number (node.Con d k first count) is found) ∙ value.outs-Con d k (trees_at (heap_trees heap) (numbers_of heap.fields.items first count)) in
    cc

-- Two numbers that name words.
pub record TwoWords (f : ℕ → Value) (numbers : List ℕ) : Type 0 where
  pub a : ℕ
  pub b : ℕ
  pub x : ℕ
  pub y : ℕ
  pub are : numbers ≡ a ∷ b ∷ []
  pub first : out-Value (f a) ≡ Value-F.Lit x
  pub second : out-Value (f b) ≡ Value-F.Lit y

word_some : (y : Value-F Value) (x : ℕ) → word_of y ≡ Some x → y ≡ Value-F.Lit x
word_some (Value-F.Lit w) x e = let same : w ≡ x = cc in ap Value-F.Lit same
word_some (Value-F.Con d k fields) x e = absurd (cc)

compared_words : (test : ℕ → ℕ → Bool) (f : ℕ → Value) (numbers : List ℕ) (v : Value) → compared test (map f numbers) ≡ Some v → TwoWords f numbers
compared_words test f [] v e = absurd (cc)
compared_words test f (a ∷ []) v e = absurd (cc)
compared_words test f (a ∷ b ∷ []) v e =
    let one = some_of_then _ (word_of (out-Value (f a))) _ e in
    let two = some_of_map _ (word_of (out-Value (f b))) _ one.2 in
    record { a = a; b = b; x = one.0; y = two.0; are = refl; first = word_some (out-Value (f a)) one.0 one.1; second = word_some (out-Value (f b)) two.0 two.1 }
compared_words test f (a ∷ b ∷ c ∷ more) v e = absurd (cc)

-- a built-in is called on two words
pub called_words : (t : CallTarget) (fs : List CallTarget) (f : ℕ → Value) (numbers : List ℕ) (G : Frame) (Fs : List Frame) (c : ℕ) (s : State) → ((n : ℕ) → t ≢ target.Def n) → called t fs (map f numbers) G Fs c ≡ Some s → TwoWords f numbers
called_words (target.Def n) fs f numbers G Fs c s built e = absurd (built n refl)
called_words target.Wle fs f numbers G Fs c s built e = let v = some_of_map _ _ _ e in compared_words nat_le f numbers v.0 v.1
called_words target.Weq fs f numbers G Fs c s built e = let v = some_of_map _ _ _ e in compared_words (λ x y. x == y) f numbers v.0 v.1
called_words (target.Param n) fs f numbers G Fs c s built e = absurd (cc)

-- words compared
compared_is : (test : ℕ → ℕ → Bool) (f : ℕ → Value) (numbers : List ℕ) (a b x y : ℕ) → numbers ≡ a ∷ b ∷ [] → out-Value (f a) ≡ Value-F.Lit x → out-Value (f b) ≡ Value-F.Lit y → compared test (map f numbers) ≡ Some (truth (test x y))
compared_is test f numbers a b x y are first second =
    ap (λ (ns : List ℕ). compared test (map f ns)) are
    ∙ (λ i. option_and_then (λ (m : ℕ). option_map (λ (n : ℕ). truth (test m n)) (word_of (second i))) (word_of (first i)))

pub called_is : (t : CallTarget) (fs : List CallTarget) (f : ℕ → Value) (numbers : List ℕ) (G : Frame) (Fs : List Frame) (c a b x y : ℕ) (s : State) → ((n : ℕ) → t ≢ target.Def n) → called t fs (map f numbers) G Fs c ≡ Some s →
    numbers ≡ a ∷ b ∷ [] → out-Value (f a) ≡ Value-F.Lit x → out-Value (f b) ≡ Value-F.Lit y → called t fs (map f numbers) G Fs c ≡ Some (runs (record G { stack = truth (answer_of t x y) ∷ G.stack }) Fs c)
called_is (target.Def n) fs f numbers G Fs c a b x y s built e are first second = absurd (built n refl)
called_is target.Wle fs f numbers G Fs c a b x y s built e are first second = ap (option_map (λ (v : Value). runs (record G { stack = v ∷ G.stack }) Fs c)) (compared_is nat_le f numbers a b x y are first second)
called_is target.Weq fs f numbers G Fs c a b x y s built e are first second = ap (option_map (λ (v : Value). runs (record G { stack = v ∷ G.stack }) Fs c)) (compared_is (λ m n. m == n) f numbers a b x y are first second)
called_is (target.Param n) fs f numbers G Fs c a b x y s built e are first second = absurd (cc)

-- the words that a built-in finds on the stack
pub words_on : (p : Parts) (t : CallTarget) (fs : List CallTarget) (start : ℕ) → ((n : ℕ) → t ≢ target.Def n) → CanCall t fs start p → TwoWords (tree_at (heap_trees p.heap)) (drop start p.stack)
words_on p t fs start built can = called_words t fs (tree_at (heap_trees p.heap)) (drop start p.stack) (going_on (top_frame p) (top_frame (cut p start)).stack) (caller_frames (cut p start)) p.calls can.after built can.does

-- the numbers that stand there
pub two_there : (stack : List ℕ) (start a b d : ℕ) → drop start stack ≡ a ∷ b ∷ [] → (get_or stack start d ≡ a) × (get_or stack (start + 1) d ≡ b) × (start + 1 < length stack)
two_there stack start a b d e = (
  ap (λ (n : ℕ). get_or stack n d) (omega arith) ∙ sym (get_or-drop start stack 0 d) ∙ ap (λ (xs : List ℕ). get_or xs 0 d) e,
  sym (get_or-drop start stack 1 d) ∙ ap (λ (xs : List ℕ). get_or xs 1 d) e,
  omega (arith, ap length e, length-drop start stack),
)

-- the first word, the second, and that both are there
pub first_word : (p : Parts) (t : CallTarget) (fs : List CallTarget) (start number : ℕ) → ((n : ℕ) → t ≢ target.Def n) → CanCall t fs start p → number ≡ get_or p.stack start number → (w : ℕ) × WordAt p.heap number w
first_word p t fs start number built can is =
    let words = words_on p t fs start built can in
    (words.x, ap (λ (n : ℕ). out-Value (tree_at (heap_trees p.heap) n)) (is ∙ (two_there p.stack start words.a words.b number words.are).0) ∙ words.first)

pub second_word : (p : Parts) (t : CallTarget) (fs : List CallTarget) (start number : ℕ) → ((n : ℕ) → t ≢ target.Def n) → CanCall t fs start p → number ≡ get_or p.stack (start + 1) number → (w : ℕ) × WordAt p.heap number w
second_word p t fs start number built can is =
    let words = words_on p t fs start built can in
    (words.y, ap (λ (n : ℕ). out-Value (tree_at (heap_trees p.heap) n)) (is ∙ (two_there p.stack start words.a words.b number words.are).1) ∙ words.second)

pub both_within : (p : Parts) (t : CallTarget) (fs : List CallTarget) (start : ℕ) → ((n : ℕ) → t ≢ target.Def n) → CanCall t fs start p → start + 1 < length p.stack
both_within p t fs start built can =
    let words = words_on p t fs start built can in
    (two_there p.stack start words.a words.b 0 words.are).2

-- the built-in is called
pub compare_in_code : (p q : Parts) (t : CallTarget) (fs gs : List CallTarget) (start m n x y : ℕ) (is : Bool) → ((n : ℕ) → t ≢ target.Def n) → CanCall t fs start p →
    m ≡ get_or p.stack start m → n ≡ get_or p.stack (start + 1) n → WordAt p.heap m x → WordAt p.heap n y → is ≡ answer_of t x y → IsAnswered start is p q → IsCalled t gs start p q
compare_in_code p q t fs gs start m n x y is built can is_m is_n first second e answered =
    let words = words_on p t fs start built can in
    let f : ℕ → Value = tree_at (heap_trees p.heap) in
    let same_m : m ≡ words.a = is_m ∙ (two_there p.stack start words.a words.b m words.are).0 in
    let same_n : n ≡ words.b = is_n ∙ (two_there p.stack start words.a words.b n words.are).1 in
    let x_there : out-Value (f words.a) ≡ Value-F.Lit x = ap (λ (i : ℕ). out-Value (f i)) (sym same_m) ∙ first in
    let y_there : out-Value (f words.b) ≡ Value-F.Lit y = ap (λ (i : ℕ). out-Value (f i)) (sym same_n) ∙ second in
    let G : Frame = going_on (top_frame p) (top_frame (cut p start)).stack in
    let same_call : call_on t gs start p ≡ call_on t fs start p = built_in t fs gs (map f (drop start p.stack)) G (caller_frames (cut p start)) p.calls built in
    record {
      run = answered.run;
      does =
          same_call
          ∙ called_is t fs f (drop start p.stack) G (caller_frames (cut p start)) p.calls words.a words.b x y can.after built can.does words.are x_there y_there
          ∙ ap (λ (b : Bool). Some (runs (record G { stack = truth b ∷ G.stack }) (caller_frames (cut p start)) p.calls)) (sym e) ∙ ap Some (sym answered.state);
    }
  where
    built_in : (t : CallTarget) (fs gs : List CallTarget) (V : List Value) (G : Frame) (Fs : List Frame) (c : ℕ) → ((n : ℕ) → t ≢ target.Def n) → called t gs V G Fs c ≡ called t fs V G Fs c
    built_in (target.Def n) fs gs V G Fs c built = absurd (built n refl)
    built_in target.Wle fs gs V G Fs c built = refl
    built_in target.Weq fs gs V G Fs c built = refl
    built_in (target.Param n) fs gs V G Fs c built = refl
