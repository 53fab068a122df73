-- What stands at the front of a text: a word, and the bytes of a class.
use Rattle.std.proofs.Common.{◌≡◌, ◌≢◌, ℕ, suc, ◌+◌, Bool, true, false, cond, List, [], ◌∷◌, ◌++◌, length, take, drop, Option, Some, None, refl, sym, ap, subst, arith, ◌==◌}
use Rattle.std.specs.Prelude.{MatchOption}
use Rattle.std.specs.Borrow.{Bor}
use Rattle.std.specs.List.{prefix_len, AllByRecursion}
use Rattle.std.proofs.lemmas.List.{take_at, drop_at, take-append-drop}
use Rattle.std.proofs.lemmas.Bool.Decides.{Decides-eqb}
use Rattle.px_derive.specs.Readers.{past, begins, run_of}

past_step : (w c : ℕ) (ws cs rest : List ℕ) (b : Bool) → (b ≡ true → w ≡ c) → (past ws cs ≡ Some rest → cs ≡ ws ++ rest) → cond b (past ws cs) None ≡ Some rest → c ∷ cs ≡ w ∷ (ws ++ rest)
past_step w c ws cs rest true same deeper e = let p : w ≡ c = same refl in let q : cs ≡ ws ++ rest = deeper e in cc
past_step w c ws cs rest false same deeper e = absurd cc

-- a word that was passed stood there
pub past_sound : (word text rest : List ℕ) → past word text ≡ Some rest → text ≡ word ++ rest
past_sound [] text rest e = cc
past_sound (w ∷ ws) [] rest e = absurd cc
past_sound (w ∷ ws) (c ∷ cs) rest e = past_step w c ws cs rest (w == c) (Decides-eqb w c).0 (past_sound ws cs rest) e

-- a word that stands there is passed
pub past_whole : (word rest : List ℕ) → past word (word ++ rest) ≡ Some rest
past_whole [] rest = refl
past_whole (w ∷ ws) rest = rw ((Decides-eqb w w).1 refl) (past_whole ws rest)

-- another first byte
pub past_other : (w c : ℕ) (ws cs : List ℕ) → (w == c) ≡ false → past (w ∷ ws) (c ∷ cs) ≡ None
past_other w c ws cs e = rw e refl

none_past : (word text : List ℕ) (o : Option (List ℕ)) → past word text ≡ o → ((rest : List ℕ) → text ≢ word ++ rest) → past word text ≡ None
none_past word text (Some rest) e no_rest = absurd (no_rest rest (past_sound word text rest e))
none_past word text None e no_rest = e

-- what `strip_prefix` finds
pub stripped : (word text : List ℕ) (r : Option (Bor (List ℕ))) → MatchOption r ((rest : List ℕ) → text ≢ word ++ rest) (λ x. text ≡ word ++ x.now) → MatchOption r (past word text ≡ None) (λ x. past word text ≡ Some x.now)
stripped word text (Some x) h = rw h (past_whole word x.now)
stripped word text None h = none_past word text (past word text) refl h

-- no byte of the class at the front
no_prefix : (class : ℕ → Bool) (rest : List ℕ) → begins class rest ≡ false → prefix_len class rest ≡ 0
no_prefix class [] e = refl
no_prefix class (c ∷ cs) e = rw e refl

prefix_whole : (class : ℕ → Bool) (word rest : List ℕ) → AllByRecursion (λ (b : ℕ). class b ≡ true) word → begins class rest ≡ false → prefix_len class (word ++ rest) ≡ length word
prefix_whole class [] rest all ends = no_prefix class rest ends
prefix_whole class (w ∷ ws) rest all ends = let more : prefix_len class (ws ++ rest) ≡ length ws = prefix_whole class ws rest all.1 ends in rw (all.0) (omega arith)

-- a word of the class is read whole, where no byte of the class follows
pub run_whole : (class : ℕ → Bool) (word rest : List ℕ) → AllByRecursion (λ (b : ℕ). class b ≡ true) word → begins class rest ≡ false → run_of class (word ++ rest) ≡ Some (word, rest)
unfolding run_of
run_whole class word rest all ends = rw (prefix_whole class word rest all ends, take_at word rest (length word) refl, drop_at word rest (length word) refl) refl

-- What was read off the front: a word of the class, as long as it goes.
pub record IsRun (class : ℕ → Bool) (text word rest : List ℕ) : Type 0 where
  pub whole : text ≡ word ++ rest
  pub each : AllByRecursion (λ (b : ℕ). class b ≡ true) word

run_step : (class : ℕ → Bool) (c : ℕ) (cs : List ℕ) (b : Bool) → class c ≡ b → AllByRecursion (λ (x : ℕ). class x ≡ true) (take (prefix_len class cs) cs) → AllByRecursion (λ (x : ℕ). class x ≡ true) (take (cond b (1 + prefix_len class cs) 0) (c ∷ cs))
run_step class c cs true e all = let one : 1 + prefix_len class cs ≡ suc (prefix_len class cs) = omega arith in rw one (e, all)
run_step class c cs false e all = tt

run_each : (class : ℕ → Bool) (text : List ℕ) → AllByRecursion (λ (b : ℕ). class b ≡ true) (take (prefix_len class text) text)
run_each class [] = tt
run_each class (c ∷ cs) = run_step class c cs (class c) refl (run_each class cs)

pub run_is : (class : ℕ → Bool) (text : List ℕ) → IsRun class text (take (prefix_len class text) text) (drop (prefix_len class text) text)
run_is class text = record { whole = sym (take-append-drop (prefix_len class text) text); each = run_each class text }

pub run_found : (class : ℕ → Bool) (text word rest : List ℕ) → run_of class text ≡ Some (word, rest) → IsRun class text word rest
unfolding run_of
run_found class text word rest e =
    let q : (take (prefix_len class text) text, drop (prefix_len class text) text) ≡ (word, rest) = cc in
    let front : take (prefix_len class text) text ≡ word = ap (λ (z : List ℕ × List ℕ). z.0) q in
    let back : drop (prefix_len class text) text ≡ rest = ap (λ (z : List ℕ × List ℕ). z.1) q in
    rw (← front, ← back) (run_is class text)

-- what `strip_prefix` finds, by its answer
pub stripped_some : (word text : List ℕ) (r : Option (Bor (List ℕ))) (x : Bor (List ℕ)) → MatchOption r ((rest : List ℕ) → text ≢ word ++ rest) (λ y. text ≡ word ++ y.now) → r ≡ Some x → past word text ≡ Some x.now
stripped_some word text r x h e = subst (λ (o : Option (Bor (List ℕ))). MatchOption o (past word text ≡ None) (λ y. past word text ≡ Some y.now)) e (stripped word text r h)

pub stripped_none : (word text : List ℕ) (r : Option (Bor (List ℕ))) → MatchOption r ((rest : List ℕ) → text ≢ word ++ rest) (λ y. text ≡ word ++ y.now) → r ≡ None → past word text ≡ None
stripped_none word text r h e = subst (λ (o : Option (Bor (List ℕ))). MatchOption o (past word text ≡ None) (λ y. past word text ≡ Some y.now)) e (stripped word text r h)
