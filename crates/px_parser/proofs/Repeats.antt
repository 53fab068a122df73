-- A reader of items that come again and again reads them all.
use Rattle.std.proofs.Common.{◌≡◌, ℕ, zero, suc, ◌<◌, ◌≤◌, Bool, true, false, cond, List, [], ◌∷◌, ◌++◌, length, Result, Ok, Err, refl, sym, ap, ◌∙◌, subst, inl, inr, append_assoc, arith, length-append}
use Rattle.std.proofs.lemmas.List.{append-nil}
use Rattle.px_parser.specs.Words.{Word}
use Rattle.px_parser.specs.Phrases.{Each}
use Rattle.px_parser.specs.Readers.{onward, each_of, each_at}
use Rattle.px_parser.proofs.Right.{SameFirst, Taken, Broken, Right, Equal, read, one_result, onward_ok, onward_err, taken_same, decided}

onward_same : {A B : Type 0} (r : Result A ℕ) (f g : A → Result B ℕ) → ((x : A) → r ≡ Ok x → f x ≡ g x) → onward r f ≡ onward r g
onward_same (Ok x) f g same = same x refl
onward_same (Err n) f g same = refl

-- each item takes a word at least
abbrev pub Shrinks : {T : Type 0} → (List Word → Bool) → (List Word → Result (T × List Word) ℕ) → Type 0
Shrinks {T} test item = (s rest : List Word) (x : T) → test s ≡ true → item s ≡ Ok (x, rest) → length rest < length s

module _ {T : Type 0} (test : List Word → Bool) (item : List Word → Result (T × List Word) ℕ) (shrinks : Shrinks test item) (empty : test [] ≡ false) where
  none_more : (n : ℕ) → each_of test item n [] ≡ Ok ([], [])
  unfolding each_of
  none_more zero = refl
  none_more (suc n) = rw empty refl

  enough : (n m : ℕ) (s : List Word) → length s ≤ n → length s ≤ m → each_of test item n s ≡ each_of test item m s
  unfolding each_of
  enough n m [] a b = none_more n ∙ sym (none_more m)
  enough zero m (w ∷ ws) a b = absurd (omega arith)
  enough (suc n) zero (w ∷ ws) a b = absurd (omega arith)
  enough (suc n) (suc m) (w ∷ ws) a b =
      elim (decided (test (w ∷ ws))) [
        | inl holds ↦
            rw (holds) (onward_same (item (w ∷ ws)) _ _ (λ x e.
            let less : length x.1 < length (w ∷ ws) = shrinks (w ∷ ws) x.1 x.0 holds e in
            rw (enough n m x.1 (omega arith) (omega arith)) refl))
        | inr fails ↦ rw fails refl
      ]

  -- what the reader finds, in steps
  pub each_step : (s : List Word) → each_at test item s ≡ cond (test s) (onward (item s) (λ x. onward (each_at test item x.1) (λ xs. Ok (x.0 ∷ xs.0, xs.1)))) (Ok ([], s))
  unfolding each_of each_at
  each_step [] = rw empty refl
  each_step (w ∷ ws) =
      elim (decided (test (w ∷ ws))) [
        | inl holds ↦
            rw (holds) (onward_same (item (w ∷ ws)) _ _ (λ x e.
            let less : length x.1 < length (w ∷ ws) = shrinks (w ∷ ws) x.1 x.0 holds e in
            rw (enough (length ws) (length x.1) x.1 (omega arith) (omega arith)) refl))
        | inr fails ↦ rw fails refl
      ]

  pub each_stops : (s : List Word) → test s ≡ false → each_at test item s ≡ Ok ([], s)
  each_stops s fails = each_step s ∙ rw fails refl

  pub each_goes : (s rest : List Word) (x : T) → test s ≡ true → item s ≡ Ok (x, rest) → each_at test item s ≡ onward (each_at test item rest) (λ xs. Ok (x ∷ xs.0, xs.1))
  each_goes s rest x holds e = each_step s ∙ rw (holds, e) refl

  pub each_breaks : (s : List Word) (left : ℕ) → test s ≡ true → item s ≡ Err left → each_at test item s ≡ Err left
  each_breaks s left holds e = each_step s ∙ rw (holds, e) refl

module _ {T : Type 0} {Mid After : List Word → List Word → Type 0} {EndsItem Ends : List Word → Type 0} {A : List Word → T → Type 0} {item : List Word → Result (T × List Word) ℕ} (test : List Word → Bool)
    (right : Right Mid Mid EndsItem A item)
    (empty : test [] ≡ false)
    (respects : (x y : List Word) → Mid x y → test x ≡ test y)
    (stopped : (x y : List Word) → After x y → test x ≡ false → Mid x y)
    (starts : (used rest : List Word) (value : T) → A used value → test (used ++ rest) ≡ true)
    (between : (used rest : List Word) (value : T) → A used value → EndsItem (used ++ rest))
    (stops : (rest : List Word) → Ends rest → test rest ≡ false)
    (ends : (rest : List Word) → Ends rest → EndsItem rest) where
  some_used : (used : List Word) (value : T) → A used value → 0 < length used
  some_used [] value is = let p : test [] ≡ true = starts [] [] value is in absurd (cc)
  some_used (w ∷ ws) value is = omega arith

  shrinks : Shrinks test item
  shrinks s rest x holds e =
      let t : Taken Mid Mid A item s rest x = right.sound s rest x e in
      rw t.whole (simp length-append (let h : 0 < length t.used = some_used t.used x t.is in omega arith))

  taken_none : (s rest : List Word) (xs : List T) → test s ≡ false → each_at test item s ≡ Ok (xs, rest) → Taken Mid After (Each A) (each_at test item) s rest xs
  taken_none s rest xs fails e =
      let q : Equal [] xs s rest = one_result [] xs s rest (sym (each_stops test item shrinks empty s fails) ∙ e) in
      let still : test rest ≡ false = subst (λ r. test r ≡ false) q.rest fails in
      record {
        used = [];
        is = subst (λ ys. Each A [] ys) q.value Each.none;
        whole = q.rest;
        keeps = λ next h. rw (← q.value) (each_stops test item shrinks empty next (sym (respects rest next (stopped rest next h still)) ∙ still));
        before = λ next h. stopped rest next h still;
      }

  taken_more : (s mid rest : List Word) (x : T) (xs : List T) → Taken Mid Mid A item s mid x → Taken Mid After (Each A) (each_at test item) mid rest xs → Taken Mid After (Each A) (each_at test item) s rest (x ∷ xs)
  taken_more s mid rest x xs first others =
      let same : (next : List Word) → After rest next → Mid mid (others.used ++ next) = λ next h. subst (λ m. Mid m (others.used ++ next)) (sym others.whole) (others.before next h) in
      record {
        used = first.used ++ others.used;
        is = Each.more first.is others.is refl;
        whole = first.whole ∙ ap (λ m. first.used ++ m) others.whole ∙ sym (append_assoc first.used others.used rest);
        keeps = λ next h.
            rw (append_assoc first.used others.used next, each_goes test item shrinks empty (first.used ++ (others.used ++ next)) (others.used ++ next) x (starts first.used (others.used ++ next) x first.is) (first.keeps (others.used ++ next) (same next h)), others.keeps next h) refl;
        before = λ next h. rw (append_assoc first.used others.used next, append_assoc first.used others.used rest, ← others.whole) (first.before (others.used ++ next) (same next h));
      }

  each_sound : (n : ℕ) (s rest : List Word) (xs : List T) → length s < n → each_at test item s ≡ Ok (xs, rest) → Taken Mid After (Each A) (each_at test item) s rest xs
  each_sound zero s rest xs less e = absurd (omega arith)
  each_sound (suc n) s rest xs less e =
      elim (decided (test s)) [
        | inr fails ↦ taken_none s rest xs fails e
        | inl holds ↦
            let stepped = (rw holds at (sym (each_step test item shrinks empty s) ∙ e)) in
            let b = onward_ok (item s) _ (xs, rest) stepped in
            let c = onward_ok (each_at test item b.value.1) _ (xs, rest) b.second in
            let q : Equal (b.value.0 ∷ c.value.0) xs c.value.1 rest = one_result (b.value.0 ∷ c.value.0) xs c.value.1 rest c.second in
            let shorter : length b.value.1 < length s = shrinks s b.value.1 b.value.0 holds b.first in
            let others : Taken Mid After (Each A) (each_at test item) b.value.1 c.value.1 c.value.0 = each_sound n b.value.1 c.value.1 c.value.0 (omega arith) c.first in
            let all : Taken Mid After (Each A) (each_at test item) s c.value.1 (b.value.0 ∷ c.value.0) = taken_more s b.value.1 c.value.1 b.value.0 c.value.0 (right.sound s b.value.1 b.value.0 b.first) others in
            taken_same s c.value.1 rest (b.value.0 ∷ c.value.0) xs q all
      ]

  broken_here : (s : List Word) (left : ℕ) → test s ≡ true → Broken Mid A item s left → Broken Mid (Each A) (each_at test item) s left
  broken_here s left holds first = record {
    front = first.front;
    bad = first.bad;
    whole = first.whole;
    left_is = first.left_is;
    more = first.more;
    value = first.value ∷ [];
    viable = Each.more first.viable Each.none (sym (append-nil (first.front ++ first.more)));
    before = first.before;
    keeps = λ next h. each_breaks test item shrinks empty (first.front ++ next) (length next) (sym (respects (first.front ++ first.bad) (first.front ++ next) (first.before next h)) ∙ ap test (sym first.whole) ∙ holds) (first.keeps next h);
  }

  broken_later : (s mid : List Word) (left : ℕ) (x : T) → Taken Mid Mid A item s mid x → Broken Mid (Each A) (each_at test item) mid left → Broken Mid (Each A) (each_at test item) s left
  broken_later s mid left x first others =
      let same : (next : List Word) → SameFirst others.bad next → Mid mid (others.front ++ next) = λ next h. subst (λ m. Mid m (others.front ++ next)) (sym others.whole) (others.before next h) in
      record {
        front = first.used ++ others.front;
        bad = others.bad;
        whole = first.whole ∙ ap (λ m. first.used ++ m) others.whole ∙ sym (append_assoc first.used others.front others.bad);
        left_is = others.left_is;
        more = others.more;
        value = x ∷ others.value;
        viable = Each.more first.is others.viable (append_assoc first.used others.front others.more);
        keeps = λ next h.
            rw (append_assoc first.used others.front next, each_goes test item shrinks empty (first.used ++ (others.front ++ next)) (others.front ++ next) x (starts first.used (others.front ++ next) x first.is) (first.keeps (others.front ++ next) (same next h)), others.keeps next h) refl;
        before = λ next h. rw (append_assoc first.used others.front next, append_assoc first.used others.front others.bad, ← others.whole) (first.before (others.front ++ next) (same next h));
      }

  each_fault : (n : ℕ) (s : List Word) (left : ℕ) → length s < n → each_at test item s ≡ Err left → Broken Mid (Each A) (each_at test item) s left
  each_fault zero s left less e = absurd (omega arith)
  each_fault (suc n) s left less e =
      elim (decided (test s)) [
        | inr fails ↦ let q : read {A = List T} [] s ≡ Err left = sym (each_stops test item shrinks empty s fails) ∙ e in absurd (cc)
        | inl holds ↦
            let stepped = (rw holds at (sym (each_step test item shrinks empty s) ∙ e)) in
            elim (onward_err (item s) _ left stepped) [
              | inl here ↦ broken_here s left holds (right.fault s left here)
              | inr b ↦
                  elim (onward_err (each_at test item b.value.1) _ left b.second) [
                    | inl later ↦
                        let shorter : length b.value.1 < length s = shrinks s b.value.1 b.value.0 holds b.first in
                        broken_later s b.value.1 left b.value.0 (right.sound s b.value.1 b.value.0 b.first) (each_fault n b.value.1 left (omega arith) later)
                    | inr c ↦ let q : read (b.value.0 ∷ c.value.0) c.value.1 ≡ Err left = c.second in absurd (cc)
                  ]
            ]
      ]

  each_follows : (used rest : List Word) (xs : List T) → Each A used xs → Ends rest → EndsItem (used ++ rest)
  each_follows used rest xs Each.none end = ends rest end
  each_follows used rest xs (Each.more {words} {front} {back} {x} {xs = ys} is others whole) end = rw (whole, append_assoc front back rest) (between front (back ++ rest) x is)

  each_complete : (used rest : List Word) (xs : List T) → Each A used xs → Ends rest → each_at test item (used ++ rest) ≡ Ok (xs, rest)
  each_complete used rest xs Each.none end = each_stops test item shrinks empty rest (stops rest end)
  each_complete used rest xs (Each.more {words} {front} {back} {x} {xs = ys} is others whole) end =
      let first : item (front ++ (back ++ rest)) ≡ Ok (x, back ++ rest) = right.complete front (back ++ rest) x is (each_follows back rest ys others end) in
      rw (whole, append_assoc front back rest, each_goes test item shrinks empty (front ++ (back ++ rest)) (back ++ rest) x (starts front (back ++ rest) x is) first, each_complete back rest ys others end) refl

  pub right_each : Right Mid After Ends (Each A) (each_at test item)
  right_each = record {
    sound = λ s rest xs e. each_sound (suc (length s)) s rest xs (omega arith) e;
    complete = each_complete;
    fault = λ s left e. each_fault (suc (length s)) s left (omega arith) e;
    example = record { words = []; value = []; is = Each.none };
  }
