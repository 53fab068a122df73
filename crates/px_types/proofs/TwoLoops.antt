-- What a loop over items, each with the one at its place in another list, has found, and what is still to come.
use Rattle.std.proofs.Common.{◌≡◌, ℕ, zero, suc, ◌+◌, ◌<◌, ◌≤◌, List, [], ◌∷◌, ◌++◌, length, get_or, drop, map, Some, None, Result, Ok, Err, refl, sym, ◌∙◌}
use Rattle.std.proofs.Common.{ap, subst, append_assoc, arith, drop-cons, add-one}
use Rattle.std.specs.Prelude.{slice_get}
use Rattle.std.specs.Option.{option_map}
use Rattle.std.specs.Result.{IsErrAnd, MatchResult}
use Rattle.std.proofs.lemmas.List.{append-nil, drop_all}
use Rattle.std.proofs.lemmas.Option.{slice_get_within, get_or_from_slice_get, slice_get-map}
use Rattle.px_types.specs.declared.ends.TypeEnd.{TypeEnd}
use Rattle.px_types.specs.declared.ends.TypeEnd.TheVariants.{Fault, NoMemory}
use Rattle.px_types.specs.Faults.{Broken}
use Rattle.px_types.specs.Answers.{EndsAs}
use Rattle.px_types.specs.Outcomes.{onward, each_two, along}
use Rattle.px_types.proofs.Loops.{after}

after_none : {T : Type 0} (r : Result (List T) Broken) → after [] r ≡ r
unfolding after onward
after_none (Ok ys) = refl
after_none (Err b) = refl

after_one : {T : Type 0} (ys : List T) (y : T) (r : Result (List T) Broken) → after ys (onward r (λ zs. Ok (y ∷ zs))) ≡ after (ys ++ y ∷ []) r
unfolding after onward
after_one ys y (Ok zs) = ap Ok (sym (append_assoc ys (y ∷ []) zs))
after_one ys y (Err b) = refl

past : {X : Type 0} (xs : List X) (i : ℕ) → slice_get xs i ≡ None → length xs ≤ i
past [] i e = omega arith
past (x ∷ xs) zero e = absurd cc
past (x ∷ xs) (suc i) e = let rest : length xs ≤ i = past xs i e in omega arith

-- Items from left to right, each with the one at its place: these are looked at, and those are meant.
module _ {X Y T : Type 0} (found : X → Y → Result T Broken) (xs looked : List X) (zs : List Y) (same : looked ≡ xs) where
  pub two_start : (ys : List T) → ys ≡ [] → after ys (each_two found xs zs) ≡ each_two found xs zs
  two_start ys e = rw e (after_none (each_two found xs zs))

  two_at : (i : ℕ) (x : X) (z : Y) → i < length looked → x ≡ get_or looked i x → slice_get zs i ≡ Some z →
      each_two found (drop i xs) (drop i zs)
      ≡ onward (found x z) (λ (y : T). onward (each_two found (drop (i + 1) xs) (drop (i + 1) zs)) (λ (ys : List T). Ok (y ∷ ys)))
  unfolding each_two
  two_at i x z h is has =
      let item : x ≡ get_or xs i x = is ∙ ap (λ (ws : List X). get_or ws i x) same in
      let below : i < length xs = rw same at h in
      let other : get_or zs i z ≡ z = get_or_from_slice_get zs i z z has in
      let within : i < length zs = slice_get_within zs i z has in
      rw (add-one, drop-cons xs i x, ← item, drop-cons zs i z, other) refl

  pub two_next : (i : ℕ) (x : X) (z : Y) (ys more : List T) (y : T) → i < length looked → x ≡ get_or looked i x → slice_get zs i ≡ Some z → found x z ≡ Ok y →
      more ≡ ys ++ y ∷ [] → after ys (each_two found (drop i xs) (drop i zs)) ≡ each_two found xs zs →
      after more (each_two found (drop (i + 1) xs) (drop (i + 1) zs)) ≡ each_two found xs zs
  unfolding onward
  two_next i x z ys more y h is has e pushed before =
      rw pushed (sym (after_one ys y (each_two found (drop (i + 1) xs) (drop (i + 1) zs))) ∙ (rw (two_at i x z h is has, e) at before))

  pub two_fails : (i : ℕ) (x : X) (z : Y) (ys : List T) (end : TypeEnd) → i < length looked → x ≡ get_or looked i x → slice_get zs i ≡ Some z →
      EndsAs (found x z) end → after ys (each_two found (drop i xs) (drop i zs)) ≡ each_two found xs zs → EndsAs (each_two found xs zs) end
  unfolding onward after
  two_fails i x z ys (Fault kind place) h is has e before = sym before ∙ rw (two_at i x z h is has, e) refl
  two_fails i x z ys NoMemory h is has e before = tt

  pub two_end : (i : ℕ) (ys : List T) → length looked ≤ i → after ys (each_two found (drop i xs) (drop i zs)) ≡ each_two found xs zs →
      each_two found xs zs ≡ Ok ys
  unfolding onward after each_two
  two_end i ys h before =
      let over : length xs ≤ i = rw same at h in
      sym before ∙ rw (drop_all i xs over) (ap Ok (append-nil ys))

  nothing_more : (ws : List X) → each_two found ws [] ≡ Ok []
  unfolding each_two
  nothing_more [] = refl
  nothing_more (w ∷ ws) = refl

  pub two_short : (i : ℕ) (ys : List T) → slice_get zs i ≡ None → after ys (each_two found (drop i xs) (drop i zs)) ≡ each_two found xs zs →
      each_two found xs zs ≡ Ok ys
  unfolding onward after
  two_short i ys e before = sym before ∙ rw (drop_all i zs (past zs i e), nothing_more (drop i xs)) (ap Ok (append-nil ys))

-- an end is passed on, whatever the answer would say
pub ends_in : {X : Type 0} (P : X → Type 0) (E : TypeEnd → Type 0) (r : Result X TypeEnd) (end : TypeEnd) → IsErrAnd r (λ (e : TypeEnd). e ≡ end) → E end →
    MatchResult r P E
ends_in P E (Ok x) end same h = absurd same
ends_in P E (Err e) end same h = subst E (sym same) h

pub same_item : {X : Type 0} (xs : List X) (i : ℕ) (d e : X) → i < length xs → get_or xs i d ≡ get_or xs i e
same_item [] i d e h = absurd (omega arith)
same_item (x ∷ xs) zero d e h = refl
same_item (x ∷ xs) (suc i) d e h = same_item xs i d e (omega arith)

-- an item that is looked at, made into another
pub mapped_at : {X Y : Type 0} (f : X → Y) (xs looked : List X) (i : ℕ) (x : X) → looked ≡ xs → Some x ≡ slice_get looked i →
    slice_get (map f xs) i ≡ Some (f x)
mapped_at f xs looked i x same e = slice_get-map f xs i ∙ ap (option_map f) (sym (e ∙ ap (λ (ys : List _). slice_get ys i) same))

pub mapped_past : {X Y : Type 0} (f : X → Y) (xs looked : List X) (i : ℕ) → looked ≡ xs → None ≡ slice_get looked i → slice_get (map f xs) i ≡ None
mapped_past f xs looked i same e = slice_get-map f xs i ∙ ap (option_map f) (sym (e ∙ ap (λ (ys : List _). slice_get ys i) same))

-- what is found of items that are made of others
pub each_two_made : {W X Y T : Type 0} (found : X → Y → Result T Broken) (made : W → X) (ws : List W) (zs : List Y) →
    each_two found (map made ws) zs ≡ each_two (λ (w : W). found (made w)) ws zs
unfolding each_two
each_two_made found made [] zs = refl
each_two_made found made (w ∷ ws) [] = refl
each_two_made {W} {X} {Y} {T} found made (w ∷ ws) (z ∷ zs) =
    ap (λ (r : Result (List T) Broken). onward (found (made w) z) (λ (y : T). onward r (λ (ys : List T). Ok (y ∷ ys)))) (each_two_made found made ws zs)

pub along_made : {S W X : Type 0} (found : S → X → Result S Broken) (made : W → X) (s : S) (ws : List W) →
    along found s (map made ws) ≡ along (λ (t : S) (w : W). found t (made w)) s ws
unfolding along
along_made found made s [] = refl
along_made found made s (w ∷ ws) = λ i. onward (found s (made w)) (λ t. along_made found made t ws i)

-- The states of a loop: these items are looked at, and those are meant.
module _ {S X : Type 0} (found : S → X → Result S Broken) (first : S) (xs looked : List X) (same : looked ≡ xs) where
  along_at : (s : S) (i : ℕ) (x : X) → i < length looked → x ≡ get_or looked i x →
      along found s (drop i xs) ≡ onward (found s x) (λ (t : S). along found t (drop (i + 1) xs))
  unfolding along
  along_at s i x h is =
      let item : x ≡ get_or xs i x = is ∙ ap (λ (ws : List X). get_or ws i x) same in
      let below : i < length xs = rw same at h in
      rw (add-one, drop-cons xs i x, ← item) refl

  pub along_next : (s t : S) (i : ℕ) (x : X) → i < length looked → x ≡ get_or looked i x → found s x ≡ Ok t → along found s (drop i xs) ≡ along found first xs →
      along found t (drop (i + 1) xs) ≡ along found first xs
  unfolding onward
  along_next s t i x h is e before = rw (along_at s i x h is, e) at before

  pub along_fails : (s : S) (i : ℕ) (x : X) (end : TypeEnd) → i < length looked → x ≡ get_or looked i x → EndsAs (found s x) end →
      along found s (drop i xs) ≡ along found first xs → EndsAs (along found first xs) end
  unfolding onward
  along_fails s i x (Fault kind place) h is e before = sym before ∙ rw (along_at s i x h is, e) refl
  along_fails s i x NoMemory h is e before = tt

  pub along_end : (s : S) (i : ℕ) → length looked ≤ i → along found s (drop i xs) ≡ along found first xs → along found first xs ≡ Ok s
  unfolding along
  along_end s i h before =
      let over : length xs ≤ i = rw same at h in
      sym before ∙ rw (drop_all i xs over) refl
