-- What a loop over items has found, and what is still to come.
use Rattle.std.proofs.Common.{◌≡◌, ℕ, suc, ◌+◌, ◌<◌, List, [], ◌∷◌, ◌++◌, length, get_or, drop, Result, Ok, Err, refl, sym, ◌∙◌, ap, append_assoc, arith, drop-cons, add-one, ◌≤◌}
use Rattle.std.proofs.lemmas.List.{append-nil, drop_all}
use Rattle.px_types.specs.declared.ends.TypeEnd.{TypeEnd}
use Rattle.px_types.specs.declared.ends.TypeEnd.TheVariants.{Fault, NoMemory}
use Rattle.px_types.specs.Faults.{Broken, breaks}
use Rattle.px_types.specs.Answers.{EndsAs}
use Rattle.px_types.specs.Outcomes.{onward, each, each_two}

-- these, and then what is still to be found
unfoldable pub after : {T : Type 0} → List T → Result (List T) Broken → Result (List T) Broken
after ys rest = onward rest (λ zs. Ok (ys ++ zs))

after_none : {T : Type 0} (r : Result (List T) Broken) → after [] r ≡ r
unfolding after onward
after_none (Ok ys) = refl
after_none (Err b) = refl

after_one : {T : Type 0} (ys : List T) (y : T) (r : Result (List T) Broken) → after ys (onward r (λ zs. Ok (y ∷ zs))) ≡ after (ys ++ y ∷ []) r
unfolding after onward
after_one ys y (Ok zs) = ap Ok (sym (append_assoc ys (y ∷ []) zs))
after_one ys y (Err b) = refl

-- Items from left to right: these are looked at, and those are meant.
module _ {X T : Type 0} (found : X → Result T Broken) (xs looked : List X) (same : looked ≡ xs) where
  pub each_start : (ys : List T) → ys ≡ [] → after ys (each found xs) ≡ each found xs
  each_start ys e = rw e (after_none (each found xs))

  each_at : (i : ℕ) (x : X) → i < length looked → x ≡ get_or looked i x → each found (drop i xs) ≡ onward (found x) (λ (y : T). onward (each found (drop (i + 1) xs)) (λ (ys : List T). Ok (y ∷ ys)))
  unfolding each
  each_at i x h is =
      let item : x ≡ get_or xs i x = is ∙ ap (λ (zs : List X). get_or zs i x) same in
      let below : i < length xs = rw same at h in
      rw (add-one, drop-cons xs i x, ← item) refl

  pub each_next : (i : ℕ) (x : X) (ys zs : List T) (y : T) → i < length looked → x ≡ get_or looked i x → found x ≡ Ok y → zs ≡ ys ++ y ∷ [] → after ys (each found (drop i xs)) ≡ each found xs → after zs (each found (drop (i + 1) xs)) ≡ each found xs
  unfolding onward
  each_next i x ys zs y h is e more before = rw more (sym (after_one ys y (each found (drop (i + 1) xs))) ∙ (rw (each_at i x h is, e) at before))

  pub each_fails : (i : ℕ) (x : X) (ys : List T) (end : TypeEnd) → i < length looked → x ≡ get_or looked i x → EndsAs (found x) end → after ys (each found (drop i xs)) ≡ each found xs → EndsAs (each found xs) end
  unfolding onward after
  each_fails i x ys (Fault kind at) h is e before = sym before ∙ rw (each_at i x h is, e) refl
  each_fails i x ys NoMemory h is e before = tt

  pub each_end : (i : ℕ) (ys : List T) → length looked ≤ i → after ys (each found (drop i xs)) ≡ each found xs → each found xs ≡ Ok ys
  unfolding onward after each
  each_end i ys h before =
      let over : length xs ≤ i = rw same at h in
      sym before ∙ rw (drop_all i xs over) (ap Ok (append-nil ys))
