-- The self-calls of a term, part by part: in its parts in order, and in the arms of a match.
use Rattle.std.proofs.Common.{◌≡◌, ℕ, ◌+◌, ◌<◌, List, [], ◌∷◌, ◌++◌, map, length, get_or, take, drop, replicate, refl, sym, ap, ◌∙◌, arith, append_assoc, add-zero}
use Rattle.std.proofs.lemmas.List.{take_more, take-append-drop, append-nil, map-append, length-map, length-take}
use Rattle.std.proofs.lemmas.Grind.{flat_map-append}
use Rattle.px_terms.specs.declared.term.Term.{Term, out-Term}
use Rattle.px_terms.specs.declared.term.Term.TheOpen.{Term-F}
use Rattle.px_terms.specs.declared.term.Term.TheFolds.{map-Term, fold_out-Term}
use Rattle.px_terms.specs.declared.program.Program.{Program}
use Rattle.px_terms.specs.Descent.{Standing, Seen, walk, walk_step, under, calls_in, calls_in_arms, field_count}
use Rattle.px_descent.specs.Kept.{own_call_of, own_call}

-- one part more
calls_push : (parts : List Seen) (part : Seen) (bound : List Standing) →
    calls_in (parts ++ part ∷ []) bound ≡ calls_in parts bound ++ (part bound).calls
calls_push parts part bound =
    flat_map-append (λ (s : Seen). (s bound).calls) parts (part ∷ []) ∙ ap (λ calls. calls_in parts bound ++ calls) (append-nil (part bound).calls)

-- what is around an arm
abbrev pub around_arm : Program → ℕ → ℕ → Standing → List Standing → List Standing
around_arm P d k on bound = replicate (field_count P d k) (under on) ++ bound

module _ (P : Program) (d : ℕ) (on : Standing) (bound : List Standing) where
  -- one arm more
  arms_push : (k : ℕ) (arms : List Seen) (arm : Seen) →
      calls_in_arms P d k (arms ++ arm ∷ []) on bound
      ≡ calls_in_arms P d k arms on bound ++ (arm (around_arm P d (k + length arms) on bound)).calls
  arms_push k [] arm = rw (add-zero, append-nil) refl
  arms_push k (first ∷ arms) arm =
      let here : List (List Standing) = (first (around_arm P d k on bound)).calls in
      let rest : List (List Standing) = calls_in_arms P d (k + 1) arms on bound in
      let one : (k + 1) + length arms ≡ k + length (first ∷ arms) = omega arith in
      ap (λ calls. here ++ calls) (arms_push (k + 1) arms arm)
      ∙ ap (λ i. here ++ (rest ++ (arm (around_arm P d i on bound)).calls)) one
      ∙ sym (append_assoc here rest (arm (around_arm P d (k + length (first ∷ arms)) on bound)).calls)

  -- the self-calls in the first of the arms, and then those in the others
  arms_split : (k : ℕ) (arms others : List Seen) →
      calls_in_arms P d k (arms ++ others) on bound
      ≡ calls_in_arms P d k arms on bound ++ calls_in_arms P d (k + length arms) others on bound
  arms_split k [] others = rw add-zero refl
  arms_split k (first ∷ arms) others =
      let here : List (List Standing) = (first (around_arm P d k on bound)).calls in
      let rest : List (List Standing) = calls_in_arms P d (k + 1) arms on bound in
      let one : (k + 1) + length arms ≡ k + length (first ∷ arms) = omega arith in
      ap (λ calls. here ++ calls) (arms_split (k + 1) arms others)
      ∙ ap (λ i. here ++ (rest ++ calls_in_arms P d i others on bound)) one
      ∙ sym (append_assoc here rest (calls_in_arms P d (k + length (first ∷ arms)) others on bound))

module _ (P : Program) (n : ℕ) where
  -- the self-calls in the first parts, and then those in the others
  pub parts_split : (k : ℕ) (parts : List Term) (bound : List Standing) →
      calls_in (map (walk P n) parts) bound
      ≡ calls_in (map (walk P n) (take k parts)) bound ++ calls_in (map (walk P n) (drop k parts)) bound
  parts_split k parts bound =
      ap (λ ts. calls_in (map (walk P n) ts) bound) (sym (take-append-drop k parts))
      ∙ ap (λ seen. calls_in seen bound) (map-append (walk P n) (take k parts) (drop k parts))
      ∙ flat_map-append (λ (s : Seen). (s bound).calls) (map (walk P n) (take k parts)) (map (walk P n) (drop k parts))

  -- so for arms
  pub cases_split : (d k : ℕ) (arms : List Term) (on : Standing) (bound : List Standing) →
      let first : List Seen = map (walk P n) (take k arms) in
      calls_in_arms P d 0 (map (walk P n) arms) on bound
      ≡ calls_in_arms P d 0 first on bound ++ calls_in_arms P d (0 + length first) (map (walk P n) (drop k arms)) on bound
  cases_split d k arms on bound =
      ap (λ ts. calls_in_arms P d 0 (map (walk P n) ts) on bound) (sym (take-append-drop k arms))
      ∙ ap (λ seen. calls_in_arms P d 0 seen on bound) (map-append (walk P n) (take k arms) (drop k arms))
      ∙ arms_split P d on bound 0 (map (walk P n) (take k arms)) (map (walk P n) (drop k arms))

  -- the self-calls in the parts up to one and in this one are those in the parts up to the next
  pub parts_more : (parts : List Term) (i : ℕ) (part : Term) (bound : List Standing) → i < length parts → part ≡ get_or parts i part →
      calls_in (map (walk P n) (take (i + 1) parts)) bound
      ≡ calls_in (map (walk P n) (take i parts)) bound ++ (walk P n part bound).calls
  parts_more parts i part bound below is =
      let taken : take (i + 1) parts ≡ take i parts ++ part ∷ [] = take_more parts i part below ∙ ap (λ t. take i parts ++ t ∷ []) (sym is) in
      ap (λ ts. calls_in (map (walk P n) ts) bound) taken
      ∙ ap (λ seen. calls_in seen bound) (map-append (walk P n) (take i parts) (part ∷ []))
      ∙ calls_push (map (walk P n) (take i parts)) (walk P n part) bound

  -- so for arms
  pub arms_more : (d : ℕ) (arms : List Term) (i : ℕ) (arm : Term) (on : Standing) (bound : List Standing) → i < length arms →
      arm ≡ get_or arms i arm →
      calls_in_arms P d 0 (map (walk P n) (take (i + 1) arms)) on bound
      ≡ calls_in_arms P d 0 (map (walk P n) (take i arms)) on bound ++ (walk P n arm (around_arm P d i on bound)).calls
  arms_more d arms i arm on bound below is =
      let taken : take (i + 1) arms ≡ take i arms ++ arm ∷ [] = take_more arms i arm below ∙ ap (λ t. take i arms ++ t ∷ []) (sym is) in
      let before : List Seen = map (walk P n) (take i arms) in
      let count : 0 + length before ≡ i = simp (length-map, length-take) (omega arith) in
      ap (λ ts. calls_in_arms P d 0 (map (walk P n) ts) on bound) taken
      ∙ ap (λ seen. calls_in_arms P d 0 seen on bound) (map-append (walk P n) (take i arms) (arm ∷ []))
      ∙ arms_push P d on bound 0 before (walk P n arm)
      ∙ ap (λ k. calls_in_arms P d 0 before on bound ++ (walk P n arm (around_arm P d k on bound)).calls) count

  -- the self-calls in a layer, but for itself
  abbrev pub rest_calls : Term-F Term → List Standing → List (List Standing)
  rest_calls (Term-F.Free p) bound = []
  rest_calls (Term-F.Bound i) bound = []
  rest_calls (Term-F.Lit w) bound = []
  rest_calls (Term-F.Con d k types fields) bound = calls_in (map (walk P n) fields) bound
  rest_calls (Term-F.Call f funs args) bound = calls_in (map (walk P n) args) bound
  rest_calls (Term-F.Match on d types arms) bound =
      (walk P n on bound).calls ++ calls_in_arms P d 0 (map (walk P n) arms) (walk P n on bound).stands bound

  layer_is : (y : Term-F Term) (bound : List Standing) →
      (walk_step P n (map-Term Term Seen (walk P n) y) bound).calls ≡ own_call_of P n y bound ++ rest_calls y bound
  layer_is (Term-F.Free p) bound = refl
  layer_is (Term-F.Bound i) bound = refl
  layer_is (Term-F.Lit w) bound = refl
  layer_is (Term-F.Con d k types fields) bound = refl
  layer_is (Term-F.Call f funs args) bound = refl
  layer_is (Term-F.Match on d types arms) bound = refl

  -- the self-calls of a term: itself, where it is one, and then the rest
  pub calls_are : (t : Term) (y : Term-F Term) (bound : List Standing) → out-Term t ≡ y →
      (walk P n t bound).calls ≡ own_call P n t bound ++ rest_calls y bound
  calls_are t y bound is =
      ap (λ (s : Seen). (s bound).calls) (fold_out-Term Seen (walk_step P n) t)
      ∙ layer_is (out-Term t) bound
      ∙ ap (λ (z : Term-F Term). own_call P n t bound ++ rest_calls z bound) is
