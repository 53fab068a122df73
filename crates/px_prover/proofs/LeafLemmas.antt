-- The search for leaf pairs: what is found of some pairs of fields, and of the rest.
use Rattle.std.proofs.Common.{◌≡◌, ℕ, suc, ◌+◌, ◌-◌, ◌<◌, ◌≤◌, arith, List, [], ◌∷◌, ◌++◌, length, map, drop, get_or, Option, Some, None, Result, Ok, Err, IfOk, Bool, true, false, sym, ap, ◌∙◌, subst, refl, append_assoc, append-nil}
use Rattle.std.proofs.lemmas.List.{map-append, length-map, length-append, drop_more, drop_all}
use Rattle.px_terms.specs.declared.term.Term.{Term}
use Rattle.px_terms.specs.Rows.{HaveOneHead}
use Rattle.px_prover.specs.declared.leaf_pairs.Leaf.{Leaf}
use Rattle.px_prover.specs.Closing.{LeafPair, AreLeafPairs, AreLeafPairsOfFields, equal, fields, itself, no_field, more_fields}
use Rattle.px_prover.specs.Leaves.{seen_leaf, TellsLeafPairs, TellsLeafPairsOfFields}
use Rattle.px_prover.proofs.OneBlocker.{left_fields, right_fields, leaves_one}

-- What is found of the first fields leaves the rest to be found.
pub record IsSoFar (path : List ℕ) (ss ts : List Term) (most : ℕ) (i : ℕ) (found : List Leaf) : Type 0 where
  pub makes : (others : List LeafPair) → AreLeafPairsOfFields path i (drop i ss) (drop i ts) others → AreLeafPairsOfFields path 0 ss ts (map seen_leaf found ++ others)
  pub needs : (leaves : List LeafPair) → AreLeafPairsOfFields path 0 ss ts leaves →
      (others : List LeafPair) × AreLeafPairsOfFields path i (drop i ss) (drop i ts) others × (leaves ≡ map seen_leaf found ++ others)
  pub few : length found ≤ most

-- nothing is found of none
pub so_far_start : (path : List ℕ) (ss ts : List Term) (most : ℕ) (found : List Leaf) → found ≡ [] → IsSoFar path ss ts most 0 found
so_far_start path ss ts most found empty = record {
  makes = λ others are. subst (λ (fs : List Leaf). AreLeafPairsOfFields path 0 ss ts (map seen_leaf fs ++ others)) (sym empty) are;
  needs = λ leaves are. (leaves, are, ap (λ (fs : List Leaf). map seen_leaf fs ++ leaves) (sym empty));
  few = let none : length found ≡ 0 = ap (λ (fs : List Leaf). length fs) empty in omega (arith, none);
}

-- the leaf pairs of a first pair of fields and of the others
first_and_others : {path : List ℕ} {i : ℕ} {s t : Term} {ss ts : List Term} {leaves : List LeafPair} → AreLeafPairsOfFields path i (s ∷ ss) (t ∷ ts) leaves →
    (first : List LeafPair) × (others : List LeafPair) × AreLeafPairs (path ++ i ∷ []) s t first × AreLeafPairsOfFields path (i + 1) ss ts others × (leaves ≡ first ++ others)
first_and_others (more_fields {first = first} {others = others} a b e) = (first, others, a, b, e)

module _ (path : List ℕ) (ss ts : List Term) (most i : ℕ) (s t : Term) (within : i < length ss) (even : length ss ≡ length ts) (s_is : s ≡ get_or ss i s) (t_is : t ≡ get_or ts i t) where
  left_drop : drop i ss ≡ s ∷ drop (i + 1) ss
  left_drop = drop_more ss i s within ∙ ap (λ (x : Term). x ∷ drop (i + 1) ss) (sym s_is)

  right_drop : drop i ts ≡ t ∷ drop (i + 1) ts
  right_drop = drop_more ts i t (subst (λ (n : ℕ). i < n) even within) ∙ ap (λ (x : Term). x ∷ drop (i + 1) ts) (sym t_is)

  at_front : (leaves : List LeafPair) → AreLeafPairsOfFields path i (drop i ss) (drop i ts) leaves → AreLeafPairsOfFields path i (s ∷ drop (i + 1) ss) (t ∷ drop (i + 1) ts) leaves
  at_front leaves are = subst (λ (xs : List Term). AreLeafPairsOfFields path i xs (t ∷ drop (i + 1) ts) leaves) left_drop (subst (λ (ys : List Term). AreLeafPairsOfFields path i (drop i ss) ys leaves) right_drop are)

  from_front : (leaves : List LeafPair) → AreLeafPairsOfFields path i (s ∷ drop (i + 1) ss) (t ∷ drop (i + 1) ts) leaves → AreLeafPairsOfFields path i (drop i ss) (drop i ts) leaves
  from_front leaves are = subst (λ (xs : List Term). AreLeafPairsOfFields path i xs (drop i ts) leaves) (sym left_drop) (subst (λ (ys : List Term). AreLeafPairsOfFields path i (s ∷ drop (i + 1) ss) ys leaves) (sym right_drop) are)

  joined : (found more new : List Leaf) (others : List LeafPair) → new ≡ found ++ more → map seen_leaf new ++ others ≡ map seen_leaf found ++ (map seen_leaf more ++ others)
  joined found more new others is = ap (λ (fs : List Leaf). map seen_leaf fs ++ others) is ∙ (ap (λ (ls : List LeafPair). ls ++ others) (map-append seen_leaf found more) ∙ append_assoc (map seen_leaf found) (map seen_leaf more) others)

  -- one more pair of fields
  pub so_far_next : (below : List ℕ) (found more new : List Leaf) → below ≡ path ++ i ∷ [] → IsSoFar path ss ts most i found → AreLeafPairs below s t (map seen_leaf more) × (length more ≤ most - length found) →
      new ≡ found ++ more → IsSoFar path ss ts most (i + 1) new
  so_far_next below found more new place before (are, few) is =
      let here : AreLeafPairs (path ++ i ∷ []) s t (map seen_leaf more) = subst (λ (p : List ℕ). AreLeafPairs p s t (map seen_leaf more)) place are in
      let room : length found ≤ most = before.few in
      let long : length new ≡ length found + length more = ap (λ (fs : List Leaf). length fs) is ∙ length-append found more in
      record {
        makes = λ others rest. subst (AreLeafPairsOfFields path 0 ss ts) (sym (joined found more new others is)) (before.makes (map seen_leaf more ++ others) (from_front (map seen_leaf more ++ others) (more_fields here rest refl)));
        needs = λ leaves all.
            let rest = before.needs leaves all in
            let parts = first_and_others (at_front rest.0 rest.1) in
            let same : parts.0 ≡ map seen_leaf more = leaves_one (path ++ i ∷ []) parts.2 here refl refl in
            (parts.1, parts.3, rest.2 ∙ (ap (λ (ls : List LeafPair). map seen_leaf found ++ ls) (parts.4 ∙ ap (λ (ls : List LeafPair). ls ++ parts.1) same) ∙ sym (joined found more new parts.1 is)));
        few = omega (arith, few, room, long);
      }

  -- a pair of fields with too many leaf pairs
  pub too_many : (below : List ℕ) (found : List Leaf) → below ≡ path ++ i ∷ [] → IsSoFar path ss ts most i found →
      ((leaves : List LeafPair) → AreLeafPairs below s t leaves → most - length found < length leaves) → (leaves : List LeafPair) → AreLeafPairsOfFields path 0 ss ts leaves → most < length leaves
  too_many below found place before above leaves all =
      let rest = before.needs leaves all in
      let parts = first_and_others (at_front rest.0 rest.1) in
      let more : most - length found < length parts.0 = above parts.0 (subst (λ (p : List ℕ). AreLeafPairs p s t parts.0) (sym place) parts.2) in
      let whole : length leaves ≡ length found + (length parts.0 + length parts.1) =
      ap (λ (ls : List LeafPair). length ls) (rest.2 ∙ ap (λ (ls : List LeafPair). map seen_leaf found ++ ls) parts.4) ∙
      (length-append (map seen_leaf found) (parts.0 ++ parts.1) ∙ (λ k. (length-map found seen_leaf k) + (length-append parts.0 parts.1 k))) in
      omega (arith, more, whole)

-- all pairs of fields
pub so_far_end : (path : List ℕ) (ss ts : List Term) (most i : ℕ) (found : List Leaf) → length ss ≤ i → length ss ≡ length ts → IsSoFar path ss ts most i found →
    AreLeafPairsOfFields path 0 ss ts (map seen_leaf found) × (length found ≤ most)
so_far_end path ss ts most i found over even before =
    let none : AreLeafPairsOfFields path i (drop i ss) (drop i ts) [] =
    subst (λ (xs : List Term). AreLeafPairsOfFields path i xs (drop i ts) []) (sym (drop_all i ss over)) (subst (λ (ys : List Term). AreLeafPairsOfFields path i [] ys []) (sym (drop_all i ts (subst (λ (n : ℕ). n ≤ i) even over))) no_field) in
    (subst (AreLeafPairsOfFields path 0 ss ts) (append-nil (map seen_leaf found)) (before.makes [] none), before.few)

-- fields are in pairs
fields_even : {path : List ℕ} {i : ℕ} {ss ts : List Term} {leaves : List LeafPair} → AreLeafPairsOfFields path i ss ts leaves → length ss ≡ length ts
fields_even no_field = refl
fields_even (more_fields first others e) = ap (λ (n : ℕ). suc n) (fields_even others)

pub fields_uneven : (path : List ℕ) (ss ts : List Term) (most : ℕ) → ¬ (length ss ≡ length ts) → (leaves : List LeafPair) → AreLeafPairsOfFields path 0 ss ts leaves → most < length leaves
fields_uneven path ss ts most uneven leaves are = absurd (uneven (fields_even are))

-- a pair of one constructor has the leaf pairs of its fields
pub of_fields : (path : List ℕ) (s t : Term) (ss ts : List Term) (most : ℕ) (found : Option (List Leaf)) → ¬ (s ≡ t) → HaveOneHead s t ss ts → TellsLeafPairsOfFields path ss ts most found → TellsLeafPairs path s t most found
of_fields path s t ss ts most None differ head above = λ leaves are. of_fields_none leaves are
  where
    of_fields_none : (leaves : List LeafPair) → AreLeafPairs path s t leaves → most < length leaves
    of_fields_none leaves (equal same e) = absurd (differ same)
    of_fields_none leaves (fields {fields = ls} {parts = ps} q h rest) = above leaves (subst (λ (xs : List Term). AreLeafPairsOfFields path 0 xs ts leaves) (left_fields h head refl) (subst (λ (ys : List Term). AreLeafPairsOfFields path 0 ls ys leaves) (right_fields h head refl) rest))
    of_fields_none leaves (itself q h e) = absurd (h ss ts head)
of_fields path s t ss ts most (Some found) differ head (are, few) = (fields differ head are, few)

-- a pair that is its own leaf pair has too many for none
pub none_for_itself : (path : List ℕ) (s t : Term) (most : ℕ) → ¬ (s ≡ t) → ((ss ts : List Term) → ¬ HaveOneHead s t ss ts) → most ≡ 0 → (leaves : List LeafPair) → AreLeafPairs path s t leaves → most < length leaves
none_for_itself path s t most differ apart zero leaves (equal same e) = absurd (differ same)
none_for_itself path s t most differ apart zero leaves (fields {fields = ss} {parts = ts} q h rest) = absurd (apart ss ts h)
none_for_itself path s t most differ apart zero leaves (itself q h e) = let one : length leaves ≡ 1 = ap (λ (ls : List LeafPair). length ls) e in omega (arith, one, zero)

-- the same of what a call answers
pub of_fields_answer : (path : List ℕ) (s t : Term) (heads_left heads_right ss ts : List Term) (most : ℕ) {E : Type 0} (result : Result (Option (List Leaf)) E) → ¬ (s ≡ t) → HaveOneHead s t heads_left heads_right → ss ≡ heads_left → ts ≡ heads_right →
    IfOk result (TellsLeafPairsOfFields path ss ts most) → IfOk result (TellsLeafPairs path s t most)
of_fields_answer path s t ls rs ss ts most (Ok found) differ head left right tells =
    of_fields path s t ss ts most found differ (subst (λ (xs : List Term). HaveOneHead s t xs ts) (sym left) (subst (λ (ys : List Term). HaveOneHead s t ls ys) (sym right) head)) tells
of_fields_answer path s t ls rs ss ts most (Err end) differ head left right tells = tt

-- a pair of one term has none
pub none_of_equal : (path : List ℕ) (s t : Term) (most : ℕ) (found : List Leaf) → s ≡ t → found ≡ [] → AreLeafPairs path s t (map seen_leaf found) × (length found ≤ most)
none_of_equal path s t most found same empty =
    let none : length found ≡ 0 = ap (λ (fs : List Leaf). length fs) empty in
    (equal same (ap (λ (fs : List Leaf). map seen_leaf fs) empty), omega (arith, none))

-- a test is not true and false
pub not_both : {b : Bool} → b ≡ false → b ≡ true → ⊥
not_both a e = cc

-- a pair that is its own leaf pair
pub itself_alone : (path : List ℕ) (s t : Term) (most : ℕ) (start new : List Leaf) (leaf : Leaf) → ¬ (s ≡ t) → ((ss ts : List Term) → ¬ HaveOneHead s t ss ts) → ¬ (most ≡ 0) → start ≡ [] → new ≡ start ++ leaf ∷ [] →
    seen_leaf leaf ≡ record { path = path; left = s; right = t } → AreLeafPairs path s t (map seen_leaf new) × (length new ≤ most)
itself_alone path s t most start new leaf differ apart some empty is seen =
    let whole : new ≡ leaf ∷ [] = is ∙ ap (λ (fs : List Leaf). fs ++ leaf ∷ []) empty in
    let one : length new ≡ 1 = ap (λ (fs : List Leaf). length fs) whole in
    (itself differ apart (ap (λ (fs : List Leaf). map seen_leaf fs) whole ∙ ap (λ (l : LeafPair). l ∷ []) seen), omega (arith, one, some))
