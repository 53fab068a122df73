-- Rooms of the parts of a term, and terms on their parts.
use Rattle.std.proofs.Common.{◌≡◌, ◌≤◌, ◌+◌, ℕ, zero, suc, max, List, [], ◌∷◌, map, sum, length, Bool, true, false, ◌&&◌, nat_le, Option, Some, slice_get, slice_set, option_and_then, refl, sym, ap, ◌∙◌, arith}
use Rattle.std.specs.Option.{option_map}
use Rattle.std.proofs.lemmas.Bool.{leb-true, le-leb}
use Rattle.std.proofs.lemmas.List.Sums.{sum_by-cons}
use Rattle.px_base.specs.Largest.{largest}
use Rattle.px_terms.specs.declared.types.Ty.{Ty}
use Rattle.px_terms.specs.declared.types.Fun.{Fun}
use Rattle.px_terms.specs.declared.term.Term.{Term, out-Term}
use Rattle.px_terms.specs.declared.term.Term.TheVariants as term
use Rattle.px_terms.specs.declared.term.Term.TheOpen.{Term-F}
use Rattle.px_terms.specs.declared.term.Term.TheFolds.{map-Term, fold_out-Term}
use Rattle.px_terms.specs.Types.{tys_size, tys_depth, fun_size, fun_depth}
use Rattle.px_terms.specs.Terms.{term_size, terms_size, term_depth, terms_depth, term_size_step, term_depth_step, children_of, children, with_child_of, with_child}
use Rattle.px_terms.specs.TreeEquations.{term_size-Con, term_size-Call, term_depth-Con, term_depth-Call, term_depth-Match}
use Rattle.px_rewrite.proofs.PartSizes.{Exchanged, part_exchanged}
use Rattle.px_prover.specs.Rooms.{Room, room_in}
use Rattle.px_prover.specs.Normalising.{IsRoom}
use Rattle.px_prover.specs.Turning.{IsFrame}

-- two truth values that are true alike are the same
same_truth : (x y : Bool) → (x ≡ true → y ≡ true) → (y ≡ true → x ≡ true) → x ≡ y
same_truth true true there back = refl
same_truth true false there back = sym (there refl)
same_truth false true there back = back refl
same_truth false false there back = refl

-- two comparisons that are true alike are the same
same_le : (a b c d : ℕ) → (a ≤ b → c ≤ d) → (c ≤ d → a ≤ b) → nat_le a b ≡ nat_le c d
same_le a b c d there back =
    same_truth (nat_le a b) (nat_le c d) (λ h. le-leb c d (there (leb-true a b h))) (λ h. le-leb a b (back (leb-true c d h)))

-- a child exchanged: the nodes of the one go, those of the other come
pub exchanged : (t c by : Term) (i : ℕ) → slice_get (children t) i ≡ Some c → Exchanged (term_size t) (term_size c) (term_size by) (term_size (with_child t i by))
exchanged t c by i found =
    part_exchanged (i ∷ []) t c by (with_child t i by) (ap (λ (o : Option Term). option_and_then (λ (child : Term). Some child) o) found) (ap (λ (o : Option Term). option_and_then (λ (child : Term). option_map (with_child t i) (Some by)) o) found)

-- an item of a list exchanged
pub in_list : (ts : List Term) (i : ℕ) (c by : Term) → slice_get ts i ≡ Some c → Exchanged (terms_size ts) (term_size c) (term_size by) (terms_size (slice_set ts i by))
in_list [] i c by found = cc
in_list (t ∷ ts) zero c by found =
    let is : t ≡ c = cc in
    let nodes : term_size t ≡ term_size c = ap term_size is in
    let before : terms_size (t ∷ ts) ≡ term_size t + terms_size ts = sum_by-cons (λ (x : ℕ). x) (term_size t) (map term_size ts) in
    let after : terms_size (by ∷ ts) ≡ term_size by + terms_size ts = sum_by-cons (λ (x : ℕ). x) (term_size by) (map term_size ts) in
    record { same = omega (arith, before, after, nodes); within = omega (arith, before, nodes) }
in_list (t ∷ ts) (suc i) c by found =
    let before : terms_size (t ∷ ts) ≡ term_size t + terms_size ts = sum_by-cons (λ (x : ℕ). x) (term_size t) (map term_size ts) in
    let after : terms_size (t ∷ slice_set ts i by) ≡ term_size t + terms_size (slice_set ts i by) = sum_by-cons (λ (x : ℕ). x) (term_size t) (map term_size (slice_set ts i by)) in
    let rest = in_list ts i c by found in
    record { same = omega (arith, before, after, rest.same); within = omega (arith, before, rest.within) }

-- The levels of several terms where one is exchanged for another, in which at most so many were.
pub record LevelsExchanged (before old put after most : ℕ) : Type 0 where
  pub was : old ≤ most
  pub there : put ≤ most → after ≤ most
  pub back : after ≤ most → put ≤ most

pub levels_in_list : (ts : List Term) (i l : ℕ) (c by : Term) → slice_get ts i ≡ Some c → terms_depth ts ≤ l →
    LevelsExchanged (terms_depth ts) (term_depth c) (term_depth by) (terms_depth (slice_set ts i by)) l
levels_in_list [] i l c by found few = cc
levels_in_list (t ∷ ts) zero l c by found few =
    let is : t ≡ c = cc in
    let same : term_depth t ≡ term_depth c = ap term_depth is in
    record { was = omega arith; there = λ h. omega arith; back = λ h. omega arith }
levels_in_list (t ∷ ts) (suc i) l c by found few =
    let rest = levels_in_list ts i l c by found (omega arith) in
    record {
      was = rest.was;
      there = λ h. let below = rest.there h in omega arith;
      back = λ h. rest.back (omega arith);
    }

-- the levels of a term, by its layer
abbrev layer_depth : Term-F Term → ℕ
layer_depth (Term-F.Free n) = 1
layer_depth (Term-F.Bound n) = 1
layer_depth (Term-F.Lit w) = 1
layer_depth (Term-F.Con d k types fields) = 1 + max (tys_depth types) (terms_depth fields)
layer_depth (Term-F.Call f funs args) = 1 + max (tys_depth f.types) (max (largest (map fun_depth funs)) (terms_depth args))
layer_depth (Term-F.Match on d types arms) = 1 + max (term_depth on) (max (tys_depth types) (terms_depth arms))

layer_is : (y : Term-F Term) → term_depth_step (map-Term Term ℕ term_depth y) ≡ layer_depth y
layer_is (Term-F.Free n) = refl
layer_is (Term-F.Bound n) = refl
layer_is (Term-F.Lit w) = refl
layer_is (Term-F.Con d k types fields) = refl
layer_is (Term-F.Call f funs args) = refl
layer_is (Term-F.Match on d types arms) = refl

depth_by_layer : (t : Term) → term_depth t ≡ layer_depth (out-Term t)
depth_by_layer t = fold_out-Term ℕ term_depth_step t ∙ layer_is (out-Term t)

one_below : (y : Term-F Term) → 1 ≤ layer_depth y
one_below (Term-F.Free n) = omega arith
one_below (Term-F.Bound n) = omega arith
one_below (Term-F.Lit w) = omega arith
one_below (Term-F.Con d k types fields) = omega arith
one_below (Term-F.Call f funs args) = omega arith
one_below (Term-F.Match on d types arms) = omega arith

-- a term has a level
pub has_level : (t : Term) → 1 ≤ term_depth t
has_level t = let is = depth_by_layer t in let some = one_below (out-Term t) in omega arith

-- The levels of a child, and of the term with another one in its place.
pub record ChildLevels (old put after most : ℕ) : Type 0 where
  pub was : old ≤ most
  pub there : put ≤ most → after ≤ 1 + most
  pub back : after ≤ 1 + most → put ≤ most

levels_in_layer : (y : Term-F Term) (t c by : Term) (i l : ℕ) → slice_get (children_of y) i ≡ Some c → layer_depth y ≤ 1 + l →
    ChildLevels (term_depth c) (term_depth by) (term_depth (with_child_of y t i by)) l
levels_in_layer (Term-F.Free n) t c by i l found few = cc
levels_in_layer (Term-F.Bound n) t c by i l found few = cc
levels_in_layer (Term-F.Lit w) t c by i l found few = cc
levels_in_layer (Term-F.Con d k types fields) t c by i l found few =
    let rest = levels_in_list fields i l c by found (omega arith) in
    let after = term_depth-Con d k types (slice_set fields i by) in
    record { was = rest.was; there = λ h. let below = rest.there h in omega arith; back = λ h. rest.back (omega arith) }
levels_in_layer (Term-F.Call f funs args) t c by i l found few =
    let rest = levels_in_list args i l c by found (omega arith) in
    let after = term_depth-Call f funs (slice_set args i by) in
    record { was = rest.was; there = λ h. let below = rest.there h in omega arith; back = λ h. rest.back (omega arith) }
levels_in_layer (Term-F.Match on d types arms) t c by zero l found few =
    let is : on ≡ c = cc in
    let same : term_depth on ≡ term_depth c = ap term_depth is in
    let after = term_depth-Match by d types arms in
    record { was = omega arith; there = λ h. omega arith; back = λ h. omega arith }
levels_in_layer (Term-F.Match on d types arms) t c by (suc i) l found few = cc

-- the levels of a child of a term of so many levels
pub child_levels : (t c by : Term) (i l : ℕ) → slice_get (children t) i ≡ Some c → term_depth t ≤ 1 + l →
    ChildLevels (term_depth c) (term_depth by) (term_depth (with_child t i by)) l
child_levels t c by i l found few = let is = depth_by_layer t in levels_in_layer (out-Term t) t c by i l found (omega arith)

-- the room of a child
pub child_room : {room : Room} {l : ℕ} (spare : ℕ) (t c : Term) (i : ℕ) → slice_get (children t) i ≡ Some c → term_depth t ≤ 1 + l → IsRoom room (spare + term_size t) (1 + l) →
    IsRoom (room_in room t i) (spare + term_size c) l
child_room {room} {l} spare t c i found few is = record {
  is = λ by.
      let nodes = exchanged t c by i found in
      let levels = child_levels t c by i l found few in
      let nodes_same : nat_le (term_size (with_child t i by)) (spare + term_size t) ≡ nat_le (term_size by) (spare + term_size c) =
      same_le (term_size (with_child t i by)) (spare + term_size t) (term_size by) (spare + term_size c) (λ h. omega (arith, nodes.same, nodes.within)) (λ h. omega (arith, nodes.same, nodes.within)) in
      let levels_same : nat_le (term_depth (with_child t i by)) (1 + l) ≡ nat_le (term_depth by) l =
      same_le (term_depth (with_child t i by)) (1 + l) (term_depth by) l levels.back levels.there in
      is.is (with_child t i by) ∙ (λ k. nodes_same k && levels_same k);
}

-- constructors on their fields
pub con_frame : (d k : ℕ) (types : List Ty) → IsFrame (term.Con d k types) (1 + tys_size types) (tys_depth types)
con_frame d k types = record {
  children = λ ts. ap children_of (term.outs-Con d k types ts);
  put = λ ts i t. ap (λ (y : Term-F Term). with_child_of y (term.Con d k types ts) i t) (term.outs-Con d k types ts);
  nodes = λ ts. let is = term_size-Con d k types ts in omega (arith, is);
  levels = λ ts. term_depth-Con d k types ts;
}

-- calls on their arguments
pub call_frame : (f : Fun) (funs : List Fun) → IsFrame (term.Call f funs) (1 + (tys_size f.types + sum (map fun_size funs))) (max (tys_depth f.types) (largest (map fun_depth funs)))
call_frame f funs = record {
  children = λ ts. ap children_of (term.outs-Call f funs ts);
  put = λ ts i t. ap (λ (y : Term-F Term). with_child_of y (term.Call f funs ts) i t) (term.outs-Call f funs ts);
  nodes = λ ts. let is = term_size-Call f funs ts in omega (arith, is);
  levels = λ ts. let is = term_depth-Call f funs ts in omega (arith, is);
}

size_by_step : (y : Term-F ℕ) → 1 ≤ term_size_step y
size_by_step (Term-F.Free n) = omega arith
size_by_step (Term-F.Bound n) = omega arith
size_by_step (Term-F.Lit w) = omega arith
size_by_step (Term-F.Con d k types fields) = omega arith
size_by_step (Term-F.Call f funs args) = omega arith
size_by_step (Term-F.Match on d types arms) = omega arith

one_node : (t : Term) → 1 ≤ term_size t
one_node t =
    let is = fold_out-Term ℕ term_size_step t in
    let some = size_by_step (map-Term Term ℕ term_size (out-Term t)) in
    omega (arith, is, some)

-- several terms have a node each
pub has_node : (ts : List Term) → length ts ≤ terms_size ts
has_node [] = omega arith
has_node (t ∷ ts) =
    let before : terms_size (t ∷ ts) ≡ term_size t + terms_size ts = sum_by-cons (λ (x : ℕ). x) (term_size t) (map term_size ts) in
    let rest = has_node ts in
    let one = one_node t in
    omega (arith, before, rest, one)
