-- Trees of stops, and what blocks a normal term.
use Rattle.std.proofs.Common.{◌≡◌, ◌≤◌, ◌<◌, ◌+◌, ◌-◌, ℕ, zero, suc, List, [], ◌∷◌, map, length, take, get_or, Bool, true, false, if◌then◌else◌, ◌&&◌, Option, Some, None, refl, sym, ap, ◌∙◌, subst, arith, slice_get, inl, inr, ◌⊎◌}
use Rattle.std.specs.List.{list_all}
use Rattle.std.specs.Option.{option_or}
use Rattle.px_base.specs.declared.head.Head.{Head}
use Rattle.px_base.specs.declared.head.Head.TheVariants.{Def, Wle, Weq, FnVar}
use Rattle.px_terms.specs.declared.types.Ty.{Ty}
use Rattle.px_terms.specs.declared.types.Fun.{Fun}
use Rattle.px_terms.specs.declared.term.Term.{Term, out-Term}
use Rattle.px_terms.specs.declared.term.Term.TheVariants as term
use Rattle.px_terms.specs.declared.term.Term.TheOpen.{Term-F}
use Rattle.px_terms.specs.declared.term.Term.TheFolds.{map-Term, fold_out-Term}
use Rattle.px_prover.specs.declared.stages.StopTree.{StopTree, out-StopTree}
use Rattle.px_prover.specs.declared.stages.StopTree.TheOpen.{StopTree-F}
use Rattle.px_prover.specs.declared.stages.StopTree.TheFolds.{map-StopTree, fold_out-StopTree}
use Rattle.px_prover.specs.Norms.{Stops, no_stop, match_free_step, is_match_free, are_match_free, first_stop, blocked_by_call, blocked_by, inner, stops_of_part, stops_with, stop_of}
use Rattle.px_prover.specs.Normalising.{stops_step, stops_in, stops_of}

-- what a tree of stops says, by its parts
pub tree_is : (tree : StopTree) → stops_in tree ≡ stops_with (out-StopTree tree).own (map stops_in (out-StopTree tree).parts)
tree_is tree = fold_out-StopTree Stops stops_step tree

-- what it says of the whole term
pub own_is : (tree : StopTree) → stops_in tree [] ≡ (out-StopTree tree).own
own_is tree = ap (λ (s : Stops). s []) (tree_is tree)

nothing_at : (path : List ℕ) → stops_with None [] path ≡ no_stop path
nothing_at [] = refl
nothing_at (i ∷ path) = refl

-- nothing is blocked where no part is
pub nothing : stops_with None [] ≡ no_stop
nothing = λ k path. nothing_at path k

-- what one of several trees says of its whole term
pub part_own : (parts : List StopTree) (i : ℕ) (part : StopTree) → slice_get parts i ≡ Some part → stops_of parts (i ∷ []) ≡ (out-StopTree part).own
part_own [] i part found = cc
part_own (p ∷ ps) zero part found = let same : p ≡ part = cc in ap (λ (x : StopTree). stops_in x []) same ∙ own_is part
part_own (p ∷ ps) (suc i) part found = part_own ps i part found

-- there is no such part
pub part_none : (parts : List StopTree) (i : ℕ) → slice_get parts i ≡ None → stops_of parts (i ∷ []) ≡ None
part_none [] i none = refl
part_none (p ∷ ps) zero none = cc
part_none (p ∷ ps) (suc i) none = part_none ps i none

-- what the trees say, as parts of one term
pub part_of : (parts : List StopTree) (i : ℕ) (part : StopTree) → slice_get parts i ≡ Some part → stops_of_part (map stops_in parts) i ≡ stops_in part
part_of [] i part found = cc
part_of (p ∷ ps) zero part found = let same : p ≡ part = cc in ap stops_in same
part_of (p ∷ ps) (suc i) part found = part_of ps i part found

pub part_of_none : (parts : List StopTree) (i : ℕ) → slice_get parts i ≡ None → stops_of_part (map stops_in parts) i ≡ no_stop
part_of_none [] i none = refl
part_of_none (p ∷ ps) zero none = cc
part_of_none (p ∷ ps) (suc i) none = part_of_none ps i none

-- the first stop from here on, where this one is none
pub first_next : (stops : Stops) (i count : ℕ) → i < count → stops (i ∷ []) ≡ None → first_stop stops i (count - i) ≡ first_stop stops (i + 1) (count - (i + 1))
first_next stops i count within none =
    let more : count - i ≡ suc (count - (i + 1)) = omega arith in
    ap (first_stop stops i) more ∙ ap (λ (o : Option Term). option_or o (first_stop stops (i + 1) (count - (i + 1)))) none

-- the first stop from here on, where this one is some
pub first_here : (stops : Stops) (i count : ℕ) (t : Term) → i < count → stops (i ∷ []) ≡ Some t → first_stop stops i (count - i) ≡ Some t
first_here stops i count t within some =
    let more : count - i ≡ suc (count - (i + 1)) = omega arith in
    ap (first_stop stops i) more ∙ ap (λ (o : Option Term). option_or o (first_stop stops (i + 1) (count - (i + 1)))) some

-- the stop of a call is asked of the parts alone
pub same_first : (tree : StopTree) (i count : ℕ) → first_stop (stops_in tree) i count ≡ first_stop (stops_of (out-StopTree tree).parts) i count
same_first tree i zero = refl
same_first tree i (suc count) = λ k. option_or (ap (λ (s : Stops). s (i ∷ [])) (tree_is tree) k) (same_first tree (i + 1) count k)

-- whether several terms hold no match, as their layers say
list_all_mapped : (ts : List Term) → list_all (λ (part : Bool). part) (map is_match_free ts) ≡ list_all is_match_free ts
list_all_mapped [] = refl
list_all_mapped (t ∷ ts) = ap (λ (b : Bool). is_match_free t && b) (list_all_mapped ts)

-- the layer holds no match
abbrev layer_match_free : Term-F Term → Bool
layer_match_free (Term-F.Con d k types fields) = are_match_free fields
layer_match_free (Term-F.Call f funs args) = are_match_free args
layer_match_free (Term-F.Match on d types arms) = false
layer_match_free layer = true

layer_is : (y : Term-F Term) → match_free_step (map-Term Term Bool is_match_free y) ≡ layer_match_free y
layer_is (Term-F.Free n) = refl
layer_is (Term-F.Bound n) = refl
layer_is (Term-F.Lit w) = refl
layer_is (Term-F.Con d k types fields) = list_all_mapped fields
layer_is (Term-F.Call f funs args) = list_all_mapped args
layer_is (Term-F.Match on d types arms) = refl

-- whether a term holds no match, by its layer
pub match_free_by_layer : (t : Term) (y : Term-F Term) → out-Term t ≡ y → is_match_free t ≡ layer_match_free y
match_free_by_layer t y is = fold_out-Term Bool match_free_step t ∙ layer_is (out-Term t) ∙ ap layer_match_free is

-- a constructor holds a match where a field does
pub con_match_free : (t : Term) (d k : ℕ) (types : List Ty) (fields fs : List Term) (answer : Bool) → t ≡ term.Con d k types fields → fs ≡ fields → answer ≡ are_match_free fs → answer ≡ is_match_free t
con_match_free t d k types fields fs answer is same told = told ∙ ap are_match_free same ∙ sym (match_free_by_layer t (Term-F.Con d k types fields) (ap out-Term is ∙ term.outs-Con d k types fields))

-- a call where an argument does
pub call_match_free : (t : Term) (f : Fun) (funs : List Fun) (args fs : List Term) (answer : Bool) → t ≡ term.Call f funs args → fs ≡ args → answer ≡ are_match_free fs → answer ≡ is_match_free t
call_match_free t f funs args fs answer is same told = told ∙ ap are_match_free same ∙ sym (match_free_by_layer t (Term-F.Call f funs args) (ap out-Term is ∙ term.outs-Call f funs args))

-- one of several terms holds a match
pub one_holds : (ts : List Term) (i : ℕ) (t : Term) → i < length ts → t ≡ get_or ts i t → is_match_free t ≡ false → are_match_free ts ≡ false
one_holds [] i t within is holds = absurd (omega arith)
one_holds (u ∷ us) zero t within is holds = let same : is_match_free u ≡ false = ap is_match_free (sym is) ∙ holds in ap (λ (b : Bool). b && are_match_free us) same
one_holds (u ∷ us) (suc i) t within is holds = not_both (is_match_free u) (one_holds us i t (omega arith) is holds)
  where
    not_both : (a : Bool) {b : Bool} → b ≡ false → (a && b) ≡ false
    not_both true e = e
    not_both false e = refl

both_held : (x y : Bool) → (x && y) ≡ true → (x ≡ true) × (y ≡ true)
both_held true y e = (refl, e)
both_held false y e = cc

both_hold : (x y : Bool) → x ≡ true → y ≡ true → (x && y) ≡ true
both_hold true y e f = f
both_hold false y e f = cc

free_so_far : (ts : List Term) (i : ℕ) (t : Term) → i < length ts → t ≡ get_or ts i t → is_match_free t ≡ true → are_match_free (take i ts) ≡ true → are_match_free (take (suc i) ts) ≡ true
free_so_far [] i t within is free so_far = absurd (omega arith)
free_so_far (u ∷ us) zero t within is free so_far = let same : is_match_free u ≡ true = ap is_match_free (sym is) ∙ free in ap (λ (b : Bool). b && true) same
free_so_far (u ∷ us) (suc i) t within is free so_far =
    let both = both_held (is_match_free u) (are_match_free (take i us)) so_far in
    both_hold (is_match_free u) (are_match_free (take (suc i) us)) both.0 (free_so_far us i t (omega arith) is free both.1)

-- none so far holds a match
pub none_holds : (ts : List Term) (i : ℕ) (t : Term) → i < length ts → t ≡ get_or ts i t → is_match_free t ≡ true → are_match_free (take i ts) ≡ true → are_match_free (take (i + 1) ts) ≡ true
none_holds ts i t within is free so_far = let one : suc i ≡ i + 1 = omega arith in subst (λ (k : ℕ). are_match_free (take k ts) ≡ true) one (free_so_far ts i t within is free so_far)

-- what is called is no definition
abbrev pub IsOther : Head → Type 0
IsOther h = (h ≡ Wle) ⊎ ((h ≡ Weq) ⊎ ((i : ℕ) × (h ≡ FnVar i)))

other_blocks : (h : Head) → IsOther h → (u : Term) (args : List Term) (stops : Stops) → blocked_by_call h u args stops ≡ option_or (first_stop stops 0 (length args)) (if is_match_free u then Some u else None)
other_blocks h (inl is) u args stops = ap (λ (x : Head). blocked_by_call x u args stops) is
other_blocks h (inr (inl is)) u args stops = ap (λ (x : Head). blocked_by_call x u args stops) is
other_blocks h (inr (inr is)) u args stops = ap (λ (x : Head). blocked_by_call x u args stops) is.1

-- what a call of no definition blocks by
pub call_blocks : (u : Term) (tree : StopTree) (f : Fun) (funs : List Fun) (args : List Term) (parts : List StopTree) (count : ℕ) (result : Option Term) → u ≡ term.Call f funs args → IsOther f.head →
    parts ≡ (out-StopTree tree).parts → count ≡ length args → result ≡ option_or (first_stop (stops_of parts) 0 count) (if is_match_free u then Some u else None) → result ≡ inner u (stops_in tree)
call_blocks u tree f funs args parts count result is other parts_are count_is told =
    let itself : Option Term = if is_match_free u then Some u else None in
    let layer : out-Term u ≡ Term-F.Call f funs args = ap out-Term is ∙ term.outs-Call f funs args in
    told ∙ (λ k. option_or (first_stop (stops_of (parts_are k)) 0 (count_is k)) itself) ∙ ap (λ (o : Option Term). option_or o itself) (sym (same_first tree 0 (length args)))
    ∙ sym (other_blocks f.head other u args (stops_in tree)) ∙ sym (ap (λ (y : Term-F Term). blocked_by y u (stops_in tree)) layer)
