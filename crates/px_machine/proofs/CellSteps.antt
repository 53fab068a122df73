-- Steps of the loops over cells.
use Rattle.std.proofs.Common.{◌≡◌, ℕ, zero, suc, ◌+◌, ◌-◌, ◌<◌, ◌≤◌, List, [], ◌∷◌, ◌++◌, length, take, drop, get_or, IsTrue, ◌↔◌, ap, refl, sym, subst, ◌∙◌, arith, add-zero, eqb-true, eq-eqb, nat_eq}
use Rattle.std.proofs.lemmas.List.{drop_more, take-append-drop, append_cancel_right, length-drop, drop-drop}
use Rattle.px_terms.specs.declared.term.Value.{Value}
use Rattle.px_machine.specs.declared.cells.Cell.{Cell}
use Rattle.px_machine.specs.declared.cells.Cell.TheVariants as cell
use Rattle.px_machine.specs.Cells.{preorder, preorders, put_before, trees, tree, fields_of, IsValue, AreValues, IsFirst}
use Rattle.px_machine.proofs.CellLaws.{HasFields, has_fields, are_values, values_behind, value_shows, value_is_values, one_is_value, length-put, few_trees, tree-preorder}

-- The cells from this place on are those of so many values.
pub record IsCounted (cells : List Cell) (at count : ℕ) : Type 0 where
  pub values : AreValues (drop at cells)
  pub counted : count ≡ length (trees (drop at cells))

module _ (cells : List Cell) (at count fields : ℕ) (d : Cell) (some : 0 < at) (within : at ≤ length cells) (is : fields ≡ fields_of (get_or cells (at - 1) d)) (so : IsCounted cells at count) where
  node : drop (at - 1) cells ≡ get_or cells (at - 1) d ∷ drop at cells
  node = let e : at - 1 + 1 ≡ at = omega arith in drop_more cells (at - 1) d (omega arith) ∙ ap (λ n. get_or cells (at - 1) d ∷ drop n cells) e

  -- one node more, which has its fields
  pub counted_more : fields ≤ count → IsCounted cells (at - 1) (count - fields + 1)
  counted_more few = record {
    values = subst AreValues (sym node) (are_values (get_or cells (at - 1) d) (drop at cells) so.values (omega (arith, so.counted)));
    counted = let n : count - fields + 1 ≡ length (put_before (get_or cells (at - 1) d) (trees (drop at cells))) = omega (arith, length-put (get_or cells (at - 1) d) (trees (drop at cells)), so.counted) in n ∙ ap (λ cs. length (trees cs)) (sym node);
  }

  pub counted_bound : fields ≤ count → count - fields + 1 ≤ length cells
  counted_bound few = let h = few_trees (drop at cells) in omega (arith, so.counted, length-drop at cells)

  -- a node that lacks fields is none of a value
  pub lacks_fields : count < fields → ¬ IsValue cells
  lacks_fields few whole =
      let below = has_fields (get_or cells (at - 1) d) (drop at cells) (subst AreValues node (values_behind (at - 1) cells (value_is_values cells whole))) in
      omega (arith, below.fields, so.counted)

-- all nodes are counted
pub counted_all : (cells : List Cell) (at count : ℕ) → at ≤ 0 → IsCounted cells at count → IsTrue (nat_eq count 1) ↔ IsValue cells
counted_all cells zero count all so = (
  λ (one : IsTrue (nat_eq count 1)). one_is_value cells so.values (sym so.counted ∙ eqb-true count 1 one),
  λ (whole : IsValue cells). eq-eqb count 1 (so.counted ∙ ap length (value_shows cells whole)),
)
counted_all cells (suc at) count all so = absurd (omega arith)

-- At this place so many values are still to pass, behind which stand the values behind the first one.
pub record IsOpen (cells : List Cell) (at left : ℕ) : Type 0 where
  pub within : at ≤ length cells
  pub values : AreValues (drop at cells)
  pub some : left ≤ length (trees (drop at cells))
  pub behind : drop left (trees (drop at cells)) ≡ drop 1 (trees cells)

pub some_tree : (cells : List Cell) → 0 < length cells → 0 < length (trees cells)
some_tree [] some = absurd (omega arith)
some_tree (c ∷ cells) some = omega (arith, length-put c (trees cells))

pub open_first : (cells : List Cell) → AreValues cells → 0 < length cells → IsOpen cells 0 1
open_first cells are some = record { within = omega arith; values = are; some = let h = some_tree cells some in omega arith; behind = refl }

drop_put : (c : Cell) (values : List Value) (n : ℕ) → drop (suc n) (put_before c values) ≡ drop (n + fields_of c) values
drop_put (cell.Lit w) values n = ap (λ m. drop m values) (sym (add-zero n))
drop_put (cell.Con d k count) values n = let e : count + n ≡ n + count = omega arith in drop-drop n count values ∙ ap (λ m. drop m values) e

pub open_within : (cells : List Cell) (at left : ℕ) → 0 < left → IsOpen cells at left → at < length cells
open_within cells at left some so = let h = few_trees (drop at cells) in omega (arith, so.some, length-drop at cells)

module _ (cells : List Cell) (at left fields : ℕ) (d : Cell) (some : 0 < left) (is : fields ≡ fields_of (get_or cells at d)) (so : IsOpen cells at left) where
  opened : drop at cells ≡ get_or cells at d ∷ drop (at + 1) cells
  opened = drop_more cells at d (open_within cells at left some so)

  below : HasFields (get_or cells at d) (drop (at + 1) cells)
  below = has_fields (get_or cells at d) (drop (at + 1) cells) (subst AreValues opened so.values)

  counts : length (trees (drop at cells)) ≡ length (trees (drop (at + 1) cells)) - fields_of (get_or cells at d) + 1
  counts = ap (λ cs. length (trees cs)) opened ∙ length-put (get_or cells at d) (trees (drop (at + 1) cells))

  enough : left - 1 + fields ≤ length (trees (drop (at + 1) cells))
  enough = omega (arith, below.fields, counts, so.some)

  pub open_bound : left - 1 + fields ≤ length cells
  open_bound = let h = few_trees (drop (at + 1) cells) in omega (arith, enough, length-drop (at + 1) cells)

  moved : (n : ℕ) → left ≡ suc n → drop left (trees (drop at cells)) ≡ drop (left - 1 + fields) (trees (drop (at + 1) cells))
  moved n e =
      let m : n + fields_of (get_or cells at d) ≡ left - 1 + fields = omega (arith, is) in
      ap (λ cs. drop left (trees cs)) opened ∙ ap (λ m. drop m (put_before (get_or cells at d) (trees (drop (at + 1) cells)))) e
      ∙ drop_put (get_or cells at d) (trees (drop (at + 1) cells)) n ∙ ap (λ m. drop m (trees (drop (at + 1) cells))) m

  -- past one node, whose fields are to pass
  pub open_more : IsOpen cells (at + 1) (left - 1 + fields)
  open_more = record {
    within = let h = open_within cells at left some so in omega arith;
    values = below.values;
    some = enough;
    behind = let e : left ≡ suc (left - 1) = omega arith in sym (moved (left - 1) e) ∙ so.behind;
  }

split_front : (cells : List Cell) → 0 < length cells → trees cells ≡ tree cells ∷ drop 1 (trees cells)
split_front [] some = absurd (omega arith)
split_front (cell.Lit w ∷ cells) some = refl
split_front (cell.Con d k n ∷ cells) some = refl

pub first_and_rest : (cells : List Cell) → 0 < length cells → trees cells ≡ tree cells ∷ drop 1 (trees cells)
first_and_rest = split_front

has_cells : (v : Value) (cells : List Cell) (n : ℕ) → take n cells ≡ preorder v → 0 < n
has_cells v cells zero e = let no : ◌≡◌ {A = List Value} [] (v ∷ []) = ap trees e ∙ tree-preorder v in absurd cc
has_cells v cells (suc n) e = omega arith

-- no value is left to pass
pub open_end : (cells : List Cell) (at left : ℕ) → left ≤ 0 → AreValues cells → 0 < length cells → IsOpen cells at left → IsFirst at cells
open_end cells at zero none are some so =
    let front : preorder (tree cells) ++ drop at cells ≡ take at cells ++ drop at cells =
    ap (λ cs. preorder (tree cells) ++ cs) (sym so.values ∙ ap preorders so.behind) ∙ ap preorders (sym (first_and_rest cells some)) ∙ are ∙ sym (take-append-drop at cells) in
    let first : take at cells ≡ preorder (tree cells) = sym (append_cancel_right (preorder (tree cells)) (take at cells) (drop at cells) front) in
    record { some = has_cells (tree cells) cells at first; within = so.within; first = first; rest = so.behind }
open_end cells at (suc left) none are some so = absurd (omega arith)
