-- Cells show the values that they were made of; which cells show values.
use Rattle.std.proofs.Common.{◌≡◌, ℕ, zero, suc, ◌+◌, ◌-◌, ◌≤◌, min, List, [], ◌∷◌, ◌++◌, length, take, drop, ap, refl, sym, ◌∙◌, append_assoc, arith}
use Rattle.std.specs.List.{AllByRecursion}
use Rattle.std.proofs.lemmas.List.{take_at, drop_at, take-append-drop, append-nil, length-take, length-drop}
use Rattle.px_terms.specs.declared.term.Value.{Value}
use Rattle.px_terms.specs.declared.term.Value.TheVariants as value
use Rattle.px_machine.specs.declared.cells.Cell.{Cell}
use Rattle.px_machine.specs.declared.cells.Cell.TheVariants as cell
use Rattle.px_machine.specs.Cells.{preorder, preorders, put_before, trees, tree, fields_of, IsValue, AreValues}
use Rattle.px_machine.proofs.CellInduction.{value_induction, preorder-Lit, preorder-Con}

-- the cells of the value show it, and what stands behind them shows what it showed
abbrev Shows : Value → Type 0
Shows v = (rest : List Cell) → trees (preorder v ++ rest) ≡ v ∷ trees rest

all_show : (values : List Value) → AllByRecursion Shows values → (rest : List Cell) → trees (preorders values ++ rest) ≡ values ++ trees rest
all_show [] all rest = refl
all_show (v ∷ values) all rest =
    ap trees (append_assoc (preorder v) (preorders values) rest) ∙ all.0 (preorders values ++ rest) ∙ ap (λ vs. v ∷ vs) (all_show values all.1 rest)

word_shows : (w : ℕ) → Shows (value.Lit w)
word_shows w rest = ap (λ cells. trees (cells ++ rest)) (preorder-Lit w)

construction_shows : (d k : ℕ) (fields : List Value) → AllByRecursion Shows fields → Shows (value.Con d k fields)
construction_shows d k fields all rest =
    ap (λ cells. trees (cells ++ rest)) (preorder-Con d k fields)
    ∙ ap (λ vs. value.Con d k (take (length fields) vs) ∷ drop (length fields) vs) (all_show fields all rest)
    ∙ ap (λ vs. value.Con d k vs ∷ drop (length fields) (fields ++ trees rest)) (take_at fields (trees rest) (length fields) refl)
    ∙ ap (λ vs. value.Con d k fields ∷ vs) (drop_at fields (trees rest) (length fields) refl)

pub trees-preorder : (v : Value) (rest : List Cell) → trees (preorder v ++ rest) ≡ v ∷ trees rest
trees-preorder = value_induction Shows word_shows construction_shows

pub trees-preorders : (values : List Value) (rest : List Cell) → trees (preorders values ++ rest) ≡ values ++ trees rest
trees-preorders [] rest = refl
trees-preorders (v ∷ values) rest =
    ap trees (append_assoc (preorder v) (preorders values) rest) ∙ trees-preorder v (preorders values ++ rest) ∙ ap (λ vs. v ∷ vs) (trees-preorders values rest)

-- the cells of a value show it alone
pub tree-preorder : (v : Value) → trees (preorder v) ≡ v ∷ []
tree-preorder v = ap trees (sym (append-nil (preorder v))) ∙ trees-preorder v []

pub preorders-append : (xs ys : List Value) → preorders (xs ++ ys) ≡ preorders xs ++ preorders ys
preorders-append [] ys = refl
preorders-append (x ∷ xs) ys = ap (λ cells. preorder x ++ cells) (preorders-append xs ys) ∙ sym (append_assoc (preorder x) (preorders xs) (preorders ys))

-- the cells of what a constructor makes of these values and leaves
put_construction : (d k n : ℕ) (values : List Value) → preorders (put_before (cell.Con d k n) values) ≡ cell.Con d k (min n (length values)) ∷ preorders values
put_construction d k n values =
    ap (λ cells. cells ++ preorders (drop n values)) (preorder-Con d k (take n values))
    ∙ ap (λ m. cell.Con d k m ∷ (preorders (take n values) ++ preorders (drop n values))) (length-take n values)
    ∙ ap (λ cells. cell.Con d k (min n (length values)) ∷ cells) (sym (preorders-append (take n values) (drop n values)) ∙ ap preorders (take-append-drop n values))

put_word : (w : ℕ) (values : List Value) → preorders (put_before (cell.Lit w) values) ≡ cell.Lit w ∷ preorders values
put_word w values = ap (λ cells. cells ++ preorders values) (preorder-Lit w)

-- What cells that show values are: a node that has its fields, before cells that show values.
pub record HasFields (c : Cell) (cells : List Cell) : Type 0 where
  pub values : AreValues cells
  pub fields : fields_of c ≤ length (trees cells)

same_construction : {d k n m : ℕ} {xs ys : List Cell} → ◌≡◌ {A = List Cell} (cell.Con d k m ∷ xs) (cell.Con d k n ∷ ys) → (m ≡ n) × (xs ≡ ys)
same_construction e = (cc, cc)

pub has_fields : (c : Cell) (cells : List Cell) → AreValues (c ∷ cells) → HasFields c cells
has_fields (cell.Lit w) cells are = let e : cell.Lit w ∷ preorders (trees cells) ≡ cell.Lit w ∷ cells = sym (put_word w (trees cells)) ∙ are in record { values = cc; fields = omega arith }
has_fields (cell.Con d k n) cells are =
    let e = same_construction (sym (put_construction d k n (trees cells)) ∙ are) in record { values = e.1; fields = omega (arith, e.0) }

pub are_values : (c : Cell) (cells : List Cell) → AreValues cells → fields_of c ≤ length (trees cells) → AreValues (c ∷ cells)
are_values (cell.Lit w) cells are few = put_word w (trees cells) ∙ ap (λ rest. cell.Lit w ∷ rest) are
are_values (cell.Con d k n) cells are few =
    let e : min n (length (trees cells)) ≡ n = omega arith in
    put_construction d k n (trees cells) ∙ ap (λ m. cell.Con d k m ∷ preorders (trees cells)) e ∙ ap (λ rest. cell.Con d k n ∷ rest) are

pub values_behind : (n : ℕ) (cells : List Cell) → AreValues cells → AreValues (drop n cells)
values_behind zero cells are = are
values_behind (suc n) [] are = are
values_behind (suc n) (c ∷ cells) are = values_behind n cells (has_fields c cells are).values

-- the cells of one value are those of values, and they show one
pub value_shows : (cells : List Cell) → IsValue cells → trees cells ≡ tree cells ∷ []
value_shows cells is = ap trees (sym is) ∙ tree-preorder (tree cells)

pub value_is_values : (cells : List Cell) → IsValue cells → AreValues cells
value_is_values cells is = ap preorders (value_shows cells is) ∙ append-nil (preorder (tree cells)) ∙ is

one : (cells : List Cell) (values : List Value) → trees cells ≡ values → length values ≡ 1 → AreValues cells → IsValue cells
one cells [] e n are = absurd (omega arith)
one cells (v ∷ []) e n are =
    let t : tree cells ≡ v = rw e in
    ap preorder t ∙ sym (append-nil (preorder v)) ∙ sym (ap preorders e) ∙ are
one cells (v ∷ u ∷ values) e n are = absurd (omega arith)

-- cells that show one value are its cells
pub one_is_value : (cells : List Cell) → AreValues cells → length (trees cells) ≡ 1 → IsValue cells
one_is_value cells are n = one cells (trees cells) refl n are

pub length-put : (c : Cell) (values : List Value) → length (put_before c values) ≡ length values - fields_of c + 1
length-put (cell.Lit w) values = omega arith
length-put (cell.Con d k n) values = omega (arith, length-drop n values)

-- cells show no more values than they are
pub few_trees : (cells : List Cell) → length (trees cells) ≤ length cells
few_trees [] = omega arith
few_trees (c ∷ cells) = let h = few_trees cells in omega (arith, length-put c (trees cells))
