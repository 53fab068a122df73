-- What the heap shows as values are put in and taken out.
use Rattle.std.proofs.Common.{◌≡◌, ℕ, zero, suc, ◌+◌, ◌-◌, ◌<◌, ◌≤◌, List, [], ◌∷◌, ◌++◌, length, take, drop, map, reverse, Some, slice_get, get_or, sym, ap, ◌∙◌, subst, refl, arith}
use Rattle.std.specs.List.{AllByRecursion}
use Rattle.std.proofs.lemmas.List.{append-nil, append_assoc, length-append, length-map, length-drop, length-take-le, length-reverse, reverse-append, reverse-reverse, drop_at, take_at, take_all, take_rest, take_more, drop_more, drop_all, map-append, take-map, drop-map}
use Rattle.px_terms.specs.declared.term.Value.{Value}
use Rattle.px_terms.specs.declared.term.Value.TheVariants as value
use Rattle.px_machine.specs.declared.cells.Cell.{Cell}
use Rattle.px_machine.specs.declared.cells.Cell.TheVariants as cell
use Rattle.px_machine.specs.declared.heap.Heap.{Heap}
use Rattle.px_machine.specs.declared.heap.Node.TheVariants as node
use Rattle.px_machine.specs.Cells.{preorder, preorders, put_before, trees, tree, IsValue, AreValues}
use Rattle.px_machine.specs.Heap.{IsHeap, Grows, heap_trees, tree_at, trees_at, numbers_of}
use Rattle.px_machine.specs.Running.{NameNodes}
use Rattle.px_machine.specs.Transfer.{Extends, stacked, CanPut, IsPut, IsAdded, cells_left, IsTaken}
use Rattle.px_machine.proofs.CellInduction.{preorder-Lit, preorder-Con}
use Rattle.px_machine.proofs.CellLaws.{tree-preorder, preorders-append, has_fields, values_behind, value_is_values}
use Rattle.px_machine.proofs.HeapLemmas.{all_below, trees_at_more, trees_length}
use Rattle.px_machine.proofs.RunLemmas.{all_both, grown_value, grown_values}
use Rattle.px_machine.proofs.StackLemmas.{all_take, all_drop, turned}
use Rattle.px_machine.proofs.FrameLemmas.{all_front, node_value, fields_below, fields_name}

-- all of a list that is turned round
pub all_reverse : (P : ℕ → Type 0) (xs : List ℕ) → AllByRecursion P xs → AllByRecursion P (reverse xs)
all_reverse P [] all = tt
all_reverse P (x ∷ xs) all = subst (AllByRecursion P) (sym (reverse-append (x ∷ []) xs)) (all_both P (reverse xs) (x ∷ []) (all_reverse P xs all.1) (all.0, tt))

-- a heap extends itself, and what extends an extension
pub extends_same : (h : Heap) → Extends h h
extends_same h = record { more = []; trees = sym (append-nil (heap_trees h)) }

pub extends_on : (a b c : Heap) → Extends a b → Extends b c → Extends a c
extends_on a b c ab bc = record { more = ab.more ++ bc.more; trees = bc.trees ∙ ap (λ (ts : List Value). ts ++ bc.more) ab.trees ∙ append_assoc (heap_trees a) ab.more bc.more }

-- numbers name what they named
extends_length : (a b : Heap) → Extends a b → length a.nodes.items ≤ length b.nodes.items
extends_length a b e = omega (arith, trees_length a, trees_length b, ap length e.trees, length-append (heap_trees a) e.more)

pub extends_names : (a b : Heap) (numbers : List ℕ) → Extends a b → NameNodes a numbers → NameNodes b numbers
extends_names a b numbers e names = all_below _ _ numbers (extends_length a b e) names

pub extends_values : (a b : Heap) (numbers : List ℕ) → Extends a b → NameNodes a numbers → trees_at (heap_trees b) numbers ≡ trees_at (heap_trees a) numbers
extends_values a b numbers e names =
    let enough : length a.nodes.items ≤ length (heap_trees a) = omega (arith, trees_length a) in
    ap (λ (ts : List Value). trees_at ts numbers) e.trees ∙ trees_at_more (heap_trees a) e.more numbers (all_below _ _ numbers enough names)

-- a node takes the place of the topmost numbers
module _ (old new : Heap) (numbers left : List ℕ) (count number : ℕ) (v : Value) (grows : Grows old new v number) (enough : count ≤ length numbers) (named : NameNodes old numbers) (is_left : left ≡ take (length numbers - count) numbers) where
  put_names : NameNodes new (left ++ number ∷ [])
  put_names =
      let kept : NameNodes old (take (length numbers - count) numbers) = all_take _ (length numbers - count) numbers named in
      all_both _ left (number ∷ []) (subst (NameNodes new) (sym is_left) (all_below _ _ (take (length numbers - count) numbers) (omega (arith, grows.more)) kept)) (omega (arith, grows.number, grows.more), tt)

  put_values : stacked new (left ++ number ∷ []) ≡ v ∷ drop count (stacked old numbers)
  put_values =
      let kept : NameNodes old (take (length numbers - count) numbers) = all_take _ (length numbers - count) numbers named in
      let f : ℕ → Value = tree_at (heap_trees new) in
      let top : stacked new (left ++ number ∷ []) ≡ f number ∷ map f (reverse left) = ap (map f) (reverse-append left (number ∷ [])) in
      let rest : reverse left ≡ drop count (reverse numbers) = ap reverse is_left ∙ sym (turned count numbers enough).back in
      let turned_names : NameNodes old (drop count (reverse numbers)) = all_drop _ count (reverse numbers) (all_reverse _ numbers named) in
      top
      ∙ (λ i. grown_value old new v number grows i ∷ map f (rest i))
      ∙ ap (λ (vs : List Value). v ∷ vs) (grown_values old new v number (drop count (reverse numbers)) grows turned_names ∙ sym (drop-map (tree_at (heap_trees old)) count (reverse numbers)))

  pub put_shows : (c : Cell) (after : List ℕ) → v ∷ drop count (stacked old numbers) ≡ put_before c (stacked old numbers) → after ≡ left ++ number ∷ [] → IsPut c old numbers new after
  put_shows c after is e = subst (IsPut c old numbers new) (sym e) (record {
    heap = grows.heap;
    extends = record { more = v ∷ []; trees = grows.trees };
    named = put_names;
    values = put_values ∙ is;
  })

-- what stands before a place whose numbers were turned round, and behind it
cut_turned : (numbers turned_numbers : List ℕ) (start : ℕ) → start ≤ length numbers → turned_numbers ≡ take start numbers ++ reverse (drop start numbers) → take start turned_numbers ≡ take start numbers
cut_turned numbers turned_numbers start le e = ap (take start) e ∙ take_at (take start numbers) (reverse (drop start numbers)) start (length-take-le start numbers le)

behind_turned : (numbers turned_numbers : List ℕ) (start : ℕ) → start ≤ length numbers → turned_numbers ≡ take start numbers ++ reverse (drop start numbers) → drop start turned_numbers ≡ reverse (drop start numbers)
behind_turned numbers turned_numbers start le e = ap (drop start) e ∙ drop_at (take start numbers) (reverse (drop start numbers)) start (length-take-le start numbers le)

-- the topmost numbers, the top first
pub slice_turned : (numbers turned_numbers slice : List ℕ) (start count : ℕ) → count ≤ length numbers → start ≡ length numbers - count → turned_numbers ≡ take start numbers ++ reverse (drop start numbers) →
    slice ≡ take (length turned_numbers - start) (drop start turned_numbers) → slice ≡ take count (reverse numbers)
slice_turned numbers turned_numbers slice start count enough is_start e is_slice =
    is_slice ∙ take_rest turned_numbers start ∙ behind_turned numbers turned_numbers start (omega (arith, is_start)) e
    ∙ ap (λ (n : ℕ). reverse (drop n numbers)) is_start ∙ sym (turned count numbers enough).front

pub slice_named : (h : Heap) (numbers slice : List ℕ) (count : ℕ) → NameNodes h numbers → slice ≡ take count (reverse numbers) → NameNodes h slice
slice_named h numbers slice count named e = subst (NameNodes h) (sym e) (all_take _ count (reverse numbers) (all_reverse _ numbers named))

-- a word is put in
pub put_word_in_code : (old new : Heap) (numbers turned_numbers left after : List ℕ) (start w number : ℕ) → CanPut (cell.Lit w) old numbers → start ≡ length numbers - 0 →
    turned_numbers ≡ take start numbers ++ reverse (drop start numbers) → Grows old new (value.Lit w) number → left ≡ take start turned_numbers → after ≡ left ++ number ∷ [] → IsPut (cell.Lit w) old numbers new after
put_word_in_code old new numbers turned_numbers left after start w number can is_start e grows is_left is_after =
    let left_is : left ≡ take (length numbers - 0) numbers = is_left ∙ cut_turned numbers turned_numbers start (omega (arith, is_start)) e ∙ ap (λ (n : ℕ). take n numbers) is_start in
    put_shows old new numbers left 0 number (value.Lit w) grows (omega arith) can.named left_is (cell.Lit w) after refl is_after

-- a constructor is put in
pub put_construction_in_code : (old new : Heap) (numbers turned_numbers slice left after : List ℕ) (start d k count number : ℕ) → CanPut (cell.Con d k count) old numbers → start ≡ length numbers - count →
    turned_numbers ≡ take start numbers ++ reverse (drop start numbers) → slice ≡ take (length turned_numbers - start) (drop start turned_numbers) → Grows old new (value.Con d k (trees_at (heap_trees old) slice)) number →
    left ≡ take start turned_numbers → after ≡ left ++ number ∷ [] → IsPut (cell.Con d k count) old numbers new after
put_construction_in_code old new numbers turned_numbers slice left after start d k count number can is_start e is_slice grows is_left is_after =
    let left_is : left ≡ take (length numbers - count) numbers = is_left ∙ cut_turned numbers turned_numbers start (omega (arith, is_start)) e ∙ ap (λ (n : ℕ). take n numbers) is_start in
    let front : trees_at (heap_trees old) slice ≡ take count (stacked old numbers) =
    ap (trees_at (heap_trees old)) (slice_turned numbers turned_numbers slice start count can.enough is_start e is_slice) ∙ sym (take-map (tree_at (heap_trees old)) count (reverse numbers)) in
    put_shows old new numbers left count number (value.Con d k (trees_at (heap_trees old) slice)) grows can.enough can.named left_is (cell.Con d k count) after
    (ap (λ (vs : List Value). value.Con d k vs ∷ drop count (stacked old numbers)) front) is_after

-- The values of the cells from this place on are put in.
pub record PutFrom (cells : List Cell) (at : ℕ) (old h : Heap) (numbers : List ℕ) : Type 0 where
  pub heap : IsHeap h
  pub extends : Extends old h
  pub named : NameNodes h numbers
  pub values : stacked h numbers ≡ trees (drop at cells)

pub put_none : (cells : List Cell) (at : ℕ) (old : Heap) (numbers : List ℕ) → IsHeap old → at ≡ length cells → numbers ≡ [] → PutFrom cells at old old numbers
put_none cells at old numbers heap is none = record {
  heap = heap;
  extends = extends_same old;
  named = subst (NameNodes old) (sym none) tt;
  values = ap (stacked old) none ∙ sym (ap trees (drop_all at cells (omega (arith, is))));
}

module _ (cells : List Cell) (v : Value) (at : ℕ) (d : Cell) (old h : Heap) (numbers : List ℕ) (is : cells ≡ preorder v) (some : 0 < at) (within : at ≤ length cells) (so : PutFrom cells at old h numbers) where
  here : drop (at - 1) cells ≡ get_or cells (at - 1) d ∷ drop at cells
  here = let e : at - 1 + 1 ≡ at = omega arith in drop_more cells (at - 1) d (omega arith) ∙ ap (λ n. get_or cells (at - 1) d ∷ drop n cells) e

  are : AreValues cells
  are = value_is_values cells (ap preorder (tree_is cells v (ap trees is ∙ tree-preorder v)) ∙ sym is)
    where
      tree_is : (cells : List Cell) (v : Value) → trees cells ≡ v ∷ [] → tree cells ≡ v
      tree_is cells v e = rw e

  pub can_put : CanPut (get_or cells (at - 1) d) h numbers
  can_put =
      let fields = has_fields (get_or cells (at - 1) d) (drop at cells) (subst AreValues here (values_behind (at - 1) cells are)) in
      let long : length (stacked h numbers) ≡ length numbers = length-map (reverse numbers) (tree_at (heap_trees h)) ∙ length-reverse numbers in
      record { heap = so.heap; named = so.named; enough = omega (arith, fields.fields, long, ap length so.values) }

  pub put_more : (new : Heap) (after : List ℕ) → IsPut (get_or cells (at - 1) d) h numbers new after → PutFrom cells (at - 1) old new after
  put_more new after put = record {
    heap = put.heap;
    extends = extends_on old h new so.extends put.extends;
    named = put.named;
    values = put.values ∙ ap (put_before (get_or cells (at - 1) d)) so.values ∙ sym (ap trees here);
  }

-- all cells are put in
put_all_values : (cells : List Cell) (v : Value) (at : ℕ) (old h : Heap) (numbers : List ℕ) → cells ≡ preorder v → at ≤ 0 → PutFrom cells at old h numbers → stacked h numbers ≡ v ∷ []
put_all_values cells v zero old h numbers is none so = so.values ∙ ap trees is ∙ tree-preorder v
put_all_values cells v (suc at) old h numbers is none so = absurd (omega (arith, none))

pub put_some : (cells : List Cell) (v : Value) (at : ℕ) (old h : Heap) (numbers : List ℕ) → cells ≡ preorder v → at ≤ 0 → PutFrom cells at old h numbers → 0 < length numbers
put_some cells v at old h numbers is none so =
    omega (arith, ap length (put_all_values cells v at old h numbers is none so), length-map (reverse numbers) (tree_at (heap_trees h)), length-reverse numbers)

pub put_all : (cells : List Cell) (v : Value) (at : ℕ) (old h : Heap) (numbers rest : List ℕ) (number : ℕ) → cells ≡ preorder v → at ≤ 0 → PutFrom cells at old h numbers → numbers ≡ rest ++ number ∷ [] → IsAdded old h v number
put_all cells v at old h numbers rest number is none so e =
    let f : ℕ → Value = tree_at (heap_trees h) in
    let turned : stacked h numbers ≡ f number ∷ map f (reverse rest) = ap (λ (ns : List ℕ). map f (reverse ns)) e ∙ ap (map f) (reverse-append rest (number ∷ [])) in
    let one : f number ∷ map f (reverse rest) ≡ v ∷ [] = sym turned ∙ put_all_values cells v at old h numbers is none so in
    record {
      heap = so.heap;
      extends = so.extends;
      within = (all_front _ rest (number ∷ []) (subst (NameNodes h) e so.named)).1.0;
      is = cc;
    }

-- The values of the first arguments are put in.
pub record Stores (args : List Value) (count : ℕ) (h : Heap) (numbers : List ℕ) : Type 0 where
  pub heap : IsHeap h
  pub named : NameNodes h numbers
  pub values : trees_at (heap_trees h) numbers ≡ take count args

pub stores_none : (args : List Value) (h : Heap) (numbers : List ℕ) → IsHeap h → numbers ≡ [] → Stores args 0 h numbers
stores_none args h numbers heap none = record { heap = heap; named = subst (NameNodes h) (sym none) tt; values = ap (trees_at (heap_trees h)) none }

pub stores_more : (args : List Value) (count : ℕ) (v : Value) (h new : Heap) (numbers after : List ℕ) (number : ℕ) → count < length args → v ≡ get_or args count v → Stores args count h numbers → IsAdded h new v number → after ≡ numbers ++ number ∷ [] →
    Stores args (count + 1) new after
stores_more args count v h new numbers after number within is so added e = subst (Stores args (count + 1) new) (sym e) (record {
  heap = added.heap;
  named = all_both _ numbers (number ∷ []) (extends_names h new numbers added.extends so.named) (added.within, tt);
  values =
      map-append (tree_at (heap_trees new)) numbers (number ∷ [])
      ∙ (λ i. extends_values h new numbers added.extends so.named i ++ added.is i ∷ [])
      ∙ ap (λ (vs : List Value). vs ++ v ∷ []) so.values ∙ ap (λ (w : Value). take count args ++ w ∷ []) is ∙ sym (take_more args count v within);
})

pub stores_all : (args : List Value) (count : ℕ) (h : Heap) (numbers : List ℕ) → length args ≤ count → Stores args count h numbers → trees_at (heap_trees h) numbers ≡ args
stores_all args count h numbers all so = so.values ∙ take_all count args all

-- a word is taken out
pub take_word : (h : Heap) (number w : ℕ) (numbers : List ℕ) → IsHeap h → slice_get h.nodes.items number ≡ Some (node.Lit w) → IsTaken h number (cell.Lit w) numbers numbers
take_word h number w numbers is found = record {
  named = λ names. names;
  cells = ap (λ (v : Value). preorder v ++ cells_left h numbers) (node_value h number (node.Lit w) is found) ∙ ap (λ (cs : List Cell). cs ++ cells_left h numbers) (preorder-Lit w);
}

-- a constructor is taken out
pub take_construction : (h : Heap) (number d k first count : ℕ) (numbers slice after : List ℕ) → IsHeap h → number < length h.nodes.items → slice_get h.nodes.items number ≡ Some (node.Con d k first count) →
    slice ≡ numbers_of h.fields.items first count → after ≡ numbers ++ reverse slice → IsTaken h number (cell.Con d k count) numbers after
take_construction h number d k first count numbers slice after is within found is_slice is_after =
    let f : ℕ → Value = tree_at (heap_trees h) in
    let fields : List ℕ = numbers_of h.fields.items first count in
    let e : after ≡ numbers ++ reverse fields = is_after ∙ ap (λ (xs : List ℕ). numbers ++ reverse xs) is_slice in
    let names : NameNodes h fields = fields_name h number d k first count is within found in
    let enough : count ≤ length (drop first h.fields.items) = omega (arith, fields_below h number d k first count is found, length-drop first h.fields.items) in
    let long : length (map f fields) ≡ count = length-map fields f ∙ length-take-le count (drop first h.fields.items) enough in
    let turned : reverse after ≡ fields ++ reverse numbers = ap reverse e ∙ reverse-append numbers (reverse fields) ∙ ap (λ (xs : List ℕ). xs ++ reverse numbers) (reverse-reverse fields) in
    let left : cells_left h after ≡ preorders (map f fields) ++ cells_left h numbers =
    ap (λ (xs : List ℕ). preorders (map f xs)) turned ∙ ap preorders (map-append f fields (reverse numbers)) ∙ preorders-append (map f fields) (map f (reverse numbers)) in
    record {
      named = λ before. subst (NameNodes h) (sym e) (all_both _ numbers (reverse fields) before (all_reverse _ fields names));
      cells =
          ap (λ (v : Value). preorder v ++ cells_left h numbers) (node_value h number (node.Con d k first count) is found)
          ∙ ap (λ (cs : List Cell). cs ++ cells_left h numbers) (preorder-Con d k (map f fields))
          ∙ (λ i. cell.Con d k (long i) ∷ sym left i);
    }

-- The cells are written up to what the numbers name.
pub record Written (h : Heap) (v : Value) (cells : List Cell) (numbers : List ℕ) : Type 0 where
  pub named : NameNodes h numbers
  pub cells_are : cells ++ cells_left h numbers ≡ preorder v

pub written_none : (h : Heap) (number : ℕ) (cells : List Cell) (none numbers : List ℕ) → number < length h.nodes.items → cells ≡ [] → none ≡ [] → numbers ≡ none ++ number ∷ [] → Written h (tree_at (heap_trees h) number) cells numbers
written_none h number cells none numbers within is_cells is_none e =
    let one : numbers ≡ number ∷ [] = e ∙ ap (λ (xs : List ℕ). xs ++ number ∷ []) is_none in
    record {
      named = subst (NameNodes h) (sym one) (within, tt);
      cells_are = (λ i. is_cells i ++ cells_left h (one i)) ∙ append-nil (preorder (tree_at (heap_trees h) number));
    }

pub next_within : (h : Heap) (v : Value) (cells : List Cell) (numbers rest : List ℕ) (next : ℕ) → Written h v cells numbers → numbers ≡ rest ++ next ∷ [] → next < length h.nodes.items
next_within h v cells numbers rest next so e = (all_front _ rest (next ∷ []) (subst (NameNodes h) e so.named)).1.0

pub written_more : (h : Heap) (v : Value) (cells more : List Cell) (numbers rest after : List ℕ) (next : ℕ) (c : Cell) → Written h v cells numbers → numbers ≡ rest ++ next ∷ [] → IsTaken h next c rest after → more ≡ cells ++ c ∷ [] →
    Written h v more after
written_more h v cells more numbers rest after next c so e taken is_more =
    let f : ℕ → Value = tree_at (heap_trees h) in
    let top : cells_left h numbers ≡ preorder (f next) ++ cells_left h rest = ap (cells_left h) e ∙ ap (λ (ns : List ℕ). preorders (map f ns)) (reverse-append rest (next ∷ [])) in
    record {
      named = taken.named (all_front _ rest (next ∷ []) (subst (NameNodes h) e so.named)).0;
      cells_are =
          ap (λ (cs : List Cell). cs ++ cells_left h after) is_more ∙ append_assoc cells (c ∷ []) (cells_left h after)
          ∙ ap (λ (cs : List Cell). cells ++ cs) (sym (top ∙ taken.cells)) ∙ so.cells_are;
    }

pub written_fewer : (h : Heap) (v : Value) (cells more : List Cell) (numbers after : List ℕ) (c : Cell) → Written h v more after → more ≡ cells ++ c ∷ [] → length (preorder v) - length more < length (preorder v) - length cells
written_fewer h v cells more numbers after c so e =
    omega (arith, ap length so.cells_are, length-append more (cells_left h after), ap length e, length-append cells (c ∷ []))

written_all : (h : Heap) (v : Value) (cells : List Cell) (numbers : List ℕ) → Written h v cells numbers → length numbers ≡ 0 → cells ≡ preorder v
written_all h v cells [] so none = sym (append-nil cells) ∙ so.cells_are
written_all h v cells (n ∷ numbers) so none = absurd (omega (arith, none))

-- the cells that are written are those of the value
pub written_is_value : (h : Heap) (v : Value) (cells out : List Cell) (numbers : List ℕ) → Written h v cells numbers → length numbers ≡ 0 → out ≡ cells → (tree out ≡ v) × IsValue out
written_is_value h v cells out numbers so none e =
    let is : out ≡ preorder v = e ∙ written_all h v cells numbers so none in
    let shows : tree out ≡ v = tree_of out v (ap trees is ∙ tree-preorder v) in
    (shows, ap preorder shows ∙ sym is)
  where
    tree_of : (cells : List Cell) (v : Value) → trees cells ≡ v ∷ [] → tree cells ≡ v
    tree_of cells v e = rw e
