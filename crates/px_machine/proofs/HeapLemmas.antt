-- What nodes stand for as the heap grows.
use Rattle.std.proofs.Common.{◌≡◌, ℕ, zero, suc, ◌+◌, ◌<◌, ◌≤◌, List, [], ◌∷◌, ◌++◌, length, take, drop, Some, slice_get, sym, ap, ◌∙◌, subst, refl, arith, zero-add}
use Rattle.std.specs.List.{AllByRecursion}
use Rattle.std.proofs.lemmas.List.{append-nil, append_assoc, length-append, take-append-le, drop-append-le, length-drop, drop_at, take_all, get_or_at}
use Rattle.std.proofs.Math.ListN.{get_or-append}
use Rattle.px_terms.specs.declared.term.Value.{Value}
use Rattle.px_terms.specs.declared.term.Value.TheVariants as value
use Rattle.px_machine.specs.declared.heap.Heap.{Heap}
use Rattle.px_machine.specs.declared.heap.Node.{Node}
use Rattle.px_machine.specs.declared.heap.Node.TheVariants as node
use Rattle.px_machine.specs.Heap.{tree_at, trees_at, numbers_of, node_tree, grown, heap_trees, IsNodeBelow, AreNodes, IsHeap, Grows}

-- one more node
pub grown_more : (fields : List ℕ) (trees : List Value) (nodes : List Node) (n : Node) → grown fields trees (nodes ++ n ∷ []) ≡ grown fields trees nodes ++ node_tree fields (grown fields trees nodes) n ∷ []
grown_more fields trees [] n = refl
grown_more fields trees (m ∷ nodes) n = grown_more fields (trees ++ node_tree fields trees m ∷ []) nodes n

-- there are as many values as nodes
pub grown_length : (fields : List ℕ) (trees : List Value) (nodes : List Node) → length (grown fields trees nodes) ≡ length trees + length nodes
grown_length fields trees [] = omega arith
grown_length fields trees (m ∷ nodes) =
    let shorter = grown_length fields (trees ++ node_tree fields trees m ∷ []) nodes in
    let one = length-append trees (node_tree fields trees m ∷ []) in
    omega (arith, shorter, one)

pub trees_length : (heap : Heap) → length (heap_trees heap) ≡ length heap.nodes.items
trees_length heap = grown_length heap.fields.items [] heap.nodes.items ∙ zero-add _

-- what stands before is kept
pub record Begins (whole front : List Value) : Type 0 where
  pub more : List Value
  pub is : whole ≡ front ++ more

pub grown_begins : (fields : List ℕ) (trees : List Value) (nodes : List Node) → Begins (grown fields trees nodes) trees
grown_begins fields trees [] = record { more = []; is = sym (append-nil trees) }
grown_begins fields trees (m ∷ nodes) =
    let rest = grown_begins fields (trees ++ node_tree fields trees m ∷ []) nodes in
    record { more = node_tree fields trees m ∷ rest.more; is = rest.is ∙ append_assoc trees (node_tree fields trees m ∷ []) rest.more }

-- numbers below a bound are below a greater one
pub all_below : (a b : ℕ) (numbers : List ℕ) → a ≤ b → AllByRecursion (λ (n : ℕ). n < a) numbers → AllByRecursion (λ (n : ℕ). n < b) numbers
all_below a b [] le all = tt
all_below a b (n ∷ numbers) le all = (omega (arith, all.0), all_below a b numbers le all.1)

-- a number within names the same value as the list grows
pub tree_at_more : (trees more : List Value) (n : ℕ) → n < length trees → tree_at (trees ++ more) n ≡ tree_at trees n
tree_at_more trees more n within = get_or-append trees more (value.Lit 0) n within

pub trees_at_more : (trees more : List Value) (numbers : List ℕ) → AllByRecursion (λ (n : ℕ). n < length trees) numbers → trees_at (trees ++ more) numbers ≡ trees_at trees numbers
trees_at_more trees more [] all = refl
trees_at_more trees more (n ∷ numbers) all = λ i. tree_at_more trees more n all.0 i ∷ trees_at_more trees more numbers all.1 i

-- more fields behind change no node's
pub numbers_of_more : (fields more : List ℕ) (first count : ℕ) → first + count ≤ length fields → numbers_of (fields ++ more) first count ≡ numbers_of fields first count
numbers_of_more fields more first count within =
    let enough : count ≤ length (drop first fields) = omega (arith, length-drop first fields) in
    ap (take count) (drop-append-le first fields more (omega arith)) ∙ take-append-le count (drop first fields) more enough

node_tree_more : (fields more : List ℕ) (k : ℕ) (trees : List Value) (n : Node) → IsNodeBelow fields k n → node_tree (fields ++ more) trees n ≡ node_tree fields trees n
node_tree_more fields more k trees (node.Lit w) below = refl
node_tree_more fields more k trees (node.Con d c first count) below = ap (λ numbers. value.Con d c (trees_at trees numbers)) (numbers_of_more fields more first count below.0)

pub grown_fields : (fields more : List ℕ) (k : ℕ) (trees : List Value) (nodes : List Node) → AreNodes fields k nodes → grown (fields ++ more) trees nodes ≡ grown fields trees nodes
grown_fields fields more k trees [] are = refl
grown_fields fields more k trees (n ∷ nodes) are =
    ap (λ v. grown (fields ++ more) (trees ++ v ∷ []) nodes) (node_tree_more fields more k trees n are.0)
    ∙ grown_fields fields more (k + 1) (trees ++ node_tree fields trees n ∷ []) nodes are.1

is_below_more : (fields more : List ℕ) (k : ℕ) (n : Node) → IsNodeBelow fields k n → IsNodeBelow (fields ++ more) k n
is_below_more fields more k (node.Lit w) below = tt
is_below_more fields more k (node.Con d c first count) below =
    (omega (arith, below.0, length-append fields more), subst (AllByRecursion (λ (n : ℕ). n < k)) (sym (numbers_of_more fields more first count below.0)) below.1)

pub are_nodes_fields : (fields more : List ℕ) (k : ℕ) (nodes : List Node) → AreNodes fields k nodes → AreNodes (fields ++ more) k nodes
are_nodes_fields fields more k [] are = tt
are_nodes_fields fields more k (n ∷ nodes) are = (is_below_more fields more k n are.0, are_nodes_fields fields more (k + 1) nodes are.1)

pub are_nodes_more : (fields : List ℕ) (k : ℕ) (nodes : List Node) (n : Node) → AreNodes fields k nodes → IsNodeBelow fields (k + length nodes) n → AreNodes fields k (nodes ++ n ∷ [])
are_nodes_more fields k [] n are below = (subst (λ (b : ℕ). IsNodeBelow fields b n) (omega arith) below, tt)
are_nodes_more fields k (m ∷ nodes) n are below =
    (are.0, are_nodes_more fields (k + 1) nodes n are.1 (subst (λ (b : ℕ). IsNodeBelow fields b n) (omega arith) below))

-- a node's value over the values before it is its value over all
node_tree_over : (fields : List ℕ) (trees more : List Value) (n : Node) → IsNodeBelow fields (length trees) n → node_tree fields (trees ++ more) n ≡ node_tree fields trees n
node_tree_over fields trees more (node.Lit w) below = refl
node_tree_over fields trees more (node.Con d c first count) below = ap (value.Con d c) (trees_at_more trees more (numbers_of fields first count) below.1)

-- the value of the node at a number
pub node_at : (fields : List ℕ) (trees : List Value) (nodes : List Node) (i : ℕ) (n : Node) → AreNodes fields (length trees) nodes → slice_get nodes i ≡ Some n →
    tree_at (grown fields trees nodes) (length trees + i) ≡ node_tree fields (grown fields trees nodes) n
node_at fields trees [] i n are found = absurd (cc)
node_at fields trees (m ∷ nodes) zero n are found =
    let t = node_tree fields trees m in
    let begins = grown_begins fields (trees ++ t ∷ []) nodes in
    let whole : List Value = grown fields (trees ++ t ∷ []) nodes in
    let same : m ≡ n = cc in
    let is : whole ≡ trees ++ (t ∷ begins.more) = begins.is ∙ append_assoc trees (t ∷ []) begins.more in
    ap (λ (w : List Value). tree_at w (length trees + 0)) is
    ∙ get_or_at trees t begins.more (value.Lit 0) (length trees + 0) (omega arith)
    ∙ sym (node_tree_over fields trees (t ∷ begins.more) m are.0)
    ∙ ap (λ (w : List Value). node_tree fields w m) (sym is)
    ∙ ap (node_tree fields whole) same
node_at fields trees (m ∷ nodes) (suc i) n are found =
    let t = node_tree fields trees m in
    let longer : length (trees ++ t ∷ []) ≡ length trees + 1 = length-append trees (t ∷ []) in
    let there = node_at fields (trees ++ t ∷ []) nodes i n (subst (λ (k : ℕ). AreNodes fields k nodes) (sym longer) are.1) found in
    ap (tree_at (grown fields (trees ++ t ∷ []) nodes)) (omega (arith, longer)) ∙ there

-- a word is added
pub literal_grows : (old new : Heap) (w number s : ℕ) → IsHeap old → new.nodes.items ≡ old.nodes.items ++ node.Lit w ∷ [] → new.fields.items ≡ old.fields.items →
    new.sizes.items ≡ old.sizes.items ++ s ∷ [] → number ≡ length old.nodes.items → Grows old new (value.Lit w) number
literal_grows old new w number s is nodes fields sizes e =
    let more = are_nodes_more old.fields.items 0 old.nodes.items (node.Lit w) is.nodes tt in
    let longer = ap length nodes ∙ length-append old.nodes.items (node.Lit w ∷ []) in
    record {
      heap = record {
        nodes = subst (λ (fs : List ℕ). AreNodes fs 0 new.nodes.items) (sym fields) (subst (AreNodes old.fields.items 0) (sym nodes) more);
        sizes = omega (arith, ap length sizes, length-append old.sizes.items (s ∷ []), longer, is.sizes);
      };
      trees = (λ i. grown (fields i) [] (nodes i)) ∙ grown_more old.fields.items [] old.nodes.items (node.Lit w);
      number = e;
      more = longer;
    }

-- a constructor on values that are there is added
pub make_grows : (old new : Heap) (d k number first count s : ℕ) (numbers : List ℕ) → IsHeap old → AllByRecursion (λ (n : ℕ). n < length old.nodes.items) numbers →
    first ≡ length old.fields.items → count ≡ length numbers → new.nodes.items ≡ old.nodes.items ++ node.Con d k first count ∷ [] →
    new.fields.items ≡ old.fields.items ++ numbers → new.sizes.items ≡ old.sizes.items ++ s ∷ [] → number ≡ length old.nodes.items →
    Grows old new (value.Con d k (trees_at (heap_trees old) numbers)) number
make_grows old new d k number first count s numbers is within ef ec nodes fields sizes e =
    let made : Node = node.Con d k first count in
    let whole : List ℕ = old.fields.items ++ numbers in
    let behind : numbers_of whole first count ≡ numbers = (λ i. take (ec i) (drop (ef i) whole)) ∙ ap (take (length numbers)) (drop_at old.fields.items numbers (length old.fields.items) refl) ∙ take_all (length numbers) numbers (omega arith) in
    let enough : first + count ≤ length whole = omega (arith, ef, ec, length-append old.fields.items numbers) in
    let below : IsNodeBelow whole (0 + length old.nodes.items) made = (enough, subst (AllByRecursion (λ (n : ℕ). n < 0 + length old.nodes.items)) (sym behind) (all_below (length old.nodes.items) (0 + length old.nodes.items) numbers (omega arith) within)) in
    let more = are_nodes_more whole 0 old.nodes.items made (are_nodes_fields old.fields.items numbers 0 old.nodes.items is.nodes) below in
    let longer = ap length nodes ∙ length-append old.nodes.items (made ∷ []) in
    let before : grown whole [] old.nodes.items ≡ heap_trees old = grown_fields old.fields.items numbers 0 [] old.nodes.items is.nodes in
    record {
      heap = record {
        nodes = subst (λ (fs : List ℕ). AreNodes fs 0 new.nodes.items) (sym fields) (subst (AreNodes whole 0) (sym nodes) more);
        sizes = omega (arith, ap length sizes, length-append old.sizes.items (s ∷ []), longer, is.sizes);
      };
      trees =
          (λ i. grown (fields i) [] (nodes i)) ∙ grown_more whole [] old.nodes.items made ∙ (λ i. before i ++ node_tree whole (before i) made ∷ [])
          ∙ ap (λ (ns : List ℕ). heap_trees old ++ value.Con d k (trees_at (heap_trees old) ns) ∷ []) behind;
      number = e;
      more = longer;
    }
