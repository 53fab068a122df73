-- What the machine's lists show, as values are pushed and taken.
use Rattle.std.proofs.Common.{◌≡◌, ℕ, zero, suc, ◌+◌, ◌<◌, ◌≤◌, List, [], ◌∷◌, ◌++◌, length, take, drop, map, reverse, Option, Some, None, slice_get, get_or, sym, ap, ◌∙◌, subst, refl, arith, Result, Ok, Err, OnOk, option_and_then}
use Rattle.std.specs.Option.{option_map}
use Rattle.std.proofs.lemmas.Option.{get_or_from_slice_get}
use Rattle.std.specs.List.{AllByRecursion}
use Rattle.std.proofs.lemmas.List.{length-append, length-map, take-append-le, drop-append-le, reverse-append, map-append, get_or_at}
use Rattle.px_terms.specs.declared.term.Value.{Value}
use Rattle.px_terms.specs.declared.term.Value.TheVariants as value
use Rattle.px_machine.specs.declared.code.Instr.{Instr}
use Rattle.px_machine.specs.declared.code.Instr.TheVariants as instr
use Rattle.px_machine.specs.declared.heap.Heap.{Heap}
use Rattle.px_machine.specs.declared.machine.Activation.{Activation}
use Rattle.px_machine.specs.Heap.{Grows, heap_trees, tree_at, trees_at}
use Rattle.px_machine.specs.Machine.{State, runs, effect, going_on}
use Rattle.px_machine.specs.Running.{Parts, frame_of, frames_of, shown, local_values, stack_values, state_of, InOrder, NameNodes, IsRun, pushed, effect_on, top_frame, caller_frames, CanDo, Does}
use Rattle.px_machine.proofs.HeapLemmas.{all_below, trees_at_more, trees_length}

-- all of two lists
pub all_both : (P : ℕ → Type 0) (xs ys : List ℕ) → AllByRecursion P xs → AllByRecursion P ys → AllByRecursion P (xs ++ ys)
all_both P [] ys a b = b
all_both P (x ∷ xs) ys a b = (a.0, all_both P xs ys a.1 b)

-- the one element of a list
pub all_one : (P : ℕ → Type 0) (xs : List ℕ) (i : ℕ) (d : ℕ) → AllByRecursion P xs → i < length xs → P (get_or xs i d)
all_one P [] i d all within = absurd (omega (arith, within))
all_one P (x ∷ xs) zero d all within = all.0
all_one P (x ∷ xs) (suc i) d all within = all_one P xs i d all.1 (omega arith)

-- the activation at the next place
abbrev pub onward : Activation → Activation
onward a = record a { place = a.place + 1 }

-- a value is pushed
pub shown_push : (a : Activation) (callers : List Activation) (locals stack : List Value) (v : Value) (calls : ℕ) → a.first_value ≤ length stack →
    shown (onward a) callers locals (stack ++ v ∷ []) calls
    ≡ runs (going_on (frame_of a (drop a.first_local locals) (drop a.first_value stack)) (v ∷ reverse (drop a.first_value stack)))
    (frames_of callers (take a.first_local locals) (take a.first_value stack)) calls
shown_push a callers locals stack v calls within =
    let top : reverse (drop a.first_value (stack ++ v ∷ [])) ≡ v ∷ reverse (drop a.first_value stack) =
    ap reverse (drop-append-le a.first_value stack (v ∷ []) within) ∙ reverse-append (drop a.first_value stack) (v ∷ []) in
    let below = take-append-le a.first_value stack (v ∷ []) within in
    λ i. runs (record { def = a.def; place = a.place + 1; funs = a.funs; locals = drop a.first_local locals; stack = top i })
    (frames_of callers (take a.first_local locals) (below i)) calls

-- the values of one more number
pub one_more : (trees : List Value) (numbers : List ℕ) (n : ℕ) → trees_at trees (numbers ++ n ∷ []) ≡ trees_at trees numbers ++ tree_at trees n ∷ []
one_more trees numbers n = map-append (tree_at trees) numbers (n ∷ [])

-- the state after a value is pushed
abbrev pub after_push : Parts → Value → State
after_push p v = runs (going_on (top_frame p) (v ∷ (top_frame p).stack)) (caller_frames p) p.calls

-- a node is pushed
pub push_shows : (p : Parts) (n : ℕ) → IsRun p → state_of (pushed p n) ≡ after_push p (tree_at (heap_trees p.heap) n)
push_shows p n run =
    let long : p.top.first_value ≤ length (stack_values p) = omega (arith, run.order.1, length-map p.stack (tree_at (heap_trees p.heap))) in
    ap (λ stack. shown (onward p.top) p.callers (local_values p) stack p.calls) (one_more (heap_trees p.heap) p.stack n)
    ∙ shown_push p.top p.callers (local_values p) (stack_values p) (tree_at (heap_trees p.heap) n) p.calls long

pub in_order_longer : (callers : List Activation) (l s t : ℕ) → s ≤ t → InOrder callers l s → InOrder callers l t
in_order_longer [] l s t le o = tt
in_order_longer (a ∷ callers) l s t le o = (o.0, omega (arith, o.1), o.2)

pub push_runs : (p : Parts) (n : ℕ) → IsRun p → n < length p.heap.nodes.items → IsRun (pushed p n)
push_runs p n run within = record {
  heap = run.heap;
  locals = run.locals;
  stack = all_both _ p.stack (n ∷ []) run.stack (within, tt);
  order = (run.order.0, omega (arith, run.order.1, length-append p.stack (n ∷ [])), run.order.2);
}

-- the heap has grown
abbrev pub on_heap : Parts → Heap → Parts
on_heap p heap = record p { heap = heap }

pub grown_runs : (p : Parts) (new : Heap) (v : Value) (n : ℕ) → IsRun p → Grows p.heap new v n → IsRun (on_heap p new)
grown_runs p new v n run grows = record {
  heap = grows.heap;
  locals = all_below _ _ p.locals (omega (arith, grows.more)) run.locals;
  stack = all_below _ _ p.stack (omega (arith, grows.more)) run.stack;
  order = run.order;
}

-- what numbers name is kept as the heap grows
pub grown_values : (old new : Heap) (v : Value) (n : ℕ) (numbers : List ℕ) → Grows old new v n → NameNodes old numbers → trees_at (heap_trees new) numbers ≡ trees_at (heap_trees old) numbers
grown_values old new v n numbers grows names =
    let enough : length old.nodes.items ≤ length (heap_trees old) = omega (arith, trees_length old) in
    ap (λ trees. trees_at trees numbers) grows.trees ∙ trees_at_more (heap_trees old) (v ∷ []) numbers (all_below _ _ numbers enough names)

pub grown_value : (old new : Heap) (v : Value) (n : ℕ) → Grows old new v n → tree_at (heap_trees new) n ≡ v
grown_value old new v n grows =
    ap (λ trees. tree_at trees n) grows.trees ∙ get_or_at (heap_trees old) v [] (value.Lit 0) n (omega (arith, trees_length old, grows.number))

-- what holds where a result is Ok leads to what holds where it is
pub on_ok : {T E : Type 0} {P Q : Type 0} (r : Result T E) → (P → Q) → OnOk r P → OnOk r Q
on_ok (Ok x) f p = f p
on_ok (Err e) f p = p

-- an option that is something after a function was something before
pub some_of_map : {A B : Type 0} (f : A → B) (o : Option A) (y : B) → option_map f o ≡ Some y → (x : A) × (o ≡ Some x) × (f x ≡ y)
some_of_map f (Some x) y e = (x, refl, cc)
some_of_map f None y e = absurd (cc)

-- an option that is something after another was something before
pub some_of_then : {A B : Type 0} (f : A → Option B) (o : Option A) (y : B) → option_and_then f o ≡ Some y → (x : A) × (o ≡ Some x) × (f x ≡ Some y)
some_of_then f (Some x) y e = (x, refl, e)
some_of_then f None y e = absurd (cc)

-- an element behind a place of the values that numbers name
pub record Named (f : ℕ → Value) (numbers : List ℕ) (at : ℕ) (v : Value) : Type 0 where
  pub number : ℕ
  pub within : at < length numbers
  pub found : slice_get numbers at ≡ Some number
  pub names : f number ≡ v

pub named_behind : (f : ℕ → Value) (numbers : List ℕ) (k n : ℕ) (v : Value) → slice_get (drop k (map f numbers)) n ≡ Some v → Named f numbers (k + n) v
named_behind f [] zero n v e = absurd (cc)
named_behind f [] (suc k) n v e = absurd (cc)
named_behind f (x ∷ numbers) zero zero v e = record { number = x; within = omega arith; found = refl; names = cc }
named_behind f (x ∷ numbers) zero (suc n) v e =
    let rest = named_behind f numbers zero n v e in
    let at : zero + suc n ≡ suc (zero + n) = omega arith in
    subst (λ (i : ℕ). Named f (x ∷ numbers) i v) (sym at) (record { number = rest.number; within = omega (arith, rest.within); found = rest.found; names = rest.names })
named_behind f (x ∷ numbers) (suc k) n v e =
    let rest = named_behind f numbers k n v e in
    let at : suc k + n ≡ suc (k + n) = omega arith in
    subst (λ (i : ℕ). Named f (x ∷ numbers) i v) (sym at) (record { number = rest.number; within = omega (arith, rest.within); found = rest.found; names = rest.names })

-- an instruction that pushes a value which a node stands for
pub push_does : (i : Instr) (p : Parts) (v : Value) (n : ℕ) → IsRun p → n < length p.heap.nodes.items → tree_at (heap_trees p.heap) n ≡ v → effect_on i p ≡ Some (after_push p v) → Does i p (pushed p n)
push_does i p v n run within is does = record {
  run = push_runs p n run within;
  does = does ∙ ap Some (ap (after_push p) (sym is) ∙ sym (push_shows p n run));
}

-- the same where the heap has grown by the node
pub grown_shows : (p : Parts) (new : Heap) (v : Value) (n : ℕ) → IsRun p → Grows p.heap new v n → state_of (on_heap p new) ≡ state_of p
grown_shows p new v n run grows =
    λ i. shown p.top p.callers (grown_values p.heap new v n p.locals grows run.locals i) (grown_values p.heap new v n p.stack grows run.stack i) p.calls

pub grown_effect : (j : Instr) (p : Parts) (new : Heap) (v : Value) (n : ℕ) → IsRun p → Grows p.heap new v n → effect_on j (on_heap p new) ≡ effect_on j p
grown_effect j p new v n run grows =
    λ i. effect j (frame_of p.top (drop p.top.first_local (grown_values p.heap new v n p.locals grows run.locals i)) (drop p.top.first_value (grown_values p.heap new v n p.stack grows run.stack i)))
    (frames_of p.callers (take p.top.first_local (grown_values p.heap new v n p.locals grows run.locals i)) (take p.top.first_value (grown_values p.heap new v n p.stack grows run.stack i))) p.calls

-- the local that an instruction pushes is there
pub local_within : (p : Parts) (n : ℕ) → CanDo (instr.Local n) p → p.top.first_local + n < length p.locals
local_within p n can =
    let found = some_of_map _ _ _ can.does in
    (named_behind (tree_at (heap_trees p.heap)) p.locals p.top.first_local n found.0 found.1).within

pub local_does : (p q : Parts) (n number : ℕ) → CanDo (instr.Local n) p → number ≡ get_or p.locals (p.top.first_local + n) number → q ≡ pushed p number → Does (instr.Local n) p q
local_does p q n number can is e =
    let found = some_of_map _ _ _ can.does in
    let named = named_behind (tree_at (heap_trees p.heap)) p.locals p.top.first_local n found.0 found.1 in
    let same : number ≡ named.number = is ∙ get_or_from_slice_get p.locals (p.top.first_local + n) named.number number named.found in
    let within : number < length p.heap.nodes.items = subst (λ (m : ℕ). m < length p.heap.nodes.items) (sym is) (all_one (λ (m : ℕ). m < length p.heap.nodes.items) p.locals (p.top.first_local + n) number can.run.locals named.within) in
    let is_value : tree_at (heap_trees p.heap) number ≡ found.0 = ap (tree_at (heap_trees p.heap)) same ∙ named.names in
    subst (Does (instr.Local n) p) (sym e) (push_does (instr.Local n) p found.0 number can.run within is_value (ap (option_map (after_push p)) found.1))

pub literal_does : (p q : Parts) (new : Heap) (w number : ℕ) → CanDo (instr.Lit w) p → Grows p.heap new (value.Lit w) number → q ≡ pushed (on_heap p new) number → Does (instr.Lit w) p q
literal_does p q new w number can grows e =
    let done = push_does (instr.Lit w) (on_heap p new) (value.Lit w) number (grown_runs p new (value.Lit w) number can.run grows) (omega (arith, grows.number, grows.more)) (grown_value p.heap new (value.Lit w) number grows) refl in
    subst (Does (instr.Lit w) p) (sym e) (record { run = done.run; does = sym (grown_effect (instr.Lit w) p new (value.Lit w) number can.run grows) ∙ done.does })
