-- What the lists show as a value is taken off the stack, as a branch is taken, and as a frame begins or ends.
use Rattle.std.proofs.Common.{◌≡◌, ℕ, zero, suc, ◌+◌, ◌<◌, ◌≤◌, List, [], ◌∷◌, ◌++◌, length, take, drop, map, reverse, Option, Some, None, slice_get, get_or, sym, ap, ◌∙◌, subst, refl, arith, zero-add}
use Rattle.std.specs.Option.{option_map}
use Rattle.std.specs.List.{AllByRecursion}
use Rattle.std.proofs.lemmas.List.{length-append, length-map, take-append-le, drop-append-le, length-take-le, reverse-append, map-append, take-map}
use Rattle.std.proofs.lemmas.Option.{slice_get_within, get_or_from_slice_get}
use Rattle.px_terms.specs.declared.term.Value.{Value, out-Value}
use Rattle.px_terms.specs.declared.term.Value.TheVariants as value
use Rattle.px_terms.specs.declared.term.Value.TheOpen.{Value-F}
use Rattle.px_machine.specs.declared.code.Instr.TheVariants as instr
use Rattle.px_machine.specs.declared.heap.Heap.{Heap}
use Rattle.px_machine.specs.declared.heap.Node.{Node}
use Rattle.px_machine.specs.declared.heap.Node.TheVariants as node
use Rattle.px_machine.specs.declared.machine.Activation.{Activation}
use Rattle.px_machine.specs.Heap.{IsHeap, heap_trees, tree_at, trees_at, numbers_of, node_tree, IsNodeBelow, AreNodes}
use Rattle.px_machine.specs.Machine.{Frame, State, runs, ended, branched, entered, returned}
use Rattle.px_machine.specs.Running.{Parts, frames_of, shown, local_values, stack_values, state_of, InOrder, NameNodes, IsRun, top_frame, caller_frames, CanDo, Does, Finishes}
use Rattle.px_machine.proofs.HeapLemmas.{node_at, all_below}
use Rattle.px_machine.proofs.RunLemmas.{one_more, some_of_map, all_both}
use Rattle.px_machine.proofs.StackLemmas.{all_take, own_length}

-- the part of a list in front of its last element
pub all_front : (P : ℕ → Type 0) (xs ys : List ℕ) → AllByRecursion P (xs ++ ys) → AllByRecursion P xs × AllByRecursion P ys
all_front P [] ys all = (tt, all)
all_front P (x ∷ xs) ys all = let rest = all_front P xs ys all.1 in ((all.0, rest.0), rest.1)

-- the parts with another stack
abbrev pub on_stack : Parts → List ℕ → Parts
on_stack p stack = record p { stack = stack }

-- The last number is taken off the stack.
pub record TakesLast (p : Parts) (rest : List ℕ) (number : ℕ) : Type 0 where
  pub run : IsRun (on_stack p rest)
  pub within : number < length p.heap.nodes.items
  pub top : (top_frame p).stack ≡ tree_at (heap_trees p.heap) number ∷ (top_frame (on_stack p rest)).stack
  pub callers : caller_frames (on_stack p rest) ≡ caller_frames p

pub takes_last : (p : Parts) (rest : List ℕ) (number : ℕ) → IsRun p → p.stack ≡ rest ++ number ∷ [] → 0 < length (top_frame p).stack → TakesLast p rest number
takes_last p rest number run e some =
    let f : ℕ → Value = tree_at (heap_trees p.heap) in
    let fv : ℕ = p.top.first_value in
    let longer : length p.stack ≡ length rest + 1 = ap length e ∙ length-append rest (number ∷ []) in
    let from : fv ≤ length rest = omega (arith, some, own_length p, longer) in
    let from_values : fv ≤ length (map f rest) = omega (arith, from, length-map rest f) in
    let values : stack_values p ≡ map f rest ++ f number ∷ [] = ap (map f) e ∙ one_more (heap_trees p.heap) rest number in
    let named = all_front _ rest (number ∷ []) (subst (AllByRecursion (λ (n : ℕ). n < length p.heap.nodes.items)) e run.stack) in
    record {
      run = record { heap = run.heap; locals = run.locals; stack = named.0; order = (run.order.0, from, run.order.2) };
      within = named.1.0;
      top = ap (λ (s : List Value). reverse (drop fv s)) values ∙ ap reverse (drop-append-le fv (map f rest) (f number ∷ []) from_values) ∙ reverse-append (drop fv (map f rest)) (f number ∷ []);
      callers = ap (frames_of p.callers (take p.top.first_local (local_values p))) (sym (ap (take fv) values ∙ take-append-le fv (map f rest) (f number ∷ []) from_values));
    }

-- what stands for a node
pub node_value : (heap : Heap) (number : ℕ) (n : Node) → IsHeap heap → slice_get heap.nodes.items number ≡ Some n → tree_at (heap_trees heap) number ≡ node_tree heap.fields.items (heap_trees heap) n
node_value heap number n is found = ap (tree_at (heap_trees heap)) (sym (zero-add number)) ∙ node_at heap.fields.items [] heap.nodes.items number n is.nodes found

node_below : (fields : List ℕ) (k : ℕ) (nodes : List Node) (i : ℕ) (n : Node) → AreNodes fields k nodes → slice_get nodes i ≡ Some n → IsNodeBelow fields (k + i) n
node_below fields k [] i n are found = absurd (cc)
node_below fields k (m ∷ nodes) zero n are found =
    let same : m ≡ n = cc in
    let at : k ≡ k + 0 = omega arith in
    subst (λ (j : ℕ). IsNodeBelow fields j n) at (subst (IsNodeBelow fields k) same are.0)
node_below fields k (m ∷ nodes) (suc i) n are found =
    let at : k + 1 + i ≡ k + suc i = omega arith in
    subst (λ (j : ℕ). IsNodeBelow fields j n) at (node_below fields (k + 1) nodes i n are.1 found)

-- the fields of a node
pub fields_below : (heap : Heap) (number d k first count : ℕ) → IsHeap heap → slice_get heap.nodes.items number ≡ Some (node.Con d k first count) → first + count ≤ length heap.fields.items
fields_below heap number d k first count is found = (node_below heap.fields.items 0 heap.nodes.items number (node.Con d k first count) is.nodes found).0

pub fields_name : (heap : Heap) (number d k first count : ℕ) → IsHeap heap → number < length heap.nodes.items → slice_get heap.nodes.items number ≡ Some (node.Con d k first count) → NameNodes heap (numbers_of heap.fields.items first count)
fields_name heap number d k first count is within found =
    all_below _ _ (numbers_of heap.fields.items first count) (omega (arith, within)) (node_below heap.fields.items 0 heap.nodes.items number (node.Con d k first count) is.nodes found).1

-- a branch finds a value
branched_some : (places : List ℕ) (F : Frame) (xs : List Value) (G : Frame) → branched places F xs ≡ Some G → 0 < length xs
branched_some places F [] G e = absurd (cc)
branched_some places F (x ∷ xs) G e = omega arith

-- What is known where a branch is taken on the last number.
pub record Branches (p : Parts) (places rest : List ℕ) (number : ℕ) : Type 0 where
  pub takes : TakesLast p rest number
  pub goes : Frame
  pub enters : entered places (out-Value (tree_at (heap_trees p.heap) number)) (top_frame p) (top_frame (on_stack p rest)).stack ≡ Some goes

pub branch_some : (p : Parts) (places : List ℕ) → CanDo (instr.Branch places) p → 0 < length (top_frame p).stack
branch_some p places can =
    let found = some_of_map _ _ _ can.does in
    branched_some places (top_frame p) (top_frame p).stack found.0 found.1

pub branches : (p : Parts) (places rest : List ℕ) (number : ℕ) → CanDo (instr.Branch places) p → p.stack ≡ rest ++ number ∷ [] → Branches p places rest number
branches p places rest number can e =
    let found = some_of_map _ _ _ can.does in
    let takes = takes_last p rest number can.run e (branch_some p places can) in
    record { takes = takes; goes = found.0; enters = sym (ap (branched places (top_frame p)) takes.top) ∙ found.1 }

-- no branch is taken on a word
pub no_word : (p : Parts) (places rest : List ℕ) (number w : ℕ) → CanDo (instr.Branch places) p → p.stack ≡ rest ++ number ∷ [] → slice_get p.heap.nodes.items number ≡ Some (node.Lit w) → ⊥
no_word p places rest number w can e found =
    let b = branches p places rest number can e in
    let is : out-Value (tree_at (heap_trees p.heap) number) ≡ Value-F.Lit w = ap out-Value (node_value p.heap number (node.Lit w) can.run.heap found) ∙ value.outs-Lit w in
    let none : None ≡ Some b.goes = sym (ap (λ (y : Value-F Value). entered places y (top_frame p) (top_frame (on_stack p rest)).stack) is) ∙ b.enters in
    cc

-- the place of the constructor's number
pub record HasPlace (places : List ℕ) (k : ℕ) (F G : Frame) (fields below : List Value) : Type 0 where
  pub place : ℕ
  pub is_place : slice_get places k ≡ Some place

pub has_place : (p : Parts) (places rest : List ℕ) (number d k first count : ℕ) → CanDo (instr.Branch places) p → p.stack ≡ rest ++ number ∷ [] →
    slice_get p.heap.nodes.items number ≡ Some (node.Con d k first count) → (place : ℕ) × (slice_get places k ≡ Some place)
has_place p places rest number d k first count can e found =
    let b = branches p places rest number can e in
    let vs : List Value = trees_at (heap_trees p.heap) (numbers_of p.heap.fields.items first count) in
    let is : out-Value (tree_at (heap_trees p.heap) number) ≡ Value-F.Con d k vs = ap out-Value (node_value p.heap number (node.Con d k first count) can.run.heap found) ∙ value.outs-Con d k vs in
    let some = sym (ap (λ (y : Value-F Value). entered places y (top_frame p) (top_frame (on_stack p rest)).stack) is) ∙ b.enters in
    let place = some_of_map _ _ _ some in
    (place.0, place.1)

-- the branch is taken
pub branch_does : (p : Parts) (places rest : List ℕ) (number d k first count place : ℕ) → CanDo (instr.Branch places) p → p.stack ≡ rest ++ number ∷ [] →
    slice_get p.heap.nodes.items number ≡ Some (node.Con d k first count) → slice_get places k ≡ Some place →
    Does (instr.Branch places) p (record p { locals = p.locals ++ numbers_of p.heap.fields.items first count; stack = rest; top = record p.top { place = place } })
branch_does p places rest number d k first count place can e found at =
    let b = branches p places rest number can e in
    let f : ℕ → Value = tree_at (heap_trees p.heap) in
    let fl : ℕ = p.top.first_local in
    let numbers : List ℕ = numbers_of p.heap.fields.items first count in
    let vs : List Value = trees_at (heap_trees p.heap) numbers in
    let below : List Value = (top_frame (on_stack p rest)).stack in
    let is : out-Value (f number) ≡ Value-F.Con d k vs = ap out-Value (node_value p.heap number (node.Con d k first count) can.run.heap found) ∙ value.outs-Con d k vs in
    let from : fl ≤ length (local_values p) = omega (arith, can.run.order.0, length-map p.locals f) in
    let values : map f (p.locals ++ numbers) ≡ local_values p ++ vs = map-append f p.locals numbers in
    let own : drop fl (map f (p.locals ++ numbers)) ≡ drop fl (local_values p) ++ vs = ap (drop fl) values ∙ drop-append-le fl (local_values p) vs from in
    let under : take fl (map f (p.locals ++ numbers)) ≡ take fl (local_values p) = ap (take fl) values ∙ take-append-le fl (local_values p) vs from in
    record {
      run = record {
        heap = can.run.heap;
        locals = all_both _ p.locals numbers can.run.locals (fields_name p.heap number d k first count can.run.heap b.takes.within found);
        stack = b.takes.run.stack;
        order = (omega (arith, length-append p.locals numbers, can.run.order.0), b.takes.run.order.1, can.run.order.2);
      };
      does =
          ap (λ (s : List Value). option_map (λ (G : Frame). runs G (caller_frames p) p.calls) (branched places (top_frame p) s)) b.takes.top
          ∙ ap (λ (y : Value-F Value). option_map (λ (G : Frame). runs G (caller_frames p) p.calls) (entered places y (top_frame p) below)) is
          ∙ ap (λ (o : Option ℕ). option_map (λ (G : Frame). runs G (caller_frames p) p.calls) (option_map (λ (q : ℕ). record (top_frame p) { place = q; locals = (top_frame p).locals ++ vs; stack = below }) o)) at
          ∙ (λ i. Some (runs (record { def = p.top.def; place = place; funs = p.top.funs; locals = sym own i; stack = below }) (sym b.takes.callers i) p.calls))
          ∙ (λ i. Some (runs (record { def = p.top.def; place = place; funs = p.top.funs; locals = drop fl (map f (p.locals ++ numbers)); stack = below }) (frames_of p.callers (sym under i) (take p.top.first_value (map f rest))) p.calls));
    }

-- the same, of the lists that the code has
pub branch_in_code : (p : Parts) (places rest locals slice : List ℕ) (number d k first count : ℕ) → CanDo (instr.Branch places) p → p.stack ≡ rest ++ number ∷ [] →
    slice_get p.heap.nodes.items number ≡ Some (node.Con d k first count) → locals ≡ p.locals ++ slice → slice ≡ numbers_of p.heap.fields.items first count →
    Does (instr.Branch places) p (record p { locals = locals; stack = rest; top = record p.top { place = get_or places k 0 } })
branch_in_code p places rest locals slice number d k first count can e found is_locals is_slice =
    let at = has_place p places rest number d k first count can e found in
    let place : slice_get places k ≡ Some (get_or places k 0) = at.1 ∙ ap Some (sym (get_or_from_slice_get places k at.0 0 at.1)) in
    let same : locals ≡ p.locals ++ numbers_of p.heap.fields.items first count = is_locals ∙ ap (λ (xs : List ℕ). p.locals ++ xs) is_slice in
    subst (λ (xs : List ℕ). Does (instr.Branch places) p (record p { locals = xs; stack = rest; top = record p.top { place = get_or places k 0 } })) (sym same)
    (branch_does p places rest number d k first count (get_or places k 0) can e found place)

pub place_within : (p : Parts) (places rest : List ℕ) (number d k first count : ℕ) → CanDo (instr.Branch places) p → p.stack ≡ rest ++ number ∷ [] →
    slice_get p.heap.nodes.items number ≡ Some (node.Con d k first count) → k < length places
place_within p places rest number d k first count can e found =
    let at = has_place p places rest number d k first count can e found in
    slice_get_within places k at.0 at.1

pub branch_takes : (p : Parts) (places : List ℕ) → CanDo (instr.Branch places) p → 0 < length p.stack
branch_takes p places can = omega (arith, branch_some p places can, own_length p)

pub branch_within : (p : Parts) (places rest : List ℕ) (number : ℕ) → CanDo (instr.Branch places) p → p.stack ≡ rest ++ number ∷ [] → number < length p.heap.nodes.items
branch_within p places rest number can e = (branches p places rest number can e).takes.within

-- a frame returns a value
returned_some : (xs : List Value) (callers : List Frame) (calls : ℕ) (s : State) → returned xs callers calls ≡ Some s → 0 < length xs
returned_some [] callers calls s e = absurd (cc)
returned_some (x ∷ xs) callers calls s e = omega arith

pub return_some : (p : Parts) → CanDo instr.Return p → 0 < length (top_frame p).stack
return_some p can = returned_some (top_frame p).stack (caller_frames p) p.calls can.after can.does

pub return_takes : (p : Parts) → CanDo instr.Return p → 0 < length p.stack
return_takes p can = omega (arith, return_some p can, own_length p)

-- the last frame ends the run
pub return_finishes : (p : Parts) (rest : List ℕ) (number : ℕ) → CanDo instr.Return p → p.stack ≡ rest ++ number ∷ [] → p.callers ≡ [] → (q : Parts) → q.heap ≡ p.heap → q.calls ≡ p.calls →
    Finishes instr.Return p q number
return_finishes p rest number can e none q same_heap same_calls =
    let takes = takes_last p rest number can.run e (return_some p can) in
    record {
      heap = subst IsHeap (sym same_heap) can.run.heap;
      within = subst (λ (h : Heap). number < length h.nodes.items) (sym same_heap) takes.within;
      does =
          ap (λ (s : List Value). returned s (caller_frames p) p.calls) takes.top
          ∙ ap (λ (callers : List Activation). returned (tree_at (heap_trees p.heap) number ∷ (top_frame (on_stack p rest)).stack) (frames_of callers (take p.top.first_local (local_values p)) (take p.top.first_value (stack_values p))) p.calls) none
          ∙ (λ i. Some (ended (tree_at (heap_trees (sym same_heap i)) number) (sym same_calls i)));
    }

-- a value is pushed on a frame that waits
shown_waiting : (a : Activation) (callers : List Activation) (locals stack : List Value) (v : Value) (calls : ℕ) → a.first_value ≤ length stack →
    shown a callers locals (stack ++ v ∷ []) calls
    ≡ runs (record { def = a.def; place = a.place; funs = a.funs; locals = drop a.first_local locals; stack = v ∷ reverse (drop a.first_value stack) })
    (frames_of callers (take a.first_local locals) (take a.first_value stack)) calls
shown_waiting a callers locals stack v calls within =
    let top : reverse (drop a.first_value (stack ++ v ∷ [])) ≡ v ∷ reverse (drop a.first_value stack) =
    ap reverse (drop-append-le a.first_value stack (v ∷ []) within) ∙ reverse-append (drop a.first_value stack) (v ∷ []) in
    let below = take-append-le a.first_value stack (v ∷ []) within in
    λ i. runs (record { def = a.def; place = a.place; funs = a.funs; locals = drop a.first_local locals; stack = top i })
    (frames_of callers (take a.first_local locals) (below i)) calls

-- the caller goes on with the value
abbrev pub back_in : Parts → Activation → List Activation → List ℕ → ℕ → Parts
back_in p caller callers rest number = record {
  heap = p.heap;
  locals = take p.top.first_local p.locals;
  stack = take p.top.first_value rest ++ number ∷ [];
  top = caller;
  callers = callers;
  calls = p.calls;
}

pub return_does : (p : Parts) (rest : List ℕ) (number : ℕ) (caller : Activation) (callers : List Activation) → CanDo instr.Return p → p.stack ≡ rest ++ number ∷ [] → p.callers ≡ caller ∷ callers →
    Does instr.Return p (back_in p caller callers rest number)
return_does p rest number caller callers can e are =
    let takes = takes_last p rest number can.run e (return_some p can) in
    let f : ℕ → Value = tree_at (heap_trees p.heap) in
    let fl : ℕ = p.top.first_local in
    let fv : ℕ = p.top.first_value in
    let v : Value = f number in
    let order : InOrder (caller ∷ callers) fl fv = subst (λ (as' : List Activation). InOrder as' fl fv) are can.run.order.2 in
    let long_rest : fv ≤ length rest = takes.run.order.1 in
    let locals : map f (take fl p.locals) ≡ take fl (local_values p) = sym (take-map f fl p.locals) in
    let stack : map f (take fv rest ++ number ∷ []) ≡ take fv (map f rest) ++ v ∷ [] = one_more (heap_trees p.heap) (take fv rest) number ∙ ap (λ (s : List Value). s ++ v ∷ []) (sym (take-map f fv rest)) in
    let values : take fv (stack_values p) ≡ take fv (map f rest) =
    ap (λ (s : List ℕ). take fv (map f s)) e ∙ ap (take fv) (one_more (heap_trees p.heap) rest number) ∙ take-append-le fv (map f rest) (v ∷ []) (omega (arith, long_rest, length-map rest f)) in
    let long : caller.first_value ≤ length (take fv (map f rest)) = omega (arith, order.1, long_rest, length-take-le fv (map f rest) (omega (arith, long_rest, length-map rest f))) in
    let shows : state_of (back_in p caller callers rest number) ≡ runs (record { def = caller.def; place = caller.place; funs = caller.funs; locals = drop caller.first_local (take fl (local_values p)); stack = v ∷ reverse (drop caller.first_value (take fv (map f rest))) })
    (frames_of callers (take caller.first_local (take fl (local_values p))) (take caller.first_value (take fv (map f rest)))) p.calls =
    (λ i. shown caller callers (locals i) (stack i) p.calls) ∙ shown_waiting caller callers (take fl (local_values p)) (take fv (map f rest)) v p.calls long in
    record {
      run = record {
        heap = can.run.heap;
        locals = all_take _ fl p.locals can.run.locals;
        stack = all_both _ (take fv rest) (number ∷ []) (all_take _ fv rest takes.run.stack) (takes.within, tt);
        order = (omega (arith, order.0, length-take-le fl p.locals can.run.order.0), omega (arith, order.1, length-append (take fv rest) (number ∷ []), length-take-le fv rest long_rest), order.2);
      };
      does =
          ap (λ (s : List Value). returned s (caller_frames p) p.calls) takes.top
          ∙ (λ i. returned (v ∷ (top_frame (on_stack p rest)).stack) (frames_of (are i) (take fl (local_values p)) (values i)) p.calls)
          ∙ ap Some (sym shows);
    }

-- there is no caller
pub no_caller : (callers : List Activation) → length callers ≡ 0 → reverse callers ≡ []
no_caller [] e = refl
no_caller (a ∷ callers) e = absurd (omega (arith, e))

-- the nearest caller
pub nearest_caller : (old new : List Activation) (caller : Activation) → old ≡ new ++ caller ∷ [] → reverse old ≡ caller ∷ reverse new
nearest_caller old new caller e = ap reverse e ∙ reverse-append new (caller ∷ [])

-- the same, of the lists that the code has
pub return_in_code : (p : Parts) (rest locals cut_stack stack : List ℕ) (number : ℕ) (caller : Activation) (callers : List Activation) → CanDo instr.Return p → p.stack ≡ rest ++ number ∷ [] → p.callers ≡ caller ∷ callers →
    locals ≡ take p.top.first_local p.locals → cut_stack ≡ take p.top.first_value rest → stack ≡ cut_stack ++ number ∷ [] →
    Does instr.Return p (record { heap = p.heap; locals = locals; stack = stack; top = caller; callers = callers; calls = p.calls })
return_in_code p rest locals cut_stack stack number caller callers can e are is_locals is_cut is_stack =
    let same : stack ≡ take p.top.first_value rest ++ number ∷ [] = is_stack ∙ ap (λ (s : List ℕ). s ++ number ∷ []) is_cut in
    subst (λ (xs : List ℕ). Does instr.Return p (record { heap = p.heap; locals = xs; stack = stack; top = caller; callers = callers; calls = p.calls })) (sym is_locals)
    (subst (λ (xs : List ℕ). Does instr.Return p (record { heap = p.heap; locals = take p.top.first_local p.locals; stack = xs; top = caller; callers = callers; calls = p.calls })) (sym same)
    (return_does p rest number caller callers can e are))
