-- What the lists show as values are taken off the stack, and as frames begin and end.
use Rattle.std.proofs.Common.{◌≡◌, ℕ, zero, suc, ◌+◌, ◌-◌, ◌≤◌, List, [], ◌∷◌, ◌++◌, length, take, drop, map, reverse, Bool, true, false, nat_le, if◌then◌else◌, Some, None, sym, ap, ◌∙◌, subst, refl, arith, max}
use Rattle.std.specs.Option.{option_map}
use Rattle.std.specs.List.{AllByRecursion}
use Rattle.std.proofs.lemmas.List.{length-map, take-append-drop, length-drop, length-take, length-take-le, length-reverse, reverse-append, reverse-reverse, take-take, drop-take, drop-drop, drop_at, take_at, take_rest, take-map, drop-map}
use Rattle.px_terms.specs.declared.term.Value.{Value}
use Rattle.px_terms.specs.declared.term.Value.TheVariants as value
use Rattle.px_machine.specs.declared.code.Instr.{Instr}
use Rattle.px_machine.specs.declared.code.Instr.TheVariants as instr
use Rattle.px_machine.specs.declared.heap.Heap.{Heap}
use Rattle.px_machine.specs.Heap.{Grows, heap_trees, tree_at, trees_at}
use Rattle.px_machine.specs.Machine.{Frame, runs, going_on, popped}
use Rattle.px_machine.specs.Running.{Parts, frame_of, frames_of, local_values, stack_values, NameNodes, IsRun, pushed, effect_on, top_frame, caller_frames, cut, CanDo, Does}
use Rattle.px_machine.proofs.RunLemmas.{after_push, push_shows, push_runs, on_heap, grown_runs, grown_values, grown_value, some_of_map}

-- all of a part of a list
pub all_take : (P : ℕ → Type 0) (n : ℕ) (xs : List ℕ) → AllByRecursion P xs → AllByRecursion P (take n xs)
all_take P zero xs all = tt
all_take P (suc n) [] all = tt
all_take P (suc n) (x ∷ xs) all = (all.0, all_take P n xs all.1)

pub all_drop : (P : ℕ → Type 0) (n : ℕ) (xs : List ℕ) → AllByRecursion P xs → AllByRecursion P (drop n xs)
all_drop P zero xs all = all
all_drop P (suc n) [] all = tt
all_drop P (suc n) (x ∷ xs) all = all_drop P n xs all.1

-- a test that came out true
le_true : (m n : ℕ) → m ≤ n → nat_le m n ≡ true
le_true m n le = grind arith

popped_by : (b : Bool) (m n : ℕ) (xs : List Value) (p : List Value × List Value) → nat_le m n ≡ b → (if b then Some (reverse (take m xs), drop m xs) else None) ≡ Some p → m ≤ n
popped_by true m n xs p is e = grind arith
popped_by false m n xs p is e = absurd (cc)

-- what is popped was there
pub popped_enough : (n : ℕ) (xs : List Value) (p : List Value × List Value) → popped n xs ≡ Some p → n ≤ length xs
popped_enough n xs p e = popped_by (nat_le n (length xs)) n (length xs) xs p refl e

-- the two parts of a list, turned round
pub record Turned {A : Type 0} (n : ℕ) (xs : List A) : Type 0 where
  pub front : take n (reverse xs) ≡ reverse (drop (length xs - n) xs)
  pub back : drop n (reverse xs) ≡ reverse (take (length xs - n) xs)

pub turned : {A : Type 0} (n : ℕ) (xs : List A) → n ≤ length xs → Turned n xs
turned n xs le =
    let m : ℕ = length xs - n in
    let parts : reverse xs ≡ reverse (drop m xs) ++ reverse (take m xs) = ap reverse (sym (take-append-drop m xs)) ∙ reverse-append (take m xs) (drop m xs) in
    let long : length (reverse (drop m xs)) ≡ n = length-reverse (drop m xs) ∙ length-drop m xs ∙ omega (arith, le) in
    record {
      front = ap (take n) parts ∙ take_at (reverse (drop m xs)) (reverse (take m xs)) n long;
      back = ap (drop n) parts ∙ drop_at (reverse (drop m xs)) (reverse (take m xs)) n long;
    }

-- popping from a stack whose top is last
pub popped_is : (n : ℕ) (xs : List Value) → n ≤ length xs → popped n (reverse xs) ≡ Some (drop (length xs - n) xs, reverse (take (length xs - n) xs))
popped_is n xs le =
    let t = turned n xs le in
    let yes : nat_le n (length (reverse xs)) ≡ true = le_true n (length (reverse xs)) (omega (arith, le, length-reverse xs)) in
    ap (λ (b : Bool). if b then Some (reverse (take n (reverse xs)), drop n (reverse xs)) else None) yes
    ∙ (λ i. Some (reverse (t.front i), t.back i)) ∙ ap (λ (ys : List Value). Some (ys, reverse (take (length xs - n) xs))) (reverse-reverse (drop (length xs - n) xs))

-- What is known where n values are cut off the stack of the frame that runs.
pub record IsCut (p : Parts) (n start : ℕ) : Type 0 where
  pub run : IsRun (cut p start)
  pub pops : popped n (top_frame p).stack ≡ Some (trees_at (heap_trees p.heap) (drop start p.stack), (top_frame (cut p start)).stack)
  pub callers : caller_frames (cut p start) ≡ caller_frames p
  pub names : NameNodes p.heap (drop start p.stack)
  pub within : start ≤ length p.stack

-- how many values the frame's stack has
pub own_length : (p : Parts) → length (top_frame p).stack ≡ length p.stack - p.top.first_value
own_length p =
    length-reverse (drop p.top.first_value (stack_values p)) ∙ length-drop p.top.first_value (stack_values p)
    ∙ ap (λ (n : ℕ). n - p.top.first_value) (length-map p.stack (tree_at (heap_trees p.heap)))

pub is_cut : (p : Parts) (n : ℕ) → IsRun p → n ≤ length (top_frame p).stack → IsCut p n (length p.stack - n)
is_cut p n run enough =
    let start : ℕ = length p.stack - n in
    let fv : ℕ = p.top.first_value in
    let f : ℕ → Value = tree_at (heap_trees p.heap) in
    let own = own_length p in
    let as_long = length-map p.stack f in
    let from : fv ≤ start = omega (arith, run.order.1, own, enough) in
    let own_stack : List Value = drop fv (stack_values p) in
    let own_long : length own_stack ≡ length p.stack - fv = length-drop fv (stack_values p) ∙ ap (λ (n : ℕ). n - fv) as_long in
    let rest : ℕ = length own_stack - n in
    let place : fv + rest ≡ start = omega (arith, own_long, from) in
    let values : stack_values (cut p start) ≡ take start (stack_values p) = sym (take-map f start p.stack) in
    let top : drop fv (stack_values (cut p start)) ≡ take rest own_stack =
    ap (drop fv) values ∙ ap (λ (m : ℕ). drop fv (take m (stack_values p))) (sym place) ∙ drop-take fv rest (stack_values p) in
    let taken : drop rest own_stack ≡ trees_at (heap_trees p.heap) (drop start p.stack) =
    drop-drop rest fv (stack_values p) ∙ ap (λ (m : ℕ). drop m (stack_values p)) place ∙ drop-map f start p.stack in
    record {
      run = record {
        heap = run.heap;
        locals = run.locals;
        stack = all_take _ start p.stack run.stack;
        order = (run.order.0, omega (arith, length-take-le start p.stack (omega arith), from), run.order.2);
      };
      pops = popped_is n own_stack (omega (arith, own_long, own, enough)) ∙ (λ i. Some (taken i, reverse (sym top i)));
      callers = ap (frames_of p.callers (take p.top.first_local (local_values p))) (ap (take fv) values ∙ take-take fv start (stack_values p) from);
      names = all_drop _ start p.stack run.stack;
      within = omega arith;
    }

-- a push behind what was cut off, on a heap that has grown by the value
pub grown_after : (p : Parts) (new : Heap) (v w : Value) (n : ℕ) → IsRun p → Grows p.heap new v n → after_push (on_heap p new) w ≡ after_push p w
grown_after p new v w n run grows =
    λ i. runs (going_on (frame_of p.top (drop p.top.first_local (grown_values p.heap new v n p.locals grows run.locals i)) (drop p.top.first_value (grown_values p.heap new v n p.stack grows run.stack i))) (w ∷ reverse (drop p.top.first_value (grown_values p.heap new v n p.stack grows run.stack i))))
    (frames_of p.callers (take p.top.first_local (grown_values p.heap new v n p.locals grows run.locals i)) (take p.top.first_value (grown_values p.heap new v n p.stack grows run.stack i))) p.calls

pub cut_push_does : (j : Instr) (p : Parts) (start : ℕ) (new : Heap) (v : Value) (n : ℕ) → IsRun (cut p start) → Grows p.heap new v n → effect_on j p ≡ Some (after_push (cut p start) v) →
    Does j p (pushed (on_heap (cut p start) new) n)
cut_push_does j p start new v n run grows does =
    let q : Parts = cut p start in
    let grown : IsRun (on_heap q new) = grown_runs q new v n run grows in
    record {
      run = push_runs (on_heap q new) n grown (omega (arith, grows.number, grows.more));
      does = does ∙ ap Some (sym (push_shows (on_heap q new) n grown ∙ ap (after_push (on_heap q new)) (grown_value p.heap new v n grows) ∙ grown_after q new v v n run grows));
    }

-- a constructor is made
pub make_can : (p : Parts) (d k n : ℕ) → CanDo (instr.Make d k n) p → IsCut p n (length p.stack - n)
make_can p d k n can =
    let found = some_of_map _ _ _ can.does in
    is_cut p n can.run (popped_enough n (top_frame p).stack found.0 found.1)

pub make_does : (p q : Parts) (new : Heap) (d k n number : ℕ) → CanDo (instr.Make d k n) p →
    Grows p.heap new (value.Con d k (trees_at (heap_trees p.heap) (drop (length p.stack - n) p.stack))) number →
    q ≡ pushed (on_heap (cut p (length p.stack - n)) new) number → Does (instr.Make d k n) p q
make_does p q new d k n number can grows e =
    let is = make_can p d k n can in
    let start : ℕ = length p.stack - n in
    let made : Value = value.Con d k (trees_at (heap_trees p.heap) (drop start p.stack)) in
    let does : effect_on (instr.Make d k n) p ≡ Some (after_push (cut p start) made) =
    ap (option_map (λ (r : List Value × List Value). runs (going_on (top_frame p) (value.Con d k r.0 ∷ r.1)) (caller_frames p) p.calls)) is.pops
    ∙ ap (λ (callers : List Frame). Some (runs (going_on (top_frame p) (made ∷ (top_frame (cut p start)).stack)) callers p.calls)) (sym is.callers) in
    subst (Does (instr.Make d k n) p) (sym e) (cut_push_does (instr.Make d k n) p start new made number is.run grows does)

-- the same, of the lists that the code has
pub make_in_code : (p q : Parts) (new : Heap) (d k n number long : ℕ) (slice left : List ℕ) → CanDo (instr.Make d k n) p → long ≡ length p.stack → slice ≡ p.stack →
    Grows p.heap new (value.Con d k (trees_at (heap_trees p.heap) (take (length slice - (long - n)) (drop (long - n) slice)))) number →
    left ≡ take (long - n) p.stack → q ≡ pushed (record p { heap = new; stack = left }) number → Does (instr.Make d k n) p q
make_in_code p q new d k n number long slice left can is_long is_slice grows is_left e =
    let whole = take_rest slice (long - n) ∙ (λ i. drop (is_long i - n) (is_slice i)) in
    make_does p q new d k n number can
    (subst (λ (numbers : List ℕ). Grows p.heap new (value.Con d k (trees_at (heap_trees p.heap) numbers)) number) whole grows)
    (e ∙ ap (λ (s : List ℕ). pushed (record p { heap = new; stack = s }) number) (is_left ∙ ap (λ (m : ℕ). take (m - n) p.stack) is_long))

-- a list cut behind a place, seen from there
take_behind : (fl k : ℕ) (xs : List Value) → drop fl (take (max (length xs - k) fl) xs) ≡ take (length (drop fl xs) - k) (drop fl xs)
take_behind fl k xs =
    let most : max (length xs - k) fl ≡ fl + (length xs - fl - k) = omega arith in
    ap (λ (m : ℕ). drop fl (take m xs)) most ∙ drop-take fl (length xs - fl - k) xs ∙ ap (λ (m : ℕ). take (m - k) (drop fl xs)) (sym (length-drop fl xs))

-- locals are forgotten
forget_does : (p : Parts) (n : ℕ) → CanDo (instr.Forget n) p →
    Does (instr.Forget n) p (record p { locals = take (max (length p.locals - n) p.top.first_local) p.locals; top = record p.top { place = p.top.place + 1 } })
forget_does p n can =
    let f : ℕ → Value = tree_at (heap_trees p.heap) in
    let fl : ℕ = p.top.first_local in
    let m : ℕ = max (length p.locals - n) fl in
    let values : map f (take m p.locals) ≡ take (max (length (local_values p) - n) fl) (local_values p) =
    sym (take-map f m p.locals) ∙ ap (λ (k : ℕ). take (max (k - n) fl) (local_values p)) (sym (length-map p.locals f)) in
    let own : drop fl (map f (take m p.locals)) ≡ take (length (drop fl (local_values p)) - n) (drop fl (local_values p)) = ap (drop fl) values ∙ take_behind fl n (local_values p) in
    let below : take fl (map f (take m p.locals)) ≡ take fl (local_values p) = ap (take fl) (sym (take-map f m p.locals)) ∙ take-take fl m (local_values p) (omega arith) in
    record {
      run = record {
        heap = can.run.heap;
        locals = all_take _ m p.locals can.run.locals;
        stack = can.run.stack;
        order = (omega (arith, length-take m p.locals, can.run.order.0), can.run.order.1, can.run.order.2);
      };
      does = λ i. Some (runs (record { def = p.top.def; place = p.top.place + 1; funs = p.top.funs; locals = sym own i; stack = (top_frame p).stack }) (frames_of p.callers (sym below i) (take p.top.first_value (stack_values p))) p.calls);
    }

pub forget_in_code : (p : Parts) (n long least most : ℕ) (left : List ℕ) → CanDo (instr.Forget n) p → long ≡ length p.locals → least ≡ long - n → most ≡ max least p.top.first_local → left ≡ take most p.locals →
    Does (instr.Forget n) p (record p { locals = left; top = record p.top { place = p.top.place + 1 } })
forget_in_code p n long least most left can is_long is_least is_most is_left =
    let e : left ≡ take (max (length p.locals - n) p.top.first_local) p.locals =
    is_left ∙ ap (λ (k : ℕ). take k p.locals) (is_most ∙ ap (λ (k : ℕ). max k p.top.first_local) (is_least ∙ ap (λ (k : ℕ). k - n) is_long)) in
    subst (λ (xs : List ℕ). Does (instr.Forget n) p (record p { locals = xs; top = record p.top { place = p.top.place + 1 } })) (sym e) (forget_does p n can)
