-- What the lists show as something is called.
use Rattle.std.proofs.Common.{◌≡◌, ℕ, ◌+◌, ◌-◌, ◌≤◌, List, [], ◌∷◌, ◌++◌, length, take, drop, map, reverse, Option, Some, sym, ap, ◌∙◌, subst, arith, option_and_then}
use Rattle.std.proofs.lemmas.List.{length-append, length-map, length-take-le, drop_at, take_at, take_all, take_rest, map-append, drop_all}
use Rattle.px_terms.specs.declared.term.Value.{Value}
use Rattle.px_machine.specs.declared.code.CallTarget.{CallTarget}
use Rattle.px_machine.specs.declared.code.CallTarget.TheVariants as target
use Rattle.px_machine.specs.declared.code.Instr.{Instr}
use Rattle.px_machine.specs.declared.code.Instr.TheVariants as instr
use Rattle.px_machine.specs.declared.machine.Activation.{Activation}
use Rattle.px_machine.specs.Heap.{heap_trees, tree_at, trees_at}
use Rattle.px_machine.specs.Machine.{Frame, State, runs, going_on, called, meant_target, meant_targets}
use Rattle.px_machine.specs.Running.{Parts, frames_of, local_values, effect_on, top_frame, caller_frames, cut, call_on, CanCall, IsCalled, CanDo, Does, SpendsAbove}
use Rattle.px_machine.proofs.RunLemmas.{onward, some_of_then, all_both}
use Rattle.px_machine.proofs.StackLemmas.{is_cut, popped_enough}

-- the parts after a definition is entered
abbrev pub entered_parts : Parts → ℕ → List CallTarget → ℕ → Parts
entered_parts p d funs start = record {
  heap = p.heap;
  locals = p.locals ++ drop start p.stack;
  stack = take start p.stack;
  top = record { def = d; place = 0; first_local = length p.locals; first_value = start; funs = funs };
  callers = onward p.top ∷ p.callers;
  calls = p.calls + 1;
}

-- a definition is entered
pub enter_does : (p : Parts) (d : ℕ) (funs : List CallTarget) (start : ℕ) → CanCall (target.Def d) funs start p → IsCalled (target.Def d) funs start p (entered_parts p d funs start)
enter_does p d funs start can =
    let f : ℕ → Value = tree_at (heap_trees p.heap) in
    let taken : List Value = trees_at (heap_trees p.heap) (drop start p.stack) in
    let locals : map f (p.locals ++ drop start p.stack) ≡ local_values p ++ taken = map-append f p.locals (drop start p.stack) in
    let long = length-map p.locals f in
    let cut_long = length-take-le start p.stack can.within in
    let stack : List Value = map f (take start p.stack) in
    let stack_long : length stack ≡ start = length-map (take start p.stack) f ∙ cut_long in
    let own : drop (length p.locals) (map f (p.locals ++ drop start p.stack)) ≡ taken = ap (drop (length p.locals)) locals ∙ drop_at (local_values p) taken (length p.locals) long in
    let under : take (length p.locals) (map f (p.locals ++ drop start p.stack)) ≡ local_values p = ap (take (length p.locals)) locals ∙ take_at (local_values p) taken (length p.locals) long in
    let no_stack : drop start stack ≡ [] = drop_all start stack (omega (arith, stack_long)) in
    let whole_stack : take start stack ≡ stack = take_all start stack (omega (arith, stack_long)) in
    record {
      run = record {
        heap = can.run.heap;
        locals = all_both _ p.locals (drop start p.stack) can.run.locals can.names;
        stack = can.below.stack;
        order = (omega (arith, length-append p.locals (drop start p.stack)), omega (arith, cut_long), (can.run.order.0, omega (arith, can.below.order.1, cut_long), can.run.order.2));
      };
      does = λ i. Some (runs (record { def = d; place = 0; funs = funs; locals = sym own i; stack = reverse (sym no_stack i) }) (frames_of (onward p.top ∷ p.callers) (sym under i) (sym whole_stack i)) (p.calls + 1));
    }

pub enter_in_code : (p : Parts) (d first start : ℕ) (funs : List CallTarget) (locals slice stack : List ℕ) (callers : List Activation) → CanCall (target.Def d) funs start p →
    first ≡ length p.locals → slice ≡ p.stack → locals ≡ p.locals ++ take (length slice - start) (drop start slice) → stack ≡ take start p.stack → callers ≡ onward p.top ∷ p.callers →
    IsCalled (target.Def d) funs start p (record { heap = p.heap; locals = locals; stack = stack; top = record { def = d; place = 0; first_local = first; first_value = start; funs = funs }; callers = callers; calls = p.calls + 1 })
enter_in_code p d first start funs locals slice stack callers can is_first is_slice is_locals is_stack is_callers =
    let same : locals ≡ p.locals ++ drop start p.stack = is_locals ∙ ap (λ (xs : List ℕ). p.locals ++ xs) (take_rest slice start ∙ ap (drop start) is_slice) in
    let e : entered_parts p d funs start ≡ record { heap = p.heap; locals = locals; stack = stack; top = record { def = d; place = 0; first_local = first; first_value = start; funs = funs }; callers = callers; calls = p.calls + 1 } =
    λ i. record { heap = p.heap; locals = sym same i; stack = sym is_stack i; top = record { def = d; place = 0; first_local = sym is_first i; first_value = start; funs = funs }; callers = sym is_callers i; calls = p.calls + 1 } in
    subst (IsCalled (target.Def d) funs start p) e (enter_does p d funs start can)

-- What is known where an instruction calls.
pub record Calls (p : Parts) (t : CallTarget) (ts : List CallTarget) (n : ℕ) : Type 0 where
  pub f : CallTarget
  pub fs : List CallTarget
  pub meant : meant_target p.top.funs t ≡ Some f
  pub all_meant : meant_targets p.top.funs ts ≡ Some fs
  pub can : CanCall f fs (length p.stack - n) p
  pub does : effect_on (instr.Call t ts n) p ≡ call_on f fs (length p.stack - n) p

pub calls_can : (p : Parts) (t : CallTarget) (ts : List CallTarget) (n : ℕ) → CanDo (instr.Call t ts n) p → Calls p t ts n
calls_can p t ts n can =
    let start : ℕ = length p.stack - n in
    let some_popped = some_of_then _ _ _ can.does in
    let is = is_cut p n can.run (popped_enough n (top_frame p).stack some_popped.0 some_popped.1) in
    let below : List Value = (top_frame (cut p start)).stack in
    let taken : List Value = trees_at (heap_trees p.heap) (drop start p.stack) in
    let go : CallTarget → List CallTarget → Option State = λ (g : CallTarget) (gs : List CallTarget). called g gs taken (going_on (top_frame p) below) (caller_frames p) p.calls in
    let first : effect_on (instr.Call t ts n) p ≡ option_and_then (λ (g : CallTarget). option_and_then (λ (gs : List CallTarget). go g gs) (meant_targets p.top.funs ts)) (meant_target p.top.funs t) =
    ap (option_and_then (λ (r : List Value × List Value). option_and_then (λ (g : CallTarget). option_and_then (λ (gs : List CallTarget). called g gs r.0 (going_on (top_frame p) r.1) (caller_frames p) p.calls) (meant_targets p.top.funs ts)) (meant_target p.top.funs t))) is.pops in
    let one = some_of_then _ _ _ (sym first ∙ can.does) in
    let all = some_of_then _ _ _ one.2 in
    let callers : go one.0 all.0 ≡ call_on one.0 all.0 start p = ap (λ (Fs : List Frame). called one.0 all.0 taken (going_on (top_frame p) below) Fs p.calls) (sym is.callers) in
    record {
      f = one.0;
      fs = all.0;
      meant = one.1;
      all_meant = all.1;
      can = record { run = can.run; below = is.run; names = is.names; within = is.within; after = can.after; does = sym callers ∙ all.2 };
      does =
          first ∙ ap (option_and_then (λ (g : CallTarget). option_and_then (λ (gs : List CallTarget). go g gs) (meant_targets p.top.funs ts))) one.1
          ∙ ap (option_and_then (λ (gs : List CallTarget). go one.0 gs)) all.1 ∙ callers;
    }

-- the same, where the activations are those that stand in the code
pub enter_replaced : (p : Parts) (d first start : ℕ) (funs : List CallTarget) (locals slice stack : List ℕ) (callers : List Activation) (top caller : Activation) → CanCall (target.Def d) funs start p →
    first ≡ length p.locals → slice ≡ p.stack → locals ≡ p.locals ++ take (length slice - start) (drop start slice) → stack ≡ take start p.stack → callers ≡ caller ∷ p.callers → caller ≡ onward p.top →
    top ≡ record { def = d; place = 0; first_local = first; first_value = start; funs = funs } →
    IsCalled (target.Def d) funs start p (record { heap = p.heap; locals = locals; stack = stack; top = top; callers = callers; calls = p.calls + 1 })
enter_replaced p d first start funs locals slice stack callers top caller can is_first is_slice is_locals is_stack is_callers is_caller is_top =
    subst (λ (a : Activation). IsCalled (target.Def d) funs start p (record { heap = p.heap; locals = locals; stack = stack; top = a; callers = callers; calls = p.calls + 1 })) (sym is_top)
    (enter_in_code p d first start funs locals slice stack callers can is_first is_slice is_locals is_stack (is_callers ∙ ap (λ (a : Activation). a ∷ p.callers) is_caller))

-- a call of a definition beyond the budget
pub spends_above : (p : Parts) (i : Instr) (budget d : ℕ) (fs : List CallTarget) (start : ℕ) → effect_on i p ≡ call_on (target.Def d) fs start p → budget ≤ p.calls → SpendsAbove budget i p
spends_above p i budget d fs start does le = record { after = _; does = does; above = omega arith }

-- what is called is what the instruction does
pub called_does : (p q : Parts) (t f : CallTarget) (ts fs : List CallTarget) (n start : ℕ) → CanDo (instr.Call t ts n) p → meant_target p.top.funs t ≡ Some f → meant_targets p.top.funs ts ≡ Some fs →
    start ≡ length p.stack - n → IsCalled f fs start p q → Does (instr.Call t ts n) p q
called_does p q t f ts fs n start can is_f is_fs is_start is =
    let calls = calls_can p t ts n can in
    let same_f : calls.f ≡ f = some_same _ _ (sym calls.meant ∙ is_f) in
    let same_fs : calls.fs ≡ fs = some_same _ _ (sym calls.all_meant ∙ is_fs) in
    record { run = is.run; does = calls.does ∙ (λ i. call_on (same_f i) (same_fs i) (sym is_start i) p) ∙ is.does }
  where
    some_same : {A : Type 0} (x y : A) → Some x ≡ Some y → x ≡ y
    some_same x y e = cc

-- what is called can be
pub called_can : (p : Parts) (t f : CallTarget) (ts fs : List CallTarget) (n start : ℕ) → CanDo (instr.Call t ts n) p → meant_target p.top.funs t ≡ Some f → meant_targets p.top.funs ts ≡ Some fs →
    start ≡ length p.stack - n → CanCall f fs start p × (effect_on (instr.Call t ts n) p ≡ call_on f fs start p)
called_can p t f ts fs n start can is_f is_fs is_start =
    let calls = calls_can p t ts n can in
    let same_f : calls.f ≡ f = some_same _ _ (sym calls.meant ∙ is_f) in
    let same_fs : calls.fs ≡ fs = some_same _ _ (sym calls.all_meant ∙ is_fs) in (
      subst (λ (s : ℕ). CanCall f fs s p) (sym is_start) (subst (λ (gs : List CallTarget). CanCall f gs (length p.stack - n) p) same_fs (subst (λ (g : CallTarget). CanCall g calls.fs (length p.stack - n) p) same_f calls.can)),
      calls.does ∙ (λ i. call_on (same_f i) (same_fs i) (sym is_start i) p),
    )
  where
    some_same : {A : Type 0} (x y : A) → Some x ≡ Some y → x ≡ y
    some_same x y e = cc

-- no function parameter is called
pub no_parameter : (p : Parts) (n start : ℕ) (fs : List CallTarget) → CanCall (target.Param n) fs start p → ⊥
no_parameter p n start fs can = let e = can.does in cc
