-- The run's loop: what each step keeps, and what an end says of the whole run.
use Rattle.std.proofs.Common.{Result, Ok, Err, IfErr, IsErrAnd, ◌≡◌, ℕ, ◌<◌, ◌≤◌, List, [], length, Some, sym, ap, ◌∙◌, subst, refl, arith}
use Rattle.px_terms.specs.declared.term.Value.{Value}
use Rattle.px_machine.specs.declared.code.CallTarget.{CallTarget}
use Rattle.px_machine.specs.declared.code.Instr.{Instr}
use Rattle.px_machine.specs.declared.code.Code.{Code}
use Rattle.px_machine.specs.declared.heap.Heap.{Heap}
use Rattle.px_machine.specs.declared.machine.Activation.{Activation}
use Rattle.px_machine.specs.Heap.{heap_trees, tree_at}
use Rattle.px_machine.specs.Machine.{Frame, State, runs, ended, entry, next, instruction_at, Leads, here, step}
use Rattle.px_machine.specs.Standing.{IsForward, FitsCode}
use Rattle.px_machine.specs.Running.{Parts, state_of, effect_on, top_frame, caller_frames, IsRun, CanDo, Does, Finishes, SpendsAbove, IsBegun, HasEnd, IsEnded, TakesMore}
use Rattle.px_machine.proofs.TransferLemmas.{Stores, stores_all}
use Rattle.px_machine.proofs.StepLemmas.{goes_on, takes_step, led_on, end_after, leads_counts}
use Rattle.px_machine.proofs.StepsLeft.{steps_left, falls}
use Rattle.px_machine.specs.declared.run_end.RunEnd.{RunEnd}
use Rattle.px_machine.specs.declared.run_end.RunEnd.TheVariants.{Spent}
use Rattle.px_totality.specs.Laws.{EachCallHasValue}

-- The run has come from its start to these parts within the budget, and goes on to an end.
pub record RunSoFar (code : Code) (start : State) (budget : ℕ) (p : Parts) : Type 0 where
  pub run : IsRun p
  pub leads : Leads code start (state_of p)
  pub within : p.calls ≤ budget
  pub ends : HasEnd code (state_of p)

pub run_starts : (code : Code) (budget : ℕ) (p : Parts) → IsRun p → p.calls ≤ budget → HasEnd code (state_of p) → RunSoFar code (state_of p) budget p
run_starts code budget p run within ends = record { run = run; leads = here; within = within; ends = ends }

leads_both : (code : Code) (a b c : State) → Leads code a b → Leads code b c → Leads code a c
leads_both code a b c here l = l
leads_both code a b c (step {t = m} h rest) l = step h (leads_both code m b c rest l)

-- there is an instruction at the place
pub next_there : (code : Code) (start : State) (budget : ℕ) (p : Parts) → RunSoFar code start budget p → (i : Instr) × (instruction_at code p.top.def p.top.place ≡ Some i)
next_there code start budget p so = let goes = goes_on code (top_frame p) (caller_frames p) p.calls so.ends in (goes.instr, goes.is_at)

module _ (code : Code) (start : State) (budget : ℕ) (p : Parts) (i : Instr) (so : RunSoFar code start budget p) (at : instruction_at code p.top.def p.top.place ≡ Some i) where
  -- the instruction at the place can be done
  pub can_do : CanDo i p
  can_do =
      let goes = goes_on code (top_frame p) (caller_frames p) p.calls so.ends in
      let same : goes.instr ≡ i = same_some goes.instr i (sym goes.is_at ∙ at) in
      record { run = so.run; after = goes.after; does = ap (λ (j : Instr). effect_on j p) (sym same) ∙ goes.does }
    where
      same_some : (x y : Instr) → Some x ≡ Some y → x ≡ y
      same_some x y e = cc

  steps : (t : State) → effect_on i p ≡ Some t → next code (state_of p) ≡ Some t
  steps t does = takes_step code (top_frame p) (caller_frames p) p.calls i t at does

  -- a step
  pub run_more : (q : Parts) → Does i p q → q.calls ≤ budget → RunSoFar code start budget q
  run_more q does within = record {
    run = does.run;
    leads = led_on code start (state_of p) (state_of q) (state_of p) refl so.leads (steps (state_of q) does.does);
    within = within;
    ends = record { value = so.ends.value; calls = so.ends.calls; leads = end_after code (state_of p) (state_of q) so.ends (steps (state_of q) does.does) };
  }

  pub run_falls : (q : Parts) → IsForward code → Does i p q → q.calls ≤ budget → steps_left code budget (state_of q) < steps_left code budget (state_of p)
  run_falls q forward does within = falls code budget i (top_frame p) (caller_frames p) p.calls (state_of q) forward at within does.does

  -- the end
  pub run_ends : (q : Parts) (number : ℕ) → Finishes i p q number → IsEnded code start q number
  run_ends q number finishes = record {
    heap = finishes.heap;
    within = finishes.within;
    leads = led_on code start (state_of p) (ended (tree_at (heap_trees q.heap) number) q.calls) (state_of p) refl so.leads (steps _ finishes.does);
  }

  -- calls above the budget
  pub run_spends : SpendsAbove budget i p → TakesMore code start budget
  run_spends spends =
      let on : Leads code spends.after (ended so.ends.value so.ends.calls) = end_after code (state_of p) spends.after so.ends (steps spends.after spends.does) in
      record {
        end = record { value = so.ends.value; calls = so.ends.calls; leads = leads_both code start (state_of p) (ended so.ends.value so.ends.calls) so.leads so.ends.leads };
        above = omega (arith, spends.above, leads_counts code spends.after (ended so.ends.value so.ends.calls) on);
      }

-- a call that fits the code has an end
pub call_has_end : (code : Code) (n : ℕ) (funs : List CallTarget) (args : List Value) → EachCallHasValue → FitsCode code n funs args → HasEnd code (runs (entry n funs args) [] 1)
call_has_end code n funs args total fits =
    let one = total fits.program fits.founded n fits.fits.def fits.fits.is_def fits.types fits.fits.as_many fits.fits.types_are fits.funs fits.fits.funs_fit args fits.fits.values_fit in
    let gives = (fits.stands.gives n fits.types fits.funs args fits.fits one.value one.count).1 one.given in
    record { value = one.value; calls = one.count; leads = subst (λ (ts : List CallTarget). Leads code (runs (entry n ts args) [] 1) (ended one.value one.count)) (sym fits.are_targets) gives }

-- an end that is passed on
pub spent_on : {X : Type 0} (r : Result X RunEnd) (end : RunEnd) (Q : Type 0) → IsErrAnd r (λ (e : RunEnd). e ≡ end) → (end ≡ Spent → Q) → IfErr r (λ (e : RunEnd). e ≡ Spent → Q)
spent_on (Ok x) end Q is q = absurd is
spent_on (Err e) end Q is q = λ spent. q (sym is ∙ spent)

-- the arguments are the locals of the first frame
pub begins : (d count : ℕ) (funs items : List CallTarget) (args : List Value) (h : Heap) (locals stack : List ℕ) (callers : List Activation) → Stores args count h locals → length args ≤ count → stack ≡ [] → callers ≡ [] → items ≡ funs →
    IsBegun d funs args (record { heap = h; locals = locals; stack = stack; top = record { def = d; place = 0; first_local = 0; first_value = 0; funs = items }; callers = callers; calls = 1 })
begins d count funs items args h locals stack callers so all no_stack no_callers same =
    let are = stores_all args count h locals all so in
    let begun : IsBegun d funs args (record { heap = h; locals = locals; stack = []; top = record { def = d; place = 0; first_local = 0; first_value = 0; funs = funs }; callers = []; calls = 1 }) =
    record {
      run = record { heap = so.heap; locals = so.named; stack = tt; order = (omega arith, omega arith, tt) };
      state = λ i. runs (record { def = d; place = 0; funs = funs; locals = are i; stack = [] }) [] 1;
      counted = refl;
    } in
    let e : ◌≡◌ {A = Parts} (record { heap = h; locals = locals; stack = []; top = record { def = d; place = 0; first_local = 0; first_value = 0; funs = funs }; callers = []; calls = 1 })
    (record { heap = h; locals = locals; stack = stack; top = record { def = d; place = 0; first_local = 0; first_value = 0; funs = items }; callers = callers; calls = 1 }) =
    λ i. record { heap = h; locals = locals; stack = sym no_stack i; top = record { def = d; place = 0; first_local = 0; first_value = 0; funs = sym same i }; callers = sym no_callers i; calls = 1 } in
    subst (IsBegun d funs args) e begun

-- the run of a call counts it
pub call_counts : (code : Code) (F : Frame) (end : HasEnd code (runs F [] 1)) → 1 ≤ end.calls
call_counts code F end = leads_counts code (runs F [] 1) (ended end.value end.calls) end.leads
