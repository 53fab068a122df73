-- What the machine's numbers show, a state of the run: for the proofs of the machine.
use Rattle.std.specs.Prelude.{◌≡◌, ℕ, ◌+◌, ◌<◌, ◌≤◌, List, [], ◌∷◌, ◌++◌, length, take, drop, reverse, Bool, nat_le, ◌==◌, Option, Some, None}
use Rattle.std.specs.List.{AllByRecursion}
use Rattle.px_terms.specs.declared.term.Value.{Value, out-Value}
use Rattle.px_terms.specs.declared.term.Value.TheOpen.{Value-F}
use Rattle.px_terms.specs.Meaning.{truth}
use Rattle.px_machine.specs.declared.code.CallTarget.{CallTarget}
use Rattle.px_machine.specs.declared.code.CallTarget.TheVariants as target
use Rattle.px_machine.specs.declared.code.Instr.{Instr}
use Rattle.px_machine.specs.declared.heap.Heap.{Heap}
use Rattle.px_machine.specs.declared.machine.Activation.{Activation}
use Rattle.px_machine.specs.declared.machine.Machine as code_machine
use Rattle.px_machine.specs.Heap.{IsHeap, heap_trees, tree_at, trees_at}
use Rattle.px_machine.specs.declared.code.Code.{Code}
use Rattle.px_machine.specs.Machine.{Frame, State, runs, ended, effect, called, going_on, entry, Leads}

-- The parts of a machine as plain data; of the callers the nearest comes first.
pub record Parts : Type 0 where
  pub heap : Heap
  pub locals : List ℕ
  pub stack : List ℕ
  pub top : Activation
  pub callers : List Activation
  pub calls : ℕ

abbrev pub parts_of : code_machine.Machine → Parts
parts_of m = record { heap = m.heap; locals = m.locals.items; stack = m.stack.items; top = m.top; callers = reverse m.callers.items; calls = m.calls }

-- a frame over its locals, and its stack with the top value last
abbrev pub frame_of : Activation → List Value → List Value → Frame
frame_of a locals stack = record { def = a.def; place = a.place; funs = a.funs; locals = locals; stack = reverse stack }

-- the frames of activations, the innermost first, over the locals and the stacks of all
abbrev pub frames_of : List Activation → List Value → List Value → List Frame
frames_of [] locals stack = []
frames_of (a ∷ callers) locals stack =
    frame_of a (drop a.first_local locals) (drop a.first_value stack) ∷ frames_of callers (take a.first_local locals) (take a.first_value stack)

-- the state of an activation and its callers over the locals and the stacks of all
abbrev pub shown : Activation → List Activation → List Value → List Value → ℕ → State
shown a callers locals stack calls =
    runs (frame_of a (drop a.first_local locals) (drop a.first_value stack)) (frames_of callers (take a.first_local locals) (take a.first_value stack)) calls

-- the values that the locals and the stack name
abbrev pub local_values : Parts → List Value
local_values p = trees_at (heap_trees p.heap) p.locals

abbrev pub stack_values : Parts → List Value
stack_values p = trees_at (heap_trees p.heap) p.stack

-- the state that the parts show
abbrev pub state_of : Parts → State
state_of p = shown p.top p.callers (local_values p) (stack_values p) p.calls

-- the locals and the stack of each activation begin where those of its caller end
abbrev pub InOrder : List Activation → ℕ → ℕ → Type 0
InOrder [] locals stack = Unit {0}
InOrder (a ∷ callers) locals stack = (a.first_local ≤ locals) × (a.first_value ≤ stack) × InOrder callers a.first_local a.first_value

-- each number names a node of the heap
abbrev pub NameNodes : Heap → List ℕ → Type 0
NameNodes heap = AllByRecursion (λ (n : ℕ). n < length heap.nodes.items)

-- The parts are those of a run.
pub record IsRun (p : Parts) : Type 0 where
  pub heap : IsHeap p.heap
  pub locals : NameNodes p.heap p.locals
  pub stack : NameNodes p.heap p.stack
  pub order : InOrder (p.top ∷ p.callers) (length p.locals) (length p.stack)

-- the parts after the value of a node is pushed
abbrev pub pushed : Parts → ℕ → Parts
pushed p n = record p { stack = p.stack ++ n ∷ []; top = record p.top { place = p.top.place + 1 } }

-- the frame that runs, and those of its callers
abbrev pub top_frame : Parts → Frame
top_frame p = frame_of p.top (drop p.top.first_local (local_values p)) (drop p.top.first_value (stack_values p))

abbrev pub caller_frames : Parts → List Frame
caller_frames p = frames_of p.callers (take p.top.first_local (local_values p)) (take p.top.first_value (stack_values p))

-- what an instruction does to the state that the parts show
abbrev pub effect_on : Instr → Parts → Option State
effect_on i p = effect i (top_frame p) (caller_frames p) p.calls

-- The instruction finds what it needs.
pub record CanDo (i : Instr) (p : Parts) : Type 0 where
  pub run : IsRun p
  pub after : State
  pub does : effect_on i p ≡ Some after

-- The instruction leads from the parts p to the parts q.
pub record Does (i : Instr) (p q : Parts) : Type 0 where
  pub run : IsRun q
  pub does : effect_on i p ≡ Some (state_of q)

-- the node of this number stands for a word
abbrev pub WordAt : Heap → ℕ → ℕ → Type 0
WordAt heap number w = out-Value (tree_at (heap_trees heap) number) ≡ Value-F.Lit w

-- The run ends with the value of a node.
pub record Finishes (i : Instr) (p q : Parts) (number : ℕ) : Type 0 where
  pub heap : IsHeap q.heap
  pub within : number < length q.heap.nodes.items
  pub does : effect_on i p ≡ Some (ended (tree_at (heap_trees q.heap) number) q.calls)

-- one step: the parts go on, or the run ends with a value
abbrev pub StepsTo : Instr → Parts → Parts → Option ℕ → Type 0
StepsTo i p q None = Does i p q
StepsTo i p q (Some number) = Finishes i p q number

-- the calls that are counted in a state
abbrev pub calls_of : State → ℕ
calls_of (runs F callers calls) = calls
calls_of (ended v calls) = calls

-- The instruction leads to more calls than the budget.
pub record SpendsAbove (budget : ℕ) (i : Instr) (p : Parts) : Type 0 where
  pub after : State
  pub does : effect_on i p ≡ Some after
  pub above : budget < calls_of after

-- the stack cut off at a place
abbrev pub cut : Parts → ℕ → Parts
cut p start = record p { stack = take start p.stack }

-- what is called on the values from a place of the stack on
abbrev pub call_on : CallTarget → List CallTarget → ℕ → Parts → Option State
call_on f funs start p =
    called f funs (trees_at (heap_trees p.heap) (drop start p.stack)) (going_on (top_frame p) (top_frame (cut p start)).stack) (caller_frames (cut p start)) p.calls

-- What is called finds what it needs.
pub record CanCall (f : CallTarget) (funs : List CallTarget) (start : ℕ) (p : Parts) : Type 0 where
  pub run : IsRun p
  pub below : IsRun (cut p start)
  pub names : NameNodes p.heap (drop start p.stack)
  pub within : start ≤ length p.stack
  pub after : State
  pub does : call_on f funs start p ≡ Some after

-- The call leads from the parts p to the parts q.
pub record IsCalled (f : CallTarget) (funs : List CallTarget) (start : ℕ) (p q : Parts) : Type 0 where
  pub run : IsRun q
  pub does : call_on f funs start p ≡ Some (state_of q)

-- The truth value stands in the place of the values from a place of the stack on.
pub record IsAnswered (start : ℕ) (is : Bool) (p q : Parts) : Type 0 where
  pub run : IsRun q
  pub state : state_of q ≡ runs (going_on (top_frame p) (truth is ∷ (top_frame (cut p start)).stack)) (caller_frames (cut p start)) p.calls

-- what a built-in answers of two words
abbrev pub answer_of : CallTarget → ℕ → ℕ → Bool
answer_of target.Wle x y = nat_le x y
answer_of target.Weq x y = x == y
answer_of (target.Def n) x y = x == y
answer_of (target.Param n) x y = x == y

-- The machine stands before the first instruction of a call.
pub record IsBegun (d : ℕ) (funs : List CallTarget) (args : List Value) (p : Parts) : Type 0 where
  pub run : IsRun p
  pub state : state_of p ≡ runs (entry d funs args) [] 1
  pub counted : p.calls ≡ 1

-- The run has an end.
pub record HasEnd (code : Code) (s : State) : Type 0 where
  pub value : Value
  pub calls : ℕ
  pub leads : Leads code s (ended value calls)

-- The run has ended with the value of a node, and its calls are counted.
pub record IsEnded (code : Code) (s : State) (q : Parts) (number : ℕ) : Type 0 where
  pub heap : IsHeap q.heap
  pub within : number < length q.heap.nodes.items
  pub leads : Leads code s (ended (tree_at (heap_trees q.heap) number) q.calls)

-- The run takes more calls than the budget.
pub record TakesMore (code : Code) (s : State) (budget : ℕ) : Type 0 where
  pub end : HasEnd code s
  pub above : budget < end.calls
