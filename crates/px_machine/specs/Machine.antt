-- The machine: what each instruction does to a frame, where a run leads, and what it gives.
use Rattle.std.specs.Prelude.{◌≡◌, ℕ, ◌+◌, ◌-◌, List, [], ◌∷◌, ◌++◌, length, take, drop, reverse, Bool, if◌then◌else◌, nat_le, ◌==◌, Option, Some, None, slice_get, option_and_then}
use Rattle.std.specs.Option.{option_map}
use Rattle.px_terms.specs.declared.term.Value.{Value, out-Value}
use Rattle.px_terms.specs.declared.term.Value.TheVariants as value
use Rattle.px_terms.specs.declared.term.Value.TheOpen.{Value-F}
use Rattle.px_terms.specs.Meaning.{truth}
use Rattle.px_machine.specs.declared.code.CallTarget.{CallTarget}
use Rattle.px_machine.specs.declared.code.CallTarget.TheVariants.{Def, Wle, Weq, Param}
use Rattle.px_machine.specs.declared.code.Instr.{Instr}
use Rattle.px_machine.specs.declared.code.Instr.TheVariants.{Local, Lit, Make, Call, Branch, Forget, Jump, Return}
use Rattle.px_machine.specs.declared.code.Code.{Code}

-- A frame: the definition that runs and the place in its code, what stands for its function parameters, its locals in order,
-- and its stack of values, the top value first.
pub record Frame : Type 0 where
  pub def : ℕ
  pub place : ℕ
  pub funs : List CallTarget
  pub locals : List Value
  pub stack : List Value

-- A run: the frame that runs, its callers, the nearest first, and the calls that are counted so far; or its end with a value.
pub data State : Type 0 where
  runs : (frame : Frame) → (callers : List Frame) → (calls : ℕ) → State
  ended : (value : Value) → (calls : ℕ) → State

-- a definition begins on functions and values with an empty stack
abbrev pub entry : ℕ → List CallTarget → List Value → Frame
entry d funs values = record { def = d; place = 0; funs = funs; locals = values; stack = [] }

-- the frame at the next place, with this stack
abbrev pub going_on : Frame → List Value → Frame
going_on F stack = record F { place = F.place + 1; stack = stack }

-- the n topmost values, in the order in which they were pushed, and the stack below them
abbrev pub popped : ℕ → List Value → Option (List Value × List Value)
popped n stack = if nat_le n (length stack) then Some (reverse (take n stack), drop n stack) else None

-- what a target stands for in a frame: a parameter for the function of its number, all else for itself
abbrev pub meant_target : List CallTarget → CallTarget → Option CallTarget
meant_target funs (Param n) = slice_get funs n
meant_target funs (Def d) = Some (Def d)
meant_target funs Wle = Some Wle
meant_target funs Weq = Some Weq

-- what several targets stand for
abbrev pub meant_targets : List CallTarget → List CallTarget → Option (List CallTarget)
meant_targets funs [] = Some []
meant_targets funs (t ∷ ts) = option_and_then (λ (f : CallTarget). option_map (λ (fs : List CallTarget). f ∷ fs) (meant_targets funs ts)) (meant_target funs t)

-- the number that a word is
abbrev pub word_of : Value-F Value → Option ℕ
word_of (Value-F.Lit w) = Some w
word_of (Value-F.Con d k fields) = None

-- whether two words are as the test says
abbrev pub compared : (ℕ → ℕ → Bool) → List Value → Option Value
compared test [] = None
compared test (a ∷ []) = None
compared test (a ∷ b ∷ []) = option_and_then (λ (x : ℕ). option_map (λ (y : ℕ). truth (test x y)) (word_of (out-Value b))) (word_of (out-Value a))
compared test (a ∷ b ∷ c ∷ more) = None

-- the frame F calls what a target stands for: a definition begins a frame and counts, a built-in pushes its truth value
abbrev pub called : CallTarget → List CallTarget → List Value → Frame → List Frame → ℕ → Option State
called (Def d) funs values F callers calls = Some (State.runs (entry d funs values) (F ∷ callers) (calls + 1))
called Wle funs values F callers calls = option_map (λ (v : Value). State.runs (record F { stack = v ∷ F.stack }) callers calls) (compared nat_le values)
called Weq funs values F callers calls = option_map (λ (v : Value). State.runs (record F { stack = v ∷ F.stack }) callers calls) (compared (λ x y. x == y) values)
called (Param n) funs values F callers calls = None

-- a constructor leads to the place of its number, with its fields behind the locals
abbrev pub entered : List ℕ → Value-F Value → Frame → List Value → Option Frame
entered places (Value-F.Lit w) F below = None
entered places (Value-F.Con d k fields) F below = option_map (λ (place : ℕ). record F { place = place; locals = F.locals ++ fields; stack = below }) (slice_get places k)

-- the top value of the stack decides where a branch leads
abbrev pub branched : List ℕ → Frame → List Value → Option Frame
branched places F [] = None
branched places F (v ∷ below) = entered places (out-Value v) F below

-- a frame returns the top value of its stack to its caller; the last frame ends the run
abbrev pub returned : List Value → List Frame → ℕ → Option State
returned [] callers calls = None
returned (v ∷ below) [] calls = Some (State.ended v calls)
returned (v ∷ below) (caller ∷ callers) calls = Some (State.runs (record caller { stack = v ∷ caller.stack }) callers calls)

-- what an instruction does to a frame with its callers and the calls that are counted; none where it finds not what it needs
abbrev pub effect : Instr → Frame → List Frame → ℕ → Option State
effect (Local n) F callers calls = option_map (λ (v : Value). State.runs (going_on F (v ∷ F.stack)) callers calls) (slice_get F.locals n)
effect (Lit w) F callers calls = Some (State.runs (going_on F (value.Lit w ∷ F.stack)) callers calls)
effect (Make d k n) F callers calls = option_map (λ (p : List Value × List Value). State.runs (going_on F (value.Con d k p.0 ∷ p.1)) callers calls) (popped n F.stack)
effect (Call t ts n) F callers calls =
    option_and_then (λ (p : List Value × List Value). option_and_then (λ (f : CallTarget). option_and_then (λ (fs : List CallTarget). called f fs p.0 (going_on F p.1) callers calls) (meant_targets F.funs ts)) (meant_target F.funs t)) (popped n F.stack)
effect (Branch places) F callers calls = option_map (λ (G : Frame). State.runs G callers calls) (branched places F F.stack)
effect (Forget n) F callers calls = Some (State.runs (record (going_on F F.stack) { locals = take (length F.locals - n) F.locals }) callers calls)
effect (Jump place) F callers calls = Some (State.runs (record F { place = place }) callers calls)
effect Return F callers calls = returned F.stack callers calls

-- the instruction at the place of a definition
abbrev pub instruction_at : Code → ℕ → ℕ → Option Instr
instruction_at code d place = option_and_then (λ (instructions : List Instr). slice_get instructions place) (slice_get code.defs d)

-- one step of a run
abbrev pub next : Code → State → Option State
next code (State.runs F callers calls) = option_and_then (λ (i : Instr). effect i F callers calls) (instruction_at code F.def F.place)
next code (State.ended v calls) = None

-- some number of steps leads from the one state to the other
pub data Leads (code : Code) : State → State → Type 0 where
  here : {s : State} → Leads code s s
  step : {s t u : State} → next code s ≡ Some t → Leads code t u → Leads code s u

-- a run of the definition on functions and values ends with the value after so many counted calls; its own is the first
abbrev pub RunGives : Code → ℕ → List CallTarget → List Value → Value → ℕ → Type 0
RunGives code d funs values v calls = Leads code (State.runs (entry d funs values) [] 1) (State.ended v calls)
