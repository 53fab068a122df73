-- What one instruction does to the calls that are counted, and that a run goes on to its end.
use Rattle.std.proofs.Common.{◌≡◌, ℕ, ◌≤◌, List, [], ◌∷◌, Option, Some, sym, ap, ◌∙◌, subst, refl, arith, option_and_then}
use Rattle.px_terms.specs.declared.term.Value.{Value}
use Rattle.px_machine.specs.declared.code.CallTarget.{CallTarget}
use Rattle.px_machine.specs.declared.code.CallTarget.TheVariants as target
use Rattle.px_machine.specs.declared.code.Instr.{Instr}
use Rattle.px_machine.specs.declared.code.Instr.TheVariants.{Local, Lit, Make, Call, Branch, Forget, Jump, Return}
use Rattle.px_machine.specs.declared.code.Code.{Code}
use Rattle.px_machine.specs.Machine.{Frame, State, runs, ended, effect, going_on, popped, meant_target, meant_targets, called, returned, next, instruction_at, Leads, here, step}
use Rattle.px_machine.specs.Running.{calls_of, HasEnd}
use Rattle.px_machine.proofs.RunLemmas.{some_of_map, some_of_then}
use Rattle.px_machine.proofs.OneEnd.{stepped}

-- what an instruction does to the calls: only a call counts any
abbrev pub Counts : Instr → ℕ → State → Type 0
Counts (Call t ts n) calls s = calls ≤ calls_of s
Counts (Local n) calls s = calls_of s ≡ calls
Counts (Lit w) calls s = calls_of s ≡ calls
Counts (Make d k n) calls s = calls_of s ≡ calls
Counts (Branch places) calls s = calls_of s ≡ calls
Counts (Forget n) calls s = calls_of s ≡ calls
Counts (Jump place) calls s = calls_of s ≡ calls
Counts Return calls s = calls_of s ≡ calls

same_some : {A : Type 0} (x y : A) → Some x ≡ Some y → x ≡ y
same_some x y e = cc

called_counts : (f : CallTarget) (fs : List CallTarget) (vs : List Value) (F : Frame) (callers : List Frame) (calls : ℕ) (s : State) → called f fs vs F callers calls ≡ Some s → calls ≤ calls_of s
called_counts (target.Def d) fs vs F callers calls s e = subst (λ (t : State). calls ≤ calls_of t) (same_some _ _ e) (omega arith)
called_counts target.Wle fs vs F callers calls s e = let v = some_of_map _ _ _ e in subst (λ (t : State). calls ≤ calls_of t) v.2 (omega arith)
called_counts target.Weq fs vs F callers calls s e = let v = some_of_map _ _ _ e in subst (λ (t : State). calls ≤ calls_of t) v.2 (omega arith)
called_counts (target.Param n) fs vs F callers calls s e = absurd (cc)

returned_counts : (xs : List Value) (callers : List Frame) (calls : ℕ) (s : State) → returned xs callers calls ≡ Some s → calls_of s ≡ calls
returned_counts [] callers calls s e = absurd (cc)
returned_counts (v ∷ xs) [] calls s e = sym (ap calls_of (same_some _ _ e))
returned_counts (v ∷ xs) (caller ∷ callers) calls s e = sym (ap calls_of (same_some _ _ e))

-- What a call finds.
pub record CallsOn (t : CallTarget) (ts : List CallTarget) (n : ℕ) (F : Frame) (callers : List Frame) (calls : ℕ) (s : State) : Type 0 where
  pub values : List Value
  pub below : List Value
  pub f : CallTarget
  pub fs : List CallTarget
  pub is : called f fs values (going_on F below) callers calls ≡ Some s

pub calls_on : (t : CallTarget) (ts : List CallTarget) (n : ℕ) (F : Frame) (callers : List Frame) (calls : ℕ) (s : State) → effect (Call t ts n) F callers calls ≡ Some s → CallsOn t ts n F callers calls s
calls_on t ts n F callers calls s e =
    let go : List Value × List Value → CallTarget → List CallTarget → Option State = λ p f fs. called f fs p.0 (going_on F p.1) callers calls in
    let p = some_of_then (λ (q : List Value × List Value). option_and_then (λ (f : CallTarget). option_and_then (λ (fs : List CallTarget). go q f fs) (meant_targets F.funs ts)) (meant_target F.funs t)) (popped n F.stack) s e in
    let f = some_of_then (λ (f : CallTarget). option_and_then (λ (fs : List CallTarget). go p.0 f fs) (meant_targets F.funs ts)) (meant_target F.funs t) s p.2 in
    let fs = some_of_then (λ (fs : List CallTarget). go p.0 f.0 fs) (meant_targets F.funs ts) s f.2 in
    record { values = p.0.0; below = p.0.1; f = f.0; fs = fs.0; is = fs.2 }

pub counts : (i : Instr) (F : Frame) (callers : List Frame) (calls : ℕ) (s : State) → effect i F callers calls ≡ Some s → Counts i calls s
counts (Local n) F callers calls s e = let v = some_of_map _ _ _ e in sym (ap calls_of v.2)
counts (Lit w) F callers calls s e = sym (ap calls_of (same_some _ _ e))
counts (Make d k n) F callers calls s e = let v = some_of_map _ _ _ e in sym (ap calls_of v.2)
counts (Call t ts n) F callers calls s e =
    let on = calls_on t ts n F callers calls s e in
    called_counts on.f on.fs on.values (going_on F on.below) callers calls s on.is
counts (Branch places) F callers calls s e = let v = some_of_map _ _ _ e in sym (ap calls_of v.2)
counts (Forget n) F callers calls s e = sym (ap calls_of (same_some _ _ e))
counts (Jump place) F callers calls s e = sym (ap calls_of (same_some _ _ e))
counts Return F callers calls s e = returned_counts F.stack callers calls s e

fewer : (i : Instr) (calls : ℕ) (s : State) → Counts i calls s → calls ≤ calls_of s
fewer (Call t ts n) calls s c = c
fewer (Local n) calls s c = omega (arith, c)
fewer (Lit w) calls s c = omega (arith, c)
fewer (Make d k n) calls s c = omega (arith, c)
fewer (Branch places) calls s c = omega (arith, c)
fewer (Forget n) calls s c = omega (arith, c)
fewer (Jump place) calls s c = omega (arith, c)
fewer Return calls s c = omega (arith, c)

-- The instruction at the state's place is done, and the run goes on to its end.
pub record GoesOn (code : Code) (F : Frame) (callers : List Frame) (calls : ℕ) : Type 0 where
  pub instr : Instr
  pub is_at : instruction_at code F.def F.place ≡ Some instr
  pub after : State
  pub does : effect instr F callers calls ≡ Some after

goes : (code : Code) (F : Frame) (callers : List Frame) (calls : ℕ) (s u : State) (v : Value) (k : ℕ) → s ≡ runs F callers calls → u ≡ ended v k → Leads code s u → GoesOn code F callers calls
goes code F callers calls s u v k is iu here = let e : runs F callers calls ≡ ended v k = sym is ∙ iu in absurd (cc)
goes code F callers calls s u v k is iu (step {t = t} h rest) =
    let some = some_of_then _ _ _ (sym (ap (next code) is) ∙ h) in
    record { instr = some.0; is_at = some.1; after = t; does = some.2 }

pub goes_on : (code : Code) (F : Frame) (callers : List Frame) (calls : ℕ) → HasEnd code (runs F callers calls) → GoesOn code F callers calls
goes_on code F callers calls end = goes code F callers calls (runs F callers calls) (ended end.value end.calls) end.value end.calls refl refl end.leads

-- the instruction at a place takes one step
pub takes_step : (code : Code) (F : Frame) (callers : List Frame) (calls : ℕ) (i : Instr) (t : State) → instruction_at code F.def F.place ≡ Some i → effect i F callers calls ≡ Some t → next code (runs F callers calls) ≡ Some t
takes_step code F callers calls i t at does = ap (option_and_then (λ (j : Instr). effect j F callers calls)) at ∙ does

-- one step more
pub led_on : (code : Code) (a s t u : State) → s ≡ u → Leads code a u → next code s ≡ Some t → Leads code a t
led_on code a s t u e here h = step (sym (ap (next code) e) ∙ h) here
led_on code a s t u e (step {t = m} g rest) h = step g (led_on code m s t u e rest h)

-- the end is the end of the run after a step
pub end_after : (code : Code) (s t : State) (end : HasEnd code s) → next code s ≡ Some t → Leads code t (ended end.value end.calls)
end_after code s t end h = stepped code s t (ended end.value end.calls) end.value end.calls refl end.leads h

-- calls are never taken back
next_counts : (code : Code) (s t : State) → next code s ≡ Some t → calls_of s ≤ calls_of t
next_counts code (runs F callers calls) t h = let i = some_of_then (λ (j : Instr). effect j F callers calls) (instruction_at code F.def F.place) t h in fewer i.0 calls t (counts i.0 F callers calls t i.2)
next_counts code (ended v k) t h = absurd (cc)

pub leads_counts : (code : Code) (s u : State) → Leads code s u → calls_of s ≤ calls_of u
leads_counts code s u here = omega arith
leads_counts code s u (step {t = t} h rest) = let a = next_counts code s t h in let b = leads_counts code t u rest in omega (arith, a, b)
