-- How many instructions a run may still do within a budget: the measure of the run's loop.
use Rattle.std.proofs.Common.{◌≡◌, ℕ, zero, suc, ◌+◌, ◌-◌, ◌*◌, ◌<◌, ◌≤◌, List, [], ◌∷◌, length, Option, Some, slice_get, unwrap_or, sym, ap, ◌∙◌, subst, refl, arith}
use Rattle.std.specs.List.{AllByRecursion}
use Rattle.std.proofs.lemmas.Option.{slice_get_within}
use Rattle.std.proofs.Math.Nat.{suc-mul}
use Rattle.px_terms.specs.declared.term.Value.{Value, out-Value}
use Rattle.px_terms.specs.declared.term.Value.TheOpen.{Value-F}
use Rattle.px_machine.specs.declared.code.CallTarget.{CallTarget}
use Rattle.px_machine.specs.declared.code.CallTarget.TheVariants as target
use Rattle.px_machine.specs.declared.code.Instr.{Instr}
use Rattle.px_machine.specs.declared.code.Instr.TheVariants.{Local, Lit, Make, Call, Branch, Forget, Jump, Return}
use Rattle.px_machine.specs.declared.code.Code.{Code}
use Rattle.px_machine.specs.Machine.{Frame, State, runs, ended, entry, effect, going_on, called, returned, branched, entered, instruction_at}
use Rattle.px_machine.specs.Standing.{IsForward}
use Rattle.px_machine.specs.Running.{calls_of}
use Rattle.px_machine.proofs.RunLemmas.{some_of_map, some_of_then}
use Rattle.px_machine.proofs.StepLemmas.{calls_on}

-- all instructions of a code
abbrev pub all_of : List (List Instr) → ℕ
all_of [] = 0
all_of (d ∷ defs) = length d + all_of defs

-- the instructions of a definition
abbrev pub list_of : Code → ℕ → List Instr
list_of code d = unwrap_or (slice_get code.defs d) []

-- the instructions that are behind a frame's place
abbrev pub behind : Code → Frame → ℕ
behind code F = length (list_of code F.def) - F.place

abbrev pub frames_left : Code → List Frame → ℕ
frames_left code [] = 0
frames_left code (F ∷ callers) = behind code F + frames_left code callers

-- each frame goes to its end, and each further call begins one
abbrev pub steps_left : Code → ℕ → State → ℕ
steps_left code budget (runs F callers calls) = (budget - calls) * all_of code.defs + (behind code F + frames_left code callers)
steps_left code budget (ended v calls) = 0

fits_all : (defs : List (List Instr)) (d : ℕ) → length (unwrap_or (slice_get defs d) []) ≤ all_of defs
fits_all [] zero = omega arith
fits_all [] (suc d) = omega arith
fits_all (x ∷ defs) zero = omega arith
fits_all (x ∷ defs) (suc d) = let h = fits_all defs d in omega (arith, h)

is_within : (code : Code) (d place : ℕ) (i : Instr) → instruction_at code d place ≡ Some i → place < length (list_of code d)
is_within code d place i e =
    let found = some_of_then (λ (list : List Instr). slice_get list place) (slice_get code.defs d) i e in
    subst (λ (o : Option (List Instr)). place < length (unwrap_or o [])) (sym found.1) (slice_get_within found.0 place i found.2)

same_some : {A : Type 0} (x y : A) → Some x ≡ Some y → x ≡ y
same_some x y e = cc

-- sums that are less in one part
less_in : (m a b c : ℕ) → a < b → m + (a + c) < m + (b + c)
less_in m a b c l = omega (arith, l)

all_at : (P : ℕ → Type 0) (xs : List ℕ) (k x : ℕ) → AllByRecursion P xs → slice_get xs k ≡ Some x → P x
all_at P [] zero x all e = absurd (cc)
all_at P [] (suc k) x all e = absurd (cc)
all_at P (y ∷ xs) zero x all e = subst P (same_some _ _ e) all.0
all_at P (y ∷ xs) (suc k) x all e = all_at P xs k x all.1 e

-- Where a branch leads.
record LeadsTo (places : List ℕ) (F G : Frame) : Type 0 where
  pub same : G.def ≡ F.def
  pub k : ℕ
  pub named : slice_get places k ≡ Some G.place

entered_to : (places : List ℕ) (y : Value-F Value) (F G : Frame) (below : List Value) → entered places y F below ≡ Some G → LeadsTo places F G
entered_to places (Value-F.Lit w) F G below e = absurd (cc)
entered_to places (Value-F.Con d k fields) F G below e =
    let found = some_of_map _ _ _ e in
    record { same = sym (ap (λ (H : Frame). H.def) found.2); k = k; named = found.1 ∙ ap Some (ap (λ (H : Frame). H.place) found.2) }

branched_to : (places : List ℕ) (F G : Frame) (xs : List Value) → branched places F xs ≡ Some G → LeadsTo places F G
branched_to places F G [] e = absurd (cc)
branched_to places F G (v ∷ below) e = entered_to places (out-Value v) F G below e

module _ (code : Code) (budget : ℕ) (F : Frame) (callers : List Frame) (calls : ℕ) (within : F.place < length (list_of code F.def)) where
  -- the frame goes on behind its place
  goes_behind : (G : Frame) → G.def ≡ F.def → F.place < G.place → behind code G < behind code F
  goes_behind G same more =
      let e : behind code G ≡ length (list_of code F.def) - G.place = ap (λ (d : ℕ). length (list_of code d) - G.place) same in
      omega (arith, e, more, within)

  frame_falls : (G : Frame) (t : State) → G.def ≡ F.def → F.place < G.place → runs G callers calls ≡ t → steps_left code budget t < steps_left code budget (runs F callers calls)
  frame_falls G t same more e =
      subst (λ (s : State). steps_left code budget s < steps_left code budget (runs F callers calls)) e
      (less_in ((budget - calls) * all_of code.defs) (behind code G) (behind code F) (frames_left code callers) (goes_behind G same more))

  call_falls : (d : ℕ) (funs : List CallTarget) (vs : List Value) (G : Frame) (t : State) → G.def ≡ F.def → F.place < G.place → calls + 1 ≤ budget → runs (entry d funs vs) (G ∷ callers) (calls + 1) ≡ t →
      steps_left code budget t < steps_left code budget (runs F callers calls)
  call_falls d funs vs G t same more few e =
      let less = goes_behind G same more in
      let fits = fits_all code.defs d in
      let one : budget - calls ≡ suc (budget - (calls + 1)) = omega (arith, few) in
      let product : (budget - calls) * all_of code.defs ≡ (budget - (calls + 1)) * all_of code.defs + all_of code.defs = ap (λ (n : ℕ). n * all_of code.defs) one ∙ suc-mul (budget - (calls + 1)) (all_of code.defs) in
      subst (λ (s : State). steps_left code budget s < steps_left code budget (runs F callers calls)) e
      (call_sums ((budget - (calls + 1)) * all_of code.defs) ((budget - calls) * all_of code.defs) (all_of code.defs) (length (list_of code d) - 0) (behind code G) (behind code F) (frames_left code callers) product (omega (arith, fits)) less)
    where
      call_sums : (m n all a b c l : ℕ) → n ≡ m + all → a ≤ all → b < c → m + (a + (b + l)) < n + (c + l)
      call_sums m n all a b c l e le less = omega (arith, e, le, less)

  called_falls : (f : CallTarget) (fs : List CallTarget) (vs : List Value) (G : Frame) (t : State) → G.def ≡ F.def → F.place < G.place → calls_of t ≤ budget → called f fs vs G callers calls ≡ Some t →
      steps_left code budget t < steps_left code budget (runs F callers calls)
  called_falls (target.Def d) fs vs G t same more few e =
      let is = same_some _ _ e in
      let counted : calls + 1 ≡ calls_of t = ap calls_of is in
      call_falls d fs vs G t same more (omega (arith, counted, few)) is
  called_falls target.Wle fs vs G t same more few e = let v = some_of_map _ _ _ e in frame_falls (record G { stack = v.0 ∷ G.stack }) t same more v.2
  called_falls target.Weq fs vs G t same more few e = let v = some_of_map _ _ _ e in frame_falls (record G { stack = v.0 ∷ G.stack }) t same more v.2
  called_falls (target.Param n) fs vs G t same more few e = absurd (cc)

-- the frame that returns has an instruction left
returned_falls : (code : Code) (budget : ℕ) (F : Frame) (xs : List Value) (callers : List Frame) (calls : ℕ) (t : State) → F.place < length (list_of code F.def) → returned xs callers calls ≡ Some t →
    steps_left code budget t < steps_left code budget (runs F callers calls)
returned_falls code budget F [] callers calls t within e = absurd (cc)
returned_falls code budget F (v ∷ xs) [] calls t within e =
    subst (λ (s : State). steps_left code budget s < steps_left code budget (runs F [] calls)) (same_some _ _ e) (omega (arith, within))
returned_falls code budget F (v ∷ xs) (caller ∷ callers) calls t within e =
    subst (λ (s : State). steps_left code budget s < steps_left code budget (runs F (caller ∷ callers) calls)) (same_some _ _ e) (omega (arith, within))

-- each instruction leaves fewer to do
pub falls : (code : Code) (budget : ℕ) (i : Instr) (F : Frame) (callers : List Frame) (calls : ℕ) (t : State) → IsForward code → instruction_at code F.def F.place ≡ Some i → calls_of t ≤ budget →
    effect i F callers calls ≡ Some t → steps_left code budget t < steps_left code budget (runs F callers calls)
falls code budget (Local n) F callers calls t forward at few e =
    let v = some_of_map _ _ _ e in frame_falls code budget F callers calls (is_within code F.def F.place _ at) _ t refl (omega arith) v.2
falls code budget (Lit w) F callers calls t forward at few e = frame_falls code budget F callers calls (is_within code F.def F.place _ at) _ t refl (omega arith) (same_some _ _ e)
falls code budget (Make d k n) F callers calls t forward at few e =
    let v = some_of_map _ _ _ e in frame_falls code budget F callers calls (is_within code F.def F.place _ at) _ t refl (omega arith) v.2
falls code budget (Call f fs n) F callers calls t forward at few e =
    let on = calls_on f fs n F callers calls t e in
    called_falls code budget F callers calls (is_within code F.def F.place (Call f fs n) at) on.f on.fs on.values (going_on F on.below) t refl (omega arith) few on.is
falls code budget (Branch places) F callers calls t forward at few e =
    let v = some_of_map _ _ _ e in
    let to = branched_to places F v.0 F.stack v.1 in
    let more : F.place < v.0.place = all_at (λ (n : ℕ). F.place < n) places to.k v.0.place (forward.behind F.def F.place (Branch places) at) to.named in
    frame_falls code budget F callers calls (is_within code F.def F.place _ at) v.0 t to.same more v.2
falls code budget (Forget n) F callers calls t forward at few e = frame_falls code budget F callers calls (is_within code F.def F.place _ at) _ t refl (omega arith) (same_some _ _ e)
falls code budget (Jump place) F callers calls t forward at few e =
    let more = forward.behind F.def F.place (Jump place) at in
    frame_falls code budget F callers calls (is_within code F.def F.place _ at) _ t refl more.0 (same_some _ _ e)
falls code budget Return F callers calls t forward at few e = returned_falls code budget F F.stack callers calls t (is_within code F.def F.place _ at) e
