-- Single steps of a run in placed code.
use Rattle.std.proofs.Common.{◌≡◌, ℕ, suc, ◌+◌, ◌-◌, List, [], ◌∷◌, ◌++◌, length, take, drop, map, reverse, nat_le, true, Bool, Option, Some, None, slice_get, option_and_then, refl, sym, ap, ◌∙◌, arith}
use Rattle.std.specs.Prelude.{if◌then◌else◌}
use Rattle.std.specs.Option.{option_map}
use Rattle.std.proofs.lemmas.List.{append_assoc, length-append, length-reverse, reverse-reverse, take_at, drop_at}
use Rattle.std.proofs.lemmas.Option.{slice_get-map}
use Rattle.std.proofs.lemmas.Bool.{le-leb}
use Rattle.px_terms.specs.declared.term.Value.{Value, out-Value}
use Rattle.px_terms.specs.declared.term.Value.TheVariants as value
use Rattle.px_terms.specs.declared.term.Value.TheOpen.{Value-F}
use Rattle.px_machine.specs.declared.code.CallTarget.{CallTarget}
use Rattle.px_machine.specs.declared.code.Instr.{Instr}
use Rattle.px_machine.specs.declared.code.Instr.TheVariants.{Local, Lit, Make, Call, Branch, Forget, Jump, Return}
use Rattle.px_machine.specs.declared.code.Code.{Code}
use Rattle.px_machine.specs.Machine.{Frame, State, runs, ended, going_on, popped, meant_target, meant_targets, called, entered, effect, instruction_at, Leads, here, step}
use Rattle.px_compile.specs.Layout.{placed_instruction, placed}

-- What is left of the whole at some place.
pub record Ends (whole rest : List Instr) : Type 0 where
  pub front : List Instr
  pub is : whole ≡ front ++ rest

-- the end of an end
pub ends_in : (whole middle rest : List Instr) → Ends whole middle → Ends middle rest → Ends whole rest
ends_in whole middle rest a b = record { front = a.front ++ b.front; is = a.is ∙ ap (λ xs. a.front ++ xs) b.is ∙ sym (append_assoc a.front b.front rest) }

pub one_less : (whole : List Instr) (i : Instr) (rest : List Instr) → Ends whole (i ∷ rest) → Ends whole rest
one_less whole i rest e = ends_in whole (i ∷ rest) rest e (record { front = i ∷ []; is = refl })

-- the place where the rest begins
abbrev pub place_of : List Instr → List Instr → ℕ
place_of whole rest = length whole - length rest

-- a frame of a definition whose whole code this is, at the place where the rest begins
abbrev pub frame_at : ℕ → List Instr → List CallTarget → List Value → List Value → List Instr → Frame
frame_at d whole funs locals stack rest = record { def = d; place = place_of whole rest; funs = funs; locals = locals; stack = stack }

-- one run and another, one after the other
pub leads_on : {code : Code} {s t u : State} → Leads code s t → Leads code t u → Leads code s u
leads_on here l = l
leads_on (step e rest) l = step e (leads_on rest l)

behind_front : (f : Instr → Instr) (front : List Instr) (i : Instr) (rest : List Instr) → slice_get (map f (front ++ i ∷ rest)) (length front) ≡ Some (f i)
behind_front f [] i rest = refl
behind_front f (x ∷ front) i rest = behind_front f front i rest

place_is : (whole : List Instr) (i : Instr) (rest : List Instr) (e : Ends whole (i ∷ rest)) → place_of whole (i ∷ rest) ≡ length e.front
place_is whole i rest e = let long : length whole ≡ length e.front + suc (length rest) = ap length e.is ∙ length-append e.front (i ∷ rest) in omega (arith, long)

place_next : (whole : List Instr) (i : Instr) (rest : List Instr) → Ends whole (i ∷ rest) → place_of whole (i ∷ rest) + 1 ≡ place_of whole rest
place_next whole i rest e = let long : length whole ≡ length e.front + suc (length rest) = ap length e.is ∙ length-append e.front (i ∷ rest) in omega (arith, long)

-- the instruction at the place
fetched : (code : Code) (d : ℕ) (whole : List Instr) (i : Instr) (rest : List Instr) → slice_get code.defs d ≡ Some (placed whole) → Ends whole (i ∷ rest) →
    instruction_at code d (place_of whole (i ∷ rest)) ≡ Some (placed_instruction (length whole) i)
fetched code d whole i rest found e =
    ap (option_and_then (λ (is : List Instr). slice_get is (place_of whole (i ∷ rest)))) found
    ∙ ap (slice_get (placed whole)) (place_is whole i rest e)
    ∙ ap (λ (w : List Instr). slice_get (map (placed_instruction (length whole)) w) (length e.front)) e.is
    ∙ behind_front (placed_instruction (length whole)) e.front i rest

-- all of what was pushed is taken
pub taken : (vs stack : List Value) (n : ℕ) → n ≡ length vs → popped n (reverse vs ++ stack) ≡ Some (vs, stack)
taken vs stack n long =
    let many : length (reverse vs) ≡ n = length-reverse vs ∙ sym long in
    let enough : nat_le n (length (reverse vs ++ stack)) ≡ true =
    le-leb n (length (reverse vs ++ stack)) (omega (arith, many, length-append (reverse vs) stack)) in
    let first : reverse (take n (reverse vs ++ stack)) ≡ vs = ap reverse (take_at (reverse vs) stack n many) ∙ reverse-reverse vs in
    let second : drop n (reverse vs ++ stack) ≡ stack = drop_at (reverse vs) stack n many in
    ap (λ (b : Bool). if b then Some (reverse (take n (reverse vs ++ stack)), drop n (reverse vs ++ stack)) else None) enough
    ∙ (λ k. Some (first k, second k))

module _ (code : Code) (d : ℕ) (whole : List Instr) (found : slice_get code.defs d ≡ Some (placed whole)) (funs : List CallTarget) where
  -- the frame runs at the place where the rest begins
  abbrev pub at : List Value → List Value → List Instr → List Frame → ℕ → State
  at locals stack rest callers calls = runs (frame_at d whole funs locals stack rest) callers calls

  -- what an instruction does
  pub does : (i : Instr) (rest : List Instr) (locals stack : List Value) (callers : List Frame) (calls : ℕ) (t : State) → Ends whole (i ∷ rest) →
      effect (placed_instruction (length whole) i) (frame_at d whole funs locals stack (i ∷ rest)) callers calls ≡ Some t →
      Leads code (at locals stack (i ∷ rest) callers calls) t
  does i rest locals stack callers calls t e is =
      step (ap (option_and_then (λ (j : Instr). effect j (frame_at d whole funs locals stack (i ∷ rest)) callers calls)) (fetched code d whole i rest found e) ∙ is) here

  -- where a frame goes on
  onward : (i : Instr) (rest : List Instr) (locals : List Value) (stack : List Value) → Ends whole (i ∷ rest) →
      record { def = d; place = place_of whole (i ∷ rest) + 1; funs = funs; locals = locals; stack = stack } ≡ frame_at d whole funs locals stack rest
  onward i rest locals stack e = ap (λ (p : ℕ). record { def = d; place = p; funs = funs; locals = locals; stack = stack }) (place_next whole i rest e)

  pub does_local : (n : ℕ) (v : Value) (rest : List Instr) (locals stack : List Value) (callers : List Frame) (calls : ℕ) → Ends whole (Local n ∷ rest) →
      slice_get locals n ≡ Some v → Leads code (at locals stack (Local n ∷ rest) callers calls) (at locals (v ∷ stack) rest callers calls)
  does_local n v rest locals stack callers calls e is =
      does (Local n) rest locals stack callers calls _ e
      (ap (option_map (λ (v : Value). runs (going_on (frame_at d whole funs locals stack (Local n ∷ rest)) (v ∷ stack)) callers calls)) is
      ∙ ap (λ (F : Frame). Some (runs F callers calls)) (onward (Local n) rest locals (v ∷ stack) e))

  pub does_lit : (w : ℕ) (rest : List Instr) (locals stack : List Value) (callers : List Frame) (calls : ℕ) → Ends whole (Lit w ∷ rest) →
      Leads code (at locals stack (Lit w ∷ rest) callers calls) (at locals (value.Lit w ∷ stack) rest callers calls)
  does_lit w rest locals stack callers calls e =
      does (Lit w) rest locals stack callers calls _ e (ap (λ (F : Frame). Some (runs F callers calls)) (onward (Lit w) rest locals (value.Lit w ∷ stack) e))

  pub does_make : (b k n : ℕ) (vs : List Value) (rest : List Instr) (locals stack : List Value) (callers : List Frame) (calls : ℕ) →
      Ends whole (Make b k n ∷ rest) → n ≡ length vs →
      Leads code (at locals (reverse vs ++ stack) (Make b k n ∷ rest) callers calls) (at locals (value.Con b k vs ∷ stack) rest callers calls)
  does_make b k n vs rest locals stack callers calls e long =
      does (Make b k n) rest locals (reverse vs ++ stack) callers calls _ e
      (ap (option_map (λ (p : List Value × List Value). runs (going_on (frame_at d whole funs locals (reverse vs ++ stack) (Make b k n ∷ rest))
      (value.Con b k p.0 ∷ p.1)) callers calls)) (taken vs stack n long)
      ∙ ap (λ (F : Frame). Some (runs F callers calls)) (onward (Make b k n) rest locals (value.Con b k vs ∷ stack) e))

  pub does_call : (t u : CallTarget) (ts us : List CallTarget) (n : ℕ) (vs : List Value) (rest : List Instr) (locals stack : List Value)
      (callers : List Frame) (calls : ℕ) (s : State) → Ends whole (Call t ts n ∷ rest) → n ≡ length vs → meant_target funs t ≡ Some u →
      meant_targets funs ts ≡ Some us → called u us vs (frame_at d whole funs locals stack rest) callers calls ≡ Some s →
      Leads code (at locals (reverse vs ++ stack) (Call t ts n ∷ rest) callers calls) s
  does_call t u ts us n vs rest locals stack callers calls s e long one all is =
      let F : Frame = frame_at d whole funs locals (reverse vs ++ stack) (Call t ts n ∷ rest) in
      does (Call t ts n) rest locals (reverse vs ++ stack) callers calls s e
      (ap (option_and_then (λ (p : List Value × List Value). option_and_then (λ (f : CallTarget). option_and_then
      (λ (fs : List CallTarget). called f fs p.0 (going_on F p.1) callers calls) (meant_targets funs ts)) (meant_target funs t))) (taken vs stack n long)
      ∙ ap (option_and_then (λ (f : CallTarget). option_and_then (λ (fs : List CallTarget). called f fs vs (going_on F stack) callers calls) (meant_targets funs ts))) one
      ∙ ap (option_and_then (λ (fs : List CallTarget). called u fs vs (going_on F stack) callers calls)) all
      ∙ ap (λ (G : Frame). called u us vs G callers calls) (onward (Call t ts n) rest locals stack e)
      ∙ is)

  pub does_branch : (places : List ℕ) (rest next : List Instr) (u : Value) (b k : ℕ) (fields locals stack : List Value) (callers : List Frame) (calls : ℕ) →
      Ends whole (Branch places ∷ rest) → out-Value u ≡ Value-F.Con b k fields → slice_get places k ≡ Some (length next) →
      Leads code (at locals (u ∷ stack) (Branch places ∷ rest) callers calls) (at (locals ++ fields) stack next callers calls)
  does_branch places rest next u b k fields locals stack callers calls e is place =
      let F : Frame = frame_at d whole funs locals (u ∷ stack) (Branch places ∷ rest) in
      let counted : List ℕ = map (λ (p : ℕ). length whole - p) places in
      let there : slice_get counted k ≡ Some (place_of whole next) =
      slice_get-map (λ (p : ℕ). length whole - p) places k ∙ ap (option_map (λ (p : ℕ). length whole - p)) place in
      does (Branch places) rest locals (u ∷ stack) callers calls _ e
      (ap (λ (layer : Value-F Value). option_map (λ (G : Frame). runs G callers calls) (entered counted layer F stack)) is
      ∙ ap (λ (o : Option ℕ). option_map (λ (G : Frame). runs G callers calls)
      (option_map (λ (p : ℕ). record { def = d; place = p; funs = funs; locals = locals ++ fields; stack = stack }) o)) there)

  pub does_forget : (n : ℕ) (rest : List Instr) (locals fields stack : List Value) (callers : List Frame) (calls : ℕ) → Ends whole (Forget n ∷ rest) →
      n ≡ length fields → Leads code (at (locals ++ fields) stack (Forget n ∷ rest) callers calls) (at locals stack rest callers calls)
  does_forget n rest locals fields stack callers calls e long =
      let left : length locals ≡ length (locals ++ fields) - n = omega (arith, length-append locals fields, long) in
      let kept : take (length (locals ++ fields) - n) (locals ++ fields) ≡ locals = take_at locals fields (length (locals ++ fields) - n) left in
      does (Forget n) rest (locals ++ fields) stack callers calls _ e
      (ap (λ (ls : List Value). Some (runs (record { def = d; place = place_of whole (Forget n ∷ rest) + 1; funs = funs; locals = ls; stack = stack }) callers calls)) kept
      ∙ ap (λ (F : Frame). Some (runs F callers calls)) (onward (Forget n) rest locals stack e))

  pub does_jump : (end : ℕ) (rest next : List Instr) (locals stack : List Value) (callers : List Frame) (calls : ℕ) → Ends whole (Jump end ∷ rest) →
      end ≡ length next → Leads code (at locals stack (Jump end ∷ rest) callers calls) (at locals stack next callers calls)
  does_jump end rest next locals stack callers calls e is =
      does (Jump end) rest locals stack callers calls _ e
      (ap (λ (n : ℕ). Some (runs (record { def = d; place = length whole - n; funs = funs; locals = locals; stack = stack }) callers calls)) is)

  -- the end of a frame that was called, and of a run
  pub does_return : (v : Value) (locals stack : List Value) (F : Frame) (callers : List Frame) (calls : ℕ) → Ends whole (Return ∷ []) →
      Leads code (at locals (v ∷ stack) (Return ∷ []) (F ∷ callers) calls) (runs (record F { stack = v ∷ F.stack }) callers calls)
  does_return v locals stack F callers calls e = does Return [] locals (v ∷ stack) (F ∷ callers) calls _ e refl

  pub does_end : (v : Value) (locals stack : List Value) (calls : ℕ) → Ends whole (Return ∷ []) →
      Leads code (at locals (v ∷ stack) (Return ∷ []) [] calls) (ended v calls)
  does_end v locals stack calls e = does Return [] locals (v ∷ stack) [] calls _ e refl
