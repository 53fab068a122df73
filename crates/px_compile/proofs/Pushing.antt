-- What the code of terms does as it runs: it pushes their values, and counts their calls.
use Rattle.std.proofs.Common.{◌≡◌, ℕ, suc, ◌+◌, ◌-◌, List, [], ◌∷◌, ◌++◌, length, reverse, Some, slice_get, refl, sym, ap, ◌∙◌, subst, arith}
use Rattle.std.proofs.lemmas.List.{append_assoc, length-append, reverse-append}
use Rattle.px_terms.specs.declared.term.Value.{Value, out-Value}
use Rattle.px_terms.specs.declared.term.Value.TheVariants as value
use Rattle.px_terms.specs.declared.term.Value.TheOpen.{Value-F}
use Rattle.px_terms.specs.declared.program.Program.{Program}
use Rattle.px_terms.specs.Descent.{field_count}
use Rattle.px_machine.specs.declared.code.CallTarget.{CallTarget}
use Rattle.px_machine.specs.declared.code.Instr.{Instr}
use Rattle.px_machine.specs.declared.code.Instr.TheVariants.{Local, Lit, Make, Call, Branch, Forget, Jump}
use Rattle.px_machine.specs.declared.code.Code.{Code}
use Rattle.px_machine.specs.Machine.{Frame, State, runs, meant_target, meant_targets, called, Leads, here}
use Rattle.px_compile.specs.Layout.{Part, in_order, arms_code, arms_places, match_code, placed}
use Rattle.px_compile.proofs.Steps.{Ends, ends_in, one_less, frame_at, at, leads_on, does_local, does_lit, does_make, does_call, does_branch, does_forget, does_jump}
use Rattle.px_compile.proofs.Laid.{IsLaid, AreLaid, in_order_ends, ArmAt, arm_at}

-- From any place the part pushes the value, and so many calls are counted.
pub record Pushes (code : Code) (funs : List CallTarget) (locals : List Value) (part : Part) (v : Value) (count : ℕ) : Type 0 where
  pub run : (d : ℕ) (whole : List Instr) (found : slice_get code.defs d ≡ Some (placed whole)) (rest : List Instr) → Ends whole (part (length locals) rest) →
      (stack : List Value) (callers : List Frame) (calls : ℕ) →
      Leads code (at code d whole found funs locals stack (part (length locals) rest) callers calls)
      (at code d whole found funs locals (v ∷ stack) rest callers (calls + count))

-- From any place the parts push the values in order, and so many calls are counted.
pub record PushAll (code : Code) (funs : List CallTarget) (locals : List Value) (parts : List Part) (vs : List Value) (count : ℕ) : Type 0 where
  pub as_many : length parts ≡ length vs
  pub run : (d : ℕ) (whole : List Instr) (found : slice_get code.defs d ≡ Some (placed whole)) (rest : List Instr) → Ends whole (in_order parts (length locals) rest) →
      (stack : List Value) (callers : List Frame) (calls : ℕ) →
      Leads code (at code d whole found funs locals stack (in_order parts (length locals) rest) callers calls)
      (at code d whole found funs locals (reverse vs ++ stack) rest callers (calls + count))

-- What is called on values goes on with the value in the frame below, and so many calls are counted.
pub record Answers (code : Code) (target : CallTarget) (funs : List CallTarget) (vs : List Value) (v : Value) (count : ℕ) : Type 0 where
  pub begins : (F : Frame) (callers : List Frame) (calls : ℕ) → State
  pub is_called : (F : Frame) (callers : List Frame) (calls : ℕ) → called target funs vs F callers calls ≡ Some (begins F callers calls)
  pub run : (F : Frame) (callers : List Frame) (calls : ℕ) → Leads code (begins F callers calls) (runs (record F { stack = v ∷ F.stack }) callers (calls + count))

-- a state with the calls counted otherwise
counted : (code : Code) (s : State) (F : Frame) (callers : List Frame) (a b : ℕ) → a ≡ b → Leads code s (runs F callers a) → Leads code s (runs F callers b)
counted code s F callers a b e l = subst (λ (n : ℕ). Leads code s (runs F callers n)) e l

module _ (code : Code) (funs : List CallTarget) (locals : List Value) where
  pub local_pushes : (part : Part) (n : ℕ) (v : Value) → part ≡ (λ (m : ℕ) (rest : List Instr). Local n ∷ rest) → slice_get locals n ≡ Some v →
      Pushes code funs locals part v 0
  local_pushes part n v e is = subst (λ (p : Part). Pushes code funs locals p v 0) (sym e) (record {
    run = λ d whole found rest ends stack callers calls.
        let same : calls ≡ calls + 0 = omega arith in
        counted code _ _ callers calls (calls + 0) same (does_local code d whole found funs n v rest locals stack callers calls ends is);
  })

  pub bound_local_pushes : (n : ℕ) (v : Value) → slice_get locals (length locals - n - 1) ≡ Some v →
      Pushes code funs locals (λ (m : ℕ) (rest : List Instr). Local (m - n - 1) ∷ rest) v 0
  bound_local_pushes n v is = record {
    run = λ d whole found rest ends stack callers calls.
        let same : calls ≡ calls + 0 = omega arith in
        counted code _ _ callers calls (calls + 0) same
        (does_local code d whole found funs (length locals - n - 1) v rest locals stack callers calls ends is);
  }

  pub lit_pushes : (w : ℕ) → Pushes code funs locals (λ (m : ℕ) (rest : List Instr). Lit w ∷ rest) (value.Lit w) 0
  lit_pushes w = record {
    run = λ d whole found rest ends stack callers calls.
        let same : calls ≡ calls + 0 = omega arith in
        counted code _ _ callers calls (calls + 0) same (does_lit code d whole found funs w rest locals stack callers calls ends);
  }

  pub none_push : PushAll code funs locals [] [] 0
  none_push = record {
    as_many = refl;
    run = λ d whole found rest ends stack callers calls. let same : calls ≡ calls + 0 = omega arith in counted code _ _ callers calls (calls + 0) same here;
  }

  pub more_push : (part : Part) (parts : List Part) (v : Value) (vs : List Value) (a b c : ℕ) → IsLaid part → Pushes code funs locals part v a →
      PushAll code funs locals parts vs b → a + b ≡ c → PushAll code funs locals (part ∷ parts) (v ∷ vs) c
  more_push part parts v vs a b c laid first others total = record {
    as_many = ap suc others.as_many;
    run = λ d whole found rest ends stack callers calls.
        let n = length locals in
        let below : List Instr = in_order parts n rest in
        let ends_below : Ends whole below = ends_in whole (part n below) below ends (laid.front n below) in
        let sum : (calls + a) + b ≡ calls + c = omega (arith, total) in
        let pushed : reverse vs ++ (v ∷ stack) ≡ reverse (v ∷ vs) ++ stack =
        sym (append_assoc (reverse vs) (v ∷ []) stack) ∙ ap (λ (xs : List Value). xs ++ stack) (sym (reverse-append (v ∷ []) vs)) in
        subst (λ (values : List Value). Leads code (at code d whole found funs locals stack (part n below) callers calls)
        (at code d whole found funs locals values rest callers (calls + c))) pushed
        (counted code _ _ callers ((calls + a) + b) (calls + c) sum
        (leads_on (first.run d whole found below ends stack callers calls)
        (others.run d whole found rest ends_below (v ∷ stack) callers (calls + a))));
  }

  pub con_pushes : (d k : ℕ) (parts : List Part) (vs : List Value) (c : ℕ) → AreLaid parts → PushAll code funs locals parts vs c →
      Pushes code funs locals (λ (m : ℕ) (rest : List Instr). in_order parts m (Make d k (length parts) ∷ rest)) (value.Con d k vs) c
  con_pushes d k parts vs c laid all = record {
    run = λ e whole found rest ends stack callers calls.
        let n = length locals in
        let made : List Instr = Make d k (length parts) ∷ rest in
        let ends_below : Ends whole made = ends_in whole (in_order parts n made) made ends (in_order_ends parts n made laid) in
        leads_on (all.run e whole found made ends stack callers calls)
        (does_make code e whole found funs d k (length parts) vs rest locals stack callers (calls + c) ends_below all.as_many);
  }

  pub call_pushes : (t u : CallTarget) (ts us : List CallTarget) (parts : List Part) (vs : List Value) (v : Value) (a b c : ℕ) → AreLaid parts →
      PushAll code funs locals parts vs a → meant_target funs t ≡ Some u → meant_targets funs ts ≡ Some us → Answers code u us vs v b → a + b ≡ c →
      Pushes code funs locals (λ (m : ℕ) (rest : List Instr). in_order parts m (Call t ts (length parts) ∷ rest)) v c
  call_pushes t u ts us parts vs v a b c laid all one each answers total = record {
    run = λ d whole found rest ends stack callers calls.
        let n = length locals in
        let calling : List Instr = Call t ts (length parts) ∷ rest in
        let F : Frame = frame_at d whole funs locals stack rest in
        let ends_below : Ends whole calling = ends_in whole (in_order parts n calling) calling ends (in_order_ends parts n calling laid) in
        let sum : (calls + a) + b ≡ calls + c = omega (arith, total) in
        counted code _ _ callers ((calls + a) + b) (calls + c) sum
        (leads_on (all.run d whole found calling ends stack callers calls)
        (leads_on (does_call code d whole found funs t u ts us (length parts) vs rest locals stack callers (calls + a) (answers.begins F callers (calls + a))
        ends_below all.as_many one each (answers.is_called F callers (calls + a)))
        (answers.run F callers (calls + a))));
  }

  pub match_pushes : (P : Program) (d e k : ℕ) (on : Part) (arms : List Part) (arm : Part) (u v : Value) (fields : List Value) (a b c : ℕ) → IsLaid on → IsLaid arm →
      AreLaid arms → Pushes code funs locals on u a → out-Value u ≡ Value-F.Con e k fields → slice_get arms k ≡ Some arm → length fields ≡ field_count P d k →
      Pushes code funs (locals ++ fields) arm v b → a + b ≡ c →
      Pushes code funs locals (λ (m : ℕ) (rest : List Instr). on m (match_code P d arms m rest)) v c
  match_pushes P d e k on arms arm u v fields a b c on_laid arm_laid laid on_pushes is there many arm_pushes total = record {
    run = λ def whole found rest ends stack callers calls.
        let n = length locals in
        let end = length rest in
        let below : List Instr = arms_code P d 0 arms n end rest in
        let branch : List Instr = match_code P d arms n rest in
        let ends_branch : Ends whole branch = ends_in whole (on n branch) branch ends (on_laid.front n branch) in
        let ends_below : Ends whole below = one_less whole (Branch (arms_places P d 0 arms n end rest)) below ends_branch in
        let it : ArmAt P d n end rest 0 k arms arm = arm_at P d n end rest 0 k arms arm laid there in
        let w = field_count P d (0 + k) in
        let zeroth : 0 + k ≡ k = omega arith in
        let width : w ≡ length fields = ap (field_count P d) zeroth ∙ sym many in
        let jump : List Instr = Jump end ∷ it.after in
        let forget : List Instr = Forget w ∷ jump in
        let inside : length (locals ++ fields) ≡ n + w = omega (arith, length-append locals fields, width) in
        let ends_arm : Ends whole (arm (n + w) forget) = ends_in whole below (arm (n + w) forget) ends_below it.ends in
        let ends_forget : Ends whole forget = ends_in whole (arm (n + w) forget) forget ends_arm (arm_laid.front (n + w) forget) in
        let ends_jump : Ends whole jump = one_less whole (Forget w) jump ends_forget in
        let sum : (calls + a) + b ≡ calls + c = omega (arith, total) in
        let arm_run : Leads code (at code def whole found funs (locals ++ fields) stack (arm (n + w) forget) callers (calls + a))
        (at code def whole found funs (locals ++ fields) (v ∷ stack) forget callers ((calls + a) + b)) =
        subst (λ (m : ℕ). Ends whole (arm m forget) → Leads code (at code def whole found funs (locals ++ fields) stack (arm m forget) callers (calls + a))
        (at code def whole found funs (locals ++ fields) (v ∷ stack) forget callers ((calls + a) + b))) inside
        (λ (ends : Ends whole (arm (length (locals ++ fields)) forget)). arm_pushes.run def whole found forget ends stack callers (calls + a)) ends_arm in
        counted code _ _ callers ((calls + a) + b) (calls + c) sum
        (leads_on (on_pushes.run def whole found branch ends stack callers calls)
        (leads_on (does_branch code def whole found funs (arms_places P d 0 arms n end rest) below (arm (n + w) forget) u e k fields locals stack callers (calls + a)
        ends_branch is it.found)
        (leads_on arm_run
        (leads_on (does_forget code def whole found funs w jump locals fields (v ∷ stack) callers ((calls + a) + b) ends_forget width)
        (does_jump code def whole found funs end it.after rest locals (v ∷ stack) callers ((calls + a) + b) ends_jump refl)))));
  }
