-- The code of a program does what the program means: one induction on the meaning, along the typing.
use Rattle.std.proofs.Common.{◌≡◌, ℕ, zero, suc, ◌+◌, ◌-◌, ◌==◌, nat_le, Bool, List, [], ◌∷◌, ◌++◌, length, map, reverse, Some, slice_get, option_and_then, refl, sym, ap, ◌∙◌, subst, subst₂, arith}
use Rattle.std.specs.Option.{option_map}
use Rattle.std.proofs.lemmas.Option.{slice_get-map}
use Rattle.std.proofs.lemmas.List.{append_assoc, append-nil, length-append, length-map, reverse-append, reverse-reverse}
use Rattle.px_terms.specs.declared.types.Ty.{Ty}
use Rattle.px_terms.specs.declared.types.Fun.{Fun}
use Rattle.px_terms.specs.Head.{Head}
use Rattle.px_terms.specs.Head.TheVariants.{Def, Wle, Weq, FnVar}
use Rattle.px_terms.specs.declared.term.Term.{Term, out-Term}
use Rattle.px_terms.specs.declared.term.Term.TheOpen.{Term-F}
use Rattle.px_terms.specs.declared.term.Term.TheFolds.{map-Term, fold_out-Term}
use Rattle.px_terms.specs.declared.term.Value.{Value, out-Value}
use Rattle.px_terms.specs.declared.term.Value.TheOpen.{Value-F}
use Rattle.px_terms.specs.declared.program.Def as definition
use Rattle.px_terms.specs.declared.program.Program.{Program}
use Rattle.px_terms.specs.declared.sequent.Context.{Context}
use Rattle.px_terms.specs.Types.{ty_instance, tys_instance, fun_with_types}
use Rattle.px_terms.specs.TreeEquations.{ty_instance-Con}
use Rattle.px_terms.specs.Programs.{body_of}
use Rattle.px_terms.specs.Values.{IsIn, AreIn}
use Rattle.px_terms.specs.Values as values
use Rattle.px_terms.specs.Meaning.{truth, meant_function, FunsMean, bind, MeansOf, MeanAll, Gives, free, bound, lit, con, choose, call, none, more, defined, at_most, equal}
use Rattle.px_terms.specs.Typing.{Place, in_body, IsType, HasTypeLayer, HaveTypes}
use Rattle.px_terms.specs.Typing as typing
use Rattle.px_terms.specs.TypedPrograms.{own_context}
use Rattle.px_terms.specs.Extending.{IsWellFounded}
use Rattle.px_totality.proofs.Instances.{one_item}
use Rattle.px_totality.proofs.TypesOfTerms.{constructor_of, type_of}
use Rattle.px_totality.proofs.Unique.{gift_rests_on}
use Rattle.px_totality.proofs.Valued.{as_many, IsBuilt, built}
use Rattle.px_machine.specs.declared.code.CallTarget.{CallTarget}
use Rattle.px_machine.specs.declared.code.CallTarget.TheVariants as target
use Rattle.px_machine.specs.declared.code.Instr.{Instr}
use Rattle.px_machine.specs.declared.code.Instr.TheVariants.{Return}
use Rattle.px_machine.specs.declared.code.Code.{Code}
use Rattle.px_machine.specs.Machine.{Frame, runs, ended, entry, word_of, compared, called, meant_target, meant_targets, Leads, here, RunGives}
use Rattle.px_machine.specs.Standing.{head_target, targets_of, FitsDefinition}
use Rattle.px_compile.specs.Layout.{Part, code_step, term_code, placed, definition_parts, definition_code, program_code}
use Rattle.px_compile.proofs.Steps.{Ends, at, leads_on, does_return, does_end}
use Rattle.px_compile.proofs.Laid.{lies, all_terms_lie}
use Rattle.px_compile.proofs.Pushing.{Pushes, PushAll, Answers, local_pushes, bound_local_pushes, lit_pushes, none_push, more_push, con_pushes, call_pushes, match_pushes}
use Rattle.px_compile.proofs.Typed.{Setting, Around, FitsCall, CallFits, ArmTyped, arm_typed, chosen_is, own_setting, free_in, bound_in, lit_in, con_in, fields_are_many, around_arm, all_passed_fit, call_fits}

-- what a head stands for, as a target
target_means : (ts : List Ty) (gs : List Fun) (f g : Fun) (h : Head) → meant_function ts gs f h ≡ Some g → f.head ≡ h →
    meant_target (targets_of gs) (head_target h) ≡ Some (head_target g.head)
target_means ts gs f g (Def n) means is = let e : fun_with_types ts f ≡ g = one_item _ g means in ap (λ (h : Head). Some (head_target h)) (sym is ∙ ap (λ (g : Fun). g.head) e)
target_means ts gs f g Wle means is = let e : fun_with_types ts f ≡ g = one_item _ g means in ap (λ (h : Head). Some (head_target h)) (sym is ∙ ap (λ (g : Fun). g.head) e)
target_means ts gs f g Weq means is = let e : fun_with_types ts f ≡ g = one_item _ g means in ap (λ (h : Head). Some (head_target h)) (sym is ∙ ap (λ (g : Fun). g.head) e)
target_means ts gs f g (FnVar n) means is =
    slice_get-map (λ (f : Fun). head_target f.head) gs n ∙ ap (option_map (λ (f : Fun). head_target f.head)) means

targets_mean : (ts : List Ty) (gs fs hs : List Fun) → FunsMean ts gs fs hs → meant_targets (targets_of gs) (targets_of fs) ≡ Some (targets_of hs)
targets_mean ts gs [] [] mean = refl
targets_mean ts gs [] (h ∷ hs) mean = absurd mean
targets_mean ts gs (f ∷ fs) [] mean = absurd mean
targets_mean ts gs (f ∷ fs) (h ∷ hs) mean =
    let first : meant_target (targets_of gs) (head_target f.head) ≡ Some (head_target h.head) = target_means ts gs f h f.head mean.0 refl in
    let others : meant_targets (targets_of gs) (targets_of fs) ≡ Some (targets_of hs) = targets_mean ts gs fs hs mean.1 in
    ap (option_and_then (λ (u : CallTarget). option_map (λ (us : List CallTarget). u ∷ us) (meant_targets (targets_of gs) (targets_of fs)))) first
    ∙ ap (option_map (λ (us : List CallTarget). head_target h.head ∷ us)) others

-- a value of the bound variables among the locals
behind_last : {A : Type 0} (xs ys : List A) (n : ℕ) (x : A) → slice_get ys n ≡ Some x → slice_get (xs ++ reverse ys) (length (xs ++ reverse ys) - n - 1) ≡ Some x
behind_last xs [] n x is = absurd (cc)
behind_last xs (y ∷ ys) zero x is =
    let whole : xs ++ reverse (y ∷ ys) ≡ (xs ++ reverse ys) ++ y ∷ [] = ap (λ zs. xs ++ zs) (reverse-append (y ∷ []) ys) ∙ sym (append_assoc xs (reverse ys) (y ∷ [])) in
    let long : length (xs ++ reverse (y ∷ ys)) ≡ length (xs ++ reverse ys) + 1 = ap length whole ∙ length-append (xs ++ reverse ys) (y ∷ []) in
    let place : length (xs ++ reverse (y ∷ ys)) - zero - 1 ≡ length (xs ++ reverse ys) = omega (arith, long) in
    ap (λ zs. slice_get zs (length (xs ++ reverse (y ∷ ys)) - zero - 1)) whole ∙ ap (slice_get ((xs ++ reverse ys) ++ y ∷ [])) place ∙ last (xs ++ reverse ys) y ∙ is
  where
    last : {A : Type 0} (xs : List A) (y : A) → slice_get (xs ++ y ∷ []) (length xs) ≡ Some y
    last [] y = refl
    last (x ∷ xs) y = last xs y
behind_last xs (y ∷ ys) (suc n) x is =
    let front = xs ++ reverse ys in
    let whole : xs ++ reverse (y ∷ ys) ≡ front ++ y ∷ [] = ap (λ zs. xs ++ zs) (reverse-append (y ∷ []) ys) ∙ sym (append_assoc xs (reverse ys) (y ∷ [])) in
    let long : length (xs ++ reverse (y ∷ ys)) ≡ length front + 1 = ap length whole ∙ length-append front (y ∷ []) in
    let place : length (xs ++ reverse (y ∷ ys)) - suc n - 1 ≡ length front - n - 1 = omega (arith, long) in
    ap (λ zs. slice_get zs (length (xs ++ reverse (y ∷ ys)) - suc n - 1)) whole ∙ ap (slice_get (front ++ y ∷ [])) place
    ∙ longer front (y ∷ []) (length front - n - 1) x (behind_last xs ys n x is)
  where
    longer : {A : Type 0} (xs ys : List A) (n : ℕ) (x : A) → slice_get xs n ≡ Some x → slice_get (xs ++ ys) n ≡ Some x
    longer [] ys n x is = absurd (cc)
    longer (z ∷ xs) ys zero x is = is
    longer (z ∷ xs) ys (suc n) x is = longer xs ys n x is

-- a value of the parameters among the locals
in_front : {A : Type 0} (xs ys : List A) (n : ℕ) (x : A) → slice_get xs n ≡ Some x → slice_get (xs ++ ys) n ≡ Some x
in_front [] ys n x is = absurd (cc)
in_front (z ∷ xs) ys zero x is = is
in_front (z ∷ xs) ys (suc n) x is = in_front xs ys n x is

-- the locals of an arm
arm_locals : (rho inner vs : List Value) → rho ++ reverse (bind vs inner) ≡ (rho ++ reverse inner) ++ vs
arm_locals rho inner vs =
    ap (λ (xs : List Value). rho ++ xs) (reverse-append (reverse vs) inner ∙ ap (λ (xs : List Value). reverse inner ++ xs) (reverse-reverse vs))
    ∙ sym (append_assoc rho (reverse inner) vs)

-- The part pushes the value, which is in the type.
pub record Simulated (code : Code) (P : Program) (ts : List Ty) (gs : List Fun) (locals : List Value) (part : Part) (T : Ty) (v : Value) (count : ℕ) : Type 0 where
  pub in_type : IsIn P (ty_instance ts T) v
  pub pushes : Pushes code (targets_of gs) locals part v count

-- The parts push the values, which are in the types.
pub record AllSimulated (code : Code) (P : Program) (ts : List Ty) (gs : List Fun) (locals : List Value) (parts : List Part) (types : List Ty) (vs : List Value) (count : ℕ) : Type 0 where
  pub in_types : AreIn P (tys_instance ts types) vs
  pub push : PushAll code (targets_of gs) locals parts vs count

-- a layer's code, over the code of its parts
abbrev layer_code : Program → Term-F Term → Part
layer_code P y = code_step P (map-Term Term Part (term_code P) y)

layer_code_is : (P : Program) (t : Term) → term_code P t ≡ layer_code P (out-Term t)
layer_code_is P t = fold_out-Term Part (code_step P) t

of_layer : {code : Code} {P : Program} {ts : List Ty} {gs : List Fun} {locals : List Value} {T : Ty} {v : Value} {c : ℕ} (t : Term) →
    Simulated code P ts gs locals (layer_code P (out-Term t)) T v c → Simulated code P ts gs locals (term_code P t) T v c
of_layer {code = code} {P = P} {ts = ts} {gs = gs} {locals = locals} {T = T} {v = v} {c = c} t s =
    subst (λ (part : Part). Simulated code P ts gs locals part T v c) (sym (layer_code_is P t)) s

-- two words are compared
compares : (test : ℕ → ℕ → Bool) (a b v : Value) (x y : ℕ) → out-Value a ≡ Value-F.Lit x → out-Value b ≡ Value-F.Lit y → v ≡ truth (test x y) →
    compared test (a ∷ b ∷ []) ≡ Some v
compares test a b v x y left right is =
    ap (λ (layer : Value-F Value). option_and_then (λ (x : ℕ). option_map (λ (y : ℕ). truth (test x y)) (word_of (out-Value b))) (word_of layer)) left
    ∙ ap (λ (layer : Value-F Value). option_map (λ (y : ℕ). truth (test x y)) (word_of layer)) right
    ∙ ap (λ (v : Value). Some v) (sym is)

module _ (P : Program) (founded : IsWellFounded P) (code : Code) (is_code : code.defs ≡ program_code P) where
  found_code : (n : ℕ) (D : definition.Def) → slice_get P.defs n ≡ Some D → slice_get code.defs n ≡ Some (placed (definition_parts P D))
  found_code n D found =
      ap (λ (ds : List (List Instr)). slice_get ds n) is_code ∙ slice_get-map (definition_code P) P.defs n ∙ ap (option_map (definition_code P)) found

  -- What a definition's body does from its first instruction on.
  record BodyRuns (n : ℕ) (funs : List CallTarget) (vs : List Value) (v : Value) (count : ℕ) : Type 0 where
    whole : List Instr
    found : slice_get code.defs n ≡ Some (placed whole)
    ends : Ends whole (Return ∷ [])
    run : (callers : List Frame) (calls : ℕ) →
        Leads code (runs (entry n funs vs) callers calls) (at code n whole found funs vs (v ∷ []) (Return ∷ []) callers (calls + count))

  body_runs : (n : ℕ) (types : List Ty) (funs : List Fun) (vs : List Value) (v : Value) (b : ℕ) (fits : FitsDefinition P n types funs vs) →
      Pushes code (targets_of funs) vs (term_code P fits.def.body) v b → BodyRuns n (targets_of funs) vs v b
  body_runs n types funs vs v b fits pushes =
      let D = fits.def in
      let whole : List Instr = definition_parts P D in
      let found = found_code n D fits.is_def in
      let long : length D.params ≡ length vs = sym (length-map D.params (ty_instance types)) ∙ as_many P fits.values_fit in
      let whole_is : whole ≡ term_code P D.body (length vs) (Return ∷ []) = ap (λ (n : ℕ). term_code P D.body n (Return ∷ [])) long in
      let start : 0 ≡ length whole - length whole = omega arith in
      record {
        whole = whole;
        found = found;
        ends = (lies P D.body).front (length D.params) (Return ∷ []);
        run = λ callers calls.
            let run = pushes.run n whole found (Return ∷ []) (record { front = []; is = whole_is }) [] callers calls in
            let place : length whole - length (term_code P D.body (length vs) (Return ∷ [])) ≡ 0 = ap (λ (w : List Instr). length whole - length w) (sym whole_is) ∙ sym start in
            subst (λ (p : ℕ). Leads code (runs (record { def = n; place = p; funs = targets_of funs; locals = vs; stack = [] }) callers calls)
            (at code n whole found (targets_of funs) vs (v ∷ []) (Return ∷ []) callers (calls + b))) place run;
      }

  -- a definition that is called
  defined_answers : (n : ℕ) (funs : List CallTarget) (vs : List Value) (v : Value) (b c : ℕ) → BodyRuns n funs vs v b → b + 1 ≡ c →
      Answers code (target.Def n) funs vs v c
  defined_answers n funs vs v b c body total = record {
    begins = λ F callers calls. runs (entry n funs vs) (F ∷ callers) (calls + 1);
    is_called = λ F callers calls. refl;
    run = λ F callers calls.
        let sum : (calls + 1) + b ≡ calls + c = omega (arith, total) in
        subst (λ (n' : ℕ). Leads code (runs (entry n funs vs) (F ∷ callers) (calls + 1)) (runs (record F { stack = v ∷ F.stack }) callers n')) sum
        (leads_on (body.run (F ∷ callers) (calls + 1)) (does_return code n body.whole body.found funs v vs [] F callers ((calls + 1) + b) body.ends));
  }

  bound_pushes : (gs : List Fun) (locals : List Value) (n : ℕ) (v : Value) → slice_get locals (length locals - n - 1) ≡ Some v →
      Pushes code (targets_of gs) locals (layer_code P (Term-F.Bound n)) v 0
  bound_pushes gs locals n v is = bound_local_pushes code (targets_of gs) locals n v is

  -- the body that is found is that of the definition
  same_body : (n : ℕ) (types : List Ty) (funs : List Fun) (vs : List Value) (body : Term) (fits : FitsDefinition P n types funs vs) → body_of P n ≡ Some body →
      fits.def.body ≡ body
  same_body n types funs vs body fits found =
      one_item fits.def.body body (sym (ap (option_map (λ (d : definition.Def). d.body)) fits.is_def) ∙ found)

  body_typed : (n : ℕ) (types : List Ty) (funs : List Fun) (vs : List Value) (body : Term) (fits : FitsDefinition P n types funs vs) → body_of P n ≡ Some body →
      HasTypeLayer P (in_body n) (own_context fits.def) [] (out-Term body) fits.def.result
  body_typed n types funs vs body fits found =
      subst (λ (t : Term). HasTypeLayer P (in_body n) (own_context fits.def) [] (out-Term t) fits.def.result) (same_body n types funs vs body fits found)
      (founded.typed.defs n fits.def fits.is_def).body

  -- a body has no pattern variables around it
  nothing_around : {context : Context} {ts : List Ty} → Around P context ts [] []
  nothing_around = record { are_types = typing.none; are_in = values.none }

  body_pushed : (n : ℕ) (types : List Ty) (funs : List Fun) (vs : List Value) (body : Term) (v : Value) (b : ℕ) (fits : FitsDefinition P n types funs vs) →
      body_of P n ≡ Some body → Simulated code P types funs (vs ++ reverse []) (layer_code P (out-Term body)) fits.def.result v b →
      BodyRuns n (targets_of funs) vs v b
  body_pushed n types funs vs body v b fits found run =
      body_runs n types funs vs v b fits
      (subst₂ (λ (locals : List Value) (t : Term). Pushes code (targets_of funs) locals (term_code P t) v b) (append-nil vs)
      (sym (same_body n types funs vs body fits found)) (of_layer body run).pushes)

  -- a built-in that is called
  built_in_answers : (t : CallTarget) (funs : List CallTarget) (test : ℕ → ℕ → Bool) (a b v : Value) → compared test (a ∷ b ∷ []) ≡ Some v →
      ((F : Frame) (callers : List Frame) (calls : ℕ) → called t funs (a ∷ b ∷ []) F callers calls
      ≡ option_map (λ (v : Value). runs (record F { stack = v ∷ F.stack }) callers calls) (compared test (a ∷ b ∷ []))) →
      Answers code t funs (a ∷ b ∷ []) v 0
  built_in_answers t funs test a b v is calls_it = record {
    begins = λ F callers calls. runs (record F { stack = v ∷ F.stack }) callers calls;
    is_called = λ F callers calls. calls_it F callers calls ∙ ap (option_map (λ (v : Value). runs (record F { stack = v ∷ F.stack }) callers calls)) is;
    run = λ F callers calls.
        let same : calls ≡ calls + 0 = omega arith in
        subst (λ (n : ℕ). Leads code (runs (record F { stack = v ∷ F.stack }) callers calls) (runs (record F { stack = v ∷ F.stack }) callers n)) same here;
  }

  mutual
    layer_runs : {place : Place} {context : Context} {ts : List Ty} {gs : List Fun} {rho : List Value} {bts : List Ty} {inner : List Value} {y : Term-F Term} {T : Ty} {v : Value} {c : ℕ} →
        Setting P context ts gs rho → Around P context ts bts inner → HasTypeLayer P place context bts y T → MeansOf P ts gs rho inner y v c →
        Simulated code P ts gs (rho ++ reverse inner) (layer_code P y) T v c
    layer_runs {context = context} {ts = ts} {gs = gs} {rho = rho} {inner = inner} setting around (typing.free {n = n} {T = T} there met) (free {v = v} is) = record {
      in_type = free_in P founded context ts gs rho setting n T v there is;
      pushes = local_pushes code (targets_of gs) (rho ++ reverse inner) (layer_code P (Term-F.Free n)) n v refl (in_front rho (reverse inner) n v is);
    }
    layer_runs {context = context} {ts = ts} {gs = gs} {rho = rho} {bts = bts} {inner = inner} setting around (typing.bound {n = n} {T = T} there met) (bound {v = v} is) = record {
      in_type = bound_in P founded context ts gs rho setting bts inner n T v around there is;
      pushes = bound_pushes gs (rho ++ reverse inner) n v (behind_last rho inner n v is);
    }
    layer_runs {context = context} {ts = ts} {gs = gs} {rho = rho} {inner = inner} setting around (typing.lit {w = w} {T = T} small e) (lit {v = v} is) = record {
      in_type = lit_in P founded context ts gs rho setting w T v small e is;
      pushes = subst (λ (v : Value). Pushes code (targets_of gs) (rho ++ reverse inner) (layer_code P (Term-F.Lit w)) v 0) (sym is)
          (lit_pushes code (targets_of gs) (rho ++ reverse inner) w);
    }
    layer_runs {context = context} {ts = ts} {gs = gs} {rho = rho} {inner = inner} setting around
        (typing.con {d = d} {k = k} {types = types} {fields = fields} {T = T} {c = constructor} found is e met have) (con {vs = vs} {v = v} {c = c} mean v_is) =
        let all = terms_run setting around have mean in
        record {
          in_type = con_in P founded context ts gs rho setting d k types T constructor vs v found is e all.in_types v_is;
          pushes = subst (λ (v : Value). Pushes code (targets_of gs) (rho ++ reverse inner) (layer_code P (Term-F.Con d k types fields)) v c) (sym v_is)
              (con_pushes code (targets_of gs) (rho ++ reverse inner) d k (map (term_code P) fields) vs c (all_terms_lie P fields) all.push);
        }
    layer_runs {place = place} {context = context} {ts = ts} {gs = gs} {rho = rho} {inner = inner} setting around
        (typing.call {f = f} {funs = fs} {args = args} {takes = takes} {params = params} {T = T} function may small met passed have)
        (call {g = g} {gs = hs} {vs = vs} {v = v} {a = a} {b = b} {c = c} mean fun_means funs_mean gives total) =
        let all = terms_run setting around have mean in
        let fit = all_passed_fit P founded context ts gs rho setting place hs passed funs_mean in
        let it : CallFits P founded context ts gs rho setting g hs vs T = call_fits P founded context ts gs rho setting hs vs function fun_means fit all.in_types in
        record {
          in_type = it.in_type v b gives;
          pushes =
              call_pushes code (targets_of gs) (rho ++ reverse inner) (head_target f.head) (head_target g.head) (targets_of fs) (targets_of hs) (map (term_code P) args) vs v a b c
              (all_terms_lie P args) all.push (target_means ts gs f g f.head fun_means refl) (targets_mean ts gs fs hs funs_mean) (call_runs it.fits gives) total;
        }
    layer_runs {place = place} {context = context} {ts = ts} {gs = gs} {rho = rho} {bts = bts} {inner = inner} setting around
        (typing.choose {on = on} {d = d} {types = types} {arms = arms} {T = T} {U = U} {D = D} on_typed U_is found arms_typed)
        (choose {u = u} {arm = arm} {vs = vs} {v = v} {a = a} {b = b} {c = c} on_means chooses arm_means total) =
        let on_runs = of_layer on (layer_runs setting around on_typed on_means) in
        let is_built : IsBuilt P u d (tys_instance ts types) =
        built P u d (tys_instance ts types) (ty_instance ts U) (ap (ty_instance ts) U_is ∙ ty_instance-Con ts d types) on_runs.in_type in
        let U_type : IsType P context.tparams U = type_of P founded.typed place context setting.is_context on_typed around.are_types in
        let stands = sym (constructor_of P d is_built.k D found) ∙ is_built.found in
        let typed : ArmTyped P place context bts types is_built.c arms is_built.k T = arm_typed P place context is_built.k is_built.c arms_typed stands in
        let chosen = chosen_is arms (out-Value u) d is_built.k is_built.fields vs arm is_built.is chooses in
        let one : typed.body ≡ arm = one_item typed.body arm (sym typed.stands ∙ chosen.0) in
        let in_fields : AreIn P (tys_instance (tys_instance ts types) is_built.c.fields) vs =
        subst (AreIn P (tys_instance (tys_instance ts types) is_built.c.fields)) (sym chosen.1) is_built.are_in in
        let arm_around = around_arm P founded context ts gs rho setting d is_built.k types bts U is_built.c vs inner is_built.found U_type U_is in_fields around in
        let arm_runs = of_layer arm (layer_runs setting arm_around (subst (λ (t : Term). HasTypeLayer P place context (reverse (tys_instance types is_built.c.fields) ++ bts) (out-Term t) T) one typed.typed) arm_means) in
        record {
          in_type = arm_runs.in_type;
          pushes =
              match_pushes code (targets_of gs) (rho ++ reverse inner) P d d is_built.k (term_code P on) (map (term_code P) arms) (term_code P arm) u v vs a b c
              (lies P on) (lies P arm) (all_terms_lie P arms) on_runs.pushes (is_built.is ∙ ap (λ (fields : List Value). Value-F.Con d is_built.k fields) (sym chosen.1))
              (slice_get-map (term_code P) arms is_built.k ∙ ap (option_map (term_code P)) chosen.0)
              (fields_are_many P founded context ts gs rho setting d is_built.k (tys_instance ts types) is_built.c vs is_built.found in_fields)
              (subst (λ (locals : List Value). Pushes code (targets_of gs) locals (term_code P arm) v b) (arm_locals rho inner vs) arm_runs.pushes) total;
        }

    terms_run : {place : Place} {context : Context} {ts : List Ty} {gs : List Fun} {rho : List Value} {bts : List Ty} {inner : List Value} {terms : List Term} {types : List Ty} {vs : List Value} {c : ℕ} →
        Setting P context ts gs rho → Around P context ts bts inner → HaveTypes P place context bts terms types → MeanAll P ts gs rho inner terms vs c →
        AllSimulated code P ts gs (rho ++ reverse inner) (map (term_code P) terms) types vs c
    terms_run {gs = gs} {rho = rho} {inner = inner} setting around typing.none none = record { in_types = values.none; push = none_push code (targets_of gs) (rho ++ reverse inner) }
    terms_run {gs = gs} {rho = rho} {inner = inner} setting around (typing.more {t = t} {ts = terms} has have) (more {v = v} {vs = vs} {a = a} {b = b} {c = c} means mean total) =
        let first = of_layer t (layer_runs setting around has means) in
        let others = terms_run setting around have mean in
        record {
          in_types = values.more first.in_type others.in_types;
          push = more_push code (targets_of gs) (rho ++ reverse inner) (term_code P t) (map (term_code P) terms) v vs a b c (lies P t) first.pushes others.push total;
        }

    call_runs : {g : Fun} {hs : List Fun} {vs : List Value} {v : Value} {b : ℕ} → FitsCall P g.head g.types hs vs → Gives P g hs vs v b →
        Answers code (head_target g.head) (targets_of hs) vs v b
    call_runs fits (defined {n = n} {types = types} {funs = funs} {vs = vs} {body = body} {v = v} {b = b} {c = c} found means total) =
        let run = layer_runs (own_setting P founded n types funs vs fits) nothing_around (body_typed n types funs vs body fits found) means in
        defined_answers n (targets_of funs) vs v b c (body_pushed n types funs vs body v b fits found run) total
    call_runs {hs = hs} fits (at_most {a = a} {b = b} {v = v} {x = x} {y = y} left right is) = built_in_answers target.Wle (targets_of hs) nat_le a b v (compares nat_le a b v x y left right is) (λ F callers calls. refl)
    call_runs {hs = hs} fits (equal {a = a} {b = b} {v = v} {x = x} {y = y} left right is) = built_in_answers target.Weq (targets_of hs) (λ x y. x == y) a b v (compares (λ x y. x == y) a b v x y left right is) (λ F callers calls. refl)

  -- what a definition means, its run gives
  pub run_gives : (n : ℕ) (types : List Ty) (funs : List Fun) (vs : List Value) (v : Value) (c : ℕ) → FitsDefinition P n types funs vs →
      Gives P (record { head = Def n; types = types }) funs vs v c → RunGives code n (targets_of funs) vs v c
  run_gives n types funs vs v c fits given =
      let of = gift_rests_on P (record { head = Def n; types = types }) funs vs v c given in
      let setting = own_setting P founded n types funs vs fits in
      let typed = body_typed n types funs vs of.body fits of.found in
      let body = body_pushed n types funs vs of.body v of.b fits of.found (layer_runs setting nothing_around typed of.means) in
      let sum : 1 + of.b ≡ c = omega (arith, of.total) in
      subst (λ (n' : ℕ). Leads code (runs (entry n (targets_of funs) vs) [] 1) (ended v n')) sum
      (leads_on (body.run [] 1) (does_end code n body.whole body.found (targets_of funs) v vs [] (1 + of.b) body.ends))
