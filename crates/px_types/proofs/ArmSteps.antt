-- The arms of a match, as the code types them.
use Rattle.std.proofs.Common.{◌≡◌, ◌↔◌, ℕ, ◌+◌, ◌-◌, ◌<◌, Bool, true, false, ◌==◌, IsTrue, List, [], ◌∷◌, ◌++◌, length, map, reverse, get_or, take}
use Rattle.std.proofs.Common.{MatchOption, Option, Some, None, Result, Ok, Err, refl, sym, ◌∙◌, ap, append_assoc, arith, add-one}
use Rattle.std.specs.Prelude.{slice_get, replicate}
use Rattle.std.specs.Option.{option_map}
use Rattle.std.proofs.Math.Seq.{take-append_seam, take-suc}
use Rattle.std.proofs.lemmas.Bool.Decides.{same_from_decides}
use Rattle.std.proofs.lemmas.List.{append-nil, reverse-append, reverse-reverse, length-append, length-take-le, map-append, take-take, replicate_more}
use Rattle.std.proofs.lemmas.Option.{slice_get_within}
use Rattle.px_base.specs.declared.raw.RawArm.{RawArm}
use Rattle.px_terms.specs.declared.types.Ty.{Ty, out-Ty}
use Rattle.px_terms.specs.declared.types.Ty.TheVariants as type
use Rattle.px_terms.specs.declared.term.Term.{Term}
use Rattle.px_terms.specs.declared.program.ConDef.{ConDef}
use Rattle.px_terms.specs.declared.program.DataDef.{DataDef}
use Rattle.px_terms.specs.declared.program.Program.{Program}
use Rattle.px_terms.specs.Types.{tys_instance}
use Rattle.px_types.specs.declared.ends.TypeEnd.{TypeEnd}
use Rattle.px_types.specs.declared.ends.TypeEnd.TheVariants.{Fault, NoMemory}
use Rattle.px_types.specs.declared.ends.TypeKind.{TypeKind}
use Rattle.px_types.specs.declared.ends.TypeKind.TheVariants.{Mismatch, Arity, ArmRepeated}
use Rattle.px_types.specs.declared.typed.Typed.{Typed}
use Rattle.px_types.specs.declared.typed.Slots.{Slots}
use Rattle.px_types.specs.Faults.{Broken, Env}
use Rattle.px_types.specs.Answers.{EndsAs}
use Rattle.px_types.specs.Outcomes.{onward, needs, there, each_two, along}
use Rattle.px_types.specs.Outcome.{part_of, term_found, Chosen, chosen_of, pattern_of, is_open, passes, agrees, same, variable_met, arm_found, all_filled}
use Rattle.px_types.specs.Envs.{arm_of, pattern_found, filled_found}
use Rattle.px_types.proofs.Sameness.{decides_same}
use Rattle.px_types.proofs.Stages.{stage, stage_fails}
use Rattle.px_types.proofs.TermShapes.{part_at}
use Rattle.px_types.proofs.TwoLoops.{along_made}

-- four stages and then the rest, grouped in two ways
three : {A B C D T : Type 0} (b : Result B Broken) (c : Result C Broken) (d : Result D Broken) (x : A) (g : A → Result T Broken) →
    onward (onward b (λ _. onward c (λ _. onward d (λ _. Ok x)))) g ≡ onward b (λ _. onward c (λ _. onward d (λ _. g x)))
unfolding onward
three (Err e) c d x g = refl
three (Ok y) (Err e) d x g = refl
three (Ok y) (Ok z) (Err e) x g = refl
three (Ok y) (Ok z) (Ok w) x g = refl

four : {A B C D T : Type 0} (a : Result A Broken) (b : A → Result B Broken) (c : A → Result C Broken) (d : A → Result D Broken) (g : A → Result T Broken) →
    onward (onward a (λ (x : A). onward (b x) (λ _. onward (c x) (λ _. onward (d x) (λ _. Ok x))))) g
    ≡ onward a (λ (x : A). onward (b x) (λ _. onward (c x) (λ _. onward (d x) (λ _. g x))))
unfolding onward
four (Err e) b c d g = refl
four (Ok x) b c d g = three (b x) (c x) (d x) x g

-- what is found of a written arm
unfoldable pub arm_here : Env → List Ty → Chosen → Slots → RawArm → Result Slots Broken
arm_here E bound on s raw = arm_found E bound on s (arm_of E raw)

-- An arm is its pattern, its body, and then what it adds to the arms so far.
module _ (E : Env) (bound : List Ty) (on : Chosen) (s : Slots) (raw : RawArm) where
  -- what is found of the body, in the scope of the pattern
  abbrev pub body_found : ConDef → Result Typed Broken
  body_found c = term_found E raw.body (reverse (tys_instance on.types c.fields) ++ bound)

  abbrev pub after_body : Typed → Result Slots Broken
  after_body found = filled_found s raw.body.at raw.con found

  abbrev pub after_pattern : ConDef → Result Slots Broken
  after_pattern c = onward (body_found c) after_body

  -- the same, where the body's place is that of what is found of it
  part_after : ℕ → ConDef → Result Slots Broken
  part_after place c = onward (body_found c) (λ (found : Typed). filled_found s place raw.con found)

  grouped : arm_found E bound on s (arm_of E raw) ≡ onward (pattern_found E on s (arm_of E raw)) (part_after (part_of E raw.body).at)
  unfolding arm_found arm_of pattern_found filled_found term_found part_after
  grouped =
      sym (four (there (pattern_of E.program (arm_of E raw)) Arity raw.at) (λ _. needs (raw.datatype == on.number) Mismatch raw.at)
      (λ _. needs (is_open s raw.con) ArmRepeated raw.at) (λ (c : ConDef). each_two (variable_met E) raw.vars (tys_instance on.types c.fields))
      (part_after (part_of E raw.body).at))

  pub arm_is : arm_found E bound on s (arm_of E raw) ≡ onward (pattern_found E on s (arm_of E raw)) after_pattern
  unfolding part_after
  arm_is = grouped ∙ ap (λ (place : ℕ). onward (pattern_found E on s (arm_of E raw)) (part_after place)) (part_at E raw.body)

  here_is : arm_here E bound on s raw ≡ onward (pattern_found E on s (arm_of E raw)) after_pattern
  unfolding arm_here
  here_is = arm_is

  -- an arm whose pattern has a fault
  pub pattern_fails : (end : TypeEnd) → EndsAs (pattern_found E on s (arm_of E raw)) end → EndsAs (arm_here E bound on s raw) end
  pattern_fails end h = stage_fails (pattern_found E on s (arm_of E raw)) after_pattern _ here_is end h

  module _ (c : ConDef) (pattern : pattern_found E on s (arm_of E raw) ≡ Ok c) where
    at_body : arm_here E bound on s raw ≡ after_pattern c
    at_body = stage (pattern_found E on s (arm_of E raw)) after_pattern here_is c pattern

    pub body_fails : (end : TypeEnd) → EndsAs (body_found c) end → EndsAs (arm_here E bound on s raw) end
    body_fails end h = stage_fails (body_found c) after_body _ at_body end h

    module _ (found : Typed) (body : body_found c ≡ Ok found) where
      at_end : arm_here E bound on s raw ≡ after_body found
      at_end = stage (body_found c) after_body at_body found body

      pub disagrees : (end : TypeEnd) → EndsAs (after_body found) end → EndsAs (arm_here E bound on s raw) end
      disagrees (Fault kind place) h = at_end ∙ h
      disagrees NoMemory h = tt

      pub arm_found_is : (t : Slots) → after_body found ≡ Ok t → arm_here E bound on s raw ≡ Ok t
      arm_found_is t h = at_end ∙ h

pub arms_here : (E : Env) (bound : List Ty) (on : Chosen) (s : Slots) (arms : List RawArm) →
    along (arm_found E bound on) s (map (arm_of E) arms) ≡ along (arm_here E bound on) s arms
unfolding arm_here
arms_here E bound on s arms = along_made (arm_found E bound on) (arm_of E) s arms

-- the types of a pattern's variables stand before those around it, the innermost first
pub around : (old now bound more : List Ty) → now ≡ old → bound ≡ now ++ more → reverse bound ≡ reverse more ++ reverse old
around old now bound more same e = rw (e, same) (reverse-append old more)

-- a constructor that has no arm yet is one of those that have slots
pub open_within : (slots : Slots) (k : ℕ) (b : Bool) → b ≡ is_open slots k → b ≡ true → k < length slots.bodies
unfolding is_open
open_within slots k b e t = go (slice_get slots.bodies k) refl (sym e ∙ t)
  where
    go : (o : Option (Option Term)) → slice_get slots.bodies k ≡ o → passes (λ (slot : Option Term). elim slot [ None ↦ true | Some t ↦ false ]) o ≡ true →
        k < length slots.bodies
    go None is h = absurd cc
    go (Some slot) is h = slice_get_within slots.bodies k slot is

pub need_true : (b : Bool) (kind : TypeKind) (at : ℕ) (u : Unit {0}) → needs b kind at ≡ Ok u → b ≡ true
unfolding needs
need_true true kind at u e = refl
need_true false kind at u e = absurd cc

pub agrees_is : (first T : Ty) (b : Bool) → (IsTrue b ↔ (T ≡ first)) → b ≡ agrees (Some first) T
unfolding agrees
agrees_is first T b h = same_from_decides b (same T first) h (decides_same T first)

-- the datatype of a scrutinee
pub chosen_is : (P : Program) (T : Ty) (d : ℕ) (types : List Ty) (D : DataDef) → T ≡ type.Con d types → slice_get P.datatypes d ≡ Some D →
    chosen_of P (out-Ty T) ≡ Some (record { number = d; types = types; datatype = D })
chosen_is P T d types D e stands = rw (e, type.outs-Con d types, stands) refl

pub chosen_none : (P : Program) (T : Ty) (d : ℕ) (types : List Ty) → T ≡ type.Con d types → slice_get P.datatypes d ≡ None → chosen_of P (out-Ty T) ≡ None
chosen_none P T d types e none = rw (e, type.outs-Con d types, none) refl

-- A stack that grew by some types, and shrinks by as many.
pub shrinks : (old more : List Ty) (bound : List Ty) (count : ℕ) → bound ≡ old ++ more → length more ≡ count → take (length bound - count) bound ≡ old
shrinks old more bound count e long =
    let left : length (old ++ more) - count ≡ length old = omega (arith, length-append old more, long) in
    rw (e, left) (take-append_seam old more)

pub popped : (first bound : List Ty) (i : ℕ) (T : Ty) (rest : List Ty) → bound ≡ rest ++ T ∷ [] → bound ≡ take (length first - i) first →
    rest ≡ take (length first - (i + 1)) first
popped first bound i T rest e before =
    let whole : length (take (length first - i) first) ≡ length first - i = length-take-le (length first - i) first (omega arith) in
    let parts : length (take (length first - i) first) ≡ length rest + 1 = ap length (sym before ∙ e) ∙ length-append rest (T ∷ []) in
    let long : length rest ≡ length first - (i + 1) = omega arith in
    let at_rest : take (length rest) (take (length first - i) first) ≡ rest = ap (take (length rest)) (sym before ∙ e) ∙ take-append_seam rest (T ∷ []) in
    let shorter : take (length rest) (take (length first - i) first) ≡ take (length rest) first = take-take (length rest) (length first - i) first (omega arith)
    in
    sym at_rest ∙ shorter ∙ ap (λ (n : ℕ). take n first) long

pub popped_none : (first bound : List Ty) (i : ℕ) (rest : List Ty) → bound ≡ [] → rest ≡ [] → bound ≡ take (length first - i) first →
    rest ≡ take (length first - (i + 1)) first
popped_none first bound i rest e none before =
    let whole : length (take (length first - i) first) ≡ length first - i = length-take-le (length first - i) first (omega arith) in
    let nothing : length (take (length first - i) first) ≡ 0 = ap length (sym before ∙ e) in
    let left : length first - (i + 1) ≡ 0 = omega arith in
    none ∙ rw left refl

-- and so it does whether or not a type was left
pub popped_any : (first bound rest : List Ty) (i : ℕ) (o : Option Ty) → MatchOption o ((bound ≡ []) × (rest ≡ [])) (λ (last : Ty). bound ≡ rest ++ last ∷ []) →
    bound ≡ take (length first - i) first → rest ≡ take (length first - (i + 1)) first
popped_any first bound rest i None h before = popped_none first bound i rest h.0 h.1 before
popped_any first bound rest i (Some T) h before = popped first bound i T rest h before

-- a stack that grows by the types of a list, as far as they were seen
pub bound_next : (f : Ty → Ty) (old bound more looked : List Ty) (i : ℕ) (T made : Ty) → i < length looked → T ≡ get_or looked i T → made ≡ f T →
    more ≡ bound ++ made ∷ [] → bound ≡ old ++ map f (take i looked) → more ≡ old ++ map f (take (i + 1) looked)
bound_next f old bound more looked i T made h is e pushed before =
    let longer : take (i + 1) looked ≡ take i looked ++ get_or looked i T ∷ [] = rw add-one (take-suc looked i T h) in
    let last : map f (take (i + 1) looked) ≡ map f (take i looked) ++ made ∷ [] = ap (map f) longer ∙ map-append f (take i looked) (get_or looked i T ∷ []) ∙ ap
    (λ (U : Ty). map f (take i looked) ++ U ∷ []) (ap f (sym is) ∙ sym e) in
    pushed ∙ ap (λ (ts : List Ty). ts ++ made ∷ []) before ∙ append_assoc old (map f (take i looked)) (made ∷ []) ∙ ap (λ (ts : List Ty). old ++ ts) (sym last)

-- so many slots without a body
pub one_slot_more : {X : Type 0} (n : ℕ) (x : X) (xs ys : List X) → xs ≡ replicate n x → ys ≡ xs ++ x ∷ [] → ys ≡ replicate (n + 1) x
one_slot_more n x xs ys e pushed = pushed ∙ ap (λ (zs : List _). zs ++ x ∷ []) e ∙ replicate_more n x

-- Slots that are turned round, one by one.
module _ (slots : List (Option Term)) where
  pub turn_start : (left turned : List (Option Term)) → left ≡ slots → turned ≡ [] → reverse slots ≡ turned ++ reverse left
  turn_start left turned e none = rw (e, none) refl

  pub turn_next : (left rest turned more : List (Option Term)) (slot : Option Term) → left ≡ rest ++ slot ∷ [] → more ≡ turned ++ slot ∷ [] →
      reverse slots ≡ turned ++ reverse left → reverse slots ≡ more ++ reverse rest
  turn_next left rest turned more slot e pushed before =
      before ∙ rw (e, reverse-append rest (slot ∷ []), pushed, append_assoc turned (slot ∷ []) (reverse rest)) refl

  pub turn_end : (left turned : List (Option Term)) → left ≡ [] → reverse slots ≡ turned ++ reverse left → turned ≡ reverse slots
  turn_end left turned e before = sym (before ∙ rw e (append-nil turned))

-- these bodies, and then those of the slots that are left
unfoldable pub with_rest : List Term → Option (List Term) → Option (List Term)
with_rest bodies rest = option_map (λ (ts : List Term). bodies ++ ts) rest

pub fill_start : (slots turned : List (Option Term)) (bodies : List Term) → turned ≡ reverse slots → bodies ≡ [] →
    with_rest bodies (all_filled (reverse turned)) ≡ all_filled slots
unfolding with_rest
fill_start slots turned bodies e none = rw (none, e, reverse-reverse slots) (same_option (all_filled slots))
  where
    same_option : (o : Option (List Term)) → option_map (λ (ts : List Term). [] ++ ts) o ≡ o
    same_option None = refl
    same_option (Some ts) = refl

pub fill_next : (slots turned rest : List (Option Term)) (bodies more : List Term) (slot : Option Term) (body : Term) → turned ≡ rest ++ slot ∷ [] →
    slot ≡ Some body → more ≡ bodies ++ body ∷ [] → with_rest bodies (all_filled (reverse turned)) ≡ all_filled slots →
    with_rest more (all_filled (reverse rest)) ≡ all_filled slots
unfolding with_rest all_filled
fill_next slots turned rest bodies more slot body e is pushed before =
    joined (all_filled (reverse rest)) ∙ (rw (e, reverse-append rest (slot ∷ []), is) at before)
  where
    joined : (o : Option (List Term)) →
        option_map (λ (ts : List Term). more ++ ts) o ≡ option_map (λ (ts : List Term). bodies ++ ts) (option_map (λ (ts : List Term). body ∷ ts) o)
    joined None = refl
    joined (Some ts) = ap Some (rw pushed (append_assoc bodies (body ∷ []) ts))

pub fill_fails : (slots turned rest : List (Option Term)) (bodies : List Term) (slot : Option Term) → turned ≡ rest ++ slot ∷ [] → slot ≡ None →
    with_rest bodies (all_filled (reverse turned)) ≡ all_filled slots → None ≡ all_filled slots
unfolding with_rest all_filled
fill_fails slots turned rest bodies slot e is before = rw (e, reverse-append rest (slot ∷ []), is) at before

pub fill_end : (slots turned : List (Option Term)) (bodies : List Term) → turned ≡ [] → with_rest bodies (all_filled (reverse turned)) ≡ all_filled slots →
    Some bodies ≡ all_filled slots
unfolding with_rest all_filled
fill_end slots turned bodies e before = ap Some (sym (append-nil bodies)) ∙ (rw e at before)
