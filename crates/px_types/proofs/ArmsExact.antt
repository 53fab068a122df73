-- Each arm of a match is found exactly as the rules say, at the slots before it.
use Rattle.std.proofs.Common.{◌≡◌, ℕ, Bool, true, false, List, [], ◌∷◌, ◌++◌, length, reverse, Option, Some, None, refl, sym, ◌∙◌, ap, Decides, arith}
use Rattle.std.specs.Prelude.{◌==◌, slice_get, slice_set, if◌then◌else◌}
use Rattle.std.specs.List.{All}
use Rattle.std.specs.Option.{IsSomeAnd, option_and_then}
use Rattle.std.proofs.lemmas.Bool.{false≢true}
use Rattle.std.proofs.lemmas.Bool.Decides.{Decides-eqb}
use Rattle.std.proofs.lemmas.List.{length-map}
use Rattle.std.proofs.lemmas.List.Elements.{All-nil, All-cons, All-head, All-tail}
use Rattle.px_base.specs.declared.raw.RawKind.{out-RawKind}
use Rattle.px_base.specs.declared.raw.RawArm.{RawArm}
use Rattle.px_terms.specs.declared.types.Ty.{Ty}
use Rattle.px_terms.specs.declared.term.Term.{Term}
use Rattle.px_terms.specs.declared.program.ConDef.{ConDef}
use Rattle.px_terms.specs.Types.{ty_instance, tys_instance}
use Rattle.px_terms.specs.Programs.{constructor_at}
use Rattle.px_terms.specs.Typing.{IsMet}
use Rattle.px_types.specs.declared.ends.TypeKind.TheVariants.{Mismatch, Arity, ArmRepeated, Oversize}
use Rattle.px_types.specs.declared.typed.Slots.{Slots}
use Rattle.px_types.specs.Written.{HasPattern}
use Rattle.px_types.specs.Faults.{Broken, breaks, Env, IsTyped, Breaks, BreaksVariables, Agrees}
use Rattle.px_types.specs.Faults as faults
use Rattle.px_types.specs.Outcomes.{each_two}
use Rattle.px_types.specs.Outcome.{part_of, term_found, Chosen, pattern_of, is_open, agrees, variable_met, arm_found}
use Rattle.px_types.proofs.Exact.{Exact, Both, Either, first, later, exact_as, exact_at, exact_ok, exact_needs, exact_there, exact_then, Every, AllTwo, OneOfTwo, exact_each_two}
use Rattle.px_types.proofs.Exact as exact
use Rattle.px_types.proofs.Sameness.{decides_same}
use Rattle.px_types.proofs.Functions.{decides_met}
use Rattle.px_types.proofs.TermShapes.{arm_part, part_at}
use Rattle.px_types.proofs.TermsExact.{TermIsExact}
use Rattle.px_types.proofs.SlotLemmas.{one_some, some_none}

-- The tests of an arm.
decides_open : (s : Slots) (k : ℕ) → Decides (is_open s k) (slice_get s.bodies k ≡ Some None)
unfolding is_open
decides_open s k = go (slice_get s.bodies k) refl
  where
    go : (o : Option (Option Term)) → slice_get s.bodies k ≡ o → Decides (is_open s k) (slice_get s.bodies k ≡ Some None)
    go None e = (λ h. absurd (false≢true (rw e at h)), λ h. absurd (some_none None (sym h ∙ e)))
    go (Some None) e = (λ h. e, λ h. rw e refl)
    go (Some (Some t)) e = (λ h. absurd (false≢true (rw e at h)), λ h. absurd (some_none t (one_some (sym e ∙ h))))

decides_agrees : (o : Option Ty) (T : Ty) → Decides (agrees o T) (Agrees o T)
unfolding agrees
decides_agrees None T = (λ h. tt, λ h. refl)
decides_agrees (Some U) T = decides_same T U

-- The constructor of a pattern.
module _ (E : Env) (arm : RawArm) where
  -- A pattern that has as many variables as its constructor has fields.
  pub record PatternIs (c : ConDef) : Type 0 where
    pub stands : constructor_at E.program arm.datatype arm.con ≡ Some c
    pub count : length arm.vars ≡ length c.fields

  if_some : (b : Bool) (c d : ConDef) → ◌≡◌ {A = Option ConDef} (if b then Some c else None) (Some d) → (b ≡ true) × (c ≡ d)
  if_some true c d e = (refl, one_some e)
  if_some false c d e = absurd (some_none d (sym e))

  pub pattern_some : (c : ConDef) → pattern_of E.program (arm_part E arm) ≡ Some c → PatternIs c
  unfolding pattern_of arm_part
  pattern_some c e = go (constructor_at E.program arm.datatype arm.con) refl e
    where
      go : (o : Option ConDef) → constructor_at E.program arm.datatype arm.con ≡ o → ◌≡◌ {A = Option ConDef} (option_and_then (λ (c : ConDef). if length arm.vars == length c.fields then Some c else None) o) (Some c) → PatternIs c
      go None stands e = absurd (some_none c (sym e))
      go (Some d) stands e =
          let both = if_some (length arm.vars == length d.fields) d c e in
          record { stands = stands ∙ ap Some both.1; count = (Decides-eqb (length arm.vars) (length d.fields)).0 both.0 ∙ ap (λ (x : ConDef). length x.fields) both.1 }

  pub pattern_made : (c : ConDef) → PatternIs c → pattern_of E.program (arm_part E arm) ≡ Some c
  unfolding pattern_of arm_part
  pattern_made c is = rw (is.stands, (Decides-eqb (length arm.vars) (length c.fields)).1 is.count) refl

  pub has_pattern : (c : ConDef) → PatternIs c → HasPattern E.program arm
  has_pattern c is = rw is.stands is.count

  pub pattern_there : HasPattern E.program arm → (c : ConDef) × PatternIs c
  pattern_there has = go (constructor_at E.program arm.datatype arm.con) refl has
    where
      go : (o : Option ConDef) → constructor_at E.program arm.datatype arm.con ≡ o → IsSomeAnd o (λ (c : ConDef). length arm.vars ≡ length c.fields) → (c : ConDef) × PatternIs c
      go None stands has = absurd has
      go (Some c) stands has = (c, record { stands = stands; count = has })

-- The variables of a pattern.
module _ (E : Env) where
  -- a variable's type is within the limits
  abbrev pub VariableIs : ℕ → Ty → Unit {0} → Type 0
  VariableIs at T nothing = IsMet E.place T

  -- or it isn't
  abbrev pub VariableBreaks : ℕ → Ty → Broken → Type 0
  VariableBreaks at T b = (IsMet E.place T → ⊥) × (b ≡ breaks Oversize at)

  every_variable : (vars : List ℕ) → Every (λ (at : ℕ). (T : Ty) → Exact (variable_met E at T) (VariableIs at T) (VariableBreaks at T)) vars
  unfolding variable_met
  every_variable [] = tt
  every_variable (at ∷ vars) = (λ T. exact_needs _ Oversize at (decides_met E.place T), every_variable vars)

  pub exact_variables : (vars : List ℕ) (fields : List Ty) → length vars ≡ length fields → Exact (each_two (variable_met E) vars fields) (AllTwo VariableIs vars fields) (BreaksVariables E vars fields)
  exact_variables vars fields same = exact_as (exact_each_two (variable_met E) VariableIs VariableBreaks vars fields same (every_variable vars)) (λ us h. h) (λ us h. h) (λ b h. to h) (λ b h. from h)
    where
      to : {vars : List ℕ} {fields : List Ty} {b : Broken} → OneOfTwo VariableIs VariableBreaks vars fields b → BreaksVariables E vars fields b
      to (exact.here br) = faults.here br.0 br.1
      to (exact.behind met br) = faults.later met (to br)

      from : {vars : List ℕ} {fields : List Ty} {b : Broken} → BreaksVariables E vars fields b → OneOfTwo VariableIs VariableBreaks vars fields b
      from (faults.here over e) = exact.here (over, e)
      from (faults.later met br) = exact.behind {y = tt} met (from br)

  pub variables_met : {vars : List ℕ} {fields : List Ty} {us : List (Unit {0})} → AllTwo VariableIs vars fields us → All (IsMet E.place) fields
  variables_met exact.none = All-nil (IsMet E.place)
  variables_met (exact.more {z = T} {zs = types} met all) = All-cons (IsMet E.place) T types met (variables_met all)

  pub met_variables : (vars : List ℕ) (fields : List Ty) → length vars ≡ length fields → All (IsMet E.place) fields → (us : List (Unit {0})) × AllTwo VariableIs vars fields us
  met_variables [] [] same all = ([], exact.none)
  met_variables [] (T ∷ types) same all = absurd (omega arith)
  met_variables (at ∷ vars) [] same all = absurd (omega arith)
  met_variables (at ∷ vars) (T ∷ types) same all =
      let rest = met_variables vars types (omega arith) (All-tail (IsMet E.place) T types all) in
      (tt ∷ rest.0, exact.more {y = tt} (All-head (IsMet E.place) T types all) rest.1)

-- What is found of an arm.
module _ (E : Env) (bound : List Ty) (on : Chosen) where
  -- the types of a constructor's fields
  abbrev pub fields_of : ConDef → List Ty
  fields_of c = tys_instance on.types c.fields

  -- the slots once this body is there
  abbrev pub filled : Slots → ℕ → Term → Ty → Slots
  filled s k t T = record { ty = Some T; bodies = slice_set s.bodies k (Some t) }

  -- The arm breaks no rule at these slots, and these are the slots after it.
  pub record ArmFound (s : Slots) (arm : RawArm) (u : Slots) : Type 0 where
    pub c : ConDef
    pub t : Term
    pub T : Ty
    pub pattern : PatternIs E arm c
    pub datatype : arm.datatype ≡ on.number
    pub opens : slice_get s.bodies arm.con ≡ Some None
    pub met : All (IsMet E.place) (fields_of c)
    pub typed : IsTyped E (reverse (fields_of c) ++ bound) (out-RawKind arm.body.kind) t T
    pub agree : Agrees s.ty T
    pub same : u ≡ filled s arm.con t T

  -- The first broken rule of an arm at these slots.
  pub data ArmBreaks (s : Slots) (arm : RawArm) (b : Broken) : Type 0 where
    miscounted : (HasPattern E.program arm → ⊥) → b ≡ breaks Arity arm.at → ArmBreaks s arm b
    elsewhere : {c : ConDef} → PatternIs E arm c → (arm.datatype ≡ on.number → ⊥) → b ≡ breaks Mismatch arm.at → ArmBreaks s arm b
    again : {c : ConDef} → PatternIs E arm c → arm.datatype ≡ on.number → (slice_get s.bodies arm.con ≡ Some None → ⊥) → b ≡ breaks ArmRepeated arm.at → ArmBreaks s arm b
    variable : {c : ConDef} → PatternIs E arm c → arm.datatype ≡ on.number → slice_get s.bodies arm.con ≡ Some None → BreaksVariables E arm.vars (fields_of c) b → ArmBreaks s arm b
    body : {c : ConDef} → PatternIs E arm c → arm.datatype ≡ on.number → slice_get s.bodies arm.con ≡ Some None → All (IsMet E.place) (fields_of c) → Breaks E (reverse (fields_of c) ++ bound) arm.body.at (out-RawKind arm.body.kind) b → ArmBreaks s arm b
    unlike : {c : ConDef} {t : Term} {T : Ty} → PatternIs E arm c → arm.datatype ≡ on.number → slice_get s.bodies arm.con ≡ Some None → All (IsMet E.place) (fields_of c) → IsTyped E (reverse (fields_of c) ++ bound) (out-RawKind arm.body.kind) t T → (Agrees s.ty T → ⊥) → b ≡ breaks Mismatch arm.body.at → ArmBreaks s arm b

  field_count : (arm : RawArm) (c : ConDef) → PatternIs E arm c → length arm.vars ≡ length (fields_of c)
  field_count arm c is = is.count ∙ sym (length-map c.fields (ty_instance on.types))

  pub exact_arm : (arm : RawArm) → TermIsExact E arm.body → (s : Slots) → Exact (arm_found E bound on s (arm_part E arm)) (ArmFound s arm) (ArmBreaks s arm)
  unfolding arm_found arm_part term_found
  exact_arm arm ih s = exact_as
      (exact_then (exact_there (pattern_of E.program (arm_part E arm)) Arity arm.at) (λ c pattern.
      exact_then (exact_needs _ Mismatch arm.at (Decides-eqb arm.datatype on.number)) (λ _ datatype.
      exact_then (exact_needs _ ArmRepeated arm.at (decides_open s arm.con)) (λ _ opens.
      exact_then (exact_variables E arm.vars (fields_of c) (field_count arm c (pattern_some E arm c pattern))) (λ us met.
      exact_then (ih (reverse (fields_of c) ++ bound)) (λ found typed.
      exact_then (exact_needs _ Mismatch (part_of E arm.body).at (decides_agrees s.ty found.ty)) (λ _ agree.
      exact_ok (filled s arm.con found.term found.ty))))))))
      (λ u both. let rest = both.after.after.after in record {
        c = both.x;
        t = rest.after.x.term;
        T = rest.after.x.ty;
        pattern = pattern_some E arm both.x both.is;
        datatype = both.after.is;
        opens = both.after.after.is;
        met = variables_met E rest.is;
        typed = rest.after.is;
        agree = rest.after.after.is;
        same = rest.after.after.after;
      })
      (λ u f. let us = met_variables E arm.vars (fields_of f.c) (field_count arm f.c f.pattern) f.met in record {
        x = f.c;
        is = pattern_made E arm f.c f.pattern;
        after = record {
          x = tt;
          is = f.datatype;
          after = record {
            x = tt;
            is = f.opens;
            after = record { x = us.0; is = us.1; after = record { x = record { term = f.t; ty = f.T }; is = f.typed; after = record { x = tt; is = f.agree; after = f.same } } };
          };
        };
      })
      (λ b h. elim h [
        | first nothing ↦ miscounted (λ has. let there = pattern_there E arm has in some_none there.0 (sym (pattern_made E arm there.0 there.1) ∙ nothing.0)) nothing.1
        | later c pattern h2 ↦ elim h2 [
          | first other ↦ elsewhere (pattern_some E arm c pattern) other.0 other.1
          | later _ datatype h3 ↦ elim h3 [
            | first closed ↦ again (pattern_some E arm c pattern) datatype closed.0 closed.1
            | later _ opens h4 ↦ elim h4 [
              | first br ↦ variable (pattern_some E arm c pattern) datatype opens br
              | later us met h5 ↦ elim h5 [
                | first br ↦ body (pattern_some E arm c pattern) datatype opens (variables_met E met) br
                | later found typed h6 ↦ elim h6 [
                  | first other ↦ unlike (pattern_some E arm c pattern) datatype opens (variables_met E met) typed other.0 (other.1 ∙ ap (breaks Mismatch) (part_at E arm.body))
                  | later _ agree nothing ↦ absurd nothing
                ]
              ]
            ]
          ]
        ]
      ])
      (λ b h. elim h [
        | miscounted wrong e ↦ first (no_pattern wrong, e)
        | elsewhere {c = c} pattern other e ↦ later c (pattern_made E arm c pattern) (first (other, e))
        | again {c = c} pattern datatype closed e ↦ later c (pattern_made E arm c pattern) (later tt datatype (first (closed, e)))
        | variable {c = c} pattern datatype opens br ↦ later c (pattern_made E arm c pattern) (later tt datatype (later tt opens (first br)))
        | body {c = c} pattern datatype opens met br ↦ let us = met_variables E arm.vars (fields_of c) (field_count arm c pattern) met in later c (pattern_made E arm c pattern) (later tt datatype (later tt opens (later us.0 us.1 (first br))))
        | unlike {c = c} {t = t} {T = T} pattern datatype opens met typed other e ↦ let us = met_variables E arm.vars (fields_of c) (field_count arm c pattern) met in later c (pattern_made E arm c pattern) (later tt datatype (later tt opens (later us.0 us.1 (later (record { term = t; ty = T }) typed (first (other, e ∙ ap (breaks Mismatch) (sym (part_at E arm.body))))))))
      ])
    where
      no_pattern : (HasPattern E.program arm → ⊥) → pattern_of E.program (arm_part E arm) ≡ None
      no_pattern wrong = go (pattern_of E.program (arm_part E arm)) refl
        where
          go : (o : Option ConDef) → pattern_of E.program (arm_part E arm) ≡ o → pattern_of E.program (arm_part E arm) ≡ None
          go None e = e
          go (Some c) e = absurd (wrong (has_pattern E arm c (pattern_some E arm c e)))
