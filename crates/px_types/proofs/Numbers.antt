-- The parts of a program that the declarations make can be numbered.
use Rattle.std.proofs.Common.{◌≡◌, ℕ, ◌+◌, ◌<◌, ◌≤◌, ◌^◌, List, [], ◌∷◌, ◌++◌, length, replicate, Some, refl, sym, ◌∙◌, ap, subst, arith, lit<}
use Rattle.std.specs.Prelude.{slice_get}
use Rattle.std.proofs.lemmas.List.{length-map, length-append, length-replicate}
use Rattle.px_base.specs.declared.limits.TheConstants.{CLAUSE_VARIABLES}
use Rattle.px_base.specs.declared.prop.Prop.{Prop}
use Rattle.px_base.specs.declared.prop.Prop.TheVariants.{Comm, Assoc, Idem, Sel, Refl, Irrefl, Sym, Antisym, Asym, Trans, Conn}
use Rattle.px_base.specs.declared.head.Head.TheVariants.{Def, Wle, Weq, FnVar}
use Rattle.px_base.specs.declared.raw.Decl.{Decl}
use Rattle.px_base.specs.declared.raw.RawProgram.{RawProgram}
use Rattle.px_base.specs.Fitting.{Counts, obligation_count, IsFitting}
use Rattle.px_terms.specs.declared.types.Ty.{Ty}
use Rattle.px_terms.specs.declared.types.FnType.{FnType}
use Rattle.px_terms.specs.declared.types.Fun.{Fun}
use Rattle.px_terms.specs.declared.clause.Clause.{Clause}
use Rattle.px_terms.specs.declared.program.Def as definition
use Rattle.px_terms.specs.declared.program.Lemma as proposition
use Rattle.px_terms.specs.declared.program.Declared.{Declared}
use Rattle.px_terms.specs.declared.program.Declared.TheVariants as declared
use Rattle.px_terms.specs.declared.program.Program.{Program}
use Rattle.px_terms.specs.declared.sequent.Context.{Context}
use Rattle.px_terms.specs.Types.{ty_instance}
use Rattle.px_terms.specs.Typing.{IsFunction}
use Rattle.px_terms.specs.Typing as typing
use Rattle.px_terms.specs.Clauses.{Subject, says, IsClauseOf}
use Rattle.px_terms.specs.Clauses as clauses
use Rattle.px_terms.specs.Obligations.{lemma_clause, IsDeclaredClause, IsObligation}
use Rattle.px_terms.specs.Obligations as obligations
use Rattle.px_terms.specs.Numbered.{HasNumberedVariables, HasNumbers}
use Rattle.px_terms.specs.TypedPrograms.{Fits}
use Rattle.px_types.specs.Declarations.{AreNext, start}
use Rattle.px_types.proofs.Appending.{one_item}
use Rattle.px_types.proofs.Reached.{left_count, IsReached, reached_by}

-- how many of x, y and z a property names does not hang on what it is said of
same_named : (s t : Subject) (p : Prop) → (says s p).named ≡ (says t p).named
same_named s t Comm = refl
same_named s t Assoc = refl
same_named s t Idem = refl
same_named s t Sel = refl
same_named s t Refl = refl
same_named s t Irrefl = refl
same_named s t Sym = refl
same_named s t Antisym = refl
same_named s t Asym = refl
same_named s t Trans = refl
same_named s t Conn = refl

same_number : (n m : ℕ) → Def n ≡ Def m → n ≡ m
same_number n m e = cc

no_at_most : (n : ℕ) → Wle ≡ Def n → ⊥
no_at_most n e = cc

no_equal : (n : ℕ) → Weq ≡ Def n → ⊥
no_equal n e = cc

no_variable : (i n : ℕ) → FnVar i ≡ Def n → ⊥
no_variable i n e = cc

-- a definition takes as many values as it has parameters
params_of : {P : Program} {context : Context} {f : Fun} {takes : List FnType} {params : List Ty} {T : Ty} → IsFunction P context f takes params T →
    (n : ℕ) → f.head ≡ Def n → (D : definition.Def) → slice_get P.defs n ≡ Some D → length params ≡ length D.params
params_of {P} (typing.of_definition {n = m} {types = types} {D = E} stands count are takes params result) n e D at =
    let there : slice_get P.defs n ≡ Some E = subst (λ (k : ℕ). slice_get P.defs k ≡ Some E) (same_number m n e) stands in
    let same : E ≡ D = one_item E D (sym there ∙ at) in
    ap length params ∙ length-map E.params (ty_instance types) ∙ ap (λ (F : definition.Def). length F.params) same
params_of (typing.at_most result) n e D at = absurd (no_at_most n e)
params_of (typing.equal result) n e D at = absurd (no_equal n e)
params_of (typing.of_variable {n = i} stands params result) n e D at = absurd (no_variable i n e)

-- How many variables the clause of a property of a definition has.
record ClauseCounts (p : Prop) (D : definition.Def) (clause : Clause) : Type 0 where
  s : Subject
  vars : length clause.vars + 2 ≡ length D.params + (says s p).named
  funs : clause.funs ≡ D.funs

clause_counts : {P : Program} {funs : List FnType} {n : ℕ} {p : Prop} {clause : Clause} → IsClauseOf P funs (Def n) p clause → (D : definition.Def) →
    slice_get P.defs n ≡ Some D → ClauseCounts p D clause
clause_counts {n = n} {p = p} {clause = clause} (clauses.of_definition {D = E} stands s is result e) D at =
    let same : E ≡ D = one_item E D (sym stands ∙ at) in
    let taken : length is.params ≡ length D.params = params_of is.function n refl D at in
    let shape : length is.params ≡ length s.leading + 2 = ap length is.shape ∙ length-append s.leading (s.last ∷ s.last ∷ []) in
    let vars : length clause.vars ≡ length s.leading + (says s p).named =
    ap (λ (c : Clause). length c.vars) e ∙ length-append s.leading (replicate (says s p).named s.last) ∙ ap (λ (k : ℕ). length s.leading + k)
    (length-replicate (says s p).named s.last)
    in
    record {
      s = s;
      vars = sum_of (length clause.vars) (length s.leading) (says s p).named (length is.params) (length D.params) vars shape taken;
      funs = ap (λ (c : Clause). c.funs) e ∙ ap (λ (F : definition.Def). F.funs) same;
    }
  where
    sum_of : (vars leading named params all : ℕ) → vars ≡ leading + named → params ≡ leading + 2 → params ≡ all → vars + 2 ≡ all + named
    sum_of vars leading named params all e f g = omega arith

-- the clause of a property that fits has few variables
few_variables : {P : Program} {n : ℕ} {p : Prop} {clause : Clause} → IsClauseOf P [] (Def n) p clause → Fits P [] (Def n) p → (D : definition.Def) →
    slice_get P.defs n ≡ Some D → length clause.vars ≤ CLAUSE_VARIABLES
few_variables {p = p} {clause = clause} is fits D at =
    let own = clause_counts is D at in
    let other = clause_counts fits.says D at in
    as_few (length clause.vars) (length fits.clause.vars) (length D.params) (says own.s p).named (says other.s p).named CLAUSE_VARIABLES own.vars
    other.vars (same_named own.s other.s p) fits.few
  where
    as_few : (vars others params named also most : ℕ) → vars + 2 ≡ params + named → others + 2 ≡ params + also → named ≡ also → others ≤ most → vars ≤ most
    as_few vars others params named also most e f g few = omega arith

few_below : (n : ℕ) → n ≤ CLAUSE_VARIABLES → n < 2 ^ 32
few_below n few = go CLAUSE_VARIABLES (2 ^ 32) few (lit< tt)
  where
    go : (most limit : ℕ) → n ≤ most → most < limit → n < limit
    go most limit few below = omega arith

part_below : (part left whole limit : ℕ) → part + left ≡ whole → whole < limit → part < limit
part_below part left whole limit e below = omega arith

pub few_obligations : {raw : RawProgram} {C : Counts} {P : Program} → IsFitting raw → IsReached raw C P → length P.declared < 2 ^ 32
few_obligations {raw} {C} {P} fits reached = part_below (length P.declared) (left_count raw C) (obligation_count raw) (2 ^ 32) reached.obligations fits.few

made_below : (taken made written limit : ℕ) → taken ≡ made → taken ≤ written → written < limit → made < limit
made_below taken made written limit e within below = omega arith

pub few_definitions : {raw : RawProgram} {C : Counts} {P : Program} → IsFitting raw → IsReached raw C P → length P.defs < 2 ^ 32
few_definitions {raw} {C} {P} fits reached = made_below C.defs (length P.defs) (length raw.defs) (2 ^ 32) reached.defs reached.within fits.short.defs

pub few_lemmas : {raw : RawProgram} {C : Counts} {P : Program} → IsFitting raw → IsReached raw C P → length P.lemmas < 2 ^ 32
few_lemmas {raw} {C} {P} fits reached = made_below C.lemmas (length P.lemmas) (length raw.lemmas) (2 ^ 32) reached.lemmas reached.lemmas_within
    fits.short.lemmas

module _ (raw : RawProgram) (C : Counts) (P : Program) (reached : IsReached raw C P) where
  property_is_numbered : (number n : ℕ) (p : Prop) (clause : Clause) → slice_get P.declared number ≡ Some (declared.Property n p) →
      IsClauseOf P [] (Def n) p clause → HasNumberedVariables clause
  property_is_numbered number n p clause stands is = go is (reached.typed.properties number n p stands).fits
    where
      numbered : (D : definition.Def) → slice_get P.defs n ≡ Some D → IsClauseOf P [] (Def n) p clause → Fits P [] (Def n) p → HasNumberedVariables clause
      numbered D at is fits =
          let counts = clause_counts is D at in
          let funs = subst (λ (funs : List FnType). length funs < 2 ^ 32) (sym counts.funs) (reached.few_funs.at n D at) in
          record { vars = few_below (length clause.vars) (few_variables is fits D at); funs = funs }

      go : IsClauseOf P [] (Def n) p clause → Fits P [] (Def n) p → HasNumberedVariables clause
      go (clauses.of_definition {D = D} at s subject result e) fits = numbered D at is fits

  lemma_is_numbered : (number n : ℕ) (l : proposition.Lemma) (clause : Clause) → slice_get P.declared number ≡ Some (declared.Lemma n) →
      slice_get P.lemmas n ≡ Some l → clause ≡ lemma_clause l → HasNumberedVariables clause
  lemma_is_numbered number n l clause stands at e =
      let there = reached.typed.lemmas number n stands in
      let same : there.0 ≡ l = one_item there.0 l (sym there.1 ∙ at) in
      let few : length l.vars ≤ CLAUSE_VARIABLES = subst (λ (k : proposition.Lemma). length k.vars ≤ CLAUSE_VARIABLES) same there.2.few_vars in
      subst HasNumberedVariables (sym e) (record { vars = few_below (length l.vars) few; funs = reached.few_lemma_funs.at n l at })

  clause_is_numbered : (number : ℕ) (clause : Clause) (x : Declared) → slice_get P.declared number ≡ Some x → IsDeclaredClause P x clause →
      HasNumberedVariables clause
  clause_is_numbered number clause x stands (obligations.of_property {n = n} {p = p} is) = property_is_numbered number n p clause stands is
  clause_is_numbered number clause x stands (obligations.of_lemma {n = n} {l = l} at e) = lemma_is_numbered number n l clause stands at e

  pub has_numbers : IsFitting raw → HasNumbers P
  has_numbers fits = record {
    obligations = few_obligations fits reached;
    clauses = λ number clause is. clause_is_numbered number clause is.declared is.number is.says;
    constructors = λ d D at. reached.few_cons.at d D at;
  }

-- The obligations, definitions and lemmas so far can be numbered.
pub record AreFewSoFar (P : Program) : Type 0 where
  pub obligations : length P.declared < 2 ^ 32
  pub defs : length P.defs < 2 ^ 32
  pub lemmas : length P.lemmas < 2 ^ 32

-- at each place of the order they can
pub few_so_far : (raw : RawProgram) → IsFitting raw → (before after : List Decl) → raw.order ≡ before ++ after → (P : Program) →
    AreNext raw start before P → AreFewSoFar P
few_so_far raw fits before after e P typed =
    let taken = reached_by raw fits before after e P typed in
    record { obligations = few_obligations fits taken.reached; defs = few_definitions fits taken.reached; lemmas = few_lemmas fits taken.reached }
