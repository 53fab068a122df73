-- What is declared in a typed program has a clause, and the definition of a declared property can be counted: the property fits it,
-- and its clause has few variables.
use Rattle.std.proofs.Common.{◌≡◌, ℕ, ◌+◌, ◌<◌, ◌≤◌, ◌^◌, List, [], ◌∷◌, length, replicate, slice_get, Some, refl, ◌∙◌, ap, subst, arith, lit<}
use Rattle.std.proofs.lemmas.List.{length-map, length-append, length-replicate}
use Rattle.px_terms.specs.limits.TheConstants.{CLAUSE_VARIABLES}
use Rattle.px_terms.specs.Prop.{Prop}
use Rattle.px_terms.specs.Head.TheVariants.{Def, Wle, Weq, FnVar}
use Rattle.px_terms.specs.declared.types.Ty.{Ty}
use Rattle.px_terms.specs.declared.types.FnType.{FnType}
use Rattle.px_terms.specs.declared.types.Fun.{Fun}
use Rattle.px_terms.specs.declared.clause.Clause.{Clause}
use Rattle.px_terms.specs.declared.program.Def as definition
use Rattle.px_terms.specs.declared.program.Declared.{Declared}
use Rattle.px_terms.specs.declared.program.Declared.TheVariants as declared
use Rattle.px_terms.specs.declared.program.Program.{Program}
use Rattle.px_terms.specs.declared.sequent.Context.{Context}
use Rattle.px_terms.specs.Types.{ty_instance}
use Rattle.px_terms.specs.Typing.{IsFunction}
use Rattle.px_terms.specs.Typing as typing
use Rattle.px_terms.specs.Clauses.{says, IsClauseOf}
use Rattle.px_terms.specs.Clauses as clauses
use Rattle.px_terms.specs.Obligations.{IsObligation, lemma_clause, of_property, of_lemma}
use Rattle.px_terms.specs.Numbered.{HasNumbers}
use Rattle.px_terms.specs.TypedPrograms.{Fits, IsTyped}
use Rattle.px_props.specs.Signatures.{IsCounted}
use Rattle.px_equations.specs.Listed.{HasClause, IsDeclaredCounted}
use Rattle.px_equations.proofs.Lists.{found_one}

same_number : (n m : ℕ) → Def n ≡ Def m → n ≡ m
same_number n m e = cc

no_at_most : (n : ℕ) → Wle ≡ Def n → ⊥
no_at_most n e = cc

no_equal : (n : ℕ) → Weq ≡ Def n → ⊥
no_equal n e = cc

no_variable : (i n : ℕ) → FnVar i ≡ Def n → ⊥
no_variable i n e = cc

-- a definition takes as many values as it has parameters
params_of : {P : Program} {context : Context} {f : Fun} {takes : List FnType} {params : List Ty} {T : Ty} → IsFunction P context f takes params T →
    (n : ℕ) → f.head ≡ Def n → (D : definition.Def) → slice_get P.defs n ≡ Some D → length params ≡ length D.params
params_of {P} (typing.of_definition {n = m} {types = types} {D = E} stands count are takes params result) n e D at =
    let there : slice_get P.defs n ≡ Some E = subst (λ (k : ℕ). slice_get P.defs k ≡ Some E) (same_number m n e) stands in
    let same : E ≡ D = found_one P.defs n E D there at in
    ap length params ∙ length-map E.params (ty_instance types) ∙ ap (λ (F : definition.Def). length F.params) same
params_of (typing.at_most result) n e D at = absurd (no_at_most n e)
params_of (typing.equal result) n e D at = absurd (no_equal n e)
params_of (typing.of_variable {n = i} stands params result) n e D at = absurd (no_variable i n e)

-- How many parameters a definition has, by the variables of the clause of a property of it.
record ClauseCounts (D : definition.Def) (clause : Clause) : Type 0 where
  named : ℕ
  params : length D.params + named ≡ length clause.vars + 2
  funs : clause.funs ≡ D.funs

clause_counts : {P : Program} {n : ℕ} {p : Prop} {clause : Clause} → IsClauseOf P [] (Def n) p clause → (D : definition.Def) →
    slice_get P.defs n ≡ Some D → ClauseCounts D clause
clause_counts {P} {n = n} {p = p} {clause = clause} (clauses.of_definition {D = E} stands s is result e) D at =
    let same : E ≡ D = found_one P.defs n E D stands at in
    let taken : length is.params ≡ length D.params = params_of is.function n refl D at in
    let shape : length is.params ≡ length s.leading + 2 = ap length is.shape ∙ length-append s.leading (s.last ∷ s.last ∷ []) in
    let vars : length clause.vars ≡ length s.leading + (says s p).named =
    ap (λ (c : Clause). length c.vars) e ∙ length-append s.leading (replicate (says s p).named s.last) ∙ ap (λ (k : ℕ). length s.leading + k)
    (length-replicate (says s p).named s.last)
    in
    record {
      named = (says s p).named;
      params = sum_of (length clause.vars) (length s.leading) (says s p).named (length is.params) (length D.params) vars shape taken;
      funs = ap (λ (c : Clause). c.funs) e ∙ ap (λ (F : definition.Def). F.funs) same;
    }
  where
    sum_of : (vars leading named params all : ℕ) → vars ≡ leading + named → params ≡ leading + 2 → params ≡ all → all + named ≡ vars + 2
    sum_of vars leading named params all e f g = omega arith

few_params : (params named vars : ℕ) → params + named ≡ vars + 2 → vars ≤ CLAUSE_VARIABLES → params < 2 ^ 32
few_params params named vars e few = go CLAUSE_VARIABLES (2 ^ 32) few (lit< tt)
  where
    go : (most limit : ℕ) → vars ≤ most → most + 2 < limit → params < limit
    go most limit few below = omega (arith, e)

property_is_counted : (P : Program) (n : ℕ) (p : Prop) (fits : Fits P [] (Def n) p) → length fits.clause.funs < 2 ^ 32 → IsCounted P [] (Def n)
property_is_counted P n p fits few D at =
    let counts = clause_counts fits.says D at in
    (few_params (length D.params) counts.named (length fits.clause.vars) counts.params fits.few, subst (λ (funs : List FnType). length funs < 2 ^ 32) counts.funs few)

pub declared_is_counted : (P : Program) (number : ℕ) (d : Declared) → IsTyped P → HasNumbers P → slice_get P.declared number ≡ Some d → IsDeclaredCounted P d
declared_is_counted P number (declared.Property n p) typed numbers stands =
    let fits : Fits P [] (Def n) p = (typed.properties number n p stands).fits in
    let obligation : IsObligation P number fits.clause = record { declared = declared.Property n p; number = stands; says = of_property fits.says } in
    property_is_counted P n p fits (numbers.clauses number fits.clause obligation).funs
declared_is_counted P number (declared.Lemma n) typed numbers stands = tt

pub declared_has_clause : (P : Program) (number : ℕ) (d : Declared) → IsTyped P → slice_get P.declared number ≡ Some d → HasClause P d
declared_has_clause P number (declared.Property n p) typed stands =
    let fits : Fits P [] (Def n) p = (typed.properties number n p stands).fits in
    record { clause = fits.clause; says = of_property fits.says }
declared_has_clause P number (declared.Lemma n) typed stands =
    let there = typed.lemmas number n stands in record { clause = lemma_clause there.0; says = of_lemma there.1 refl }
