-- Which clauses are open.
use Rattle.std.proofs.Common.{◌≡◌, ℕ, ◌+◌, ◌<◌, ◌≤◌, ◌^◌, List, [], ◌∷◌, length, replicate, Option, Some, None, Result, Ok, Err, IfOk, refl, sym, ◌∙◌, ap, subst, arith, lit<}
use Rattle.std.specs.Prelude.{slice_get}
use Rattle.std.specs.Option.{IsSomeAnd}
use Rattle.std.proofs.lemmas.List.{length-append, length-replicate}
use Rattle.std.proofs.lemmas.Option.{slice_get_within}
use Rattle.px_base.specs.declared.limits.TheConstants.{CLAUSE_VARIABLES}
use Rattle.px_base.specs.declared.prop.Prop.{Prop}
use Rattle.px_base.specs.declared.prop.PropSet.{PropSet}
use Rattle.px_base.specs.declared.head.Head.{Head}
use Rattle.px_base.specs.declared.head.Head.TheVariants.{Def, Wle, Weq, FnVar}
use Rattle.px_base.specs.PropSets.{HasProp}
use Rattle.px_terms.specs.declared.types.Ty.{Ty}
use Rattle.px_terms.specs.declared.types.FnType.{FnType}
use Rattle.px_terms.specs.declared.types.Fun.{Fun}
use Rattle.px_terms.specs.declared.clause.Clause.{Clause}
use Rattle.px_terms.specs.declared.program.Lemma as proposition
use Rattle.px_terms.specs.declared.program.Declared.{Declared}
use Rattle.px_terms.specs.declared.program.Declared.TheVariants as declared
use Rattle.px_terms.specs.declared.program.Program.{Program}
use Rattle.px_terms.specs.declared.sequent.Context.{Context}
use Rattle.px_terms.specs.declared.row.Ref.{Ref}
use Rattle.px_terms.specs.declared.row.Ref.TheVariants as reference
use Rattle.px_terms.specs.Typing.{behind, IsFunction, IsSaid, IsKnown}
use Rattle.px_terms.specs.Typing as typing
use Rattle.px_terms.specs.Clauses.{says, IsClauseOf, functions_alone}
use Rattle.px_terms.specs.Clauses as clauses
use Rattle.px_terms.specs.Obligations.{IsObligation, lemma_clause}
use Rattle.px_terms.specs.Noting.{IsOpen}
use Rattle.px_terms.specs.Noting as noting
use Rattle.px_terms.specs.Numbered.{HasNumbers}
use Rattle.px_terms.specs.TypedPrograms.{Fits, IsTyped, IsTypedLemma}
use Rattle.px_props.specs.Sets.{IsSetOf}
use Rattle.px_props.specs.Signatures.{IsCounted}
use Rattle.px_descent.specs.Checked.{IsChecked}
use Rattle.px_equations.specs.Index.{IsBelow}
use Rattle.px_equations.specs.Open.{TellsFor, TellsOpen, clause_in}
use Rattle.px_equations.specs.declared.open.OpenClause.{OpenClause}
use Rattle.px_equations.proofs.Lists.{found_one}
use Rattle.px_equations.proofs.Listing.{Declares, declares}
use Rattle.px_equations.proofs.KnownSteps.{some_known}
use Rattle.px_equations.proofs.Counted.{declared_is_counted}

-- what an open clause gives, by its reference
abbrev pub Opens : Program → ℕ → Clause → Ref → Clause → Type 0
Opens P n own (reference.Property h p) clause = IsKnown P (behind n) (functions_alone own.tparams own.funs) h p × IsClauseOf P own.funs h p clause
Opens P n own (reference.Lemma i) clause =
    (l : proposition.Lemma) × IsBelow P.declared n (declared.Lemma i) × (slice_get P.lemmas i ≡ Some l) × (clause ≡ lemma_clause l)
Opens P n own reference.Hypothesis clause = clause ≡ own

pub opens : {P : Program} {n : ℕ} {own : Clause} {ref : Ref} {clause : Clause} → IsOpen P n own ref clause → Opens P n own ref clause
opens (noting.property is one) = (is, one)
opens (noting.lemma_below {number} {l = l} stands below at e) = (l, record { number = number; below = below; stands = stands }, at, e)
opens (noting.hypothesis e) = e

-- What is assumed of the function variables of an obligation fits their types.
assumed_in_lemma : {P : Program} {number : ℕ} {own : Clause} (l : proposition.Lemma) → own ≡ lemma_clause l → IsTypedLemma P number l → (j : ℕ) (F : FnType)
    (p : Prop) → slice_get own.funs j ≡ Some F → HasProp F.props p → Fits P own.funs (FnVar j) p
assumed_in_lemma {P} {own = own} l e typed j F p at has =
    subst (λ (fs : List FnType). Fits P fs (FnVar j) p) (sym (ap (λ (c : Clause). c.funs) e))
    (typed.funs.assumed j F p (subst (λ (fs : List FnType). slice_get fs j ≡ Some F) (ap (λ (c : Clause). c.funs) e) at) has)

assumed_in_property : {P : Program} {n : ℕ} {q : Prop} {own : Clause} → IsTyped P → IsClauseOf P [] (Def n) q own → (j : ℕ) (F : FnType) (p : Prop) →
    slice_get own.funs j ≡ Some F → HasProp F.props p → Fits P own.funs (FnVar j) p
assumed_in_property {P} {n} {own = own} typed (clauses.of_definition {D = D} stands s is result e) j F p at has =
    subst (λ (fs : List FnType). Fits P fs (FnVar j) p) (sym (ap (λ (c : Clause). c.funs) e))
    ((typed.defs n D stands).signature.funs.assumed j F p (subst (λ (fs : List FnType). slice_get fs j ≡ Some F) (ap (λ (c : Clause). c.funs) e) at) has)

assumed_in : {P : Program} (number : ℕ) (own : Clause) → IsTyped P → (d : Declared) → slice_get P.declared number ≡ Some d → Declares P d own → (j : ℕ)
    (F : FnType) (p : Prop) → slice_get own.funs j ≡ Some F → HasProp F.props p → Fits P own.funs (FnVar j) p
assumed_in number own typed (declared.Property n q) stands is j F p at has = assumed_in_property typed is j F p at has
assumed_in {P} number own typed (declared.Lemma i) stands (l, found, e) j F p at has =
    let there = typed.lemmas number i stands in
    assumed_in_lemma l e (subst (IsTypedLemma P number) (found_one P.lemmas i there.0 l there.1 found) there.2) j F p at has

-- The type of a function variable whose property has a clause can be counted.
same_variable : (i j : ℕ) → FnVar i ≡ FnVar j → i ≡ j
same_variable i j e = cc

no_definition : (n i : ℕ) → Def n ≡ FnVar i → ⊥
no_definition n i e = cc

no_at_most : (i : ℕ) → Wle ≡ FnVar i → ⊥
no_at_most i e = cc

no_equal : (i : ℕ) → Weq ≡ FnVar i → ⊥
no_equal i e = cc

params_of : {P : Program} {context : Context} {f : Fun} {takes : List FnType} {params : List Ty} {T : Ty} → IsFunction P context f takes params T →
    (i : ℕ) → f.head ≡ FnVar i → (F : FnType) → slice_get context.funs i ≡ Some F → params ≡ F.params
params_of (typing.of_definition {n = n} stands count are takes params result) i e F at = absurd (no_definition n i e)
params_of (typing.at_most result) i e F at = absurd (no_at_most i e)
params_of (typing.equal result) i e F at = absurd (no_equal i e)
params_of {context = context} (typing.of_variable {n = m} {F = G} stands params result) i e F at =
    let there : slice_get context.funs i ≡ Some G = subst (λ (k : ℕ). slice_get context.funs k ≡ Some G) (same_variable m i e) stands in
    params ∙ ap (λ (H : FnType). H.params) (found_one context.funs i G F there at)

few : (params leading named vars most limit : ℕ) → params ≡ leading + 2 → vars ≡ leading + named → vars ≤ most → most + 2 < limit → params < limit
few params leading named vars most limit e f small below = omega arith

variable_is_short : {P : Program} {funs : List FnType} {i : ℕ} {p : Prop} {clause : Clause} → IsClauseOf P funs (FnVar i) p clause →
    length clause.vars ≤ CLAUSE_VARIABLES → (F : FnType) → slice_get funs i ≡ Some F → length F.params < 2 ^ 32
variable_is_short {i = i} {p = p} {clause = clause} (clauses.of_variable s is result e) small F at =
    let shape : length F.params ≡ length s.leading + 2 =
    ap length (sym (params_of is.function i refl F at)) ∙ ap length is.shape ∙ length-append s.leading (s.last ∷ s.last ∷ []) in
    let vars : length clause.vars ≡ length s.leading + (says s p).named =
    ap (λ (c : Clause). length c.vars) e ∙ length-append s.leading (replicate (says s p).named s.last) ∙ ap (λ (k : ℕ). length s.leading + k)
    (length-replicate (says s p).named s.last)
    in
    few (length F.params) (length s.leading) (says s p).named (length clause.vars) CLAUSE_VARIABLES (2 ^ 32) shape vars small (lit< tt)

some_of : {X : Type 0} (o : Option X) (R : X → Type 0) (x : X) → o ≡ Some x → IsSomeAnd o R → R x
some_of None R x e h = absurd h
some_of (Some y) R x e h = let same : y ≡ x = cc in subst R same h

-- what is known of a function can be counted
said_is_counted : (P : Program) (number : ℕ) (own : Clause) → IsTyped P → HasNumbers P → IsObligation P number own → (h : Head) (q : Prop) →
    IsSaid P (behind number) (functions_alone own.tparams own.funs) h q → IsCounted P own.funs h
said_is_counted P number own typed numbers obligation (Def n) q said = declared_is_counted P said.number (declared.Property n q) typed numbers said.stands
said_is_counted P number own typed numbers obligation Wle q said = tt
said_is_counted P number own typed numbers obligation Weq q said = tt
said_is_counted P number own typed numbers obligation (FnVar i) q said =
    λ F at.
    let fits : Fits P own.funs (FnVar i) q =
    assumed_in number own typed obligation.declared obligation.number (declares obligation.says) i F q at
    (some_of (slice_get own.funs i) (λ (G : FnType). HasProp G.props q) F at said) in
    variable_is_short fits.says fits.few F at

pub known_is_counted : (P : Program) (number : ℕ) (own : Clause) → IsTyped P → HasNumbers P → IsObligation P number own → (h : Head) (p : Prop) →
    IsKnown P (behind number) (functions_alone own.tparams own.funs) h p → IsCounted P own.funs h
known_is_counted P number own typed numbers obligation h p is =
    let said = some_known is in said_is_counted P number own typed numbers obligation h said.0 said.1

-- a lemma that stands below
pub lemma_open : {P : Program} {n first i : ℕ} {own clause : Clause} → first < n → slice_get P.declared first ≡ Some (declared.Lemma i) →
    IsObligation P first clause → IsOpen P n own (reference.Lemma i) clause
lemma_open {P} {n} {first} {i} {own} {clause} below stands obligation = go obligation.declared obligation.number (declares obligation.says)
  where
    go : (d : Declared) → slice_get P.declared first ≡ Some d → Declares P d clause → IsOpen P n own (reference.Lemma i) clause
    go d at is = make (subst (λ (e : Declared). Declares P e clause) (found_one P.declared first d (declared.Lemma i) at stands) is)
      where
        make : Declares P (declared.Lemma i) clause → IsOpen P n own (reference.Lemma i) clause
        make (l, found, e) = noting.lemma_below stands below found e

-- at most one clause is open to a lemma
pub one_lemma : {P : Program} {n i : ℕ} {own a b : Clause} → IsOpen P n own (reference.Lemma i) a → IsOpen P n own (reference.Lemma i) b → a ≡ b
one_lemma {P} {i = i} one other =
    let first = opens one in
    let second = opens other in
    first.3 ∙ ap lemma_clause (found_one P.lemmas i first.0 second.0 first.2 second.2) ∙ sym second.3

pub no_lemma : {P : Program} {n i : ℕ} {own : Clause} → (IsBelow P.declared n (declared.Lemma i) → ⊥) → (clause : Clause) →
    IsOpen P n own (reference.Lemma i) clause → ⊥
no_lemma none clause is = let gives = opens is in none gives.1

-- what stands at a place is not past the end
pub not_past : {A : Type 0} (xs : List A) (k : ℕ) (a : A) → slice_get xs k ≡ Some a → length xs ≤ k → ⊥
not_past xs k a at past = go (slice_get_within xs k a at)
  where
    go : k < length xs → ⊥
    go below = omega arith

-- a property, where this is what is known of the function
module _ (P Q : Program) (n : ℕ) (own : Clause) (h : Head) (p : Prop) (funs : List FnType) (set : PropSet) (same : Q ≡ P) (alike : funs ≡ own.funs)
    (is : IsSetOf set (IsKnown P (behind n) (functions_alone own.tparams own.funs) h)) where
  here : (clause : Clause) → IsClauseOf Q funs h p clause → IsClauseOf P own.funs h p clause
  here clause one =
      subst (λ (fs : List FnType). IsClauseOf P fs h p clause) alike (subst (λ (R : Program). IsClauseOf R funs h p clause) same one)

  back : (clause : Clause) → IsClauseOf P own.funs h p clause → IsClauseOf Q funs h p clause
  back clause one =
      subst (λ (R : Program). IsClauseOf R funs h p clause) (sym same) (subst (λ (fs : List FnType). IsClauseOf P fs h p clause) (sym alike) one)

  pub counted : IsChecked P → IsObligation P n own → HasProp set p → IsCounted Q funs h
  counted checked obligation has =
      subst (λ (R : Program). IsCounted R funs h) (sym same)
      (subst (λ (fs : List FnType). IsCounted P fs h) (sym alike)
      (known_is_counted P n own checked.typed checked.numbered obligation h p ((is p).0 has)))

  pub unknown : (HasProp set p → ⊥) → (clause : Clause) → IsOpen P n own (reference.Property h p) clause → ⊥
  unknown lacks clause one = let gives = opens one in lacks ((is p).1 gives.0)

  pub property_open : HasProp set p → (clause : Clause) → IsClauseOf Q funs h p clause → IsOpen P n own (reference.Property h p) clause
  property_open has clause one = noting.property ((is p).0 has) (here clause one)

  pub one_property : (found : Clause) → ((clause : Clause) → IsClauseOf Q funs h p clause → found ≡ clause) → (clause : Clause) →
      IsOpen P n own (reference.Property h p) clause → found ≡ clause
  one_property found only clause one = let gives = opens one in only clause (back clause gives.1)

  pub no_property : ((clause : Clause) → IsClauseOf Q funs h p clause → ⊥) → (clause : Clause) → IsOpen P n own (reference.Property h p) clause → ⊥
  no_property none clause one = let gives = opens one in none clause (back clause gives.1)

-- what is told of the one clause of the obligation
tells_one : (P : Program) (n : ℕ) (own : Clause) (ref : Ref) → ((other : Clause) → IsObligation P n other → other ≡ own) → (found : Option OpenClause) →
    TellsFor P n own ref found → TellsOpen P n ref found
tells_one P n own ref only None none = λ other clause obligation. subst (λ (c : Clause). ¬ IsOpen P n c ref clause) (sym (only other obligation)) (none clause)
tells_one P n own ref only (Some found) one = λ other obligation.
    subst (λ (c : Clause). IsOpen P n c ref (clause_in found)) (sym (only other obligation)) one

pub tells_open : {E : Type 0} (P : Program) (n : ℕ) (own : Clause) (ref : Ref) → ((other : Clause) → IsObligation P n other → other ≡ own) →
    (r : Result (Option OpenClause) E) → IfOk r (TellsFor P n own ref) → IfOk r (TellsOpen P n ref)
tells_open P n own ref only (Ok found) one = tells_one P n own ref only found one
tells_open P n own ref only (Err e) one = tt

pub is_hypothesis : {P : Program} {n : ℕ} {own : Clause} {ref : Ref} → ref ≡ reference.Hypothesis → IsOpen P n own ref own
is_hypothesis {P} {n} {own} e = subst (λ (ref : Ref). IsOpen P n own ref own) (sym e) (noting.hypothesis refl)
