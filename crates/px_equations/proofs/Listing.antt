-- The clauses of the obligations, as they are listed.
use Rattle.std.proofs.Common.{◌≡◌, ◌⊎◌, inl, inr, ℕ, ◌<◌, ◌+◌, List, [], ◌∷◌, ◌++◌, length, Option, Some, None, Result, Ok, Err, IfOk, MatchOption, Bor, refl, sym, ◌∙◌, ap, subst}
use Rattle.std.specs.Prelude.{slice_get, get_or}
use Rattle.std.specs.Option.{option_copied}
use Rattle.std.proofs.lemmas.Option.{slice_get-get_or}
use Rattle.std.proofs.lemmas.List.{length-append}
use Rattle.px_base.specs.declared.prop.Prop.{Prop}
use Rattle.px_base.specs.declared.head.Head.TheVariants.{Def}
use Rattle.px_terms.specs.declared.clause.Clause.{Clause}
use Rattle.px_terms.specs.declared.program.Declared.{Declared}
use Rattle.px_terms.specs.declared.program.Declared.TheVariants as declared
use Rattle.px_terms.specs.declared.program.Lemma as proposition
use Rattle.px_terms.specs.declared.program.Program.{Program}
use Rattle.px_terms.specs.Clauses.{IsClauseOf}
use Rattle.px_terms.specs.Obligations.{IsDeclaredClause, IsObligation, lemma_clause, of_property, of_lemma}
use Rattle.px_equations.specs.declared.index.Index.{Index}
use Rattle.px_equations.specs.Listed.{HasClause, IsOnlyDeclared, IsOnlyClause, AreListed, IsListing}
use Rattle.px_equations.proofs.Lists.{found_one, found_more}

-- what a declared clause gives, by what is declared
abbrev pub Declares : Program → Declared → Clause → Type 0
Declares P (declared.Property n p) clause = IsClauseOf P [] (Def n) p clause
Declares P (declared.Lemma i) clause = (l : proposition.Lemma) × (slice_get P.lemmas i ≡ Some l) × (clause ≡ lemma_clause l)

pub declares : {P : Program} {d : Declared} {clause : Clause} → IsDeclaredClause P d clause → Declares P d clause
declares (of_property is) = is
declares (of_lemma {l = l} stands e) = (l, stands, e)

-- a lemma that has a clause is there
pub lemma_stands : (P : Program) (d : Declared) (i : ℕ) (looked : List proposition.Lemma) → HasClause P d → d ≡ declared.Lemma i → looked ≡ P.lemmas →
    None ≡ slice_get looked i → ⊥
lemma_stands P d i looked has is same none =
    there (subst (λ (e : Declared). Declares P e has.clause) is (declares has.says)) (subst (λ (ls : List proposition.Lemma). None ≡ slice_get ls i) same none)
  where
    there : Declares P (declared.Lemma i) has.clause → None ≡ slice_get P.lemmas i → ⊥
    there (l, stands, e) lacks = let gone : None ≡ Some l = lacks ∙ stands in absurd cc

-- a property that has a clause fits the definition
pub property_fits : (P : Program) (n : ℕ) (p : Prop) → HasClause P (declared.Property n p) → ((clause : Clause) → IsClauseOf P [] (Def n) p clause → ⊥) → ⊥
property_fits P n p has none = none has.clause (declares has.says)

-- the one clause of a property
pub only_property : (P : Program) (n : ℕ) (p : Prop) (found : Clause) → IsClauseOf P [] (Def n) p found →
    ((own : Clause) → IsClauseOf P [] (Def n) p own → found ≡ own) → IsOnlyDeclared P (declared.Property n p) found
only_property P n p found is only = record { is = of_property is; only = λ own says. sym (only own (declares says)) }

-- the one clause of a lemma
pub only_lemma : (P : Program) (i : ℕ) (l : proposition.Lemma) (found : Clause) → slice_get P.lemmas i ≡ Some l → found ≡ lemma_clause l →
    IsOnlyDeclared P (declared.Lemma i) found
only_lemma P i l found stands is = record {
  is = of_lemma stands is;
  only = λ own says. other own (declares says);
}
  where
    other : (own : Clause) → Declares P (declared.Lemma i) own → own ≡ found
    other own (m, at, e) = e ∙ ap lemma_clause (found_one P.lemmas i m l at stands) ∙ sym is

pub lemma_answered : {E : Type 0} (P : Program) (d : Declared) (i : ℕ) (l : proposition.Lemma) (looked : List proposition.Lemma) (r : Result Clause E) →
    d ≡ declared.Lemma i → looked ≡ P.lemmas → Some l ≡ slice_get looked i → IfOk r (λ (found : Clause). found ≡ lemma_clause l) → IfOk r (IsOnlyDeclared P d)
lemma_answered P d i l looked (Ok found) is same at says =
    subst (λ (e : Declared). IsOnlyDeclared P e found) (sym is)
    (only_lemma P i l found (ap (λ (ls : List proposition.Lemma). slice_get ls i) (sym same) ∙ sym at) says)
lemma_answered P d i l looked (Err end) is same at says = tt

-- one clause more
pub only_clause : (P : Program) (n : ℕ) (d : Declared) (clause : Clause) → slice_get P.declared n ≡ Some d → IsOnlyDeclared P d clause → IsOnlyClause P n clause
only_clause P n d clause stands is = record {
  is = record { declared = d; number = stands; says = is.is };
  only = λ own other. is.only own (subst (λ (e : Declared). IsDeclaredClause P e own) (found_one P.declared n other.declared d other.number stands) other.says);
}

pub listed_start : (P : Program) → AreListed P [] 0
listed_start P = record { all = refl; each = λ n clause e. absurd cc }

pub listed_next : (P : Program) (old new : List Clause) (n : ℕ) (d : Declared) (clause : Clause) → slice_get P.declared n ≡ Some d → IsOnlyDeclared P d clause →
    new ≡ old ++ clause ∷ [] → AreListed P old n → AreListed P new (n + 1)
listed_next P old new n d clause stands is e listed = subst (λ (clauses : List Clause). AreListed P clauses (n + 1)) (sym e) record {
  all = length-append old (clause ∷ []) ∙ ap (λ (k : ℕ). k + 1) listed.all;
  each = λ m other at. which m other (found_more old clause m other at);
}
  where
    which : (m : ℕ) (other : Clause) → (slice_get old m ≡ Some other) ⊎ ((m ≡ length old) × (clause ≡ other)) → IsOnlyClause P m other
    which m other (inl at) = listed.each m other at
    which m other (inr (is_last, same)) =
        subst (λ (k : ℕ). IsOnlyClause P k other) (sym (is_last ∙ listed.all))
        (subst (IsOnlyClause P n) same (only_clause P n d clause stands is))

-- the clause that is found is the only one
pub clause_only : (P Q : Program) (clauses looked : List Clause) (index : Index) (n : ℕ) (r : Option (Bor Clause)) → IsListing Q clauses index → P ≡ Q → looked ≡ clauses →
    option_copied r ≡ slice_get looked n → MatchOption r (Unit {0}) (λ (clause : Bor Clause). (own : Clause) → IsObligation P n own → own ≡ clause.now)
clause_only P Q clauses looked index n None listing is same e = tt
clause_only P Q clauses looked index n (Some b) listing is same e =
    subst (λ (R : Program). (own : Clause) → IsObligation R n own → own ≡ b.now) (sym is)
    (listing.listed.each n b.now (ap (λ (xs : List Clause). slice_get xs n) (sym same) ∙ sym e)).only

-- what is declared at a place of the list
pub stands_at : (P : Program) (looked : List Declared) (n : ℕ) (d : Declared) → looked ≡ P.declared → n < length looked →
    slice_get P.declared n ≡ Some (get_or looked n d)
stands_at P looked n d same below = subst (λ (xs : List Declared). slice_get xs n ≡ Some (get_or looked n d)) same (slice_get-get_or looked n d below)
