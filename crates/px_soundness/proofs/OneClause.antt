-- An obligation has one clause.
use Rattle.std.proofs.Common.{◌≡◌, ℕ, List, [], ◌∷◌, ◌++◌, length, Some, slice_get, refl, sym, ap, ◌∙◌, subst}
use Rattle.px_terms.specs.declared.types.Ty.{Ty}
use Rattle.px_terms.specs.declared.types.FnType.{FnType}
use Rattle.px_terms.specs.declared.types.Fun.{Fun}
use Rattle.px_terms.specs.Head.{Head}
use Rattle.px_terms.specs.Head.TheVariants.{Def}
use Rattle.px_terms.specs.Prop.{Prop}
use Rattle.px_terms.specs.declared.clause.Clause.{Clause}
use Rattle.px_terms.specs.declared.program.Def as definition
use Rattle.px_terms.specs.declared.program.Lemma.{Lemma}
use Rattle.px_terms.specs.declared.program.Declared.{Declared}
use Rattle.px_terms.specs.declared.program.Declared.TheVariants as declared
use Rattle.px_terms.specs.declared.program.Program.{Program}
use Rattle.px_terms.specs.declared.sequent.Context.{Context}
use Rattle.px_terms.specs.Types.{ty_instance, tys_instance, own_types, own_functions}
use Rattle.px_terms.specs.Typing.{IsFunction}
use Rattle.px_terms.specs.Typing as typing
use Rattle.px_terms.specs.Clauses.{Subject, HasResult, clause_for, functions_alone, IsSubject, IsClauseOf}
use Rattle.px_terms.specs.Clauses as clauses
use Rattle.px_terms.specs.Obligations.{lemma_clause, IsDeclaredClause, of_property, of_lemma, IsObligation}
use Rattle.px_soundness.proofs.Found.{some_is}

not_none : {A : Type 0} (ys : List A) (b : A) → [] ≡ ys ++ b ∷ b ∷ [] → ⊥
not_none [] b e = cc
not_none (y ∷ ys) b e = cc

not_one : {A : Type 0} (ys : List A) (a b : A) → a ∷ [] ≡ ys ++ b ∷ b ∷ [] → ⊥
not_one [] a b e = cc
not_one (y ∷ ys) a b e =
    let h : a ∷ [] ≡ y ∷ (ys ++ b ∷ b ∷ []) = e in
    let none : [] ≡ ys ++ b ∷ b ∷ [] = cc in
    not_none ys b none

not_two : {A : Type 0} (ys : List A) (a b y : A) → a ∷ a ∷ [] ≡ (y ∷ ys) ++ b ∷ b ∷ [] → ⊥
not_two ys a b y e =
    let h : a ∷ a ∷ [] ≡ y ∷ (ys ++ b ∷ b ∷ []) = e in
    let one : a ∷ [] ≡ ys ++ b ∷ b ∷ [] = cc in
    not_one ys a b one

-- a list that ends in the same item twice has one front and one such item
pub same_ends : {A : Type 0} (xs ys : List A) (a b : A) → xs ++ a ∷ a ∷ [] ≡ ys ++ b ∷ b ∷ [] → (xs ≡ ys) × (a ≡ b)
same_ends [] [] a b e = let h : a ∷ a ∷ [] ≡ b ∷ b ∷ [] = e in (refl, cc)
same_ends [] (y ∷ ys) a b e = absurd (not_two ys a b y e)
same_ends (x ∷ xs) [] a b e = absurd (not_two xs b a x (sym e))
same_ends (x ∷ xs) (y ∷ ys) a b e =
    let h : x ∷ (xs ++ a ∷ a ∷ []) ≡ y ∷ (ys ++ b ∷ b ∷ []) = e in
    let first : x ≡ y = cc in
    let others : xs ++ a ∷ a ∷ [] ≡ ys ++ b ∷ b ∷ [] = cc in
    let ends = same_ends xs ys a b others in
    (ap (λ z. z ∷ xs) first ∙ ap (λ zs. y ∷ zs) ends.0, ends.1)

-- What is taken and given by a definition, at these types.
pub record OfDefinition (P : Program) (n : ℕ) (types params : List Ty) (T : Ty) : Type 0 where
  pub D : definition.Def
  pub found : slice_get P.defs n ≡ Some D
  pub params_are : params ≡ tys_instance types D.params
  pub result_is : T ≡ ty_instance types D.result

-- what is taken and given, by the head
abbrev pub TakenBy : Program → Head → List Ty → List Ty → Ty → Type 0
TakenBy P (Def n) types params T = OfDefinition P n types params T
TakenBy P _ types params T = Unit {0}

pub taken_by : (P : Program) (context : Context) (f : Fun) (takes : List FnType) (params : List Ty) (T : Ty) → IsFunction P context f takes params T → TakenBy P f.head f.types params T
taken_by P context _ takes params T (typing.of_definition {D = D} found count are takes_are params_are result_is) = record { D = D; found = found; params_are = params_are; result_is = result_is }
taken_by P context _ _ _ T (typing.at_most result_is) = tt
taken_by P context _ _ _ T (typing.equal result_is) = tt
taken_by P context _ _ params T (typing.of_variable found params_are result_is) = tt

-- a definition takes one list of parameters, and gives one type
one_type : (P : Program) (n : ℕ) (types a b : List Ty) (T U : Ty) → OfDefinition P n types a T → OfDefinition P n types b U → (a ≡ b) × (T ≡ U)
one_type P n types a b T U x y =
    let same : x.D ≡ y.D = some_is x.D y.D (slice_get P.defs n) x.found y.found in
    (x.params_are ∙ ap (λ (D : definition.Def). tys_instance types D.params) same ∙ sym y.params_are, x.result_is ∙ ap (λ (D : definition.Def). ty_instance types D.result) same ∙ sym y.result_is)

pub same_subject : (s t : Subject) → s.function ≡ t.function → s.given ≡ t.given → s.leading ≡ t.leading → s.last ≡ t.last → s.result ≡ t.result → s ≡ t
same_subject s t function given leading last result = λ i. record { function = function i; given = given i; leading = leading i; last = last i; result = result i }

-- a definition that is given some functions is one subject
one_subject : (P : Program) (context : Context) (n : ℕ) (types : List Ty) (given : List Fun) (s t : Subject) → IsSubject P context (record { head = Def n; types = types }) given s → IsSubject P context (record { head = Def n; types = types }) given t → s ≡ t
one_subject P context n types given s t x y =
    let one = taken_by P context (record { head = Def n; types = types }) x.takes x.params s.result x.function in
    let other = taken_by P context (record { head = Def n; types = types }) y.takes y.params t.result y.function in
    let same = one_type P n types x.params y.params s.result t.result one other in
    let ends = same_ends s.leading t.leading s.last t.last (sym x.shape ∙ same.0 ∙ y.shape) in
    same_subject s t (x.is_function ∙ sym y.is_function) (x.is_given ∙ sym y.is_given) ends.0 ends.1 same.1

-- the definition over its own type and function variables is this subject
abbrev pub IsOwnSubject : Program → ℕ → definition.Def → Subject → Type 0
IsOwnSubject P n D s = IsSubject P (functions_alone D.tparams D.funs) (record { head = Def n; types = own_types D.tparams }) (own_functions (length D.funs)) s

-- What the clause of a property of a definition rests on.
pub record OfProperty (P : Program) (n : ℕ) (p : Prop) (clause : Clause) : Type 0 where
  pub D : definition.Def
  pub s : Subject
  pub found : slice_get P.defs n ≡ Some D
  pub subject : IsOwnSubject P n D s
  pub result : HasResult s p
  pub is : clause ≡ clause_for s p D.tparams D.funs

-- what the clause of a property rests on, by the head
abbrev RestsOn : Program → Head → Prop → Clause → Type 0
RestsOn P (Def n) p clause = OfProperty P n p clause
RestsOn P _ p clause = Unit {0}

rests_on : (P : Program) (funs : List FnType) (h : Head) (p : Prop) (clause : Clause) → IsClauseOf P funs h p clause → RestsOn P h p clause
rests_on P funs _ p clause (clauses.of_definition {D = D} found s subject result is) = record { D = D; s = s; found = found; subject = subject; result = result; is = is }
rests_on P funs _ p clause (clauses.of_at_most s subject result is) = tt
rests_on P funs _ p clause (clauses.of_equal s subject result is) = tt
rests_on P funs _ p clause (clauses.of_variable s subject result is) = tt

pub property_rests_on : (P : Program) (n : ℕ) (p : Prop) (clause : Clause) → IsClauseOf P [] (Def n) p clause → OfProperty P n p clause
property_rests_on P n p clause is = rests_on P [] (Def n) p clause is

-- a property of a definition has one clause
pub one_property : (P : Program) (n : ℕ) (p : Prop) (a b : Clause) → OfProperty P n p a → OfProperty P n p b → a ≡ b
one_property P n p a b x y =
    let same : x.D ≡ y.D = some_is x.D y.D (slice_get P.defs n) x.found y.found in
    let here : IsOwnSubject P n y.D x.s = subst (λ (D : definition.Def). IsOwnSubject P n D x.s) same x.subject in
    let subjects : x.s ≡ y.s = one_subject P (functions_alone y.D.tparams y.D.funs) n (own_types y.D.tparams) (own_functions (length y.D.funs)) x.s y.s here y.subject in
    x.is ∙ ap (λ (D : definition.Def). clause_for x.s p D.tparams D.funs) same ∙ ap (λ (s : Subject). clause_for s p y.D.tparams y.D.funs) subjects ∙ sym y.is

-- What the clause of a lemma rests on.
record OfLemma (P : Program) (n : ℕ) (clause : Clause) : Type 0 where
  l : Lemma
  found : slice_get P.lemmas n ≡ Some l
  is : clause ≡ lemma_clause l

-- what the clause of a declared obligation rests on
abbrev SaidBy : Program → Declared → Clause → Type 0
SaidBy P (declared.Property n p) clause = OfProperty P n p clause
SaidBy P (declared.Lemma n) clause = OfLemma P n clause

said_by : (P : Program) (x : Declared) (clause : Clause) → IsDeclaredClause P x clause → SaidBy P x clause
said_by P _ clause (of_property {n = n} {p = p} is) = property_rests_on P n p clause is
said_by P _ clause (of_lemma {l = l} found is) = record { l = l; found = found; is = is }

one_said : (P : Program) (x : Declared) (a b : Clause) → SaidBy P x a → SaidBy P x b → a ≡ b
one_said P (declared.Property n p) a b x y = one_property P n p a b x y
one_said P (declared.Lemma n) a b x y = x.is ∙ ap lemma_clause (some_is x.l y.l (slice_get P.lemmas n) x.found y.found) ∙ sym y.is

-- an obligation has one clause
pub one_clause : (P : Program) (n : ℕ) (clause other : Clause) → IsObligation P n clause → IsObligation P n other → clause ≡ other
one_clause P n clause other one two =
    let same : one.declared ≡ two.declared = some_is one.declared two.declared (slice_get P.declared n) one.number two.number in
    let says : IsDeclaredClause P two.declared clause = subst (λ (x : Declared). IsDeclaredClause P x clause) same one.says in
    one_said P two.declared clause other (said_by P two.declared clause says) (said_by P two.declared other two.says)
