-- From what is answered for a subject to what is answered for what is called.
use Rattle.std.proofs.Common.{◌≡◌, ◌↔◌, ◌+◌, ◌<◌, ◌≤◌, ◌^◌, ℕ, Bool, false, IsTrue, List, [], ◌∷◌, ◌++◌, length, replicate, Some, slice_get, Result, Ok, Err, IfOk, MatchResult, refl, sym, ap, ◌∙◌, subst, arith, lit<, lit≤, length-append}
use Rattle.std.proofs.lemmas.List.{length-replicate}
use Rattle.px_terms.specs.limits.TheConstants.{CLAUSE_VARIABLES}
use Rattle.px_terms.specs.Head.{Head}
use Rattle.px_terms.specs.Head.TheVariants.{Def, FnVar}
use Rattle.px_terms.specs.Prop.{Prop}
use Rattle.px_terms.specs.Prop.TheVariants.{Comm, Assoc, Idem, Sel, Refl, Irrefl, Sym, Antisym, Asym, Trans, Conn}
use Rattle.px_terms.specs.declared.types.Ty.{Ty}
use Rattle.px_terms.specs.declared.types.Ty.TheVariants as type
use Rattle.px_terms.specs.declared.types.FnType.{FnType}
use Rattle.px_terms.specs.declared.clause.Clause.{Clause}
use Rattle.px_terms.specs.declared.program.Program.{Program}
use Rattle.px_terms.specs.Clauses.{Subject, HasResult, says, clause_for, IsClauseOf}
use Rattle.px_terms.specs.TypedPrograms.{Fits}
use Rattle.px_props.specs.declared.clauses.ClauseEnd.{ClauseEnd}
use Rattle.px_props.specs.declared.clauses.ClauseEnd.TheVariants.{Shape, NoMemory}
use Rattle.px_props.specs.declared.functions.Function.{Function}
use Rattle.px_props.specs.Answered.{IsAnswered}
use Rattle.px_props.specs.Signatures.{Signature, comparison, signature_at, signature_of, subject_of, compared, IsCalled, HasNoPair, IsCounted, IsNumbered, of_definition, of_variable}
use Rattle.px_props.proofs.ClauseFacts.{mapped_some, subject, spoken, states, same_subject, same_clause}

-- What is answered for a property of what is called.
pub record Answer (P : Program) (funs : List FnType) (h : Head) (p : Prop) (r : Result Clause ClauseEnd) : Type 0 where
  pub ok : IfOk r (IsClauseOf P funs h p)
  pub shape : r ≡ Err Shape → (clause : Clause) → IsClauseOf P funs h p clause → ⊥
  pub only : (clause : Clause) → IsClauseOf P funs h p clause → MatchResult r (λ found. found ≡ clause) (λ end. end ≡ NoMemory)

other_end : (end : ClauseEnd) → (end ≡ Shape → ⊥) → end ≡ NoMemory
other_end Shape not = absurd (not refl)
other_end NoMemory not = refl

module _ (P : Program) (funs : List FnType) (h : Head) (p : Prop) where
  module _ (signature : Signature) (leading : List Ty) (last : Ty) (stands : signature_at P funs h ≡ Some signature) (pair : signature.params ≡ leading ++ last ∷ last ∷ []) where
    abbrev s : Subject
    s = subject h signature leading last

    -- where there is a clause, the result is as the property asks
    asked : (clause : Clause) → IsClauseOf P funs h p clause → HasResult s p
    asked clause is =
        let said = spoken P funs h p clause is in
        subst (λ (x : Subject). HasResult x p) (same_subject P funs h said.signature signature said.leading leading said.last last said.stands stands said.pair pair) said.asked

    -- what there is is this clause
    is_it : (clause : Clause) → IsClauseOf P funs h p clause → clause ≡ clause_for s p signature.tparams signature.funs
    is_it clause is =
        let said = spoken P funs h p clause is in
        said.is ∙ same_clause P funs h said.signature signature said.leading leading said.last last said.stands stands said.pair pair p

    -- where the result is as the property asks, this is a clause
    stated : (clause : Clause) → HasResult s p → clause ≡ clause_for s p signature.tparams signature.funs → IsClauseOf P funs h p clause
    stated clause has is = states P funs h p clause (record { signature = signature; leading = leading; last = last; stands = stands; pair = pair; asked = has; is = is })

    pub answer : (r : Result Clause ClauseEnd) → IsAnswered s signature.tparams signature.funs p r → Answer P funs h p r
    answer (Ok found) told = record {
      ok = stated found told.0 told.1;
      shape = λ (e : _) clause is. absurd (cc);
      only = λ clause is. told.1 ∙ sym (is_it clause is);
    }
    answer (Err end) told = record {
      ok = tt;
      shape = λ (e : _) clause is. (let shape : end ≡ Shape = cc in told shape (asked clause is));
      only = λ clause is. other_end end (λ shape. told shape (asked clause is));
    }

    -- the variables of the clause are counted
    counted : (clause : Clause) → clause ≡ clause_for s p signature.tparams signature.funs → length clause.vars ≡ length leading + (says s p).named
    counted clause is =
        ap (λ (c : Clause). length c.vars) is ∙ (length-append leading (replicate (says s p).named last) ∙ ap (λ (n : ℕ). length leading + n) (length-replicate (says s p).named last))

    pub fitting : (b : Bool) → (IsTrue b ↔ (HasResult s p × (length leading + (says s p).named ≤ CLAUSE_VARIABLES))) → (IsTrue b ↔ Fits P funs h p)
    fitting b told = (
      λ (holds : IsTrue b). (let has = told.0 holds in let clause : Clause = clause_for s p signature.tparams signature.funs in record {
        clause = clause;
        says = stated clause has.0 refl;
        few = subst (λ (n : ℕ). n ≤ CLAUSE_VARIABLES) (sym (counted clause refl)) has.1;
      }),
      λ (fits : Fits P funs h p). told.1 (asked fits.clause fits.says, subst (λ (n : ℕ). n ≤ CLAUSE_VARIABLES) (counted fits.clause (is_it fits.clause fits.says)) fits.few),
    )

  -- where the last two parameters have not one type there is no clause
  no_clause : HasNoPair (signature_at P funs h) → (clause : Clause) → IsClauseOf P funs h p clause → ⊥
  no_clause without clause is =
      let said = spoken P funs h p clause is in
      without.none said.signature said.stands said.leading said.last said.pair

  pub no_answer : HasNoPair (signature_at P funs h) → Answer P funs h p (Err Shape)
  no_answer without = record {
    ok = tt;
    shape = λ (e : _) clause is. no_clause without clause is;
    only = λ clause is. absurd (no_clause without clause is);
  }

  pub not_fitting : HasNoPair (signature_at P funs h) → (IsTrue false ↔ Fits P funs h p)
  not_fitting without = (λ (holds : IsTrue false). absurd (cc), λ (fits : Fits P funs h p). absurd (no_clause without fits.clause fits.says))

  -- for a function that was found
  pub found_answer : (f : Function) → IsCalled (signature_at P funs h) h f → (r : Result Clause ClauseEnd) → IsAnswered (subject_of f) f.tparams f.funs.now p r → Answer P funs h p r
  found_answer f called r told =
      answer (signature_of f) f.leading.now f.last.now called.signature refl r
      (subst (λ (x : Head). IsAnswered (subject x (signature_of f) f.leading.now f.last.now) f.tparams f.funs.now p r) called.head told)

  pub found_fitting : (f : Function) → IsCalled (signature_at P funs h) h f → (b : Bool) →
      (IsTrue b ↔ (HasResult (subject_of f) p × (length f.leading.now + (says (subject_of f) p).named ≤ CLAUSE_VARIABLES))) → (IsTrue b ↔ Fits P funs h p)
  found_fitting f called b told =
      fitting (signature_of f) f.leading.now f.last.now called.signature refl b
      (subst (λ (x : Head). let s = subject x (signature_of f) f.leading.now f.last.now in IsTrue b ↔ (HasResult s p × (length f.leading.now + (says s p).named ≤ CLAUSE_VARIABLES))) called.head told)

-- the numbers of a definition's variables, and of a function variable's
numbered : (f : Function) (signature : Signature) → signature ≡ signature_of f → length signature.params < 2 ^ 32 → length signature.funs < 2 ^ 32 → IsNumbered f
numbered f signature is params funs =
    let count : length signature.params ≡ length f.leading.now + 2 = ap (λ (s : Signature). length s.params) is ∙ length-append f.leading.now (f.last.now ∷ f.last.now ∷ []) in
    let own : length signature.funs ≡ length f.funs.now = ap (λ (s : Signature). length s.funs) is in
    record { variables = omega (arith, count, params); functions = omega (arith, own, funs) }

pub numbered_definition : (P : Program) (funs : List FnType) (n : ℕ) (f : Function) → IsCounted P funs (Def n) → IsCalled (signature_at P funs (Def n)) (Def n) f → IsNumbered f
numbered_definition P funs n f counted called =
    let found = mapped_some of_definition (slice_get P.defs n) (signature_of f) called.signature in
    let short = counted found.0 found.1 in
    numbered f (of_definition found.0) found.2 short.0 short.1

pub numbered_variable : (P : Program) (funs : List FnType) (i : ℕ) (f : Function) → IsCounted P funs (FnVar i) → IsCalled (signature_at P funs (FnVar i)) (FnVar i) f → IsNumbered f
numbered_variable P funs i f counted called =
    let found = mapped_some of_variable (slice_get funs i) (signature_of f) called.signature in
    numbered f (of_variable found.0) found.2 (counted found.0 found.1) (lit< tt)

-- a comparison stands there
abbrev pub IsCompared : Program → List FnType → Head → Type 0
IsCompared P funs h = signature_at P funs h ≡ Some comparison

-- for a comparison of two words
module _ (P : Program) (funs : List FnType) (h : Head) (p : Prop) (stands : IsCompared P funs h) where
  pub compared_answer : (r : Result Clause ClauseEnd) → IsAnswered (compared h) 0 [] p r → Answer P funs h p r
  compared_answer = answer P funs h p comparison [] type.Word stands refl

  -- a property names three variables at most
  few_named : (s : Subject) (p : Prop) → (says s p).named ≤ 3
  few_named s Comm = lit≤ tt
  few_named s Assoc = lit≤ tt
  few_named s Idem = lit≤ tt
  few_named s Sel = lit≤ tt
  few_named s Refl = lit≤ tt
  few_named s Irrefl = lit≤ tt
  few_named s Sym = lit≤ tt
  few_named s Antisym = lit≤ tt
  few_named s Asym = lit≤ tt
  few_named s Trans = lit≤ tt
  few_named s Conn = lit≤ tt

  pub compared_fitting : (b : Bool) → (IsTrue b ↔ HasResult (compared h) p) → (IsTrue b ↔ Fits P funs h p)
  compared_fitting b told =
      fitting P funs h p comparison [] type.Word stands refl b (λ holds. (told.0 holds, omega (arith, few_named (compared h) p)), λ both. told.1 both.0)
