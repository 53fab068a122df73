-- Terms without a match, along a loop over them and by their heads.
use Rattle.std.proofs.Common.{◌≡◌, ◌↔◌, IsTrue, Bool, true, false, refl, ℕ, zero, suc, ◌+◌, ◌<◌, List, [], ◌∷◌, length, get_or, take, subst, sym, ap, ◌∙◌, arith, add-one}
use Rattle.px_terms.specs.declared.types.Ty.{Ty}
use Rattle.px_terms.specs.declared.types.Fun.{Fun}
use Rattle.px_terms.specs.declared.term.Term.{Term, out-Term}
use Rattle.px_terms.specs.declared.term.Term.TheVariants as term
use Rattle.px_terms.specs.declared.term.Term.TheOpen.{Term-F}
use Rattle.px_terms.specs.Rows.{AreMatchFree, IsMatchFree, free, bound, literal, construction, call, none, more}
use Rattle.px_cases.proofs.Lists.{both_false}

one_more : (ts : List Term) (i : ℕ) (x : Term) → i < length ts → x ≡ get_or ts i x → AreMatchFree (take i ts) → IsMatchFree (out-Term x) → AreMatchFree (take (suc i) ts)
one_more [] i x within is before here = absurd (omega arith)
one_more (t ∷ ts) zero x within is before here = more (subst (λ (y : Term). IsMatchFree (out-Term y)) is here) none
one_more (t ∷ ts) (suc i) x within is (more first others) here =
    let rest : i < length ts = omega arith in
    more first (one_more ts i x rest is others here)

-- one more term without a match
pub next_free : (ts : List Term) (i : ℕ) (x : Term) → i < length ts → x ≡ get_or ts i x → AreMatchFree (take i ts) → IsMatchFree (out-Term x) → AreMatchFree (take (i + 1) ts)
next_free ts i x within is before here = rw add-one (one_more ts i x within is before here)

each_is : (ts : List Term) (i : ℕ) (x : Term) → i < length ts → x ≡ get_or ts i x → AreMatchFree ts → IsMatchFree (out-Term x)
each_is [] i x within is all = absurd (omega arith)
each_is (t ∷ ts) zero x within is (more first others) = subst (λ (y : Term). IsMatchFree (out-Term y)) (sym is) first
each_is (t ∷ ts) (suc i) x within is (more first others) =
    let rest : i < length ts = omega arith in
    each_is ts i x rest is others

-- one term has a match
pub one_has : (ts : List Term) (i : ℕ) (x : Term) (answer : Bool) → i < length ts → x ≡ get_or ts i x → (IsTrue answer ↔ IsMatchFree (out-Term x)) → answer ≡ false → IsTrue false ↔ AreMatchFree ts
one_has ts i x answer within is exact fails = (λ (told : IsTrue false). absurd (both_false false refl told), λ (all : AreMatchFree ts). absurd (both_false answer fails (exact.1 (each_is ts i x within is all))))

fields_free : {d k : ℕ} {types : List Ty} {fields : List Term} → IsMatchFree (Term-F.Con d k types fields) → AreMatchFree fields
fields_free (construction each) = each

args_free : {f : Fun} {funs : List Fun} {args : List Term} → IsMatchFree (Term-F.Call f funs args) → AreMatchFree args
args_free (call each) = each

-- a constructor by its fields
pub of_con : (t : Term) (d k : ℕ) (types : List Ty) (fields listed : List Term) (answer : Bool) → t ≡ term.Con d k types fields → listed ≡ fields → (IsTrue answer ↔ AreMatchFree listed) → IsTrue answer ↔ IsMatchFree (out-Term t)
of_con t d k types fields listed answer is all exact =
    let layer : out-Term t ≡ Term-F.Con d k types fields = ap out-Term is ∙ term.outs-Con d k types fields in
    (λ (told : IsTrue answer). subst IsMatchFree (sym layer) (construction (subst AreMatchFree all (exact.0 told))), λ (whole : IsMatchFree (out-Term t)). exact.1 (subst AreMatchFree (sym all) (fields_free (subst IsMatchFree layer whole))))

-- a call by its arguments
pub of_call : (t : Term) (f : Fun) (funs : List Fun) (args listed : List Term) (answer : Bool) → t ≡ term.Call f funs args → listed ≡ args → (IsTrue answer ↔ AreMatchFree listed) → IsTrue answer ↔ IsMatchFree (out-Term t)
of_call t f funs args listed answer is all exact =
    let layer : out-Term t ≡ Term-F.Call f funs args = ap out-Term is ∙ term.outs-Call f funs args in
    (λ (told : IsTrue answer). subst IsMatchFree (sym layer) (call (subst AreMatchFree all (exact.0 told))), λ (whole : IsMatchFree (out-Term t)). exact.1 (subst AreMatchFree (sym all) (args_free (subst IsMatchFree layer whole))))

pub of_free : (t : Term) (n : ℕ) → t ≡ term.Free n → IsTrue true ↔ IsMatchFree (out-Term t)
of_free t n is = (λ _. subst IsMatchFree (sym (ap out-Term is ∙ term.outs-Free n)) free, λ _. refl)

pub of_bound : (t : Term) (n : ℕ) → t ≡ term.Bound n → IsTrue true ↔ IsMatchFree (out-Term t)
of_bound t n is = (λ _. subst IsMatchFree (sym (ap out-Term is ∙ term.outs-Bound n)) bound, λ _. refl)

pub of_literal : (t : Term) (w : ℕ) → t ≡ term.Lit w → IsTrue true ↔ IsMatchFree (out-Term t)
of_literal t w is = (λ _. subst IsMatchFree (sym (ap out-Term is ∙ term.outs-Lit w)) literal, λ _. refl)
