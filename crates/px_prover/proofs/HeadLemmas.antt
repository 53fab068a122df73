-- The heads of two terms: whether they clash, and whether they are one constructor.
use Rattle.std.proofs.Common.{◌≡◌, ◌≢◌, ◌↔◌, IsTrue, Bool, true, false, not, nat_eq, ℕ, List, ap, ◌∙◌, subst}
use Rattle.std.proofs.lemmas.Bool.{eq-eqb, ne_eqb}
use Rattle.px_terms.specs.declared.types.Ty.{Ty}
use Rattle.px_terms.specs.declared.term.Term.{Term, out-Term}
use Rattle.px_terms.specs.declared.term.Term.TheVariants as term
use Rattle.px_terms.specs.declared.term.Term.TheOpen.{Term-F}
use Rattle.px_terms.specs.Rows.{HeadsClash, constructors, literals, HaveOneHead}
use Rattle.px_prover.specs.Normalising.{HasOneHead}

-- two layers with different heads
abbrev ClashAt : Term-F Term → Term-F Term → Type 0
ClashAt (Term-F.Con d k types fields) (Term-F.Con e l us parts) = d ≡ e → k ≢ l
ClashAt (Term-F.Lit w) (Term-F.Lit x) = w ≢ x
ClashAt _ _ = ⊥

-- terms that clash do so by their layers
clash_at : (s t : Term) → HeadsClash s t → ClashAt (out-Term s) (out-Term t)
clash_at s t (constructors left right other) = rw (left, right) other
clash_at s t (literals left right other) = rw (left, right) other

both_false : (b : Bool) → b ≡ false → b ≡ true → ⊥
both_false b e f = cc

-- two numbers differ where the test says so
pub differs : (x y : ℕ) → IsTrue (not (nat_eq x y)) ↔ (x ≢ y)
differs x y = (λ (told : IsTrue (not (nat_eq x y))) (same : x ≡ y). both_false (not (nat_eq x y)) (ap not (eq-eqb x y same)) told, λ (other : x ≢ y). ap not (ne_eqb x y other))

-- two constructors clash where their numbers differ
pub of_constructors : (s t : Term) (d k e l : ℕ) (types us : List Ty) (fields parts : List Term) (answer : Bool) → s ≡ term.Con d k types fields → t ≡ term.Con e l us parts → (IsTrue answer ↔ (d ≡ e → k ≢ l)) → IsTrue answer ↔ HeadsClash s t
of_constructors s t d k e l types us fields parts answer is also exact =
    let left : out-Term s ≡ Term-F.Con d k types fields = ap out-Term is ∙ term.outs-Con d k types fields in
    let right : out-Term t ≡ Term-F.Con e l us parts = ap out-Term also ∙ term.outs-Con e l us parts in
    (λ (told : IsTrue answer). constructors left right (exact.0 told), λ (clash : HeadsClash s t). exact.1 (subst (λ (x : Term-F Term). ClashAt (Term-F.Con d k types fields) x) right (subst (λ (x : Term-F Term). ClashAt x (out-Term t)) left (clash_at s t clash))))

-- two literals clash where they differ
pub of_literals : (s t : Term) (w x : ℕ) → s ≡ term.Lit w → t ≡ term.Lit x → IsTrue (not (nat_eq w x)) ↔ HeadsClash s t
of_literals s t w x is also =
    let left : out-Term s ≡ Term-F.Lit w = ap out-Term is ∙ term.outs-Lit w in
    let right : out-Term t ≡ Term-F.Lit x = ap out-Term also ∙ term.outs-Lit x in
    (λ (told : IsTrue (not (nat_eq w x))). literals left right ((differs w x).0 told), λ (clash : HeadsClash s t). (differs w x).1 (subst (λ (y : Term-F Term). ClashAt (Term-F.Lit w) y) right (subst (λ (y : Term-F Term). ClashAt y (out-Term t)) left (clash_at s t clash))))
