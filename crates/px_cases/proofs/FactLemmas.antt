-- What a fact with constructors or literals on both sides gives.
use Rattle.std.proofs.Common.{◌≡◌, ◌≢◌, ◌↔◌, IsTrue, Bool, true, false, not, nat_eq, refl, ℕ, zero, suc, ◌+◌, ◌<◌, ◌≤◌, min, List, [], ◌∷◌, ◌++◌, length, drop, get_or, Result, Ok, Err, IfOk, MatchResult, Some, IsSome, slice_get, sym, subst, ap, ◌∙◌, arith, add-one, append_assoc, append-nil}
use Rattle.std.proofs.lemmas.Bool.{eq-eqb, ne_eqb}
use Rattle.std.specs.Prelude.{IfErr}
use Rattle.px_terms.specs.declared.types.Ty.{Ty}
use Rattle.px_terms.specs.declared.term.Term.{Term, out-Term}
use Rattle.px_terms.specs.declared.term.Term.TheVariants as term
use Rattle.px_terms.specs.declared.term.Term.TheOpen.{Term-F}
use Rattle.px_terms.specs.declared.clause.Equation.{Equation}
use Rattle.px_terms.specs.declared.sequent.Sequent.{Sequent}
use Rattle.px_terms.specs.Sequents.{IsWithinLimits}
use Rattle.px_terms.specs.Rows.{HaveOneHead, IsInjected, pairs_equal, with_facts, HeadsClash, constructors, literals}
use Rattle.px_terms.specs.Clauses.{equals}
use Rattle.px_cases.specs.declared.ends.SplitEnd.{SplitEnd}
use Rattle.px_cases.specs.declared.ends.SplitEnd.TheVariants as ends
use Rattle.px_cases.specs.Ends.{IsAdded, IsUneven}
use Rattle.px_cases.proofs.Lists.{both_false, found_one}

-- two terms are one constructor on one list of fields each
pub one_fields : (s t : Term) (fields parts others pieces : List Term) → HaveOneHead s t fields parts → HaveOneHead s t others pieces → (fields ≡ others) × (parts ≡ pieces)
one_fields s t fields parts others pieces a b =
    let left : Term-F.Con a.datatype a.con a.types fields ≡ Term-F.Con b.datatype b.con b.types others = sym a.left ∙ b.left in
    let right : Term-F.Con a.datatype a.con a.us parts ≡ Term-F.Con b.datatype b.con b.us pieces = sym a.right ∙ b.right in
    let fields_are : fields ≡ others = cc in
    let parts_are : parts ≡ pieces = cc in
    (fields_are, parts_are)

-- there is at most one such child
pub one_child : (s : Sequent) (e : Equation) (child other : Sequent) → IsAdded s e child → IsAdded s e other → child ≡ other
one_child s e child other a b =
    let same = one_fields e.left e.right a.fields a.parts b.fields b.parts a.one_head b.one_head in
    a.is ∙ (ap (λ (ts : List Term). with_facts s (pairs_equal ts a.parts)) same.0 ∙ (ap (λ (ts : List Term). with_facts s (pairs_equal b.fields ts)) same.1 ∙ sym b.is))

-- the child of the fact's sides
pub injected : (s : Sequent) (j : ℕ) (e : Equation) (child : Sequent) → slice_get s.facts j ≡ Some e → IsAdded s e child → IsInjected s j child
injected s j e child found added = record { e = e; fields = added.fields; parts = added.parts; stands = found; one_head = added.one_head; is = added.is }

-- the sides of the fact's child
pub sides_of : (s : Sequent) (j : ℕ) (e : Equation) (child : Sequent) → slice_get s.facts j ≡ Some e → IsInjected s j child → IsAdded s e child
sides_of s j e child found inject =
    let one : inject.e ≡ e = found_one s.facts j inject.e e inject.stands found in
    subst (λ (x : Equation). IsAdded s x child) one (record { fields = inject.fields; parts = inject.parts; one_head = inject.one_head; is = inject.is })

module _ (s : Sequent) (j : ℕ) (e : Equation) (found : slice_get s.facts j ≡ Some e) where
  pub inject_ok : (r : Result Sequent SplitEnd) → IfOk r (λ child. IsAdded s e child × IsWithinLimits child) → IfOk r (λ child. IsInjected s j child × IsWithinLimits child)
  inject_ok (Ok child) both = (injected s j e child found both.0, both.1)
  inject_ok (Err end) both = both

  pub inject_only : (r : Result Sequent SplitEnd) → IfOk r (λ child. IsAdded s e child × IsWithinLimits child) → IfErr r (IsUneven s e) → (child : Sequent) → IsInjected s j child → IsWithinLimits child → MatchResult r (λ x. x ≡ child) (λ end. end ≡ ends.NoMemory)
  inject_only (Ok x) both end child is fits = one_child s e x child both.0 (sides_of s j e child found is)
  inject_only (Err ends.NotSameHead) both end child is fits = absurd (end child (sides_of s j e child found is))
  inject_only (Err ends.Oversize) both end child is fits = absurd (end.2 (subst IsWithinLimits (one_child s e child end.0 (sides_of s j e child found is) end.1) fits))
  inject_only (Err ends.NoMemory) both end child is fits = refl
  inject_only (Err ends.NotData) both end child is fits = absurd end
  inject_only (Err ends.IllTyped) both end child is fits = absurd end
  inject_only (Err ends.NoSuchFact) both end child is fits = absurd end

  pub inject_other_head : (r : Result Sequent SplitEnd) → IfErr r (IsUneven s e) → r ≡ Err ends.NotSameHead → IsSome (slice_get s.facts j) × ((child : Sequent) → ¬ IsInjected s j child)
  inject_other_head r end is =
      let none : (child : Sequent) → ¬ IsAdded s e child = subst (λ (q : Result Sequent SplitEnd). IfErr q (IsUneven s e)) is end in
      (rw found refl, λ child inject. none child (sides_of s j e child found inject))

  pub inject_oversize : (r : Result Sequent SplitEnd) → IfErr r (IsUneven s e) → r ≡ Err ends.Oversize → (child : Sequent) × IsInjected s j child × ¬ IsWithinLimits child
  inject_oversize r end is =
      let over : (child : Sequent) × IsAdded s e child × ¬ IsWithinLimits child = subst (λ (q : Result Sequent SplitEnd). IfErr q (IsUneven s e)) is end in
      (over.0, injected s j e over.0 found over.1, over.2)

  pub inject_never : (r : Result Sequent SplitEnd) → IfErr r (IsUneven s e) → (end : SplitEnd) → ¬ IsUneven s e end → r ≢ Err end
  inject_never r told end never is = never (subst (λ (q : Result Sequent SplitEnd). IfErr q (IsUneven s e)) is told)

rest_of : (xs : List Term) (i : ℕ) (x : Term) → i < length xs → x ≡ get_or xs i x → drop i xs ≡ x ∷ drop (suc i) xs
rest_of [] i x within is = absurd (omega arith)
rest_of (y ∷ ys) zero x within is = ap (λ z. z ∷ ys) (sym is)
rest_of (y ∷ ys) (suc i) x within is =
    let below : i < length ys = omega arith in
    rest_of ys i x below is

-- one more pair
pub pair_more : (fields parts : List Term) (i : ℕ) (field part left right : Term) (before now all : List Equation) → i < min (length fields) (length parts) → field ≡ get_or fields i field → part ≡ get_or parts i part → left ≡ field → right ≡ part → now ≡ before ++ record { left = left; right = right } ∷ [] → before ++ pairs_equal (drop i fields) (drop i parts) ≡ all → now ++ pairs_equal (drop (i + 1) fields) (drop (i + 1) parts) ≡ all
pair_more fields parts i field part left right before now all within is also left_is right_is pushed so_far =
    let first : i < length fields = omega (arith, within) in
    let second : i < length parts = omega (arith, within) in
    let fields_are : drop i fields ≡ field ∷ drop (i + 1) fields = rest_of fields i field first is ∙ ap (λ (n : ℕ). field ∷ drop n fields) (sym (add-one i)) in
    let parts_are : drop i parts ≡ part ∷ drop (i + 1) parts = rest_of parts i part second also ∙ ap (λ (n : ℕ). part ∷ drop n parts) (sym (add-one i)) in
    let pair : ◌≡◌ {A = Equation} (record { left = left; right = right }) (equals field part) = λ i. record { left = left_is i; right = right_is i } in
    let split : pairs_equal (drop i fields) (drop i parts) ≡ equals field part ∷ pairs_equal (drop (i + 1) fields) (drop (i + 1) parts) = ap (λ (ts : List Term). pairs_equal ts (drop i parts)) fields_are ∙ ap (λ (ts : List Term). pairs_equal (field ∷ drop (i + 1) fields) ts) parts_are in
    ap (λ (es : List Equation). es ++ pairs_equal (drop (i + 1) fields) (drop (i + 1) parts)) pushed
    ∙ (append_assoc before (record { left = left; right = right } ∷ []) (pairs_equal (drop (i + 1) fields) (drop (i + 1) parts))
    ∙ (ap (λ (p : Equation). before ++ p ∷ pairs_equal (drop (i + 1) fields) (drop (i + 1) parts)) pair
    ∙ (ap (λ (es : List Equation). before ++ es) (sym split) ∙ so_far)))

no_pairs : (fields : List Term) → pairs_equal fields [] ≡ []
no_pairs [] = refl
no_pairs (x ∷ xs) = refl

pairs_over : (fields parts : List Term) (i : ℕ) → min (length fields) (length parts) ≤ i → pairs_equal (drop i fields) (drop i parts) ≡ []
pairs_over [] parts zero past = refl
pairs_over [] parts (suc i) past = refl
pairs_over (x ∷ xs) [] zero past = refl
pairs_over (x ∷ xs) [] (suc i) past = no_pairs (drop i xs)
pairs_over (x ∷ xs) (y ∷ ys) zero past = absurd (omega arith)
pairs_over (x ∷ xs) (y ∷ ys) (suc i) past =
    let rest : min (length xs) (length ys) ≤ i = omega arith in
    pairs_over xs ys i rest

-- no pair is left where one of the lists has ended
pub pairs_end : (fields parts : List Term) (i : ℕ) (now all : List Equation) → min (length fields) (length parts) ≤ i → now ++ pairs_equal (drop i fields) (drop i parts) ≡ all → now ≡ all
pairs_end fields parts i now all past so_far = sym (append-nil now) ∙ (ap (λ (es : List Equation). now ++ es) (sym (pairs_over fields parts i past)) ∙ so_far)

-- two layers with different heads
abbrev pub ClashAt : Term-F Term → Term-F Term → Type 0
ClashAt (Term-F.Con d k types fields) (Term-F.Con e l us parts) = d ≡ e → k ≢ l
ClashAt (Term-F.Lit w) (Term-F.Lit x) = w ≢ x
ClashAt _ _ = ⊥

-- terms that clash do so by their layers
pub clash_at : (s t : Term) → HeadsClash s t → ClashAt (out-Term s) (out-Term t)
clash_at s t (constructors left right other) = rw (left, right) other
clash_at s t (literals left right other) = rw (left, right) other

-- two numbers differ where the test says so
pub differs : (x y : ℕ) → IsTrue (not (nat_eq x y)) ↔ (x ≢ y)
differs x y = (λ (told : IsTrue (not (nat_eq x y))) (same : x ≡ y). both_false (not (nat_eq x y)) (ap not (eq-eqb x y same)) told, λ (other : x ≢ y). ap not (ne_eqb x y other))

-- two constructors clash where their numbers differ
pub of_constructors : (s t : Term) (d k e l : ℕ) (types us : List Ty) (fields parts : List Term) (answer : Bool) → s ≡ term.Con d k types fields → t ≡ term.Con e l us parts → (IsTrue answer ↔ (d ≡ e → k ≢ l)) → IsTrue answer ↔ HeadsClash s t
of_constructors s t d k e l types us fields parts answer is also exact =
    let left : out-Term s ≡ Term-F.Con d k types fields = ap out-Term is ∙ term.outs-Con d k types fields in
    let right : out-Term t ≡ Term-F.Con e l us parts = ap out-Term also ∙ term.outs-Con e l us parts in
    (λ (told : IsTrue answer). constructors left right (exact.0 told), λ (clash : HeadsClash s t). exact.1 (subst (λ (x : Term-F Term). ClashAt (Term-F.Con d k types fields) x) right (subst (λ (x : Term-F Term). ClashAt x (out-Term t)) left (clash_at s t clash))))

-- two literals clash where they differ
pub of_literals : (s t : Term) (w x : ℕ) → s ≡ term.Lit w → t ≡ term.Lit x → IsTrue (not (nat_eq w x)) ↔ HeadsClash s t
of_literals s t w x is also =
    let left : out-Term s ≡ Term-F.Lit w = ap out-Term is ∙ term.outs-Lit w in
    let right : out-Term t ≡ Term-F.Lit x = ap out-Term also ∙ term.outs-Lit x in
    (λ (told : IsTrue (not (nat_eq w x))). literals left right ((differs w x).0 told), λ (clash : HeadsClash s t). (differs w x).1 (subst (λ (y : Term-F Term). ClashAt (Term-F.Lit w) y) right (subst (λ (y : Term-F Term). ClashAt y (out-Term t)) left (clash_at s t clash))))
