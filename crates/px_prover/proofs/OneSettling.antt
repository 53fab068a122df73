-- Settling a branch has one result.
use Rattle.std.proofs.Common.{◌≡◌, ℕ, ◌+◌, List, Bool, true, false, Some, slice_get, slice_set, sym, ap, ◌∙◌, subst}
use Rattle.px_terms.specs.declared.term.Term.{Term, out-Term}
use Rattle.px_terms.specs.declared.term.Term.TheOpen.{Term-F}
use Rattle.px_terms.specs.declared.clause.Equation.{Equation}
use Rattle.px_terms.specs.declared.program.Program.{Program}
use Rattle.px_terms.specs.Clauses.{equals}
use Rattle.px_terms.specs.Rows.{HeadsClash, HaveOneHead}
use Rattle.px_terms.specs.Rows as rows
use Rattle.px_prover.specs.Rooms.{whole_side}
use Rattle.px_prover.specs.Norms.{HasNorm}
use Rattle.px_prover.specs.Settling.{facts_used, IsIdle, one_term, one_constructor, FactBecomes, Settled, open_with, Settles, all_settled, passes, clashes, idles, says}
use Rattle.px_prover.proofs.OneNorm.{some_one, none_is_not_some, has_one}

-- the datatype of a constructor
abbrev pub datatype_in : Term-F Term → ℕ
datatype_in (Term-F.Con d k types fields) = d
datatype_in layer = 0

-- the number of a constructor
abbrev pub constructor_in : Term-F Term → ℕ
constructor_in (Term-F.Con d k types fields) = k
constructor_in layer = 0

-- the word of a literal
abbrev pub word_in : Term-F Term → ℕ
word_in (Term-F.Lit w) = w
word_in layer = 0

literal_is_no_constructor : {w d k : ℕ} {layer : Term-F Term} {types : List _} {fields : List Term} → layer ≡ Term-F.Lit w → layer ≡ Term-F.Con d k types fields → ⊥
literal_is_no_constructor a b = cc

false_is_not_true : Some false ≡ Some true → ⊥
false_is_not_true e = cc

-- a fact whose heads clash says more
clash_is_not_idle : {l r : Term} → HeadsClash l r → IsIdle l r → ⊥
clash_is_not_idle (rows.constructors a b differ) (one_term e) =
    let same = sym a ∙ ap out-Term e ∙ b in
    differ (ap datatype_in same) (ap constructor_in same)
clash_is_not_idle (rows.constructors a b differ) (one_constructor h) =
    differ (ap datatype_in (sym a ∙ h.left) ∙ sym (ap datatype_in (sym b ∙ h.right))) (ap constructor_in (sym a ∙ h.left) ∙ sym (ap constructor_in (sym b ∙ h.right)))
clash_is_not_idle (rows.literals a b differ) (one_term e) = differ (ap word_in (sym a ∙ ap out-Term e ∙ b))
clash_is_not_idle (rows.literals a b differ) (one_constructor h) = literal_is_no_constructor a h.left

moved_clash : {l m r q : Term} → l ≡ m → r ≡ q → HeadsClash l r → HeadsClash m q
moved_clash {l} {m} {r} {q} el er h = subst (λ (x : Term). HeadsClash x q) el (subst (λ (y : Term). HeadsClash l y) er h)

moved_idle : {l m r q : Term} → l ≡ m → r ≡ q → IsIdle l r → IsIdle m q
moved_idle {l} {m} {r} {q} el er h = subst (λ (x : Term). IsIdle x q) el (subst (λ (y : Term). IsIdle l y) er h)

same_open : {facts fs : List Equation} {used us : List Bool} → facts ≡ fs → used ≡ us → open_with facts used ≡ open_with fs us
same_open ef eu = λ k. open_with (ef k) (eu k)

same_facts : (i : ℕ) {facts fs : List Equation} {l m r q : Term} → facts ≡ fs → l ≡ m → r ≡ q → slice_set facts i (equals l r) ≡ slice_set fs i (equals m q)
same_facts i ef el er = λ k. slice_set (ef k) i (equals (el k) (er k))

fact_at : (i : ℕ) {facts fs : List Equation} → facts ≡ fs → slice_get facts i ≡ slice_get fs i
fact_at i e = λ k. slice_get (e k) i

flag_at : (i : ℕ) {used us : List Bool} → used ≡ us → slice_get used i ≡ slice_get us i
flag_at i e = λ k. slice_get (e k) i

not_used_at : (i : ℕ) {used us : List Bool} → used ≡ us → slice_set used i false ≡ slice_set us i false
not_used_at i e = λ k. slice_set (e k) i false

-- a fact comes to the same sides
becomes_one : {P : Program} (i : ℕ) {facts fs : List Equation} {used us : List Bool} {l m r q : Term} → FactBecomes P facts used i l r → FactBecomes P fs us i m q →
    facts ≡ fs → used ≡ us → (l ≡ m) × (r ≡ q)
becomes_one {P} i {facts} {fs} {used} {us} {l} {m} {r} {q} a b ef eu =
    let moved : FactBecomes P fs us i l r = subst (λ (x : List Bool). FactBecomes P fs x i l r) eu (subst (λ (x : List Equation). FactBecomes P x used i l r) ef a) in
    let same : moved.fact ≡ b.fact = some_one (sym moved.stands ∙ b.stands) in (
      has_one (subst (λ (e : Equation). HasNorm P (facts_used (slice_set us i false) fs) whole_side e.left l) same moved.left) b.left,
      has_one (subst (λ (e : Equation). HasNorm P (facts_used (slice_set us i false) fs) whole_side e.right r) same moved.right) b.right,
    )

-- settling from a fact on has one result, where the facts are the same
pub settles_one : {P : Program} (i : ℕ) {facts fs : List Equation} {used us : List Bool} {end last : Settled} → Settles P i facts used end → Settles P i fs us last →
    facts ≡ fs → used ≡ us → end ≡ last
settles_one i (all_settled a d) (all_settled b e) ef eu = d ∙ same_open ef eu ∙ sym e
settles_one i (all_settled a d) (passes b f rest) ef eu = absurd (none_is_not_some (sym a ∙ fact_at i ef ∙ b))
settles_one i (all_settled a d) (clashes b h e) ef eu = absurd (none_is_not_some (sym a ∙ fact_at i ef ∙ b.stands))
settles_one i (all_settled a d) (idles b h rest) ef eu = absurd (none_is_not_some (sym a ∙ fact_at i ef ∙ b.stands))
settles_one i (all_settled a d) (says b h g rest) ef eu = absurd (none_is_not_some (sym a ∙ fact_at i ef ∙ b.stands))
settles_one i (passes a f rest) (all_settled b e) ef eu = absurd (none_is_not_some (sym b ∙ sym (fact_at i ef) ∙ a))
settles_one i (passes a f rest) (passes b g others) ef eu = settles_one (i + 1) rest others ef eu
settles_one i (passes a f rest) (clashes b h e) ef eu = absurd (false_is_not_true (sym f ∙ flag_at i eu ∙ b.is_used))
settles_one i (passes a f rest) (idles b h others) ef eu = absurd (false_is_not_true (sym f ∙ flag_at i eu ∙ b.is_used))
settles_one i (passes a f rest) (says b h g others) ef eu = absurd (false_is_not_true (sym f ∙ flag_at i eu ∙ b.is_used))
settles_one i (clashes a h d) (all_settled b e) ef eu = absurd (none_is_not_some (sym b ∙ sym (fact_at i ef) ∙ a.stands))
settles_one i (clashes a h d) (passes b f others) ef eu = absurd (false_is_not_true (sym f ∙ sym (flag_at i eu) ∙ a.is_used))
settles_one i (clashes a h d) (clashes b g e) ef eu = d ∙ sym e
settles_one i (clashes a h d) (idles b g others) ef eu =
    let same = becomes_one i a b ef eu in
    absurd (clash_is_not_idle (moved_clash same.0 same.1 h) g)
settles_one i (clashes a h d) (says b g f others) ef eu =
    let same = becomes_one i a b ef eu in
    absurd (g (moved_clash same.0 same.1 h))
settles_one i (idles a h rest) (all_settled b e) ef eu = absurd (none_is_not_some (sym b ∙ sym (fact_at i ef) ∙ a.stands))
settles_one i (idles a h rest) (passes b f others) ef eu = absurd (false_is_not_true (sym f ∙ sym (flag_at i eu) ∙ a.is_used))
settles_one i (idles a h rest) (clashes b g e) ef eu =
    let same = becomes_one i a b ef eu in
    absurd (clash_is_not_idle g (moved_idle same.0 same.1 h))
settles_one i (idles a h rest) (idles b g others) ef eu =
    let same = becomes_one i a b ef eu in
    settles_one (i + 1) rest others (same_facts i ef same.0 same.1) (not_used_at i eu)
settles_one i (idles a h rest) (says b g f others) ef eu =
    let same = becomes_one i a b ef eu in
    absurd (f (moved_idle same.0 same.1 h))
settles_one i (says a h f rest) (all_settled b e) ef eu = absurd (none_is_not_some (sym b ∙ sym (fact_at i ef) ∙ a.stands))
settles_one i (says a h f rest) (passes b g others) ef eu = absurd (false_is_not_true (sym g ∙ sym (flag_at i eu) ∙ a.is_used))
settles_one i (says a h f rest) (clashes b g e) ef eu =
    let same = becomes_one i a b ef eu in
    absurd (h (moved_clash (sym same.0) (sym same.1) g))
settles_one i (says a h f rest) (idles b g others) ef eu =
    let same = becomes_one i a b ef eu in
    absurd (f (moved_idle (sym same.0) (sym same.1) g))
settles_one i (says a h f rest) (says b g k others) ef eu =
    let same = becomes_one i a b ef eu in
    settles_one (i + 1) rest others (same_facts i ef same.0 same.1) eu
