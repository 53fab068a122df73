-- The nodes that a side of a leaf pair may have: by how much it grows.
use Rattle.std.proofs.Common.{◌≡◌, ◌<◌, ◌≤◌, ◌+◌, ◌-◌, ◌*◌, ◌/◌, ⊎_elim, ◌↔◌, ◌^◌, ◌&&◌, ℕ, List, min, Bool, true, false, IsTrue, nat_le, leb, Option, unwrap_or, refl, sym, ap, subst, ◌∙◌, arith}
use Rattle.std.proofs.Math.Nat.{le-div_iff_mul-le, mul-le-mul_left, zero-mul, mul_comm, add-mul, div-le_self, min-eq_left, min-eq_right}
use Rattle.std.proofs.lemmas.Bool.{cases_lt, le-leb, leb-true}
use Rattle.px_base.specs.declared.limits.TheConstants.{SEQUENT_NODES, SEQUENT_DEPTH}
use Rattle.px_terms.specs.declared.term.Term.{Term}
use Rattle.px_terms.specs.Terms.{term_size, term_depth, replaced}
use Rattle.px_prover.specs.Rooms.{leaf_room}

-- where there are no leaf pairs
pub of_none : (limit whole count before now : ℕ) → whole ≤ limit → count ≡ 0 → whole + count * now ≤ limit + count * before
of_none limit whole count before now small none =
    let here : count * now ≡ 0 = ap (λ (k : ℕ). k * now) none ∙ zero-mul now in
    omega (arith, here, small)

-- where it does not grow
pub no_growth : (limit whole count before now : ℕ) → whole ≤ limit → now ≤ before → whole + count * now ≤ limit + count * before
no_growth limit whole count before now small fewer = let times : count * now ≤ count * before = mul-le-mul_left count fewer in omega (arith, small, times)

by_growth : (rest whole count before growth : ℕ) → 0 < count → (growth ≤ rest / count) ↔ (whole + count * (growth + before) ≤ (rest + whole) + count * before)
by_growth rest whole count before growth some =
    let test = le-div_iff_mul-le {k = count} {x = growth} {y = rest} some in
    let sum : count * (growth + before) ≡ growth * count + count * before = mul_comm count (growth + before) ∙ (add-mul growth before count ∙ ap (λ (x : ℕ). growth * count + x) (mul_comm before count)) in
    (λ few. let times : growth * count ≤ rest = test.0 few in omega (arith, times, sum), λ fits. test.1 (omega (arith, fits, sum)))

grows : (limit whole count before now : ℕ) → whole ≤ limit → before ≤ now → 0 < count → (now - before ≤ (limit - whole) / count) ↔ (whole + count * now ≤ limit + count * before)
grows limit whole count before now small more some =
    let all : limit ≡ (limit - whole) + whole = omega (arith, small) in
    let new : now ≡ (now - before) + before = omega (arith, more) in
    let parts = by_growth (limit - whole) whole count before (now - before) some in (
      λ few. subst (λ (l : ℕ). whole + count * now ≤ l + count * before) (sym all) (subst (λ (n : ℕ). whole + count * n ≤ (limit - whole) + whole + count * before) (sym new) (parts.0 few)),
      λ fits. parts.1 (subst (λ (n : ℕ). whole + count * n ≤ (limit - whole) + whole + count * before) new (subst (λ (l : ℕ). whole + count * now ≤ l + count * before) all fits)),
    )

-- where it grows, and its nodes are counted up to a number
pub may_grow : (limit top whole count before now nodes : ℕ) → nodes ≡ min now top → whole ≤ limit → before ≤ limit → limit + limit < top → 0 < count → before < nodes →
    (nodes - before ≤ (limit - whole) / count) ↔ (whole + count * now ≤ limit + count * before)
may_grow limit top whole count before now nodes counted small part high some more = ⊎_elim
    (λ (over : top < now).
    let at_top : nodes ≡ top = counted ∙ min-eq_right (omega (arith, over)) in
    let quotient : (limit - whole) / count ≤ limit - whole = div-le_self (limit - whole) count in (
      λ few. absurd (omega (arith, few, at_top, quotient, part, high)),
      λ fits. let growth = (grows limit whole count before now small (omega (arith, over, part, high)) some).1 fits in absurd (omega (arith, growth, quotient, part, high, over)),
    ))
    (λ (within : now ≤ top).
    let all : nodes ≡ now = counted ∙ min-eq_left within in
    let exact = grows limit whole count before now small (omega (arith, more, all)) some in
    (λ few. exact.0 (omega (arith, few, all)), λ fits. let growth = exact.1 fits in omega (arith, growth, all)))
    (cases_lt top now)

-- the nodes that are counted tell whether there are nodes left
pub nodes_fit : (whole count before now nodes_now nodes_before nodes_whole : ℕ) → nodes_now ≡ min now (2 ^ 64 - 1) → nodes_before ≡ min before (2 ^ 64 - 1) → nodes_whole ≡ min whole (2 ^ 64 - 1) →
    whole ≤ SEQUENT_NODES → before ≤ SEQUENT_NODES → ¬ (count ≡ 0) → nodes_before < nodes_now →
    IsTrue (leb (nodes_now - nodes_before) ((SEQUENT_NODES - nodes_whole) / count)) ↔ (whole + count * now ≤ SEQUENT_NODES + count * before)
nodes_fit whole count before now nodes_now nodes_before nodes_whole now_is before_is whole_is small part some more =
    let same_before : nodes_before ≡ before = before_is ∙ min-eq_left (omega (arith, part)) in
    let same_whole : nodes_whole ≡ whole = whole_is ∙ min-eq_left (omega (arith, small)) in
    let exact = may_grow SEQUENT_NODES (2 ^ 64 - 1) whole count before now nodes_now now_is small part (omega arith) (omega (arith, some)) (subst (λ (b : ℕ). b < nodes_now) same_before more) in (
      λ told. exact.0 (subst (λ (b : ℕ). nodes_now - b ≤ (SEQUENT_NODES - whole) / count) same_before
          (subst (λ (w : ℕ). nodes_now - nodes_before ≤ (SEQUENT_NODES - w) / count) same_whole (leb-true (nodes_now - nodes_before) ((SEQUENT_NODES - nodes_whole) / count) told))),
      λ fits. le-leb (nodes_now - nodes_before) ((SEQUENT_NODES - nodes_whole) / count) (subst (λ (b : ℕ). nodes_now - b ≤ (SEQUENT_NODES - nodes_whole) / count) (sym same_before)
          (subst (λ (w : ℕ). nodes_now - before ≤ (SEQUENT_NODES - w) / count) (sym same_whole) (exact.1 fits))),
    )

false_is_true : false ≡ true → ⊥
false_is_true e = cc

no_and : (a d : Bool) → ¬ IsTrue a → IsTrue false ↔ IsTrue (a && d)
no_and true d apart = absurd (apart refl)
no_and false d apart = (λ told. told, λ told. told)

with_and : (a d r : Bool) → IsTrue a → IsTrue r ↔ IsTrue d → IsTrue r ↔ IsTrue (a && d)
with_and true d r told exact = exact
with_and false d r told exact = absurd (false_is_true told)

-- the levels that are counted tell whether there are levels left
levels_fit : (depth counted : ℕ) → counted ≡ min depth (2 ^ 32 - 1) → IsTrue (leb counted SEQUENT_DEPTH) ↔ IsTrue (leb depth SEQUENT_DEPTH)
levels_fit depth counted is = ⊎_elim
    (λ (over : 2 ^ 32 - 1 < depth).
    let top : counted ≡ 2 ^ 32 - 1 = is ∙ min-eq_right (omega (arith, over)) in
    (λ told. absurd (let few = leb-true counted SEQUENT_DEPTH told in omega (arith, few, top)), λ told. absurd (let few = leb-true depth SEQUENT_DEPTH told in omega (arith, few, over))))
    (λ (within : depth ≤ 2 ^ 32 - 1).
    let all : counted ≡ depth = is ∙ min-eq_left within in
    (λ told. subst (λ (d : ℕ). IsTrue (leb d SEQUENT_DEPTH)) all told, λ told. subst (λ (d : ℕ). IsTrue (leb d SEQUENT_DEPTH)) (sym all) told))
    (cases_lt (2 ^ 32 - 1) depth)

module _ (count : ℕ) (whole : Term) (path : List ℕ) (before now : Term) where
  -- where no nodes are left there is no room
  pub no_room : (asked : Bool) → IsTrue asked ↔ (term_size whole + count * term_size now ≤ SEQUENT_NODES + count * term_size before) → asked ≡ false → IsTrue false ↔ IsTrue (leaf_room count whole path before now)
  no_room asked exact apart = no_and (nat_le (term_size whole + count * term_size now) (SEQUENT_NODES + count * term_size before)) (nat_le (term_depth (unwrap_or (replaced whole path now) now)) SEQUENT_DEPTH)
      (λ told. false_is_true (sym apart ∙ exact.1 (leb-true (term_size whole + count * term_size now) (SEQUENT_NODES + count * term_size before) told)))

  -- where nodes are left there is room as far as there are levels
  pub room_by_levels : (asked : Bool) → IsTrue asked ↔ (term_size whole + count * term_size now ≤ SEQUENT_NODES + count * term_size before) → asked ≡ true → (found : Option Term) → found ≡ replaced whole path now →
      (new : Term) → unwrap_or found now ≡ new → (levels : ℕ) → levels ≡ min (term_depth new) (2 ^ 32 - 1) → IsTrue (leb levels SEQUENT_DEPTH) ↔ IsTrue (leaf_room count whole path before now)
  room_by_levels asked exact told found found_is new new_is levels levels_is =
      let there : unwrap_or (replaced whole path now) now ≡ new = ap (λ (o : Option Term). unwrap_or o now) (sym found_is) ∙ new_is in
      with_and (nat_le (term_size whole + count * term_size now) (SEQUENT_NODES + count * term_size before)) (nat_le (term_depth (unwrap_or (replaced whole path now) now)) SEQUENT_DEPTH) (leb levels SEQUENT_DEPTH)
      (le-leb (term_size whole + count * term_size now) (SEQUENT_NODES + count * term_size before) (exact.0 told))
      (subst (λ (t : Term). IsTrue (leb levels SEQUENT_DEPTH) ↔ IsTrue (nat_le (term_depth t) SEQUENT_DEPTH)) (sym there) (levels_fit (term_depth new) levels levels_is))
