-- The largest set of positions that no self-call raises decides descent.
use Rattle.std.proofs.Common.{◌≡◌, ◌⊎◌, ℕ, suc, ◌<◌, inl, inr, List, [], ◌∷◌, length, get_or, Some, slice_get, refl, sym, ◌∙◌, subst}
use Rattle.std.specs.List.{All}
use Rattle.std.proofs.lemmas.List.Elements.{All-nil, All-cons, All-head, All-tail, All-weaker}
use Rattle.std.proofs.lemmas.Bool.{cases_order}
use Rattle.std.proofs.lemmas.Option.{same_Some}
use Rattle.px_terms.specs.declared.program.Def as definition
use Rattle.px_terms.specs.declared.program.Program.{Program}
use Rattle.px_terms.specs.Descent.{Standing, self_calls, Lowers, Keeps, Descends, AllDescend, IsKept, IsStuck, IsFirstStuck}
use Rattle.px_descent.specs.Largest.{LowersKept, LargestServes}
use Rattle.px_descent.proofs.Lists.{all_at}

-- some position of the list is lowered
abbrev pub LowersOne : List ℕ → List Standing → Type 0
LowersOne positions args = (i p : ℕ) × (slice_get positions i ≡ Some p) × Lowers args p

module _ (P : Program) (n : ℕ) (D : definition.Def) where
  -- Kept positions of which each of the calls lowers one.
  record Chosen (calls : List (List Standing)) : Type 0 where
    positions : List ℕ
    kept : All (IsKept P n D) positions
    lowers : All (LowersOne positions) calls

  -- where each call lowers a kept position, these positions together serve
  chosen : (calls : List (List Standing)) → All (LowersKept P n D) calls → Chosen calls
  chosen [] all = record { positions = []; kept = All-nil (IsKept P n D); lowers = All-nil (LowersOne []) }
  chosen (args ∷ calls) all =
      let one : LowersKept P n D args = All-head (LowersKept P n D) args calls all in
      let rest : Chosen calls = chosen calls (All-tail (LowersKept P n D) args calls all) in
      record {
        positions = one.position ∷ rest.positions;
        kept = All-cons (IsKept P n D) one.position rest.positions one.kept rest.kept;
        lowers =
            All-cons (LowersOne (one.position ∷ rest.positions)) args calls (0, one.position, refl, one.lowered)
            (All-weaker (LowersOne rest.positions) (LowersOne (one.position ∷ rest.positions))
            (λ other found. (suc found.0, found.1, found.2, found.3)) calls rest.lowers);
      }

  -- where the largest set serves, some set does
  pub serves_descends : LargestServes P n D → Descends P n D
  serves_descends serves =
      let some : Chosen (self_calls P n D) = chosen (self_calls P n D) serves in
      record {
        positions = some.positions;
        within = All-weaker (IsKept P n D) (λ p. p < length D.params) (λ p kept. kept.within) some.positions some.kept;
        falls = λ k d below. record {
          never_raised = λ i e inside. (some.kept i e inside).kept k d below;
          lowered = some.lowers k d below;
        };
      }

  -- where some set serves, the largest one does
  pub descends_serves : Descends P n D → LargestServes P n D
  descends_serves descends k d below =
      let found = (descends.falls k d below).lowered in
      record {
        position = found.1;
        kept = record {
          within = all_at (λ p. p < length D.params) descends.positions found.0 found.1 descends.within found.2;
          kept = λ j e inside. all_at (Keeps (get_or (self_calls P n D) j e)) descends.positions found.0 found.1
              (descends.falls j e inside).never_raised found.2;
        };
        lowered = found.3;
      }

  -- where the largest set serves, no self-call is stuck
  pub none_stuck : LargestServes P n D → (call : ℕ) → ¬ IsStuck P n D call
  none_stuck serves call stuck =
      let found : LowersKept P n D stuck.args = all_at (LowersKept P n D) (self_calls P n D) call stuck.args serves stuck.stands in
      stuck.stuck found.position found.kept found.lowered

-- a definition with a self-call that is stuck does not descend
pub stuck_not_descends : (P : Program) (n : ℕ) (D : definition.Def) (call : ℕ) → IsStuck P n D call → ¬ Descends P n D
stuck_not_descends P n D call stuck descends = none_stuck P n D (descends_serves P n D descends) call stuck

-- where there is a first self-call that is stuck, not every definition descends
pub stuck_excludes : (P : Program) (n call : ℕ) → IsFirstStuck P n call → ¬ AllDescend P
stuck_excludes P n call first all = stuck_not_descends P n first.D call first.stuck (all.each n first.D first.stands)

-- of two such self-calls the definition of neither comes first
not_before : (P : Program) (n call m other : ℕ) → IsFirstStuck P n call → IsFirstStuck P m other → ¬ (n < m)
not_before P n call m other one two below = stuck_not_descends P n one.D call one.stuck (two.earlier_defs n one.D below one.stands)

-- in one definition they are one
same_call : (P : Program) (n call other : ℕ) → IsFirstStuck P n call → IsFirstStuck P n other → call ≡ other
same_call P n call other one two = cases (cases_order call other)
  where
    same : one.D ≡ two.D
    same = same_Some one.D two.D (sym one.stands ∙ two.stands)

    cases : (call ≡ other) ⊎ ((call < other) ⊎ (other < call)) → call ≡ other
    cases (inl is) = is
    cases (inr (inl below)) = absurd (two.earlier_calls call below (subst (λ (D : definition.Def). IsStuck P n D call) same one.stuck))
    cases (inr (inr below)) = absurd (one.earlier_calls other below (subst (λ (D : definition.Def). IsStuck P n D other) (sym same) two.stuck))

-- there is at most one first self-call that is stuck
pub one_first : (P : Program) (n call m other : ℕ) → IsFirstStuck P n call → IsFirstStuck P m other → (n ≡ m) × (call ≡ other)
one_first P n call m other one two = cases (cases_order n m)
  where
    cases : (n ≡ m) ⊎ ((n < m) ⊎ (m < n)) → (n ≡ m) × (call ≡ other)
    cases (inl is) = (is, same_call P m call other (subst (λ k. IsFirstStuck P k call) is one) two)
    cases (inr (inl below)) = absurd (not_before P n call m other one two below)
    cases (inr (inr below)) = absurd (not_before P m other n call two one below)
