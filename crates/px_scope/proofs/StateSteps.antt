-- A loop over parts, each of which may declare something for those after it: what is known so far, and what is one part more.
use Rattle.std.proofs.Common.{◌≡◌, ℕ, ◌+◌, ◌<◌, ◌≤◌, List, length, take, get_or, None, Result, sym, ap, ◌∙◌, subst}
use Rattle.std.specs.List.{fold}
use Rattle.std.specs.Result.{IsErrAnd}
use Rattle.px_scope.specs.declared.ends.ScopeEnd.{ScopeEnd}
use Rattle.px_scope.specs.Uses.{Use, first_broken, along}
use Rattle.px_scope.specs.Answers.{Fails, Resolves}
use Rattle.px_scope.proofs.Firsts.{along_next, along_fails, along_seen, fold_next, fold_seen, passed_on}

-- The names of these parts break no rule, and after them this is known.
pub record Reached {S X : Type 0} (next : S → X → S) (uses : S → X → List Use) (s : S) (xs : List X) (now : S) : Type 0 where
  pub fine : first_broken (along next uses s xs) ≡ None
  pub is : now ≡ fold next s xs

module _ {S X : Type 0} (next : S → X → S) (uses : S → X → List Use) (s : S) (xs : List X) (i : ℕ) (now : S) where
  -- one part more breaks no rule
  pub reached_next : (x : X) (later : S) → i < length xs → x ≡ get_or xs i x → Reached next uses s (take i xs) now → first_broken (uses now x) ≡ None → later ≡ next now x → Reached next uses s (take (i + 1) xs) later
  reached_next x later within at reached fine is = record {
    fine = along_next next uses s xs i x within at reached.fine (subst (λ m. first_broken (uses m x) ≡ None) reached.is fine);
    is = is ∙ ap (λ m. next m x) reached.is ∙ sym (fold_next next uses s xs i x within at);
  }

  -- the next part fails, and so do all
  pub reached_broken : (x : X) (end : ScopeEnd) → i < length xs → x ≡ get_or xs i x → Reached next uses s (take i xs) now → Fails (first_broken (uses now x)) end → Fails (first_broken (along next uses s xs)) end
  reached_broken x end within at reached fails = along_fails next uses s xs i x within at reached.fine end (subst (λ m. Fails (first_broken (uses m x)) end) reached.is fails)

  -- the same of an end that is passed on
  pub reached_fails : {Z : Type 0} (Is : Z → Type 0) (x : X) (r : Result Z ScopeEnd) (end : ScopeEnd) → i < length xs → x ≡ get_or xs i x → Reached next uses s (take i xs) now → IsErrAnd r (λ e. e ≡ end) → Fails (first_broken (uses now x)) end → Resolves (along next uses s xs) Is r
  reached_fails Is x r end within at reached is fails =
      passed_on Is (along next uses s xs) r end is (reached_broken x end within at reached fails)

  -- all parts were seen
  pub reached_all : length xs ≤ i → Reached next uses s (take i xs) now → Reached next uses s xs now
  reached_all ends reached = record {
    fine = along_seen next uses s xs i ends reached.fine;
    is = reached.is ∙ fold_seen next uses s xs i ends;
  }
