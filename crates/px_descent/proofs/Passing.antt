-- What a search answers among the calls of two parts in a row.
use Rattle.std.proofs.Common.{◌≡◌, ℕ, ◌+◌, ◌-◌, ◌^◌, ◌<◌, min, List, [], ◌∷◌, ◌++◌, Result, Ok, Err, refl, sym, ap, ◌∙◌, subst, arith, append_assoc, length-append}
use Rattle.std.specs.Result.{IsErrAnd}
use Rattle.std.proofs.lemmas.List.Elements.{All-nil, All-cons, All-append}
use Rattle.px_terms.specs.Descent.{Standing}
use Rattle.px_descent.specs.declared.end.NoDescent.{NoDescent}
use Rattle.px_descent.specs.declared.stuck.Search.{Search}
use Rattle.px_descent.specs.Searches.{Lowered, AllLowered, NamesStuck, Searches}

module _ (s : Search) where
  -- where there are no calls, all of them are lowered
  pub none_passed : (before : ℕ) → before < 2 ^ 32 → AllLowered s [] before before
  none_passed before fits = record { each = All-nil (Lowered s); count = omega arith }

  -- one call that lowers a kept position
  pub one_passed : (args : List Standing) (before after : ℕ) → Lowered s args → after ≡ min (before + 1) (2 ^ 32 - 1) →
      AllLowered s (args ∷ []) before after
  one_passed args before after lowers is = record { each = All-cons (Lowered s) args [] lowers (All-nil (Lowered s)); count = is }

  -- one call that lowers none
  pub one_stuck : (args : List Standing) (before : ℕ) (end : NoDescent) → before < 2 ^ 32 → ¬ Lowered s args → end.def ≡ s.def → end.call ≡ before →
      NamesStuck s (args ∷ []) before end
  one_stuck args before end fits stuck def call = record {
    front = [];
    args = args;
    back = [];
    parts = refl;
    lowered = All-nil (Lowered s);
    stuck = stuck;
    def = def;
    call = omega (arith, call);
  }

  module _ (xs ys : List (List Standing)) (before : ℕ) where
    -- both parts passed
    pub both_passed : (mid after : ℕ) → AllLowered s xs before mid → AllLowered s ys mid after → AllLowered s (xs ++ ys) before after
    both_passed mid after one two = record {
      each = All-append (Lowered s) xs ys one.each two.each;
      count = omega (arith, one.count, two.count, length-append xs ys);
    }

    -- stuck in the first
    pub stuck_front : (end : NoDescent) → NamesStuck s xs before end → NamesStuck s (xs ++ ys) before end
    stuck_front end named = record {
      front = named.front;
      args = named.args;
      back = named.back ++ ys;
      parts = ap (λ calls. calls ++ ys) named.parts ∙ append_assoc named.front (named.args ∷ named.back) ys;
      lowered = named.lowered;
      stuck = named.stuck;
      def = named.def;
      call = named.call;
    }

    -- the first passed, and stuck in the second
    pub stuck_back : (mid : ℕ) (end : NoDescent) → AllLowered s xs before mid → NamesStuck s ys mid end → NamesStuck s (xs ++ ys) before end
    stuck_back mid end one named = record {
      front = xs ++ named.front;
      args = named.args;
      back = named.back;
      parts = ap (λ calls. xs ++ calls) named.parts ∙ sym (append_assoc xs named.front (named.args ∷ named.back));
      lowered = All-append (Lowered s) xs named.front one.each named.lowered;
      stuck = named.stuck;
      def = named.def;
      call = omega (arith, one.count, named.call, length-append xs named.front);
    }

    -- the first passed, and what comes of the second
    pub goes_on : (mid : ℕ) (r : Result ℕ NoDescent) → AllLowered s xs before mid → Searches s ys mid r → Searches s (xs ++ ys) before r
    goes_on mid (Ok after) one two = both_passed mid after one two
    goes_on mid (Err end) one two = stuck_back mid end one two

  -- an end that is passed on
  pub passed_on : (calls : List (List Standing)) (before : ℕ) (r : Result ℕ NoDescent) (end : NoDescent) → IsErrAnd r (λ e. e ≡ end) →
      NamesStuck s calls before end → Searches s calls before r
  passed_on calls before (Ok after) end is named = absurd is
  passed_on calls before (Err e) end is named = subst (λ (x : NoDescent). NamesStuck s calls before x) (sym is) named
