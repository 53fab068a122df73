-- What a search answers part by part, arm by arm, and in a whole term.
use Rattle.std.proofs.Common.{◌≡◌, ℕ, ◌+◌, ◌<◌, List, map, length, get_or, take, drop, replicate, ◌++◌, Result, sym, subst, ap, ◌∙◌}
use Rattle.std.specs.Result.{IsErrAnd}
use Rattle.px_terms.specs.declared.types.Ty.{Ty}
use Rattle.px_terms.specs.declared.types.Fun.{Fun}
use Rattle.px_terms.specs.declared.term.Term.{Term, out-Term}
use Rattle.px_terms.specs.declared.term.Term.TheOpen.{Term-F}
use Rattle.px_terms.specs.declared.term.Term.TheVariants as term
use Rattle.px_terms.specs.Descent.{Standing, Seen, under, calls_in, calls_in_arms, field_count}
use Rattle.px_descent.specs.declared.end.NoDescent.{NoDescent}
use Rattle.px_descent.specs.declared.stuck.Search.{Search}
use Rattle.px_descent.specs.Kept.{own_call}
use Rattle.px_descent.specs.Searches.{searched, AllLowered, NamesStuck, Searches}
use Rattle.px_descent.proofs.Parts.{parts_more, arms_more, parts_split, cases_split, rest_calls, calls_are}
use Rattle.px_descent.proofs.Passing.{both_passed, stuck_front, stuck_back, goes_on, passed_on}

module _ (s : Search) where
  -- what is seen of a term in the definition that is searched
  abbrev seen : Term → Seen
  seen = searched s

  -- the self-calls in the first parts
  abbrev pub part_calls : List Term → List Standing → List (List Standing)
  part_calls parts bound = calls_in (map seen parts) bound

  -- the self-calls in the first arms
  abbrev pub arm_calls : ℕ → List Term → Standing → List Standing → List (List Standing)
  arm_calls d arms on bound = calls_in_arms s.program.now d 0 (map seen arms) on bound

  module _ (parts : List Term) (i : ℕ) (part : Term) (bound : List Standing) (before passed : ℕ) (below : i < length parts)
      (is : part ≡ get_or parts i part) (so_far : AllLowered s (part_calls (take i parts) bound) before passed) where
    -- one part more
    pub part_passed : (after : ℕ) → AllLowered s (seen part bound).calls passed after →
        AllLowered s (part_calls (take (i + 1) parts) bound) before after
    part_passed after here =
        subst (λ calls. AllLowered s calls before after) (sym (parts_more s.program.now s.def parts i part bound below is))
        (both_passed s (part_calls (take i parts) bound) (seen part bound).calls before passed after so_far here)

    -- stuck in this part
    pub part_stuck : (r : Result ℕ NoDescent) (end : NoDescent) → IsErrAnd r (λ e. e ≡ end) → NamesStuck s (seen part bound).calls passed end →
        Searches s (part_calls parts bound) before r
    part_stuck r end same here =
        let up_to : NamesStuck s (part_calls (take (i + 1) parts) bound) before end =
        subst (λ calls. NamesStuck s calls before end) (sym (parts_more s.program.now s.def parts i part bound below is))
        (stuck_back s (part_calls (take i parts) bound) (seen part bound).calls before passed end so_far here) in
        passed_on s (part_calls parts bound) before r end same
        (subst (λ calls. NamesStuck s calls before end) (sym (parts_split s.program.now s.def (i + 1) parts bound))
        (stuck_front s (part_calls (take (i + 1) parts) bound) (part_calls (drop (i + 1) parts) bound) before end up_to))

  module _ (d : ℕ) (arms : List Term) (i : ℕ) (arm : Term) (on : Standing) (bound around : List Standing) (before passed : ℕ)
      (below : i < length arms) (is : arm ≡ get_or arms i arm) (stands : around ≡ replicate (field_count s.program.now d i) (under on) ++ bound)
      (so_far : AllLowered s (arm_calls d (take i arms) on bound) before passed) where
    -- the self-calls of this arm
    inside : List (List Standing)
    inside = (seen arm (replicate (field_count s.program.now d i) (under on) ++ bound)).calls

    -- one arm more
    pub arm_passed : (after : ℕ) → AllLowered s (seen arm around).calls passed after →
        AllLowered s (arm_calls d (take (i + 1) arms) on bound) before after
    unfolding inside
    arm_passed after here =
        subst (λ calls. AllLowered s calls before after) (sym (arms_more s.program.now s.def d arms i arm on bound below is))
        (both_passed s (arm_calls d (take i arms) on bound) inside before passed after so_far
        (subst (λ b. AllLowered s (seen arm b).calls passed after) stands here))

    -- stuck in this arm
    pub arm_stuck : (r : Result ℕ NoDescent) (end : NoDescent) → IsErrAnd r (λ e. e ≡ end) → NamesStuck s (seen arm around).calls passed end →
        Searches s (arm_calls d arms on bound) before r
    unfolding inside
    arm_stuck r end same here =
        let up_to : NamesStuck s (arm_calls d (take (i + 1) arms) on bound) before end =
        subst (λ calls. NamesStuck s calls before end) (sym (arms_more s.program.now s.def d arms i arm on bound below is))
        (stuck_back s (arm_calls d (take i arms) on bound) inside before passed end so_far
        (subst (λ b. NamesStuck s (seen arm b).calls passed end) stands here)) in
        passed_on s (arm_calls d arms on bound) before r end same
        (subst (λ calls. NamesStuck s calls before end) (sym (cases_split s.program.now s.def d (i + 1) arms on bound))
        (stuck_front s (arm_calls d (take (i + 1) arms) on bound)
        (calls_in_arms s.program.now d (0 + length (map seen (take (i + 1) arms))) (map seen (drop (i + 1) arms)) on bound) before end up_to))

  module _ (t : Term) (y : Term-F Term) (bound : List Standing) (before : ℕ) (is : out-Term t ≡ y) where
    -- stuck at the term itself
    pub own_stuck : (r : Result ℕ NoDescent) (end : NoDescent) → IsErrAnd r (λ e. e ≡ end) →
        NamesStuck s (own_call s.program.now s.def t bound) before end → Searches s (seen t bound).calls before r
    own_stuck r end same here =
        passed_on s (seen t bound).calls before r end same
        (subst (λ calls. NamesStuck s calls before end) (sym (calls_are s.program.now s.def t y bound is))
        (stuck_front s (own_call s.program.now s.def t bound) (rest_calls s.program.now s.def y bound) before end here))

    -- past the term itself
    pub rest_passed : (passed : ℕ) (r : Result ℕ NoDescent) → AllLowered s (own_call s.program.now s.def t bound) before passed →
        Searches s (rest_calls s.program.now s.def y bound) passed r → Searches s (seen t bound).calls before r
    rest_passed passed r own rest =
        subst (λ calls. Searches s calls before r) (sym (calls_are s.program.now s.def t y bound is))
        (goes_on s (own_call s.program.now s.def t bound) (rest_calls s.program.now s.def y bound) before passed r own rest)

  -- a call: itself passed, and then what comes of its arguments
  pub call_passed : (t : Term) (f : Fun) (funs : List Fun) (args listed : List Term) (bound : List Standing) (before passed : ℕ)
      (r : Result ℕ NoDescent) → t ≡ term.Call f funs args → listed ≡ args → AllLowered s (own_call s.program.now s.def t bound) before passed →
      Searches s (part_calls listed bound) passed r → Searches s (seen t bound).calls before r
  call_passed t f funs args listed bound before passed r is lists own rest =
      rest_passed t (Term-F.Call f funs args) bound before (ap out-Term is ∙ term.outs-Call f funs args) passed r own
      (subst (λ ts. Searches s (part_calls ts bound) passed r) lists rest)

  module _ (t on read : Term) (d : ℕ) (types : List Ty) (arms : List Term) (bound : List Standing) (before passed : ℕ)
      (is : t ≡ term.Match on d types arms) (reads : read ≡ on) (own : AllLowered s (own_call s.program.now s.def t bound) before passed) where
    -- the layer of the match
    layer : out-Term t ≡ Term-F.Match on d types arms
    layer = ap out-Term is ∙ term.outs-Match on d types arms

    -- a match that is stuck in what it is on
    pub scrutinee_stuck : (r : Result ℕ NoDescent) (end : NoDescent) → IsErrAnd r (λ e. e ≡ end) → NamesStuck s (seen read bound).calls passed end →
        Searches s (seen t bound).calls before r
    scrutinee_stuck r end same here =
        let there : NamesStuck s (seen on bound).calls passed end = subst (λ (x : Term). NamesStuck s (seen x bound).calls passed end) reads here in
        let rest : NamesStuck s (rest_calls s.program.now s.def (Term-F.Match on d types arms) bound) passed end =
        stuck_front s (seen on bound).calls (arm_calls d arms (seen on bound).stands bound) passed end there in
        rest_passed t (Term-F.Match on d types arms) bound before layer passed r own
        (passed_on s (rest_calls s.program.now s.def (Term-F.Match on d types arms) bound) passed r end same rest)

    -- past what it is on, and then what comes of its arms
    pub arms_searched : (after : ℕ) (shown : Term) (stands : Standing) (listed : List Term) (r : Result ℕ NoDescent) →
        AllLowered s (seen read bound).calls passed after → shown ≡ on → stands ≡ (seen shown bound).stands → listed ≡ arms →
        Searches s (arm_calls d listed stands bound) after r → Searches s (seen t bound).calls before r
    arms_searched after shown stands listed r scrutinee shows says lists cases =
        let there : AllLowered s (seen on bound).calls passed after =
        subst (λ (x : Term). AllLowered s (seen x bound).calls passed after) reads scrutinee in
        let same : stands ≡ (seen on bound).stands = says ∙ ap (λ (x : Term). (seen x bound).stands) shows in
        let in_arms : Searches s (arm_calls d arms stands bound) after r =
        subst (λ ts. Searches s (arm_calls d ts stands bound) after r) lists cases in
        let found : Searches s (arm_calls d arms (seen on bound).stands bound) after r =
        subst (λ x. Searches s (arm_calls d arms x bound) after r) same in_arms in
        rest_passed t (Term-F.Match on d types arms) bound before layer passed r own
        (goes_on s (seen on bound).calls (arm_calls d arms (seen on bound).stands bound) passed after r there found)
