-- Which positions are left after a part, after an arm, and after a term whose parts are walked.
use Rattle.std.proofs.Common.{◌≡◌, ℕ, ◌+◌, ◌<◌, Bool, List, map, length, get_or, take, replicate, ◌++◌, sym, subst, ap, ◌∙◌}
use Rattle.px_terms.specs.declared.term.Term.{Term, out-Term}
use Rattle.px_terms.specs.declared.term.Term.TheOpen.{Term-F}
use Rattle.px_terms.specs.declared.term.Term.TheVariants as term
use Rattle.px_terms.specs.declared.types.Ty.{Ty}
use Rattle.px_terms.specs.declared.types.Fun.{Fun}
use Rattle.px_terms.specs.declared.program.Program.{Program}
use Rattle.px_terms.specs.Descent.{Standing, walk, under, calls_in, calls_in_arms, field_count}
use Rattle.px_descent.specs.Kept.{own_call, Clears}
use Rattle.px_descent.proofs.Parts.{parts_more, arms_more, rest_calls, calls_are}
use Rattle.px_descent.proofs.Clearing.{clears_both}

module _ (P : Program) (n first : ℕ) (old mid new : List Bool) where
  -- one part more
  pub part_cleared : (parts : List Term) (i : ℕ) (part : Term) (bound : List Standing) → i < length parts → part ≡ get_or parts i part →
      Clears first (calls_in (map (walk P n) (take i parts)) bound) old mid → Clears first (walk P n part bound).calls mid new →
      Clears first (calls_in (map (walk P n) (take (i + 1) parts)) bound) old new
  part_cleared parts i part bound below is before here =
      subst (λ calls. Clears first calls old new) (sym (parts_more P n parts i part bound below is))
      (clears_both first (calls_in (map (walk P n) (take i parts)) bound) (walk P n part bound).calls old mid new before here)

  -- one arm more
  pub arm_cleared : (d : ℕ) (arms : List Term) (i : ℕ) (arm : Term) (on : Standing) (bound around : List Standing) → i < length arms →
      arm ≡ get_or arms i arm → around ≡ replicate (field_count P d i) (under on) ++ bound →
      Clears first (calls_in_arms P d 0 (map (walk P n) (take i arms)) on bound) old mid → Clears first (walk P n arm around).calls mid new →
      Clears first (calls_in_arms P d 0 (map (walk P n) (take (i + 1) arms)) on bound) old new
  arm_cleared d arms i arm on bound around below is stands before here =
      let inside : List Standing = replicate (field_count P d i) (under on) ++ bound in
      let there : Clears first (walk P n arm inside).calls mid new = subst (λ b. Clears first (walk P n arm b).calls mid new) stands here in
      subst (λ calls. Clears first calls old new) (sym (arms_more P n d arms i arm on bound below is))
      (clears_both first (calls_in_arms P d 0 (map (walk P n) (take i arms)) on bound) (walk P n arm inside).calls old mid new before there)

  -- the rest of a term after itself
  pub term_cleared : (t : Term) (y : Term-F Term) (bound : List Standing) → out-Term t ≡ y → Clears first (own_call P n t bound) old mid →
      Clears first (rest_calls P n y bound) mid new → Clears first (walk P n t bound).calls old new
  term_cleared t y bound is itself rest =
      subst (λ calls. Clears first calls old new) (sym (calls_are P n t y bound is))
      (clears_both first (own_call P n t bound) (rest_calls P n y bound) old mid new itself rest)

  -- a call: itself, and then its arguments
  pub call_cleared : (t : Term) (f : Fun) (funs : List Fun) (args listed : List Term) (bound : List Standing) → t ≡ term.Call f funs args →
      listed ≡ args → Clears first (own_call P n t bound) old mid → Clears first (calls_in (map (walk P n) listed) bound) mid new →
      Clears first (walk P n t bound).calls old new
  call_cleared t f funs args listed bound is lists itself parts =
      term_cleared t (Term-F.Call f funs args) bound (ap out-Term is ∙ term.outs-Call f funs args) itself
      (subst (λ ts. Clears first (calls_in (map (walk P n) ts) bound) mid new) lists parts)

-- a match: what it is on, and then its arms
pub match_cleared : (P : Program) (n first : ℕ) (old mid late new : List Bool) (t on read shown : Term) (d : ℕ) (types : List Ty)
    (arms listed : List Term) (stands : Standing) (bound : List Standing) → t ≡ term.Match on d types arms → read ≡ on → shown ≡ on →
    stands ≡ (walk P n shown bound).stands → listed ≡ arms → Clears first (own_call P n t bound) old mid →
    Clears first (walk P n read bound).calls mid late → Clears first (calls_in_arms P d 0 (map (walk P n) listed) stands bound) late new →
    Clears first (walk P n t bound).calls old new
match_cleared P n first old mid late new t on read shown d types arms listed stands bound is reads shows says lists itself scrutinee cases =
    let seen : Standing = (walk P n on bound).stands in
    let same : stands ≡ seen = says ∙ ap (λ (s : Term). (walk P n s bound).stands) shows in
    let one : Clears first (walk P n on bound).calls mid late =
    subst (λ (s : Term). Clears first (walk P n s bound).calls mid late) reads scrutinee in
    let listed_arms : Clears first (calls_in_arms P d 0 (map (walk P n) arms) stands bound) late new =
    subst (λ ts. Clears first (calls_in_arms P d 0 (map (walk P n) ts) stands bound) late new) lists cases in
    let two : Clears first (calls_in_arms P d 0 (map (walk P n) arms) seen bound) late new =
    subst (λ s. Clears first (calls_in_arms P d 0 (map (walk P n) arms) s bound) late new) same listed_arms in
    term_cleared P n first old mid new t (Term-F.Match on d types arms) bound (ap out-Term is ∙ term.outs-Match on d types arms) itself
    (clears_both first (walk P n on bound).calls (calls_in_arms P d 0 (map (walk P n) arms) seen bound) mid late new one two)
