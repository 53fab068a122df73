-- The sizes of an instance's parts, added in words, are its size.
use Rattle.std.proofs.Common.{◌≡◌, ◌+◌, ◌-◌, ◌^◌, ℕ, List, map, min, ap, ◌∙◌, arith}
use Rattle.px_terms.specs.declared.types.Ty.{Ty}
use Rattle.px_terms.specs.declared.term.Term.{Term}
use Rattle.px_terms.specs.declared.term.Term.TheVariants.{Con, Match}
use Rattle.px_terms.specs.declared.clause.Sigma.{Sigma}
use Rattle.px_terms.specs.Types.{tys_size, tys_instance}
use Rattle.px_terms.specs.Terms.{term_size, terms_size, term_instance}
use Rattle.px_terms.specs.TreeEquations.{term_size-Con, term_size-Match, term_instance-Con, term_instance-Match}

two_added : (x y a b s r : ℕ) → a ≡ min x (2 ^ 64 - 1) → b ≡ min y (2 ^ 64 - 1) → s ≡ min (a + b) (2 ^ 64 - 1) → r ≡ min (s + 1) (2 ^ 64 - 1) → r ≡ min (1 + (x + y)) (2 ^ 64 - 1)
two_added x y a b s r a_is b_is s_is r_is = omega (arith, a_is, b_is, s_is, r_is)

three_added : (x y z a b c s u r : ℕ) → a ≡ min x (2 ^ 64 - 1) → b ≡ min y (2 ^ 64 - 1) → c ≡ min z (2 ^ 64 - 1) → s ≡ min (a + b) (2 ^ 64 - 1) → u ≡ min (s + c) (2 ^ 64 - 1) → r ≡ min (u + 1) (2 ^ 64 - 1) → r ≡ min (1 + (x + (y + z))) (2 ^ 64 - 1)
three_added x y z a b c s u r a_is b_is c_is s_is u_is r_is = omega (arith, a_is, b_is, c_is, s_is, u_is, r_is)

-- a constructor's instance: one node above its types and fields
pub con_instance_size : (sigma : Sigma) (t : Term) (d k : ℕ) (types ts sts : List Ty) (fields fs : List Term) (a b s r : ℕ) → t ≡ Con d k types fields → ts ≡ types → sts ≡ sigma.types → fs ≡ fields → a ≡ min (tys_size (tys_instance sts ts)) (2 ^ 64 - 1) → b ≡ min (terms_size (map (term_instance sigma) fs)) (2 ^ 64 - 1) → s ≡ min (a + b) (2 ^ 64 - 1) → r ≡ min (s + 1) (2 ^ 64 - 1) → r ≡ min (term_size (term_instance sigma t)) (2 ^ 64 - 1)
con_instance_size sigma t d k types ts sts fields fs a b s r t_is ts_is sts_is fs_is a_is b_is s_is r_is =
    let whole : term_size (term_instance sigma t) ≡ 1 + (tys_size (tys_instance sigma.types types) + terms_size (map (term_instance sigma) fields)) = ap (λ (x : Term). term_size (term_instance sigma x)) t_is ∙ (ap term_size (term_instance-Con sigma d k types fields) ∙ term_size-Con d k (tys_instance sigma.types types) (map (term_instance sigma) fields)) in
    let of_types : a ≡ min (tys_size (tys_instance sigma.types types)) (2 ^ 64 - 1) = a_is ∙ (ap (λ (x : List Ty). min (tys_size (tys_instance x ts)) (2 ^ 64 - 1)) sts_is ∙ ap (λ (x : List Ty). min (tys_size (tys_instance sigma.types x)) (2 ^ 64 - 1)) ts_is) in
    let of_fields : b ≡ min (terms_size (map (term_instance sigma) fields)) (2 ^ 64 - 1) = b_is ∙ ap (λ (x : List Term). min (terms_size (map (term_instance sigma) x)) (2 ^ 64 - 1)) fs_is in
    rw whole (two_added (tys_size (tys_instance sigma.types types)) (terms_size (map (term_instance sigma) fields)) a b s r of_types of_fields s_is r_is)

-- a match's instance: one node above its scrutinee, types and arms
pub match_instance_size : (sigma : Sigma) (t on o : Term) (d : ℕ) (types ts sts : List Ty) (arms fs : List Term) (a b c s u r : ℕ) → t ≡ Match on d types arms → o ≡ on → ts ≡ types → sts ≡ sigma.types → fs ≡ arms → a ≡ min (term_size (term_instance sigma o)) (2 ^ 64 - 1) → b ≡ min (tys_size (tys_instance sts ts)) (2 ^ 64 - 1) → c ≡ min (terms_size (map (term_instance sigma) fs)) (2 ^ 64 - 1) → s ≡ min (a + b) (2 ^ 64 - 1) → u ≡ min (s + c) (2 ^ 64 - 1) → r ≡ min (u + 1) (2 ^ 64 - 1) → r ≡ min (term_size (term_instance sigma t)) (2 ^ 64 - 1)
match_instance_size sigma t on o d types ts sts arms fs a b c s u r t_is o_is ts_is sts_is fs_is a_is b_is c_is s_is u_is r_is =
    let whole : term_size (term_instance sigma t) ≡ 1 + (term_size (term_instance sigma on) + (tys_size (tys_instance sigma.types types) + terms_size (map (term_instance sigma) arms))) = ap (λ (x : Term). term_size (term_instance sigma x)) t_is ∙ (ap term_size (term_instance-Match sigma on d types arms) ∙ term_size-Match (term_instance sigma on) d (tys_instance sigma.types types) (map (term_instance sigma) arms)) in
    let of_on : a ≡ min (term_size (term_instance sigma on)) (2 ^ 64 - 1) = a_is ∙ ap (λ (x : Term). min (term_size (term_instance sigma x)) (2 ^ 64 - 1)) o_is in
    let of_types : b ≡ min (tys_size (tys_instance sigma.types types)) (2 ^ 64 - 1) = b_is ∙ (ap (λ (x : List Ty). min (tys_size (tys_instance x ts)) (2 ^ 64 - 1)) sts_is ∙ ap (λ (x : List Ty). min (tys_size (tys_instance sigma.types x)) (2 ^ 64 - 1)) ts_is) in
    let of_arms : c ≡ min (terms_size (map (term_instance sigma) arms)) (2 ^ 64 - 1) = c_is ∙ ap (λ (x : List Term). min (terms_size (map (term_instance sigma) x)) (2 ^ 64 - 1)) fs_is in
    rw whole (three_added (term_size (term_instance sigma on)) (tys_size (tys_instance sigma.types types)) (terms_size (map (term_instance sigma) arms)) a b c s u r of_on of_types of_arms s_is u_is r_is)
