-- A count that ends at its type's end, against a limit below that.
use Rattle.std.proofs.Common.{◌≡◌, ◌≤◌, ◌<◌, ◌↔◌, ◌-◌, ◌^◌, ℕ, min, nat_le, IsTrue, sym, subst, arith}
use Rattle.std.proofs.lemmas.Bool.{le-leb, leb-true}
use Rattle.px_base.specs.declared.limits.TheConstants.{SEQUENT_NODES, SEQUENT_DEPTH}
use Rattle.px_terms.specs.declared.term.Term.{Term}
use Rattle.px_terms.specs.Terms.{term_depth}
use Rattle.px_terms.specs.declared.row.Kind.{Kind}
use Rattle.px_prover.specs.declared.deeds.Deed.{Deed as Done}
use Rattle.px_prover.specs.declared.deeds.Deed.TheVariants as done
use Rattle.px_prover.specs.Normalising.{HasLevels}

-- more nodes than the limit are counted
pub more_counted : (n most count : ℕ) → count ≡ min n (2 ^ 64 - 1) → most < count → most < n
more_counted n most count is more = omega arith

-- no more nodes than the limit are counted
pub few_counted : (n most count : ℕ) → count ≡ min n (2 ^ 64 - 1) → most ≤ SEQUENT_NODES → count ≤ most → n ≤ most
few_counted n most count is limited few = omega arith

-- a term's levels against the limit
pub levels_counted : (levels count : ℕ) (t : Term) → count ≡ min (term_depth t) (2 ^ 32 - 1) → levels ≤ SEQUENT_DEPTH → IsTrue (nat_le count levels) ↔ (term_depth t ≤ levels)
levels_counted levels count t is limited = (
  λ (told : IsTrue (nat_le count levels)). let few = leb-true count levels told in omega arith,
  λ (shallow : term_depth t ≤ levels). le-leb count levels (omega arith),
)

-- the levels that a step needs
pub takes_levels : (levels count : ℕ) (k : Kind) (t : Term) (first : Done) → first ≡ done.Takes k t → count ≡ min (term_depth t) (2 ^ 32 - 1) → levels ≤ SEQUENT_DEPTH → IsTrue (nat_le count levels) ↔ HasLevels levels first
takes_levels levels count k t first same is limited = subst (λ (d : Done). IsTrue (nat_le count levels) ↔ HasLevels levels d) (sym same) (levels_counted levels count t is limited)

-- the levels that a body needs
pub leads_levels : (levels count : ℕ) (t : Term) (first : Done) → first ≡ done.Leads t → count ≡ min (term_depth t) (2 ^ 32 - 1) → levels ≤ SEQUENT_DEPTH → IsTrue (nat_le count levels) ↔ HasLevels levels first
leads_levels levels count t first same is limited = subst (λ (d : Done). IsTrue (nat_le count levels) ↔ HasLevels levels d) (sym same) (levels_counted levels count t is limited)
