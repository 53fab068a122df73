-- Examples: what is done at small terms, and that a comparison of two literals is found with no split and no use.
use Rattle.std.proofs.Common.{arith, ◌≡◌, ℕ, ◌≤◌, List, [], ◌∷◌, true, false, None, slice_get, refl, sym, ap, ◌∙◌, subst}
use Rattle.std.specs.Prelude.{All}
use Rattle.px_base.specs.declared.head.Head.TheVariants.{Wle}
use Rattle.px_terms.specs.declared.term.Term.{Term, out-Term}
use Rattle.px_terms.specs.declared.term.Term.TheVariants as term
use Rattle.px_terms.specs.declared.term.Term.TheOpen.{Term-F}
use Rattle.px_terms.specs.declared.types.Fun.{Fun}
use Rattle.px_terms.specs.declared.clause.Equation.{Equation}
use Rattle.px_terms.specs.declared.clause.Clause.{Clause}
use Rattle.px_terms.specs.declared.program.Program.{Program}
use Rattle.px_terms.specs.declared.sequent.Sequent.{Sequent}
use Rattle.px_terms.specs.Terms.{children_of, with_child, with_child_of}
use Rattle.px_terms.specs.TreeEquations.{term_size-Con, term_depth-Con}
use Rattle.px_terms.specs.Programs.{true_term}
use Rattle.px_terms.specs.Clauses.{equals}
use Rattle.px_terms.specs.Sequents.{first_sequent}
use Rattle.px_prover.specs.declared.limits.TheConstants.{LEAF_PAIRS}
use Rattle.px_prover.specs.Rooms.{Room, whole_side}
use Rattle.px_prover.specs.Deeds.{no_fact, takes, rests, own_deed, permitted}
use Rattle.px_prover.specs.Norms.{Stops, Normal, Parted, Norm, NormParts, left_at, normal, no_part, part, taken, rested}
use Rattle.px_prover.specs.Settling.{facts_used, all_settled, more, none}
use Rattle.px_prover.specs.Closing.{equal}
use Rattle.px_prover.specs.Plain.{IsFound, closes, all_used}

-- what is no longer used is left out
not_used : (a b : Equation) → facts_used (true ∷ false ∷ []) (a ∷ b ∷ []) ≡ a ∷ []
not_used a b = refl

-- no step is taken without a unit
no_unit : (t : Term) → permitted whole_side 0 (takes t) ≡ rests
no_unit t = refl

-- a term without parts at which nothing is done
abbrev as_it_is : ℕ → Term → Normal
as_it_is units t = left_at (record { units = units; term = t; parts = [] }) None

-- nothing is done at a layer without children at which there is nothing to do
stays : (P : Program) (room : Room) (units : ℕ) (t : Term) (layer : Term-F Term) → out-Term t ≡ layer → slice_get (children_of layer) 0 ≡ None →
    own_deed P layer ≡ rests → Norm P [] room units t (as_it_is units t)
stays P room units t layer is childless idle =
    normal (no_part (ap (λ (y : Term-F Term). slice_get (children_of y) 0) is ∙ childless) refl) no_fact
    (sym (ap (λ (y : Term-F Term). permitted room units (own_deed P y)) is ∙ ap (permitted room units) idle)) (rested refl refl)

literal_stays : (P : Program) (room : Room) (units w : ℕ) → Norm P [] room units (term.Lit w) (as_it_is units (term.Lit w))
literal_stays P room units w = stays P room units (term.Lit w) (Term-F.Lit w) (term.outs-Lit w) refl refl

true_stays : (P : Program) (room : Room) (units : ℕ) → Norm P [] room units true_term (as_it_is units true_term)
true_stays P room units = stays P room units true_term (Term-F.Con 0 1 [] []) (term.outs-Con 0 1 [] []) refl refl

-- `wle`
abbrev at_most : Fun
at_most = record { head = Wle; types = [] }

-- wle(2, 3)
abbrev comparison : Term
comparison = term.Call at_most [] (term.Lit 2 ∷ term.Lit 3 ∷ [])

-- its layer
abbrev comparison_layer : Term-F Term
comparison_layer = Term-F.Call at_most [] (term.Lit 2 ∷ term.Lit 3 ∷ [])

is_comparison : out-Term comparison ≡ comparison_layer
is_comparison = term.outs-Call at_most [] (term.Lit 2 ∷ term.Lit 3 ∷ [])

first_stays : with_child comparison 0 (term.Lit 2) ≡ comparison
first_stays = ap (λ (y : Term-F Term). with_child_of y comparison 0 (term.Lit 2)) is_comparison

second_stays : with_child comparison 1 (term.Lit 3) ≡ comparison
second_stays = ap (λ (y : Term-F Term). with_child_of y comparison 1 (term.Lit 3)) is_comparison

-- two literals are compared
two_literals : (P : Program) → own_deed P (out-Term comparison) ≡ takes true_term
two_literals P =
    ap (own_deed P) is_comparison ∙ rw (term.outs-Lit 2, term.outs-Lit 3) refl

true_is_small : whole_side true_term ≡ true
true_is_small = rw (term_size-Con 0 1 [] [], term_depth-Con 0 1 [] []) refl

-- the comparison with the stops of these parts
abbrev with_stops : List Stops → Parted
with_stops parts = record { units = 2000; term = comparison; parts = parts }

-- what a literal is blocked at: nothing
abbrev literal_stops : ℕ → Stops
literal_stops w = (as_it_is 2000 (term.Lit w)).stops

third_part : (P : Program) → NormParts P [] whole_side 2000 comparison 2 (with_stops [])
third_part P = no_part (ap (λ (y : Term-F Term). slice_get (children_of y) 2) is_comparison) refl

second_part : (P : Program) → NormParts P [] whole_side 2000 comparison 1 (with_stops (literal_stops 3 ∷ []))
second_part P =
    part (ap (λ (y : Term-F Term). slice_get (children_of y) 1) is_comparison) (literal_stays P _ 2000 3)
    (subst (λ (t : Term). NormParts P [] whole_side 2000 t 2 (with_stops [])) (sym second_stays) (third_part P)) refl

first_part : (P : Program) → NormParts P [] whole_side 2000 comparison 0 (with_stops (literal_stops 2 ∷ literal_stops 3 ∷ []))
first_part P =
    part (ap (λ (y : Term-F Term). slice_get (children_of y) 0) is_comparison) (literal_stays P _ 2000 2)
    (subst (λ (t : Term). NormParts P [] whole_side 2000 t 1 (with_stops (literal_stops 3 ∷ []))) (sym first_stays) (second_part P)) refl

-- the comparison takes one unit
comparison_norm : (P : Program) → Norm P [] whole_side 2000 comparison (as_it_is 1999 true_term)
comparison_norm P =
    normal (first_part P) no_fact (sym (ap (permitted whole_side 2000) (two_literals P) ∙ rw true_is_small refl)) (taken refl (true_stays P whole_side 1999))

-- the clause wle(2, 3) = True
abbrev says_comparison : Clause
says_comparison = record { tparams = 0; funs = []; vars = []; premises = []; alternatives = equals comparison true_term ∷ [] }

-- its first sequent, without a frame
abbrev to_compare : Sequent
to_compare = first_sequent says_comparison (record { entries = [] })

nothing_left : 0 ≤ LEAF_PAIRS
nothing_left = let small : 0 ≤ 250 = omega arith in small

of_none : {A : Type 0} (Q : A → Type 0) → All Q []
of_none Q = λ k d below. let no : ⊥ = omega arith in absurd no

-- it is found with no split and no use
comparison_is_found : (P : Program) (n : ℕ) → IsFound P n says_comparison 0 0 (all_used to_compare)
comparison_is_found P n =
    closes (record { facts = []; used = []; settles = all_settled refl refl; normal = more (comparison_norm P) (true_stays P whole_side 2000) none; is = refl })
    (record { number = 0; alternative = equals true_term true_term; stands = refl; closes = record { leaves = []; are = equal refl refl; few = nothing_left; each = of_none _ } })
