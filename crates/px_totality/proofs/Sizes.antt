-- Sizes of values: a constructor's fields are smaller than it. What values are to the values of the parameters.
use Rattle.std.proofs.Common.{◌≡◌, ℕ, zero, suc, ◌+◌, ◌<◌, List, [], ◌∷◌, ◌++◌, map, reverse, replicate, length, Some, slice_get, get_or}
use Rattle.std.proofs.Common.{refl, sym, ap, ◌∙◌, subst, arith}
use Rattle.std.specs.Prelude.{sum}
use Rattle.std.specs.List.{All}
use Rattle.std.proofs.lemmas.List.{length-reverse, reverse-append}
use Rattle.std.proofs.lemmas.List.Sums.{sum_by-cons}
use Rattle.std.proofs.lemmas.List.Elements.{All-head, All-tail, All-nil, All-cons, All-append}
use Rattle.px_terms.specs.declared.term.Value.{Value, out-Value}
use Rattle.px_terms.specs.declared.term.Value.TheOpen.{Value-F}
use Rattle.px_terms.specs.declared.term.Value.TheFolds.{fold-Value, map-Value, fold_out-Value}
use Rattle.px_terms.specs.Descent.{Standing, itself, below, elsewhere, under}
use Rattle.px_totality.proofs.Instances.{nothing_is_some, one_item}

-- a word is one node, and a constructor is one above its fields
abbrev pub value_size_step : Value-F ℕ → ℕ
value_size_step (Value-F.Lit w) = 1
value_size_step (Value-F.Con d k fields) = 1 + sum fields

-- the nodes of a value
abbrev pub value_size : Value → ℕ
value_size = fold-Value ℕ value_size_step

-- each value is smaller than this one
abbrev pub AreSmaller : Value → List Value → Type 0
AreSmaller u vs = All (λ (v : Value). value_size v < value_size u) vs

in_sum : (vs : List Value) → All (λ (v : Value). value_size v < 1 + sum (map value_size vs)) vs
in_sum [] = All-nil (λ (v : Value). value_size v < 1 + sum (map value_size []))
in_sum (w ∷ vs) =
    let total : ℕ = 1 + sum (map value_size (w ∷ vs)) in
    let size : sum (map value_size (w ∷ vs)) ≡ value_size w + sum (map value_size vs) = sum_by-cons (λ (n : ℕ). n) (value_size w) (map value_size vs) in
    let first : value_size w < total = omega (arith, size) in
    let rest : All (λ (v : Value). value_size v < total) vs =
    λ i d within. let h : value_size (get_or vs i d) < 1 + sum (map value_size vs) = in_sum vs i d within in omega (arith, h, size) in
    All-cons (λ (v : Value). value_size v < total) w vs first rest

-- a constructor's fields are smaller
pub fields_are_smaller : (u : Value) (d k : ℕ) (fields : List Value) → out-Value u ≡ Value-F.Con d k fields → AreSmaller u fields
fields_are_smaller u d k fields e =
    let size : value_size u ≡ 1 + sum (map value_size fields) =
    fold_out-Value ℕ value_size_step u ∙ ap (λ (y : Value-F Value). value_size_step (map-Value Value ℕ value_size y)) e in
    subst (λ (n : ℕ). All (λ (v : Value). value_size v < n) fields) (sym size) (in_sum fields)

-- The value is smaller than that of the parameter at the position.
pub record IsBelow (rho : List Value) (p : ℕ) (v : Value) : Type 0 where
  pub parameter : Value
  pub at : slice_get rho p ≡ Some parameter
  pub smaller : value_size v < value_size parameter

-- what the value is to the values of the parameters
abbrev pub StandsAt : List Value → Standing → Value → Type 0
StandsAt rho (itself p) v = slice_get rho p ≡ Some v
StandsAt rho (below p) v = IsBelow rho p v
StandsAt rho elsewhere v = Unit {0}

-- each value is to the parameters' what stands at its place
pub data AllStand (rho : List Value) : List Standing → List Value → Type 0 where
  none_stands : AllStand rho [] []
  more_stand : {s : Standing} {ss : List Standing} {v : Value} {vs : List Value} → StandsAt rho s v → AllStand rho ss vs → AllStand rho (s ∷ ss) (v ∷ vs)

-- what is smaller is under
pub stands_under : (rho : List Value) (s : Standing) (u v : Value) → StandsAt rho s u → value_size v < value_size u → StandsAt rho (under s) v
stands_under rho (itself p) u v stands smaller = record { parameter = u; at = stands; smaller = smaller }
stands_under rho (below p) u v stands smaller = record {
  parameter = stands.parameter;
  at = stands.at;
  smaller = (let h = stands.smaller in omega (arith, h, smaller));
}
stands_under rho elsewhere u v stands smaller = tt

pub all_under : (rho : List Value) (s : Standing) (u : Value) (vs : List Value) → StandsAt rho s u → AreSmaller u vs →
    AllStand rho (replicate (length vs) (under s)) vs
all_under rho s u [] stands smaller = none_stands
all_under rho s u (v ∷ vs) stands smaller =
    more_stand (stands_under rho s u v stands (All-head (λ (v : Value). value_size v < value_size u) v vs smaller))
    (all_under rho s u vs stands (All-tail (λ (v : Value). value_size v < value_size u) v vs smaller))

pub all_stand_append : (rho : List Value) {ss ts : List Standing} {vs ws : List Value} → AllStand rho ss vs → AllStand rho ts ws →
    AllStand rho (ss ++ ts) (vs ++ ws)
all_stand_append rho none_stands others = others
all_stand_append rho (more_stand first rest) others = more_stand first (all_stand_append rho rest others)

pub smaller_reversed : (u : Value) (vs : List Value) → AreSmaller u vs → AreSmaller u (reverse vs)
smaller_reversed u [] smaller = smaller
smaller_reversed u (v ∷ vs) smaller =
    let Holds : Value → Type 0 = λ (w : Value). value_size w < value_size u in
    subst (AreSmaller u) (sym (reverse-append (v ∷ []) vs))
    (All-append Holds (reverse vs) (v ∷ []) (smaller_reversed u vs (All-tail Holds v vs smaller))
    (All-cons Holds v [] (All-head Holds v vs smaller) (All-nil Holds)))

-- the fields of a value, the last innermost, with the variables around them
pub fields_stand : (rho : List Value) (s : Standing) (u : Value) (count : ℕ) (vs : List Value) (ss : List Standing) (inner : List Value) → StandsAt rho s u →
    AreSmaller u vs → count ≡ length vs → AllStand rho ss inner → AllStand rho (replicate count (under s) ++ ss) (reverse vs ++ inner)
fields_stand rho s u count vs ss inner stands smaller many others =
    let long : length (reverse vs) ≡ count = length-reverse vs ∙ sym many in
    all_stand_append rho (subst (λ (n : ℕ). AllStand rho (replicate n (under s)) (reverse vs)) long
    (all_under rho s u (reverse vs) stands (smaller_reversed u vs smaller))) others

-- what stands for a pattern variable is to the parameters what is said of it
pub stands_of : (rho : List Value) {ss : List Standing} {vs : List Value} (i : ℕ) (v : Value) → AllStand rho ss vs → slice_get vs i ≡ Some v →
    StandsAt rho (get_or ss i elsewhere) v
stands_of rho i v none_stands at = absurd (nothing_is_some v at)
stands_of rho zero v (more_stand {s = s} {v = w} first others) at = subst (StandsAt rho s) (one_item w v at) first
stands_of rho (suc i) v (more_stand first others) at = stands_of rho i v others at

-- the argument at a position, by what is said of it
pub stands_as : (rho : List Value) {ss : List Standing} {vs : List Value} (i : ℕ) (s : Standing) → AllStand rho ss vs → slice_get ss i ≡ Some s →
    (v : Value) × (slice_get vs i ≡ Some v) × StandsAt rho s v
stands_as rho i s none_stands at = absurd (nothing_is_some s at)
stands_as rho zero s (more_stand {s = r} {v = v} first others) at = (v, refl, subst (λ (s : Standing). StandsAt rho s v) (one_item r s at) first)
stands_as rho (suc i) s (more_stand first others) at = stands_as rho i s others at
