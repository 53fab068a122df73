-- The nodes of a term are more than those of its parts, and a list has at least as many nodes as terms.
use Rattle.std.proofs.Common.{◌≡◌, ◌≤◌, ◌<◌, ◌+◌, ◌*◌, ◌^◌, ℕ, zero, suc, List, [], ◌∷◌, map, sum, length, get_or, Some, None, slice_get, refl, sym, ap, subst, ◌∙◌, arith}
use Rattle.std.proofs.lemmas.List.Sums.{sum_by-cons}
use Rattle.px_terms.specs.declared.types.Ty.{Ty}
use Rattle.px_terms.specs.declared.types.Fun.{Fun}
use Rattle.px_terms.specs.declared.term.Term.{Term, out-Term}
use Rattle.px_terms.specs.declared.term.Term.TheOpen.{Term-F}
use Rattle.px_terms.specs.declared.term.Term.TheFolds.{map-Term, fold_out-Term}
use Rattle.px_terms.specs.Types.{tys_size, fun_size}
use Rattle.px_terms.specs.Terms.{term_size, terms_size, term_size_step, children, children_of}
use Rattle.px_terms.specs.Rows.{HaveOneHead}

some_is : {X : Type 0} {x y : X} → Some x ≡ Some y → x ≡ y
some_is e = cc

none_is_some : {X : Type 0} {x : X} → None ≡ Some x → ⊥
none_is_some e = cc

-- the nodes of a term, by its layer
abbrev pub layer_size : Term-F Term → ℕ
layer_size (Term-F.Free n) = 1
layer_size (Term-F.Bound n) = 1
layer_size (Term-F.Lit w) = 1
layer_size (Term-F.Con d k types fields) = 1 + (tys_size types + terms_size fields)
layer_size (Term-F.Call f funs args) = 1 + (tys_size f.types + (sum (map fun_size funs) + terms_size args))
layer_size (Term-F.Match on d types arms) = 1 + (term_size on + (tys_size types + terms_size arms))

layer_is : (y : Term-F Term) → term_size_step (map-Term Term ℕ term_size y) ≡ layer_size y
layer_is (Term-F.Free n) = refl
layer_is (Term-F.Bound n) = refl
layer_is (Term-F.Lit w) = refl
layer_is (Term-F.Con d k types fields) = refl
layer_is (Term-F.Call f funs args) = refl
layer_is (Term-F.Match on d types arms) = refl

pub size_by_layer : (t : Term) → term_size t ≡ layer_size (out-Term t)
size_by_layer t = fold_out-Term ℕ term_size_step t ∙ layer_is (out-Term t)

-- the nodes of a term of this layer
size_of : (t : Term) (y : Term-F Term) → out-Term t ≡ y → term_size t ≡ layer_size y
size_of t y is = size_by_layer t ∙ ap layer_size is

one_in_layer : (y : Term-F Term) → 1 ≤ layer_size y
one_in_layer (Term-F.Free n) = omega arith
one_in_layer (Term-F.Bound n) = omega arith
one_in_layer (Term-F.Lit w) = omega arith
one_in_layer (Term-F.Con d k types fields) = omega arith
one_in_layer (Term-F.Call f funs args) = omega arith
one_in_layer (Term-F.Match on d types arms) = omega arith

pub one_node : (t : Term) → 1 ≤ term_size t
one_node t = subst (λ (n : ℕ). 1 ≤ n) (sym (size_by_layer t)) (one_in_layer (out-Term t))

more_nodes : (t : Term) (ts : List Term) → terms_size (t ∷ ts) ≡ term_size t + terms_size ts
more_nodes t ts = sum_by-cons (λ (x : ℕ). x) (term_size t) (map term_size ts)

pub as_many : (ts : List Term) → length ts ≤ terms_size ts
as_many [] = omega arith
as_many (t ∷ ts) =
    let one = one_node t in
    let rest = as_many ts in
    let whole = more_nodes t ts in
    omega (arith, one, rest, whole)

pub item_size : (ts : List Term) (i : ℕ) (t : Term) → i < length ts → t ≡ get_or ts i t → term_size t ≤ terms_size ts
item_size [] i t within is = absurd (omega (arith, within))
item_size (s ∷ ts) zero t within is =
    let same : term_size t ≡ term_size s = ap term_size is in
    let whole = more_nodes s ts in
    omega (arith, same, whole)
item_size (s ∷ ts) (suc i) t within is =
    let rest = item_size ts i t (omega (arith, within)) is in
    let whole = more_nodes s ts in
    omega (arith, rest, whole)

pub fields_size : (t : Term) {d k : ℕ} {types : List Ty} {fields : List Term} → out-Term t ≡ Term-F.Con d k types fields → terms_size fields < term_size t
fields_size t {d} {k} {types} {fields} is = let whole = size_of t (Term-F.Con d k types fields) is in omega (arith, whole)

pub args_size : (t : Term) {f : Fun} {funs : List Fun} {args : List Term} → out-Term t ≡ Term-F.Call f funs args → terms_size args < term_size t
args_size t {f} {funs} {args} is = let whole = size_of t (Term-F.Call f funs args) is in omega (arith, whole)

pub on_size : (t : Term) {on : Term} {d : ℕ} {types : List Ty} {arms : List Term} → out-Term t ≡ Term-F.Match on d types arms → term_size on < term_size t
on_size t {on} {d} {types} {arms} is = let whole = size_of t (Term-F.Match on d types arms) is in omega (arith, whole)

-- the fields of a small term are small
pub fields_fit : (s t : Term) (fields parts ss : List Term) → HaveOneHead s t fields parts → ss ≡ fields → term_size s < 2 ^ 32 → terms_size ss < 2 ^ 32
fields_fit s t fields parts ss head same fits =
    let fewer = fields_size s head.left in
    let nodes : terms_size ss ≡ terms_size fields = ap terms_size same in
    omega (arith, fewer, nodes, fits)

-- a number of one of few terms
pub number_fits : (ts : List Term) (i : ℕ) → terms_size ts < 2 ^ 32 → i < length ts → i < 2 ^ 32
number_fits ts i fits within = let many = as_many ts in omega (arith, many, fits, within)

-- one of few terms is small
pub item_fits : (ts : List Term) (i : ℕ) (t : Term) → terms_size ts < 2 ^ 32 → i < length ts → t ≡ get_or ts i t → term_size t < 2 ^ 32
item_fits ts i t fits within is = let fewer = item_size ts i t within is in omega (arith, fewer, fits)

-- twice the nodes fall from a term to its fields, and from the fields to one of them
pub fields_fall : (s t : Term) (fields parts ss : List Term) → HaveOneHead s t fields parts → ss ≡ fields → 2 * terms_size ss + 1 < 2 * term_size s
fields_fall s t fields parts ss head same =
    let fewer = fields_size s head.left in
    let nodes : terms_size ss ≡ terms_size fields = ap terms_size same in
    omega (arith, fewer, nodes)

pub item_falls : (ts : List Term) (i : ℕ) (t : Term) → i < length ts → t ≡ get_or ts i t → 2 * term_size t < 2 * terms_size ts + 1
item_falls ts i t within is = let fewer = item_size ts i t within is in omega (arith, fewer)

-- the same of an item that is looked up
pub standing_size : (ts : List Term) (i : ℕ) (t : Term) → slice_get ts i ≡ Some t → term_size t ≤ terms_size ts
standing_size [] i t is = absurd (none_is_some is)
standing_size (s ∷ ts) zero t is = let same : term_size s ≡ term_size t = ap term_size (some_is is) in let whole = more_nodes s ts in omega (arith, same, whole)
standing_size (s ∷ ts) (suc i) t is = let rest = standing_size ts i t is in let whole = more_nodes s ts in omega (arith, rest, whole)

-- a child of a layer has fewer nodes
child_of_layer : (y : Term-F Term) (i : ℕ) (c : Term) → slice_get (children_of y) i ≡ Some c → term_size c < layer_size y
child_of_layer (Term-F.Free n) i c is = absurd (none_is_some is)
child_of_layer (Term-F.Bound n) i c is = absurd (none_is_some is)
child_of_layer (Term-F.Lit w) i c is = absurd (none_is_some is)
child_of_layer (Term-F.Con d k types fields) i c is = let fewer = standing_size fields i c is in omega (arith, fewer)
child_of_layer (Term-F.Call f funs args) i c is = let fewer = standing_size args i c is in omega (arith, fewer)
child_of_layer (Term-F.Match on d types arms) zero c is = let same : term_size on ≡ term_size c = ap term_size (some_is is) in omega (arith, same)
child_of_layer (Term-F.Match on d types arms) (suc i) c is = absurd (none_is_some is)

-- a child has fewer nodes than its term
pub child_falls : (t : Term) (i : ℕ) (c : Term) → slice_get (children t) i ≡ Some c → term_size c < term_size t
child_falls t i c is = subst (λ (n : ℕ). term_size c < n) (sym (size_by_layer t)) (child_of_layer (out-Term t) i c is)

children_of_layer : (y : Term-F Term) → length (children_of y) ≤ layer_size y
children_of_layer (Term-F.Free n) = omega arith
children_of_layer (Term-F.Bound n) = omega arith
children_of_layer (Term-F.Lit w) = omega arith
children_of_layer (Term-F.Con d k types fields) = let many = as_many fields in omega (arith, many)
children_of_layer (Term-F.Call f funs args) = let many = as_many args in omega (arith, many)
children_of_layer (Term-F.Match on d types arms) = let one = one_node on in omega (arith, one)

-- the number of a child of a small term is small
pub child_number_fits : (t : Term) (i : ℕ) → i < length (children t) → term_size t < 2 ^ 32 → i < 2 ^ 32
child_number_fits t i within fits = let few = subst (λ (n : ℕ). length (children t) ≤ n) (sym (size_by_layer t)) (children_of_layer (out-Term t)) in omega (arith, few, within, fits)
