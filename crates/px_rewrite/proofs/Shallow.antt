-- A term is no deeper than it has nodes.
use Rattle.std.proofs.Common.{◌≡◌, ◌≤◌, ◌+◌, ℕ, List, [], ◌∷◌, map, sum, subst, arith}
use Rattle.std.proofs.lemmas.List.Sums.{sum_by-cons}
use Rattle.px_terms.specs.Largest.{largest}
use Rattle.px_terms.specs.declared.types.Ty.{Ty}
use Rattle.px_terms.specs.declared.types.Ty.TheViews.{roll-Ty}
use Rattle.px_terms.specs.declared.types.Ty.TheOpen.{Ty-F}
use Rattle.px_terms.specs.declared.types.Ty.TheFolds.{ind-Ty, map-Ty, fold-roll-Ty}
use Rattle.px_terms.specs.declared.types.Fun.{Fun}
use Rattle.px_terms.specs.declared.term.Term.{Term}
use Rattle.px_terms.specs.declared.term.Term.TheViews.{roll-Term}
use Rattle.px_terms.specs.declared.term.Term.TheOpen.{Term-F}
use Rattle.px_terms.specs.declared.term.Term.TheFolds.{ind-Term, map-Term, fold-roll-Term}
use Rattle.px_terms.specs.Types.{ty_size, ty_size_step, ty_depth, ty_depth_step, tys_size, tys_depth, fun_size, fun_depth}
use Rattle.px_terms.specs.Terms.{term_size, term_size_step, term_depth, term_depth_step}

-- the largest of some numbers is at most the sum of numbers that are no smaller
largest_of_all : {A : Type 0} (f g : A → ℕ) → ((x : A) → f x ≤ g x) → (xs : List A) → largest (map f xs) ≤ sum (map g xs)
largest_of_all f g below [] = omega arith
largest_of_all f g below (x ∷ xs) =
    let total : sum (map g (x ∷ xs)) ≡ g x + sum (map g xs) = sum_by-cons (λ (n : ℕ). n) (g x) (map g xs) in
    omega (arith, total, below x, largest_of_all f g below xs)

-- the same of parts that each have a proof beside them
largest_of_parts : {A : Type 0} (f g : A → ℕ) (xs : List ((x : A) × (f x ≤ g x))) →
    largest (map f (map (λ (e : (x : A) × (f x ≤ g x)). e.0) xs)) ≤ sum (map g (map (λ (e : (x : A) × (f x ≤ g x)). e.0) xs))
largest_of_parts f g [] = omega arith
largest_of_parts f g (x ∷ xs) =
    let rest = map (λ e. e.0) xs in
    let total : sum (map g (x.0 ∷ rest)) ≡ g x.0 + sum (map g rest) = sum_by-cons (λ (n : ℕ). n) (g x.0) (map g rest) in
    omega (arith, total, x.1, largest_of_parts f g xs)

abbrev IsShallowType : Ty → Type 0
IsShallowType T = ty_depth T ≤ ty_size T

abbrev plain_type : Ty-F ((T : Ty) × IsShallowType T) → Ty-F Ty
plain_type = map-Ty ((T : Ty) × IsShallowType T) Ty (λ e. e.0)

type_layer : (y : Ty-F ((T : Ty) × IsShallowType T)) →
    ty_depth_step (map-Ty Ty ℕ ty_depth (plain_type y)) ≤ ty_size_step (map-Ty Ty ℕ ty_size (plain_type y))
type_layer Ty-F.Word = omega arith
type_layer (Ty-F.Var n) = omega arith
type_layer (Ty-F.Con d args) = omega (arith, largest_of_parts ty_depth ty_size args)

type_is_shallow : (T : Ty) → IsShallowType T
type_is_shallow = ind-Ty IsShallowType (λ x y is.
    let depth : ty_depth (roll-Ty (plain_type y)) ≡ ty_depth_step (map-Ty Ty ℕ ty_depth (plain_type y)) = fold-roll-Ty ℕ ty_depth_step (plain_type y) in
    let size : ty_size (roll-Ty (plain_type y)) ≡ ty_size_step (map-Ty Ty ℕ ty_size (plain_type y)) = fold-roll-Ty ℕ ty_size_step (plain_type y) in
    subst (λ (z : Ty-F Ty). IsShallowType (roll-Ty z)) is (omega (arith, depth, size, type_layer y)))

types_are : (types : List Ty) → tys_depth types ≤ tys_size types
types_are = largest_of_all ty_depth ty_size type_is_shallow

function_is : (f : Fun) → fun_depth f ≤ fun_size f
function_is f = omega (arith, types_are f.types)

abbrev IsShallow : Term → Type 0
IsShallow t = term_depth t ≤ term_size t

abbrev plain : Term-F ((t : Term) × IsShallow t) → Term-F Term
plain = map-Term ((t : Term) × IsShallow t) Term (λ e. e.0)

layer : (y : Term-F ((t : Term) × IsShallow t)) →
    term_depth_step (map-Term Term ℕ term_depth (plain y)) ≤ term_size_step (map-Term Term ℕ term_size (plain y))
layer (Term-F.Free n) = omega arith
layer (Term-F.Bound n) = omega arith
layer (Term-F.Lit w) = omega arith
layer (Term-F.Con d k types fields) = omega (arith, types_are types, largest_of_parts term_depth term_size fields)
layer (Term-F.Call f funs args) =
    omega (arith, types_are f.types, largest_of_all fun_depth fun_size function_is funs, largest_of_parts term_depth term_size args)
layer (Term-F.Match on d types arms) = omega (arith, on.1, types_are types, largest_of_parts term_depth term_size arms)

-- a term is no deeper than it has nodes
pub is_shallow : (t : Term) → term_depth t ≤ term_size t
is_shallow = ind-Term IsShallow (λ x y is.
    let depth : term_depth (roll-Term (plain y)) ≡ term_depth_step (map-Term Term ℕ term_depth (plain y)) = fold-roll-Term ℕ term_depth_step (plain y) in
    let size : term_size (roll-Term (plain y)) ≡ term_size_step (map-Term Term ℕ term_size (plain y)) = fold-roll-Term ℕ term_size_step (plain y) in
    subst (λ (z : Term-F Term). IsShallow (roll-Term z)) is (omega (arith, depth, size, layer y)))
