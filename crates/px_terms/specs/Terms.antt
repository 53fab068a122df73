-- Terms as trees: sizes, depths, children, paths, and what is put in for variables.
use Rattle.std.specs.Prelude.{ℕ, ◌+◌, max, ◌==◌, List, [], ◌∷◌, map, sum, unwrap_or, slice_get, slice_set, Option, Some, if◌then◌else◌, option_and_then}
use Rattle.std.specs.Option.{option_map}
use Rattle.px_terms.specs.declared.term.Term.{Term, out-Term}
use Rattle.px_terms.specs.declared.term.Term.TheVariants.{Free, Bound, Lit, Con, Call, Match}
use Rattle.px_terms.specs.declared.term.Term.TheOpen.{Term-F}
use Rattle.px_terms.specs.declared.term.Term.TheFolds.{fold-Term}
use Rattle.px_terms.specs.declared.clause.Sigma.{Sigma}
use Rattle.px_base.specs.Largest.{largest}
use Rattle.px_terms.specs.Types.{tys_size, tys_depth, fun_size, fun_depth, tys_instance, fun_instance}

-- each term, type and function argument is one node; a call's function is none, and its types stand below the call
abbrev pub term_size_step : Term-F ℕ → ℕ
term_size_step (Term-F.Free n) = 1
term_size_step (Term-F.Bound n) = 1
term_size_step (Term-F.Lit w) = 1
term_size_step (Term-F.Con d k types fields) = 1 + (tys_size types + sum fields)
term_size_step (Term-F.Call f funs args) = 1 + (tys_size f.types + (sum (map fun_size funs) + sum args))
term_size_step (Term-F.Match on d types arms) = 1 + (on + (tys_size types + sum arms))

-- the nodes of a term, with those of its types
abbrev pub term_size : Term → ℕ
term_size = fold-Term ℕ term_size_step

-- the nodes of several terms
abbrev pub terms_size : List Term → ℕ
terms_size terms = sum (map term_size terms)

-- a node without children has depth 1
abbrev pub term_depth_step : Term-F ℕ → ℕ
term_depth_step (Term-F.Free n) = 1
term_depth_step (Term-F.Bound n) = 1
term_depth_step (Term-F.Lit w) = 1
term_depth_step (Term-F.Con d k types fields) = 1 + max (tys_depth types) (largest fields)
term_depth_step (Term-F.Call f funs args) = 1 + max (tys_depth f.types) (max (largest (map fun_depth funs)) (largest args))
term_depth_step (Term-F.Match on d types arms) = 1 + max on (max (tys_depth types) (largest arms))

-- the depth of a term, with its types
abbrev pub term_depth : Term → ℕ
term_depth = fold-Term ℕ term_depth_step

-- the depth of the deepest of several terms
abbrev pub terms_depth : List Term → ℕ
terms_depth terms = largest (map term_depth terms)

-- the children that a path goes through: constructor fields, data arguments, or the scrutinee
abbrev pub children_of : Term-F Term → List Term
children_of (Term-F.Free n) = []
children_of (Term-F.Bound n) = []
children_of (Term-F.Lit w) = []
children_of (Term-F.Con d k types fields) = fields
children_of (Term-F.Call f funs args) = args
children_of (Term-F.Match on d types arms) = on ∷ []

-- the children of a term
abbrev pub children : Term → List Term
children t = children_of (out-Term t)

-- the part of a term at a path
abbrev pub subterm : Term → List ℕ → Option Term
subterm t [] = Some t
subterm t (n ∷ path) = option_and_then (λ child. subterm child path) (slice_get (children t) n)

-- a term with another child at a number
abbrev pub with_child_of : Term-F Term → Term → ℕ → Term → Term
with_child_of (Term-F.Free m) t n by = t
with_child_of (Term-F.Bound m) t n by = t
with_child_of (Term-F.Lit w) t n by = t
with_child_of (Term-F.Con d k types fields) t n by = Con d k types (slice_set fields n by)
with_child_of (Term-F.Call f funs args) t n by = Call f funs (slice_set args n by)
with_child_of (Term-F.Match on d types arms) t n by = Match by d types arms

-- the term with another child at a number; as it is where it has no child there
abbrev pub with_child : Term → ℕ → Term → Term
with_child t n by = with_child_of (out-Term t) t n by

-- the term with another part at a path
abbrev pub replaced : Term → List ℕ → Term → Option Term
replaced t [] by = Some by
replaced t (n ∷ path) by = option_and_then (λ child. option_map (with_child t n) (replaced child path by)) (slice_get (children t) n)

-- type, function and free variables are replaced by what has their number, where there is something
abbrev pub instance_step : Sigma → Term-F Term → Term
instance_step sigma (Term-F.Free n) = unwrap_or (slice_get sigma.terms n) (Free n)
instance_step sigma (Term-F.Bound n) = Bound n
instance_step sigma (Term-F.Lit w) = Lit w
instance_step sigma (Term-F.Con d k types fields) = Con d k (tys_instance sigma.types types) fields
instance_step sigma (Term-F.Call f funs args) = Call (fun_instance sigma.types sigma.funs f) (map (fun_instance sigma.types sigma.funs) funs) args
instance_step sigma (Term-F.Match on d types arms) = Match on d (tys_instance sigma.types types) arms

-- the term with types, functions and terms put in for its variables; none of the terms has a loose pattern variable
abbrev pub term_instance : Sigma → Term → Term
term_instance sigma = fold-Term Term (instance_step sigma)

-- one free variable is replaced
abbrev pub put_step : ℕ → Term → Term-F Term → Term
put_step variable by (Term-F.Free n) = if n == variable then by else Free n
put_step variable by (Term-F.Bound n) = Bound n
put_step variable by (Term-F.Lit w) = Lit w
put_step variable by (Term-F.Con d k types fields) = Con d k types fields
put_step variable by (Term-F.Call f funs args) = Call f funs args
put_step variable by (Term-F.Match on d types arms) = Match on d types arms

-- the term with a term put in for one free variable; it has no loose pattern variable
abbrev pub term_put : ℕ → Term → Term → Term
term_put variable by = fold-Term Term (put_step variable by)
