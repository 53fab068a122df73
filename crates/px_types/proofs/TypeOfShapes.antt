-- Terms by their layers: an induction, and what is found of each layer.
use Rattle.std.proofs.Common.{◌≡◌, List, [], ◌∷◌, map, refl, sym, ◌∙◌, ap, subst}
use Rattle.std.specs.Prelude.{slice_get}
use Rattle.px_terms.specs.declared.types.Ty.{Ty}
use Rattle.px_terms.specs.declared.term.Term.{Term, out-Term, roll-Term, out-roll-Term, map-Term, fold_out-Term, ind-Term}
use Rattle.px_terms.specs.declared.term.Term.TheOpen.{Term-F}
use Rattle.px_types.specs.Faults.{Env}
use Rattle.px_types.specs.Outcome.{type_of_variable}
use Rattle.px_types.specs.TypeOf.{Found, literal_type, con_type, call_type, match_type, type_step, type_found}
use Rattle.px_types.proofs.Exact.{Every}

-- a fact of each part of a layer
abbrev pub PartsHold : (Term → Type 0) → Term-F Term → Type 0
PartsHold P (Term-F.Free n) = Unit {0}
PartsHold P (Term-F.Bound n) = Unit {0}
PartsHold P (Term-F.Lit w) = Unit {0}
PartsHold P (Term-F.Con d k types fields) = Every P fields
PartsHold P (Term-F.Call f funs args) = Every P args
PartsHold P (Term-F.Match on d types arms) = P on × Every P arms

every_pair : (P : Term → Type 0) (pairs : List ((t : Term) × P t)) → Every P (map (λ (e : (t : Term) × P t). e.0) pairs)
every_pair P [] = tt
every_pair P (e ∷ es) = (e.1, every_pair P es)

layer_holds : (P : Term → Type 0) (y : Term-F ((t : Term) × P t)) → PartsHold P (map-Term ((t : Term) × P t) Term (λ (e : (t : Term) × P t). e.0) y)
layer_holds P (Term-F.Free n) = tt
layer_holds P (Term-F.Bound n) = tt
layer_holds P (Term-F.Lit w) = tt
layer_holds P (Term-F.Con d k types fields) = every_pair P fields
layer_holds P (Term-F.Call f funs args) = every_pair P args
layer_holds P (Term-F.Match on d types arms) = (on.1, every_pair P arms)

pub term_induction : (P : Term → Type 0) → ((t : Term) → PartsHold P (out-Term t) → P t) → (t : Term) → P t
term_induction P step = ind-Term P (λ x y e. step (roll-Term x) (subst (PartsHold P) (e ∙ sym (out-roll-Term x)) (layer_holds P y)))

-- what is found of a layer
module _ (E : Env) where
  abbrev pub layer_type : Term-F Term → Found
  layer_type (Term-F.Free n) bound = type_of_variable E n
  layer_type (Term-F.Bound n) bound = slice_get bound n
  layer_type (Term-F.Lit w) bound = literal_type w
  layer_type (Term-F.Con d k types fields) bound = con_type E d k types (map (type_found E) fields) bound
  layer_type (Term-F.Call f funs args) bound = call_type E f funs (map (type_found E) args) bound
  layer_type (Term-F.Match on d types arms) bound = match_type E (type_found E on) d types (map (type_found E) arms) bound

  layer_is : (y : Term-F Term) (bound : List Ty) → type_step E (map-Term Term Found (type_found E) y) bound ≡ layer_type y bound
  layer_is (Term-F.Free n) bound = refl
  layer_is (Term-F.Bound n) bound = refl
  layer_is (Term-F.Lit w) bound = refl
  layer_is (Term-F.Con d k types fields) bound = refl
  layer_is (Term-F.Call f funs args) bound = refl
  layer_is (Term-F.Match on d types arms) bound = refl

  pub type_found_is : (t : Term) (bound : List Ty) → type_found E t bound ≡ layer_type (out-Term t) bound
  unfolding type_found
  type_found_is t bound = ap (λ (s : Found). s bound) (fold_out-Term Found (type_step E) t) ∙ layer_is (out-Term t) bound

  -- so at a known layer
  pub type_found_at : (t : Term) (y : Term-F Term) (bound : List Ty) → out-Term t ≡ y → type_found E t bound ≡ layer_type y bound
  type_found_at t y bound is = type_found_is t bound ∙ ap (λ (z : Term-F Term). layer_type z bound) is
