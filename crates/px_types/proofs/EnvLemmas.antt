-- What is known of each definition where a declaration stands.
use Rattle.std.proofs.Common.{◌≡◌, ℕ, List, [], ◌∷◌, ◌++◌, length, take, Option, Some, None, refl, sym, ◌∙◌, ap, arith}
use Rattle.std.specs.Prelude.{slice_get}
use Rattle.std.specs.List.{list_any}
use Rattle.std.proofs.lemmas.List.{take_all}
use Rattle.px_base.specs.declared.prop.PropSet.{PropSet}
use Rattle.px_terms.specs.declared.program.Def as definition
use Rattle.px_terms.specs.declared.program.Declared.{Declared}
use Rattle.px_terms.specs.declared.program.Program.{Program}
use Rattle.px_terms.specs.Typing.{in_body, behind}
use Rattle.px_types.specs.Outcome.{is_property_of}
use Rattle.px_types.specs.Scopes.{Knows}
use Rattle.px_types.specs.Checkings.{AreNotes}

-- the last item has the list's length before it as its number
pub last_at : {X : Type 0} (xs : List X) (x : X) → slice_get (xs ++ x ∷ []) (length xs) ≡ Some x
last_at [] x = refl
last_at (y ∷ ys) x = last_at ys x

pub last_of : {X : Type 0} (xs all : List X) (x : X) (n : ℕ) → all ≡ xs ++ x ∷ [] → n ≡ length xs → slice_get all n ≡ Some x
last_of xs all x n e f = rw (e, f) (last_at xs x)

module _ (P : Program) (notes : List PropSet) (are : AreNotes P.declared notes) where
  -- behind all obligations so far
  pub knows_behind : (count : ℕ) → count ≡ length P.declared → Knows P (behind count) notes
  knows_behind count e n p =
      are.are n p ∙ ap (λ (xs : List Declared). list_any (is_property_of n p) xs) (sym (take_all count P.declared (omega arith)))

  -- in the body of the definition that stands last, and behind them
  pub knows_in_body : (defs : List definition.Def) (D : definition.Def) (number : ℕ) → defs ≡ P.defs ++ D ∷ [] → number ≡ length P.defs →
      D.seen ≡ length P.declared → Knows (record P { defs = defs }) (in_body number) notes
  knows_in_body defs D number e f seen n p =
      are.are n p
      ∙ ap (λ (xs : List Declared). list_any (is_property_of n p) xs) (sym (take_all D.seen P.declared (omega arith)))
      ∙ ap (λ (o : Option definition.Def). list_any (is_property_of n p) (elim o as (λ _. List Declared) [ None ↦ [] | Some E ↦ take E.seen P.declared ]))
      (sym (last_of P.defs defs D number e f))
