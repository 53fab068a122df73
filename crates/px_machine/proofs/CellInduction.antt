-- Induction on values, and the cells of each kind of value.
use Rattle.std.proofs.Common.{◌≡◌, ℕ, List, [], ◌∷◌, ◌++◌, length, map, ap, refl, sym, subst, ◌∙◌}
use Rattle.std.specs.List.{flat_map, AllByRecursion}
use Rattle.std.proofs.lemmas.List.{length-map}
use Rattle.px_terms.specs.declared.term.Value.{Value}
use Rattle.px_terms.specs.declared.term.Value.TheOpen.{Value-F}
use Rattle.px_terms.specs.declared.term.Value.TheViews.{roll-Value}
use Rattle.px_terms.specs.declared.term.Value.TheVariants as value
use Rattle.px_terms.specs.declared.term.Value.TheVariants.{rolls-Lit, rolls-Con}
use Rattle.px_terms.specs.declared.term.Value.TheFolds.{ind-Value, map-Value, fold-roll-Value}
use Rattle.px_machine.specs.declared.cells.Cell.{Cell}
use Rattle.px_machine.specs.declared.cells.Cell.TheVariants as cell
use Rattle.px_machine.specs.Cells.{preorder_step, preorder, preorders}

module _ (P : Value → Type 0) where
  all_of : (ys : List ((v : Value) × P v)) → AllByRecursion P (map (λ (e : (v : Value) × P v). e.0) ys)
  all_of [] = tt
  all_of (y ∷ ys) = (y.1, all_of ys)

  module _ (literal : (w : ℕ) → P (value.Lit w)) (construction : (d k : ℕ) (fields : List Value) → AllByRecursion P fields → P (value.Con d k fields)) where
    step : (y : Value-F ((v : Value) × P v)) → P (roll-Value (map-Value ((v : Value) × P v) Value (λ (e : (v : Value) × P v). e.0) y))
    step (Value-F.Lit w) = subst P (sym (rolls-Lit w)) (literal w)
    step (Value-F.Con d k ys) = subst P (sym (rolls-Con d k (map (λ (e : (v : Value) × P v). e.0) ys))) (construction d k _ (all_of ys))

    -- what is true of each word, and of each constructor on values of which it is true, is true of each value
    pub value_induction : (v : Value) → P v
    value_induction = ind-Value P (λ x y is. subst (λ z. P (roll-Value z)) is (step y))

pub flat_map-map : {X : Type 0} (f : X → List Cell) (xs : List X) → flat_map (λ (cells : List Cell). cells) (map f xs) ≡ flat_map f xs
flat_map-map f [] = refl
flat_map-map f (x ∷ xs) = ap (λ cells. f x ++ cells) (flat_map-map f xs)

pub preorder-Lit : (w : ℕ) → preorder (value.Lit w) ≡ cell.Lit w ∷ []
preorder-Lit w = ap preorder (sym (rolls-Lit w)) ∙ fold-roll-Value (List Cell) preorder_step (Value-F.Lit w)

pub preorder-Con : (d k : ℕ) (fields : List Value) → preorder (value.Con d k fields) ≡ cell.Con d k (length fields) ∷ preorders fields
preorder-Con d k fields =
    ap preorder (sym (rolls-Con d k fields)) ∙ fold-roll-Value (List Cell) preorder_step (Value-F.Con d k fields)
    ∙ ap (λ n. cell.Con d k n ∷ flat_map (λ (cells : List Cell). cells) (map preorder fields)) (length-map fields preorder)
    ∙ ap (λ cells. cell.Con d k (length fields) ∷ cells) (flat_map-map preorder fields)
