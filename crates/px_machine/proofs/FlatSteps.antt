-- What the cells of a flat value are, and the values among them.
use Rattle.std.proofs.Common.{◌≡◌, ℕ, zero, suc, ◌-◌, ◌<◌, ◌≤◌, List, [], ◌∷◌, ◌++◌, length, take, drop, get_or, IsTrue, ◌↔◌, ap, refl, sym, subst, ◌∙◌, append_assoc, arith, Bool, true, false, ◌==◌, eqb-true}
use Rattle.std.proofs.lemmas.List.{drop_more, take-append-drop, append-nil, take_rest}
use Rattle.px_terms.specs.declared.term.Value.{Value}
use Rattle.px_terms.specs.declared.term.Value.TheVariants as value
use Rattle.px_machine.specs.declared.cells.Cell.{Cell}
use Rattle.px_machine.specs.declared.cells.Cell.TheVariants as cell
use Rattle.px_machine.specs.Cells.{preorder, preorders, trees, tree, IsValue, AreValues, IsFirst}
use Rattle.px_machine.proofs.CellInduction.{preorder-Lit, preorder-Con}
use Rattle.px_machine.proofs.CellLaws.{has_fields, values_behind, value_is_values, tree-preorder}
use Rattle.px_machine.proofs.CellSteps.{first_and_rest}

pub tree_is : (v : Value) → tree (preorder v) ≡ v
tree_is v = rw (tree-preorder v)

pub is_value : (v : Value) → IsValue (preorder v)
is_value v = ap preorder (tree_is v)

-- cells that are those of a value show it
pub shows : (cells : List Cell) (v : Value) → cells ≡ preorder v → tree cells ≡ v
shows cells v e = ap tree e ∙ tree_is v

pub is_one : (cells : List Cell) (v : Value) → cells ≡ preorder v → IsValue cells
is_one cells v e = subst IsValue (sym e) (is_value v)

-- values are equal exactly where their cells are
pub same_values : (u v : Value) (us vs : List Cell) (told : Bool) → us ≡ preorder u → vs ≡ preorder v → IsTrue told ↔ (us ≡ vs) → IsTrue told ↔ (u ≡ v)
same_values u v us vs told one other same =
    (λ (yes : IsTrue told). sym (tree_is u) ∙ ap tree (sym one ∙ same.0 yes ∙ other) ∙ tree_is v, λ (e : u ≡ v). same.1 (one ∙ ap preorder e ∙ sym other))

-- a constructor's cells, where these are its fields
pub made : (d k n : ℕ) (none start cells last : List Cell) (fields : List Value) (i : ℕ) → none ≡ [] → start ≡ none ++ cell.Con d k n ∷ [] → n ≡ length fields → length fields ≤ i → cells ≡ start ++ preorders (take i fields) → last ≡ cells → last ≡ preorder (value.Con d k fields)
made d k n none start cells last fields i empty one count all is kept =
    kept ∙ is ∙ ap (λ cs. cs ++ preorders (take i fields)) (one ∙ ap (λ cs. cs ++ cell.Con d k n ∷ []) empty) ∙ ap (λ vs. cell.Con d k n ∷ preorders vs) (take_whole i fields all) ∙ ap (λ m. cell.Con d k m ∷ preorders fields) count
    ∙ sym (preorder-Con d k fields) where
      take_whole : (i : ℕ) (vs : List Value) → length vs ≤ i → take i vs ≡ vs
      take_whole zero [] h = refl
      take_whole zero (v ∷ vs) h = absurd (omega arith)
      take_whole (suc i) [] h = refl
      take_whole (suc i) (v ∷ vs) h = ap (λ rest. v ∷ rest) (take_whole i vs (omega arith))

-- The values so far, and those that the rest of the cells shows, are all.
pub record IsGathered (cells rest : List Cell) (values : List Value) : Type 0 where
  pub values_behind : AreValues rest
  pub all : values ++ trees rest ≡ trees cells

module _ (cells rest part behind copy : List Cell) (values all : List Value) (end : ℕ) (is_part : part ≡ take end rest) (is_behind : behind ≡ drop end rest) (is_copy : copy ≡ part) (some : 0 < length rest) (first : IsFirst end rest) where
  first_tree : copy ≡ preorder (tree rest)
  first_tree = is_copy ∙ is_part ∙ first.first

  pub first_is_value : IsValue copy
  first_is_value = is_one copy (tree rest) first_tree

  pub gathered_more : IsGathered cells rest values → all ≡ values ++ tree copy ∷ [] → IsGathered cells behind all
  gathered_more so is = record {
    values_behind = subst AreValues (sym is_behind) (values_behind end rest so.values_behind);
    all = ap (λ vs. vs ++ trees behind) is ∙ append_assoc values (tree copy ∷ []) (trees behind) ∙ ap (λ v. values ++ v ∷ trees behind) (shows copy (tree rest) first_tree)
        ∙ ap (λ cs. values ++ tree rest ∷ trees cs) is_behind ∙ ap (λ vs. values ++ tree rest ∷ vs) first.rest ∙ ap (λ vs. values ++ vs) (sym (first_and_rest rest some)) ∙ so.all;
  }

pub gathered_none : (cells : List Cell) (values : List Value) → AreValues cells → values ≡ [] → IsGathered cells cells values
gathered_none cells values are none = record { values_behind = are; all = ap (λ vs. vs ++ trees cells) none }

pub gathered_all : (cells rest : List Cell) (values : List Value) → rest ≡ [] → IsGathered cells rest values → values ≡ trees cells
gathered_all cells rest values none so = sym (append-nil values) ∙ ap (λ cs. values ++ trees cs) (sym none) ∙ so.all

-- the value of cells that begin with a word
pub word : (v : Value) (w : ℕ) (rest : List Cell) → preorder v ≡ cell.Lit w ∷ rest → v ≡ value.Lit w
word v w rest e = let all : v ∷ [] ≡ value.Lit w ∷ trees rest = sym (tree-preorder v) ∙ ap trees e in cc

pub fields_are : (v : Value) (c : Cell) (rest : List Cell) → preorder v ≡ c ∷ rest → AreValues rest
fields_are v c rest e = (has_fields c rest (subst AreValues e (value_is_values (preorder v) (is_value v)))).values

same_list : {u v : Value} {us : List Value} → ◌≡◌ {A = List Value} (u ∷ []) (v ∷ us) → (u ≡ v) × (us ≡ [])
same_list e = (cc, cc)

-- the value of cells that begin with a constructor, whose fields are what the others show
pub construction : (v : Value) (d k n : ℕ) (rest : List Cell) (fields : List Value) → preorder v ≡ cell.Con d k n ∷ rest → fields ≡ trees rest → v ≡ value.Con d k fields
construction v d k n rest fields e is =
    let all = same_list (sym (tree-preorder v) ∙ ap trees e) in
    let whole : take n (trees rest) ≡ trees rest = sym (append-nil (take n (trees rest))) ∙ ap (λ vs. take n (trees rest) ++ vs) (sym all.1) ∙ take-append-drop n (trees rest) in
    all.0 ∙ ap (λ vs. value.Con d k vs) (whole ∙ sym is)

-- a value has cells
pub no_cells : (v : Value) (cells : List Cell) → cells ≡ preorder v → length cells < 1 → ⊥
no_cells v [] e few = let all : ◌≡◌ {A = List Value} [] (v ∷ []) = ap trees e ∙ tree-preorder v in absurd cc
no_cells v (c ∷ cells) e few = omega arith

-- The first cell of a value and those behind it, as code finds them.
module _ (v : Value) (cells : List Cell) (d : Cell) (is : cells ≡ preorder v) (some : 1 ≤ length cells) where
  begins : preorder v ≡ get_or cells 0 d ∷ take (length cells - 1) (drop 1 cells)
  begins = sym is ∙ drop_more cells 0 d (omega arith) ∙ ap (λ cs. get_or cells 0 d ∷ cs) (sym (take_rest cells 1))

  pub word_first : (w : ℕ) → get_or cells 0 d ≡ cell.Lit w → (x : ℕ) × (v ≡ value.Lit x)
  word_first w e = (w, word v w (take (length cells - 1) (drop 1 cells)) (begins ∙ ap (λ c. c ∷ take (length cells - 1) (drop 1 cells)) e))

  pub fields_behind : AreValues (take (length cells - 1) (drop 1 cells))
  fields_behind = fields_are v (get_or cells 0 d) (take (length cells - 1) (drop 1 cells)) begins

  pub constructor_first : (e k n : ℕ) (fields : List Value) → get_or cells 0 d ≡ cell.Con e k n → fields ≡ trees (take (length cells - 1) (drop 1 cells)) → v ≡ value.Con e k fields
  constructor_first e k n fields at_first are = construction v e k n (take (length cells - 1) (drop 1 cells)) fields (begins ∙ ap (λ c. c ∷ take (length cells - 1) (drop 1 cells)) at_first) are

pub one_word : (w : ℕ) (start cells : List Cell) → start ≡ [] → cells ≡ start ++ cell.Lit w ∷ [] → IsValue cells
one_word w start cells none is = is_one cells (value.Lit w) (is ∙ ap (λ cs. cs ++ cell.Lit w ∷ []) none ∙ sym (preorder-Lit w))

pub not_empty : (cells : List Cell) (b : Bool) → b ≡ (length cells == 0) → b ≡ false → 0 < length cells
not_empty [] b is told = let no : true ≡ false = sym is ∙ told in absurd cc
not_empty (c ∷ cells) b is told = omega arith

pub empty : (cells : List Cell) (b : Bool) → b ≡ (length cells == 0) → b ≡ true → cells ≡ []
empty [] b is told = refl
empty (c ∷ cells) b is told = let e : suc (length cells) ≡ 0 = eqb-true (suc (length cells)) 0 (sym is ∙ told) in absurd (omega arith)
