-- Values by their layers: their pieces, their cells and their types.
use Rattle.std.proofs.Common.{◌≡◌, ℕ, suc, ◌+◌, ◌<◌, ◌≤◌, ◌^◌, List, [], ◌∷◌, ◌++◌, map, length, Some, refl, ap, ◌∙◌, subst, arith}
use Rattle.std.specs.List.{flat_map}
use Rattle.std.proofs.lemmas.List.{length-map, length-append}
use Rattle.px_terms.specs.declared.types.Ty.{Ty}
use Rattle.px_terms.specs.declared.types.Ty.TheOpen.{Ty-F}
use Rattle.px_terms.specs.declared.term.Value.{Value, out-Value}
use Rattle.px_terms.specs.declared.term.Value.TheOpen.{Value-F}
use Rattle.px_terms.specs.declared.term.Value.TheFolds.{map-Value, fold_out-Value}
use Rattle.px_terms.specs.declared.program.ConDef.{ConDef}
use Rattle.px_terms.specs.declared.program.Program.{Program}
use Rattle.px_terms.specs.Types.{tys_instance}
use Rattle.px_terms.specs.Programs.{constructor_at}
use Rattle.px_terms.specs.Values.{IsInLayer, AreIn, word, con, none, more}
use Rattle.px_machine.specs.declared.cells.Cell.{Cell}
use Rattle.px_machine.specs.declared.cells.Cell.TheVariants as cell
use Rattle.px_machine.specs.Cells.{preorder_step, preorder, preorders}
use Rattle.px_schedule.specs.ValueGrammar.{Piece, numeral, constructor, in_parentheses, pieces_step, pieces}

pub pieces_word : (v : Value) (w : ℕ) → out-Value v ≡ Value-F.Lit w → pieces v ≡ numeral w ∷ []
pieces_word v w e = fold_out-Value (List Piece) pieces_step v ∙ ap (λ (y : Value-F Value). pieces_step (map-Value Value (List Piece) pieces y)) e

pub pieces_con : (v : Value) (d k : ℕ) (fields : List Value) → out-Value v ≡ Value-F.Con d k fields → pieces v ≡ constructor d k ∷ in_parentheses (map pieces fields)
pieces_con v d k fields e = fold_out-Value (List Piece) pieces_step v ∙ ap (λ (y : Value-F Value). pieces_step (map-Value Value (List Piece) pieces y)) e

joined : (fields : List Value) → flat_map (λ (cells : List Cell). cells) (map preorder fields) ≡ preorders fields
joined [] = refl
joined (v ∷ fields) = ap (λ (z : List Cell). preorder v ++ z) (joined fields)

pub preorder_word : (v : Value) (w : ℕ) → out-Value v ≡ Value-F.Lit w → preorder v ≡ cell.Lit w ∷ []
preorder_word v w e = fold_out-Value (List Cell) preorder_step v ∙ ap (λ (y : Value-F Value). preorder_step (map-Value Value (List Cell) preorder y)) e

pub preorder_con : (v : Value) (d k : ℕ) (fields : List Value) → out-Value v ≡ Value-F.Con d k fields → preorder v ≡ cell.Con d k (length fields) ∷ preorders fields
preorder_con v d k fields e =
    let step : preorder v ≡ cell.Con d k (length (map preorder fields)) ∷ flat_map (λ (cells : List Cell). cells) (map preorder fields) =
    fold_out-Value (List Cell) preorder_step v ∙ ap (λ (y : Value-F Value). preorder_step (map-Value Value (List Cell) preorder y)) e in
    let many : length (map preorder fields) ≡ length fields = length-map fields preorder in
    let all : flat_map (λ (cells : List Cell). cells) (map preorder fields) ≡ preorders fields = joined fields in
    step ∙ rw (many, all) refl

-- each value has a cell at least
pub some_cells : (v : Value) → 1 ≤ length (preorder v)
some_cells v = by (out-Value v) refl
  where
    by : (e : Value-F Value) → out-Value v ≡ e → 1 ≤ length (preorder v)
    by (Value-F.Lit w) is = let h : length (preorder v) ≡ 1 = ap length (preorder_word v w is) in omega arith
    by (Value-F.Con d k fields) is = let h : length (preorder v) ≡ suc (length (preorders fields)) = ap length (preorder_con v d k fields is) in omega arith

pub many_cells : (vs : List Value) → length vs ≤ length (preorders vs)
many_cells [] = omega arith
many_cells (v ∷ vs) =
    let first = some_cells v in
    let others = many_cells vs in
    let both : length (preorder v ++ preorders vs) ≡ length (preorder v) + length (preorders vs) = length-append (preorder v) (preorders vs) in
    omega arith

-- The value is a word.
pub record IsWordValue (e : Value-F Value) : Type 0 where
  pub w : ℕ
  pub is : e ≡ Value-F.Lit w
  pub small : w < 2 ^ 64

pub in_word : (P : Program) {t : Ty-F Ty} {e : Value-F Value} → IsInLayer P t e → t ≡ Ty-F.Word → IsWordValue e
in_word P (word {w} small) is = record { w = w; is = refl; small = small }
in_word P (con at fields) is = absurd cc

-- The value is a constructor on fields of the types.
pub record IsConValue (P : Program) (d : ℕ) (args : List Ty) (e : Value-F Value) : Type 0 where
  pub k : ℕ
  pub fields : List Value
  pub c : ConDef
  pub is : e ≡ Value-F.Con d k fields
  pub at : constructor_at P d k ≡ Some c
  pub inside : AreIn P (tys_instance args c.fields) fields

pub in_con : (P : Program) {t : Ty-F Ty} {e : Value-F Value} → IsInLayer P t e → (d : ℕ) (args : List Ty) → t ≡ Ty-F.Con d args → IsConValue P d args e
in_con P (word small) d args is = absurd cc
in_con P (con {d = d2} {k} {args = args2} {fields} {c} at inside) d args is =
    let same : d2 ≡ d = cc in
    let same_args : args2 ≡ args = cc in
    record {
      k = k;
      fields = fields;
      c = c;
      is = ap (λ (n : ℕ). Value-F.Con n k fields) same;
      at = subst (λ (n : ℕ). constructor_at P n k ≡ Some c) same at;
      inside = subst (λ (ts : List Ty). AreIn P (tys_instance ts c.fields) fields) same_args inside;
    }

pub in_variable : (P : Program) {t : Ty-F Ty} {e : Value-F Value} → IsInLayer P t e → (n : ℕ) → t ≡ Ty-F.Var n → ⊥
in_variable P (word small) n is = absurd cc
in_variable P (con at inside) n is = absurd cc

pub as_many : (P : Program) {types : List Ty} {fields : List Value} → AreIn P types fields → length fields ≡ length types
as_many P none = refl
as_many P (more inside others) = ap suc (as_many P others)
