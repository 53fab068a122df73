-- Terms that are built of constructors and literals alone: their values, and the cells of these.
use Rattle.std.proofs.Common.{◌≡◌, ℕ, zero, suc, ◌<◌, List, [], ◌∷◌, ◌++◌, length, get_or, refl, sym, ap, ◌∙◌, subst, arith}
use Rattle.std.proofs.lemmas.List.{length-map}
use Rattle.px_terms.specs.declared.types.Ty.{Ty}
use Rattle.px_terms.specs.declared.types.Fun.{Fun}
use Rattle.px_terms.specs.declared.term.Term.{Term, out-Term}
use Rattle.px_terms.specs.declared.term.Term.TheVariants as term
use Rattle.px_terms.specs.declared.term.Term.TheOpen.{Term-F}
use Rattle.px_terms.specs.declared.term.Term.TheFolds.{fold_out-Term, map-Term}
use Rattle.px_terms.specs.declared.term.Value.{Value}
use Rattle.px_terms.specs.declared.term.Value.TheVariants as value
use Rattle.px_terms.specs.declared.program.Program.{Program}
use Rattle.px_terms.specs.Meaning.{MeansOf, MeanAll, Means, lit, con, none, more}
use Rattle.px_terms.specs.TypedPrograms.{IsBuiltLayer, AreBuilt}
use Rattle.px_terms.specs.TypedPrograms as typed
use Rattle.px_machine.specs.declared.cells.Cell.{Cell}
use Rattle.px_machine.specs.declared.cells.Cell.TheVariants as cell
use Rattle.px_machine.specs.Cells.{preorder, preorders, IsValue, tree}
use Rattle.px_machine.proofs.CellInduction.{preorder-Lit, preorder-Con}
use Rattle.px_machine.proofs.FlatSteps.{is_one, shows}
use Rattle.px_replicas.specs.Serving.{built_step, built_value, built_values}

built_is : (t : Term) (y : Term-F Term) → out-Term t ≡ y → built_value t ≡ built_step (map-Term Term Value built_value y)
built_is t y e = fold_out-Term Value built_step t ∙ ap (λ (z : Term-F Term). built_step (map-Term Term Value built_value z)) e

built_lit : (t : Term) (w : ℕ) → out-Term t ≡ Term-F.Lit w → built_value t ≡ value.Lit w
built_lit t w e = built_is t (Term-F.Lit w) e

built_con : (t : Term) (d k : ℕ) (types : List Ty) (fields : List Term) → out-Term t ≡ Term-F.Con d k types fields → built_value t ≡ value.Con d k (built_values fields)
built_con t d k types fields e = built_is t (Term-F.Con d k types fields) e

mutual
  layer_means : (P : Program) (types : List Ty) (funs : List Fun) (rho bound : List Value) (t : Term) (y : Term-F Term) → out-Term t ≡ y → IsBuiltLayer y →
      MeansOf P types funs rho bound y (built_value t) 0
  layer_means P types funs rho bound t _ e (typed.literal {w = w}) = lit (built_lit t w e)
  layer_means P types funs rho bound t _ e (typed.construction {d = d} {k = k} {types = ts} {fields = fields} built) =
      con (all_mean P types funs rho bound fields built) (built_con t d k ts fields e)

  all_mean : (P : Program) (types : List Ty) (funs : List Fun) (rho bound : List Value) (ts : List Term) → AreBuilt ts →
      MeanAll P types funs rho bound ts (built_values ts) 0
  all_mean P types funs rho bound _ typed.none = none
  all_mean P types funs rho bound _ (typed.more {t = t} {ts = ts} first others) =
      more (layer_means P types funs rho bound t (out-Term t) refl first) (all_mean P types funs rho bound ts others) refl

-- such a term has its value, without a call
pub built_means : (P : Program) (types : List Ty) (funs : List Fun) (rho : List Value) (t : Term) → IsBuiltLayer (out-Term t) → Means P types funs rho t (built_value t) 0
built_means P types funs rho t built = layer_means P types funs rho [] t (out-Term t) refl built

-- the fields of such a term are such terms
pub fields_built : (t : Term) (d k : ℕ) (types : List Ty) (fields : List Term) → t ≡ term.Con d k types fields → IsBuiltLayer (out-Term t) → AreBuilt fields
fields_built t d k types fields e built = by (out-Term t) (ap out-Term e ∙ term.outs-Con d k types fields) built
  where
    by : (y : Term-F Term) → y ≡ Term-F.Con d k types fields → IsBuiltLayer y → AreBuilt fields
    by _ is typed.literal = absurd cc
    by _ is (typed.construction {fields = others} are) = let same : others ≡ fields = cc in subst AreBuilt same are

-- a term of the list is such a term
pub one_built : (ts : List Term) (i : ℕ) (t : Term) → AreBuilt ts → i < length ts → t ≡ get_or ts i t → IsBuiltLayer (out-Term t)
one_built _ i t typed.none within e = absurd (omega arith)
one_built _ zero t (typed.more {t = s} first others) within e = subst (λ (x : Term). IsBuiltLayer (out-Term x)) (sym e) first
one_built _ (suc i) t (typed.more {ts = ts} first others) within e = one_built ts i t others (omega arith) e

-- the cell of a word
pub word_cells : (t : Term) (w : ℕ) (old new : List Cell) → t ≡ term.Lit w → new ≡ old ++ cell.Lit w ∷ [] → new ≡ old ++ preorder (built_value t)
word_cells t w old new e is =
    let value : built_value t ≡ value.Lit w = built_lit t w (ap out-Term e ∙ term.outs-Lit w) in
    is ∙ ap (λ (cells : List Cell). old ++ cells) (sym (ap preorder value ∙ preorder-Lit w))

-- a constructor's cell, and those of its fields
pub construction_cells : (t : Term) (d k n : ℕ) (types : List Ty) (fields : List Term) (old mid new : List Cell) → t ≡ term.Con d k types fields → n ≡ length fields →
    mid ≡ old ++ cell.Con d k n ∷ [] → new ≡ mid ++ preorders (built_values fields) → new ≡ old ++ preorder (built_value t)
construction_cells t d k n types fields old mid new e count first behind =
    let value : built_value t ≡ value.Con d k (built_values fields) = built_con t d k types fields (ap out-Term e ∙ term.outs-Con d k types fields) in
    let many : length (built_values fields) ≡ n = length-map fields built_value ∙ sym count in
    let cells : preorder (built_value t) ≡ cell.Con d k n ∷ preorders (built_values fields) =
    ap preorder value ∙ preorder-Con d k (built_values fields) ∙ ap (λ (m : ℕ). cell.Con d k m ∷ preorders (built_values fields)) many in
    behind ∙ ap (λ (cells : List Cell). cells ++ preorders (built_values fields)) first ∙ after old ∙ ap (λ (cs : List Cell). old ++ cs) (sym cells)
  where
    after : (xs : List Cell) → (xs ++ cell.Con d k n ∷ []) ++ preorders (built_values fields) ≡ xs ++ cell.Con d k n ∷ preorders (built_values fields)
    after [] = refl
    after (x ∷ xs) = ap (λ (ys : List Cell). x ∷ ys) (after xs)

-- the value of such cells alone
pub is_first : (t : Term) (start cells : List Cell) → start ≡ [] → cells ≡ start ++ preorder (built_value t) → IsValue cells
is_first t start cells nothing is = is_one cells (built_value t) (is ∙ ap (λ (cs : List Cell). cs ++ preorder (built_value t)) nothing)

pub shows_first : (t : Term) (start cells : List Cell) → start ≡ [] → cells ≡ start ++ preorder (built_value t) → tree cells ≡ built_value t
shows_first t start cells nothing is = shows cells (built_value t) (is ∙ ap (λ (cs : List Cell). cs ++ preorder (built_value t)) nothing)
