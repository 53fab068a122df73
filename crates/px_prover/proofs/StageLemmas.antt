-- The moves of stages, and their rows.
use Rattle.std.proofs.Common.{◌≡◌, ◌<◌, ◌+◌, ℕ, zero, suc, List, [], ◌∷◌, ◌++◌, map, length, take, get_or, refl, sym, ap, ◌∙◌, subst, arith}
use Rattle.std.specs.List.{flat_map}
use Rattle.std.proofs.lemmas.List.{append_assoc, append-nil, map-append}
use Rattle.std.proofs.lemmas.Grind.{flat_map-append}
use Rattle.px_terms.specs.declared.row.Kind.{Kind}
use Rattle.px_terms.specs.declared.row.Row.{Row}
use Rattle.px_terms.specs.declared.row.Row.TheVariants as row
use Rattle.px_terms.specs.declared.row.Target.{Target}
use Rattle.px_prover.specs.declared.stages.Stage.{Stage}
use Rattle.px_prover.specs.declared.stages.Stage.TheVariants as stage
use Rattle.px_prover.specs.declared.stages.Stage.TheOpen.{Stage-F}
use Rattle.px_prover.specs.declared.stages.Stage.TheFolds.{map-Stage, fold_out-Stage}
use Rattle.px_prover.specs.Moves.{Move}
use Rattle.px_prover.specs.Normalising.{moves_step, moves_below, moves_in, moves_of}
use Rattle.px_prover.specs.StepRows.{step_rows}

-- a step at a term is one move
moves_here : (k : Kind) → moves_in (stage.Here k) ≡ record { path = []; kind = k } ∷ []
moves_here k = fold_out-Stage (List Move) moves_step (stage.Here k) ∙ ap (λ (y : Stage-F Stage). moves_step (map-Stage Stage (List Move) moves_in y)) (stage.outs-Here k)

-- the moves of a step at a term, and of those behind it
pub moves_first : (k : Kind) (stages : List Stage) → moves_of (stage.Here k ∷ stages) ≡ record { path = []; kind = k } ∷ moves_of stages
moves_first k stages = ap (λ (ms : List Move). ms ++ moves_of stages) (moves_here k)

-- lists of moves joined
joined_map : (stages : List Stage) → flat_map (λ (moves : List Move). moves) (map moves_in stages) ≡ moves_of stages
joined_map [] = refl
joined_map (x ∷ xs) = ap (λ (ms : List Move). moves_in x ++ ms) (joined_map xs)

-- steps below a child are the moves below it
pub moves_child : (child : ℕ) (stages : List Stage) → moves_in (stage.Below child stages) ≡ moves_below child (moves_of stages)
moves_child child stages =
    fold_out-Stage (List Move) moves_step (stage.Below child stages)
    ∙ ap (λ (y : Stage-F Stage). moves_step (map-Stage Stage (List Move) moves_in y)) (stage.outs-Below child stages)
    ∙ ap (moves_below child) (joined_map stages)

-- stages with one more
pub moves_more : (stages : List Stage) (x : Stage) → moves_of (stages ++ x ∷ []) ≡ moves_of stages ++ moves_in x
moves_more stages x = flat_map-append moves_in stages (x ∷ []) ∙ ap (λ (ms : List Move). moves_of stages ++ ms) (append-nil (moves_in x))

-- stages with some below a child more
pub moves_with_child : (stages : List Stage) (child : ℕ) (below : List Stage) → moves_of (stages ++ stage.Below child below ∷ []) ≡ moves_of stages ++ moves_below child (moves_of below)
moves_with_child stages child below = moves_more stages (stage.Below child below) ∙ ap (λ (ms : List Move). moves_of stages ++ ms) (moves_child child below)

-- the rows of moves below a child
pub rows_below : (target : Target) (path : List ℕ) (child : ℕ) (moves : List Move) → step_rows target (path ++ child ∷ []) moves ≡ step_rows target path (moves_below child moves)
rows_below target path child [] = refl
rows_below target path child (m ∷ ms) = λ k. row.Step target (append_assoc path (child ∷ []) m.path k) m.kind ∷ rows_below target path child ms k

-- the rows of one move
pub rows_here : (target : Target) (path : List ℕ) (k : Kind) → step_rows target path (moves_in (stage.Here k)) ≡ row.Step target path k ∷ []
rows_here target path k = ap (step_rows target path) (moves_here k) ∙ (λ i. row.Step target (append-nil path i) k ∷ [])

-- the rows of steps below a child
pub rows_child : (target : Target) (path : List ℕ) (child : ℕ) (stages : List Stage) → step_rows target (path ++ child ∷ []) (moves_of stages) ≡ step_rows target path (moves_in (stage.Below child stages))
rows_child target path child stages = rows_below target path child (moves_of stages) ∙ ap (step_rows target path) (sym (moves_child child stages))

-- the first stages with one more
take_more : (stages : List Stage) (i : ℕ) (x : Stage) → i < length stages → x ≡ get_or stages i x → take (suc i) stages ≡ take i stages ++ x ∷ []
take_more [] i x within is = absurd (omega arith)
take_more (y ∷ ys) zero x within is = ap (λ (z : Stage). z ∷ []) (sym is)
take_more (y ∷ ys) (suc i) x within is = ap (λ (l : List Stage). y ∷ l) (take_more ys i x (omega arith) is)

-- the rows of the first stages, with those of one more
pub rows_more : (target : Target) (path : List ℕ) (stages : List Stage) (i : ℕ) (x : Stage) (before now later : List Row) → i < length stages → x ≡ get_or stages i x →
    now ≡ before ++ step_rows target path (moves_of (take i stages)) → later ≡ now ++ step_rows target path (moves_in x) → later ≡ before ++ step_rows target path (moves_of (take (i + 1) stages))
rows_more target path stages i x before now later within is so_far next =
    let one : suc i ≡ i + 1 = omega arith in
    let moves : moves_of (take (i + 1) stages) ≡ moves_of (take i stages) ++ moves_in x =
    ap (λ (k : ℕ). moves_of (take k stages)) (sym one) ∙ ap moves_of (take_more stages i x within is) ∙ moves_more (take i stages) x in
    next ∙ ap (λ (l : List Row). l ++ step_rows target path (moves_in x)) so_far
    ∙ append_assoc before (step_rows target path (moves_of (take i stages))) (step_rows target path (moves_in x))
    ∙ ap (λ (l : List Row). before ++ l) (sym (map-append (λ (m : Move). row.Step target (path ++ m.path) m.kind) (moves_of (take i stages)) (moves_in x)) ∙ ap (step_rows target path) (sym moves))

-- two lists that end in one item are one before it
pub before_last : {X : Type 0} (xs ys : List X) (x y : X) → xs ++ x ∷ [] ≡ ys ++ y ∷ [] → xs ≡ ys
before_last [] [] x y e = refl
before_last [] (b ∷ []) x y e = cc
before_last [] (b ∷ c ∷ bs) x y e = cc
before_last (a ∷ []) [] x y e = cc
before_last (a ∷ c ∷ us) [] x y e = cc
before_last (a ∷ us) (b ∷ bs) x y e =
    let head : a ≡ b = cc in
    let tail : us ++ x ∷ [] ≡ bs ++ y ∷ [] = cc in
    λ k. head k ∷ before_last us bs x y tail k
