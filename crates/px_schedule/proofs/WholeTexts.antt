-- A value is read from the start of its text to the end.
use Rattle.std.proofs.Common.{◌≡◌, ℕ, ◌+◌, ◌<◌, ◌≤◌, List, [], ◌∷◌, ◌++◌, length, reverse, Result, Ok, Err, IsErr, IsErrAnd, MatchResult, refl, sym, ap, ◌∙◌, subst, arith}
use Rattle.std.proofs.lemmas.List.{append-nil, length-append, reverse-append}
use Rattle.px_base.specs.declared.limits.TheConstants.{VALUE_NODES}
use Rattle.px_terms.specs.declared.types.Ty.{Ty}
use Rattle.px_terms.specs.declared.term.Value.{Value}
use Rattle.px_terms.specs.declared.program.Program.{Program}
use Rattle.px_machine.specs.declared.cells.Cell.{Cell}
use Rattle.px_machine.specs.Cells.{preorder, preorders, trees, tree, IsValue}
use Rattle.px_machine.proofs.CellLaws.{tree-preorder}
use Rattle.px_schedule.specs.declared.runs.Class.TheVariants as classes
use Rattle.px_schedule.specs.declared.wanted.Wanted.{Wanted}
use Rattle.px_schedule.specs.declared.wanted.Wanted.TheVariants as wanted
use Rattle.px_schedule.specs.declared.reading.Reading.{Reading}
use Rattle.px_schedule.specs.declared.value_end.ValueEnd.{ValueEnd}
use Rattle.px_schedule.specs.declared.value_end.ValueEnd.TheVariants.{Fault, NoMemory}
use Rattle.px_schedule.specs.Runs.{IsRun}
use Rattle.px_schedule.specs.ValueGrammar.{Piece, pieces, AreSpelled, nothing, IsText}
use Rattle.px_schedule.specs.Wanting.{AreWants, done, valued, Completes, Grows, Stays, Turns, IsStuck, EndsStuck, IsRoom, IsStep, IsStart}
use Rattle.px_schedule.proofs.Spellings.{spaced, trimmed, no_piece}
use Rattle.px_schedule.proofs.WantFacts.{ValueNeeds, NoNeeds, needs}
use Rattle.px_schedule.proofs.Turning.{turns_none, turns_on}

-- How far the reading of a value of the type has come.
pub record IsUnderWay (P : Program) (T : Ty) (text : List ℕ) (reading : Reading) (rest : List ℕ) : Type 0 where
  pub turns : Turns P (wanted.Value T ∷ []) text [] (reverse reading.wanted) rest reading.cells
  pub room : IsRoom reading.left reading.cells (reverse reading.wanted)
  pub wants : AreWants (reverse reading.wanted)

-- the start
pub started : (P : Program) (T : Ty) (text : List ℕ) (reading : Reading) → IsStart T reading → IsUnderWay P T text reading text
started P T text reading is = record {
  turns = rw (is.wanted, is.cells) (turns_none P (wanted.Value T ∷ []) text []);
  room = rw (is.wanted, is.cells) (omega (arith, is.room));
  wants = rw is.wanted (tt, tt);
}

-- what is taken off the stack is wanted first
pub taken : (before popped : List Wanted) (w : Wanted) → before ≡ popped ++ w ∷ [] → reverse before ≡ w ∷ reverse popped
taken before popped w e = ap (λ (ws : List Wanted). reverse ws) e ∙ reverse-append popped (w ∷ [])

-- one step more
pub under_way : (P : Program) (T : Ty) (text : List ℕ) (before popped later : Reading) (w : Wanted) (rest behind : List ℕ) → reverse before.wanted ≡ w ∷ reverse popped.wanted → before.cells ≡ popped.cells → IsUnderWay P T text before rest → IsStep P w popped rest later behind → IsUnderWay P T text later behind
under_way P T text before popped later w rest behind wanted_is cells_is u s =
    let t : Turns P (wanted.Value T ∷ []) text [] (w ∷ reverse popped.wanted) rest popped.cells = subst (λ (cells : List Cell). Turns P (wanted.Value T ∷ []) text [] (w ∷ reverse popped.wanted) rest cells) cells_is (subst (λ (ws : List Wanted). Turns P (wanted.Value T ∷ []) text [] ws rest before.cells) wanted_is u.turns) in
    record {
      turns = turns_on P (wanted.Value T ∷ []) (w ∷ reverse popped.wanted) (reverse later.wanted) text rest behind [] popped.cells later.cells t s.turns;
      room = s.room;
      wants = s.wants;
    }

-- a value's text is what is wanted of it
pub whole : (P : Program) (T : Ty) (text : List ℕ) (v : Value) → IsText P T text v → Completes P (wanted.Value T ∷ []) text (v ∷ [])
whole P T text v is = record { pieces = pieces v; fits = valued is.typed (sym (append-nil (pieces v))) done; spelled = is.spelled }

-- nothing that is within the limit goes on where reading is stuck
pub stuck_whole : (P : Program) (T : Ty) (text rest : List ℕ) (ws : List Wanted) (cells : List Cell) → Turns P (wanted.Value T ∷ []) text [] ws rest cells → IsStuck P ws rest cells → (v : Value) → IsText P T text v → ⊥
stuck_whole P T text rest ws cells t stuck v is =
    let s : Stays P ws rest t.added (preorders (v ∷ [])) = t.back (v ∷ []) (whole P T text v is) in
    let total : length (preorder v ++ []) ≡ length (t.added ++ preorders s.values) = ap length s.are in
    let plain : length (preorder v ++ []) ≡ length (preorder v) = ap length (append-nil (preorder v)) in
    let split : length (t.added ++ preorders s.values) ≡ length t.added + length (preorders s.values) = length-append t.added (preorders s.values) in
    let cells_are : length cells ≡ length t.added = ap length t.are in
    let small : length (preorder v) ≤ VALUE_NODES = is.small in
    stuck s.values s.completes (omega arith)

-- where reading ends, the values that complete the text are none
ended : (P : Program) (rest : List ℕ) (vs : List Value) → Completes P [] rest vs → (vs ≡ []) × AreSpelled P.names rest []
ended P rest vs C =
    let n : NoNeeds vs C.pieces = needs P C.fits in
    (n.values, subst (AreSpelled P.names rest) n.is C.spelled)

-- all is read, and only spaces are left
pub read_whole : (P : Program) (T : Ty) (text rest spaces : List ℕ) (cells : List Cell) (left : ℕ) → Turns P (wanted.Value T ∷ []) text [] [] rest cells → IsRoom left cells [] → IsRun classes.Space rest spaces [] → (v : Value) × IsText P T text v × (preorder v ≡ cells)
read_whole P T text rest spaces cells left t room run =
    let empty : AreSpelled P.names rest [] = subst (λ (z : List ℕ). AreSpelled P.names z []) (sym run.whole) (spaced P.names spaces [] [] run.each nothing) in
    let C : Completes P [] rest [] = record { pieces = []; fits = done; spelled = empty } in
    let g : Grows P (wanted.Value T ∷ []) text (t.added ++ []) = t.forth [] C in
    let n : ValueNeeds P T [] g.values g.completes.pieces = needs P g.completes.fits in
    let m : NoNeeds n.others n.behind = needs P n.fits in
    let pieces_are : g.completes.pieces ≡ pieces n.value = n.is ∙ ap (λ (ps : List Piece). pieces n.value ++ ps) m.is ∙ append-nil (pieces n.value) in
    let values_are : g.values ≡ n.value ∷ [] = n.values ∙ ap (λ (vs : List Value). n.value ∷ vs) m.values in
    let cells_are : preorder n.value ≡ cells = sym (append-nil (preorder n.value)) ∙ sym (ap preorders values_are) ∙ g.are ∙ append-nil t.added ∙ sym t.are in
    let many : length (preorder n.value) ≡ length cells = ap length cells_are in
    (n.value, record { typed = n.inside; spelled = subst (AreSpelled P.names text) pieces_are g.completes.spelled; small = omega arith }, cells_are)

-- each value that the text is, is what was read
pub one_read : (P : Program) (T : Ty) (text rest : List ℕ) (cells : List Cell) → Turns P (wanted.Value T ∷ []) text [] [] rest cells → (v : Value) → IsText P T text v → preorder v ≡ cells
one_read P T text rest cells t v is =
    let s : Stays P [] rest t.added (preorders (v ∷ [])) = t.back (v ∷ []) (whole P T text v is) in
    let none = (ended P rest s.values s.completes).0 in
    sym (append-nil (preorder v)) ∙ s.are ∙ ap (λ (vs : List Value). t.added ++ preorders vs) none ∙ append-nil t.added ∙ sym t.are

-- the cells of a value show it
pub shown : (v : Value) (cells : List Cell) → preorder v ≡ cells → tree cells ≡ v
shown v cells e = let t : trees cells ≡ v ∷ [] = sym (ap trees e) ∙ tree-preorder v in rw t refl

pub is_value : (v : Value) (cells : List Cell) → preorder v ≡ cells → IsValue cells
is_value v cells e = ap preorder (shown v cells e) ∙ e

-- where more than spaces are left, the text is no value
pub more_left : (P : Program) (T : Ty) (text rest spaces behind : List ℕ) (cells : List Cell) → Turns P (wanted.Value T ∷ []) text [] [] rest cells → IsRun classes.Space rest spaces behind → 0 < length behind → (v : Value) → IsText P T text v → ⊥
more_left P T text rest spaces behind cells t run some v is =
    let s : Stays P [] rest t.added (preorders (v ∷ [])) = t.back (v ∷ []) (whole P T text v is) in
    let e = (ended P rest s.values s.completes).1 in
    let spelled : AreSpelled P.names behind [] = trimmed P.names e tt spaces behind run.whole run.each run.ends in
    let none : length behind ≡ 0 = ap length (no_piece P.names spelled run.ends) in
    omega arith

stuck_end : (P : Program) (T : Ty) (text rest : List ℕ) (ws : List Wanted) (cells : List Cell) → Turns P (wanted.Value T ∷ []) text [] ws rest cells → (v : Value) → IsText P T text v → (end : ValueEnd) → EndsStuck P ws rest cells end → end ≡ NoMemory
stuck_end P T text rest ws cells t v is Fault stuck = absurd (stuck_whole P T text rest ws cells t stuck v is)
stuck_end P T text rest ws cells t v is NoMemory stuck = refl

-- a refusal on the way, where the text is a value
pub refused : {X : Type 0} (r : Result X ValueEnd) (Q : X → Type 0) (P : Program) (T : Ty) (text rest : List ℕ) (reading : Reading) (popped : List Wanted) (w : Wanted) → reading.wanted ≡ popped ++ w ∷ [] → IsUnderWay P T text reading rest → (v : Value) → IsText P T text v → (end : ValueEnd) → EndsStuck P (w ∷ reverse popped) rest reading.cells end → IsErr r × IsErrAnd r (λ e. e ≡ end) →
    MatchResult r Q (λ e. e ≡ NoMemory)
refused (Ok x) Q P T text rest reading popped w split u v is end stuck told = absurd told.1
refused (Err e) Q P T text rest reading popped w split u v is end stuck told =
    let t : Turns P (wanted.Value T ∷ []) text [] (w ∷ reverse popped) rest reading.cells = subst (λ (ws : List Wanted). Turns P (wanted.Value T ∷ []) text [] ws rest reading.cells) (taken reading.wanted popped w split) u.turns in
    told.1 ∙ stuck_end P T text rest (w ∷ reverse popped) reading.cells t v is end stuck

-- Nothing more is wanted.
pub record IsAtEnd (P : Program) (T : Ty) (text : List ℕ) (reading : Reading) (rest : List ℕ) : Type 0 where
  pub turns : Turns P (wanted.Value T ∷ []) text [] [] rest reading.cells
  pub room : IsRoom reading.left reading.cells []

pub at_end : (P : Program) (T : Ty) (text : List ℕ) (reading : Reading) (rest : List ℕ) → reading.wanted ≡ [] → IsUnderWay P T text reading rest → IsAtEnd P T text reading rest
at_end P T text reading rest none u =
    let turned : reverse reading.wanted ≡ [] = ap (λ (ws : List Wanted). reverse ws) none in
    record {
      turns = subst (λ (ws : List Wanted). Turns P (wanted.Value T ∷ []) text [] ws rest reading.cells) turned u.turns;
      room = subst (λ (ws : List Wanted). IsRoom reading.left reading.cells ws) turned u.room;
    }

no_length : (bytes : List ℕ) → length bytes ≡ 0 → bytes ≡ []
no_length [] e = refl
no_length (c ∷ cs) e = absurd (omega arith)

-- The cells that were read are those of a value, and the text is this value.
pub record IsReadWhole (P : Program) (T : Ty) (text : List ℕ) (cells : List Cell) : Type 0 where
  pub value : IsValue cells
  pub is_text : IsText P T text (tree cells)

pub all_read : (P : Program) (T : Ty) (text : List ℕ) (reading : Reading) (rest spaces behind : List ℕ) → IsAtEnd P T text reading rest → IsRun classes.Space rest spaces behind → length behind ≡ 0 → IsReadWhole P T text reading.cells
all_read P T text reading rest spaces behind a run none =
    let r = read_whole P T text rest spaces reading.cells reading.left a.turns a.room (subst (IsRun classes.Space rest spaces) (no_length behind none) run) in
    record { value = is_value r.0 reading.cells r.2; is_text = subst (IsText P T text) (sym (shown r.0 reading.cells r.2)) r.1 }
