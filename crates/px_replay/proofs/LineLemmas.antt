-- What a header and a row do to the state, and why a line does not go on.
use Rattle.std.proofs.Common.{◌≡◌, ◌≢◌, ◌<◌, ◌≤◌, ◌+◌, ◌-◌, ℕ, zero, suc, List, [], ◌∷◌, ◌++◌, length, map, reverse, All, Result, Ok, Err, IfErr, IsErr, IsErrAnd, OnOk, refl, sym, ap, subst, ◌∙◌, arith}
use Rattle.std.proofs.lemmas.List.Elements.{All-nil, All-cons, All-head, All-tail, All-push}
use Rattle.std.proofs.lemmas.Option.{slice_get_within}
use Rattle.px_terms.specs.declared.clause.Clause.{Clause}
use Rattle.px_terms.specs.declared.program.Program.{Program}
use Rattle.px_terms.specs.declared.sequent.Sequent.{Sequent}
use Rattle.px_terms.specs.declared.row.Row.{Row}
use Rattle.px_terms.specs.declared.row.Row.TheVariants as row
use Rattle.px_terms.specs.Obligations.{IsObligation}
use Rattle.px_terms.specs.Sequents.{IsWithinLimits}
use Rattle.px_terms.specs.Rows.{Opens}
use Rattle.px_terms.specs.Derivations.{AreFrameVariables, begins_with}
use Rattle.px_derive.specs.declared.line_end.LineEnd.{LineEnd}
use Rattle.px_derive.specs.declared.line_end.LineEnd.TheVariants as line_ends
use Rattle.px_derive.specs.Spelling.{line_of}
use Rattle.px_derive.specs.Spellable.{IsSpellable, IsNoLine}
use Rattle.px_replay.specs.declared.ends.Why.TheVariants as why
use Rattle.px_replay.specs.declared.ends.RowEnd.{RowEnd}
use Rattle.px_replay.specs.declared.ends.RowEnd.TheVariants as row_ends
use Rattle.px_replay.specs.declared.ends.LineRefusal.{LineRefusal}
use Rattle.px_replay.specs.declared.ends.LineRefusal.TheVariants as refusals
use Rattle.px_replay.specs.declared.open_sequents.Open.{Open}
use Rattle.px_replay.specs.declared.open_sequents.Progress.{Progress}
use Rattle.px_replay.specs.States.{State, Begins, MovesFrom, Moves, LineMoves}
use Rattle.px_replay.specs.Refusals.{IsNextHeader, IsDue, IsDueFrom}
use Rattle.px_replay.specs.Ends.{line_refusal, row_refusal}
use Rattle.px_replay.specs.Replaying.{IsRightlyMarked, child_within, sequents_of, state_of, IsSound, RowRefused, LineRefused}
use Rattle.px_replay.proofs.StackLemmas.{top_sequent, pushed_sequents, pushed_marked}

-- the obligation is one of those declared
pub obligation_within : (P : Program) (n : ℕ) (clause : Clause) → IsObligation P n clause → n < length P.declared
obligation_within P n clause is = slice_get_within P.declared n is.declared is.number

-- the state after a header
pub header_state : (next : ℕ) (stack new_stack : List Open) (new_next : ℕ) (first : Open) (s : Sequent) → stack ≡ [] → first.sequent ≡ s → new_next ≡ next + 1 → new_stack ≡ stack ++ first ∷ [] →
    ◌≡◌ {A = State} (record { next = new_next; stack = sequents_of new_stack }) (record { next = next + 1; stack = s ∷ [] })
header_state next stack new_stack new_next first s none first_is next_is stack_is =
    let whole : new_stack ≡ first ∷ [] = stack_is ∙ ap (λ (os : List Open). os ++ first ∷ []) none in
    let one : sequents_of new_stack ≡ s ∷ [] = top_sequent new_stack [] first whole ∙ ap (λ (t : Sequent). t ∷ []) first_is in
    ap (λ (n : ℕ). record { next = n; stack = sequents_of new_stack }) next_is ∙ ap (λ (ss : List Sequent). record { next = next + 1; stack = ss }) one

-- a header moves on, where nothing is open
pub header_moves : (P : Program) (old : Progress) (r : Row) (on : List ℕ) (clause : Clause) (new : State) → old.stack ≡ [] → r ≡ row.Header old.next on → IsObligation P old.next clause → AreFrameVariables clause on →
    new ≡ record { next = old.next + 1; stack = begins_with clause on ∷ [] } → Moves P (state_of old) r new
header_moves P old r on clause new none header obligation variables is =
    subst (λ (os : List Open). MovesFrom P old.next (sequents_of os) r new) (sym none)
    (record { own = clause; on = on; header = header; obligation = obligation; variables = variables; is = is })

-- the state stays sound after a header
pub header_sound : (P : Program) (old new : Progress) (first : Open) → IsSound P old → old.next < length P.declared → IsRightlyMarked first → new.next ≡ old.next + 1 → new.stack ≡ old.stack ++ first ∷ [] → IsSound P new
header_sound P old new first sound below marked next_is stack_is = record {
  marked = subst (All IsRightlyMarked) (sym stack_is) (All-push IsRightlyMarked old.stack first sound.marked marked);
  within = let e : new.next ≡ old.next + 1 = next_is in omega (arith, e, below);
  begun = λ none. (let e : old.next + 1 ≡ 0 = sym next_is ∙ none in absurd (omega (arith, e)));
}

-- a row that is not the next header is out of order, where nothing is open
pub no_header : (P : Program) (old : Progress) (r : Row) → old.stack ≡ [] → (IsNextHeader P old.next r → ⊥) → ¬ IsDue P (state_of old) r
no_header P old r none not due = not (subst (λ (os : List Open). IsDueFrom P old.next (sequents_of os) r) none due)

-- the next header whose variables are no frame variables breaks a rule
pub header_breaks : (P : Program) (old : Progress) (r : Row) (on : List ℕ) (clause : Clause) → old.stack ≡ [] → r ≡ row.Header old.next on → old.next < length P.declared → ((own : Clause) → IsObligation P old.next own → own ≡ clause) →
    (AreFrameVariables clause on → ⊥) → RowRefused P (state_of old) r (refusals.Wrong why.Rule)
header_breaks P old r on clause none header below only not =
    let due : IsDueFrom P old.next [] r = record { there = below; on = on; header = header } in (
      subst (λ (os : List Open). IsDueFrom P old.next (sequents_of os) r) (sym none) due,
      λ new moves.
          let begins : Begins P old.next r new = subst (λ (os : List Open). MovesFrom P old.next (sequents_of os) r new) none moves in
          let headers : row.Header old.next begins.on ≡ row.Header old.next on = sym begins.header ∙ header in
          let lists : begins.on ≡ on = cc in
          not (subst (λ (c : Clause). AreFrameVariables c on) (only begins.own begins.obligation) (subst (AreFrameVariables begins.own) lists begins.variables)),
    )

-- memory that is wanting refuses nothing
pub wants_memory : {X : Type 0} (P : Program) (s : State) (r : Row) (result : Result X LineRefusal) → IsErr result × IsErrAnd result (λ end. end ≡ refusals.NoMemory) → IfErr result (RowRefused P s r)
wants_memory P s r (Ok x) told = tt
wants_memory P s r (Err end) told = subst (RowRefused P s r) (sym told.1) tt

-- the state after a row
pub row_state : (next : ℕ) (popped new : List Open) (children : List Sequent) → new ≡ popped ++ map child_within (reverse children) →
    ◌≡◌ {A = State} (record { next = next; stack = sequents_of new }) (record { next = next; stack = children ++ sequents_of popped })
row_state next popped new children is = ap (λ (ss : List Sequent). record { next = next; stack = ss }) (ap sequents_of is ∙ pushed_sequents popped children)

-- the state stays sound after a row
pub row_sound : (P : Program) (next : ℕ) (popped new : List Open) (top : Open) (children : List Sequent) → IsSound P (record { next = next; stack = popped ++ top ∷ [] }) → All IsRightlyMarked popped → 0 < next → All IsWithinLimits children →
    new ≡ popped ++ map child_within (reverse children) → IsSound P (record { next = next; stack = new })
row_sound P next popped new top children sound marked begun small is = record {
  marked = pushed_marked popped new children is marked small;
  within = sound.within;
  begun = λ none. absurd (omega (arith, none, begun));
}

no_nil : {X : Type 0} (xs : List X) (x : X) → xs ++ x ∷ [] ≡ [] → ⊥
no_nil [] x e = let h : x ∷ [] ≡ [] = e in cc
no_nil (y ∷ xs) x e = let h : y ∷ (xs ++ x ∷ []) ≡ [] = e in cc

-- where something is open, an obligation was begun
pub some_begun : (P : Program) (next : ℕ) (popped : List Open) (top : Open) → IsSound P (record { next = next; stack = popped ++ top ∷ [] }) → 0 < next
some_begun P zero popped top sound = absurd (no_nil popped top (sound.begun refl))
some_begun P (suc n) popped top sound = omega arith

all_front : {X : Type 0} (Q : X → Type 0) (xs ys : List X) → All Q (xs ++ ys) → All Q xs
all_front Q [] ys all = All-nil Q
all_front Q (x ∷ xs) ys all = All-cons Q x xs (All-head Q x (xs ++ ys) all) (all_front Q xs ys (All-tail Q x (xs ++ ys) all))

all_last : {X : Type 0} (Q : X → Type 0) (xs : List X) (x : X) → All Q (xs ++ x ∷ []) → Q x
all_last Q [] x all = All-head Q x [] all
all_last Q (y ∷ xs) x all = all_last Q xs x (All-tail Q y (xs ++ x ∷ []) all)

-- the marks of the rest and of the top
pub rest_marked : (P : Program) (next : ℕ) (popped : List Open) (top : Open) → IsSound P (record { next = next; stack = popped ++ top ∷ [] }) → All IsRightlyMarked popped
rest_marked P next popped top sound = all_front IsRightlyMarked popped (top ∷ []) sound.marked

pub top_marked : (P : Program) (next : ℕ) (popped : List Open) (top : Open) → IsSound P (record { next = next; stack = popped ++ top ∷ [] }) → IsRightlyMarked top
top_marked P next popped top sound = all_last IsRightlyMarked popped top sound.marked

-- the obligation at hand is one of those declared
pub at_hand : (P : Program) (next : ℕ) (popped : List Open) (top : Open) → IsSound P (record { next = next; stack = popped ++ top ∷ [] }) → next - 1 < length P.declared
at_hand P next popped top sound = let begun = some_begun P next popped top sound in let within : next ≤ length P.declared = sound.within in omega (arith, begun, within)

-- a header is out of order where something is open
pub header_in_tree : (P : Program) (next : ℕ) (s : Sequent) (below : List Sequent) (r : Row) (n : ℕ) (on : List ℕ) → r ≡ row.Header n on → ¬ IsDue P (record { next = next; stack = s ∷ below }) r
header_in_tree P next s below r n on is due = due n on is

-- a row that leaves no children is refused for its rule, or for want of memory
pub row_refuses : {X : Type 0} (P : Program) (next : ℕ) (s : Sequent) (below : List Sequent) (r : Row) (left : RowEnd) (result : Result X LineRefusal) → ((n : ℕ) (on : List ℕ) → r ≢ row.Header n on) →
    ((children : List Sequent) → Opens P (next - 1) s r children → left ≡ row_ends.NoMemory) → IsErr result × IsErrAnd result (λ end. end ≡ row_refusal left) → IfErr result (RowRefused P (record { next = next; stack = s ∷ below }) r)
row_refuses P next s below r left (Ok x) due only told = tt
row_refuses P next s below r row_ends.NoRule (Err end) due only told =
    subst (RowRefused P (record { next = next; stack = s ∷ below }) r) (sym told.1)
    (due, λ new moves. (let e : row_ends.NoRule ≡ row_ends.NoMemory = only moves.children moves.opens in cc))
row_refuses P next s below r row_ends.NoMemory (Err end) due only told = subst (RowRefused P (record { next = next; stack = s ∷ below }) r) (sym told.1) tt

-- a row that was refused is a line that was
pub refused_line : {X : Type 0} (P : Program) (state : State) (line : List ℕ) (r : Row) → IsSpellable P.names r → line ≡ line_of P.names r → (result : Result X LineRefusal) → IfErr result (RowRefused P state r) → IfErr result (LineRefused P state line)
refused_line P state line r spellable spelled (Ok x) told = tt
refused_line P state line r spellable spelled (Err (refusals.Wrong why.Form)) told = absurd told
refused_line P state line r spellable spelled (Err (refusals.Wrong why.Order)) told = record { row = r; spellable = spellable; spelled = spelled; order = told }
refused_line P state line r spellable spelled (Err (refusals.Wrong why.Rule)) told = record { row = r; spellable = spellable; spelled = spelled; order = told.0; rule = told.1 }
refused_line P state line r spellable spelled (Err (refusals.Wrong why.End)) told = absurd told
refused_line P state line r spellable spelled (Err refusals.NoMemory) told = tt

-- a line that was not read is refused
pub unread_line : {X : Type 0} (P : Program) (state : State) (line : List ℕ) (left : LineEnd) (result : Result X LineRefusal) → (left ≡ line_ends.Form → IsNoLine P.names line) → IsErr result × IsErrAnd result (λ end. end ≡ line_refusal left) → IfErr result (LineRefused P state line)
unread_line P state line left (Ok x) form told = tt
unread_line P state line line_ends.Form (Err end) form told = subst (LineRefused P state line) (sym told.1) (form refl)
unread_line P state line line_ends.NoMemory (Err end) form told = subst (LineRefused P state line) (sym told.1) tt

-- a row that was taken is a line that was
pub line_taken : {X : Type 0} (P : Program) (old new : State) (line : List ℕ) (r : Row) → IsSpellable P.names r → line ≡ line_of P.names r → (result : Result X LineRefusal) → OnOk result (Moves P old r new) → OnOk result (LineMoves P old line new)
line_taken P old new line r spellable spelled (Ok x) moves = record { row = r; spellable = spellable; spelled = spelled; moves = moves }
line_taken P old new line r spellable spelled (Err end) moves = moves
