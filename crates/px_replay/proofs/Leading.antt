-- Lines that lead from a state to another: one more, fewer, and that there is one state.
use Rattle.std.proofs.Common.{◌≡◌, ◌-◌, ◌+◌, ℕ, List, [], ◌∷◌, ◌++◌, refl, sym, ap, subst, ◌∙◌}
use Rattle.px_terms.specs.declared.clause.Clause.{Clause}
use Rattle.px_terms.specs.declared.program.Program.{Program}
use Rattle.px_terms.specs.declared.sequent.Sequent.{Sequent}
use Rattle.px_terms.specs.declared.row.Row.{Row}
use Rattle.px_terms.specs.declared.row.Row.TheVariants as row
use Rattle.px_terms.specs.Extending.{IsWellFounded}
use Rattle.px_terms.specs.Derivations.{begins_with}
use Rattle.px_descent.specs.Checked.{IsChecked}
use Rattle.px_derive.specs.Laws.{OneRow}
use Rattle.px_soundness.specs.Laws.{OneClause, OneOpening}
use Rattle.px_replay.specs.States.{State, Begins, OpensTop, MovesFrom, Moves, LineMoves, Lead, stays, goes_on, IsPartial}

-- one more line
pub lead_last : (P : Program) (old : State) (lines : List (List ℕ)) (now : State) (line : List ℕ) (new : State) → Lead P old lines now → LineMoves P now line new → Lead P old (lines ++ line ∷ []) new
lead_last P old [] now line new stays moves = goes_on moves stays
lead_last P old (l ∷ lines) now line new (goes_on {now = between} first later) moves = goes_on first (lead_last P between lines now line new later moves)

-- lines after lines
pub lead_append : (P : Program) (old now new : State) (lines more : List (List ℕ)) → Lead P old lines now → Lead P now more new → Lead P old (lines ++ more) new
lead_append P old now new [] more stays later = later
lead_append P old now new (l ∷ lines) more (goes_on {now = between} first rest) later = goes_on first (lead_append P between now new lines more rest later)

-- the state before the last lines
pub lead_front : (P : Program) (old new : State) (lines more : List (List ℕ)) → Lead P old (lines ++ more) new → (now : State) × Lead P old lines now
lead_front P old new [] more leads = (old, stays)
lead_front P old new (l ∷ lines) more (goes_on {now = between} first rest) = let front = lead_front P between new lines more rest in (front.0, goes_on first front.1)

-- The state before the last line, and what the line did.
pub record LastMove (P : Program) (old new : State) (lines : List (List ℕ)) (line : List ℕ) : Type 0 where
  pub now : State
  pub leads : Lead P old lines now
  pub moves : LineMoves P now line new

only_move : (P : Program) (old new : State) (line : List ℕ) → Lead P old (line ∷ []) new → LineMoves P old line new
only_move P old new line (goes_on first stays) = first

pub last_move : (P : Program) (old new : State) (lines : List (List ℕ)) (line : List ℕ) → Lead P old (lines ++ line ∷ []) new → LastMove P old new lines line
last_move P old new [] line leads = record { now = old; leads = stays; moves = only_move P old new line leads }
last_move P old new (l ∷ lines) line (goes_on {now = between} first rest) =
    let last = last_move P between new lines line rest in
    record { now = last.now; leads = goes_on first last.leads; moves = last.moves }

-- what begins a partial derivation's text is one
pub partial_front : (P : Program) (lines more : List (List ℕ)) → IsPartial P (lines ++ more) → IsPartial P lines
partial_front P lines more partial = let front = lead_front P _ partial.state lines more partial.leads in record { state = front.0; leads = front.1 }

module _ (one_row : OneRow) (one_opening : OneOpening) (one_clause : OneClause) where
  one_begin : (P : Program) (n : ℕ) (r : Row) (a b : State) → Begins P n r a → Begins P n r b → a ≡ b
  one_begin P n r a b x y =
      let clauses : x.own ≡ y.own = one_clause P n x.own y.own x.obligation y.obligation in
      let headers : row.Header n x.on ≡ row.Header n y.on = sym x.header ∙ y.header in
      let lists : x.on ≡ y.on = cc in
      x.is ∙ (ap (λ (own : Clause). record { next = n + 1; stack = begins_with own x.on ∷ [] }) clauses ∙ (ap (λ (on : List ℕ). record { next = n + 1; stack = begins_with y.own on ∷ [] }) lists ∙ sym y.is))

  one_opened : (P : Program) → IsWellFounded P → (next : ℕ) (s : Sequent) (below : List Sequent) (r : Row) (a b : State) → OpensTop P next s below r a → OpensTop P next s below r b → a ≡ b
  one_opened P founded next s below r a b x y =
      let all : x.children ≡ y.children = one_opening P founded (next - 1) s r x.children y.children x.opens y.opens in
      x.is ∙ (ap (λ (children : List Sequent). record { next = next; stack = children ++ below }) all ∙ sym y.is)

  one_move_from : (P : Program) → IsWellFounded P → (next : ℕ) (stack : List Sequent) (r : Row) (a b : State) → MovesFrom P next stack r a → MovesFrom P next stack r b → a ≡ b
  one_move_from P founded next [] r a b x y = one_begin P next r a b x y
  one_move_from P founded next (s ∷ below) r a b x y = one_opened P founded next s below r a b x y

  one_line_move : (P : Program) → IsChecked P → (old : State) (line : List ℕ) (a b : State) → LineMoves P old line a → LineMoves P old line b → a ≡ b
  one_line_move P checked old line a b x y =
      let rows : x.row ≡ y.row = one_row P.names x.row y.row checked.lawful x.spellable y.spellable (sym x.spelled ∙ y.spelled) in
      one_move_from P (record { typed = checked.typed; descends = checked.descends }) old.next old.stack y.row a b (subst (λ (r : Row). Moves P old r a) rows x.moves) y.moves

  -- lines lead to at most one state
  pub only_state : (P : Program) → IsChecked P → (lines : List (List ℕ)) (old a b : State) → Lead P old lines a → Lead P old lines b → a ≡ b
  only_state P checked [] old a b stays stays = refl
  only_state P checked (l ∷ lines) old a b (goes_on {now = m} x more) (goes_on {now = k} y others) =
      let one : m ≡ k = one_line_move P checked old l m k x y in
      only_state P checked lines k a b (subst (λ (s : State). Lead P s lines a) one more) others
