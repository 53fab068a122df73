-- Lines that lead anywhere are those of trees and then of one that is not finished, and the other way about.
use Rattle.std.proofs.Common.{◌≡◌, ◌+◌, ◌-◌, ◌↔◌, ℕ, suc, List, [], ◌∷◌, ◌++◌, length, map, slice_get, Some, None, refl, sym, ap, subst, ◌∙◌, arith, add-zero}
use Rattle.std.specs.List.{AllByRecursion}
use Rattle.std.proofs.lemmas.List.{map-append, append_assoc}
use Rattle.px_terms.specs.declared.program.Program.{Program}
use Rattle.px_terms.specs.declared.sequent.Sequent.{Sequent}
use Rattle.px_terms.specs.declared.row.Row.{Row}
use Rattle.px_terms.specs.declared.row.Row.TheVariants as row
use Rattle.px_terms.specs.declared.row.Tree.{Tree}
use Rattle.px_terms.specs.Rows.{Opens}
use Rattle.px_terms.specs.Derivations as derivations
use Rattle.px_terms.specs.Derivations.{DerivesObligation, begins_with}
use Rattle.px_derive.specs.Spelling.{line_of}
use Rattle.px_derive.specs.Spellable.{IsSpellable}
use Rattle.px_soundness.specs.Laws.{EachStackIsTree}
use Rattle.px_replay.specs.States.{State, start, Begins, MovesFrom, Lead, stays, goes_on, rows_from, IsPartial}
use Rattle.px_replay.specs.Beginnings.{IsUnfinished, nothing, left_open, BeginFrom, BeginDerivation}
use Rattle.px_replay.proofs.Leading.{lead_append}
use Rattle.px_replay.proofs.Trees.{all_by-append, all_by-front, all_by-back, before, each_cons, no_rows, row_lines, tree_lines}

-- The lines are those of rows that close these sequents, and then begin the obligations from this number on.
record ClosesFirst (P : Program) (n : ℕ) (stack : List Sequent) (lines : List (List ℕ)) : Type 0 where
  rows : List Row
  leads : derivations.Leads P (n - 1) stack rows []
  spellable : AllByRecursion (IsSpellable P.names) rows
  later : List (List ℕ)
  rest : BeginFrom P n later
  are : lines ≡ map (line_of P.names) rows ++ later

-- The lines are those of rows that leave something open of these sequents.
record LeavesOpen (P : Program) (n : ℕ) (stack : List Sequent) (lines : List (List ℕ)) : Type 0 where
  rows : List Row
  top : Sequent
  below : List Sequent
  leads : derivations.Leads P (n - 1) stack rows (top ∷ below)
  spellable : AllByRecursion (IsSpellable P.names) rows
  are : lines ≡ map (line_of P.names) rows

-- the lines go on from a state in one of the two ways
data GoOn (P : Program) (n : ℕ) (stack : List Sequent) (lines : List (List ℕ)) : Type 0 where
  closed : ClosesFirst P n stack lines → GoOn P n stack lines
  unclosed : LeavesOpen P n stack lines → GoOn P n stack lines

no_trees : (P : Program) (n : ℕ) (i : ℕ) (tree : Tree) → slice_get [] i ≡ Some tree → DerivesObligation P (n + i) tree
no_trees P n i tree found = (let e : None ≡ Some tree = found in cc)

no_lines : (P : Program) (n : ℕ) → BeginFrom P n []
no_lines P n = record { trees = []; each = no_trees P n; last = []; unfinished = nothing; spellable = tt; are = refl }

nothing_open : (P : Program) (n : ℕ) (lines : List (List ℕ)) → BeginFrom P n lines → GoOn P n [] lines
nothing_open P n lines rest = closed (record { rows = []; leads = derivations.stays; spellable = tt; later = lines; rest = rest; are = refl })

stop : (P : Program) (n : ℕ) (stack : List Sequent) → GoOn P n stack []
stop P n [] = nothing_open P n [] (no_lines P n)
stop P n (s ∷ below) = unclosed (record { rows = []; top = s; below = below; leads = derivations.stays; spellable = tt; are = refl })

-- a header before rows that leave something open
header_open : (P : Program) (n : ℕ) (r : Row) (now : State) (lines : List (List ℕ)) → IsSpellable P.names r → (begins : Begins P n r now) →
    LeavesOpen P (n + 1) (begins_with begins.own begins.on ∷ []) lines → BeginFrom P n (line_of P.names r ∷ lines)
header_open P n r now lines spellable begins here =
    let leads = subst (λ (k : ℕ). derivations.Leads P k (begins_with begins.own begins.on ∷ []) here.rows (here.top ∷ here.below)) (before n) here.leads in
    let unfinished : IsUnfinished P n (row.Header n begins.on ∷ here.rows) = left_open begins.obligation begins.variables leads in
    record {
      trees = [];
      each = no_trees P n;
      last = row.Header n begins.on ∷ here.rows;
      unfinished = subst (λ (k : ℕ). IsUnfinished P k (row.Header n begins.on ∷ here.rows)) (sym (add-zero n)) unfinished;
      spellable = (subst (IsSpellable P.names) begins.header spellable, here.spellable);
      are = ap (λ (q : Row). line_of P.names q ∷ lines) begins.header ∙ ap (λ (ls : List (List ℕ)). line_of P.names (row.Header n begins.on) ∷ ls) here.are;
    }

-- a row before what goes on from its children
row_first : (P : Program) (next : ℕ) (s : Sequent) (below : List Sequent) (r : Row) (children : List Sequent) (lines : List (List ℕ)) → IsSpellable P.names r →
    Opens P (next - 1) s r children → GoOn P next (children ++ below) lines → GoOn P next (s ∷ below) (line_of P.names r ∷ lines)
row_first P next s below r children lines spellable opens (closed here) =
    closed (record {
      rows = r ∷ here.rows;
      leads = derivations.goes_on opens here.leads;
      spellable = (spellable, here.spellable);
      later = here.later;
      rest = here.rest;
      are = ap (λ (ls : List (List ℕ)). line_of P.names r ∷ ls) here.are;
    })
row_first P next s below r children lines spellable opens (unclosed here) =
    unclosed (record {
      rows = r ∷ here.rows;
      top = here.top;
      below = here.below;
      leads = derivations.goes_on opens here.leads;
      spellable = (spellable, here.spellable);
      are = ap (λ (ls : List (List ℕ)). line_of P.names r ∷ ls) here.are;
    })

-- the lines of a header and its rows, and then of what comes later
joined_lines : {X Y : Type 0} (f : X → Y) (rows trees last : List X) (lines later : List Y) → lines ≡ map f rows ++ later → later ≡ map f (trees ++ last) → lines ≡ map f ((rows ++ trees) ++ last)
joined_lines f rows trees last lines later first second =
    first ∙ (ap (λ ls. map f rows ++ ls) second ∙ (sym (map-append f rows (trees ++ last)) ∙ ap (map f) (sym (append_assoc rows trees last))))

joined_spellable : {X : Type 0} (Q : X → Type 0) (rows trees last : List X) → AllByRecursion Q rows → AllByRecursion Q (trees ++ last) → AllByRecursion Q ((rows ++ trees) ++ last)
joined_spellable Q rows trees last first second = subst (AllByRecursion Q) (sym (append_assoc rows trees last)) (all_by-append Q rows (trees ++ last) first second)

-- of no sequents rows leave nothing open
none_open : (P : Program) (n : ℕ) (rows : List Row) (top : Sequent) (below : List Sequent) → derivations.Leads P n [] rows (top ∷ below) → ⊥
none_open P n [] top below leads = elim leads [ ]
none_open P n (r ∷ rows) top below leads = elim leads [ ]

module _ (stack_is_tree : EachStackIsTree) where
  -- a header before rows that close its first sequent, and what comes after them
  header_closed : (P : Program) (n : ℕ) (r : Row) (now : State) (lines : List (List ℕ)) → IsSpellable P.names r → (begins : Begins P n r now) →
      ClosesFirst P (n + 1) (begins_with begins.own begins.on ∷ []) lines → BeginFrom P n (line_of P.names r ∷ lines)
  header_closed P n r now lines spellable begins here =
      let leads = subst (λ (k : ℕ). derivations.Leads P k (begins_with begins.own begins.on ∷ []) here.rows []) (before n) here.leads in
      let found = (stack_is_tree P n (begins_with begins.own begins.on) here.rows).tree_of leads in
      let tree : Tree = record { on = begins.on; rows = here.rows } in
      let derives : DerivesObligation P n tree = record { clause = begins.own; obligation = begins.obligation; on = begins.variables; root = found.0; rows = found.2; derives = found.1 } in
      let count : (n + 1) + length here.rest.trees ≡ n + suc (length here.rest.trees) = omega arith in
      let trees = rows_from (n + 1) here.rest.trees in
      record {
        trees = tree ∷ here.rest.trees;
        each = each_cons P n tree here.rest.trees derives here.rest.each;
        last = here.rest.last;
        unfinished = subst (λ (k : ℕ). IsUnfinished P k here.rest.last) count here.rest.unfinished;
        spellable = (subst (IsSpellable P.names) begins.header spellable, joined_spellable (IsSpellable P.names) here.rows trees here.rest.last here.spellable here.rest.spellable);
        are = ap (λ (q : Row). line_of P.names q ∷ lines) begins.header ∙ ap (λ (ls : List (List ℕ)). line_of P.names (row.Header n begins.on) ∷ ls) (joined_lines (line_of P.names) here.rows trees here.rest.last lines here.later here.are here.rest.are);
      }

  header_first : (P : Program) (n : ℕ) (r : Row) (now : State) (lines : List (List ℕ)) → IsSpellable P.names r → (begins : Begins P n r now) →
      GoOn P (n + 1) (begins_with begins.own begins.on ∷ []) lines → BeginFrom P n (line_of P.names r ∷ lines)
  header_first P n r now lines spellable begins (closed here) = header_closed P n r now lines spellable begins here
  header_first P n r now lines spellable begins (unclosed here) = header_open P n r now lines spellable begins here

  one_more : (P : Program) (next : ℕ) (stack : List Sequent) (r : Row) (now : State) (lines : List (List ℕ)) → IsSpellable P.names r → MovesFrom P next stack r now → GoOn P now.next now.stack lines → GoOn P next stack (line_of P.names r ∷ lines)
  one_more P next [] r now lines spellable begins go =
      nothing_open P next (line_of P.names r ∷ lines) (header_first P next r now lines spellable begins (subst (λ (s : State). GoOn P s.next s.stack lines) begins.is go))
  one_more P next (s ∷ below) r now lines spellable opened go =
      row_first P next s below r opened.children lines spellable opened.opens (subst (λ (t : State). GoOn P t.next t.stack lines) opened.is go)

  go_on : (P : Program) (old new : State) (lines : List (List ℕ)) → Lead P old lines new → GoOn P old.next old.stack lines
  go_on P old new [] leads = stop P old.next old.stack
  go_on P old new (l ∷ lines) (goes_on {now = now} first rest) =
      subst (λ (line : List ℕ). GoOn P old.next old.stack (line ∷ lines)) (sym first.spelled) (one_more P old.next old.stack first.row now lines first.spellable first.moves (go_on P now new lines rest))

  begun : (P : Program) (lines : List (List ℕ)) → GoOn P 0 [] lines → BeginFrom P 0 lines
  begun P lines (closed here) =
      let none : here.rows ≡ [] = no_rows stack_is_tree P (0 - 1) here.rows here.leads in
      let same : here.later ≡ lines = sym (here.are ∙ ap (λ (rows : List Row). map (line_of P.names) rows ++ here.later) none) in
      subst (BeginFrom P 0) same here.rest
  begun P lines (unclosed here) = absurd (none_open P (0 - 1) here.rows here.top here.below here.leads)

  -- what is not finished leads on
  unfinished_leads : (P : Program) (n : ℕ) (last : List Row) → IsUnfinished P n last → AllByRecursion (IsSpellable P.names) last → (state : State) × Lead P (record { next = n; stack = [] }) (map (line_of P.names) last) state
  unfinished_leads P n [] nothing spellable = (record { next = n; stack = [] }, stays)
  unfinished_leads P n (_ ∷ rows) (left_open {clause = clause} {on = on} {top = top} {below = below} obligation variables leads) spellable = (
    record { next = n + 1; stack = top ∷ below },
    goes_on (record {
      row = row.Header n on;
      spellable = spellable.0;
      spelled = refl;
      moves = record { own = clause; on = on; header = refl; obligation = obligation; variables = variables; is = refl };
    }) (row_lines stack_is_tree P n (begins_with clause on ∷ []) (top ∷ below) rows leads spellable.1),
  )

  partial : (P : Program) (lines : List (List ℕ)) → BeginFrom P 0 lines → IsPartial P lines
  partial P lines text =
      let zero_first : (k : ℕ) → 0 + k ≡ k = λ k. omega arith in
      let rows = rows_from 0 text.trees in
      let count = 0 + length text.trees in
      let front = tree_lines stack_is_tree P 0 text.trees text.each (all_by-front (IsSpellable P.names) rows text.last text.spellable) in
      let back = unfinished_leads P count text.last text.unfinished (all_by-back (IsSpellable P.names) rows text.last text.spellable) in
      let all = lead_append P start (record { next = count; stack = [] }) back.0 (map (line_of P.names) rows) (map (line_of P.names) text.last) front back.1 in
      let are : map (line_of P.names) rows ++ map (line_of P.names) text.last ≡ lines = sym (map-append (line_of P.names) rows text.last) ∙ sym text.are in
      record { state = back.0; leads = subst (λ (ls : List (List ℕ)). Lead P start ls back.0) are all }

  pub partial_is_begun : (P : Program) (lines : List (List ℕ)) → IsPartial P lines ↔ BeginDerivation P lines
  partial_is_begun P lines = (λ is. begun P lines (go_on P start is.state lines is.leads), partial P lines)
