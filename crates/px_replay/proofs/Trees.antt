-- Lines that lead to the end are those of trees, each after its header, and the other way about.
use Rattle.std.proofs.Common.{◌≡◌, ◌+◌, ◌-◌, ℕ, zero, suc, List, [], ◌∷◌, ◌++◌, length, map, slice_get, Some, None, refl, sym, ap, subst, ◌∙◌, arith, add-zero}
use Rattle.std.specs.List.{AllByRecursion}
use Rattle.std.proofs.lemmas.List.{map-append}
use Rattle.px_terms.specs.declared.program.Program.{Program}
use Rattle.px_terms.specs.declared.sequent.Sequent.{Sequent}
use Rattle.px_terms.specs.declared.row.Row.{Row}
use Rattle.px_terms.specs.declared.row.Row.TheVariants as row
use Rattle.px_terms.specs.declared.row.Tree.{Tree}
use Rattle.px_terms.specs.Rows.{Opens}
use Rattle.px_terms.specs.Derivations as derivations
use Rattle.px_terms.specs.Derivations.{DerivesObligation, begins_with}
use Rattle.px_derive.specs.Spelling.{line_of}
use Rattle.px_derive.specs.Spellable.{IsSpellable}
use Rattle.px_soundness.specs.Laws.{EachStackIsTree}
use Rattle.px_replay.specs.States.{State, start, Begins, OpensTop, MovesFrom, Lead, stays, goes_on, at_end, rows_from, IsDerivationText, EndIsDerivation}
use Rattle.px_replay.proofs.Leading.{lead_append}

-- The lines are those of trees of the obligations from this number on, to the last.
record Rest (P : Program) (n : ℕ) (lines : List (List ℕ)) : Type 0 where
  trees : List Tree
  count : n + length trees ≡ length P.declared
  each : (i : ℕ) (tree : Tree) → slice_get trees i ≡ Some tree → DerivesObligation P (n + i) tree
  spellable : AllByRecursion (IsSpellable P.names) (rows_from n trees)
  are : lines ≡ map (line_of P.names) (rows_from n trees)

-- The lines are those of rows that close these sequents, and then of the trees of the obligations from this number on.
record Closes (P : Program) (n : ℕ) (stack : List Sequent) (lines : List (List ℕ)) : Type 0 where
  rows : List Row
  leads : derivations.Leads P (n - 1) stack rows []
  spellable : AllByRecursion (IsSpellable P.names) rows
  later : List (List ℕ)
  rest : Rest P n later
  are : lines ≡ map (line_of P.names) rows ++ later

pub all_by-append : {X : Type 0} (Q : X → Type 0) (xs ys : List X) → AllByRecursion Q xs → AllByRecursion Q ys → AllByRecursion Q (xs ++ ys)
all_by-append Q [] ys a b = b
all_by-append Q (x ∷ xs) ys a b = (a.0, all_by-append Q xs ys a.1 b)

pub all_by-front : {X : Type 0} (Q : X → Type 0) (xs ys : List X) → AllByRecursion Q (xs ++ ys) → AllByRecursion Q xs
all_by-front Q [] ys a = tt
all_by-front Q (x ∷ xs) ys a = (a.0, all_by-front Q xs ys a.1)

pub all_by-back : {X : Type 0} (Q : X → Type 0) (xs ys : List X) → AllByRecursion Q (xs ++ ys) → AllByRecursion Q ys
all_by-back Q [] ys a = a
all_by-back Q (x ∷ xs) ys a = all_by-back Q xs ys a.1

-- the number before the next one
pub before : (n : ℕ) → (n + 1) - 1 ≡ n
before n = omega arith

no_more : (P : Program) (n : ℕ) → n ≡ length P.declared → Rest P n []
no_more P n all = record {
  trees = [];
  count = add-zero n ∙ all;
  each = λ i tree found. (let e : None ≡ Some tree = found in cc);
  spellable = tt;
  are = refl;
}

nothing_open : (P : Program) (n : ℕ) (lines : List (List ℕ)) → Rest P n lines → Closes P n [] lines
nothing_open P n lines rest = record { rows = []; leads = derivations.stays; spellable = tt; later = lines; rest = rest; are = refl }

pub each_cons : (P : Program) (n : ℕ) (tree : Tree) (trees : List Tree) → DerivesObligation P n tree → ((i : ℕ) (t : Tree) → slice_get trees i ≡ Some t → DerivesObligation P ((n + 1) + i) t) →
    (i : ℕ) (t : Tree) → slice_get (tree ∷ trees) i ≡ Some t → DerivesObligation P (n + i) t
each_cons P n tree trees first each zero t found = let e : Some tree ≡ Some t = found in let one : tree ≡ t = cc in subst (DerivesObligation P (n + 0)) one (subst (λ (k : ℕ). DerivesObligation P k tree) (sym (add-zero n)) first)
each_cons P n tree trees first each (suc i) t found = let e : (n + 1) + i ≡ n + suc i = omega arith in subst (λ (k : ℕ). DerivesObligation P k t) e (each i t found)

module _ (stack_is_tree : EachStackIsTree) where
  -- a header before what closes the first sequent
  with_header : (P : Program) (n : ℕ) (r : Row) (now : State) (lines : List (List ℕ)) → IsSpellable P.names r → Begins P n r now → Closes P now.next now.stack lines → Rest P n (line_of P.names r ∷ lines)
  with_header P n r now lines spellable begins closes =
      let here : Closes P (n + 1) (begins_with begins.own begins.on ∷ []) lines = subst (λ (s : State). Closes P s.next s.stack lines) begins.is closes in
      let leads = subst (λ (k : ℕ). derivations.Leads P k (begins_with begins.own begins.on ∷ []) here.rows []) (before n) here.leads in
      let found = (stack_is_tree P n (begins_with begins.own begins.on) here.rows).tree_of leads in
      let tree : Tree = record { on = begins.on; rows = here.rows } in
      let derives : DerivesObligation P n tree = record { clause = begins.own; obligation = begins.obligation; on = begins.variables; root = found.0; rows = found.2; derives = found.1 } in
      let count : n + suc (length here.rest.trees) ≡ (n + 1) + length here.rest.trees = omega arith in
      record {
        trees = tree ∷ here.rest.trees;
        count = count ∙ here.rest.count;
        each = each_cons P n tree here.rest.trees derives here.rest.each;
        spellable = (subst (IsSpellable P.names) begins.header spellable, all_by-append (IsSpellable P.names) here.rows (rows_from (n + 1) here.rest.trees) here.spellable here.rest.spellable);
        are = ap (λ (q : Row). line_of P.names q ∷ lines) begins.header ∙ ap (λ (ls : List (List ℕ)). line_of P.names (row.Header n begins.on) ∷ ls) (here.are ∙ (ap (λ (ls : List (List ℕ)). map (line_of P.names) here.rows ++ ls) here.rest.are ∙ sym (map-append (line_of P.names) here.rows (rows_from (n + 1) here.rest.trees))));
      }

  -- a row before what closes its children
  with_row : (P : Program) (next : ℕ) (s : Sequent) (below : List Sequent) (r : Row) (now : State) (lines : List (List ℕ)) → IsSpellable P.names r → OpensTop P next s below r now → Closes P now.next now.stack lines → Closes P next (s ∷ below) (line_of P.names r ∷ lines)
  with_row P next s below r now lines spellable opened closes =
      let here : Closes P next (opened.children ++ below) lines = subst (λ (t : State). Closes P t.next t.stack lines) opened.is closes in
      record {
        rows = r ∷ here.rows;
        leads = derivations.goes_on opened.opens here.leads;
        spellable = (spellable, here.spellable);
        later = here.later;
        rest = here.rest;
        are = ap (λ (ls : List (List ℕ)). line_of P.names r ∷ ls) here.are;
      }

  one_more : (P : Program) (next : ℕ) (stack : List Sequent) (r : Row) (now : State) (lines : List (List ℕ)) → IsSpellable P.names r → MovesFrom P next stack r now → Closes P now.next now.stack lines → Closes P next stack (line_of P.names r ∷ lines)
  one_more P next [] r now lines spellable begins closes = nothing_open P next (line_of P.names r ∷ lines) (with_header P next r now lines spellable begins closes)
  one_more P next (s ∷ below) r now lines spellable opened closes = with_row P next s below r now lines spellable opened closes

  closes : (P : Program) (old new : State) (lines : List (List ℕ)) → Lead P old lines new → new ≡ at_end P → Closes P old.next old.stack lines
  closes P old new [] stays is =
      subst (λ (s : State). Closes P s.next s.stack []) (sym is) (nothing_open P (length P.declared) [] (no_more P (length P.declared) refl))
  closes P old new (l ∷ lines) (goes_on {now = now} first rest) is =
      subst (λ (line : List ℕ). Closes P old.next old.stack (line ∷ lines)) (sym first.spelled) (one_more P old.next old.stack first.row now lines first.spellable first.moves (closes P now new lines rest is))

  pub no_rows : (P : Program) (n : ℕ) (rows : List Row) → derivations.Leads P n [] rows [] → rows ≡ []
  no_rows P n [] leads = refl
  no_rows P n (r ∷ rows) leads = elim leads [ ]

  to_derivation : (P : Program) (lines : List (List ℕ)) → Lead P start lines (at_end P) → IsDerivationText P lines
  to_derivation P lines leads =
      let all : Closes P 0 [] lines = closes P start (at_end P) lines leads refl in
      let none : all.rows ≡ [] = no_rows P (0 - 1) all.rows all.leads in
      let zero_first : (k : ℕ) → 0 + k ≡ k = λ k. omega arith in
      record {
        trees = all.rest.trees;
        derivation = record {
          count = sym (zero_first (length all.rest.trees)) ∙ all.rest.count;
          each = λ i tree found. subst (λ (k : ℕ). DerivesObligation P k tree) (zero_first i) (all.rest.each i tree found);
        };
        spellable = all.rest.spellable;
        are = all.are ∙ (ap (λ (rows : List Row). map (line_of P.names) rows ++ all.later) none ∙ all.rest.are);
      }

  -- rows that lead from a stack to another are lines that do
  pub row_lines : (P : Program) (n : ℕ) (stack after : List Sequent) (rows : List Row) → derivations.Leads P n stack rows after → AllByRecursion (IsSpellable P.names) rows →
      Lead P (record { next = n + 1; stack = stack }) (map (line_of P.names) rows) (record { next = n + 1; stack = after })
  row_lines P n stack after [] derivations.stays spellable = stays
  row_lines P n [] after (r ∷ rows) leads spellable = elim leads [ ]
  row_lines P n (s ∷ below) after (r ∷ rows) (derivations.goes_on {children = children} opens rest) spellable =
      goes_on (record {
        row = r;
        spellable = spellable.0;
        spelled = refl;
        moves = record { children = children; opens = subst (λ (k : ℕ). Opens P k s r children) (sym (before n)) opens; is = refl };
      }) (row_lines P n (children ++ below) after rows rest spellable.1)

  -- the lines of trees lead from their first obligation past the last
  pub tree_lines : (P : Program) (n : ℕ) (trees : List Tree) → ((i : ℕ) (tree : Tree) → slice_get trees i ≡ Some tree → DerivesObligation P (n + i) tree) → AllByRecursion (IsSpellable P.names) (rows_from n trees) →
      Lead P (record { next = n; stack = [] }) (map (line_of P.names) (rows_from n trees)) (record { next = n + length trees; stack = [] })
  tree_lines P n [] each spellable = subst (λ (k : ℕ). Lead P (record { next = n; stack = [] }) [] (record { next = k; stack = [] })) (sym (add-zero n)) stays
  tree_lines P n (tree ∷ trees) each spellable =
      let here : DerivesObligation P n tree = subst (λ (k : ℕ). DerivesObligation P k tree) (add-zero n) (each 0 tree refl) in
      let first = begins_with here.clause tree.on in
      let leads = (stack_is_tree P n first tree.rows).stack_of here.root here.derives here.rows in
      let rows = row_lines P n (first ∷ []) [] tree.rows leads (all_by-front (IsSpellable P.names) tree.rows (rows_from (n + 1) trees) spellable.1) in
      let others = tree_lines P (n + 1) trees (λ i t found. (let e : n + suc i ≡ (n + 1) + i = omega arith in subst (λ (k : ℕ). DerivesObligation P k t) e (each (suc i) t found))) (all_by-back (IsSpellable P.names) tree.rows (rows_from (n + 1) trees) spellable.1) in
      let count : (n + 1) + length trees ≡ n + suc (length trees) = omega arith in
      let all = lead_append P _ _ _ (map (line_of P.names) tree.rows) (map (line_of P.names) (rows_from (n + 1) trees)) rows others in
      let joined = subst (λ (ls : List (List ℕ)). Lead P (record { next = n + 1; stack = first ∷ [] }) ls (record { next = (n + 1) + length trees; stack = [] })) (sym (map-append (line_of P.names) tree.rows (rows_from (n + 1) trees))) all in
      subst (λ (k : ℕ). Lead P (record { next = n; stack = [] }) (map (line_of P.names) (rows_from n (tree ∷ trees))) (record { next = k; stack = [] })) count
      (goes_on (record {
        row = row.Header n tree.on;
        spellable = spellable.0;
        spelled = refl;
        moves = record { own = here.clause; on = tree.on; header = refl; obligation = here.obligation; variables = here.on; is = refl };
      }) joined)

  from_derivation : (P : Program) (lines : List (List ℕ)) → IsDerivationText P lines → Lead P start lines (at_end P)
  from_derivation P lines text =
      let zero_first : (k : ℕ) → 0 + k ≡ k = λ k. omega arith in
      let all = tree_lines P 0 text.trees (λ i tree found. subst (λ (k : ℕ). DerivesObligation P k tree) (sym (zero_first i)) (text.derivation.each i tree found)) text.spellable in
      subst (λ (ls : List (List ℕ)). Lead P start ls (at_end P)) (sym text.are)
      (subst (λ (k : ℕ). Lead P start (map (line_of P.names) (rows_from 0 text.trees)) (record { next = k; stack = [] })) (zero_first (length text.trees) ∙ text.derivation.count) all)

  pub end_is_derivation : (P : Program) (lines : List (List ℕ)) → EndIsDerivation P lines
  end_is_derivation P lines = record { derivation = to_derivation P lines; end = from_derivation P lines }
