-- The stack of open sequents stands for trees that derive them.
use Rattle.std.proofs.Common.{◌≡◌, ℕ, List, [], ◌∷◌, ◌++◌, refl, sym, ap, subst, ◌∙◌, append_assoc, append-nil}
use Rattle.px_terms.specs.declared.program.Program.{Program}
use Rattle.px_terms.specs.declared.sequent.Sequent.{Sequent}
use Rattle.px_terms.specs.declared.row.Row.{Row}
use Rattle.px_terms.specs.Rows.{Opens}
use Rattle.px_terms.specs.Derivations.{Node, node, Nodes, no_node, more_nodes, Derives, by_row, DeriveAll, all_derived, derived, rows_of, rows_of_all, Leads, stays, goes_on, StackIsTree}
use Rattle.px_soundness.specs.Laws.{StackIsTrees}

module _ (P : Program) (n : ℕ) where
  -- Trees that derive a front of the sequents, and trees that derive the others.
  record AreSplit (front back : List Sequent) (nodes : Nodes) : Type 0 where
    first : Nodes
    others : Nodes
    derive_first : DeriveAll P n front first
    derive_others : DeriveAll P n back others
    rows : rows_of_all nodes ≡ rows_of_all first ++ rows_of_all others

  split : (front back : List Sequent) (nodes : Nodes) → DeriveAll P n (front ++ back) nodes → AreSplit front back nodes
  split [] back nodes all = record { first = no_node; others = nodes; derive_first = all_derived; derive_others = all; rows = refl }
  split (s ∷ front) back no_node all = elim all [ ]
  split (s ∷ front) back (more_nodes one more) (derived d all) =
      let rest = split front back more all in
      record {
        first = more_nodes one rest.first;
        others = rest.others;
        derive_first = derived d rest.derive_first;
        derive_others = rest.derive_others;
        rows = ap (λ rows. rows_of one ++ rows) rest.rows ∙ sym (append_assoc (rows_of one) (rows_of_all rest.first) (rows_of_all rest.others));
      }

  -- Trees that derive the sequents, with these rows.
  record HaveTrees (stack : List Sequent) (rows : List Row) : Type 0 where
    nodes : Nodes
    derive : DeriveAll P n stack nodes
    rows_are : rows_of_all nodes ≡ rows

  one_tree : (s : Sequent) (below children : List Sequent) (r : Row) (rows : List Row) → Opens P n s r children → HaveTrees (children ++ below) rows → HaveTrees (s ∷ below) (r ∷ rows)
  one_tree s below children r rows opens trees =
      let parts = split children below trees.nodes trees.derive in
      record {
        nodes = more_nodes (node r parts.first) parts.others;
        derive = derived (by_row opens parts.derive_first) parts.derive_others;
        rows_are = ap (λ rows. r ∷ rows) (sym parts.rows ∙ trees.rows_are);
      }

  trees : (stack : List Sequent) (rows : List Row) (after : List Sequent) → after ≡ [] → Leads P n stack rows after → HaveTrees stack rows
  trees stack [] after e stays = subst (λ open_ones. HaveTrees open_ones []) (sym e) (record { nodes = no_node; derive = all_derived; rows_are = refl })
  trees [] (r ∷ rows) after e leads = elim leads [ ]
  trees (s ∷ below) (r ∷ rows) after e (goes_on {children = children} opens leads) = one_tree s below children r rows opens (trees (children ++ below) rows after e leads)

  mutual
    -- the rows of a tree take its sequent from the stack
    along : (s : Sequent) (root : Node) (below after : List Sequent) (rows : List Row) → Derives P n s root → Leads P n below rows after → Leads P n (s ∷ below) (rows_of root ++ rows) after
    along s (node r nodes) below after rows (by_row {children = children} opens all) leads = goes_on opens (along_all children nodes below after rows all leads)

    along_all : (ss : List Sequent) (nodes : Nodes) (below after : List Sequent) (rows : List Row) → DeriveAll P n ss nodes → Leads P n below rows after → Leads P n (ss ++ below) (rows_of_all nodes ++ rows) after
    along_all [] no_node below after rows all_derived leads = leads
    along_all [] (more_nodes first others) below after rows all leads = elim all [ ]
    along_all (s ∷ ss) no_node below after rows all leads = elim all [ ]
    along_all (s ∷ ss) (more_nodes first others) below after rows (derived d all) leads = subst (λ rows. Leads P n (s ∷ (ss ++ below)) rows after) (sym (append_assoc (rows_of first) (rows_of_all others) rows)) (along s first (ss ++ below) after (rows_of_all others ++ rows) d (along_all ss others below after rows all leads))

  leads_all : (stack : List Sequent) (nodes : Nodes) (rows : List Row) → DeriveAll P n stack nodes → rows_of_all nodes ≡ rows → Leads P n stack rows []
  leads_all stack nodes rows all e =
      let whole : Leads P n (stack ++ []) (rows_of_all nodes ++ []) [] = along_all stack nodes [] [] [] all stays in
      let same : Leads P n stack (rows_of_all nodes ++ []) [] = subst (λ ss. Leads P n ss (rows_of_all nodes ++ []) []) (append-nil stack) whole in
      subst (λ rs. Leads P n stack rs []) (append-nil (rows_of_all nodes) ∙ e) same

  root_of : (s : Sequent) (nodes : Nodes) → DeriveAll P n (s ∷ []) nodes → (root : Node) × Derives P n s root × (rows_of root ≡ rows_of_all nodes)
  root_of s no_node all = elim all [ ]
  root_of s (more_nodes root no_node) (derived d all) = (root, d, sym (append-nil (rows_of root)))
  root_of s (more_nodes root (more_nodes other others)) (derived d all) = elim all [ ]

  pub stack_is_tree : (s : Sequent) (rows : List Row) → StackIsTree P n s rows
  stack_is_tree s rows = record {
    tree_of = λ leads. let t = trees (s ∷ []) rows [] refl leads in let r = root_of s t.nodes t.derive in (r.0, r.1, r.2 ∙ t.rows_are);
    stack_of = λ root d e. leads_all (s ∷ []) (more_nodes root no_node) rows (derived d all_derived) (append-nil (rows_of root) ∙ e);
  }

  pub stack_is_trees : (stack : List Sequent) (rows : List Row) → StackIsTrees P n stack rows
  stack_is_trees stack rows = record {
    trees_of = λ leads. let t = trees stack rows [] refl leads in (t.nodes, t.derive, t.rows_are);
    stack_of = λ nodes all e. leads_all stack nodes rows all e;
  }
