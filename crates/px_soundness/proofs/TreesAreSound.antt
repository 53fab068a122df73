-- Trees are sound: under what is assumed, what a tree derives in a program is valid in its extension.
use Rattle.std.proofs.Common.{ℕ, List, [], ◌∷◌}
use Rattle.std.specs.Prelude.{All}
use Rattle.std.proofs.lemmas.List.Elements.{All-nil, All-cons, All-head, All-tail}
use Rattle.px_terms.specs.declared.types.Ty.{Ty}
use Rattle.px_terms.specs.declared.types.Fun.{Fun}
use Rattle.px_terms.specs.declared.clause.Clause.{Clause}
use Rattle.px_terms.specs.declared.program.Program.{Program}
use Rattle.px_terms.specs.declared.sequent.Sequent.{Sequent}
use Rattle.px_terms.specs.Extending.{IsWellFounded, IsExtension}
use Rattle.px_terms.specs.Obligations.{IsObligation}
use Rattle.px_terms.specs.Derivations.{Node, Nodes, node, no_node, more_nodes, Derives, by_row, DeriveAll, all_derived, derived}
use Rattle.px_soundness.specs.Validity.{IsValidAt, IsSequentOf}
use Rattle.px_soundness.specs.Argument.{RowsAreKept, RowsAreSound, RowsKeepTyping, Assumed}

module _ (keep : RowsKeepTyping) (kept : RowsAreKept) (sound : RowsAreSound) (P Q : Program) (founded : IsWellFounded P) (extends : IsExtension Q P) (n : ℕ) (own : Clause) (obligation : IsObligation P n own) (on : List ℕ) (types : List Ty) (funs : List Fun) (size : ℕ) (assumed : Assumed Q n own on types funs size) where
  mutual
    -- what a tree derives is valid
    pub tree_is_sound : (s : Sequent) (root : Node) → IsSequentOf P own on s → IsSequentOf Q own on s → Derives P n s root → IsValidAt Q types funs s size
    tree_is_sound s (node r nodes) here there (by_row {children = children} opens all) =
        let opens_there = kept P Q founded extends n s r children here.typed opens in
        let children_here = keep P founded n own obligation on s r children here opens in
        let children_there = keep Q assumed.founded n own assumed.obligation on s r children there opens_there in
        sound Q n own on types funs size assumed s r children there opens_there (trees_are_sound children nodes children_here children_there all)

    trees_are_sound : (ss : List Sequent) (nodes : Nodes) → All (IsSequentOf P own on) ss → All (IsSequentOf Q own on) ss → DeriveAll P n ss nodes → All (λ (s : Sequent). IsValidAt Q types funs s size) ss
    trees_are_sound [] no_node here there all_derived = All-nil (λ (s : Sequent). IsValidAt Q types funs s size)
    trees_are_sound [] (more_nodes first others) here there all = elim all [ ]
    trees_are_sound (s ∷ ss) no_node here there all = elim all [ ]
    trees_are_sound (s ∷ ss) (more_nodes first others) here there (derived one all) =
        All-cons (λ (t : Sequent). IsValidAt Q types funs t size) s ss
        (tree_is_sound s first (All-head (IsSequentOf P own on) s ss here) (All-head (IsSequentOf Q own on) s ss there) one)
        (trees_are_sound ss others (All-tail (IsSequentOf P own on) s ss here) (All-tail (IsSequentOf Q own on) s ss there) all)
