-- A text is at most one list of rows.
use Rattle.std.proofs.Common.{◌≡◌, ℕ, Bool, true, false, List, [], ◌∷◌, ◌++◌, Some, refl, sym, ap, ◌∙◌, append_assoc, ◌==◌}
use Rattle.std.specs.List.{AllByRecursion}
use Rattle.std.proofs.lemmas.Bool.Decides.{Decides-eqb}
use Rattle.px_base.specs.declared.names.Names.{Names}
use Rattle.px_terms.specs.declared.row.Row.{Row}
use Rattle.px_derive.specs.Spelling.{line_of, lines_of}
use Rattle.px_derive.specs.Spellable.{IsSpellable}
use Rattle.px_derive.specs.Reading.{line_row}
use Rattle.px_derive.proofs.TypesRead.{HasNames}
use Rattle.px_derive.proofs.RowsRead.{line_complete}
use Rattle.px_derive.proofs.NoFeeds.{NoFeed, row_free}

same_row : (r s : Row) → Some r ≡ Some s → r ≡ s
same_row r s e = cc

pub one_row : (names : Names) → HasNames names → (r s : Row) → IsSpellable names r → IsSpellable names s → line_of names r ≡ line_of names s → r ≡ s
one_row names has r s one other e = same_row r s (sym (line_complete names has r one) ∙ ap (line_row names) e ∙ line_complete names has s other)

-- What stands before the first line feed, and behind it.
record Cut (a b x y : List ℕ) : Type 0 where
  line : a ≡ b
  rest : x ≡ y

feed_not : (c : ℕ) → (c == 10) ≡ false → c ≡ 10 → ⊥
feed_not c free is = let q : true ≡ false = sym ((Decides-eqb c 10).1 is) ∙ free in cc

cut : (a b x y : List ℕ) → NoFeed a → NoFeed b → a ++ 10 ∷ x ≡ b ++ 10 ∷ y → Cut a b x y
cut [] [] x y one other e = record { line = refl; rest = cc }
cut [] (c ∷ b) x y one other e = let q : c ≡ 10 = cc in absurd (feed_not c other.0 q)
cut (c ∷ a) [] x y one other e = let q : c ≡ 10 = cc in absurd (feed_not c one.0 q)
cut (c ∷ a) (d ∷ b) x y one other e =
    let head : c ≡ d = cc in
    let tail : a ++ 10 ∷ x ≡ b ++ 10 ∷ y = cc in
    let deeper : Cut a b x y = cut a b x y one.1 other.1 tail in
    let line : a ≡ b = deeper.line in
    record { line = cc; rest = deeper.rest }

no_lines : (line rest : List ℕ) → [] ≡ line ++ 10 ∷ rest → ⊥
no_lines [] rest e = cc
no_lines (c ∷ line) rest e = cc

pub one_list : (names : Names) → HasNames names → (rs ss : List Row) → AllByRecursion (IsSpellable names) rs → AllByRecursion (IsSpellable names) ss → lines_of names rs ≡ lines_of names ss → rs ≡ ss
one_list names has [] [] one other e = refl
one_list names has [] (s ∷ ss) one other e = absurd (no_lines (line_of names s) (lines_of names ss) (e ∙ append_assoc (line_of names s) (10 ∷ []) (lines_of names ss)))
one_list names has (r ∷ rs) [] one other e = absurd (no_lines (line_of names r) (lines_of names rs) (sym e ∙ append_assoc (line_of names r) (10 ∷ []) (lines_of names rs)))
one_list names has (r ∷ rs) (s ∷ ss) one other e =
    let c : Cut (line_of names r) (line_of names s) (lines_of names rs) (lines_of names ss) =
    cut (line_of names r) (line_of names s) (lines_of names rs) (lines_of names ss) (row_free names has r one.0) (row_free names has s other.0)
    (sym (append_assoc (line_of names r) (10 ∷ []) (lines_of names rs)) ∙ e ∙ append_assoc (line_of names s) (10 ∷ []) (lines_of names ss)) in
    let first : r ≡ s = one_row names has r s one.0 other.0 c.line in
    let others : rs ≡ ss = one_list names has rs ss one.1 other.1 c.rest in
    cc
