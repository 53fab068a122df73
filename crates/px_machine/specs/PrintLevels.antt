-- What is left to print of a value. A level is the number of a constructor's fields behind the present one; the innermost level
-- is the first of the list.
use Rattle.std.specs.Prelude.{◌≡◌, ℕ, ◌+◌, ◌-◌, ◌≤◌, List, [], ◌∷◌, ◌++◌, map, length, take, drop, codes}
use Rattle.std.specs.List.{flat_map}
use Rattle.px_base.specs.declared.names.Names.{Names}
use Rattle.px_terms.specs.declared.term.Value.{Value}
use Rattle.px_machine.specs.declared.cells.Cell.{Cell}
use Rattle.px_machine.specs.Cells.{put_before, fields_of}
use Rattle.px_machine.specs.ValueText.{value_text}

-- what stands behind a value, where these are the texts of the values behind it
abbrev pub after : List ℕ → List (List ℕ) → List ℕ
after [] texts = []
after (more ∷ levels) texts = flat_map (λ (t : List ℕ). codes ", " ++ t) (take more texts) ++ (codes ")" ++ after levels (drop more texts))

-- a value, where one is left, and what stands behind it
abbrev pub due : List ℕ → List (List ℕ) → List ℕ
due levels [] = []
due levels (t ∷ texts) = t ++ after levels texts

-- how many values the levels wait for
abbrev pub awaited : List ℕ → ℕ
awaited [] = 0
awaited (more ∷ levels) = more + awaited levels

-- The text and what is due make up the whole text, and no more values are left than are awaited.
pub record IsDue (whole text levels : List ℕ) (texts : List (List ℕ)) : Type 0 where
  pub printed : text ++ due levels texts ≡ whole
  pub counted : awaited levels ≡ length texts - 1

-- A value stood at the end of the one text, and at the end of the other the next value is due.
pub record Closes (old old_levels new new_levels : List ℕ) : Type 0 where
  pub due_next : (texts : List (List ℕ)) → awaited old_levels ≡ length texts → IsDue (old ++ after old_levels texts) new new_levels texts

-- The node was due, with the values that it takes and those behind them; now these values are due.
pub record Prints (names : Names) (c : Cell) (old old_levels new new_levels : List ℕ) : Type 0 where
  pub due_next : (whole : List ℕ) (values : List Value) → fields_of c ≤ length values → IsDue whole old old_levels (map (value_text names) (put_before c values)) →
      IsDue whole new new_levels (map (value_text names) values)
