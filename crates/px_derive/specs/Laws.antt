-- What the lines of rows are.
use Rattle.std.specs.Prelude.{◌≡◌, List, Contains}
use Rattle.std.specs.List.{AllByRecursion}
use Rattle.px_base.specs.declared.names.Names.{Names}
use Rattle.px_base.specs.Lawful.{IsLawful}
use Rattle.px_terms.specs.declared.row.Row.{Row}
use Rattle.px_derive.specs.Spelling.{line_of, lines_of}
use Rattle.px_derive.specs.Spellable.{IsSpellable}

-- a line is at most one row's
abbrev pub OneRow : Type 0
OneRow = (names : Names) (r s : Row) → IsLawful names → IsSpellable names r → IsSpellable names s → line_of names r ≡ line_of names s → r ≡ s

-- a row's line is one line
abbrev pub NoLineFeed : Type 0
NoLineFeed = (names : Names) (r : Row) → IsLawful names → IsSpellable names r → ¬ Contains (line_of names r) 10

-- a text is at most one list of rows
abbrev pub OneList : Type 0
OneList = (names : Names) (rs ss : List Row) → IsLawful names → AllByRecursion (IsSpellable names) rs → AllByRecursion (IsSpellable names) ss → lines_of names rs ≡ lines_of names ss → rs ≡ ss
