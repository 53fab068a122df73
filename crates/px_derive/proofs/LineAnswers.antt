-- What is read of a line is its row, and a line that is not read is no row's.
use Rattle.std.proofs.Common.{◌≡◌, ℕ, List, Option, Some, None, Result, Ok, Err, refl, sym, ap, ◌∙◌}
use Rattle.std.specs.Prelude.{IfOk, MatchResult}
use Rattle.px_base.specs.declared.names.Names.{Names}
use Rattle.px_base.specs.Lawful.{IsLawful}
use Rattle.px_terms.specs.declared.row.Row.{Row}
use Rattle.px_derive.specs.declared.line_end.LineEnd.{LineEnd}
use Rattle.px_derive.specs.declared.line_end.LineEnd.TheVariants.{Form, NoMemory}
use Rattle.px_derive.specs.Spelling.{line_of}
use Rattle.px_derive.specs.Spellable.{IsSpellable, IsNoLine}
use Rattle.px_derive.specs.Reading.{line_row}
use Rattle.px_derive.specs.Gives.{Answers}
use Rattle.px_derive.proofs.TypesRead.{lawful_names}
use Rattle.px_derive.proofs.RowsRead.{line_sound, line_complete}

pub spellable_of : (names : Names) (line : List ℕ) (r : Result Row LineEnd) → Answers r (line_row names line) → IfOk r (λ row. IsSpellable names row)
spellable_of names line (Ok row) e = (line_sound names line row e).spellable
spellable_of names line (Err end) e = tt

pub spelled_of : (names : Names) (line : List ℕ) (r : Result Row LineEnd) → Answers r (line_row names line) → IfOk r (λ row. line ≡ line_of names row)
spelled_of names line (Ok row) e = (line_sound names line row e).spelled
spelled_of names line (Err end) e = tt

found_row : (names : Names) (line : List ℕ) → IsLawful names → (row : Row) → IsSpellable names row → line ≡ line_of names row → line_row names line ≡ Some row
found_row names line lawful row is e = ap (line_row names) e ∙ line_complete names (lawful_names names lawful) row is

not_both : (found : Option Row) (row : Row) → found ≡ None → found ≡ Some row → ⊥
not_both found row e f = cc

pub read_of : (names : Names) (line : List ℕ) (r : Result Row LineEnd) → IsLawful names → Answers r (line_row names line) → (row : Row) → IsSpellable names row → line ≡ line_of names row → MatchResult r (λ read. read ≡ row) (λ end. end ≡ NoMemory)
read_of names line (Ok read) lawful e row is spelled = let q : Some read ≡ Some row = sym e ∙ found_row names line lawful row is spelled in cc
read_of names line (Err NoMemory) lawful e row is spelled = refl
read_of names line (Err Form) lawful e row is spelled = absurd (not_both (line_row names line) row e (found_row names line lawful row is spelled))

pub form_of : (names : Names) (line : List ℕ) (r : Result Row LineEnd) → IsLawful names → Answers r (line_row names line) → r ≡ Err Form → IsNoLine names line
form_of names line (Ok read) lawful e form row is spelled = absurd cc
form_of names line (Err NoMemory) lawful e form row is spelled = let q : NoMemory ≡ Form = cc in absurd cc
form_of names line (Err Form) lawful e form row is spelled = absurd (not_both (line_row names line) row e (found_row names line lawful row is spelled))
