-- What the definitions of values' texts say of every text.
use Rattle.std.specs.Prelude.{◌≡◌, ℕ, ◌≤◌, List, length, IsSome, slice_get}
use Rattle.px_base.specs.Lawful.{IsLawful}
use Rattle.px_base.specs.declared.limits.TheConstants.{VALUE_NODES}
use Rattle.px_terms.specs.declared.types.Ty.{Ty}
use Rattle.px_terms.specs.declared.term.Value.{Value}
use Rattle.px_terms.specs.declared.program.Program.{Program}
use Rattle.px_terms.specs.Values.{IsIn}
use Rattle.px_terms.specs.Programs.{constructor_at}
use Rattle.px_machine.specs.Cells.{preorder}
use Rattle.px_machine.specs.ValueText.{value_text}
use Rattle.px_schedule.specs.ValueGrammar.{IsText, constructors_at}

-- no text is two values of one type
abbrev pub OneValue : Type 0
OneValue = (P : Program) (T : Ty) (text : List ℕ) (v w : Value) → IsLawful P.names → IsText P T text v → IsText P T text w → v ≡ w

-- each constructor of the program has a name
abbrev pub HaveNames : Program → Type 0
HaveNames P = (d k : ℕ) → IsSome (constructor_at P d k) → IsSome (slice_get (constructors_at P.names d) k)

-- what is printed of a value with at most VALUE_NODES nodes is a text of it
abbrev pub PrintedIsText : Type 0
PrintedIsText = (P : Program) (T : Ty) (v : Value) → HaveNames P → IsIn P T v → length (preorder v) ≤ VALUE_NODES → IsText P T (value_text P.names v) v
