-- What an answer of this crate's calls says of the outcome that it stands for.
use Rattle.std.specs.Prelude.{◌≡◌, Result, Ok, Err}
use Rattle.px_types.specs.declared.ends.TypeEnd.{TypeEnd}
use Rattle.px_types.specs.declared.ends.TypeEnd.TheVariants.{Fault, NoMemory}
use Rattle.px_types.specs.Faults.{Broken, breaks}

-- the outcome is this fault, or memory ran out
abbrev pub EndsAs : {T : Type 0} → Result T Broken → TypeEnd → Type 0
EndsAs out (Fault kind at) = out ≡ Err (breaks kind at)
EndsAs out NoMemory = Unit {0}

-- the answer is the outcome, or memory ran out
abbrev pub Answers : {T : Type 0} → Result T Broken → Result T TypeEnd → Type 0
Answers out (Ok x) = out ≡ Ok x
Answers out (Err end) = EndsAs out end
