-- What an answer says of what is called.
use Rattle.std.specs.Prelude.{◌≡◌, Option, Some, Result, Ok, Err}
use Rattle.px_types.specs.declared.heads.Called.{Called}
use Rattle.px_types.specs.declared.typings.NotTyped.{NotTyped}
use Rattle.px_types.specs.Envs.{called_in}
use Rattle.px_types.specs.Outcome.{Signature}
use Rattle.px_types.specs.TypeOf.{EndsWithout}

-- the answer is what is found of what is called, or memory ran out
abbrev pub FindsCallee : Option Signature → Result Called NotTyped → Type 0
FindsCallee found (Ok own) = found ≡ Some (called_in own)
FindsCallee found (Err end) = EndsWithout found end
