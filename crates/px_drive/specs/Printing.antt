-- What the run of a schedule makes of its events.
use Rattle.std.specs.Prelude.{ℕ, ◌+◌, List, [], Option, Result, Ok, Err}
use Rattle.std.specs.Io.KnownBytes.{Appends}
use Rattle.px_base.specs.declared.names.Names.{Names}
use Rattle.px_machine.specs.declared.run_end.RunEnd.{RunEnd}
use Rattle.px_machine.specs.declared.run_end.RunEnd.TheVariants as refusals
use Rattle.px_replicas.specs.declared.shown.Shown.{Shown}
use Rattle.px_replicas.specs.Lines.{show_lines, shown_list}
use Rattle.px_world.specs.Faults.{Rose}
use Rattle.px_world.specs.Known.{AppendsPrefix}
use Rattle.px_drive.specs.declared.outcome.End.{End}
use Rattle.px_drive.specs.declared.outcome.End.TheVariants.{Spent, WriteFault, NoMemory}
use Rattle.px_drive.specs.Seen.{SinkSeen}

-- what was printed up to an end
abbrev pub HasPrinted : (SinkSeen → End → List ℕ → Type 0) → SinkSeen → End → Type 0
HasPrinted Stage out end = (printed : List ℕ) × Stage out end printed × Appends out.old out.new printed

-- the end where the event at this place is refused
abbrev pub end_of_event : ℕ → RunEnd → End
end_of_event place refusals.Spent = Spent (place + 1)
end_of_event place refusals.NoMemory = NoMemory

-- the line of what an event shows, if anything
abbrev pub line_shown : Names → Option Shown → List ℕ
line_shown names answer = show_lines names (shown_list answer)

-- the line was printed whole; or a front of it, and the count of the sink rose; or nothing, for want of memory
abbrev pub PrintsShown : List ℕ → SinkSeen → Result (Unit {0}) End → Type 0
PrintsShown line out (Ok _) = Appends out.old out.new line
PrintsShown line out (Err WriteFault) = AppendsPrefix out.old out.new line × Rose out.before out.after
PrintsShown line out (Err NoMemory) = Appends out.old out.new []
PrintsShown line out (Err _) = ⊥
