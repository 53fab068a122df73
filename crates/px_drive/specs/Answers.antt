-- What the top call answers, by its words and by what the devices show.
use Rattle.std.specs.Prelude.{◌≡◌, ◌≢◌, ℕ, ◌⊎◌, List, [], Option, None, Some, Ok, Err}
use Rattle.std.specs.Io.KnownBytes.{Appends}
use Rattle.px_world.specs.Known.{AppendsPrefix}
use Rattle.px_world.specs.Faults.{Rose}
use Rattle.px_drive.specs.declared.outcome.CommandLine.{CommandLine}
use Rattle.px_drive.specs.declared.outcome.End.{End}
use Rattle.px_drive.specs.declared.outcome.End.TheVariants.{Done, WriteFault}
use Rattle.px_drive.specs.declared.outcome.Outcome.{Outcome}
use Rattle.px_drive.specs.Lines.{line_of, ReadsLine}
use Rattle.px_drive.specs.Messages.{message_of}
use Rattle.px_drive.specs.Seen.{FilesSeen, SinkSeen}
use Rattle.px_drive.specs.Ends.{Runs}

-- the ends that the table of causes allows, by the line that was kept; without a line nothing is printed
abbrev pub Ends : List (List ℕ) → FilesSeen → SinkSeen → Option CommandLine → End → Type 0
Ends words files out None end = ReadsLine (line_of words) (Err end) × Appends out.old out.new []
Ends words files out (Some line) end = ReadsLine (line_of words) (Ok line) × Runs files out line end

-- The end's line is written as an error, whole, and the end stays. Or it isn't: then the sink's count rose, a front of
-- the line was written, and the end is a fault of writing. Where the work is done there is no line.
abbrev pub Tells : End → SinkSeen → End → Type 0
Tells told err end = ((end ≡ told) × Appends err.old err.new (message_of told))
    ⊎ ((told ≢ Done) × (end ≡ WriteFault) × Rose err.before err.after × AppendsPrefix err.old err.new (message_of told))

-- the outcome is that of an end which the table allows, and which was told as an error
pub record IsAnswer (words : List (List ℕ)) (files : FilesSeen) (out err : SinkSeen) (outcome : Outcome) : Type 0 where
  pub told : End
  pub allowed : Ends words files out outcome.line told
  pub tells : Tells told err outcome.end
