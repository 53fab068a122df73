-- What the devices show of a call.
use Rattle.std.specs.Prelude.{◌≡◌, ◌≤◌, ℕ, List, Bool, Option, Result, Ok, Err}
use Rattle.std.specs.Io.KnownBytes.{Appends}
use Rattle.px_world.specs.declared.faults.WriteFault.{WriteFault}
use Rattle.px_world.specs.declared.files.Files as files
use Rattle.px_world.specs.declared.sink.Sink as sinks
use Rattle.px_world.specs.Faults.{Rose}
use Rattle.px_world.specs.Known.{AppendsPrefix}

-- What files show: the bytes by name before the call, whether a text is open after it and what is left of that text,
-- and the count of faults before and after. Bytes are given where the files tell them.
pub record FilesSeen : Type 0 where
  pub bytes : List ℕ → Option (List ℕ)
  pub opened : Bool
  pub left : Option (List ℕ)
  pub before : ℕ
  pub after : ℕ

-- what these files show of a call, by how they are before and after it
abbrev pub files_seen : {F : Type 0} → files.Ghosts F → F → F → FilesSeen
files_seen F old new = record { bytes = F.bytes_of old; opened = F.is_open new; left = F.rest new; before = F.faults old; after = F.faults new }

-- the files tell the same bytes and may open the same names, and their count of faults did not fall
pub record KeepsFiles {F : Type 0} (device : files.Ghosts F) (old new : F) : Type 0 where
  pub texts : device.bytes_of new ≡ device.bytes_of old
  pub names : device.may_open new ≡ device.may_open old
  pub later : device.faults old ≤ device.faults new

-- What a sink shows: all that was written before and after the call, where it tells that, and the count of faults
-- before and after.
pub record SinkSeen : Type 0 where
  pub old : Option (List ℕ)
  pub new : Option (List ℕ)
  pub before : ℕ
  pub after : ℕ

-- what this sink shows of a call, by how it is before and after it
abbrev pub sink_seen : {S : Type 0} → sinks.Ghosts S → S → S → SinkSeen
sink_seen S old new = record { old = S.written old; new = S.written new; before = S.faults old; after = S.faults new }

-- these bytes were written whole; or they weren't: then a front of them was, and the count of faults rose
abbrev pub Writes : List ℕ → SinkSeen → Result (Unit {0}) WriteFault → Type 0
Writes bytes sink (Ok _) = Appends sink.old sink.new bytes
Writes bytes sink (Err _) = AppendsPrefix sink.old sink.new bytes × Rose sink.before sink.after
