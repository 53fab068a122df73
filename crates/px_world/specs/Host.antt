-- What the host's files and streams show: whether a file is open, which stream it is, and their faults.
use Rattle.std.specs.Prelude.{ℕ, Bool, is_some}
use Rattle.px_world.specs.declared.host_files.HostFiles.{HostFiles}
use Rattle.px_world.specs.declared.host_out.HostOut.{HostOut}
use Rattle.px_world.specs.declared.host_out.Stream.{Stream}

-- whether a file of the host is open
abbrev pub host_is_open : HostFiles → Bool
host_is_open files = is_some files.file

-- how many calls on the host's files have failed
abbrev pub host_file_faults : HostFiles → ℕ
host_file_faults files = files.faults

-- which of the host's streams is written to
abbrev pub host_stream : HostOut → Stream
host_stream out = out.stream

-- how many writes to the host's stream have failed
abbrev pub host_out_faults : HostOut → ℕ
host_out_faults out = out.faults
