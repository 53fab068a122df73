-- What a sink in memory shows: its bytes, and its writes and faults.
use Rattle.std.specs.Prelude.{◌≡◌, ℕ, List, []}
use Rattle.px_world.specs.declared.memory_sink.MemorySink.{MemorySink}

-- the bytes that were written
abbrev pub collected : MemorySink → List ℕ
collected sink = sink.bytes.items

-- the numbers of the writes that are to fail
abbrev pub failing_writes : MemorySink → List ℕ
failing_writes sink = sink.fails.items

-- how many writes were made, which is the number of the next one
abbrev pub write_number : MemorySink → ℕ
write_number sink = sink.calls

-- how many writes have failed
abbrev pub write_faults : MemorySink → ℕ
write_faults sink = sink.faults

-- how many bytes a write takes at most
abbrev pub largest_write : MemorySink → ℕ
largest_write sink = sink.piece

-- the writes that are to fail and the largest write are as they were
pub record KeepsWriteSettings (old new : MemorySink) : Type 0 where
  pub fails : failing_writes new ≡ failing_writes old
  pub piece : largest_write new ≡ largest_write old

-- a sink with no bytes, no writes and no faults, with these writes to fail and this largest write
pub record StartsWithNoBytes (fails : List ℕ) (piece : ℕ) (sink : MemorySink) : Type 0 where
  pub none : collected sink ≡ []
  pub calls : write_number sink ≡ 0
  pub faults : write_faults sink ≡ 0
  pub listed : failing_writes sink ≡ fails
  pub pieces : largest_write sink ≡ piece
