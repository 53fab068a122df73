-- What files in memory show: the bytes by name, what is left of the open text, and their calls and faults.
use Rattle.std.specs.Prelude.{◌≡◌, ℕ, List, drop, Option, None}
use Rattle.std.specs.Option.{option_map}
use Rattle.px_world.specs.Texts.{bytes_in, bytes_at}
use Rattle.px_world.specs.declared.memory_files.MemoryFiles.{MemoryFiles}

-- the bytes that were added last under a name
abbrev pub bytes_by_name : MemoryFiles → List ℕ → Option (List ℕ)
bytes_by_name files = bytes_in files.texts.items

-- what is still to be read of the open text, where one is open
abbrev pub left : MemoryFiles → Option (List ℕ)
left files = option_map (λ place. drop place.at (bytes_at files.texts.items place.text)) files.opened

-- the numbers of the calls that are to fail
abbrev pub failing_calls : MemoryFiles → List ℕ
failing_calls files = files.fails.items

-- how many calls were made, which is the number of the next one
abbrev pub call_number : MemoryFiles → ℕ
call_number files = files.calls

-- how many calls have failed
abbrev pub fault_count : MemoryFiles → ℕ
fault_count files = files.faults

-- how many bytes a read gives at most
abbrev pub largest_read : MemoryFiles → ℕ
largest_read files = files.piece

-- the calls that are to fail and the largest read are as they were
pub record KeepsSettings (old new : MemoryFiles) : Type 0 where
  pub fails : failing_calls new ≡ failing_calls old
  pub piece : largest_read new ≡ largest_read old

-- no call was made and none failed, and the settings are as they were
pub record KeepsCalls (old new : MemoryFiles) : Type 0 where
  pub calls : call_number new ≡ call_number old
  pub faults : fault_count new ≡ fault_count old
  pub settings : KeepsSettings old new

-- files with no name, no open text, no calls and no faults, with these calls to fail and this largest read
pub record StartsWithNone (fails : List ℕ) (piece : ℕ) (files : MemoryFiles) : Type 0 where
  pub names : (name : List ℕ) → bytes_by_name files name ≡ None
  pub closed : left files ≡ None
  pub calls : call_number files ≡ 0
  pub faults : fault_count files ≡ 0
  pub listed : failing_calls files ≡ fails
  pub pieces : largest_read files ≡ piece
