use Rattle.std.proofs.Common.{◌≡◌, ◌≤◌, ◌+◌, ◌-◌, length}
use Rattle.px_world.proofs.Loops.{ReadFront}
use Rattle.px_world.proofs.reading.read_all.Given as goal

-- what came is what was collected, within the limit, and the files tell what they told
abbrev pub invariant-loop-count : goal.invariant-loop-count
invariant-loop-count g l =
    ReadFront (g.F.Files.bytes_of l.fn.files l.fn.name) (g.F.Files.rest l.files) (g.F.Files.is_open l.files) l.limit l.bytes
    × (g.F.Files.bytes_of l.files ≡ g.F.Files.bytes_of l.fn.files)
    × (g.F.Files.may_open l.files ≡ g.F.Files.may_open l.fn.files)
    × (g.F.Files.faults l.fn.files ≤ g.F.Files.faults l.files)

abbrev pub decreases-loop-count : goal.decreases-loop-count
decreases-loop-count g l = l.limit + 1 - length l.bytes
