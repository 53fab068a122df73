use Rattle.std.proofs.Common.{◌≡◌, ◌++◌, ℕ, take, codes}
use Rattle.std.specs.List.{flat_map}
use Rattle.std.specs.Fmt.{decimal}
use Rattle.px_drive.proofs.run.push_numbers.Given as goal

abbrev pub invariant-loop-number : goal.invariant-loop-number
invariant-loop-number l = l.line ≡ l.initial.line ++ flat_map (λ (n : ℕ). codes "," ++ decimal n) (take l.number-index l.others)
