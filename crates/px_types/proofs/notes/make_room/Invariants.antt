use Rattle.std.proofs.Common.{◌≡◌, ℕ, ◌+◌, ◌-◌, length}
use Rattle.px_base.specs.declared.prop.Prop.{Prop}
use Rattle.px_types.specs.Checkings.{is_noted}
use Rattle.px_types.proofs.notes.make_room.Given as goal

abbrev pub invariant-room : goal.invariant-room
invariant-room l = (n : ℕ) (p : Prop) → is_noted l.notes n p ≡ is_noted l.initial.notes n p

abbrev pub decreases-room : goal.decreases-room
decreases-room l = (l.def + 1) - length l.notes
